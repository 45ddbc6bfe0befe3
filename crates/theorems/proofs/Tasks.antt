-- Laws of one task under signals: two signals change places, a signal stops nobody and lets nobody wait.
use Prim.Native.Nat.{ℕ}
use mathlib.Core.Path.{◌≡◌, refl, sym, ap, ◌∙◌}
use mathlib.Core.Bool.{Bool, true, false, ◌&&◌, false≢true}
use borrow.Author.Tests.{eqb-true}
use Rattle.rules.specs.declared.Task.{Task}
use Rattle.rules.specs.Events.{met, arrive}
use Rattle.rules.specs.Tasks.{is_stopped, is_waiting, with_arrived, woken, signalled}
use Rattle.theorems.specs.Tasks.{SignalledArrived, SignalledTwice, SignalledComm, SignalledStopped, SignalledReady, WokenUnmet}
use Rattle.rules.proofs.Bools.{and_left, and_right, both}
use Rattle.rules.proofs.Events.{arrive_comm, arrive_twice, met_more}

arrives : ℕ → Task → Task
arrives e r = with_arrived (arrive e r.arrived) r

-- whether the task was woken before makes no difference to an event that arrives
woken_arrives : (e : ℕ) (r : Task) → woken (arrives e (woken r)) ≡ woken (arrives e r)
unfolding woken arrives
woken_arrives e r = go (is_waiting r && met r.operator r.list r.arrived) refl
  where
    go : (b : Bool) → (is_waiting r && met r.operator r.list r.arrived) ≡ b → woken (arrives e (woken r)) ≡ woken (arrives e r)
    go true h = rw (h, both (and_left _ _ h) (met_more r.operator r.list e r.arrived (and_right _ _ h)))
    go false h = rw h

signalled_is : (e : ℕ) (r : Task) → signalled e r ≡ woken (arrives e r)
unfolding signalled arrives
signalled_is e r = refl

module _ (d e : ℕ) (r : Task) where
  twice : signalled d (signalled e r) ≡ woken (arrives d (arrives e r))
  twice = rw (signalled_is e r, signalled_is d (woken (arrives e r))) (woken_arrives d (arrives e r))

  arrives_comm : arrives d (arrives e r) ≡ arrives e (arrives d r)
  unfolding arrives
  arrives_comm = ap (λ a. with_arrived a r) (arrive_comm d e r.arrived)

arrives_twice : (e : ℕ) (r : Task) → arrives e (arrives e r) ≡ arrives e r
unfolding arrives
arrives_twice e r = ap (λ a. with_arrived a r) (arrive_twice e r.arrived)

pub signalled_comm : SignalledComm
signalled_comm d e r = twice d e r ∙ ap woken (arrives_comm d e r) ∙ sym (twice e d r)

pub signalled_twice : SignalledTwice
signalled_twice e r = twice e e r ∙ ap woken (arrives_twice e r) ∙ sym (signalled_is e r)

pub signalled_stopped : SignalledStopped
unfolding signalled woken
signalled_stopped e r = go (is_waiting r && met r.operator r.list (arrive e r.arrived)) refl
  where
    go : (b : Bool) → (is_waiting r && met r.operator r.list (arrive e r.arrived)) ≡ b → is_stopped (signalled e r) ≡ is_stopped r
    go true h = rw (h, eqb-true r.state 2 (and_left _ _ h))
    go false h = rw h

pub signalled_ready : SignalledReady
unfolding signalled woken
signalled_ready e r h = simp (eqb-true r.state 1 h)

pub signalled_arrived : SignalledArrived
unfolding signalled woken
signalled_arrived e r = go (is_waiting r && met r.operator r.list (arrive e r.arrived)) refl
  where
    go : (b : Bool) → (is_waiting r && met r.operator r.list (arrive e r.arrived)) ≡ b → (signalled e r).arrived ≡ arrive e r.arrived
    go true h = rw h
    go false h = rw h

pub woken_unmet : WokenUnmet
unfolding woken
woken_unmet r = go (is_waiting r) (met r.operator r.list r.arrived) refl refl
  where
    go : (w m : Bool) → is_waiting r ≡ w → met r.operator r.list r.arrived ≡ m → is_waiting (woken r) ≡ true
        → met (woken r).operator (woken r).list (woken r).arrived ≡ false
    go true true h k = rw (h, k) (λ g. absurd (false≢true g))
    go true false h k = rw (h, k) (λ g. k)
    go false m h k = rw h (λ g. absurd (false≢true (sym h ∙ g)))
