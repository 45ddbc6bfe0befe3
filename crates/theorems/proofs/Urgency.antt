-- Urgency: a holder's is at most that of whoever it holds up, a task's is the least priority over its chains, and no chain comes back.
use Prim.Native.Nat.{ℕ, zero, suc, ◌+◌, ◌<◌, ◌≤◌}
use mathlib.Core.Path.{◌≡◌, refl, sym, ap, ◌∙◌}
use mathlib.Core.Bool.{Bool, true, false, false≢true}
use native.Mathlib.Omega.{arith}
use lib.Dec.{ltb}
use lib.ListN.{get_or, length, get_or-eq_default}
use borrow.Author.Tests.{eqb-true, eq-eqb, ltb-true, ltb-false, leb-true}
use Rattle.rules.specs.declared.Table.{Table}
use Rattle.rules.specs.Numbers.{task_room, region_room, priority_end}
use Rattle.rules.specs.Urgency.{is_open}
use Rattle.rules.specs.Circles.{ends, no_circle}
use Rattle.rules.specs.Validity.{shaped}
use Rattle.rules.proofs.Bools.{given, and_right, both}
use Rattle.rules.proofs.Counts.{below_at}
use Rattle.rules.proofs.Entries.{regions_long}
use Rattle.rules.proofs.Chains.{Waits, Chain, chain_short}
use Rattle.rules.proofs.Urgency.{urgencies_at, urgencies_own, urgencies_quiet, urgency_had}
use Rattle.rules.proofs.Circles.{holder_urgent}
use Rattle.rules.proofs.Rules.{Parts, counts_fit}
use Rattle.rules.proofs.ValidRegions.{entry_fits}
use Rattle.rules.proofs.Validity.{parts_of}
use Rattle.theorems.specs.Kept.{after_all}
use Rattle.theorems.specs.Urgency.{urgency_of, WaitsFor, WaitsThrough, HolderUrgent, ChainUrgent, UrgencyLeast, UrgencyAttained, OwnUrgency, QuietUrgency, MostUrgentRuns, NoWaitForOneself}
use Rattle.theorems.proofs.Entering.{small, awaits_room, lined_at}
use Rattle.theorems.proofs.Kept.{valid_after}
use Rattle.theorems.proofs.Running.{right_one_runs}

-- ---- who waits for whom, in a valid table and in the laws of urgency

module _ (t : Table) (p : Parts t) where
  pub small_all : (i : ℕ) → get_or t.priority i 0 ≤ priority_end
  unfolding shaped
  small_all i = go (ltb i task_room) refl
    where
      go : (b : Bool) → ltb i task_room ≡ b → get_or t.priority i 0 ≤ priority_end
      go true e = let s = small t p i (ltb-true i task_room e) in omega arith
      go false e =
          let long : length t.priority ≡ task_room = eqb-true _ _ (given _ p.shape).0 in
          let none : get_or t.priority i 0 ≡ 0 = get_or-eq_default t.priority 0 (rw long (ltb-false i task_room e)) in
          omega arith

  -- a region that is occupied exists
  held_place : (r i : ℕ) → get_or t.holder r 0 ≡ suc i → r < region_room
  held_place r i e = go (ltb r region_room) refl
    where
      go : (b : Bool) → ltb r region_room ≡ b → r < region_room
      go true f = ltb-true r region_room f
      go false f =
          let none : get_or t.holder r 0 ≡ 0 = get_or-eq_default t.holder 0 (rw (regions_long t p.shape).0 (ltb-false r region_room f)) in
          absurd (omega arith)

  -- who holds one is a task
  pub holder_room : (r i : ℕ) → get_or t.holder r 0 ≡ suc i → i < task_room
  holder_room r i e =
      let fits = leb-true (get_or t.holder r 0) t.tasks (entry_fits t p r (held_place r i e)) in
      let few = (counts_fit _ _ _ p.counts).0 in
      omega arith

  pub link : (j i : ℕ) → WaitsFor t j i → Waits t.awaits t.opened t.holder j i
  link j i w =
      let r = w.region in
      record {
        region = r;
        task_known = awaits_room t p j r w.awaited;
        region_known = held_place r i w.held;
        awaited = eq-eqb _ (suc r) w.awaited;
        held = both {a = is_open (get_or t.opened r 0)} (lined_at t p j r w.awaited).is_open (eq-eqb _ (suc i) w.held);
      }

  linked : (j i : ℕ) → Waits t.awaits t.opened t.holder j i → WaitsFor t j i
  linked j i w =
      record {
        region = w.region;
        awaited = eqb-true _ _ w.awaited;
        held = eqb-true _ _ (and_right (is_open (get_or t.opened w.region 0)) _ w.held);
      }

  chain : (n j i : ℕ) → WaitsThrough t n j i → Chain t.awaits t.opened t.holder n j i
  chain zero j i e = e
  chain (suc n) j i c = (c.0, link j c.0 c.1, chain n c.0 i c.2)

  chained : (n j i : ℕ) → Chain t.awaits t.opened t.holder n j i → WaitsThrough t n j i
  chained zero j i e = e
  chained (suc n) j i c = (c.0, linked j c.0 c.1, chained n c.0 i c.2)

  -- ---- a holder's urgency

  link_urgent : (j i : ℕ) → WaitsFor t j i → urgency_of t i ≤ urgency_of t j
  link_urgent j i w =
      holder_urgent t.priority t.awaits t.opened t.holder small_all p.no_circle j i (holder_room w.region i w.held) (link j i w)

  through_urgent : (n j i : ℕ) → WaitsThrough t n j i → urgency_of t i ≤ urgency_of t j
  through_urgent zero j i e = rw e (omega arith)
  through_urgent (suc n) j i c =
      let first = link_urgent j c.0 c.1 in
      let rest = through_urgent n c.0 i c.2 in
      omega arith

  own_least : (j : ℕ) → j < task_room → urgency_of t j ≤ get_or t.priority j 0
  own_least j k = urgencies_own t.priority t.awaits t.opened t.holder j k

  attained : (i : ℕ) → i < task_room → (n : ℕ) × (j : ℕ) × WaitsThrough t n j i × (get_or t.priority j 0 ≡ urgency_of t i)
  attained i k =
      let had = urgency_had t.priority t.awaits t.opened t.holder small_all task_room i in
      (had.links, had.task, chained had.links had.task i had.chain, had.same ∙ sym (urgencies_at t.priority t.awaits t.opened t.holder i k))

  -- who comes through a chain comes over one who waits for its end
  last_link : (n j i : ℕ) → WaitsThrough t (suc n) j i → (k : ℕ) × WaitsFor t k i
  last_link zero j i c = (j, rw (← c.2) c.1)
  last_link (suc n) j i c = last_link n c.0 i c.2

  own_only : (i : ℕ) → i < task_room → ((j : ℕ) → WaitsFor t j i → ⊥) → urgency_of t i ≡ get_or t.priority i 0
  own_only i k none = let a = attained i k in go a.0 a.1 a.2 a.3
    where
      go : (n j : ℕ) → WaitsThrough t n j i → get_or t.priority j 0 ≡ urgency_of t i → urgency_of t i ≡ get_or t.priority i 0
      go zero j c same = sym same ∙ ap (λ m. get_or t.priority m 0) c
      go (suc n) j c same = let q = last_link n j i c in absurd (none q.0 q.1)

  -- ---- a chain that came back would be as long as one likes

  behind : (m n j k i : ℕ) → WaitsThrough t m j k → WaitsThrough t n k i → WaitsThrough t (m + n) j i
  behind zero n j k i e d = let none : 0 + n ≡ n = omega arith in rw (none, e) d
  behind (suc m) n j k i c d =
      let moved : suc m + n ≡ suc (m + n) = omega arith in
      rw moved (c.0, c.1, behind m n c.0 k i c.2 d)

  rounds : (n i : ℕ) → WaitsThrough t (suc n) i i → (k : ℕ) → (l : ℕ) × (k ≤ l) × WaitsThrough t l i i
  rounds n i c zero = (0, omega arith, refl)
  rounds n i c (suc k) =
      let rest = rounds n i c k in
      (suc n + rest.0, omega (arith, rest.1), behind (suc n) rest.0 i i i c rest.2)

  no_round : (n i : ℕ) → WaitsThrough t (suc n) i i → ⊥
  unfolding no_circle
  no_round n i c =
      let many = rounds n i c (suc task_room) in
      let known = awaits_room t p i c.1.region c.1.awaited in
      let short =
      chain_short t.awaits t.opened t.holder many.0 task_room i i (chain many.0 i i many.2)
      (below_at (ends t.awaits t.holder task_room) task_room i p.no_circle known) in
      absurd (omega (arith, many.1))

-- ---- the statements

pub holder_urgent_is : HolderUrgent
holder_urgent_is t v = link_urgent t (parts_of t v)

pub chain_urgent : ChainUrgent
chain_urgent t v = through_urgent t (parts_of t v)

pub urgency_least : UrgencyLeast
urgency_least t v n j i k c =
    let p = parts_of t v in
    let through = through_urgent t p n j i c in
    let own = own_least t p j k in
    omega arith

pub urgency_attained : UrgencyAttained
urgency_attained t v = attained t (parts_of t v)

pub own_urgency : OwnUrgency
own_urgency t v = own_only t (parts_of t v)

pub quiet_urgency : QuietUrgency
unfolding shaped
quiet_urgency t v quiet =
    let p = parts_of t v in
    urgencies_quiet t.priority t.awaits t.opened t.holder quiet (eqb-true _ _ (given _ p.shape).0) (λ i k. small_all t p i)

pub most_urgent_runs : MostUrgentRuns
most_urgent_runs t c z free i k ready =
    let r = right_one_runs t c z in
    r.best free (λ none. absurd (false≢true (sym (r.none.0 none i k) ∙ ready)))

pub no_wait_for_oneself : NoWaitForOneself
no_wait_for_oneself t cs v = no_round (after_all t cs) (parts_of _ (valid_after t cs v))
