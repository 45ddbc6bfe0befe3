-- What a call does to a store that is lent, and the parts of a table put together again.
use Rattle.std.proofs.Common.{◌≡◌, ℕ, Bool, true, false, ◌||◌, eqb, ◌≢◌, List, sym, refl, ap, subst, ne_eqb}
use Rattle.rules.specs.declared.Table.{Table}
use Rattle.rules.specs.declared.Call.{Call}
use Rattle.rules.specs.declared.Command.{Command}
use Rattle.rules.specs.declared.Done.{Done}
use Rattle.rules.specs.Numbers.{SEND, RETRIEVE}
use Rattle.rules.specs.Commands.{its_call}
use Rattle.rules.specs.Words.{is_zero}
use Rattle.rules.specs.Refusals.{refusal}
use Rattle.rules.specs.Step.{step}
use Rattle.rules.proofs.Effects.{contents_kept}
use Rattle.tables.specs.declared.front.Front.{Front}
use Rattle.tables.specs.declared.front.Store.{Store}
use Rattle.tables.specs.declared.front.FrontDone.{FrontDone}
use Rattle.tables.specs.Fronts.{whole, front_of, store_of, front_done}
use Rattle.calls.specs.Steps.{IsStep, StepAccepted, FrontStep}

-- only SEND and RETRIEVE change the store
pub step_contents : (t : Table) (c : Call) → (eqb c.operation SEND || eqb c.operation RETRIEVE) ≡ false
    → ((step t c).table.element ≡ t.element) × ((step t c).table.criterion ≡ t.criterion)
unfolding step
step_contents t c h = go (is_zero (refusal t c)) refl
  where
    go : (b : Bool) → is_zero (refusal t c) ≡ b → ((step t c).table.element ≡ t.element) × ((step t c).table.criterion ≡ t.criterion)
    go true z = rw z (let same = contents_kept t c h in (ap (λ x. x.element) same, ap (λ x. x.criterion) same))
    go false z = rw z (refl, refl)

-- a done call that is another, in the three parts that a contract over a lent store speaks of
pub in_parts : {d e : Done} → d ≡ e → (front_done d ≡ front_done e) × ((d.table.element ≡ e.table.element) × (d.table.criterion ≡ e.table.criterion))
in_parts p = (ap front_done p, (ap (λ d. d.table.element) p, ap (λ d. d.table.criterion) p))

-- the same from the front alone, where the store stays as it is
pub front_parts : (f : Front) (es cs : List ℕ) (c : Call) {d : FrontDone} → c.operation ≢ SEND → c.operation ≢ RETRIEVE
    → d ≡ front_done (step (whole f es cs) c) → IsStep (whole f es cs) c d es cs
front_parts f es cs c n m p =
    let same = step_contents (whole f es cs) c (rw (ne_eqb c.operation SEND n, ne_eqb c.operation RETRIEVE m) refl) in
    (p, (sym same.0, sym same.1))

-- what is promised of an accepted command is the step of the call that it was read from
pub step_read : (t : Table) (k : Call) (o : Command) → its_call o ≡ k → 0 ≡ refusal t k
    → {d : FrontDone} {es cs : List ℕ} → StepAccepted t (its_call o) d es cs → IsStep t k d es cs
step_read t k o e z {d} {es} {cs} p =
    let P : Call → Type 0 = λ c. 0 ≡ refusal t c → IsStep t c d es cs in
    subst P e (λ y. p (sym y)) z

-- the same of one that leaves the store as it is
pub front_read : (f : Front) (es cs : List ℕ) (k : Call) (o : Command) → its_call o ≡ k → 0 ≡ refusal (whole f es cs) k
    → (its_call o).operation ≢ SEND → (its_call o).operation ≢ RETRIEVE
    → {d : FrontDone} → FrontStep f (its_call o) d → IsStep (whole f es cs) k d es cs
front_read f es cs k o e z n m p = step_read (whole f es cs) k o e z (λ a. front_parts f es cs (its_call o) n m (p es cs a))

-- a call on the parts of a table is the call on the table
pub put_together : (t : Table) (c : Call) (f : Front) → f ≡ front_of t → (s : Store) → s ≡ store_of t
    → (d : FrontDone) → d ≡ front_done (step (whole f s.element s.criterion) c)
    → (es : List ℕ) → es ≡ (step (whole f s.element s.criterion) c).table.element
    → (cs : List ℕ) → cs ≡ (step (whole f s.element s.criterion) c).table.criterion
    → (u : Table) → u ≡ whole d.front es cs
    → record { table = u; answer = d.answer } ≡ step t c
put_together t c f a s p d b es e cs g u h = rw (h, e, g, b, a, p) refl
