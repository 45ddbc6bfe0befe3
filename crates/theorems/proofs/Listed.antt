-- What a call's operation doesn't list is not read: each of the thirteen operations by itself, and every number past them.
use Prim.Native.Nat.{ℕ, ◌<◌}
use mathlib.Core.Path.{◌≡◌, refl, sym, ap, ◌∙◌}
use mathlib.Core.Bool.{Bool, true, false}
use native.Mathlib.Omega.{arith}
use lib.Dec.{ltb}
use borrow.Author.Tests.{ltb-true, ltb-false, lt-ltb}
use Rattle.rules.specs.declared.Table.{Table}
use Rattle.rules.specs.declared.Call.{Call}
use Rattle.rules.specs.Validity.{valid}
use Rattle.rules.specs.Refusals.{missing, wrong_state, leaves, inside, closes_circle, stops_holder, reasons, refusal}
use Rattle.rules.specs.Effects.{effect}
use Rattle.rules.specs.Step.{step}
use Rattle.rules.proofs.Effects.{upto}
use Rattle.theorems.specs.Listed.{as_listed, NotRead}

module _ (t : Table) (k : Call) where
  abbrev Same : ℕ → Type 0
  Same n = k.operation ≡ n → step t k ≡ step t (as_listed k)

  -- an operation that exists: what is computed has no other number in it
  known : k.operation < 13 → step t k ≡ step t (as_listed k)
  unfolding step refusal reasons missing wrong_state leaves inside closes_circle stops_holder effect
  known h =
      upto 13 Same (
        λ e. rw e refl,
        (
          λ e. rw e refl,
          (
            λ e. rw e refl,
            (
              λ e. rw e refl,
              (
                λ e. rw e refl,
                (
                  λ e. rw e refl,
                  (
                    λ e. rw e refl,
                    (λ e. rw e refl, (λ e. rw e refl, (λ e. rw e refl, (λ e. rw e refl, (λ e. rw e refl, (λ e. rw e refl, tt)))))),
                  ),
                ),
              ),
            ),
          ),
        ),
      )
      k.operation h refl

  -- a number past them is refused with 10 or 11
  past : 12 < k.operation → step t k ≡ step t (as_listed k)
  unfolding step refusal reasons
  past h = go (valid t) refl
    where
      go : (b : Bool) → valid t ≡ b → step t k ≡ step t (as_listed k)
      go true v = simp (v, lt-ltb 12 k.operation h)
      go false v = simp v

  as_listed_lem : step t k ≡ step t (as_listed k)
  as_listed_lem = go (ltb k.operation 13) refl
    where
      go : (b : Bool) → ltb k.operation 13 ≡ b → step t k ≡ step t (as_listed k)
      go true h = known (ltb-true k.operation 13 h)
      go false h = let l = ltb-false k.operation 13 h in past (omega arith)

pub not_read : NotRead
not_read t k l h = as_listed_lem t k ∙ ap (step t) h ∙ sym (as_listed_lem t l)
