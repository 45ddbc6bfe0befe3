-- A call keeps the lengths of the table's arrays.
use Rattle.std.proofs.Common.{◌≡◌, refl, sym, subst, Bool, true, false, eqb-true}
use borrow.Author.Tests.{eqb-false}
use Rattle.rules.specs.declared.Table.{Table}
use Rattle.rules.specs.declared.Call.{Call}
use Rattle.rules.specs.Words.{is_zero}
use Rattle.rules.specs.Validity.{shaped, valid}
use Rattle.rules.specs.Refusals.{refusal}
use Rattle.rules.specs.Step.{step}
use Rattle.rules.proofs.Bools.{given}
use Rattle.rules.proofs.Validity.{parts_of}
use Rattle.rules.proofs.Refusals.{accepted_facts}
use Rattle.theorems.proofs.Kept.{valid_kept, refused_same}
use Rattle.layout.proofs.Sizes.{Sized}

-- the arrays of a valid table have their lengths
valid_sized : (t : Table) → valid t ≡ true → Sized t
unfolding shaped
valid_sized t v =
    let e = given _ (parts_of t v).shape in
    record {
      priority_long = eqb-true _ _ e.0;
      state_long = eqb-true _ _ e.1.0;
      arrived_long = eqb-true _ _ e.1.1.0;
      list_long = eqb-true _ _ e.1.1.1.0;
      operator_long = eqb-true _ _ e.1.1.1.1.0;
      holder_long = eqb-true _ _ e.1.1.1.1.1.0;
      entries_long = eqb-true _ _ e.1.1.1.1.1.1.0;
      bound_long = eqb-true _ _ e.1.1.1.1.1.1.1.0;
      length_long = eqb-true _ _ e.1.1.1.1.1.1.1.1.0;
      element_long = eqb-true _ _ e.1.1.1.1.1.1.1.1.1.0;
      criterion_long = eqb-true _ _ e.1.1.1.1.1.1.1.1.1.1.0;
      timers_long = eqb-true _ _ e.1.1.1.1.1.1.1.1.1.1.1.0;
      awaits_long = eqb-true _ _ e.1.1.1.1.1.1.1.1.1.1.1.1.0;
      opened_long = eqb-true _ _ e.1.1.1.1.1.1.1.1.1.1.1.1.1.0;
    }

-- after an accepted call the table is valid, after a refused one it is what it was
pub step_sized : (t : Table) (c : Call) → Sized t → Sized (step t c).table
step_sized t c s = go (is_zero (refusal t c)) refl
  where
    go : (b : Bool) → is_zero (refusal t c) ≡ b → Sized (step t c).table
    go true z = valid_sized (step t c).table (valid_kept t c (accepted_facts t c (eqb-true _ 0 z)).is_valid)
    go false z = subst Sized (sym (refused_same t c (eqb-false _ 0 z))) s
