-- "A call is a caller, an operation number and three 32-bit numbers a, b, c. Those not listed are not read."
use Rattle.std.specs.Prelude.{ℕ, ◌≡◌, Bool, true, false, cond, List, [], ◌∷◌}
use Rattle.rules.specs.declared.Table.{Table}
use Rattle.rules.specs.declared.Call.{Call}
use Rattle.rules.specs.Words.{by_operation}
use Rattle.rules.specs.Step.{step}

-- which of a, b and c an operation lists
pub record Lists : Type 0 where
  pub a : Bool
  pub b : Bool
  pub c : Bool

abbrev lists : Bool → Bool → Bool → Lists
lists a b c = record { a = a; b = b; c = c }

abbrev pub lists_of : ℕ → Lists
lists_of operation =
    by_operation (lists false false false) operation
    -- START, STOP, END
    (lists true false false
    ∷ lists true false false
    ∷ lists false false false
    -- SIGNAL, WAIT, CLEAR
    ∷ lists true true false
    ∷ lists true true false
    ∷ lists true false false
    -- ENTER, EXIT
    ∷ lists true false false
    ∷ lists true false false
    -- SEND, RETRIEVE
    ∷ lists true true true
    ∷ lists true false true
    -- ARM, DISARM, TICK
    ∷ lists true true true
    ∷ lists true false false
    ∷ lists false false false
    ∷ [])

-- the call with 0 for each number that is not listed
abbrev pub as_listed : Call → Call
as_listed k =
    record {
      caller = k.caller;
      operation = k.operation;
      a = cond (lists_of k.operation).a k.a 0;
      b = cond (lists_of k.operation).b k.b 0;
      c = cond (lists_of k.operation).c k.c 0;
    }

-- two calls that agree on what is listed get the same table and the same answer, whatever the table is
abbrev pub NotRead : Type 0
NotRead = (t : Table) (k l : Call) → as_listed k ≡ as_listed l → step t k ≡ step t l
