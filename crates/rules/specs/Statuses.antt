-- The reasons for a refusal by name, each with the number that the list of statuses gives it.
use Rattle.std.specs.Prelude.{ℕ, Result, Ok, Err}
use Rattle.rules.specs.declared.Refusal.{Refusal}
use Rattle.rules.specs.declared.Refusal.TheVariants.{NotValid, NoOperation, NotElected, Barred, Missing, WrongState, Inside, QueueFull, NoneFits, BadOperator, OutOfRange, Malformed, EntriesFull, NotHeld, ClosesCircle, StopsHolder}

abbrev pub number_of : Refusal → ℕ
number_of NotValid = 10
number_of NoOperation = 11
number_of NotElected = 12
number_of Barred = 13
number_of Missing = 14
number_of WrongState = 15
number_of Inside = 16
number_of QueueFull = 17
number_of NoneFits = 18
number_of BadOperator = 19
number_of OutOfRange = 20
number_of Malformed = 21
number_of EntriesFull = 22
number_of NotHeld = 23
number_of ClosesCircle = 24
number_of StopsHolder = 25

-- the status of what is either refused or not: 0 where it is accepted
abbrev pub status_of : {A : Type 0} → Result A Refusal → ℕ
status_of (Ok _) = 0
status_of (Err reason) = number_of reason
