-- The operations by name, and a call whose operation has been read.
use Rattle.std.specs.Prelude.{ℕ, ◌≡◌, ◌<◌, Result, MatchResult}
use Rattle.rules.specs.declared.Operation.{Operation}
use Rattle.rules.specs.declared.Operation.TheVariants.{Start, Stop, End, Signal, Wait, Clear, Enter, Exit, Send, Retrieve, Arm, Disarm, Tick}
use Rattle.rules.specs.declared.Refusal.{Refusal}
use Rattle.rules.specs.declared.Refusal.TheVariants.{NoOperation}
use Rattle.rules.specs.declared.Call.{Call}
use Rattle.rules.specs.declared.Command.{Command}
use Rattle.rules.specs.Numbers.{START, STOP, END, SIGNAL, WAIT, CLEAR, ENTER, EXIT, SEND, RETRIEVE, ARM, DISARM, TICK}

abbrev pub operation_number : Operation → ℕ
operation_number Start = START
operation_number Stop = STOP
operation_number End = END
operation_number Signal = SIGNAL
operation_number Wait = WAIT
operation_number Clear = CLEAR
operation_number Enter = ENTER
operation_number Exit = EXIT
operation_number Send = SEND
operation_number Retrieve = RETRIEVE
operation_number Arm = ARM
operation_number Disarm = DISARM
operation_number Tick = TICK

-- what a number names: an operation, or none past the last
abbrev pub Names : ℕ → Result Operation Refusal → Type 0
Names n r = MatchResult r (λ o. operation_number o ≡ n) (λ reason. (reason ≡ NoOperation) × (TICK < n))

-- the call that a command was read from
abbrev pub its_call : Command → Call
its_call o = record { caller = o.caller; operation = operation_number o.operation; a = o.a; b = o.b; c = o.c }

-- a call is read as the command that it is, or not where its number names no operation
abbrev pub Reads : Call → Result Command Refusal → Type 0
Reads k r = MatchResult r (λ o. its_call o ≡ k) (λ reason. (reason ≡ NoOperation) × (TICK < k.operation))
