-- The premises of the lasting theorems, met: computed, and the theorems applied.
use mathlib.Core.Path.{◌≡◌, refl}
use native.Mathlib.Omega.{arith}
use Rattle.rules.specs.Events.{has, cleared}
use Rattle.lasting_theorems.specs.Lasting.{forgets}
use Rattle.lasting_theorems.specs.Delays.{disturbs}
use Rattle.lasting_theorems.specs.Examples.{begun}
use Rattle.lasting_theorems.specs.Premises.{arm, behind_arm, SignalKept, DelayRings, RoutineProtected, HolderKept, BorrowsUrgency, HandsOver, OpenRoutine}
use Rattle.lasting_theorems.proofs.Delays.{delay_kept}
use Rattle.lasting_theorems.proofs.Examples.{rules}

pub signal_kept : SignalKept
unfolding rules forgets has cleared
signal_kept = (refl, refl, (refl, (refl, (refl, tt))))

pub delay_rings : DelayRings
unfolding rules disturbs
delay_rings = (refl, refl, (refl, (refl, tt)), omega arith, delay_kept begun arm behind_arm refl refl (refl, (refl, tt)) (omega arith))

pub routine_protected : RoutineProtected
unfolding rules
routine_protected = (refl, refl, refl)

pub holder_kept : HolderKept
unfolding rules
holder_kept = (refl, refl, (refl, (refl, (refl, (refl, (refl, tt))))), refl)

pub borrows_urgency : BorrowsUrgency
unfolding rules
borrows_urgency = (refl, record { region = 0; awaited = refl; held = refl }, refl, refl, refl, refl)

pub hands_over : HandsOver
unfolding rules
hands_over = (refl, refl)

pub open_routine : OpenRoutine
unfolding rules
open_routine = (refl, refl, ((λ m. refl), ((λ m. refl), ((λ m. refl), tt))))
