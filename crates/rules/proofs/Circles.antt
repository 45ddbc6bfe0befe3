-- With no circle, more tasks left change no urgency, and a holder is never less urgent than a task that it holds up.
use Prim.Native.Nat.{ℕ, zero, suc, ◌<◌, ◌≤◌}
use mathlib.Core.Path.{◌≡◌}
use mathlib.Core.Bool.{true}
use mathlib.Core.List.{List}
use native.Mathlib.Omega.{arith}
use lib.ListN.{get_or}
use Rattle.rules.specs.Numbers.{task_room, priority_end}
use Rattle.rules.specs.Urgency.{task_urgency, urgencies}
use Rattle.rules.specs.Circles.{ends, no_circle}
use Rattle.rules.proofs.Counts.{below_at}
use Rattle.rules.proofs.Chains.{Waits, Chain, chain_short}
use Rattle.rules.proofs.Urgency.{urgency_link, urgency_reach, urgencies_at, urgency_had}

module _ (priority awaits opened holder : List ℕ) (small : (i : ℕ) → get_or priority i 0 ≤ priority_end) where
  -- more left never makes it larger
  pub urgency_falls : (left more i : ℕ) → left ≤ more
      → task_urgency priority awaits opened holder more i ≤ task_urgency priority awaits opened holder left i
  urgency_falls left more i l =
      let had = urgency_had priority awaits opened holder small left i in
      let within = had.within in
      let less = urgency_reach priority awaits opened holder had.links more had.task i (omega arith) had.chain in
      let same = had.same in
      omega arith

  module _ (none : no_circle awaits holder ≡ true) where
    chain_within : (n j i : ℕ) → Chain awaits opened holder n j i → n ≤ task_room
    unfolding no_circle
    chain_within zero j i c = omega arith
    chain_within (suc n) j i c =
        chain_short awaits opened holder (suc n) task_room j i c (below_at (ends awaits holder task_room) task_room j none c.1.task_known)

    pub urgency_settled : (more i : ℕ) → task_room ≤ more
        → task_urgency priority awaits opened holder more i ≡ task_urgency priority awaits opened holder task_room i
    urgency_settled more i l =
        let had = urgency_had priority awaits opened holder small more i in
        let within = chain_within had.links had.task i had.chain in
        let less = urgency_reach priority awaits opened holder had.links task_room had.task i within had.chain in
        let same = had.same in
        let falls = urgency_falls task_room more i l in
        omega arith

    pub holder_urgent : (j i : ℕ) → i < task_room → Waits awaits opened holder j i
        → get_or (urgencies priority awaits opened holder) i 0 ≤ get_or (urgencies priority awaits opened holder) j 0
    holder_urgent j i l w =
        let settled = urgency_settled (suc task_room) i (omega arith) in
        let link = urgency_link priority awaits opened holder task_room j i w in
        rw (urgencies_at priority awaits opened holder i l, urgencies_at priority awaits opened holder j w.task_known) (omega arith)
