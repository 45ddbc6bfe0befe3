-- Who waits for whom: a link, and a chain of links, which is no longer than the way from where it begins.
use Prim.Native.Nat.{ℕ, zero, suc, ◌<◌, ◌≤◌}
use mathlib.Core.Path.{◌≡◌, refl, sym, ◌∙◌}
use mathlib.Core.Bool.{true}
use mathlib.Core.List.{List}
use native.Mathlib.Omega.{arith}
use lib.Dec.{eqb}
use lib.ListN.{get_or}
use borrow.Author.Tests.{eqb-true}
use Rattle.rules.specs.Numbers.{task_room, region_room}
use Rattle.rules.specs.Urgency.{awaiting, holding}
use Rattle.rules.specs.Circles.{onward, ends}
use Rattle.rules.proofs.Bools.{and_right}
use Rattle.rules.proofs.Ways.{onward_region, ends_on, ends_stops}

-- task j waits for task i: it waits for an open region that i holds
pub record Waits (awaits opened holder : List ℕ) (j i : ℕ) : Type 0 where
  pub region : ℕ
  pub task_known : j < task_room
  pub region_known : region < region_room
  pub awaited : awaiting awaits region j ≡ true
  pub held : holding opened holder i region ≡ true

module _ (awaits opened holder : List ℕ) where
  -- through n links; through none it is the task itself
  abbrev pub Chain : ℕ → ℕ → ℕ → Type 0
  Chain zero j i = j ≡ i
  Chain (suc n) j i = (k : ℕ) × Waits awaits opened holder j k × Chain n k i

  -- one link more, at the far end
  pub chain_on : (n j k i : ℕ) → Chain n j k → Waits awaits opened holder k i → Chain (suc n) j i
  chain_on zero j k i e w = (i, rw e w, refl)
  chain_on (suc n) j k i c w = (c.0, c.1, chain_on n c.0 k i c.2 w)

  pub waits_onward : (j i : ℕ) → Waits awaits opened holder j i → onward awaits holder j ≡ suc i
  waits_onward j i w =
      onward_region awaits holder j w.region (eqb-true (get_or awaits j 0) (suc w.region) w.awaited)
      ∙ eqb-true (get_or holder w.region 0) (suc i) (and_right (eqb (get_or opened w.region 0) 1) _ w.held)

  -- a chain is no longer than the way from where it begins
  pub chain_short : (n left j i : ℕ) → Chain n j i → ends awaits holder left j ≡ true → n ≤ left
  chain_short zero left j i c e = omega arith
  chain_short (suc n) zero j i c e =
      let on = waits_onward j c.0 c.1 in
      let stops = ends_stops awaits holder j e in
      absurd (omega arith)
  chain_short (suc n) (suc left) j i c e =
      let rest = chain_short n left c.0 i c.2 (sym (ends_on awaits holder left j c.0 (waits_onward j c.0 c.1)) ∙ e) in
      omega arith
