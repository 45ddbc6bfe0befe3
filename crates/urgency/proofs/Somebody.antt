-- A number that may be nobody's, and the task that it names: for whoever matches on what stands for it.
use Rattle.std.proofs.Common.{ℕ, ◌≡◌, ◌≢◌, Bool, true, false, not, eqb, eqb-true, None, Some, refl}
use Rattle.std.proofs.lemmas.Bool.{eqb-false}
use Rattle.std.specs.Bool.{then_some}
use Rattle.rules.specs.Numbers.{nobody}
use Rattle.urgency.specs.Named.{unless_nobody}

module _ {n : ℕ} where
  pub nobody_where_none : None ≡ unless_nobody n → n ≡ nobody
  nobody_where_none e = go (eqb n nobody) refl e
    where
      go : (b : Bool) → eqb n nobody ≡ b → None ≡ then_some (not b) n → n ≡ nobody
      go true f h = eqb-true n nobody f
      go false f h = cc

  pub somebody_where_some : {i : ℕ} → Some i ≡ unless_nobody n → (n ≡ i) × (n ≢ nobody)
  somebody_where_some {i} e = go (eqb n nobody) refl e
    where
      go : (b : Bool) → eqb n nobody ≡ b → Some i ≡ then_some (not b) n → (n ≡ i) × (n ≢ nobody)
      go true f h = cc
      go false f h = (cc, eqb-false n nobody f)
