-- Laws of the bits of all entries: where the regions are right they are the first occupied one's, so that no walk to it is needed.
use Rattle.std.proofs.Common.{◌≡◌, ℕ, suc, ◌<◌, Bool, true, false, cond, ◌&&◌, ◌||◌, eqb, ltb, List, [], ◌∷◌, ◌++◌, length, get_or, refl, ⊎_elim, arith, eqb-true, bit_or}
use lib.Bits.{or_zero_l, or_zero_r, or_self}
use Rattle.rules.specs.Numbers.{region_room}
use Rattle.rules.specs.Words.{is_zero}
use Rattle.rules.specs.Regions.{held}
use Rattle.rules.specs.Urgency.{is_open, closed_holders}
use Rattle.rules.proofs.Bools.{and_right, or_cases, or_keeps}
use Rattle.rules.proofs.Counts.{below_at}
use Rattle.rules.proofs.States.{closed_at, length_closed}
use Rattle.rules.specs.Checks.{region_fits, regions_right}
use Rattle.regions.specs.Bits.{or_all}

-- ---- one region more

pub bits_more : (b : ℕ) (hs : List ℕ) (h : ℕ) → or_all b (hs ++ (h ∷ [])) ≡ bit_or (or_all b hs) h
unfolding or_all
bits_more b [] h = refl
bits_more b (x ∷ xs) h = bits_more (bit_or b x) xs h

-- ---- where every entry is 0 or m

abbrev pub Alike : ℕ → List ℕ → Type 0
Alike m hs = (i : ℕ) → i < length hs → (is_zero (get_or hs i 0) || eqb (get_or hs i 0) m) ≡ true

-- the bits of m and of all of them are m,
or_same : (m : ℕ) (hs : List ℕ) → Alike m hs → or_all m hs ≡ m
unfolding or_all
or_same m [] a = refl
or_same m (h ∷ hs) a =
    let rest : Alike m hs = λ i l. a (suc i) (omega arith) in
    ⊎_elim (λ z. rw (eqb-true h 0 z, or_zero_r) (or_same m hs rest)) (λ e. rw (eqb-true h m e, or_self) (or_same m hs rest))
    (or_cases (is_zero h) (eqb h m) (a 0 (omega arith)))

-- and the bits of all of them are the first occupied region's entry
pub or_held : (m : ℕ) (hs : List ℕ) → Alike m hs → or_all 0 hs ≡ held hs
unfolding or_all held
or_held m [] a = refl
or_held m (h ∷ hs) a = go (is_zero h) refl (or_held m hs (λ i l. a (suc i) (omega arith)))
  where
    go : (b : Bool) → is_zero h ≡ b → or_all 0 hs ≡ held hs → or_all (bit_or 0 h) hs ≡ cond (is_zero h) (held hs) h
    go true z ih = rw (z, eqb-true h 0 z, or_zero_l) ih
    go false n ih =
        let same : h ≡ m = eqb-true h m (simp n at (a 0 (omega arith))) in
        rw (n, or_zero_l, same) (or_same m hs (λ i l. a (suc i) (omega arith)))

-- so regions that are right by these bits are right by their holder, and the other way round
module _ (regions : ℕ) (opened holders : List ℕ) where
  abbrev pub closed : List ℕ
  closed = closed_holders opened holders

  alike : (v : ℕ) → regions_right regions v opened holders ≡ true → Alike v closed
  unfolding regions_right region_fits
  alike v h i l =
      let k : i < region_room = rw (← length_closed opened holders) l in
      let fits = below_at _ region_room i h k in
      rw (closed_at opened holders i k)
      (go (is_open (get_or opened i 0)) refl (and_right (is_zero (get_or opened i 0) || (ltb i regions && is_open (get_or opened i 0))) _ fits))
    where
      entry : ℕ
      entry = get_or holders i 0

      go : (b : Bool) → is_open (get_or opened i 0) ≡ b → (is_zero entry || (ltb i regions && (is_open (get_or opened i 0) || eqb entry v))) ≡ true
          → (is_zero (cond b 0 entry) || eqb (cond b 0 entry) v) ≡ true
      go true e w = refl
      go false e w = or_keeps (is_zero entry) _ _ (λ x. and_right (ltb i regions) _ x) (rw e at w)

  pub bits_right : regions_right regions (or_all 0 closed) opened holders ≡ true → or_all 0 closed ≡ held closed
  bits_right h = or_held (or_all 0 closed) closed (alike (or_all 0 closed) h)

  pub held_right : regions_right regions (held closed) opened holders ≡ true → or_all 0 closed ≡ held closed
  held_right h = or_held (held closed) closed (alike (held closed) h)
