-- One number, one timer, and the room for them: what straight-line code reads and stores.
use Rattle.std.proofs.Common.{ℕ, suc, ◌+◌, ◌*◌, ◌-◌, ◌/◌, ◌<◌, ◌≤◌, ◌≡◌, refl, sym, ◌∙◌, true, false, List, [], ◌∷◌, append-nil, ◌↔◌, arith, le-div_iff_mul-le, mod-eq_of_lt, leb, get_or, set, length, drop, drop_of_length-le, drop-cons, drop-drop, leb-true, le-leb}
use Rattle.std.specs.Int.{w16, w32, to_le_bytes}
use lib.Seq.{sets, sets-eq}
use borrow.Author.Tests.{lt-leb}
use borrow.Rule.Slice.PartMut.{put_mid}
use Rattle.rules.specs.declared.Timer.{Timer}
use Rattle.rules.proofs.Bools.{same_test}
use Rattle.packing.specs.Bytes.{half_width, word_width, number, bytes, has_room}
use Rattle.packing.specs.Timers.{timer_width, timer_bytes}

-- ---- room

pub room_is : (size at width count : ℕ) → 0 < width → at ≤ size → leb count ((size - at) / width) ≡ has_room size at width count
room_is size at width count w h =
    let whole : (count ≤ (size - at) / width) ↔ (count * width ≤ size - at) = le-div_iff_mul-le w in
    same_test _ _
    (λ e. le-leb (at + width * count) size (let l = whole.0 (leb-true count ((size - at) / width) e) in omega arith))
    (λ e. le-leb count ((size - at) / width) (whole.1 (let l = leb-true (at + width * count) size e in omega arith)))

pub room_of_none : (size at width count : ℕ) → width ≡ 0 → at ≤ size → true ≡ has_room size at width count
room_of_none size at width count none h = let l : at + width * count ≤ size = rw none (omega arith) in sym (le-leb (at + width * count) size l)

pub no_room : (size at width count : ℕ) → size < at → false ≡ has_room size at width count
no_room size at width count h = sym (lt-leb (at + width * count) size (omega arith))

-- ---- a number by its bytes

-- the number from a byte on
number_from : (i : ℕ) (bs : List ℕ) → i < length bs → number (drop i bs) ≡ get_or bs i 0 + 256 * number (drop (suc i) bs)
unfolding number
number_from i bs h = rw (drop-cons bs i 0 h)

number_past : (i : ℕ) (bs : List ℕ) → length bs ≤ i → number (drop i bs) ≡ 0
unfolding number
number_past i bs h = rw (drop_of_length-le bs h)

pub one_read : (bs : List ℕ) → length bs ≡ 1 → number bs ≡ get_or bs 0 0
one_read bs l = omega (arith, number_from 0 bs (omega arith), number_past 1 bs (omega arith))

pub two_read : (bs : List ℕ) → length bs ≡ half_width → number bs ≡ get_or bs 0 0 + 256 * get_or bs 1 0
two_read bs l = omega (arith, number_from 0 bs (omega arith), number_from 1 bs (omega arith), number_past 2 bs (omega arith))

pub four_read : (bs : List ℕ) → length bs ≡ word_width
    → number bs ≡ get_or bs 0 0 + 256 * get_or bs 1 0 + 65536 * get_or bs 2 0 + 16777216 * get_or bs 3 0
four_read bs l =
    let first = number_from 0 bs (omega arith) in
    let second = number_from 1 bs (omega arith) in
    let third = number_from 2 bs (omega arith) in
    let fourth = number_from 3 bs (omega arith) in
    let past = number_past 4 bs (omega arith) in
    omega arith

-- ---- stores one behind the other from the front on

pub stored : (vs bs : List ℕ) → length bs ≡ length vs → sets bs 0 vs ≡ vs
stored vs bs h =
    let past : length bs ≤ 0 + length vs = omega arith in
    sets-eq vs bs 0 (omega arith) ∙ rw (drop_of_length-le bs past) (append-nil vs)

pub one_stored : (bs : List ℕ) (n : ℕ) → length bs ≡ 1 → n < 256 → set bs 0 n ≡ bytes 1 n
unfolding bytes
one_stored bs n l small = rw (mod-eq_of_lt small) (stored (n ∷ []) bs l)

-- ---- a timer

module _ (r : Timer) (p date : List ℕ) where
  abbrev head : List ℕ
  head = r.armed ∷ r.owner ∷ r.event ∷ 0 ∷ []

  pub timer_stored : length p ≡ timer_width → r.armed < 256 → r.owner < 256 → r.event < 256 → date ≡ bytes word_width r.date
      → put_mid 4 4 (sets p 0 head) date ≡ timer_bytes r
  unfolding timer_bytes bytes
  timer_stored h a o e d =
      let short : length p ≤ 4 + 4 = omega arith in
      rw (sets-eq head p 0 (omega arith), d, drop-drop 4 4 p, drop_of_length-le p short, mod-eq_of_lt a, mod-eq_of_lt o, mod-eq_of_lt e)

-- ---- the library's bytes of a number

pub two_bytes : (n : ℕ) → to_le_bytes w16 n ≡ bytes half_width n
unfolding bytes
two_bytes n = refl

pub four_bytes : (n : ℕ) → to_le_bytes w32 n ≡ bytes word_width n
unfolding bytes
four_bytes n =
    let third : n / 65536 ≡ n / 256 / 256 = omega arith in
    let fourth : n / 16777216 ≡ n / 256 / 256 / 256 = omega arith in
    rw (third, fourth)
