-- Laws of a list written over: an answer line filled from its start on, and bytes that come to stand at a place.
use Rattle.std.proofs.Common.{ℕ, suc, ◌+◌, ◌-◌, ◌<◌, ◌≤◌, ◌≡◌, refl, sym, List, [], ◌∷◌, ◌++◌, append_assoc, arith, length, take, drop, get_or, set, drop_of_length-le, length-append, length-drop, take_at, drop_at, drop-cons, drop-drop, length-take-le}
use lib.Seq.{set_at}
use borrow.Author.Tests.{le-leb, lt-leb}
use borrow.Rule.Slice.PartMut.{mid_of, put_mid}
use Rattle.rules.specs.declared.Answer.{Answer}
use Rattle.lines.specs.Ends.{line_feed}
use Rattle.digits.specs.Digits.{digits}
use Rattle.digits.proofs.Put.{digits_length}
use Rattle.frames.specs.Answers.{answer_length, answer_line, placed}

-- ---- a list written from its start on: l has `front` for the first a bytes of `old`

pub record Written (a : ℕ) (front old l : List ℕ) : Type 0 where
  pub long : length front ≡ a
  pub whole : l ≡ front ++ drop a old

-- a number's digits in the k places that come next
pub written_more : (k n a : ℕ) {front old l : List ℕ} (part : List ℕ) → Written a front old l → a + k ≤ length old
    → part ≡ digits (length (mid_of a k l)) n → Written (a + k) (front ++ digits k n) old (put_mid a k l part)
written_more k n a {front} {old} {l} part w h d =
    let behind : drop a l ≡ drop a old = rw w.whole (drop_at front (drop a old) a w.long) in
    let before : take a l ≡ front = rw w.whole (take_at front (drop a old) a w.long) in
    let room : length (mid_of a k l) ≡ k = rw behind (length-take-le k (drop a old) (rw length-drop (omega arith))) in
    record {
      long = rw (length-append, digits_length) (omega arith);
      whole = rw (d, room, behind, before, drop-drop) (sym (append_assoc front (digits k n) (drop (a + k) old)));
    }

-- a byte in the last place
pub written_last : (b a : ℕ) {front old l : List ℕ} → Written a front old l → length old ≡ a + 1 → set l a b ≡ front ++ b ∷ []
written_last b a {front} {old} {l} w h =
    let past : length old ≤ suc a = omega arith in
    rw (w.whole, drop-cons old a 0 (omega arith), drop_of_length-le old past, set_at front (get_or old a 0) [] b a w.long)

-- the answer line, its numbers one behind the other
pub answer_length_lem : (r : Answer) → length (answer_line r) ≡ answer_length
unfolding answer_line
answer_length_lem r = simp (length-append, digits_length)

module _ (r : Answer) (old status value key elected displaced : List ℕ) where
  abbrev first : List ℕ
  first = put_mid 0 2 old status

  abbrev second : List ℕ
  second = put_mid 2 8 first value

  abbrev third : List ℕ
  third = put_mid 10 2 second key

  abbrev fourth : List ℕ
  fourth = put_mid 12 2 third elected

  pub answer_written : length old ≡ answer_length → status ≡ digits (length (mid_of 0 2 old)) r.status
      → value ≡ digits (length (mid_of 2 8 first)) r.value → key ≡ digits (length (mid_of 10 2 second)) r.key
      → elected ≡ digits (length (mid_of 12 2 third)) r.elected → displaced ≡ digits (length (mid_of 14 2 fourth)) r.displaced
      → set (put_mid 14 2 fourth displaced) 16 line_feed ≡ answer_line r
  unfolding answer_line
  answer_written h s v k e d =
      let start : Written 0 [] old old = record { long = refl; whole = refl } in
      let one = written_more 2 r.status 0 status start (omega arith) s in
      let two = written_more 8 r.value 2 value one (omega arith) v in
      let three = written_more 2 r.key 10 key two (omega arith) k in
      let four = written_more 2 r.elected 12 elected three (omega arith) e in
      let five = written_more 2 r.displaced 14 displaced four (omega arith) d in
      written_last line_feed 16 five h

-- ---- bytes written over those that stand from a place on

module _ (at k : ℕ) (bytes out : List ℕ) (long : length bytes ≡ k) where
  pub placed_nowhere : length out < at + k → out ≡ placed at bytes out
  unfolding placed
  placed_nowhere h = rw (long, lt-leb (at + k) (length out) h)

  pub placed_there : at + k ≤ length out → put_mid at (at + k - at) out bytes ≡ placed at bytes out
  unfolding placed
  placed_there h =
      let same : at + k - at ≡ k = omega arith in
      rw (long, le-leb (at + k) (length out) h, same, drop-drop) (sym (append_assoc (take at out) bytes (drop (at + k) out)))
