-- The gap closed in a part of the store: what stands behind it copied one down, and the last place written.
use Rattle.std.proofs.Common.{◌≡◌, ℕ, suc, ◌+◌, ◌-◌, ◌≤◌, ◌<◌, List, ◌∷◌, ◌++◌, length, get_or, take, drop, set, ap, ◌∙◌, append_assoc, add-one, arith, length-append, length-take, length-drop, drop-cons, lt-ltb, le-leb}
use Rattle.std.proofs.Math.Seq.{slice}
use Rattle.std.specs.List.{copy_within}
use Rattle.std.proofs.lemmas.List.{set_at}
use Rattle.rules.specs.Numbers.{store_size}
use Rattle.rules.specs.Queues.{closed}
use Rattle.rules.proofs.Store.{slice_is}
use Rattle.queues.specs.Gaps.{closed_in}

-- n entries moved, and the place behind them written
moved : (at n last end : ℕ) (l : List ℕ) → last ≡ at + n → end ≡ suc last → end ≤ length l
    → set ((take at l ++ take n (drop (suc at) l)) ++ drop last l) last 0 ≡ closed at end l
moved at n last end l e f h =
    let before : List ℕ = take at l ++ take n (drop (suc at) l) in
    let long : length before ≡ last = simp (length-append, length-take, length-drop) (omega arith) in
    let here : last < length l = omega arith in
    let part : slice (suc at) end l ≡ take n (drop (suc at) l) = ap (λ k. slice (suc at) k l) (omega arith) ∙ slice_is (suc at) n l in
    rw (part, f, drop-cons l last 0)
    (set_at before (get_or l last 0) (drop (suc last) l) 0 last long ∙ append_assoc (take at l) (take n (drop (suc at) l)) (0 ∷ drop (suc last) l))

pub gap_closed : (at end : ℕ) (l m : List ℕ) → m ≡ copy_within l (at + 1) end at → at < end → end ≤ store_size
    → length l ≡ store_size → set m (end - 1) 0 ≡ closed_in at end l
unfolding closed_in
gap_closed at end l m e there fits g =
    let last : at + (end - (at + 1)) ≡ end - 1 = omega arith in
    rw (lt-ltb at end there, le-leb end store_size fits, e, last, add-one)
    (moved at (end - suc at) (end - 1) end l (omega arith) (omega arith) (omega arith))
