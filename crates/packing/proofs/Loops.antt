-- Loops that read out of a block or write into it, value by value: what has been read or written, said once for every kind of value.
use Rattle.std.proofs.Common.{ℕ, zero, suc, ◌+◌, ◌*◌, ◌-◌, ◌<◌, ◌≤◌, ◌≡◌, refl, sym, ap, ◌∙◌, true, false, List, [], ◌∷◌, ◌++◌, append_assoc, add-one, arith, length, get_or, take, drop, length-append, length-drop, drop-cons, take-append-drop, append-nil, mul-le-mul_left, set, drop_of_length-le, drop-drop, take-suc, take_all, take_at, drop_at, length-take-le, leb-true, le-leb}
use lib.Seq.{set_at}
use borrow.Rule.Slice.PartMut.{put_mid}
use Rattle.packing.specs.Bytes.{values_in, values_bytes, over, has_room, values_taken, values_put}

-- ---- reading: the first i have been read, and the old ones stand behind them

module _ {A : Type 0} (width : ℕ) (from : List ℕ → A) (at : ℕ) (block : List ℕ) (old : List A) where
  pub record Taking (i start : ℕ) (into : List A) : Type 0 where
    pub within : i ≤ length old
    pub room : at + width * length old ≤ length block
    pub place : start ≡ at + width * i
    pub whole : into ≡ values_in width from i (drop at block) ++ drop i old

values_suc : {A : Type 0} (width : ℕ) (from : List ℕ → A) (i : ℕ) (bs : List ℕ)
    → values_in width from (suc i) bs ≡ values_in width from i bs ++ (from (take width (drop (width * i) bs)) ∷ [])
unfolding values_in
values_suc width from zero bs = let z : width * 0 ≡ 0 = omega arith in rw z
values_suc width from (suc i) bs =
    let e : width * suc i ≡ width + width * i = omega arith in
    rw (e, ← drop-drop) (ap (λ l. from (take width bs) ∷ l) (values_suc width from i (drop width bs)))

pub values_length : {A : Type 0} (width : ℕ) (from : List ℕ → A) (count : ℕ) (bs : List ℕ) → length (values_in width from count bs) ≡ count
unfolding values_in
values_length width from zero bs = refl
values_length width from (suc count) bs = ap suc (values_length width from count (drop width bs))

module _ {A : Type 0} (width : ℕ) (from : List ℕ → A) (at : ℕ) (block : List ℕ) (old : List A) where
  pub take_start : (w : ℕ) → w ≡ width → has_room (length block) at w (length old) ≡ true → Taking width from at block old 0 at old
  unfolding values_in
  take_start w e h =
      record {
        within = omega arith;
        room = leb-true (at + width * length old) (length block) (rw e at h);
        place = omega arith;
        whole = refl;
      }

  pub take_more : (i start w : ℕ) (into : List A) (x : A) → Taking width from at block old i start into → i < length old
      → w ≡ width → x ≡ from (take (start + w - start) (drop start block)) → Taking width from at block old (i + 1) (start + w) (set into i x)
  take_more i start w into x s h e r =
      let part : start + w - start ≡ width = omega arith in
      let here : x ≡ from (take width (drop (width * i) (drop at block))) = r ∙ rw (part, s.place, drop-drop) in
      let front : List A = values_in width from i (drop at block) in
      record {
        within = omega arith;
        room = s.room;
        place = rw (s.place, e) (omega arith);
        whole =
            rw (s.whole, add-one, values_suc, ← here, drop-cons old i x h)
            (set_at front (get_or old i x) (drop (suc i) old) x i (values_length width from i (drop at block)) ∙ sym (append_assoc front (x ∷ []) (drop (suc i) old)));
      }

  pub take_end : (i start : ℕ) (into : List A) → Taking width from at block old i start into → length old ≤ i → into ≡ values_taken width from at block old
  unfolding values_taken
  take_end i start into s h =
      let same : i ≡ length old = omega (arith, s.within) in
      let none : drop (length old) old ≡ [] = drop_of_length-le old (omega arith) in
      rw (le-leb (at + width * length old) (length block) s.room)
      (rw same at s.whole ∙ rw (none, append-nil))

  pub take_none : (w : ℕ) → w ≡ width → has_room (length block) at w (length old) ≡ false → old ≡ values_taken width from at block old
  unfolding values_taken
  take_none w e h = let no = rw e at h in rw no

-- ---- writing: the first i have been written over the old bytes

module _ {A : Type 0} (width : ℕ) (to : A → List ℕ) (at : ℕ) (xs : List A) (old : List ℕ) where
  pub record Putting (i start : ℕ) (block : List ℕ) : Type 0 where
    pub within : i ≤ length xs
    pub room : at + width * length xs ≤ length old
    pub long : length block ≡ length old
    pub place : start ≡ at + width * i
    pub written : length (values_bytes to (take i xs)) ≡ width * i
    pub whole : block ≡ over at (values_bytes to (take i xs)) old

values_snoc : {A : Type 0} (to : A → List ℕ) (xs : List A) (x : A) → values_bytes to (xs ++ (x ∷ [])) ≡ values_bytes to xs ++ to x
unfolding values_bytes
values_snoc to [] x = rw append-nil
values_snoc to (y ∷ xs) x = rw (values_snoc to xs x) (sym (append_assoc (to y) (values_bytes to xs) (to x)))

module _ {A : Type 0} (width : ℕ) (to : A → List ℕ) (at : ℕ) (xs : List A) (old : List ℕ) where
  pub put_start : (w : ℕ) → w ≡ width → has_room (length old) at w (length xs) ≡ true → Putting width to at xs old 0 at old
  unfolding over values_bytes
  put_start w e h =
      let none : at + 0 ≡ at = omega arith in
      record {
        within = omega arith;
        room = leb-true (at + width * length xs) (length old) (rw e at h);
        long = refl;
        place = omega arith;
        written = omega arith;
        whole = rw (none, append-nil) (sym (take-append-drop at old));
      }

  -- the front of the block as far as it is written, and the old bytes behind it
  over_front : (bs : List ℕ) → at + length bs ≤ length old → length (take at old ++ bs) ≡ at + length bs
  over_front bs h = rw (length-append, length-take-le at old (omega arith)) refl

  over_length : (bs : List ℕ) → at + length bs ≤ length old → length (over at bs old) ≡ length old
  unfolding over
  over_length bs h = rw (length-append, over_front bs h, length-drop) (omega arith)

  over_more : (bs part : List ℕ) (p n : ℕ) → at + length bs + length part ≤ length old → p ≡ at + length bs → n ≡ length part
      → put_mid p n (over at bs old) part ≡ over at (bs ++ part) old
  unfolding over
  over_more bs part p n h e f =
      let front = over_front bs (omega arith) in
      let behind : at + length bs + length part ≡ at + length (bs ++ part) = rw length-append (omega arith) in
      rw (
        f,
        e,
        take_at (take at old ++ bs) (drop (at + length bs) old) (at + length bs) front,
        drop_at (take at old ++ bs) (drop (at + length bs) old) (at + length bs) front,
        drop-drop,
        behind,
      )
      (sym (append_assoc (take at old ++ bs) part (drop (at + length (bs ++ part)) old))
      ∙ ap (λ l. l ++ drop (at + length (bs ++ part)) old) (append_assoc (take at old) bs part))

  pub put_more : (i start w : ℕ) (block part : List ℕ) (x : A) → Putting width to at xs old i start block → i < length xs → x ≡ get_or xs i x
      → w ≡ width → part ≡ to x → length (to x) ≡ width → Putting width to at xs old (i + 1) (start + w) (put_mid start (start + w - start) block part)
  put_more i start w block part x s h read u e l =
      let room = s.room in
      let place = s.place in
      let written = s.written in
      let fits : width * suc i ≤ width * length xs = mul-le-mul_left width h in
      let long : length part ≡ width = rw e l in
      let more : values_bytes to (take (suc i) xs) ≡ values_bytes to (take i xs) ++ part =
      rw (take-suc xs i x h, ← read, e) (values_snoc to (take i xs) x)
      in
      let next : length (values_bytes to (take (suc i) xs)) ≡ width * suc i = rw (more, length-append, written, long) (omega arith) in
      let whole : put_mid start (start + w - start) block part ≡ over at (values_bytes to (take (suc i) xs)) old =
      rw (s.whole, more) (over_more (values_bytes to (take i xs)) part start (start + w - start) (omega arith) (omega arith) (omega arith))
      in
      record {
        within = omega arith;
        room = room;
        long = ap length whole ∙ over_length (values_bytes to (take (suc i) xs)) (omega arith);
        place = rw (place, u) (omega arith);
        written = rw add-one next;
        whole = rw add-one whole;
      }

  pub put_end : (i start : ℕ) (block : List ℕ) → Putting width to at xs old i start block → length xs ≤ i → block ≡ values_put width to at xs old
  unfolding values_put
  put_end i start block s h =
      rw (le-leb (at + width * length xs) (length old) s.room)
      (s.whole ∙ rw (take_all i xs h))

  pub put_none : (w : ℕ) → w ≡ width → has_room (length old) at w (length xs) ≡ false → old ≡ values_put width to at xs old
  unfolding values_put
  put_none w e h = let no = rw e at h in rw no
