-- Bytes written and read again, and read and written again, are what they were: numbers of every width, and timers.
use Rattle.std.proofs.Common.{ℕ, zero, suc, ◌+◌, ◌*◌, ◌/◌, ◌%◌, ◌^◌, ◌<◌, ◌≤◌, ◌≡◌, refl, sym, ap, ap₂, ◌∙◌, Bool, true, List, [], ◌∷◌, ◌++◌, append_assoc, arith, mod-eq_of_lt, ltb, get_or, length, take, drop, length-append, length-drop, take_at, drop_at, take-add, drop-cons, get_or-drop, get_or-take, get_or-append-add, length-take-le, ltb-true, lt-ltb}
use native.Mathlib.Nat.{one-le-pow}
use Rattle.std.proofs.lemmas.List.{drop-take, take-take}
use Rattle.rules.specs.declared.Timer.{Timer}
use Rattle.rules.specs.Numbers.{timer_room}
use Rattle.rules.specs.Words.{all, every}
use Rattle.rules.proofs.Bools.{given}
use Rattle.rules.proofs.Lists.{every_head, every_tail, every_cons, every_nil, every_in, every_append, every_take, every_drop}
use Rattle.packing.specs.Bytes.{word_width, number, bytes, values_in, values_bytes, values_put, numbers, spread}
use Rattle.packing.specs.Timers.{timer_width, unused_place, date_place, timer_in, timer_bytes, timers_in, timers_bytes, timers_put}
pub use Rattle.packing.specs.Widths.{bytes_length, timer_length}

-- a number of so many bytes
abbrev pub fits : ℕ → ℕ → Bool
fits width n = ltb n (256 ^ width)

abbrev pub is_byte : ℕ → Bool
is_byte n = fits 1 n

-- ---- one number

pub bytes_small : (width n : ℕ) → every is_byte (bytes width n) ≡ true
unfolding bytes
bytes_small zero n = every_nil is_byte
bytes_small (suc width) n = every_cons is_byte (n % 256) (bytes width (n / 256)) (lt-ltb (n % 256) 256 (omega arith)) (bytes_small width (n / 256))

number_bytes : (width n : ℕ) → fits width n ≡ true → number (bytes width n) ≡ n
unfolding number bytes
number_bytes zero n h = let l = ltb-true n 1 h in omega arith
number_bytes (suc width) n h =
    let l = ltb-true n (256 ^ suc width) h in
    let ih = number_bytes width (n / 256) (lt-ltb (n / 256) (256 ^ width) (omega arith)) in
    omega arith

bytes_number : (bs : List ℕ) → every is_byte bs ≡ true → bytes (length bs) (number bs) ≡ bs
unfolding number bytes
bytes_number [] h = refl
bytes_number (b ∷ bs) h =
    let l = ltb-true b 256 (every_head is_byte b bs h) in
    let low : (b + 256 * number bs) % 256 ≡ b = omega arith in
    let high : (b + 256 * number bs) / 256 ≡ number bs = omega arith in
    rw (low, high) (ap (λ r. b ∷ r) (bytes_number bs (every_tail is_byte b bs h)))

-- what some bytes stand for fits as many
number_small : (width : ℕ) (bs : List ℕ) → every is_byte bs ≡ true → number (take width bs) < 256 ^ width
unfolding number
number_small zero bs h = omega arith
number_small (suc width) [] h = one-le-pow (suc width) 256 (omega arith)
number_small (suc width) (b ∷ bs) h =
    let l = ltb-true b 256 (every_head is_byte b bs h) in
    let ih = number_small width bs (every_tail is_byte b bs h) in
    omega arith

-- ---- parts of a list, one behind the other

-- the list up to a place, and one part more
pub take_next {ℓ} : {A : Type ℓ} (place n : ℕ) (block front part : List A) → front ≡ take place block → part ≡ take n (drop place block)
    → front ++ part ≡ take (place + n) block
take_next place n block front part e f = ap₂ (λ xs ys. xs ++ ys) e f ∙ sym (take-add place n block)

-- ---- numbers one behind the other

pub spread_length : (width : ℕ) (ns : List ℕ) → length (spread width ns) ≡ width * length ns
unfolding values_bytes
spread_length width [] = omega arith
spread_length width (n ∷ ns) = simp (length-append, bytes_length, spread_length width ns) (omega arith)

pub spread_small : (width : ℕ) (ns : List ℕ) → every is_byte (spread width ns) ≡ true
unfolding values_bytes
spread_small width [] = every_nil is_byte
spread_small width (n ∷ ns) = every_append is_byte (bytes width n) (spread width ns) (bytes_small width n) (spread_small width ns)

pub numbers_spread : (width : ℕ) (ns rest : List ℕ) → every (fits width) ns ≡ true → numbers width (length ns) (spread width ns ++ rest) ≡ ns
unfolding values_in values_bytes
numbers_spread width [] rest h = refl
numbers_spread width (n ∷ ns) rest h =
    rw (
      append_assoc (bytes width n) (spread width ns) rest,
      take_at (bytes width n) (spread width ns ++ rest) width (bytes_length width n),
      drop_at (bytes width n) (spread width ns ++ rest) width (bytes_length width n),
      number_bytes width n (every_head (fits width) n ns h),
      numbers_spread width ns rest (every_tail (fits width) n ns h),
    )

pub numbers_length : (width count : ℕ) (bs : List ℕ) → length (numbers width count bs) ≡ count
unfolding values_in
numbers_length width zero bs = refl
numbers_length width (suc count) bs = ap suc (numbers_length width count (drop width bs))

pub numbers_fit : (width count : ℕ) (bs : List ℕ) → every is_byte bs ≡ true → every (fits width) (numbers width count bs) ≡ true
unfolding values_in
numbers_fit width zero bs h = every_nil (fits width)
numbers_fit width (suc count) bs h =
    every_cons (fits width) (number (take width bs)) (numbers width count (drop width bs))
    (lt-ltb _ (256 ^ width) (number_small width bs h))
    (numbers_fit width count (drop width bs) (every_drop is_byte width bs h))

-- the number that stands in front, written again
pub bytes_front : (width : ℕ) (bs : List ℕ) → every is_byte bs ≡ true → width ≤ length bs → bytes width (number (take width bs)) ≡ take width bs
bytes_front width bs h l =
    let e : length (take width bs) ≡ width = length-take-le width bs l in
    rw e at (bytes_number (take width bs) (every_take is_byte width bs h))

pub spread_numbers : (width count : ℕ) (bs : List ℕ) → every is_byte bs ≡ true → width * count ≤ length bs
    → spread width (numbers width count bs) ≡ take (width * count) bs
unfolding values_bytes values_in
spread_numbers width zero bs h l = let z : width * 0 ≡ 0 = omega arith in rw z
spread_numbers width (suc count) bs h l =
    let e : width * suc count ≡ width + width * count = omega arith in
    rw e
    (take_next width (width * count) bs _ _ (bytes_front width bs h (omega arith))
    (spread_numbers width count (drop width bs) (every_drop is_byte width bs h) (rw length-drop (omega arith))))

-- one byte by its place
pub byte_at : (i : ℕ) (bs : List ℕ) → every is_byte bs ≡ true → i < length bs → bytes 1 (get_or bs i 0) ≡ take 1 (drop i bs)
unfolding bytes
byte_at i bs h l =
    rw (drop-cons bs i 0 l, mod-eq_of_lt (ltb-true (get_or bs i 0) 256 (every_in is_byte bs i 0 h l)))

-- ---- timers

unfoldable pub timer_fits : Timer → Bool
timer_fits r = all (fits 1 r.armed ∷ fits 1 r.owner ∷ fits 1 r.event ∷ fits word_width r.date ∷ [])

-- a timer is read from its own bytes alone
timer_own : (bs : List ℕ) → timer_in (take timer_width bs) ≡ timer_in bs
unfolding timer_in
timer_own bs =
    rw (
      get_or-take timer_width bs 0 0 (omega arith),
      get_or-take timer_width bs 1 0 (omega arith),
      get_or-take timer_width bs 2 0 (omega arith),
      drop-take date_place word_width bs,
      take-take word_width word_width (drop date_place bs) (omega arith),
    )

timer_small : (r : Timer) → every is_byte (timer_bytes r) ≡ true
unfolding timer_bytes
timer_small r = search (every_append, bytes_small)

-- the byte that is not used
timer_unused : (r : Timer) (rest : List ℕ) → get_or (timer_bytes r ++ rest) unused_place 0 ≡ 0
unfolding timer_bytes bytes
timer_unused r rest = refl

same_timer : (r s : Timer) → r.armed ≡ s.armed → r.owner ≡ s.owner → r.event ≡ s.event → r.date ≡ s.date → r ≡ s
same_timer r s a o e d = λ i. record { armed = a i; owner = o i; event = e i; date = d i }

timer_read : (r : Timer) (rest : List ℕ) → timer_fits r ≡ true → timer_in (timer_bytes r ++ rest) ≡ r
unfolding timer_fits timer_in timer_bytes bytes
timer_read r rest h =
    let (a, (o, (e, (d, u)))) = given _ h in
    same_timer _ r
    (mod-eq_of_lt (ltb-true r.armed 256 a))
    (mod-eq_of_lt (ltb-true r.owner 256 o))
    (mod-eq_of_lt (ltb-true r.event 256 e))
    (number_bytes word_width r.date d)

-- the timer that stands in front, written again
timer_written : (bs : List ℕ) → every is_byte bs ≡ true → timer_width ≤ length bs → get_or bs unused_place 0 ≡ 0
    → timer_bytes (timer_in bs) ≡ take timer_width bs
unfolding timer_bytes timer_in
timer_written bs h l z =
    let byte : (i : ℕ) → i < timer_width → bytes 1 (get_or bs i 0) ≡ take 1 (drop i bs) = λ i k. byte_at i bs h (omega arith) in
    take_next date_place word_width bs _ _
    (take_next 3 1 bs _ _
    (take_next 2 1 bs _ _ (take_next 1 1 bs _ _ (byte 0 (omega arith)) (byte 1 (omega arith))) (byte 2 (omega arith)))
    (rw z at (byte 3 (omega arith))))
    (bytes_front word_width (drop date_place bs) (every_drop is_byte date_place bs h) (rw length-drop (omega arith)))

pub timers_length : (rs : List Timer) → length (timers_bytes rs) ≡ timer_width * length rs
unfolding values_bytes
timers_length [] = refl
timers_length (r ∷ rs) = simp (length-append, timer_length, timers_length rs) (omega arith)

pub timers_small : (rs : List Timer) → every is_byte (timers_bytes rs) ≡ true
unfolding values_bytes
timers_small [] = every_nil is_byte
timers_small (r ∷ rs) = every_append is_byte (timer_bytes r) (timers_bytes rs) (timer_small r) (timers_small rs)

pub timers_read : (rs : List Timer) (rest : List ℕ) → every timer_fits rs ≡ true → timers_in (length rs) (timers_bytes rs ++ rest) ≡ rs
unfolding values_in values_bytes
timers_read [] rest h = refl
timers_read (r ∷ rs) rest h =
    rw (append_assoc (timer_bytes r) (timers_bytes rs) rest, timer_own (timer_bytes r ++ (timers_bytes rs ++ rest)), timer_read r (timers_bytes rs ++ rest) (every_head timer_fits r rs h))
    (ap (λ l. r ∷ l)
    (ap (timers_in (length rs)) (drop_at (timer_bytes r) (timers_bytes rs ++ rest) timer_width (timer_length r))
    ∙ timers_read rs rest (every_tail timer_fits r rs h)))

pub timers_unused : (rs : List Timer) (rest : List ℕ) (i : ℕ) → i < length rs → get_or (timers_bytes rs ++ rest) (timer_width * i + unused_place) 0 ≡ 0
unfolding values_bytes
timers_unused [] rest i l = absurd (omega arith)
timers_unused (r ∷ rs) rest zero l = rw append_assoc (timer_unused r (timers_bytes rs ++ rest))
timers_unused (r ∷ rs) rest (suc i) l =
    let place : timer_width * suc i + unused_place ≡ length (timer_bytes r) + (timer_width * i + unused_place) = rw timer_length (omega arith) in
    rw (append_assoc, place, get_or-append-add) (timers_unused rs rest i (omega arith))

pub timers_written : (count : ℕ) (bs : List ℕ) → every is_byte bs ≡ true → timer_width * count ≤ length bs
    → ((i : ℕ) → i < count → get_or bs (timer_width * i + unused_place) 0 ≡ 0)
    → timers_bytes (timers_in count bs) ≡ take (timer_width * count) bs
unfolding values_in values_bytes
timers_written zero bs h l z = refl
timers_written (suc count) bs h l z =
    let e : timer_width * suc count ≡ timer_width + timer_width * count = omega arith in
    rw (e, timer_own bs)
    (take_next timer_width (timer_width * count) bs _ _ (timer_written bs h (omega arith) (z 0 (omega arith)))
    (timers_written count (drop timer_width bs) (every_drop is_byte timer_width bs h) (rw length-drop (omega arith)) later))
  where
    later : (i : ℕ) → i < count → get_or (drop timer_width bs) (timer_width * i + unused_place) 0 ≡ 0
    later i k =
        let place : timer_width + (timer_width * i + unused_place) ≡ timer_width * suc i + unused_place = omega arith in
        rw (get_or-drop, place) (z (suc i) (omega arith))

-- the table's timers, as many as there are, are written as any values are
pub timers_put_is : (at : ℕ) (rs : List Timer) (block : List ℕ) → length rs ≡ timer_room → values_put timer_width timer_bytes at rs block ≡ timers_put at rs block
unfolding values_put timers_put
timers_put_is at rs block l = rw l
