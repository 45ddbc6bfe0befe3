-- Circles and the calls: no circle stays no circle after an accepted ENTER, an EXIT and where a task leaves its line; an ENTER that gets 24 would close one.
use Prim.Native.Nat.{ℕ, zero, suc, ◌-◌, ◌<◌, ◌≤◌}
use mathlib.Core.Path.{◌≡◌, refl, sym, ap, ◌∙◌}
use mathlib.Core.Logic.{◌≢◌, ◌⊎◌, inl, inr, ⊎_elim}
use mathlib.Core.Bool.{Bool, true, false, false≢true}
use mathlib.Core.List.{List}
use native.Mathlib.Omega.{arith}
use lib.Dec.{eqb, ltb}
use lib.ListN.{get_or, set, length, length-set, get_or-eq_default}
use lib.Seq.{get_or-set_same, get_or-set_other}
use borrow.Author.Tests.{eqb-true, eqb-false, eq-eqb, ne_eqb, ltb-true, ltb-false}
use Rattle.rules.specs.Numbers.{task_room}
use Rattle.rules.specs.Circles.{onward, ends, meets, no_circle}
use Rattle.rules.proofs.Bools.{or_left, or_right}
use Rattle.rules.proofs.Counts.{below_at, below_all}
use Rattle.rules.proofs.Ways.{onward_none, onward_region, ends_here, ends_on, ends_stops, ends_within, goes_known}

-- ---- what a way comes to depends on its steps alone

module _ (awaits holder awaits' holder' : List ℕ) where
  -- a task's step is as it was, or its way ends
  abbrev Kept : ℕ → Type 0
  Kept j = (onward awaits' holder' j ≡ onward awaits holder j) ⊎ ((n : ℕ) × (ends awaits' holder' n j ≡ true))

  ways_kept : ((j : ℕ) → Kept j) → (left j : ℕ) → ends awaits holder left j ≡ true → (n : ℕ) × (ends awaits' holder' n j ≡ true)
  ways_kept kept zero j e = ⊎_elim (λ s. (0, ends_here awaits' holder' 0 j (s ∙ ends_stops awaits holder j e))) (λ n. n) (kept j)
  ways_kept kept (suc left) j e = ⊎_elim (λ s. go (onward awaits holder j) refl s (ways_kept kept left)) (λ n. n) (kept j)
    where
      go : (o : ℕ) → onward awaits holder j ≡ o → onward awaits' holder' j ≡ onward awaits holder j
          → ((k : ℕ) → ends awaits holder left k ≡ true → (n : ℕ) × (ends awaits' holder' n k ≡ true))
          → (n : ℕ) × (ends awaits' holder' n j ≡ true)
      go zero f s ih = (0, ends_here awaits' holder' 0 j (s ∙ f))
      go (suc k) f s ih =
          let rest = ih k (sym (ends_on awaits holder left j k f) ∙ e) in
          (suc rest.0, ends_on awaits' holder' rest.0 j k (s ∙ f) ∙ rest.1)

  pub no_circle_kept : length awaits' ≡ task_room → no_circle awaits holder ≡ true → ((j : ℕ) → Kept j) → no_circle awaits' holder' ≡ true
  unfolding no_circle
  no_circle_kept long none kept =
      below_all (ends awaits' holder' task_room) task_room
      (λ j l.
      let way = ways_kept kept task_room j (below_at (ends awaits holder task_room) task_room j none l) in
      ends_within awaits' holder' long way.0 j way.1)

-- a task that awaits something else
other_task : (awaits holder : List ℕ) (c v j : ℕ) → j ≢ c → onward (set awaits c v) holder j ≡ onward awaits holder j
unfolding onward
other_task awaits holder c v j d = rw (get_or-set_other awaits c j v 0 d)

-- ---- what each call changes

module _ (awaits holder : List ℕ) (long : length awaits ≡ task_room) (none : no_circle awaits holder ≡ true) where
  all_end : (i : ℕ) → ends awaits holder task_room i ≡ true
  unfolding no_circle
  all_end i = go (onward awaits holder i) refl
    where
      go : (o : ℕ) → onward awaits holder i ≡ o → ends awaits holder task_room i ≡ true
      go zero f = ends_here awaits holder task_room i f
      go (suc k) f = below_at (ends awaits holder task_room) task_room i none (goes_known awaits holder long i (λ z. omega arith))

  meets_here : (left c i : ℕ) → meets awaits holder left c i ≡ false → i ≢ c
  unfolding meets
  meets_here zero c i m = eqb-false i c m
  meets_here (suc left) c i m = eqb-false i c (or_left (eqb i c) _ m)

  meets_on : (left c i k : ℕ) → onward awaits holder i ≡ suc k → meets awaits holder (suc left) c i ≡ false → meets awaits holder left c k ≡ false
  unfolding meets
  meets_on left c i k f m =
      let less : suc k - 1 ≡ k = omega arith in
      rw (f, ne_eqb (suc k) 0 (λ z. omega arith), less) at (or_right (eqb i c) _ m)

  -- ENTER: caller c now awaits region r, whose holder's way doesn't meet it
  module _ (c r h : ℕ) (known : c < task_room) (held : get_or holder r 0 ≡ suc h) (apart : meets awaits holder task_room c h ≡ false) where
    apart_ends : (left i : ℕ) → meets awaits holder left c i ≡ false → ends awaits holder left i ≡ true
        → ends (set awaits c (suc r)) holder left i ≡ true
    apart_ends zero i m e =
        ends_here (set awaits c (suc r)) holder 0 i (other_task awaits holder c (suc r) i (meets_here 0 c i m) ∙ ends_stops awaits holder i e)
    apart_ends (suc left) i m e = go (onward awaits holder i) refl (apart_ends left)
      where
        same : onward (set awaits c (suc r)) holder i ≡ onward awaits holder i
        same = other_task awaits holder c (suc r) i (meets_here (suc left) c i m)

        go : (o : ℕ) → onward awaits holder i ≡ o
            → ((k : ℕ) → meets awaits holder left c k ≡ false → ends awaits holder left k ≡ true
            → ends (set awaits c (suc r)) holder left k ≡ true)
            → ends (set awaits c (suc r)) holder (suc left) i ≡ true
        go zero f ih = ends_here (set awaits c (suc r)) holder (suc left) i (same ∙ f)
        go (suc k) f ih =
            ends_on (set awaits c (suc r)) holder left i k (same ∙ f)
            ∙ ih k (meets_on left c i k f m) (sym (ends_on awaits holder left i k f) ∙ e)

    caller_onward : onward (set awaits c (suc r)) holder c ≡ suc h
    caller_onward = onward_region (set awaits c (suc r)) holder c r (get_or-set_same awaits c (suc r) 0 (omega arith)) ∙ held

    pub enter_keeps : no_circle (set awaits c (suc r)) holder ≡ true
    enter_keeps =
        no_circle_kept awaits holder (set awaits c (suc r)) holder (length-set awaits c (suc r) ∙ long) none (λ j. go j (eqb j c) refl)
      where
        go : (j : ℕ) (b : Bool) → eqb j c ≡ b → Kept awaits holder (set awaits c (suc r)) holder j
        go j true e =
            inr (
              suc task_room,
              ap (ends (set awaits c (suc r)) holder (suc task_room)) (eqb-true j c e)
                  ∙ ends_on (set awaits c (suc r)) holder task_room c h caller_onward
                  ∙ apart_ends task_room h apart (all_end h),
            )
        go j false e = inl (other_task awaits holder c (suc r) j (eqb-false j c e))

  -- a region that nobody awaits changes hands: ENTER of a free one, EXIT without an heir
  pub hands_keep : (r v : ℕ) → ((j : ℕ) → get_or awaits j 0 ≢ suc r) → no_circle awaits (set holder r v) ≡ true
  hands_keep r v unawaited = no_circle_kept awaits holder awaits (set holder r v) long none (λ j. inl (go j (get_or awaits j 0) refl))
    where
      go : (j a : ℕ) → get_or awaits j 0 ≡ a → onward awaits (set holder r v) j ≡ onward awaits holder j
      go j zero f = onward_none awaits (set holder r v) j f ∙ sym (onward_none awaits holder j f)
      go j (suc q) f =
          onward_region awaits (set holder r v) j q f
          ∙ get_or-set_other holder r q v 0 (λ e. unawaited j (f ∙ ap suc e))
          ∙ sym (onward_region awaits holder j q f)

  -- ---- where a task leaves its line, by STOP or as the heir

  module _ (x : ℕ) where
    cleared : get_or (set awaits x 0) x 0 ≡ 0
    cleared = go (ltb x (length awaits)) refl
      where
        go : (b : Bool) → ltb x (length awaits) ≡ b → get_or (set awaits x 0) x 0 ≡ 0
        go true e = get_or-set_same awaits x 0 0 (ltb-true x (length awaits) e)
        go false e =
            let past = ltb-false x (length awaits) e in
            let same = length-set awaits x 0 in
            get_or-eq_default (set awaits x 0) 0 (omega arith)

    gone_stops : (holder' : List ℕ) → onward (set awaits x 0) holder' x ≡ 0
    gone_stops holder' = onward_none (set awaits x 0) holder' x cleared

    pub leave_keeps : no_circle (set awaits x 0) holder ≡ true
    leave_keeps = no_circle_kept awaits holder (set awaits x 0) holder (length-set awaits x 0 ∙ long) none (λ j. go j (eqb j x) refl)
      where
        go : (j : ℕ) (b : Bool) → eqb j x ≡ b → Kept awaits holder (set awaits x 0) holder j
        go j true e = inr (0, ends_here (set awaits x 0) holder 0 j (ap (onward (set awaits x 0) holder) (eqb-true j x e) ∙ gone_stops holder))
        go j false e = inl (other_task awaits holder x 0 j (eqb-false j x e))

    -- EXIT: region r goes to task x, which awaited it
    module _ (r : ℕ) (known : r < length holder) where
      pub exit_keeps : no_circle (set awaits x 0) (set holder r (suc x)) ≡ true
      exit_keeps =
          no_circle_kept awaits holder (set awaits x 0) (set holder r (suc x)) (length-set awaits x 0 ∙ long) none
          (λ j. go j (eqb j x) refl (get_or awaits j 0) refl)
        where
          After : ℕ → Type 0
          After j = Kept awaits holder (set awaits x 0) (set holder r (suc x)) j

          stop : (j : ℕ) → onward (set awaits x 0) (set holder r (suc x)) j ≡ 0 → After j
          stop j e = inr (0, ends_here (set awaits x 0) (set holder r (suc x)) 0 j e)

          still : (j : ℕ) → j ≢ x → get_or (set awaits x 0) j 0 ≡ get_or awaits j 0
          still j d = get_or-set_other awaits x j 0 0 d

          go : (j : ℕ) (b : Bool) → eqb j x ≡ b → (a : ℕ) → get_or awaits j 0 ≡ a → After j
          go j true e a f = stop j (ap (onward (set awaits x 0) (set holder r (suc x))) (eqb-true j x e) ∙ gone_stops (set holder r (suc x)))
          go j false e zero f = stop j (onward_none (set awaits x 0) (set holder r (suc x)) j (still j (eqb-false j x e) ∙ f))
          go j false e (suc q) f = which (eqb q r) refl
            where
              next : onward (set awaits x 0) (set holder r (suc x)) j ≡ get_or (set holder r (suc x)) q 0
              next = onward_region (set awaits x 0) (set holder r (suc x)) j q (still j (eqb-false j x e) ∙ f)

              -- who awaits the region comes to its heir, and there the way ends
              which : (b : Bool) → eqb q r ≡ b → After j
              which true g =
                  inr (
                    1,
                    ends_on (set awaits x 0) (set holder r (suc x)) 0 j x
                        (next ∙ ap (λ p. get_or (set holder r (suc x)) p 0) (eqb-true q r g) ∙ get_or-set_same holder r (suc x) 0 known)
                        ∙ ends_here (set awaits x 0) (set holder r (suc x)) 0 x (gone_stops (set holder r (suc x))),
                  )
              which false g = inl (next ∙ get_or-set_other holder r q (suc x) 0 (eqb-false q r g) ∙ sym (onward_region awaits holder j q f))

-- ---- an ENTER whose holder's way meets the caller closes a circle: 24 is given for nothing else

module _ (awaits holder : List ℕ) (c r h : ℕ) (here : c < length awaits) (held : get_or holder r 0 ≡ suc h) where
  -- where the way came to c, it goes on as c's does
  comes_to : (left i n : ℕ) → meets awaits holder left c i ≡ true → ends (set awaits c (suc r)) holder n i ≡ true
      → (m : ℕ) × (m ≤ n) × (ends (set awaits c (suc r)) holder m c ≡ true)
  unfolding meets
  comes_to zero i n m e = (n, omega arith, ap (ends (set awaits c (suc r)) holder n) (sym (eqb-true i c m)) ∙ e)
  comes_to (suc left) i n m e = go (eqb i c) refl (onward awaits holder i) refl n e (comes_to left)
    where
      go : (b : Bool) → eqb i c ≡ b → (o : ℕ) → onward awaits holder i ≡ o → (n : ℕ) → ends (set awaits c (suc r)) holder n i ≡ true
          → ((k n : ℕ) → meets awaits holder left c k ≡ true → ends (set awaits c (suc r)) holder n k ≡ true
          → (m : ℕ) × (m ≤ n) × (ends (set awaits c (suc r)) holder m c ≡ true))
          → (m : ℕ) × (m ≤ n) × (ends (set awaits c (suc r)) holder m c ≡ true)
      go true d o f n e ih = (n, omega arith, ap (ends (set awaits c (suc r)) holder n) (sym (eqb-true i c d)) ∙ e)
      go false d zero f n e ih = absurd (false≢true (rw (d, eq-eqb (onward awaits holder i) 0 f) at m))
      go false d (suc k) f n e ih = on n e
        where
          next : onward (set awaits c (suc r)) holder i ≡ suc k
          next = other_task awaits holder c (suc r) i (eqb-false i c d) ∙ f

          on : (n : ℕ) → ends (set awaits c (suc r)) holder n i ≡ true → (m : ℕ) × (m ≤ n) × (ends (set awaits c (suc r)) holder m c ≡ true)
          on zero e = let stops = ends_stops (set awaits c (suc r)) holder i e in absurd (omega (arith, next))
          on (suc n) e =
              let less : suc k - 1 ≡ k = omega arith in
              let met = rw (d, f, ne_eqb (suc k) 0 (λ z. omega arith), less) at m in
              let rest = ih k n met (sym (ends_on (set awaits c (suc r)) holder n i k next) ∙ e) in
              (rest.0, omega (arith, rest.1), rest.2)

  never_ends : (left : ℕ) → meets awaits holder left c h ≡ true → (bound n : ℕ) → n < bound
      → ends (set awaits c (suc r)) holder n c ≡ true → ⊥
  never_ends left m zero n l e = absurd (omega arith)
  never_ends left m (suc bound) zero l e =
      let next = onward_region (set awaits c (suc r)) holder c r (get_or-set_same awaits c (suc r) 0 here) in
      let stops = ends_stops (set awaits c (suc r)) holder c e in
      absurd (omega arith)
  never_ends left m (suc bound) (suc n) l e =
      let next = onward_region (set awaits c (suc r)) holder c r (get_or-set_same awaits c (suc r) 0 here) ∙ held in
      let back = comes_to left h n m (sym (ends_on (set awaits c (suc r)) holder n c h next) ∙ e) in
      never_ends left m bound back.0 (omega (arith, back.1)) back.2

  pub enter_closes : length awaits ≡ task_room → meets awaits holder task_room c h ≡ true → no_circle (set awaits c (suc r)) holder ≡ false
  unfolding no_circle
  enter_closes long m = go (no_circle (set awaits c (suc r)) holder) refl
    where
      go : (b : Bool) → no_circle (set awaits c (suc r)) holder ≡ b → b ≡ false
      go true e =
          absurd
          (never_ends task_room m (suc task_room) task_room (omega arith)
          (below_at (ends (set awaits c (suc r)) holder task_room) task_room c e (omega arith)))
      go false e = refl
