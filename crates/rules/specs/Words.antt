-- The few words that the rules are written with: all, every, below, the first that applies, one entry changed.
use Rattle.std.specs.Prelude.{ℕ, zero, suc, ◌-◌, Bool, true, false, cond, not, ◌&&◌, ◌||◌, ◌≡◌, List, [], ◌∷◌, ◌++◌, eqb, ltb, get_or, length, replicate}

abbrev pub is_zero : ℕ → Bool
is_zero n = eqb n 0

-- each of these tests holds
unfoldable pub all : List Bool → Bool
all [] = true
all (b ∷ bs) = b && all bs

-- the same as a type
abbrev pub Each : List Bool → Type 0
Each [] = Unit {0}
Each (b ∷ bs) = (b ≡ true) × Each bs

-- each entry of the list passes
unfoldable pub every {ℓ} : {A : Type ℓ} → (A → Bool) → List A → Bool
every p [] = true
every p (x ∷ xs) = p x && every p xs

-- each number below n passes
unfoldable pub below : ℕ → (ℕ → Bool) → Bool
below zero p = true
below (suc n) p = below n p && p n

-- each of the first n passes, of as many as there is room for
abbrev pub within : ℕ → ℕ → (ℕ → Bool) → Bool
within n room p = below room (λ i. not (ltb i n) || p i)

-- each past the first n passes, of as many as there is room for
abbrev pub past : ℕ → ℕ → (ℕ → Bool) → Bool
past n room p = below room (λ i. ltb i n || p i)

-- the list, and the filling behind it up to the end of the room
unfoldable pub padded {ℓ} : {A : Type ℓ} → ℕ → A → List A → List A
padded room filling xs = xs ++ replicate (room - length xs) filling

-- the values of the numbers below n
unfoldable pub column : ℕ → (ℕ → ℕ) → List ℕ
column zero value = []
column (suc n) value = column n value ++ (value n ∷ [])

-- of a stored number: 0 names nobody and nothing, any other the one before it
abbrev pub names : ℕ → ℕ → Bool
names entry n = eqb entry (suc n)

-- the list with the entry at i changed by f
abbrev pub altered {ℓ} : {A : Type ℓ} → ℕ → (A → A) → List A → List A
altered i f [] = []
altered zero f (x ∷ xs) = f x ∷ xs
altered (suc i) f (x ∷ xs) = x ∷ altered i f xs

-- the entry of an operation, from a list with one for each; the other one for numbers past the list
abbrev pub by_operation {ℓ} : {A : Type ℓ} → A → ℕ → List A → A
by_operation other operation entries = get_or entries operation other

-- a status number, and whether it applies
pub record Reason : Type 0 where
  pub status : ℕ
  pub applies : Bool

abbrev pub when : ℕ → Bool → Reason
when status applies = record { status = status; applies = applies }

-- "the first that applies is given, and none is given otherwise": 0 is none
abbrev pub first : List Reason → ℕ
first [] = 0
first (r ∷ rs) = cond r.applies r.status (first rs)

-- none of them applies
abbrev pub None : List Reason → Type 0
None [] = Unit {0}
None (r ∷ rs) = (r.applies ≡ false) × None rs
