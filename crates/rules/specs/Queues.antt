-- Queues: "a queue means the list of its (element, criterion) pairs in order of sending", and how that list lies in the flat store.
use Rattle.std.specs.Prelude.{ℕ, suc, ◌+◌, ◌*◌, max, Bool, cond, List, [], ◌∷◌, ◌++◌, map, eqb, leb, length, take, drop}
use Rattle.std.proofs.Math.Seq.{slice}
use Rattle.rules.specs.Numbers.{places, largest_present}
use Rattle.rules.specs.Words.{padded}

pub record Pair : Type 0 where
  pub element : ℕ
  pub criterion : ℕ

abbrev pub pair : ℕ → ℕ → Pair
pair element criterion = record { element = element; criterion = criterion }

abbrev pub no_pair : Pair
no_pair = pair 0 0

unfoldable pub pairs : List ℕ → List ℕ → List Pair
pairs [] cs = []
pairs (e ∷ es) [] = []
pairs (e ∷ es) (c ∷ cs) = pair e c ∷ pairs es cs

abbrev pub elements : List Pair → List ℕ
elements = map (λ p. p.element)

abbrev pub criteria : List Pair → List ℕ
criteria = map (λ p. p.criterion)

-- ---- "a store of 64 places for each queue": those of queue q begin at 64 q

abbrev pub first_place : ℕ → ℕ
first_place q = q * places

-- queue q's first n places, and those behind them
unfoldable pub front : ℕ → ℕ → List ℕ → List ℕ
front q n store = slice (first_place q) (first_place q + n) store

unfoldable pub behind : ℕ → ℕ → List ℕ → List ℕ
behind q n store = slice (first_place q + n) (first_place q + places) store

-- the store with queue q's places holding xs, and zeros behind
unfoldable pub laid : ℕ → List ℕ → List ℕ → List ℕ
laid q xs store = take (first_place q) store ++ (padded places 0 xs ++ drop (first_place q + places) store)

-- ---- RETRIEVE: "oldest element of that criterion removed; 16 means the largest criterion present"

unfoldable pub largest : List ℕ → ℕ
largest [] = 0
largest (c ∷ cs) = max c (largest cs)

abbrev pub wanted : ℕ → List ℕ → ℕ
wanted k cs = cond (eqb k largest_present) (largest cs) k

-- how many stand before the oldest of criterion k; all of them where there is none
unfoldable pub before : ℕ → List ℕ → ℕ
before k [] = 0
before k (c ∷ cs) = cond (eqb c k) 0 (suc (before k cs))

-- the place in the queue of the element that RETRIEVE takes
unfoldable pub place : ℕ → List Pair → ℕ
place k queue = before (wanted k (criteria queue)) (criteria queue)

-- "no element fits"
abbrev pub none_fits : ℕ → List Pair → Bool
none_fits k queue = leb (length queue) (place k queue)

-- the list with the entry at i removed
unfoldable pub without {ℓ} : {A : Type ℓ} → ℕ → List A → List A
without i xs = take i xs ++ drop (suc i) xs

-- the gap at `at` closed: what stands up to `end` moved one down, and 0 in the last place
abbrev pub closed : ℕ → ℕ → List ℕ → List ℕ
closed at end l = take at l ++ (slice (suc at) end l ++ 0 ∷ drop end l)
