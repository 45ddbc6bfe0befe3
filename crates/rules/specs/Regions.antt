-- Regions: "a region is free or has one holder". Stored: 0 where it is free, else the holder's number plus 1. "A region counts its entries".
use Rattle.std.specs.Prelude.{ℕ, suc, ◌-◌, Bool, cond, not, ◌&&◌, List, [], ◌∷◌, eqb}
use Rattle.rules.specs.declared.Region.{Region}
use Rattle.rules.specs.Words.{is_zero, names}

-- the first occupied region's entry; 0 where every region is free
unfoldable pub held : List ℕ → ℕ
held [] = 0
held (h ∷ hs) = cond (is_zero h) (held hs) h

-- "any region is occupied"
abbrev pub occupied : List ℕ → Bool
occupied holders = not (is_zero (held holders))

-- "the holder": of any occupied region, since all have the same
abbrev pub holder_of : List ℕ → ℕ
holder_of holders = held holders - 1

abbrev pub held_by : ℕ → Region → Bool
held_by task r = names r.holder task

-- "held by another task"
abbrev pub held_by_other : ℕ → Region → Bool
held_by_other task r = not (is_zero r.holder) && not (held_by task r)

-- ENTER: "caller becomes holder"; "a region counts its entries"
abbrev pub entered : ℕ → Region → Region
entered caller r = record { holder = suc caller; entries = suc r.entries }

-- EXIT: one entry less; "free only at the matching EXIT", which is that of the first entry
abbrev pub exited : Region → Region
exited r = record { holder = cond (eqb r.entries 1) 0 r.holder; entries = r.entries - 1 }

-- the region handed on: the heir "holds it with count 1"
abbrev pub handed : ℕ → Region
handed heir = record { holder = suc heir; entries = 1 }
