-- What the types of the code give, and a definition over lists and numbers does not see: a byte has 8 bits, an element 32.
use Rattle.std.specs.Prelude.{ℕ, Bool, List, [], ◌∷◌, ltb}
use Rattle.rules.specs.declared.Table.{Table}
use Rattle.rules.specs.declared.Call.{Call}
use Rattle.rules.specs.declared.Answer.{Answer}
use Rattle.rules.specs.Words.{all, every}

abbrev pub byte_end : ℕ
byte_end = 256

abbrev pub word_end : ℕ
word_end = 4294967296

-- a block of bytes
abbrev pub are_bytes : List ℕ → Bool
are_bytes block = every (λ b. ltb b byte_end) block

-- "any 32-bit unsigned number": of everything else in a table validity says how large it may be
abbrev pub elements_in_range : Table → Bool
elements_in_range t = every (λ e. ltb e word_end) t.element

-- "a caller, an operation number and three 32-bit numbers a, b, c"
unfoldable pub call_in_range : Call → Bool
call_in_range c =
    all (ltb c.caller byte_end ∷ ltb c.operation byte_end ∷ ltb c.a word_end ∷ ltb c.b word_end ∷ ltb c.c word_end ∷ [])

-- "a status, a value, a key and the elected task"
unfoldable pub answer_in_range : Answer → Bool
answer_in_range r = all (ltb r.status byte_end ∷ ltb r.elected byte_end ∷ ltb r.key byte_end ∷ ltb r.displaced byte_end ∷ ltb r.value word_end ∷ [])
