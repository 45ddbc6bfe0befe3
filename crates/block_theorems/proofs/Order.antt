-- Demand 3 over blocks: a run over blocks is the run over the tables in them, and one over a block that is not accepted changes nothing.
use Rattle.std.proofs.Common.{ℕ, ◌<◌, ◌≡◌, refl, sym, ap, ap₂, ◌∙◌, subst, true, false, List, [], ◌∷◌, map, arith}
use mathlib.Core.Path.{fun_ext}
use Rattle.rules.specs.declared.Call.{Call}
use Rattle.rules.specs.Numbers.{SEND}
use Rattle.rules.specs.Words.{every}
use Rattle.rules.specs.Step.{step}
use Rattle.rules.proofs.Lists.{every_head, every_tail}
use Rattle.theorems.specs.Happenings.{Outer, signal, tick, Happening, outside, own, outer_call, call_of, calls, outers, Reply, reply, run as table_run, call_replies as table_replies, status_first as table_first, outer_statuses as table_statuses, InTurn as TableInTurn}
use Rattle.theorems.proofs.Order.{demand3}
use Rattle.layout.specs.Layout.{unpacked, packed, is_table}
use Rattle.layout.specs.Calls.{call_block, untouched}
use Rattle.block_theorems.specs.Ranges.{word_end, are_bytes, call_in_range}
use Rattle.block_theorems.specs.Happenings.{run, reply_in, call_replies, status_first, outer_statuses, InTurn, Demand3Blocks, Demand3Damaged}
use Rattle.block_theorems.proofs.Packs.{unpack_then_pack}
use Rattle.block_theorems.proofs.Kept.{call_answered, call_kept, kept_block, left}

-- ---- an accepted block

-- what is said of a block and of the table in it
record Alike (block : List ℕ) (xs : List Happening) : Type 0 where
  last : run block xs ≡ packed (table_run step (unpacked block) xs)
  replies : call_replies block xs ≡ table_replies step (unpacked block) xs
  statuses : outer_statuses block xs ≡ table_statuses step (unpacked block) xs
  in_turn : InTurn block xs → TableInTurn step (unpacked block) xs

-- what comes from outside sends no element
no_element : (o : Outer) → (outer_call o).operation ≡ SEND → (outer_call o).b < word_end
no_element (signal s) e = absurd (omega arith)
no_element (tick n) e = omega arith

first_alike : (block : List ℕ) → are_bytes block ≡ true → is_table block ≡ true → (o : Outer) → status_first block o ≡ table_first step (unpacked block) o
first_alike block small is o = ap (λ r. r.status) (call_answered block (outer_call o) small is)

alike : (xs : List Happening) (block : List ℕ) → are_bytes block ≡ true → is_table block ≡ true → every call_in_range (calls xs) ≡ true → Alike block xs
unfolding unpacked
alike [] block small is r =
    record { last = sym (unpack_then_pack block small is).back; replies = refl; statuses = refl; in_turn = λ i. i }
alike (outside o ∷ xs) block small is r =
    let k = call_kept block (outer_call o) small is (no_element o) in
    let ih = alike xs (call_block block (outer_call o)).block k.bytes k.accepted r in
    record {
      last = ih.last ∙ ap (λ t. packed (table_run step t xs)) k.table;
      replies = ih.replies ∙ ap (λ t. table_replies step t xs) k.table;
      statuses = ap₂ (λ s l. s ∷ l) (first_alike block small is o) (ih.statuses ∙ ap (λ t. table_statuses step t xs) k.table);
      in_turn = λ i. subst (λ t. TableInTurn step t xs) k.table (ih.in_turn i);
    }
alike (own c ∷ xs) block small is r =
    let k = kept_block block c small is (every_head call_in_range c (calls xs) r) in
    let ih = alike xs (call_block block c).block k.bytes k.accepted (every_tail call_in_range c (calls xs) r) in
    record {
      last = ih.last ∙ ap (λ t. packed (table_run step t xs)) k.table;
      replies = ap₂ (λ s l. s ∷ l) (ap reply (call_answered block c small is)) (ih.replies ∙ ap (λ t. table_replies step t xs) k.table);
      statuses = ih.statuses ∙ ap (λ t. table_statuses step t xs) k.table;
      in_turn = λ i. (i.0, subst (λ t. TableInTurn step t xs) k.table (ih.in_turn i.1));
    }

pub demand3_blocks : Demand3Blocks
demand3_blocks block xs ys small is r f c p i j =
    let x = alike xs block small is r in
    let y = alike ys block small is (subst (λ cs. every call_in_range cs ≡ true) c r) in
    let a = demand3 (unpacked block) xs ys (unpack_then_pack block small is).right f c p (x.in_turn i) (y.in_turn j) in
    let first : table_first step (unpacked block) ≡ status_first block = fun_ext (λ o. sym (first_alike block small is o)) in (
      x.last ∙ ap packed a.0 ∙ sym y.last,
      x.replies ∙ a.1 ∙ sym y.replies,
      x.statuses ∙ a.2 ∙ ap (λ g. map g (outers xs)) first,
      y.statuses ∙ a.3 ∙ ap (λ g. map g (outers ys)) first,
    )

-- ---- one that is not accepted: every call gets 10, and it stays

module _ (block : List ℕ) (d : is_table block ≡ false) where
  ten : Call → Reply
  ten c = reply_in (untouched block).answer

  run_stays : (xs : List Happening) → run block xs ≡ block
  run_stays [] = refl
  run_stays (x ∷ xs) = ap (λ s. run s.block xs) (left block (call_of x) d) ∙ run_stays xs

  replies_ten : (xs : List Happening) → call_replies block xs ≡ map ten (calls xs)
  unfolding ten
  replies_ten [] = refl
  replies_ten (outside o ∷ xs) = ap (λ s. call_replies s.block xs) (left block (outer_call o) d) ∙ replies_ten xs
  replies_ten (own c ∷ xs) =
      ap (λ s. reply_in s.answer ∷ call_replies s.block xs) (left block c d) ∙ ap (λ l. ten c ∷ l) (replies_ten xs)

  statuses_first : (xs : List Happening) → outer_statuses block xs ≡ map (status_first block) (outers xs)
  statuses_first [] = refl
  statuses_first (outside o ∷ xs) =
      ap (λ s. status_first block o ∷ outer_statuses s.block xs) (left block (outer_call o) d) ∙ ap (λ l. status_first block o ∷ l) (statuses_first xs)
  statuses_first (own c ∷ xs) = ap (λ s. outer_statuses s.block xs) (left block c d) ∙ statuses_first xs

pub demand3_damaged : Demand3Damaged
demand3_damaged block xs ys d same = (
  run_stays block d xs ∙ sym (run_stays block d ys),
  replies_ten block d xs ∙ ap (map (ten block d)) same ∙ sym (replies_ten block d ys),
  statuses_first block d xs,
  statuses_first block d ys,
)
