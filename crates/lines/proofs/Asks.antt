-- `next_line` is called on a `Reader` that lies in a local: the local is lent to it by `&mut`, for a lifetime that is made for the call, and comes back (`Lent.antt`).
--     NextLine     the contract of `next_line`: all that is known of it
--     Said         what it says of the line that it returns and of the Reader that it leaves
--     asks_next    the rule for such a call, in the walk of any function that has the token of the log's lifetime
-- Assumes `Logic`.
use Rattle.std.proofs.Common.{◌≡◌, ℕ, List, [], ◌∷◌}
use seplogic.Ra.Ura.{Ura}
use base.Share
use mir.Syntax.{Opd as Operand, Place, Body, named, seq, call}
use mir.Val.{Val, vptr}
use base.Logic.{SProp, ent, sep, id⊢}
use base.Fml.{Lft, GName, Share, flft}
use prog.Memory.{Memory}
use prog.Routine.{Routine}
use prog.Wp.{Env, Calls, Loops}
use types.Logic.{Logic, sem}
use contract.BorrowLft.{meet_⊑_right}
use contract.Monad.{Fun, fact}
use types.Kit.{Go, Item, Post, Sq, ‵, raw, ◌⊛◌, some, later, runs, lands, ◌$◌, ◌∵◌, !, qed, move, drop, use1, use2, use3, split, join, pick, fsplit, fjoin, frame, await, done}
use types.Run.{Opds}
use types.Tokens.{lft_new}
use sound.WpLaws.{FmC}
use denote.Memory.{mem}
use denote.Ref.{MutRef}
use denote.Steps.{heard, nothing}
use denote.Triple.Statement.{Contract, Triple}
use denote.Triple.Call.{calls_at}
use denote.Triple.Clauses.{ensured, lasts}
use denote.Triple.Spec.{triple_of}
use Rattle.lines.specs.Ends.{line_at}
use Rattle.lines.specs.Reading.{place_after}
use Rattle.lines.specs.declared.ends.Line.{Line}
use Rattle.lines.specs.declared.reader.Reader.{Reader}
use Rattle.lines.proofs.Lent.{R, ref, Cell, Tokens, Kept, lies_in, lends, comes_back}
use Rattle.lines.proofs.reader.Reader.TheLaws as T'
use Rattle.lines.specs.contracts.ends.Line as S
use Rattle.lines.specs.contracts.reader.next_line as next-line
use Rattle.lines.proofs.reader.next_line.Symbol.{name as #lines·reader·next-line}

abbrev pub NextLine : {M : Type 1} {𝓤 : Ura M} (𝓛 : Logic 𝓤) → (Memory → SProp 𝓤) → (Routine → Fun 𝓤) → Contract 𝓤
NextLine 𝓛 at_mem run = triple_of 𝓛 next-line.signature (next-line.spec 𝓛 at_mem run)

abbrev pub Said : Reader → Line → Reader → Type 0
Said r l w = (l ≡ line_at r.log.now r.at) × (w.log ≡ r.log) × (w.at ≡ place_after r.log.now (line_at r.log.now r.at))

module _ {M : Type 1} {𝓤 : Ura M} (𝓛 : Logic 𝓤) (at_mem : Memory → SProp 𝓤) (run : Routine → Fun 𝓤) (κ : Lft) (q : Share) (l : ℕ) (r : Reader) where
  -- what `next_line` is passed: the Reader r, which lies at l and is lent for ν ∷ κ under the name δ
  open 𝓛 use {H}

  abbrev pub to_next : ℕ → GName → (NextLine 𝓛 at_mem run).Ghost
  to_next ν δ = (((ν ∷ κ, (κ, tt)), (Share.left q, (Share.right q, tt)), (meet_⊑_right (ν ∷ []) κ, tt), (ref 𝓛 κ q l δ r, tt), (vptr l 0 ∷ [], tt)), tt)

  goes_next : (ν : ℕ) (δ : GName)
      → ent 𝓤 (sep 𝓤 (Tokens 𝓛 κ q l ν) (sem 𝓛 ((MutRef (named 0) (ν ∷ κ) (R 𝓛 κ q l)).own_val (ref 𝓛 κ q l δ r) (vptr l 0 ∷ []))))
      ((NextLine 𝓛 at_mem run).pre (to_next ν δ))
  goes_next ν δ =
      qed 𝓛 (raw (Tokens 𝓛 κ q l ν) ∷ ‵ ((MutRef (named 0) (ν ∷ κ) (R 𝓛 κ q l)).own_val (ref 𝓛 κ q l δ r) (vptr l 0 ∷ [])) ∷ []) ∵
      nothing ! $ move ! (2 ∷ 0 ∷ []) $ fjoin ! $ move ! (1 ∷ 0 ∷ []) $ join ! $ frame ! $ done !

  -- [the Reader r in its local; the token; ..] before the call, and [what the line owns; the Reader w in its local; the token; ..] after it
  pub asks_next : {C : Calls 𝓤 H} {Λ : Loops 𝓤 H} {E : Env 𝓤 H} {Γ : List (Item 𝓤)} {x : Operand} {d : Place} {rest : Body} {p : Post 𝓤 H}
      → FmC 𝓤 H 𝓛.laws C → Triple 𝓤 (C #lines·reader·next-line) (NextLine 𝓛 at_mem run)
      → ((ν : ℕ) (δ : GName) → Opds (Go {0}) 𝓛 (raw ((NextLine 𝓛 at_mem run).pre (to_next ν δ)) ∷ raw (Kept 𝓛 κ q l ν δ) ∷ Γ) E (x ∷ []) (vptr l 0 ∷ []))
      → ((u : Val) (line : Line) (w : Reader) → Said r line w
      → Sq 𝓛 (‵ ((S.the_row).own_val line (u ∷ [])) ∷ ‵ ((mem (R 𝓛 κ q l)).own_at w l 0) ∷ ‵ (flft κ q) ∷ Γ) (lands C Λ E d u rest p))
      → Sq 𝓛 (‵ ((mem (R 𝓛 κ q l)).own_at r l 0) ∷ ‵ (flft κ q) ∷ Γ) (runs C Λ E (seq (call #lines·reader·next-line (x ∷ []) d) rest) p)
  asks_next fm known reads goes_on =
      lft_new ! tt (λ ν. move ! (0 ∷ 2 ∷ 1 ∷ []) $
      use3 𝓛 (later (some (λ (δ : GName). raw (Tokens 𝓛 κ q l ν) ⊛
      (‵ ((MutRef (named 0) (ν ∷ κ) (R 𝓛 κ q l)).own_val (ref 𝓛 κ q l δ r) (vptr l 0 ∷ [])) ⊛ raw (Kept 𝓛 κ q l ν δ)))))
      (lends 𝓛 κ q l ν r) $ await ! tt $ pick ! (λ δ.
      split ! $ move ! (1 ∷ []) $ split ! $ move ! (2 ∷ 0 ∷ []) $ use2 𝓛 (raw ((NextLine 𝓛 at_mem run).pre (to_next ν δ))) (goes_next ν δ) $
      -- [what it asks; what the lender keeps; ..]
      calls_at ! fm (NextLine 𝓛 at_mem run) known (to_next ν δ) (reads ν δ) (λ u.
      use1 𝓛 (later (some (λ (line : Line). (raw (Tokens 𝓛 κ q l ν) ⊛ ‵ ((S.the_row).own_val line (u ∷ []))) ⊛ raw
      (ensured 𝓛 next-line.ended (next-line.clauses 𝓛 at_mem run) (ν ∷ κ, (κ, tt)) (ref 𝓛 κ q l δ r, tt) tt line)))) (id⊢ 𝓤 _) $ await ! tt $ pick ! (λ line.
      split ! $ move ! (1 ∷ []) $
      use1 𝓛 (some (λ (ws : Reader × Unit {0}). ‵ (lasts next-line.ended (ν ∷ κ, (κ, tt)) (ref 𝓛 κ q l δ r, tt) ws) ⊛ raw (fact 𝓤 (Said r line ws.0)))) (id⊢ 𝓤 _) $ pick ! (λ ws.
      split ! $ move ! (1 ∷ []) $ heard ! (Said r line ws.0) (λ e. fsplit ! $ move ! (1 ∷ []) $ drop ! $
      -- [the last value and the borrow that the callee leaves; ..]: of these the last value is kept
      fsplit ! $ move ! (1 ∷ []) $ drop ! $ move ! (1 ∷ []) $ split ! $
      -- [the tokens; what the line owns; the last value; what the lender keeps; ..]: the lifetime is ended, and the local comes back
      move ! (0 ∷ 3 ∷ 2 ∷ []) $
      use3 𝓛 (later (‵ (flft κ q) ⊛ (‵ (Cell 𝓛 κ q l (T'.lowered ws.0)) ⊛ ‵ ((R 𝓛 κ q l).own_val ws.0 (T'.lowered ws.0 ∷ [])))))
      (comes_back 𝓛 κ q l ν δ ws.0) $ await ! tt $ split ! $ move ! (1 ∷ []) $
      use1 𝓛 (‵ ((mem (R 𝓛 κ q l)).own_at ws.0 l 0)) (lies_in 𝓛 κ q l ws.0 (T'.lowered ws.0)) $
      move ! (2 ∷ []) $ goes_on u line ws.0 e))))))
