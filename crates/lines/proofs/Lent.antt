-- A `Reader` that lies in a local is lent to a callee by `&mut`, for a lifetime that is made for the call, within that of the log, and comes back with what the callee left in it.
--     lies_in, lies_out    what the local holds and what a Reader owns are a Reader in memory, and back
--     Kept ν δ             what the lender keeps while the Reader is lent for ν ∷ κ under the name δ: the way back to ν's whole token, and the lender's part
--     lends                [ν]_1 ∗ [κ]_q ∗ (r lies there)  ⊢ ⇛ ∃ δ. ([ν ∷ κ] ∗ [κ]) ∗ own (the `&(ν ∷ κ) mut Reader`) ∗ Kept ν δ        each token at a half of q
--     comes_back           ([ν ∷ κ] ∗ [κ]) ∗ Kept ν δ ∗ res δ w  ⊢ ⇛ ([κ]_q ∗ what the local holds ∗ own w)
-- Assumes `Logic`.
use Rattle.std.proofs.Common.{ℕ, List, [], ◌∷◌}
use seplogic.Ra.Ura.{Ura}
use base.Share
use base.Fraction.{full_share}
use mir.Syntax.{named, erased}
use mir.Val.{Val, vptr}
use base.Logic.{SProp, ent, sep, ex, emp}
use base.Fml.{Lft, GName, Share, Fml, ftrue, fsep, fat, flft, fdead, fres, flent}
use types.Logic.{Logic, sem}
use types.Kit.{‵, raw, ◌⊛◌, some, later, ◌$◌, ◌∵◌, !, qed, move, drop, use1, use2, use3, split, join, pick, fsplit, fjoin, fpick, fpack, frame, await, updating, now as at_once, show, done}
use types.SemTy.{Body}
use denote.RattleType.{RattleType}
use denote.Laws.{Is, shows}
use denote.Lend.{lends_ref, ref_back}
use denote.Memory.{mem, cell_at, part_of}
use denote.Ref.{MutBor, NamedLft, MutRef}
use denote.Steps.{nothing}
use denote.Struct.Laws as LL
use denote.Struct.Steps.{spelt}
use borrow.Within.Token.{Rest, within_token, within_end}
use Rattle.lines.specs.declared.reader.Reader.{Reader}
use Rattle.lines.specs.contracts.reader.Reader as T
use Rattle.lines.proofs.reader.Reader.TheLaws as T'

module _ {M : Type 1} {𝓤 : Ura M} (𝓛 : Logic 𝓤) (κ : Lft) (q : Share) (l : ℕ) where
  -- the struct's type at the log's lifetime, as the callee's signature names it
  open 𝓛 use {H, A}

  abbrev α : NamedLft
  α = record { mir = named 1; lft = κ }

  abbrev pub R : RattleType
  R = T.the_row α

  -- the reference under the name δ at the Reader r
  abbrev pub ref : GName → Reader → MutBor Reader
  ref δ r = record { ref_ptr = (l, 0); ghost_name = δ; now = r }

  abbrev pub Cell : Val → Fml
  Cell u = fat full_share (T'.mir erased) l 0 u

  pub lies_in : (r : Reader) (u : Val) → ent 𝓤 (sep 𝓤 (sem 𝓛 (Cell u)) (sem 𝓛 (R.own_val r (u ∷ [])))) (sem 𝓛 ((mem R).own_at r l 0))
  unfolding part_of
  lies_in r u =
      qed 𝓛 (‵ (Cell u) ∷ ‵ (R.own_val r (u ∷ [])) ∷ []) ∵ use1 𝓛 (‵ (cell_at full_share R.mir (u ∷ []) l 0)) (𝓛.laws.at_raw full_share (T'.mir erased) l 0 u) $
      fjoin ! $ fpack ! (List Val) (λ us. fsep (cell_at full_share R.mir us l 0) (R.own_val r us)) (u ∷ []) $ done !

  pub lies_out : (r : Reader) → ent 𝓤 (sem 𝓛 ((mem R).own_at r l 0)) (sep 𝓤 (sem 𝓛 (Cell (T'.lowered r))) (sem 𝓛 (R.own_val r (T'.lowered r ∷ []))))
  unfolding part_of
  lies_out r =
      qed 𝓛 (‵ ((mem R).own_at r l 0) ∷ []) ∵ fpick ! (λ vs. fsplit ! $
      spelt ! R (Is R) (shows 𝓛 R) (LL.vals (T.the_type α) (T'.the_laws α)) (LL.tells (T.the_type α) (T'.the_laws α)) full_share r vs l 0 $
      use1 𝓛 (‵ (Cell (T'.lowered r))) (𝓛.laws.raw_at full_share (T'.mir erased) l 0 (T'.lowered r)) $ done !)

  -- the tokens while the Reader is lent
  abbrev pub Tokens : ℕ → SProp 𝓤
  Tokens ν = sep 𝓤 (A.lft (ν ∷ κ) (Share.left q)) (sep 𝓤 (A.lft κ (Share.right q)) (emp 𝓤))

  abbrev pub Kept : ℕ → GName → SProp 𝓤
  Kept ν δ = sep 𝓤 (Rest 𝓛 ν (Share.left q)) (A.lent (ν ∷ κ) (Body (mem R) l 0 δ))

  abbrev pub Lent : ℕ → Reader → GName → SProp 𝓤
  Lent ν r δ = sep 𝓤 (Tokens ν) (sep 𝓤 (sem 𝓛 ((MutRef (named 0) (ν ∷ κ) R).own_val (ref δ r) (vptr l 0 ∷ []))) (Kept ν δ))

  pub lends : (ν : ℕ) (r : Reader) → ent 𝓤 (sep 𝓤 (A.lft (ν ∷ []) full_share) (sep 𝓤 (A.lft κ q) (sem 𝓛 ((mem R).own_at r l 0)))) (H.⇛ (ex 𝓤 (Lent ν r)))
  lends ν r =
      qed 𝓛 (‵ (flft (ν ∷ []) full_share) ∷ ‵ (flft κ q) ∷ ‵ ((mem R).own_at r l 0) ∷ []) ∵ updating ! $ move ! (2 ∷ []) $
      use1 𝓛 (later (some (λ (δ : GName). ‵ ((MutRef (named 0) (ν ∷ κ) R).own_val (ref δ r) (vptr l 0 ∷ [])) ⊛ ‵ (flent (ν ∷ κ) (Body (mem R) l 0 δ)))))
      (lends_ref 𝓛 R (named 0) (ν ∷ κ) r l 0) $ await ! tt $ pick ! (λ δ. split ! $
      -- [the reference; the lender's part; ν's token; κ's token]
      move ! (3 ∷ []) $ use1 𝓛 (‵ (flft κ (Share.left q)) ⊛ ‵ (flft κ (Share.right q))) (𝓛.lfts.lft_split κ q) $ split ! $
      move ! (4 ∷ 0 ∷ []) $ use2 𝓛 (‵ (flft (ν ∷ κ) (Share.left q)) ⊛ raw (Rest 𝓛 ν (Share.left q))) (within_token 𝓛 ν κ (Share.left q)) $ split ! $
      -- [the token of ν ∷ κ; the way back; the other half of κ's token; the reference; the lender's part]
      at_once ! $ show ! (Lent ν r) δ $ nothing ! $ move ! (3 ∷ 0 ∷ []) $ join ! $ move ! (1 ∷ 0 ∷ []) $ join ! $ frame ! $ move ! (1 ∷ []) $ frame ! $ done !)

  pub comes_back : (ν : ℕ) (δ : GName) (w : Reader)
      → ent 𝓤 (sep 𝓤 (Tokens ν) (sep 𝓤 (Kept ν δ) (A.res δ (R.coded.code w))))
      (H.⇛ (sep 𝓤 (A.lft κ q) (sep 𝓤 (sem 𝓛 (Cell (T'.lowered w))) (sem 𝓛 (R.own_val w (T'.lowered w ∷ []))))))
  comes_back ν δ w =
      qed 𝓛 ((‵ (flft (ν ∷ κ) (Share.left q)) ⊛ ‵ (flft κ (Share.right q)) ⊛ ‵ ftrue) ∷
      (raw (Rest 𝓛 ν (Share.left q)) ⊛ ‵ (flent (ν ∷ κ) (Body (mem R) l 0 δ))) ∷ ‵ (fres δ (R.coded.code w)) ∷ []) ∵
      updating ! $ split ! $ move ! (2 ∷ []) $ split ! $ move ! (2 ∷ 0 ∷ []) $
      use2 𝓛 (later (‵ (fdead (ν ∷ κ)) ⊛ ‵ (flft κ (Share.left q)))) (within_end 𝓛 ν κ (Share.left q)) $ await ! tt $ split ! $
      -- [ν ∷ κ is over; a half of κ's token; the lender's part; the other half; the last value]
      move ! (0 ∷ 2 ∷ 4 ∷ []) $ use3 𝓛 (later (‵ ((mem R).own_at w l 0))) (ref_back 𝓛 R (ν ∷ κ) δ w l 0) $ await ! tt $
      use1 𝓛 (‵ (Cell (T'.lowered w)) ⊛ ‵ (R.own_val w (T'.lowered w ∷ []))) (lies_out w) $ at_once ! $
      move ! (2 ∷ []) $ split ! $ move ! (1 ∷ []) $ drop ! $ move ! (2 ∷ 0 ∷ []) $ use2 𝓛 (‵ (flft κ q)) (𝓛.lfts.lft_join κ q) $ frame ! $ done !
