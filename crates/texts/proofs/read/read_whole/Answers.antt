-- What one more read gives stands behind what has been read, and is what the input began with then.
use Rattle.std.proofs.Common.{◌≡◌, ℕ, ◌≤◌, ◌+◌, List, ◌++◌, length, take, sym, ap, subst, ◌∙◌, rules, length-take-le}
use Rattle.std.proofs.lemmas.List.{take-append-le}
use Rattle.std.proofs.Math.Seq.{take-append-add}
use Rattle.std.specs.Io.KnownBytes.{Consumes}
use Rattle.std.proofs.KnownBytes.{Consumes-trans}
use borrow.Rule.Slice.PartMut.{put_mid, post_of}
use Rattle.texts.proofs.read.read_whole.Goals as goal

-- what a buffer begins with once n bytes of a part have come behind its first `end` bytes
take_more : (end k n : ℕ) (xs ys : List ℕ) → end ≤ length xs → n ≤ length ys → take (end + n) (put_mid end k xs ys) ≡ take end xs ++ take n ys
take_more end k n xs ys inside bound =
    let after = post_of end k xs in
    ap (λ m. take (m + n) (take end xs ++ (ys ++ after))) (sym (length-take-le end xs inside)) ∙ take-append-add (take end xs) (ys ++ after) n
    ∙ ap (λ l. take end xs ++ l) (take-append-le n ys after bound)

pub loop-n-preserved : goal.loop-n-preserved
loop-n-preserved g c =
    let loop = c.loop-n in
    let read = c.in-Ok-1-to-max in
    let more = take_more loop.end _ read.n loop.buffer c.read.new.buf loop.invariant.inside read.ensures.bound.0 in
    record {
      inside = search rules;
      read = subst (Consumes _ _) (sym more) (Consumes-trans _ _ _ _ _ loop.invariant.read read.ensures.bytes.0);
    }
