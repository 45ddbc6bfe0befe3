-- After each call the table and the answers are those of the replay, and whether the table is valid stays as it is.
use Rattle.std.proofs.Common.{◌≡◌, ◌/◌, ◌<◌, ◌≤◌, ◌∙◌, List, [], refl, ap, length, get_or, take, length-set, arith, get_or-take, length-take-le, ℕ}
use Rattle.std.specs.Simd.{first_chunks}
use Rattle.rules.specs.Validity.{valid}
use Rattle.tables.specs.Fronts.{whole}
use Rattle.replay.specs.Log.{call_at}
use Rattle.replay.proofs.Runs.{ran_none, ran_again, call_there}
use Rattle.replay.proofs.log.run_log.Goals as goal
use Rattle.replay.proofs.log.run_log.Goals.{then-each, else-each}

pub loop-i-init : goal.loop-i-init
loop-i-init c = record { within = omega arith; ran = ran_none _ _ _ _ _ _ c.front_valid-known.ensures; long = refl }

pub loop-i-preserved : goal.loop-i-preserved
loop-i-preserved c =
    let log = c.args.log.now in
    let calls : List (List ℕ) = c.as_chunks.result.0.now in
    let i = c.loop-i.i in
    let ran = c.loop-i.invariant.ran in
    let truth : c.if-each.valid ≡ valid (whole c.loop-i.f c.loop-i.store.element c.loop-i.store.criterion) =
    elim c.if-each.branch [ then-each w ↦ w.valid-is ∙ w.front_valid-valid.ensures | else-each w ↦ w.valid-is ∙ ran.valid_is ]
    in
    let done = c.call_assuming-done.ensures truth in
    let many : length calls ≡ length log / 5 = c.as_chunks.ensures.front_len in
    let chunks : calls ≡ first_chunks 5 (length log / 5) log = c.as_chunks.ensures.front in
    let room : c.min-count.result ≤ length calls = omega arith in
    let inside : i < c.min-count.result = omega (arith, length-take-le c.min-count.result calls room) in
    let there : get_or (take c.min-count.result calls) i [] ≡ get_or (first_chunks 5 (length log / 5) log) i [] =
    get_or-take c.min-count.result calls i [] inside ∙ ap (λ (l : List (List ℕ)). get_or l i []) chunks
    in
    let below : i < length log / 5 = omega arith in
    let is : c.call_of.result ≡ call_at log i = c.call_of.ensures ∙ ap (λ (l : List ℕ). call_at l 0) there ∙ call_there log (length log / 5) i [] below in
    let again = ran_again _ _ _ _ _ _ _ _ _ ran _ is _ done.0 _ done.1.0 _ done.1.1 _ c.answer_number.ensures in
    record { within = omega arith; ran = again; long = rw length-set c.loop-i.invariant.long }
