-- Each way out is a rule that the configuration breaks, and what is left is the fresh table.
use Rattle.std.proofs.Common.{◌≡◌, ◌&&◌, ◌<◌, ◌≤◌, true, length, sym, ◌∙◌, rules, arith}
use Rattle.std.proofs.lemmas.Iterator.{YieldsList-from_slice}
use Rattle.std.proofs.lemmas.Iterator.Consumers.{fold_from_yields_List}
use Rattle.rules.specs.Numbers.{task_room, queue_room, region_room}
use Rattle.rules.specs.Words.{every}
use Rattle.rules.specs.Validity.{bound_in_range, mark_in_range}
use Rattle.rules.proofs.Rules.{counts_fit}
use Rattle.tables.proofs.Every.{every_from_fold}
use Rattle.tables.proofs.Configured.{counts_refuse, priorities_refuse, bounds_refuse, marks_refuse, bound_refuses, mark_refuses, accepts, first_of, bytes_fit}
use Rattle.tables.proofs.configuration.configured.Goals as goal

pub returns-then-not-counts_right : goal.returns-then-not-counts_right
returns-then-not-counts_right c = counts_refuse _ _ _ _ _ _ (sym c.counts_right.ensures ∙ c.if-not-counts_right.true)

pub returns-in_err-priorities : goal.returns-in_err-priorities
returns-in_err-priorities c =
    let counts = sym c.counts_right.ensures ∙ c.if-not-counts_right.false in
    let short : length c.args.priorities.now < c.args.tasks = omega (arith, c.from.ensures, c.in_err-priorities.ensures.lookup) in
    c.from_residual.ensures ∙ priorities_refuse _ _ _ _ _ _ counts short

pub returns-in_err-bounds : goal.returns-in_err-bounds
returns-in_err-bounds c =
    let counts = sym c.counts_right.ensures ∙ c.if-not-counts_right.false in
    let p : c.args.tasks ≤ length c.args.priorities.now = omega (arith, c.from.ensures, c.in_ok-priorities.ensures.lookup) in
    let short : length c.args.bounds.now < c.args.queues = omega (arith, c.from-2.ensures, c.in_err-bounds.ensures.lookup) in
    c.from_residual-in_err-bounds.ensures ∙ bounds_refuse _ _ _ _ _ _ counts p short

pub returns-in_err-marks : goal.returns-in_err-marks
returns-in_err-marks c =
    let counts = sym c.counts_right.ensures ∙ c.if-not-counts_right.false in
    let p : c.args.tasks ≤ length c.args.priorities.now = omega (arith, c.from.ensures, c.in_ok-priorities.ensures.lookup) in
    let b : c.args.queues ≤ length c.args.bounds.now = omega (arith, c.from-2.ensures, c.in_ok-bounds.ensures.lookup) in
    let short : length c.args.marks.now < c.args.regions = omega (arith, c.from-3.ensures, c.in_err-marks.ensures.lookup) in
    c.from_residual-in_err-marks.ensures ∙ marks_refuse _ _ _ _ _ _ counts p b short

pub returns-then-not-bounds_fit : goal.returns-then-not-bounds_fit
returns-then-not-bounds_fit c =
    let counts = sym c.counts_right.ensures ∙ c.if-not-counts_right.false in
    let p : c.args.tasks ≤ length c.args.priorities.now = omega (arith, c.from.ensures, c.in_ok-priorities.ensures.lookup) in
    let b : c.args.queues ≤ length c.args.bounds.now = omega (arith, c.from-2.ensures, c.in_ok-bounds.ensures.lookup) in
    let m : c.args.regions ≤ length c.args.marks.now = omega (arith, c.from-3.ensures, c.in_ok-marks.ensures.lookup) in
    let bounds = c.in_ok-bounds.bounds.now in
    let all_bounds : c.fold-bounds_fit.result ≡ every bound_in_range bounds =
    fold_from_yields_List _ (λ ok b. ok && bound_in_range b) true _ c.fold-bounds_fit.ensures.ran (YieldsList-from_slice bounds cc) (λ a x b q h. search rules) ∙ every_from_fold bound_in_range bounds in
    let first_bounds = first_of c.args.bounds.now c.args.queues _ c.in_ok-bounds.ensures.lookup.0.2 c.from-2.ensures in
    bound_refuses _ _ _ _ _ _ counts p b m (rw (← first_bounds, ← all_bounds) c.if-not-bounds_fit.true)

pub returns-then-not-marks_fit : goal.returns-then-not-marks_fit
returns-then-not-marks_fit c =
    let counts = sym c.counts_right.ensures ∙ c.if-not-counts_right.false in
    let p : c.args.tasks ≤ length c.args.priorities.now = omega (arith, c.from.ensures, c.in_ok-priorities.ensures.lookup) in
    let b : c.args.queues ≤ length c.args.bounds.now = omega (arith, c.from-2.ensures, c.in_ok-bounds.ensures.lookup) in
    let m : c.args.regions ≤ length c.args.marks.now = omega (arith, c.from-3.ensures, c.in_ok-marks.ensures.lookup) in
    let marks = c.in_ok-marks.marks.now in
    let all_marks : c.fold-marks_fit.result ≡ every mark_in_range marks =
    fold_from_yields_List _ (λ ok m. ok && mark_in_range m) true _ c.fold-marks_fit.ensures.ran (YieldsList-from_slice marks cc) (λ a x b q h. search rules) ∙ every_from_fold mark_in_range marks in
    let first_marks = first_of c.args.marks.now c.args.regions _ c.in_ok-marks.ensures.lookup.0.2 c.from-3.ensures in
    mark_refuses _ _ _ _ _ _ counts p b m (rw (← first_marks, ← all_marks) c.if-not-marks_fit.true)

pub padded-requires : goal.padded-requires
padded-requires c =
    let fits : c.args.tasks ≤ task_room = (counts_fit _ _ _ (sym c.counts_right.ensures ∙ c.if-not-counts_right.false)).0 in
    (search rules, omega (arith, c.from.ensures, c.in_ok-priorities.ensures.lookup))

pub padded-requires-2 : goal.padded-requires-2
padded-requires-2 c =
    let fits : c.args.queues ≤ queue_room = (counts_fit _ _ _ (sym c.counts_right.ensures ∙ c.if-not-counts_right.false)).2 in
    (search rules, omega (arith, c.from-2.ensures, c.in_ok-bounds.ensures.lookup))

pub padded-requires-3 : goal.padded-requires-3
padded-requires-3 c =
    let fits : c.args.regions ≤ region_room = (counts_fit _ _ _ (sym c.counts_right.ensures ∙ c.if-not-counts_right.false)).1 in
    (search rules, omega (arith, c.from-3.ensures, c.in_ok-marks.ensures.lookup))

pub returns : goal.returns
returns c =
    let counts = sym c.counts_right.ensures ∙ c.if-not-counts_right.false in
    let p : c.args.tasks ≤ length c.args.priorities.now = omega (arith, c.from.ensures, c.in_ok-priorities.ensures.lookup) in
    let b : c.args.queues ≤ length c.args.bounds.now = omega (arith, c.from-2.ensures, c.in_ok-bounds.ensures.lookup) in
    let m : c.args.regions ≤ length c.args.marks.now = omega (arith, c.from-3.ensures, c.in_ok-marks.ensures.lookup) in
    let bounds = c.in_ok-bounds.bounds.now in
    let all_bounds : c.fold-bounds_fit.result ≡ every bound_in_range bounds =
    fold_from_yields_List _ (λ ok b. ok && bound_in_range b) true _ c.fold-bounds_fit.ensures.ran (YieldsList-from_slice bounds cc) (λ a x b q h. search rules) ∙ every_from_fold bound_in_range bounds in
    let first_bounds = first_of c.args.bounds.now c.args.queues _ c.in_ok-bounds.ensures.lookup.0.2 c.from-2.ensures in
    let marks = c.in_ok-marks.marks.now in
    let all_marks : c.fold-marks_fit.result ≡ every mark_in_range marks =
    fold_from_yields_List _ (λ ok m. ok && mark_in_range m) true _ c.fold-marks_fit.ensures.ran (YieldsList-from_slice marks cc) (λ a x b q h. search rules) ∙ every_from_fold mark_in_range marks in
    let first_marks = first_of c.args.marks.now c.args.regions _ c.in_ok-marks.ensures.lookup.0.2 c.from-3.ensures in
    let first_priorities = first_of c.args.priorities.now c.args.tasks _ c.in_ok-priorities.ensures.lookup.0.2 c.from.ensures in
    rw (c.fresh_table.ensures, c.padded.ensures, c.padded-2.ensures, c.padded-3.ensures, first_priorities, first_bounds, first_marks)
    (accepts _ _ _ _ _ _ counts p b m (bytes_fit _ c.type_inv.priorities _) (rw (← first_bounds, ← all_bounds) c.if-not-bounds_fit.false) (rw (← first_marks, ← all_marks) c.if-not-marks_fit.false))
