-- Every timer passed is right, a way out has one that is not, and at the end of the room that is all of them.
use Rattle.std.proofs.Common.{sym, ◌∙◌, rules, lt-ltb}
use Rattle.rules.specs.Words.{every}
use Rattle.rules.specs.Numbers.{tick_end}
use Rattle.rules.specs.Timers.{idle}
use Rattle.rules.specs.Validity.{timer_right, timers_right}
use Rattle.rules.proofs.Lists.{every_again, every_out, every_end}
use Rattle.timers.proofs.Fits.{judged}
use Rattle.timers.proofs.check.timers_right.Goals as goal

pub loop-r-init : goal.loop-r-init
unfolding every
loop-r-init c = search rules

pub returns-then-not-timer_fits : goal.returns-then-not-timer_fits
unfolding timers_right
returns-then-not-timer_fits c =
    let owners = c.owners_of-owners in
    let f = c.args.f.now in
    let right = timer_right f.tasks f.state f.ticks in
    let fits =
    judged f.tasks owners.result f.ticks f.state _ owners.ensures (search rules) c.state_at-its.ensures
    c.timer_fits.ensures in
    rw (lt-ltb f.ticks tick_end (search rules))
    (every_out right c.loop-r.r-index f.timers idle fits (search rules) (c.if-not-timer_fits.true))

pub loop-r-preserved : goal.loop-r-preserved
loop-r-preserved c =
    let owners = c.owners_of-owners in
    let f = c.args.f.now in
    let right = timer_right f.tasks f.state f.ticks in
    let fits =
    judged f.tasks owners.result f.ticks f.state _ owners.ensures (search rules) c.state_at-its.ensures
    c.timer_fits.ensures in
    let again = every_again right c.loop-r.r-index f.timers idle c.loop-r.invariant.1 fits (search rules) in
    (search rules, sym (c.if-not-timer_fits.false) ∙ again)

pub returns : goal.returns
unfolding timers_right
returns c =
    let f = c.args.f.now in
    rw (lt-ltb f.ticks tick_end (search rules))
    (every_end (timer_right f.tasks f.state f.ticks) c.loop-r.r-index f.timers c.loop-r.invariant.1 (search rules))
