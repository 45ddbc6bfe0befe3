-- Where no way out was taken the rest is validity.
use Rattle.validity.proofs.Checked.{check_is}
use Rattle.validity.proofs.check.front_valid.Goals as goal

pub returns : goal.returns
returns c =
    check_is _ c.shape_known.ensures c.closed_bits-v.ensures c.regions_right-held.ensures c.entries_right-counted.ensures
    c.waiting_right-waiting.ensures c.open_holders_right-hold.ensures c.elected_now-who.ensures c.holder_right-ready.ensures
    c.counts_right-counts.ensures c.queues_right-stores.ensures c.timers_right-clock.ensures c.tasks_right-columns.ensures
    c.criteria_right-criteria.ensures c.if-not-regions_fit.false c.if-not-lines_fit.false c.if-not-election_fits.false c.if-not-stores_fit.false
