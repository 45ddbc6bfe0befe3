-- Of an accepted call an element fits, and its place is in the store; what is given out and what is closed is the step's.
use Rattle.tables.specs.Fronts.{whole}
use Rattle.queues.proofs.Places.{place_within}
use Rattle.calls.proofs.Together.{in_parts}
use Rattle.calls.proofs.Done.{retrieve_finds, retrieve_found}
use Rattle.rules.specs.Commands.{its_call}
use Rattle.calls.proofs.queue.retrieve_call.Goals as goal

pub returns-in_default : goal.returns-in_default
returns-in_default c =
    λ z. absurd (retrieve_finds (whole c.args.t c.args.store.now.element c.args.store.now.criterion) (its_call c.args.k) z c.requires c.in_default.ensures)

pub bounds-store-place : goal.bounds-store-place
bounds-store-place c = place_within _ _ _ _ c.in-Some.ensures

pub bounds-store-place-2 : goal.bounds-store-place-2
bounds-store-place-2 c = place_within _ _ _ _ c.in-Some.ensures

pub returns : goal.returns
returns c =
    λ z.
    rw c.plain-2.ensures
    (in_parts
    (retrieve_found (whole c.args.t c.args.store.now.element c.args.store.now.criterion) (its_call c.args.k) z c.requires
    c.in-Some.ensures c.close_gap.ensures.elements c.close_gap.ensures.criteria))
