-- The table in its parts, the call on them, and the parts together again.
use Rattle.calls.proofs.Together.{put_together}
use Rattle.executive.proofs.by_value.call.Goals as goal

pub returns : goal.returns
returns c =
    let did = c.call_checked-d.ensures in
    put_together c.args.t c.args.k _ c.front_of.ensures _ c.store_of-store.ensures _ did.front _ did.elements _ did.criteria _ c.table_of.ensures
