-- The lengths that the types of a front's columns give: a proof finds them once, where its function begins.
use Rattle.std.proofs.Common.{◌≡◌, length}
use Rattle.rules.specs.Numbers.{task_room, region_room, queue_room}
use Rattle.tables.specs.declared.front.Front.{Front}

pub record Lengths (f : Front) : Type 0 where
  pub priority_long : length f.priority ≡ task_room
  pub state_long : length f.state ≡ task_room
  pub awaits_long : length f.awaits ≡ task_room
  pub holder_long : length f.holder ≡ region_room
  pub entries_long : length f.entries ≡ region_room
  pub opened_long : length f.opened ≡ region_room
  pub bound_long : length f.bound ≡ queue_room
  pub length_long : length f.length ≡ queue_room
