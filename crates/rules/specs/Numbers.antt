-- The numbers of document 01's table of objects, and the numbers of the thirteen operations, each once by name.
use Rattle.std.specs.Prelude.{ℕ}

-- "Tasks: 1 to 32"; since T-07 1 to 64
abbrev pub task_room : ℕ
task_room = 64

-- "Priority: 0 to 255"
abbrev pub priority_end : ℕ
priority_end = 256

-- "Events: 16 for each task"; an event list is a number of 16 bits
abbrev pub event_end : ℕ
event_end = 16

abbrev pub list_end : ℕ
list_end = 65536

-- "Regions: 0 to 16"
abbrev pub region_room : ℕ
region_room = 16

-- "a region counts its entries, 1 to 255"
abbrev pub most_entries : ℕ
most_entries = 255

-- "Queues: 0 to 8"
abbrev pub queue_room : ℕ
queue_room = 8

-- "a store of 64 places for each queue, 512 in all"; a bound is 1 to 64
abbrev pub places : ℕ
places = 64

abbrev pub store_size : ℕ
store_size = 512

-- "a criterion 0 to 15"; for RETRIEVE "16 means the largest criterion present"
abbrev pub criterion_end : ℕ
criterion_end = 16

abbrev pub largest_present : ℕ
largest_present = 16

-- "16 timers"; "the tick counter has 32 bits and starts again at 0"; "delay 1 to 2147483647"
abbrev pub timer_room : ℕ
timer_room = 16

abbrev pub tick_end : ℕ
tick_end = 4294967296

abbrev pub longest_delay : ℕ
longest_delay = 2147483647

-- "255 for the outside"; and the elected task where none is ready
abbrev pub outside : ℕ
outside = 255

abbrev pub nobody : ℕ
nobody = 255

-- the thirteen operations
abbrev pub START : ℕ
START = 0

abbrev pub STOP : ℕ
STOP = 1

abbrev pub END : ℕ
END = 2

abbrev pub SIGNAL : ℕ
SIGNAL = 3

abbrev pub WAIT : ℕ
WAIT = 4

abbrev pub CLEAR : ℕ
CLEAR = 5

abbrev pub ENTER : ℕ
ENTER = 6

abbrev pub EXIT : ℕ
EXIT = 7

abbrev pub SEND : ℕ
SEND = 8

abbrev pub RETRIEVE : ℕ
RETRIEVE = 9

abbrev pub ARM : ℕ
ARM = 10

abbrev pub DISARM : ℕ
DISARM = 11

abbrev pub TICK : ℕ
TICK = 12
