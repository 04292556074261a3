-- The numbers of events, as edfvd.h lists them: what came of an event, and what a row records.
use Rattle.std.specs.Prelude.{ℕ}

-- a release: the job is pending
abbrev pub KEPT : ℕ
KEPT = 1

-- a release in high mode of a low task: the job never runs
abbrev pub DROPPED : ℕ
DROPPED = 2

-- a release while a tick is in progress: it is kept or dropped at that tick's outcome
abbrev pub HELD : ℕ
HELD = 3

-- a tick is granted to the job
abbrev pub GIVEN : ℕ
GIVEN = 4

-- the job ran for the tick, and has more to do
abbrev pub MORE : ℕ
MORE = 5

-- the job is done
abbrev pub DONE : ℕ
DONE = 6

-- the job has used its own budget, and is stopped
abbrev pub STOP : ℕ
STOP = 7

-- the job passed its low budget
abbrev pub OVER : ℕ
OVER = 8

-- an idle tick
abbrev pub IDLE : ℕ
IDLE = 9
