-- The numbers of the statuses, as edfvd.h lists them: with 0 a call did what it says, and each other one says why it did not.
use Rattle.std.specs.Prelude.{ℕ}

-- the call did what it says
abbrev pub OK : ℕ
OK = 0

-- the set has no task
abbrev pub EMPTY : ℕ
EMPTY = 1

-- the set has more than 128 tasks
abbrev pub TOO_MANY : ℕ
TOO_MANY = 2

-- a period, deadline or budget of the task is 0
abbrev pub ZERO_NUMBER : ℕ
ZERO_NUMBER = 3

-- the task's low budget is above its high one, or it is a low task with two budgets
abbrev pub BUDGET_ORDER : ℕ
BUDGET_ORDER = 4

-- two tasks have one name; never returned, since the calls name tasks by their numbers
abbrev pub SAME_NAME : ℕ
SAME_NAME = 5

-- the task's level is neither 0 for low nor 1 for high
abbrev pub LEVEL : ℕ
LEVEL = 6

-- the hyperperiod of the tasks up to this one exceeds 2^60 ticks, or 500,000 for the demand test
abbrev pub PERIODS : ℕ
PERIODS = 7

-- the published test gives the set no rule; with a scale of the caller: it does not hold
abbrev pub NOT_ADMITTED : ℕ
NOT_ADMITTED = 8

-- an allocation failed
abbrev pub MEMORY : ℕ
MEMORY = 9

-- the set has no task of this number
abbrev pub NO_TASK : ℕ
NO_TASK = 10

-- the task's deadline is above its period
abbrev pub DEADLINE_ORDER : ℕ
DEADLINE_ORDER = 11

-- the scheduler or monitor is closed
abbrev pub CLOSED : ℕ
CLOSED = 12

-- the scheduler or monitor is open already
abbrev pub OPEN : ℕ
OPEN = 13

-- a tick of the task's job is in progress: its outcome comes first
abbrev pub RUNNING : ℕ
RUNNING = 20

-- the task may release again only at a later tick
abbrev pub TOO_SOON : ℕ
TOO_SOON = 21

-- no place is left for another row, or no number for another job of the task
abbrev pub FULL : ℕ
FULL = 22

-- a tick of the job is in progress: its outcome comes first
abbrev pub TICK_OUT : ℕ
TICK_OUT = 23

-- another job is the chosen one, or none is pending
abbrev pub NOT_CHOSEN : ℕ
NOT_CHOSEN = 24

-- no tick of this job is in progress
abbrev pub NOT_OUT : ℕ
NOT_OUT = 25

-- a job is pending, so the tick is not idle, and the counts do not start anew
abbrev pub PENDING : ℕ
PENDING = 26

-- the scheduler has no row of this number yet
abbrev pub NO_ROW : ℕ
NO_ROW = 27

-- the published test admits the set at no percentage
abbrev pub NO_PERCENTAGE : ℕ
NO_PERCENTAGE = 28

-- the task fits on none of the processors
abbrev pub NO_PROCESSOR : ℕ
NO_PROCESSOR = 29

-- the row is older than those that a scheduler without an end keeps
abbrev pub GONE : ℕ
GONE = 30

-- the run passes the tick at which its job ends or overruns
abbrev pub PAST : ℕ
PAST = 31

-- a number is outside the range that the call states
abbrev pub ARGUMENT : ℕ
ARGUMENT = 43

-- the array is too short
abbrev pub SHORT_BUFFER : ℕ
SHORT_BUFFER = 44
