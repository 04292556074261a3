-- The command line: which form the words have, and which command a form is.
use Rattle.std.specs.Prelude.{◌≡◌, ℕ, ◌+◌, ◌≤◌, ◌<◌, ◌-◌, ◌^◌, nat_le, nat_lt, List, [], ◌∷◌, if◌then◌else◌, Option, Some, None, option_map, option_and_then, codes, map}
use Rattle.std.specs.Borrow.{Bor}
use Rattle.std.specs.Str.{bytes_eq}
use Rattle.numeral.specs.Numeral.{numeral}
use Rattle.replies.specs.Reply.{Reply, reply_of}
use Rattle.command.specs.Command.{Command, answer}
use Rattle.command.specs.Within.{within}
use Rattle.task_commands.specs.Check.{check}
use Rattle.trace_commands.specs.OnTrace.{on_trace, IsScale}
use Rattle.trace_commands.specs.declared.action.TraceAction.{TraceAction}
use Rattle.trace_commands.specs.declared.action.TraceAction.TheVariants.{Judge, JudgeBy, Chart, Report, Migrate}
use Rattle.run_commands.specs.Run.{run}
use Rattle.run_commands.specs.Soak.{soak}
use Rattle.run_commands.specs.Live.{live}
use Rattle.demand_commands.specs.Demand.{demand}
use Rattle.part_commands.specs.Partition.{partition}
use Rattle.part_commands.specs.RunAll.{run_all}
use Rattle.study_commands.specs.Stretch.{stretch}
use Rattle.study_commands.specs.Accept.{accept}
use Rattle.study_commands.specs.declared.accept.AcceptCommand.{AcceptCommand}
use Rattle.command_line.specs.declared.form.Form.{Form}
use Rattle.command_line.specs.declared.form.Form.TheVariants as form

-- the command that a form asks for
abbrev pub command_of : Form → Command
command_of (form.Check c) = check c.tasks
command_of (form.Run c) = run c.tasks c.work c.ticks
command_of (form.OnTrace c) = on_trace c.action c.tasks c.trace
command_of (form.Soak c) = soak c.number c.tasks c.ticks
command_of (form.Live c) = live c.tasks c.ticks
command_of (form.Demand c) = demand c.demands
command_of (form.Partition c) = partition c.tasks c.processors
command_of (form.RunAll c) = run_all c.tasks c.work c.ticks c.processors
command_of (form.Stretch c) = stretch c.tasks
command_of (form.Accept c) = accept c.number c.sets c.tasks

-- a form's numbers are within bounds that its command needs: `run` and `runall` have at most 1,000,000 ticks,
-- and `live` at most 100,000; a scale is at most 1, a workload has 2 to 32 tasks, and the numbers of a study's
-- sets are below 2^64
abbrev pub IsInRange : Form → Type 0
IsInRange (form.Run c) = c.ticks ≤ 1000000
IsInRange (form.OnTrace c) = IsScale c.action
IsInRange (form.Soak c) = (2 ≤ c.tasks) × (c.tasks ≤ 32)
IsInRange (form.Live c) = c.ticks ≤ 100000
IsInRange (form.RunAll c) = c.ticks ≤ 1000000
IsInRange (form.Accept c) = c.number + c.sets < 2 ^ 64
IsInRange c = Unit {0}

-- the command runs each task of a set in a thread of its own, and has no reply on the caller's thread
abbrev pub StartsThreads : Form → Type 0
StartsThreads (form.Soak c) = Unit {0}
StartsThreads (form.Live c) = Unit {0}
StartsThreads (form.RunAll c) = Unit {0}
StartsThreads c = ⊥

-- the usage line, which names every form
abbrev pub usage_line : List ℕ
usage_line = codes "usage: check TASKS | run TASKS WORK TICKS | judge TASKS TRACE [P Q] | chart TASKS TRACE | report TASKS TRACE | soak NUMBER TASKCOUNT TICKS | migrate TASKS TRACE | live TASKS TICKS | demand DEMANDS | partition TASKS M | runall TASKS WORK TICKS M | stretch TASKS | accept NUMBER SETS TASKCOUNT\n"

-- a number within these bounds, of 1 to 20 digits
abbrev pub number : ℕ → ℕ → List ℕ → Option ℕ
number least most word = option_and_then (within least most) (numeral 20 word)

-- `judge` under the scale p/q, which is at most 1
abbrev pub judge_by : Option ℕ → Option ℕ → Option TraceAction
judge_by (Some p) (Some q) = if nat_le p q then Some (JudgeBy p q) else None
judge_by p q = None

-- a workload of n tasks, generated from number k
abbrev pub workload : Option ℕ → Option ℕ → Option ℕ → Option Form
workload (Some k) (Some n) (Some ticks) = Some (form.Soak (record { number = k; tasks = n; ticks = ticks }))
workload number tasks ticks = None

-- a study of n sets of m tasks with the numbers from k on, which are below 2^64
abbrev pub study : Option ℕ → Option ℕ → Option ℕ → Option AcceptCommand
study (Some k) (Some n) (Some m) =
    if nat_lt (k + n) (2 ^ 64) then Some (record { number = k; sets = n; tasks = m }) else None
study number sets tasks = None

-- `runall` of a set and its work, for a number of ticks, on a number of processors
abbrev pub parts_run : List ℕ → List ℕ → Option ℕ → Option ℕ → Option Form
parts_run tasks work (Some ticks) (Some processors) =
    Some (form.RunAll (record { tasks = tasks; work = work; ticks = ticks; processors = processors }))
parts_run tasks work ticks processors = None

-- the form of a command on a trace
abbrev pub trace_form : List ℕ → List ℕ → TraceAction → Form
trace_form tasks trace action = form.OnTrace (record { action = action; tasks = tasks; trace = trace })

-- the form that the words have, if any
abbrev pub form_of : List (List ℕ) → Option Form
form_of (word ∷ a ∷ []) =
    if bytes_eq word (codes "check") then Some (form.Check (record { tasks = a }))
    else if bytes_eq word (codes "demand") then Some (form.Demand (record { demands = a }))
    else if bytes_eq word (codes "stretch") then Some (form.Stretch (record { tasks = a })) else None
form_of (word ∷ a ∷ b ∷ []) =
    if bytes_eq word (codes "judge") then Some (trace_form a b Judge)
    else if bytes_eq word (codes "chart") then Some (trace_form a b Chart)
    else if bytes_eq word (codes "report") then Some (trace_form a b Report)
    else if bytes_eq word (codes "migrate") then Some (trace_form a b Migrate)
    else if bytes_eq word (codes "live")
    then option_map (λ ticks. form.Live (record { tasks = a; ticks = ticks })) (number 1 100000 b)
    else if bytes_eq word (codes "partition")
    then option_map (λ m. form.Partition (record { tasks = a; processors = m })) (number 1 16 b) else None
form_of (word ∷ a ∷ b ∷ c ∷ []) =
    if bytes_eq word (codes "run")
    then option_map (λ ticks. form.Run (record { tasks = a; work = b; ticks = ticks })) (number 1 1000000 c)
    else if bytes_eq word (codes "soak")
    then workload (number 0 (2 ^ 64 - 1) a) (number 2 32 b) (number 1 1000000 c)
    else if bytes_eq word (codes "accept")
    then option_map form.Accept (study (number 0 (2 ^ 64 - 1) a) (number 1 10000 b) (number 2 32 c)) else None
form_of (word ∷ a ∷ b ∷ c ∷ d ∷ []) =
    if bytes_eq word (codes "judge")
    then option_map (trace_form a b) (judge_by (number 1 (2 ^ 32 - 1) c) (number 1 (2 ^ 32 - 1) d))
    else if bytes_eq word (codes "runall") then parts_run a b (number 1 1000000 c) (number 1 16 d) else None
form_of words = None

-- the form that the words after the program's name have, if any
abbrev pub form_in : List (Bor (List ℕ)) → Option Form
form_in words = form_of (map (λ w. w.now) words)

-- the reply to words that have none of the forms: the usage line, with status 2
abbrev pub usage : Reply
usage = reply_of 2 usage_line

-- the command of a form; of words that have no form, the one that replies with the usage line
abbrev pub command : Option Form → Command
command None = answer (λ reply. reply ≡ usage)
command (Some form) = command_of form
