-- The text of a trace: a header line, and a line for each run of equal rows. Runs and rows stand in the order
-- of the text, THE OLDEST FIRST.
use Rattle.std.specs.Prelude.{ℕ, ◌+◌, Bool, true, false, List, [], ◌∷◌, ◌++◌, codes, decimal}
use Rattle.mc_task.specs.declared.task.Task.{Task}
use Rattle.mc_task.specs.TaskSet.{task_at, name_in}
use Rattle.mc_model.specs.Runs.{length_of, pack}
use Rattle.mc_model.specs.declared.row.How.{How}
use Rattle.mc_model.specs.declared.row.How.TheVariants.{More, Done, Stop, Over}
use Rattle.mc_model.specs.declared.row.Row.{Row}
use Rattle.mc_model.specs.declared.run.Run.{Run}
use Rattle.mc_model.specs.declared.run.Run.TheVariants.{Release, Ticks, Idles}

-- the word for how a tick ended
abbrev pub how_word : How → List ℕ
how_word More = codes "more"
how_word Done = codes "done"
how_word Stop = codes "stop"
how_word Over = codes "over"

-- the word for a kept release, or a dropped one
abbrev pub kept_word : Bool → List ℕ
kept_word true = codes "kept"
kept_word false = codes "dropped"

-- six fields joined by commas, and a line feed
abbrev pub line_of : List ℕ → List ℕ → List ℕ → List ℕ → List ℕ → List ℕ → List ℕ
line_of event tick length task job how =
    event ++ (codes "," ++ (tick ++ (codes "," ++ (length
    ++ (codes "," ++ (task ++ (codes "," ++ (job ++ (codes "," ++ (how ++ codes "\n"))))))))))

-- the line of a run whose first tick has this number
unfoldable pub run_line : List Task → ℕ → Run → List ℕ
run_line set tick (Release j kept) = line_of (codes "release") (decimal tick) []
    (name_in (task_at set j.task.0)) (decimal j.count) (kept_word kept)
run_line set tick (Ticks j how n) = line_of (codes "tick") (decimal tick) (decimal n)
    (name_in (task_at set j.task.0)) (decimal j.count) (how_word how)
run_line set tick (Idles n) = line_of (codes "idle") (decimal tick) (decimal n) [] [] []

-- the lines of runs, the first of which starts at this tick
abbrev pub lines_from : List Task → ℕ → List Run → List ℕ
lines_from set tick [] = []
lines_from set tick (r ∷ runs) = run_line set tick r ++ lines_from set (tick + length_of r) runs

-- the text of these runs: the header and their lines
abbrev pub runs_text : List Task → List Run → List ℕ
runs_text set runs = codes "event,tick,length,task,job,how\n" ++ lines_from set 0 runs

-- the text of a trace: the text of its packed runs
abbrev pub trace_text : List Task → List Row → List ℕ
trace_text set rows = runs_text set (pack rows)
