-- The chart of a trace: a line for each task, with a character for each tick, and a line of the mode.
-- The newest row stands first: in `row ∷ g`, g is the prefix before the row.
use Rattle.std.specs.Prelude.{◌≡◌, ℕ, ◌+◌, ◌-◌, ◌==◌, max, Bool, true, false, ◌||◌, cond, List, [], ◌∷◌, ◌++◌, length, replicate, codes}
use Rattle.mc_task.specs.declared.task.Rule.{Rule}
use Rattle.mc_task.specs.declared.task.Task.{Task}
use Rattle.mc_model.specs.Mode.{is_over, high_mode}
use Rattle.mc_model.specs.Legal.{Legal}
use Rattle.mc_model.specs.declared.row.How.{How}
use Rattle.mc_model.specs.declared.row.How.TheVariants.{More, Done, Stop, Over}
use Rattle.mc_model.specs.declared.row.Row.{Row}
use Rattle.mc_model.specs.declared.row.Row.TheVariants.{Release, Tick, Idle}

-- the character of a tick with this outcome
abbrev pub how_mark : How → List ℕ
how_mark More = codes "#"
how_mark Done = codes "D"
how_mark Stop = codes "S"
how_mark Over = codes "O"

-- the characters of task number k, one for each tick: a dot if the tick is not its own
abbrev pub task_marks : ℕ → List Row → List ℕ
task_marks k [] = []
task_marks k (Release j kept ∷ g) = task_marks k g
task_marks k (Tick j how ∷ g) = task_marks k g ++ cond (j.task.0 == k) (how_mark how) (codes ".")
task_marks k (Idle ∷ g) = task_marks k g ++ codes "."

-- an Over row stands after the last Idle row
abbrev pub over_stands : List Row → Bool
over_stands [] = false
over_stands (Release j kept ∷ g) = over_stands g
over_stands (Tick j how ∷ g) = is_over how || over_stands g
over_stands (Idle ∷ g) = false

-- the character of high mode, or of low mode
abbrev pub mode_mark : Bool → List ℕ
mode_mark true = codes "H"
mode_mark false = codes "L"

-- the characters of the mode, one for each tick: the mode before the tick's row
abbrev pub mode_marks : List Row → List ℕ
mode_marks [] = []
mode_marks (Release j kept ∷ g) = mode_marks g
mode_marks (Tick j how ∷ g) = mode_marks g ++ mode_mark (over_stands g)
mode_marks (Idle ∷ g) = mode_marks g ++ mode_mark (over_stands g)

-- the width of names: 6, or the length of the longest name if that is greater
abbrev pub name_width : List Task → ℕ
name_width [] = 6
name_width (t ∷ ts) = max (length t.name) (name_width ts)

-- a line: a name, filled with spaces to the width, a space, and the characters
abbrev pub chart_line : ℕ → List ℕ → List ℕ → List ℕ
chart_line width name marks =
    name ++ (replicate (width - length name) 32 ++ (codes " " ++ (marks ++ codes "\n")))

-- the lines of these tasks, the first of which is number k, with the characters given for each number
abbrev pub lines_with : (ℕ → List ℕ) → ℕ → ℕ → List Task → List ℕ
lines_with marks width k [] = []
lines_with marks width k (t ∷ ts) = chart_line width t.name (marks k) ++ lines_with marks width (k + 1) ts

-- the chart of a set's trace
unfoldable pub chart_text : List Task → List Row → List ℕ
chart_text set h = lines_with (λ k. task_marks k h) (name_width set) 1 set
    ++ chart_line (name_width set) (codes "(mode)") (mode_marks h)

-- law: the mode in the chart of a legal trace is the mode under the rule
abbrev pub ChartedModeLaw : Type 0
ChartedModeLaw =
    (set : List Task) (rule : Rule) (h : List Row) → Legal set rule h → over_stands h ≡ high_mode rule h
