-- A chart that is filled in run by run, and the positions of its lines. The newest row stands first.
use Rattle.std.specs.Prelude.{ℕ, zero, suc, ◌+◌, ◌-◌, ◌*◌, ◌≤◌, List, ◌++◌, replicate, slice_set, codes}
use Rattle.mc_task.specs.declared.task.Task.{Task}
use Rattle.mc_model.specs.Rows.{ticks}
use Rattle.sched_chart.specs.ChartText.{task_marks, mode_marks, name_width, chart_line, lines_with}
use Rattle.mc_model.specs.declared.row.Row.{Row}
use Rattle.sched_chart.specs.declared.sheet.Sheet.{Sheet}

-- a valid sheet: names have a width of at most 32, and there are at most 2,000,000 ticks
pub record IsSheet (s : Sheet) : Type 0 where
  pub width : s.width ≤ 32
  pub ticks : s.ticks ≤ 2000000

-- how long a line is: a name of this width, a space, n characters and a line feed
abbrev pub line_length : ℕ → ℕ → ℕ
line_length width n = width + n + 2

-- the position of a tick's character: after the lines above it, a name and a space
abbrev pub place : ℕ → ℕ → ℕ → ℕ → ℕ
place width n line tick = line * line_length width n + (width + 1 + tick)

-- a text with n equal characters from a position on
abbrev pub filled : ℕ → ℕ → ℕ → List ℕ → List ℕ
filled at zero v text = text
filled at (suc n) v text = filled (at + 1) n v (slice_set text at v)

-- the characters of task number k after these rows, and a dot for each of n ticks that is still to come
abbrev pub task_marks_to : ℕ → List Row → ℕ → List ℕ
task_marks_to n h k = task_marks k h ++ replicate (n - ticks h) 46

-- the characters of the mode after these rows, and an L for each of n ticks that is still to come
abbrev pub mode_marks_to : ℕ → List Row → List ℕ
mode_marks_to n h = mode_marks h ++ replicate (n - ticks h) 76

-- the chart of n ticks, filled in up to these rows
unfoldable pub chart_to : List Task → ℕ → List Row → List ℕ
chart_to set n h =
    lines_with (task_marks_to n h) (name_width set) 1 set
    ++ chart_line (name_width set) (codes "(mode)") (mode_marks_to n h)
