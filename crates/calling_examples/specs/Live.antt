-- A schedule that is judged and written while it happens. Rows stand with the newest first.
use Rattle.std.specs.Prelude.{◌≡◌, ℕ, List, [], ◌∷◌, ◌++◌, Option, None, IfSome, option_map, codes, decimal}
use Rattle.mc_task.specs.declared.task.Task.{Task}
use Rattle.mc_task.specs.declared.task.Rule.{Rule}
use Rattle.mc_task.specs.TaskSet.{task_at, name_in}
use Rattle.mc_model.specs.declared.row.Row.{Row}
use Rattle.mc_model.specs.declared.row.Row.TheVariants.{Release, Tick, Idle}
use Rattle.mc_model.specs.Rows.{ticks}
use Rattle.mc_model.specs.Legal.{Legal}
use Rattle.mc_model.specs.Late.{late}
use Rattle.mc_model.specs.Verdict.{verdict}
use Rattle.mc_model.specs.declared.verdict.Verdict.TheVariants as verdicts
use Rattle.mc_model.specs.TraceText.{how_word, kept_word}
use Rattle.calling_examples.specs.declared.live.Stop.{Stop}

-- five fields joined by commas, and a line feed
abbrev pub fields : List ℕ → List ℕ → List ℕ → List ℕ → List ℕ → List ℕ
fields event tick task job how =
    event ++ (codes "," ++ (tick ++ (codes "," ++ (task ++ (codes "," ++ (job ++ (codes "," ++ (how ++ codes "\n"))))))))

-- the line of a row after this many ticks, in version 1 of traces
unfoldable pub row_line : List Task → ℕ → Row → List ℕ
row_line set tick (Release j kept) =
    fields (codes "release") (decimal tick) (name_in (task_at set j.task.0)) (decimal j.count) (kept_word kept)
row_line set tick (Tick j how) =
    fields (codes "tick") (decimal tick) (name_in (task_at set j.task.0)) (decimal j.count) (how_word how)
row_line set tick Idle = fields (codes "idle") (decimal tick) [] [] []

-- the text of rows in version 1 of traces: the header, and a line for each row
abbrev pub rows_text : List Task → List Row → List ℕ
rows_text set [] = codes "event,tick,task,job,how\n"
rows_text set (row ∷ g) = rows_text set g ++ row_line set (ticks g) row

-- the bytes and one more line, if they are known
abbrev pub with_line : Option (List ℕ) → List ℕ → Option (List ℕ)
with_line written line = option_map (λ bytes. bytes ++ line) written

-- a live schedule: its set and rule, its rows, the bytes that were written, if they are known, and why it stopped
pub record LiveRows : Type 0 where
  pub set : List Task
  pub rule : Rule
  pub rows : List Row
  pub written : Option (List ℕ)
  pub stop : Option Stop

-- a live schedule of the set under the rule that has not stopped: its rows are legal, no job is late in them, and what was
-- written, if that is known, is their text
pub record IsLegalTrace (set : List Task) (rule : Rule) (live : LiveRows) : Type 0 where
  pub set_is : live.set ≡ set
  pub rule_is : live.rule ≡ rule
  pub going : live.stop ≡ None
  pub legal : Legal set rule live.rows
  pub timely : late set live.rows ≡ []
  pub judged : verdict set rule live.rows ≡ verdicts.Legal 0 None
  pub text : IfSome live.written (λ bytes. bytes ≡ rows_text set live.rows)
