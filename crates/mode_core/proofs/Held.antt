-- The definitions on a state, read off the rows after the granted tick has its outcome.
use Rattle.std.proofs.Common.{◌≡◌, ℕ, ◌+◌, Bool, List, [], ◌∷◌, Option, Some, None, length, refl, arith}
use Rattle.mc_task.specs.declared.task.Rule.{Rule}
use Rattle.mc_task.specs.declared.task.Task.{Task}
use Rattle.mc_task.specs.declared.task.JobId.{JobId}
use Rattle.mc_model.specs.declared.row.Row.{Row}
use Rattle.mc_model.specs.declared.row.Row.TheVariants.{Tick}
use Rattle.mc_model.specs.Rows.{ticks, releases, next_release}
use Rattle.mc_model.specs.Core.{next_after, jobs_of, tick_out, add_held, outcome_of, settled, IsOut}

-- held releases add no tick
pub ticks-held : (set : List Task) (rule : Rule) (js : List JobId) (g : List Row) → ticks (add_held set rule js g) ≡ ticks g
ticks-held set rule [] g = refl
ticks-held set rule (j ∷ js) g = ticks-held set rule js g

-- each held release of a task adds one release of it
pub releases-held : (set : List Task) (rule : Rule) (js : List JobId) (g : List Row) (k : ℕ) → releases (add_held set rule js g) k ≡ releases g k + jobs_of k js
releases-held set rule [] g k = omega arith
releases-held set rule (j ∷ js) g k = omega (arith, releases-held set rule js g k)

-- each held release adds one row
pub length-held : (set : List Task) (rule : Rule) (js : List JobId) (g : List Row) → length (add_held set rule js g) ≡ length g + length js
length-held set rule [] g = omega arith
length-held set rule (j ∷ js) g = omega (arith, length-held set rule js g)

-- the next release of a held job's task counts from the boundary after the granted tick
next-held : (set : List Task) (rule : Rule) (js : List JobId) (g rows : List Row) (k : ℕ) → ticks g ≡ ticks rows + 1 → next_release set g k ≡ next_release set rows k → next_release set (add_held set rule js g) k ≡ next_after set rows js k
next-held set rule [] g rows k t n = n
next-held set rule (j ∷ js) g rows k t n = rw (next-held set rule js g rows k t n, ticks-held set rule js g, t) refl

-- the counts of these rows, granted tick and held releases are those of the settled rows
pub record IsSettled (set : List Task) (rule : Rule) (rows : List Row) (out : Option JobId) (held : List JobId) (done : Bool) : Type 0 where
  pub ticks : ticks (settled set rule done rows out held) ≡ ticks rows + tick_out out
  pub releases : (k : ℕ) → releases (settled set rule done rows out held) k ≡ releases rows k + jobs_of k held
  pub next : (k : ℕ) → next_release set (settled set rule done rows out held) k ≡ next_after set rows held k
  pub places : length (settled set rule done rows out held) ≡ length rows + length held + tick_out out

-- each state whose granted tick is known has the counts of its settled rows
pub settled_words : (set : List Task) (rule : Rule) (rows : List Row) (out : Option JobId) (held : List JobId) (done : Bool) → IsOut set rule rows out held → IsSettled set rule rows out held done
settled_words set rule rows None [] done o = record {
  ticks = omega arith;
  releases = λ k. omega arith;
  next = λ k. refl;
  places = omega arith;
}
settled_words set rule rows None (j ∷ js) done o = cc
settled_words set rule rows (Some j) held done o =
    let row = Tick j (outcome_of set rule rows j done) in record {
      ticks = ticks-held set rule held (row ∷ rows);
      releases = λ k. releases-held set rule held (row ∷ rows) k;
      next = λ k. next-held set rule held (row ∷ rows) rows k refl refl;
      places = omega (arith, length-held set rule held (row ∷ rows));
    }
