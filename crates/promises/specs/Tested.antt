-- What `demand`, `partition`, `stretch` and `accept` promise, which test sets and schedule none, where the
-- shelf and the sink expose their bytes and have no fault.
use Rattle.std.specs.Prelude.{◌≡◌, ◌⊎◌, ℕ, ◌≤◌, ◌^◌, List, ◌++◌, length, Option, Some, Ok}
use Rattle.mc_task.specs.TaskSet.{Set}
use Rattle.mc_world.specs.Shelf.{Files}
use Rattle.mc_model.specs.Loads.{IsWithinRange}
use Rattle.command_line.specs.declared.form.Form.{Form}
use Rattle.command_line.specs.declared.form.Form.TheVariants as form
use Rattle.demand_test.specs.declared.demand.Demand.{Demand}
use Rattle.demand_test.specs.declared.row.EdfRow.{EdfRow}
use Rattle.demand_test.specs.EdfRuns.{IsEdfSchedule, NoneLate}
use Rattle.demand_test.specs.Counter.{SomeLate}
use Rattle.demand_test.specs.DemandFile.{demands_in}
use Rattle.part_fit.specs.Partition.{IsPartition}
use Rattle.part_commands.specs.Parted.{spread}
use Rattle.part_commands.specs.Partition.{partition_text}
use Rattle.study.specs.Stretch.{IsStretch}
use Rattle.study.specs.Acceptance.{accept_table}
use Rattle.study_commands.specs.Stretch.{stretch_text}
use Rattle.study_commands.specs.Accept.{table_text}
use Rattle.promises.specs.Headline.{bytes_of, SaysSet, IsSpread, SpreadsExactly}
use Rattle.promises.specs.Complete.{Succeeds}

-- the bytes are a demand file, of at most 2^24 bytes, and it says this set
abbrev pub SaysDemands : List ℕ → List Demand → Type 0
SaysDemands bytes set = (length bytes ≤ 2 ^ 24) × (demands_in bytes ≡ Ok set)

-- what `demand` promises of plain EDF for the set in the demand file
pub record Tests (bytes : List ℕ) (ended : ℕ) : Type 0 where
  -- with status 0 no job is late in any EDF schedule of the set
  pub none_late : ended ≡ 0 → (set : List Demand) × SaysDemands bytes set
      × ((h : List EdfRow) → IsEdfSchedule set h → NoneLate set h)
  -- with status 10 there is an EDF schedule of the set in which a job is late
  pub some_late : ended ≡ 10 → (set : List Demand) × (h : List EdfRow)
      × SaysDemands bytes set × IsEdfSchedule set h × SomeLate set h
  -- each valid demand file gets status 0 or 10, unless memory runs out (status 9)
  pub complete : (set : List Demand) → SaysDemands bytes set → (ended ≡ 10) ⊎ Succeeds ended

-- what `partition` promises of the set in the task file, for processors 1 to m
pub record Partitions (m : ℕ) (bytes old : List ℕ) (ended : ℕ) (new : Option (List ℕ)) : Type 0 where
  -- with status 0 each task is on one processor, the tasks of each processor are admitted, and the text names
  -- them
  pub writes : ended ≡ 0 → (set : Set) × (of : List ℕ)
      × IsSpread m bytes set of × IsPartition set.tasks of m
      × (new ≡ Some (old ++ partition_text m (spread set.tasks of)))
  -- `partition` succeeds for each set whose tasks first fit puts on processors 1 to m
  pub complete : (set : Set) (of : List ℕ) → IsSpread m bytes set of → Succeeds ended

-- what `stretch` promises of the set in the task file
pub record Measures (bytes old : List ℕ) (ended : ℕ) (new : Option (List ℕ)) : Type 0 where
  -- with status 0 `stretch` has written the greatest percentage up to 1000 at which the published test admits
  -- the set, or that there is none
  pub writes : ended ≡ 0 → (set : Set) × (s : Option ℕ) × SaysSet bytes set × IsWithinRange set.tasks
      × IsStretch set.tasks s × (new ≡ Some (old ++ stretch_text set.tasks s))
  -- `stretch` succeeds for each set within range
  pub complete : (set : Set) → SaysSet bytes set → IsWithinRange set.tasks → Succeeds ended

-- what `accept` promises of the random sets of this many tasks that are generated from the numbers from this
-- one on
pub record Tabulates (number sets tasks : ℕ) (old : List ℕ) (ended : ℕ) (new : Option (List ℕ)) : Type 0 where
  -- with status 0 `accept` has written how many of the sets have at least each stretch of the table
  pub writes : ended ≡ 0 → new ≡ Some (old ++ table_text (accept_table number sets tasks))
  -- `accept` succeeds, unless memory runs out (status 9)
  pub complete : Succeeds ended

-- the promise of each command that tests a set and schedules none: by the files, the bytes that were written
-- before, the status, and the bytes that are written after
abbrev pub Tested : Option Form → Files → List ℕ → ℕ → Option (List ℕ) → Type 0
Tested (Some (form.Demand c)) files old ended new = Tests (bytes_of files c.demands) ended
Tested (Some (form.Partition c)) files old ended new =
    SpreadsExactly c.processors (bytes_of files c.tasks) ended
    × Partitions c.processors (bytes_of files c.tasks) old ended new
Tested (Some (form.Stretch c)) files old ended new = Measures (bytes_of files c.tasks) old ended new
Tested (Some (form.Accept c)) files old ended new = Tabulates c.number c.sets c.tasks old ended new
Tested form files old ended new = Unit {0}
