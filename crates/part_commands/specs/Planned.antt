-- The job of `runall`, and the floors of the processors that have tasks before they run.
use Rattle.std.specs.Prelude.{◌≡◌, ℕ, ◌≤◌, List, Some, filter, length, map}
use Rattle.std.specs.List.{range_with_len, AllZip}
use Rattle.mc_task.specs.declared.task.TaskNo.{TaskNo}
use Rattle.mc_model.specs.declared.work.WorkRow.{WorkRow}
use Rattle.mc_model.specs.Test.{published}
use Rattle.mc_model.specs.Work.{IsWork}
use Rattle.timetable.specs.declared.plan.Plan.TheVariants.{Rows}
use Rattle.part_fit.specs.PartWork.{part_rows, is_on}
use Rattle.part_fit.specs.Partition.{IsPartition}
use Rattle.replies.specs.Reply.{Reply}
use Rattle.part_commands.specs.Parted.{Parted, tasks_on, spread}
use Rattle.part_commands.specs.RunAll.{IsTracesReply}
use Rattle.part_commands.specs.Runs.{IsFresh}
use Rattle.part_commands.specs.declared.parted.Parted.{Parted as Given}
use Rattle.part_commands.specs.declared.floors.PartFloors.{PartFloors}
use Rattle.part_commands.specs.declared.run_parts.RunAllJob.{RunAllJob}
use Rattle.part_commands.specs.declared.side_by_side.Side.{Side}

-- the set and the processors of its tasks, of the code's value
abbrev pub parted_of : Given → Parted
parted_of given = spread given.set.tasks given.parts

-- the code's value has the set and the processor of each task; each task is on one processor from 1 to m, and
-- the tasks of each processor are admitted
pub record IsParted (m : ℕ) (parted : Parted) (given : Given) : Type 0 where
  pub set : given.set.tasks ≡ parted.set
  pub of : given.parts ≡ parted.of
  pub admitted : IsPartition parted.set parted.of m

-- each task is on one processor from 1 to m, the tasks of each are admitted, and the work is for the set
pub record IsRunAllJob (m : ℕ) (job : RunAllJob) : Type 0 where
  pub admitted : IsPartition job.parted.set.tasks job.parted.parts m
  pub is_work : IsWork job.parted.set.tasks job.work

-- the reply to a job of `runall`, of this many ticks on m processors
abbrev pub RepliesToRunAll : ℕ → ℕ → RunAllJob → Reply → Type 0
RepliesToRunAll ticks m job reply = IsTracesReply ticks m (parted_of job.parted) job.work reply

-- the numbers in the whole set of the tasks on processor n
abbrev pub numbers_on : ℕ → List ℕ → ℕ → List ℕ
numbers_on n of k = filter (is_on n of) (range_with_len 1 k)

-- a floor of the tasks on processor n under the rule that the published test gives them, with no rows yet, a
-- capacity of at most 2,000,000 rows, and their part of the work for this many ticks as its plan; and the numbers of
-- these tasks in the whole set
pub record IsPlannedOn (ticks : ℕ) (parted : Parted) (work : List WorkRow) (n : ℕ) (side : Side)
    : Type 0 where
  pub tasks : side.floor.core.set ≡ tasks_on parted n
  pub test : published (tasks_on parted n) ≡ Some side.floor.core.rule
  pub plan : side.floor.plan ≡ Rows (part_rows n parted.of work) ticks
  pub fresh : IsFresh side
  pub few : side.floor.core.places ≤ 2000000
  pub numbers : map (λ (k : TaskNo). k.0) side.numbers.items ≡ numbers_on n parted.of (length parted.of)

-- there is a floor for each processor that has tasks, with its plan
abbrev pub ArePlanned : ℕ → Parted → List WorkRow → PartFloors → Type 0
ArePlanned ticks parted work parts = AllZip (IsPlannedOn ticks parted work) parts.used.items parts.sides.items
