-- Which runs can be written for a set.
use Rattle.std.specs.Prelude.{◌<◌, ◌^◌, List}
use Rattle.mc_task.specs.declared.task.Task.{Task}
use Rattle.mc_task.specs.TaskSet.{IsIn}
use Rattle.mc_model.specs.declared.run.Run.{Run}
use Rattle.mc_model.specs.declared.run.Run.TheVariants.{Release, Ticks, Idles}

-- the run's job is of the set, and the job's number has at most 32 bits
abbrev pub IsWritable : List Task → Run → Type 0
IsWritable set (Release j kept) = IsIn set j.task.0 × (j.count < 2 ^ 32)
IsWritable set (Ticks j how n) = IsIn set j.task.0 × (j.count < 2 ^ 32)
IsWritable set (Idles n) = Unit {0}
