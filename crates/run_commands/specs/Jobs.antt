-- The jobs of `live` and `run`: what is left to do, in threads, once the command's files are read.
use Rattle.std.specs.Prelude.{ℕ}
use Rattle.mc_model.specs.Holds.{Fits, Holds}
use Rattle.mc_model.specs.Work.{IsWork}
use Rattle.replies.specs.Reply.{Reply}
use Rattle.command.specs.declared.admitted.SetWithRule.{SetWithRule}
use Rattle.run_commands.specs.declared.run.RunJob.{RunJob}
use Rattle.run_commands.specs.Run.{IsTraceReply}

-- a job of `live`: the rule fits, and holds for the set
pub record IsLiveJob (job : SetWithRule) : Type 0 where
  pub fits : Fits job.rule
  pub holds : Holds job.set.tasks job.rule

-- a job of `run`: the rule fits and holds for the set, and the work is for the set
pub record IsRunJob (job : RunJob) : Type 0 where
  pub fits : Fits job.rule
  pub holds : Holds job.set.tasks job.rule
  pub is_work : IsWork job.set.tasks job.work

-- the reply to a job of `run`, of this many ticks
abbrev pub RepliesToRun : ℕ → RunJob → Reply → Type 0
RepliesToRun ticks job reply = IsTraceReply ticks job.set.tasks job.rule job.work reply
