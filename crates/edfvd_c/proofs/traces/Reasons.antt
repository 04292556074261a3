-- Which status a monitor has for a run.
use Rattle.std.proofs.Common.{◌≡◌, ℕ, ◌+◌, ◌<◌, ◌^◌, inl, inr, refl, ap, arith, Option, Some, None, Result, Ok, Err}
use Rattle.std.specs.Prelude.{◌↔◌}
use Rattle.mc_model.specs.declared.run.Run.{Run}
use Rattle.mc_model.specs.Runs.{size, IsRun, IsRunOfSet}
use Rattle.trace_judge.specs.declared.monitor.ObserveFault.{ObserveFault}
use Rattle.trace_judge.specs.declared.monitor.ObserveFault.TheVariants as faults
use Rattle.trace_judge.specs.declared.unfit.Unfit.{Unfit}
use Rattle.trace_judge.specs.Watched.{Watched, seen}
use Rattle.edfvd_c.specs.Status.{OK, ARGUMENT}
use Rattle.edfvd_c.specs.Traces.Monitor.{fault_status, HasReason}

-- what a monitor returns for a run
abbrev pub Returned : Type 0
Returned = Result (Option Unfit) ObserveFault

-- its status
abbrev pub status_of : Returned → ℕ
status_of (Ok unfit) = OK
status_of (Err fault) = fault_status fault

-- the numbers stand for no run
pub reason_none : (w : Watched) → HasReason None w ARGUMENT
reason_none w = record {
  no_task = ((λ e. absurd (omega (arith, e))), (λ b. absurd b));
  no_run = ((λ e. tt), (λ t. refl));
  full = ((λ e. absurd (omega (arith, e))), (λ b. absurd b));
  only = inr (inr (inr (inr refl)));
}

-- each status has its cause, since each fault has
pub reason_of : (run : Run) (w : Watched) (r : Returned)
    → (r ≡ Err faults.UnknownTask) ↔ (¬ IsRunOfSet w.set.tasks run)
    → (r ≡ Err faults.NotARun) ↔ (IsRunOfSet w.set.tasks run × (¬ IsRun run))
    → (r ≡ Err faults.Full) ↔ (IsRunOfSet w.set.tasks run × IsRun run × (2 ^ 62 < seen w + size run))
    → HasReason (Some run) w (status_of r)
reason_of run w (Ok unfit) task valid full = record {
  no_task = ((λ e. absurd (omega (arith, e))), (λ b. absurd (omega (arith, ap status_of (task.1 b)))));
  no_run = ((λ e. absurd (omega (arith, e))), (λ b. absurd (omega (arith, ap status_of (valid.1 b)))));
  full = ((λ e. absurd (omega (arith, e))), (λ b. absurd (omega (arith, ap status_of (full.1 b)))));
  only = inl refl;
}
reason_of run w (Err faults.Memory) task valid full = record {
  no_task = ((λ e. absurd (omega (arith, e))), (λ b. absurd (omega (arith, ap status_of (task.1 b)))));
  no_run = ((λ e. absurd (omega (arith, e))), (λ b. absurd (omega (arith, ap status_of (valid.1 b)))));
  full = ((λ e. absurd (omega (arith, e))), (λ b. absurd (omega (arith, ap status_of (full.1 b)))));
  only = inr (inl refl);
}
reason_of run w (Err faults.UnknownTask) task valid full = record {
  no_task = ((λ e. task.0 refl), (λ b. refl));
  no_run = ((λ e. absurd (omega (arith, e))), (λ b. absurd (omega (arith, ap status_of (valid.1 b)))));
  full = ((λ e. absurd (omega (arith, e))), (λ b. absurd (omega (arith, ap status_of (full.1 b)))));
  only = inr (inr (inl refl));
}
reason_of run w (Err faults.NotARun) task valid full = record {
  no_task = ((λ e. absurd (omega (arith, e))), (λ b. absurd (omega (arith, ap status_of (task.1 b)))));
  no_run = ((λ e. valid.0 refl), (λ b. refl));
  full = ((λ e. absurd (omega (arith, e))), (λ b. absurd (omega (arith, ap status_of (full.1 b)))));
  only = inr (inr (inr (inr refl)));
}
reason_of run w (Err faults.Full) task valid full = record {
  no_task = ((λ e. absurd (omega (arith, e))), (λ b. absurd (omega (arith, ap status_of (task.1 b)))));
  no_run = ((λ e. absurd (omega (arith, e))), (λ b. absurd (omega (arith, ap status_of (valid.1 b)))));
  full = ((λ e. full.0 refl), (λ b. refl));
  only = inr (inr (inr (inl refl)));
}
