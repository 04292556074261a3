use Rattle.std.proofs.Common.{◌≡◌, ◌≤◌, ℕ, map}
use Rattle.std.specs.Prelude.{take, drop}
use Rattle.edfvd_c.specs.Traces.Monitor.{late_job}
use Rattle.edfvd_c.proofs.traces.monitor.store_late.Given as goal

abbrev pub invariant-loop-place : goal.invariant-loop-place
invariant-loop-place l = record {
  front : take l.place l.jobs ≡ map late_job (take l.place l.turned.items);
  back : (k : ℕ) → l.place ≤ k → drop k l.jobs ≡ drop k l.fn.jobs;
}
