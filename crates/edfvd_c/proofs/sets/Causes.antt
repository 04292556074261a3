-- Given tasks that are refused for a cause of theirs, or because memory runs out.
use Rattle.std.proofs.Common.{◌≡◌, ◌≤◌, ℕ, List, Some, length, inl, inr, refl, arith}
use Rattle.mc_task.specs.declared.task.Task.{Task}
use Rattle.mc_task.specs.TaskSet.{AreTasks}
use Rattle.mc_model.specs.Loads.{range_fault}
use Rattle.edfvd_c.specs.declared.sets.given.CTask.{CTask}
use Rattle.edfvd_c.specs.Status.{EMPTY, PERIODS, MEMORY}
use Rattle.edfvd_c.specs.Sets.Given.{AreOf}
use Rattle.edfvd_c.specs.Sets.Refused.{Periods, HasStatus, IsRefused}
use Rattle.edfvd_c.specs.Traces.Judged.{HaveNoRule}
use Rattle.edfvd_c.proofs.sets.Greatest.{AreOf-length}

-- at most 128 tasks with a cause are refused with its status
pub refused_for : (given : List CTask) (status task : ℕ) → length given ≤ 128 → EMPTY ≤ status → status ≤ PERIODS
    → HasStatus given status task → IsRefused given status task
refused_for given status task few least most has = record {
  many = λ past. absurd (omega (arith, few, past));
  cause = λ few other. has;
  memory = λ e. absurd (omega (arith, most, e));
  only = inl (least, most);
}

-- a set of these numbers is refused at the task whose period takes the hyperperiod out of range
pub periods_refused : (given : List CTask) (tasks : List Task) (status task : ℕ) → length given ≤ 128 → AreOf given tasks → AreTasks tasks
    → (status ≡ PERIODS) × (range_fault tasks ≡ Some task) → IsRefused given status task
periods_refused given tasks status task few numbers set fault =
    let is = fault.0 in
    refused_for given status task few (omega (arith, is)) (omega (arith, is))
    (record { cause = Periods task; has = (tasks, numbers, set, fault.1); status_is = is; task_is = refl })

-- a set of these numbers has no cause to be refused, but memory may run out
pub memory_refused : (given : List CTask) (p q : ℕ) (tasks : List Task) → AreOf given tasks → AreTasks tasks → HaveNoRule given p q MEMORY 0
memory_refused given p q tasks numbers set =
    let long = AreOf-length given tasks numbers in
    let most = set.few in
    record {
      refused = λ admitted named. record {
        many = λ past. absurd (omega (arith, long, most, past));
        cause = λ few other. absurd (other refl);
        memory = λ e. refl;
        only = inr refl;
      };
      range = λ e. absurd (omega (arith, e));
      not_admitted = λ e. absurd (omega (arith, e));
      no_scale = λ e. absurd (omega (arith, e));
    }
