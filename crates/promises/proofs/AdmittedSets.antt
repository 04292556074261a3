-- What is so of a set that the test admits, and of each command that schedules sets or judges traces under the test's rule.
use Rattle.std.proofs.Common.{◌≡◌, ◌≢◌, ◌⊎◌, ◌↔◌, ◌≤◌, ◌+◌, inl, inr, ℕ, suc, List, [], ◌∷◌, Option, Some, None, Result, Ok, Err, refl, arith}
use Rattle.std.specs.List.{AllByRecursion}
use Rattle.std.proofs.lemmas.Bool.Decides.{leb_tells}
use Rattle.std.specs.Prelude.{ok_or}
use Rattle.mc_world.specs.Shelf.{Files}
use Rattle.mc_task.specs.declared.task.Rule.{Rule}
use Rattle.mc_task.specs.declared.task.Task.{Task}
use Rattle.mc_task.specs.TaskSet.{Set, IsTask, AreTasks}
use Rattle.tick_frac.specs.Numbers.{lcm}
use Rattle.mc_model.specs.declared.row.Row.{Row}
use Rattle.mc_model.specs.Holds.{Holds}
use Rattle.mc_model.specs.Loads.{range_fault, range_fault_from, IsWithinRange, lcm_from, most_lcm}
use Rattle.mc_model.specs.Test.{published, test}
use Rattle.mc_model.specs.Legal.{Legal}
use Rattle.mc_model.proofs.Hyperperiod.{range_fault-past}
use Rattle.mc_model.proofs.ScaledTests.{test-holds, test-none}
use Rattle.demand_law.proofs.Promise.{keeps_deadlines}
use Rattle.task_file.proofs.SaysSet.{says_set}
use Rattle.replies.specs.Reply.{Reply}
use Rattle.replies.specs.Refusal.{Refusal, OutOfRange, NotAdmitted}
use Rattle.replies.specs.Reading.{◌>>=◌, none_or}
use Rattle.command.specs.Command.{Command, read_or_refuse}
use Rattle.command.specs.Outcome.{IsAnswer}
use Rattle.command.specs.Admitted.{with_rule, tested}
use Rattle.command.specs.declared.admitted.SetWithRule.{SetWithRule}
use Rattle.promises.specs.Headline.{bytes_of, SaysSet, IsAdmitted, IsTimely, SchedulesExactly}
use Rattle.promises.proofs.AnswerSteps.{same_status, one_by_one, on_set, file_says_set, answer_by_set}

-- the test's rule holds for an admitted set
pub rule_holds : {bytes : List ℕ} (set : Set) (rule : Rule) → IsAdmitted bytes set rule → AreTasks set.tasks × Holds set.tasks rule
rule_holds {bytes} set rule admitted = let s = (says_set bytes set admitted.says.1).tasks in (s, test-holds set rule s admitted.test)

-- the legal traces of an admitted set keep the deadlines
pub legal_is_timely : {bytes : List ℕ} (set : Set) (rule : Rule) (h : List Row) → IsAdmitted bytes set rule → Legal set.tasks rule h → IsTimely set.tasks rule h
legal_is_timely set rule h admitted legal = let s = rule_holds set rule admitted in (legal, keeps_deadlines set.tasks rule h s.0.each s.1 legal)

-- the test gives a set that a file says no rule exactly where the published test gives none
no_rule : (bytes : List ℕ) (set : Set) → SaysSet bytes set → (test set ≡ None) ↔ (published set.tasks ≡ None)
no_rule bytes set says = test-none set (says_set bytes set says.1).tasks

-- periods that take their least common multiple past the limit nowhere are within range
within_if_no_fault : (k m : ℕ) (ts : List Task) → m ≤ most_lcm → range_fault_from k m ts ≡ None → lcm_from m ts ≤ most_lcm
unfolding lcm_from range_fault_from
within_if_no_fault k m [] small e = small
within_if_no_fault k m (t ∷ ts) small e =
    elim (leb_tells (suc most_lcm) (lcm m t.period)) [
      | inl large ↦ (let past = rw (large.0) at e in cc)
      | inr few ↦ within_if_no_fault (k + 1) (lcm m t.period) ts (omega (arith, few.1)) (rw (few.0) at e)
    ]

-- the periods of a set within range take their least common multiple past the limit nowhere
no_fault_if_within : (set : List Task) → AllByRecursion IsTask set → IsWithinRange set → (o : Option ℕ) → range_fault set ≡ o → o ≡ None
no_fault_if_within set are within None e = refl
no_fault_if_within set are within (Some n) e = absurd (omega (arith, within, range_fault-past 1 1 n set (omega arith) are e))

-- a set that a task file says has no range fault where it is within range
pub no_range_fault : (bytes : List ℕ) (set : Set) → SaysSet bytes set → IsWithinRange set.tasks → range_fault set.tasks ≡ None
no_range_fault bytes set says within = no_fault_if_within set.tasks (says_set bytes set says.1).tasks.each within (range_fault set.tasks) refl

module _ (files : Files) (reply : Reply) where
  -- if the status is not that of a range fault, the periods are within range
  pub range_accepts : (set : List Task) (next : Unit {0} → Command) → IsAnswer files 2 (read_or_refuse (none_or OutOfRange (range_fault set)) next) reply → reply.status ≢ 3
      → IsWithinRange set × IsAnswer files 2 (next tt) reply
  range_accepts set next h not_3 = go (range_fault set) refl h
    where
      go : (o : Option ℕ) → range_fault set ≡ o → IsAnswer files 2 (read_or_refuse (none_or OutOfRange o) next) reply → IsWithinRange set × IsAnswer files 2 (next tt) reply
      go None e k = (within_if_no_fault 1 1 set (omega arith) e, k)
      go (Some task) e k = absurd (not_3 (same_status k))

  -- the test gives no rule, with status 1, or the reply is an answer by the set under the rule that it gives
  by_test : (set : Set) (next : SetWithRule → Command) → IsAnswer files 2 (read_or_refuse (tested set) next) reply → reply.status ≢ 3
      → IsWithinRange set.tasks × (((test set ≡ None) × (reply.status ≡ 1)) ⊎ ((rule : Rule) × (test set ≡ Some rule) × IsAnswer files 2 (next (with_rule rule set)) reply))
  by_test set next h not_3 =
      let (range, k) = range_accepts set.tasks (λ none. read_or_refuse (ruled (test set)) next) (one_by_one files reply 2 (none_or OutOfRange (range_fault set.tasks)) (λ none. ruled (test set)) next h) not_3 in
      (range, go (test set) refl k)
    where
      ruled : Option Rule → Result SetWithRule Refusal
      ruled rule = ok_or rule (NotAdmitted set.tasks) >>= (λ rule. Ok (with_rule rule set))

      go : (o : Option Rule) → test set ≡ o → IsAnswer files 2 (read_or_refuse (ruled o) next) reply
          → ((test set ≡ None) × (reply.status ≡ 1)) ⊎ ((rule : Rule) × (test set ≡ Some rule) × IsAnswer files 2 (next (with_rule rule set)) reply)
      go None e k = inl (e, same_status k)
      go (Some rule) e k = inr (rule, e, k)

  -- a reply to a command that goes on with the set in a task file under the rule that the test gives it
  module _ (tasks : List ℕ) (next : SetWithRule → Command) (h : IsAnswer files 1 (on_set tasks tested next) reply) where
    -- if the status is none of the refusals of the file and its set, the set is admitted, and the reply is an answer by it
    pub file_says_admitted : reply.status ≢ 7 → reply.status ≢ 3 → reply.status ≢ 1
        → (set : Set) × (rule : Rule) × IsAdmitted (bytes_of files tasks) set rule × IsAnswer files 2 (next (with_rule rule set)) reply
    file_says_admitted not_7 not_3 not_1 =
        let (set, says, k) = file_says_set files reply tasks tested next h not_7 not_3 in
        let (range, given) = by_test set next k not_3 in
        elim given [
          | inl none ↦ absurd (not_1 none.1)
          | inr r ↦ (set, r.0, record { says = says; range = range; test = r.1 }, r.2)
        ]

    -- if the set is admitted, the reply is an answer by the set under its rule
    pub answer_by_admitted : (set : Set) (rule : Rule) → IsAdmitted (bytes_of files tasks) set rule → IsAnswer files 2 (next (with_rule rule set)) reply
    answer_by_admitted set rule admitted =
        let gives : tested set ≡ Ok (with_rule rule set) = rw (no_range_fault (bytes_of files tasks) set admitted.says admitted.range, admitted.test) refl in
        answer_by_set files reply tasks tested next h set (Ok (with_rule rule set)) admitted.says gives

    -- status 1 comes exactly where the test gives no rule, if what comes next has another status
    pub schedules_exactly : ((x : SetWithRule) → IsAnswer files 2 (next x) reply → reply.status ≢ 1) → SchedulesExactly (bytes_of files tasks) reply.status
    schedules_exactly other = record { refused = only; refuses = always }
      where
        bytes : List ℕ
        bytes = bytes_of files tasks

        only : reply.status ≡ 1 → (set : Set) × SaysSet bytes set × IsWithinRange set.tasks × (published set.tasks ≡ None)
        only e =
            let (set, says, k) = file_says_set files reply tasks tested next h (omega arith) (omega arith) in
            let (range, given) = by_test set next k (omega arith) in
            elim given [ inl none ↦ (set, says, range, (no_rule bytes set says).0 none.0) | inr r ↦ absurd (other (with_rule r.0 set) r.2 e) ]

        always : (set : Set) → SaysSet bytes set → IsWithinRange set.tasks → published set.tasks ≡ None → (reply.status ≡ 1) ⊎ (reply.status ≡ 9)
        always set says range none =
            let refuses : tested set ≡ Err (NotAdmitted set.tasks) = rw (no_range_fault bytes set says range, (no_rule bytes set says).1 none) refl in
            inl (same_status (answer_by_set files reply tasks tested next h set (Err (NotAdmitted set.tasks)) says refuses))
