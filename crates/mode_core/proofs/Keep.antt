-- Each event keeps a good state.
use Rattle.std.proofs.Common.{◌≡◌, ℕ, ◌≤◌, Bool, true, List, [], ◌∷◌, Option, Some, None, refl, arith, subst}
use Rattle.mc_task.specs.declared.task.Rule.{Rule}
use Rattle.mc_task.specs.declared.task.Task.{Task}
use Rattle.mc_task.specs.declared.task.JobId.{JobId}
use Rattle.mc_model.specs.declared.row.Row.{Row}
use Rattle.mode_core.specs.Events.{with_release}
use Rattle.mode_core.proofs.Fits.{release_legal, tick_legal}
use Rattle.mode_core.proofs.Held.{IsSettled, settled_words}
use Rattle.std.specs.List.{AllByRecursion}
use Rattle.mc_task.specs.TaskSet.{IsTask, IsIn}
use Rattle.mc_model.specs.Legal.{Legal}
use Rattle.mc_model.specs.Core.{State, Good, begun, next, next_job, chosen, release_row, settle, IsOut}

-- a state by its parts
abbrev pub state : List Task → Rule → ℕ → List Row → Option JobId → List JobId → State
state set rule places rows out held = record { set = set; rule = rule; places = places; rows = rows; out = out; held = held }

-- no release is held if no tick is granted
pub no_held : (s : State) → Good s → s.out ≡ None → s.held ≡ []
no_held s g o = subst (λ (x : Option JobId). IsOut s.set s.rule s.rows x s.held) o g.out

-- a release that is allowed keeps a state good
pub good_release : (s : State) (o : Option JobId) (k : ℕ) → s.out ≡ o → Good s → IsIn s.set k → next s k ≤ begun s → Good (with_release s o (next_job s k))
good_release s o k m good inside n = go o m
  where
    fits : (done : Bool) → Legal s.set s.rule (release_row s.set s.rule (next_job s k) (settle s done) ∷ settle s done)
    fits done =
        let w : IsSettled s.set s.rule s.rows s.out s.held done = settled_words s.set s.rule s.rows s.out s.held done good.out in
        release_legal s.set s.rule (next_job s k) (settle s done) (good.settled done) inside (omega (arith, w.ticks, w.next k, n)) (omega (arith, w.releases k))

    go : (o : Option JobId) → s.out ≡ o → Good (with_release s o (next_job s k))
    go None m = let l = rw m at (fits true) in record { legal = l; out = rw m (no_held s good m); settled = λ done. rw m l }
    go (Some i) m = record { legal = good.legal; out = rw m (rw m at good.out); settled = λ done. rw m (rw m at (fits done)) }

-- a granted tick keeps a state good
pub good_grant : (s : State) (j : JobId) → AllByRecursion IsTask s.set → Good s → s.out ≡ None → chosen s.set s.rule s.rows ≡ Some j → Good (record s { out = Some j })
good_grant s j tasks good o e = record {
  legal = good.legal;
  out = e;
  settled = λ done. rw (no_held s good o) (tick_legal s.set s.rule j s.rows done tasks good.legal e);
}

-- an outcome keeps a state good
pub good_outcome : (s : State) (done : Bool) → Good s → Good (record s { rows = settle s done; out = None; held = [] })
good_outcome s done good = record { legal = good.settled done; out = refl; settled = λ d. good.settled done }
