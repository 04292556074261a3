use Rattle.std.proofs.Common.{◌≡◌, ℕ, ◌-◌, List, subst, ap, ◌∙◌, arith}
use Rattle.std.specs.Prelude.{slice_index_or}
use Rattle.std.specs.Vec.{with_items}
use Rattle.std.proofs.lemmas.List.{with_items_is}
use Rattle.mc_task.specs.TaskSet.{IsIn}
use Rattle.restart.specs.Restarted.{Restarted, first_allowed_from_now, IsRestarted}
use Rattle.restart.proofs.FirstAllowed.{opened_again}
use Rattle.restart.proofs.restartable.Restartable.restart.Goals as goal

pub returns-clause-restarted : goal.returns-clause-restarted
returns-clause-restarted g c =
    let s = c.self.inside.core in
    let now : List ℕ = (with_items c.self.inside.first_allowed c.note_earliest.new.first_allowed).items in
    let items : now ≡ c.note_earliest.new.first_allowed = with_items_is c.self.inside.first_allowed c.note_earliest.new.first_allowed (omega (arith, c.note_earliest.auto.first_allowed, c.deref_mut.ensures.len)) in
    let noted : (k : ℕ) → IsIn s.set k → slice_index_or now (k - 1) 0 ≡ first_allowed_from_now s (slice_index_or c.self.inside.first_allowed.items (k - 1) 0) k =
    λ k i. ap (λ (xs : List ℕ). slice_index_or xs (k - 1) 0) items
    ∙ (c.note_earliest.ensures k i ∙ ap (λ (xs : List ℕ). first_allowed_from_now s (slice_index_or xs (k - 1) 0) k) c.deref_mut.ensures.value) in
    subst (λ (x : Restarted). IsRestarted x (record { core = c.in-Ok.core; first_allowed = now })) c.self.view_is (opened_again s c.in-Ok.core c.self.inside.first_allowed.items now c.in-Ok.ensures noted)
