use Rattle.std.proofs.Common.{◌≡◌, ℕ, suc, ◌-◌, true, false, List, ◌∷◌, ◌++◌, length, replicate, refl, sym, ap, ◌∙◌, subst, arith}
use Rattle.std.specs.Prelude.{reverse}
use Rattle.std.proofs.lemmas.List.{length-set}
use Rattle.mc_model.specs.declared.row.Row.{Row}
use Rattle.edfvd_c.specs.declared.scheduler.latest.RunBegin.{RunBegin}
use Rattle.edfvd_c.specs.Scheduler.Latest.{begins, is_again}
use Rattle.edfvd_c.specs.Scheduler.Slots.{IsInSlots, IsNewest}
use Rattle.edfvd_c.proofs.scheduler.Slots.{slots_more}
use Rattle.edfvd_c.proofs.scheduler.RunBegins.{begins_again, begins_new, few_begins, newest_again}
use Rattle.edfvd_c.proofs.scheduler.latest.LatestRowsRecorder.add_run.Goals as goal

pub invariant_of-self : goal.invariant_of-self
invariant_of-self c =
    let a = c.self.inside in
    let again : is_again c.args.row a.rows ≡ true = subst (λ (h : List Row). is_again c.args.row h ≡ true) (sym c.self.view_is) (sym c.is_again.ensures ∙ c.if-is_again.true) in
    let same : begins c.add_run.new.self ≡ begins a.rows = ap begins c.add_run.ensures.rows ∙ begins_again c.args.times c.args.row a.rows again in
    record {
      newest = subst (λ (h : List Row). IsNewest a.newest h) (sym c.add_run.ensures.rows) (newest_again c.args.times c.args.row a.newest a.rows c.self.invariant.newest again);
      slots = c.self.invariant.slots;
      runs = c.self.invariant.runs ∙ sym (ap length same);
      latest = subst (λ (bs : List RunBegin). IsInSlots (reverse bs) a.slots.items) (sym same) c.self.invariant.latest;
    }

pub overflow_add-self : goal.overflow_add-self
overflow_add-self c = omega (arith, c.self.invariant.runs, few_begins c.self.inside.rows, ap length c.self.view_is, c.requires.room)

pub invariant_of-self-2 : goal.invariant_of-self-2
invariant_of-self-2 c =
    let a = c.self.inside in
    let first : RunBegin = record { row = c.args.row; number = c.count.result } in
    let fresh : is_again c.args.row a.rows ≡ false = subst (λ (h : List Row). is_again c.args.row h ≡ false) (sym c.self.view_is) (sym c.is_again.ensures ∙ c.if-is_again.false) in
    let some : c.args.times ≡ suc (c.args.times - 1) = omega (arith, c.if-times-eq0.false) in
    let rows : c.add_run-2.new.self ≡ replicate (suc (c.args.times - 1)) c.args.row ++ a.rows = c.add_run-2.ensures.rows ∙ ap (λ (n : ℕ). replicate n c.args.row ++ a.rows) some in
    let new : begins c.add_run-2.new.self ≡ first ∷ begins a.rows =
    ap begins rows ∙ (begins_new (c.args.times - 1) c.args.row a.rows fresh ∙ ap (λ (n : ℕ). record { row = c.args.row; number = n } ∷ begins a.rows) (sym c.count.ensures)) in
    record {
      newest = subst (λ (h : List Row). IsNewest c.args.row h) (sym rows) refl;
      slots = length-set a.slots.items _ first ∙ c.self.invariant.slots;
      runs = omega (arith, c.self.invariant.runs, ap length new);
      latest = slots_more (begins a.rows) (begins c.add_run-2.new.self) a.slots.items first a.runs c.self.invariant.slots c.self.invariant.latest new c.self.invariant.runs;
    }
