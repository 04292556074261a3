use Rattle.std.proofs.Common.{◌≡◌, ℕ, List, false, subst, sym, ◌∙◌}
use Rattle.demand_test.specs.DemandFile.{has_name}
use Rattle.demand_test.proofs.ReadTasks.{so_far-pos}
use Rattle.demand_test.proofs.ListedTasks.{so_far_after}
use Rattle.demand_test.proofs.record.multiple_after.Goals as goal

pub multiple_with-requires-clause-some : goal.multiple_with-requires-clause-some
multiple_with-requires-clause-some c = so_far-pos c.args.before.now c.args.multiple c.requires.so_far

pub returns-clause-so_far : goal.returns-clause-so_far
returns-clause-so_far c =
    so_far_after c.args.before.now c.args.t.now c.args.multiple c.multiple_with.result c.requires.so_far c.if-before-ge128.false
    (record { form = c.bytes.ensures.form; new = subst (λ (n : List ℕ). has_name n c.args.before.now ≡ false) c.bytes.ensures.value (sym c.has_name.ensures ∙ c.if-has_name.false) })
    c.multiple_with.ensures.small c.multiple_with.ensures.value
