use Rattle.std.proofs.Common.{ap, sym, subst, ◌∙◌}
use Rattle.trace_judge.specs.Heads.{leaves, AreNodes}
use Rattle.trace_judge.proofs.Trees.{same_keys, same_leaves}
use Rattle.trace_judge.proofs.heads.Heads.new.Goals as goal

pub invariant_of-result : goal.invariant_of-result
invariant_of-result c = subst AreNodes (sym c.in_ok-nodes.ensures) (same_keys c.args.count c.requires)

pub returns : goal.returns
returns c = ap leaves c.in_ok-nodes.ensures ∙ same_leaves c.args.count
