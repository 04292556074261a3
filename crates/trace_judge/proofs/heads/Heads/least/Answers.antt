use Rattle.std.proofs.Common.{◌≡◌, ℕ, List, ◌≤◌, length, get_or, sym, arith}
use Rattle.std.specs.Prelude.{slice_index}
use Rattle.std.proofs.lemmas.List.{get_or_read}
use Rattle.trace_judge.proofs.Trees.{root_below, root_there}
use Rattle.trace_judge.proofs.heads.Heads.least.Goals as goal

-- the node that is read is the root
root : (nodes : List ℕ) (x : ℕ) → 2 ≤ length nodes → x ≡ get_or nodes 1 x → slice_index nodes 1 ≡ x
root nodes x some read = sym (get_or_read nodes 1 x (omega (arith, some)) read 0)

pub returns-clause-below : goal.returns-clause-below
returns-clause-below c =
    let at = root c.self.inside.nodes.items c.index.result.now c.self.invariant.some c.index.ensures in
    rw (← c.self.view_is, ← at) (root_below c.self.inside.nodes.items c.self.invariant)

pub returns-clause-there : goal.returns-clause-there
returns-clause-there c =
    let at = root c.self.inside.nodes.items c.index.result.now c.self.invariant.some c.index.ensures in
    rw (← c.self.view_is, ← at) (root_there c.self.inside.nodes.items c.self.invariant)
