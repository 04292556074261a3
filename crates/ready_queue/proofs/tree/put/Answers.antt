use Rattle.std.proofs.Common.{◌*◌, ◌≤◌, length, set, ◌+◌, ◌∙◌, arith}
use Rattle.std.proofs.lemmas.List.{drop-set-add, length-set}
use Rattle.ready_queue.proofs.tree.put.Goals as goal

pub returns-clause-leaves : goal.returns-clause-leaves
returns-clause-leaves c =
    let room : length (set c.args.nodes.now (c.args.places + c.args.leaf) c.args.item) ≤ 2 * c.args.places = omega (arith, length-set c.args.nodes.now (c.args.places + c.args.leaf) c.args.item, c.requires.places) in
    c.climb.ensures.leaves c.args.places room ∙ drop-set-add c.args.places c.args.nodes.now c.args.leaf c.args.item
