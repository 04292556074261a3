use Rattle.std.proofs.Common.{◌≡◌, ◌+◌, ◌*◌, ◌/◌, ◌<◌, ◌≤◌, List, Option, None, length, set, get_or, ◌∙◌, arith}
use Rattle.std.proofs.lemmas.List.{drop-set-lt, length-set}
use Rattle.ready_queue.specs.declared.item.Item.{Item}
use Rattle.ready_queue.proofs.Climbs.{climbed}
use Rattle.ready_queue.proofs.tree.climb.Goals as goal

pub loop-at-preserved : goal.loop-at-preserved
loop-at-preserved c =
    let inv = c.loop-at.invariant in
    let nodes : List (Option Item) = c.loop-at.nodes in
    let at = c.loop-at.at in
    let won : Option Item = get_or nodes c.winning_node-won.result None in
    let pair : 2 * at + 1 < length nodes = inv.1 in
    let some : 1 ≤ at = omega (arith, c.loop-at-test.true) in
    let long : length (set nodes at won) ≡ length nodes = length-set nodes at won in
    let above : 2 * (at / 2) + 1 < length (set nodes at won) = omega (arith, long, pair) in (
      long ∙ inv.0,
      above,
      climbed nodes at won some pair c.winning_node-won.ensures.winner inv.2,
      λ p room.
          let after : at < p = omega (arith, room, long, pair) in
          let same : length nodes ≤ 2 * p = omega (arith, room, long) in
          drop-set-lt p nodes at won after ∙ inv.3 p same,
    )
