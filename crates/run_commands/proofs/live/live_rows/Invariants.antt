use Rattle.std.proofs.Common.{◌≡◌, ◌+◌, ◌≤◌, reverse, take}
use Rattle.mc_model.specs.Rows.{ticks}
use Rattle.run_commands.proofs.live.live_rows.Given as goal

abbrev pub invariant-loop-place : goal.invariant-loop-place
invariant-loop-place l = record {
  some : 1 ≤ l.left;
  sum : ticks (reverse (take l.place l.rows)) + l.left ≡ l.ticks;
}
