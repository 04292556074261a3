use Rattle.std.proofs.Common.{◌≡◌, drop}
use Rattle.mc_world.specs.CalmShelfState.{bytes_at}
use Rattle.mc_world.specs.MemoryShelfState.{files_of}
use Rattle.mc_world.proofs.calm_shelf.held.Given as goal

abbrev pub invariant-loop-key : goal.invariant-loop-key
invariant-loop-key l = bytes_at l.name (files_of (drop l.key-index l.files)) ≡ bytes_at l.name (files_of l.files)
