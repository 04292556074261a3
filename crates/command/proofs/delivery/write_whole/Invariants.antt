use Rattle.std.proofs.Common.{◌≡◌, ◌≤◌, ◌-◌, length}
use Rattle.command.specs.Written.{Wrote}
use Rattle.command.proofs.delivery.write_whole.Given as goal

abbrev pub invariant-pieces : goal.invariant-pieces
invariant-pieces g l = record {
  within : l.done ≤ length l.text;
  wrote : Wrote l.done l.text (g.K.Sink.state l.fn.out) (g.K.Sink.state l.out);
  faults : (g.K.Sink.state l.out).faults ≡ (g.K.Sink.state l.fn.out).faults;
}

abbrev pub decreases-pieces : goal.decreases-pieces
decreases-pieces g l = length l.text - l.done
