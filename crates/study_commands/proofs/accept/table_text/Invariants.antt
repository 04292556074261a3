use Rattle.std.proofs.Common.{◌≡◌, ◌+◌, ◌*◌, ◌++◌, drop}
use Rattle.study_commands.specs.Accept.{lines_from}
use Rattle.study_commands.proofs.accept.table_text.Given as goal

abbrev pub invariant-loop-count : goal.invariant-loop-count
invariant-loop-count l = record {
  text : l.text.items ++ lines_from l.s (drop l.count-index l.counts) ≡ lines_from 100 l.counts;
  s : l.s ≡ 100 + 10 * l.count-index;
}
