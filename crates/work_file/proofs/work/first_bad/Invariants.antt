use Rattle.std.proofs.Common.{◌≡◌, ◌≤◌, take, drop}
use Rattle.mc_model.specs.Work.{IsWork}
use Rattle.work_file.specs.Rows.{first_bad, first_bad_after}
use Rattle.work_file.specs.Tracks.{Tracks}
use Rattle.work_file.proofs.work.first_bad.Given as goal

abbrev pub invariant-loop-index : goal.invariant-loop-index
invariant-loop-index l = record {
  bad : first_bad_after l.set.tasks (take l.index l.rows) (drop l.index l.rows) ≡ first_bad l.set.tasks l.rows;
  tracks : Tracks l.set.tasks (take l.index l.rows) l.next;
  work : IsWork l.set.tasks (take l.index l.rows);
  few : l.index ≤ 1000000;
}
