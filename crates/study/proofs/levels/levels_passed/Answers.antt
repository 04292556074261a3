use Rattle.study.proofs.Reached.{reached-none, reached-some}
use Rattle.study.proofs.levels.levels_passed.Goals as goal

pub returns-in-Some : goal.returns-in-Some
returns-in-Some c =
    reached-some c.args.number c.args.tasks c.in-Some.most c.admitted.result c.sums_of-sums.result c.requires.some_tasks c.requires.few_tasks c.sums_of-sums.ensures c.in-Some.ensures
    (rw (← c.as_slice.ensures.value) c.admitted.ensures)

pub returns-in-None : goal.returns-in-None
returns-in-None c = reached-none c.args.number c.args.tasks c.sums_of-sums.result c.requires.some_tasks c.requires.few_tasks c.sums_of-sums.ensures c.in-None.ensures
