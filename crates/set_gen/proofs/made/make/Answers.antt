use Rattle.set_gen.proofs.Admitted.{generated_sets-admitted}
use Rattle.set_gen.proofs.Taken.{generated_work-taken}
use Rattle.set_gen.proofs.made.make.Goals as goal

pub returns-clause-admitted : goal.returns-clause-admitted
returns-clause-admitted c = rw c.in_ok-made.ensures.set (generated_sets-admitted _ c.args.tasks c.requires.some c.requires.few)

pub returns-clause-is_work : goal.returns-clause-is_work
returns-clause-is_work c =
    rw (c.in_ok-made.ensures.set, c.in_ok-made.ensures.work) (generated_work-taken _ c.args.tasks c.args.ticks c.requires.some c.requires.few c.requires.last).work

pub returns-clause-sets : goal.returns-clause-sets
returns-clause-sets c = generated_sets-admitted

pub returns-clause-works : goal.returns-clause-works
returns-clause-works c = generated_work-taken

pub returns-in_err-made-clause-sets : goal.returns-in_err-made-clause-sets
returns-in_err-made-clause-sets c = generated_sets-admitted

pub returns-in_err-made-clause-works : goal.returns-in_err-made-clause-works
returns-in_err-made-clause-works c = generated_work-taken
