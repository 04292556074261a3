use Rattle.std.proofs.Common.{arith}
use Rattle.std.proofs.lemmas.Bool.{false≢true}
use Rattle.std.proofs.lemmas.Result.{err_from_is_err_and}
use Rattle.mc_model.proofs.Hyperperiod.{hyperperiod-IsLeastCommon, range_fault-past}
use Rattle.load_sum.proofs.BelongTo.{BelongTo-from_sums}
use Rattle.load_sum.proofs.loads.sum_loads.Goals as goal

pub returns-in_err-lcm-clause-within : goal.returns-in_err-lcm-clause-within
returns-in_err-lcm-clause-within c =
    let p = err_from_is_err_and c.from_residual.result c.from_residual.ensures.1 in
    let past = range_fault-past 1 1 _ c.args.set.now.tasks (omega arith) c.common_multiple.ensures.set.each c.in_err-lcm.ensures.range in
    rw p.1 (λ ok. absurd (false≢true ok), λ within. absurd (omega arith))

pub returns-in_err-lcm-clause-law : goal.returns-in_err-lcm-clause-law
returns-in_err-lcm-clause-law c = hyperperiod-IsLeastCommon

pub returns-clause-ok : goal.returns-clause-ok
returns-clause-ok c =
    let ok = c.in_ok-lcm.ensures.ok in
    let lcm = c.loads_over.ensures.lcm in (
      BelongTo-from_sums _ _ c.common_multiple.ensures.set (rw lcm ok.1) (rw lcm ok.2) (rw lcm ok.3)
          (rw lcm c.loads_over.ensures.low_low) (rw lcm c.loads_over.ensures.high_low) (rw lcm c.loads_over.ensures.high_high),
      ok.0,
    )

pub returns-clause-law : goal.returns-clause-law
returns-clause-law c = hyperperiod-IsLeastCommon
