use Rattle.std.proofs.Common.{◌∙◌, length, ap, arith}
use Rattle.part_fit.proofs.WorkRows.{part_rows-IsWork, part_rows-length}
use Rattle.part_fit.proofs.work.part_work.Goals as goal

pub rows_on-requires : goal.rows_on-requires
rows_on-requires c = omega (arith, ap length (c.deref.ensures.value ∙ c.parts.view_is), c.requires.parts, c.len-is_set.ensures.set.few)

pub work_of-requires : goal.work_of-requires
work_of-requires c =
    let tasks = (rw c.unwrap-tasks.ensures at c.in_ok-part.ensures).0 in
    let few = part_rows-length c.args.processor c.deref.result.now c.rows.result.now in
    record {
      work =
          rw (tasks, c.in_ok-rows.ensures, c.deref.ensures.value, c.parts.view_is, c.rows.ensures.value)
          (part_rows-IsWork c.args.processor c.args.set.now.tasks c.args.parts.now c.args.work.now c.requires.work);
      few = omega (arith, few, ap length c.in_ok-rows.ensures, ap length c.rows.ensures.value, c.rows.ensures.few);
    }

pub returns-clause-work : goal.returns-clause-work
returns-clause-work c =
    rw (c.work_of.ensures, c.in_ok-rows.ensures, c.deref.ensures.value, c.parts.view_is, c.rows.ensures.value)
    (part_rows-IsWork c.args.processor c.args.set.now.tasks c.args.parts.now c.args.work.now c.requires.work)
