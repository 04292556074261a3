use Rattle.std.proofs.Common.{◌≡◌, ◌+◌, ◌<◌, ◌≤◌, ◌∙◌, map, length, refl, arith}
use Rattle.std.proofs.lemmas.Grind.{common_steps}
use Rattle.std.proofs.lemmas.List.{take_all}
use Rattle.std.proofs.lemmas.Option.{slice_get-get_or}
use Rattle.mc_task.specs.declared.task.Task.{Task}
use Rattle.edfvd_c.specs.Sets.Given.{AreOf}
use Rattle.edfvd_c.specs.Sets.Named.{names_of}
use Rattle.edfvd_c.specs.Sets.Refused.{Level, NoSet}
use Rattle.edfvd_c.proofs.sets.Causes.{refused_for}
use Rattle.edfvd_c.proofs.sets.Numbered.{names_more, names_none}
use Rattle.edfvd_c.proofs.sets.Levels.{first-of-no-level, levels_more, numbers-level}
use Rattle.edfvd_c.proofs.sets.given.set_of.Goals as goal

pub returns-in-None-clause-refused : goal.returns-in-None-clause-refused
returns-in-None-clause-refused c =
    let inside : c.loop-place.place < length c.args.given.now = omega arith in
    refused_for _ _ _ (omega arith) (omega arith) (omega arith)
    (record {
      cause = Level (c.loop-place.place + 1);
      has = first-of-no-level c.args.given.now c.loop-place.place _ inside c.in-None.ensures.none c.loop-place.invariant.levels;
      status_is = refl;
      task_is = refl;
    })

pub loop-place-init : goal.loop-place-init
loop-place-init c = record {
  numbers = grind (arith, common_steps);
  names = grind (arith, common_steps, names_none);
  levels = λ i t below at. omega (arith, below);
}

pub loop-place-preserved : goal.loop-place-preserved
loop-place-preserved c =
    let inside : c.loop-place.place < length c.args.given.now = omega arith in
    record {
      numbers = grind (arith, common_steps);
      names = grind (arith, common_steps, names_more c.loop-place.place);
      levels = levels_more c.args.given.now c.loop-place.place _ (slice_get-get_or c.args.given.now c.loop-place.place _ inside) (numbers-level c.in-Some.task _ c.in-Some.ensures.some) c.loop-place.invariant.levels;
    }

pub returns-in-Err-clause-refused : goal.returns-in-Err-clause-refused
returns-in-Err-clause-refused c =
    let past : length c.args.given.now ≤ c.loop-place.place = omega arith in
    let numbers : AreOf c.args.given.now c.loop-place.tasks.items = c.loop-place.invariant.numbers ∙ take_all c.loop-place.place c.args.given.now past in
    let named : map (λ (t : Task). t.name) c.loop-place.tasks.items ≡ names_of (length c.loop-place.tasks.items) = grind (arith, common_steps, c.loop-place.invariant.names, numbers) in
    let status = c.no_set.ensures.status in
    refused_for _ _ _ (omega arith) status.1 (omega (arith, status.2))
    (record {
      cause = NoSet c.in-Err.fault;
      has = (c.loop-place.tasks.items, (numbers, named), c.in-Err.ensures.fault);
      status_is = status.0;
      task_is = c.no_set.ensures.task;
    })
