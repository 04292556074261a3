use Rattle.std.proofs.Common.{refl, sym}
use Rattle.mc_model.specs.Test.{test}
use Rattle.admission.proofs.tested.test_set.Goals as goal

pub returns-in-Some-clause-tested : goal.returns-in-Some-clause-tested
unfolding test
returns-in-Some-clause-tested c =
    let (belong, within) = c.in-Ok.ensures.ok in record {
      range = within;
      loads = belong;
      rule = sym (c.in-Some.ensures.test (record { tasks = c.args.set.now.tasks; scale = c.args.scale }) belong refl);
      fits = c.in-Some.ensures.fits;
      holds = c.in-Some.ensures.holds c.args.set.now.tasks belong;
    }

pub returns-in-None-clause-no_rule : goal.returns-in-None-clause-no_rule
unfolding test
returns-in-None-clause-no_rule c =
    let (belong, within) = c.in-Ok.ensures.ok in
    (belong, within, sym (c.in-None.ensures.test (record { tasks = c.args.set.now.tasks; scale = c.args.scale }) belong refl))
