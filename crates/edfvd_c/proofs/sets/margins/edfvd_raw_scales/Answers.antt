use Rattle.edfvd_c.proofs.sets.Scaled.{AreScales-of}
use Rattle.edfvd_c.proofs.sets.margins.edfvd_raw_scales.Goals as goal

pub returns-in-Some-clause-scales : goal.returns-in-Some-clause-scales
returns-in-Some-clause-scales c = λ ok.
    let belong = c.in-Ok.ensures.loads in
    let tasks = c.in-Ok.loaded.set.tasks in
    AreScales-of c.args.given.now tasks c.scales_in_numbers.result c.in-Some.range.least c.in-Some.range.greatest c.scales_in_numbers.ensures.least c.scales_in_numbers.ensures.greatest
    c.in-Ok.ensures.tasks.numbers belong.set c.in-Ok.ensures.tasks.range (c.in-Some.ensures.between tasks belong) (c.in-Some.ensures.greatest tasks belong) c.scales_in_numbers.ensures.lowest.0 c.scales_in_numbers.ensures.lowest.1
