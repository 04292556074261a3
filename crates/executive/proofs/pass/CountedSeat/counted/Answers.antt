use Rattle.std.proofs.Common.{arith, refl}
use Rattle.executive.specs.Histories.{entry}
use Rattle.executive.specs.Seats.{lists}
use Rattle.executive.specs.Counts.{with_answer}
use Rattle.executive.proofs.Adding.{tally_more, tally_few, few_places}
use Rattle.executive.proofs.pass.CountedSeat.counted.Goals as goal

pub with-requires : goal.with-requires
with-requires c =
    let h = c.requires.adds in
    let e = entry c.args.task.0 h.1 c.args.answer.now in
    let new = lists c.args.seat in
    let counts = tally_more c.args.count (with_answer c.args.count c.args.answer.now) e h.0 new h.2 h.5 refl in
    let few = tally_few (with_answer c.args.count c.args.answer.now) e h.0 new h.2 (record { rows = h.3; held = h.4 }) counts in
    let small = few_places e h.0 new h.2 in record {
      releases = omega (arith, few.releases, small);
      ticks = omega (arith, few.ticks, small);
      ends = omega (arith, few.ends, small);
      idles = omega (arith, few.idles, small);
    }

pub invariant_of-result : goal.invariant_of-result
invariant_of-result c =
    let h = c.requires.adds in
    let e = entry c.args.task.0 h.1 c.args.answer.now in
    let counts = tally_more c.args.count c.with.result e h.0 (lists c.args.seat) h.2 h.5 c.with.ensures in
    record {
      some = c.requires.some;
      number = c.requires.number;
      whole = h.2.own;
      counts = counts;
      few = tally_few c.with.result e h.0 (lists c.args.seat) h.2 (record { rows = h.3; held = h.4 }) counts;
    }
