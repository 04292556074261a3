use Rattle.std.proofs.Common.{ap, rules, ◌≤◌, ◌<◌, length, subst, sym, ◌∙◌}
use Rattle.executive.specs.declared.state.Opened.{Opened}
use Rattle.executive.specs.Closing.{OneHistoryLeaves}
use Rattle.executive.specs.Passes.{floor_of}
use Rattle.executive.proofs.Closings.{of_seats, each_seat, closed}
use Rattle.executive.proofs.executive.Executive.shut.Goals as goal

pub close-called-requires-clause-of : goal.close-called-requires-clause-of
close-called-requires-clause-of c = of_seats c.args.self c.args.passes.items c.give_seats.new.list.items c.give_seats.ensures c.requires.of

pub close-called-requires-clause-each : goal.close-called-requires-clause-each
close-called-requires-clause-each c = λ k lt.
    each_seat c.args.self c.args.passes.items c.give_seats.new.list.items c.give_seats.ensures c.requires.each k (subst (λ n. k < n) (sym c.args.self.seats ∙ c.args.self.set) lt)

pub returns : goal.returns
returns c =
    let h = c.close-called.ensures in
    let few : length c.args.passes.items ≤ length (floor_of c.args.self).core.set = search rules in
    subst (OneHistoryLeaves (floor_of c.args.self) c.args.passes.items) (sym c.into_floor.ensures)
    (closed c.args.self c.args.passes.items c.give_seats.new.list.items c.close-called.result h.log few
    c.give_seats.ensures c.requires.of c.requires.each h.stands (ap (λ (x : Opened). x.floor) h.fixed) h.each)
