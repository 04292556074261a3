use Rattle.std.proofs.Common.{false, sym, ap, ◌∙◌, subst}
use Rattle.timetable.specs.Floor.{FloorState, after_outcome}
use Rattle.timetable.specs.Shape.{AddsRow}
use Rattle.timetable.proofs.NextActs.{release_adds, grant_adds}
use Rattle.timetable.proofs.floor.Floor.act.Goals as goal

pub release-requires : goal.release-requires
release-requires c =
    let a = release_adds c.args.self.now.core c.args.self.now.plan c.args.self.now.taken c.in-Release.task c.requires.planned c.requires.out c.requires.more c.requires.sound c.requires.run (sym c.next_act.ensures ∙ c.in-Release.is) in
    record { in_set = a.inside }

pub returns-in-Release : goal.returns-in-Release
returns-in-Release c =
    let a = release_adds c.args.self.now.core c.args.self.now.plan c.args.self.now.taken c.in-Release.task c.requires.planned c.requires.out c.requires.more c.requires.sound c.requires.run (sym c.next_act.ensures ∙ c.in-Release.is) in
    subst (λ (f : FloorState). AddsRow c.args.self.now f) (sym c.release.ensures.state) a.adds

pub grant-requires : goal.grant-requires
grant-requires c =
    let a = grant_adds c.args.self.now.core c.args.self.now.plan c.args.self.now.taken c.in-Grant.task c.requires.planned c.requires.out c.requires.more c.requires.sound c.requires.run (sym c.next_act.ensures ∙ c.in-Grant.is) in
    record { in_set = a.inside }

pub returns-in-Ok : goal.returns-in-Ok
returns-in-Ok c =
    let a = grant_adds c.args.self.now.core c.args.self.now.plan c.args.self.now.taken c.in-Grant.task c.requires.planned c.requires.out c.requires.more c.requires.sound c.requires.run (sym c.next_act.ensures ∙ c.in-Grant.is) in
    let state = c.outcome.ensures.state ∙ ap (λ (f : FloorState). after_outcome f c.in-Ok.granted.job false) c.grant.ensures.state in
    subst (λ (f : FloorState). AddsRow c.args.self.now f) (sym state) (a.given c.in-Ok.granted false (sym c.grant.ensures.answer ∙ c.in-Ok.is))
