use Rattle.std.proofs.Common.{◌≡◌, true, List, sym, ap, ◌∙◌, subst}
use Rattle.std.specs.Prelude.{nat_lt}
use Rattle.mc_model.specs.declared.row.Row.{Row}
use Rattle.edfvd_c.specs.Scheduler.Latest.{is_again, same_row}
use Rattle.edfvd_c.proofs.scheduler.RunBegins.{again_newest}
use Rattle.edfvd_c.proofs.scheduler.latest.LatestRows.is_again.Goals as goal

pub returns-then-same_row : goal.returns-then-same_row
returns-then-same_row c =
    let a = c.self.inside in
    let same : same_row a.newest c.args.row ≡ true = sym c.same_row.ensures ∙ c.if-same_row.true in
    subst (λ (h : List Row). nat_lt 0 a.runs ≡ is_again c.args.row h) c.self.view_is (ap (nat_lt 0) c.self.invariant.runs ∙ again_newest c.args.row a.newest a.rows c.self.invariant.newest same)
