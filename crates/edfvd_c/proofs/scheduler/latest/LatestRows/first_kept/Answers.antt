use Rattle.std.proofs.Common.{◌≡◌, ◌≤◌, List, Some, sym, subst, arith}
use Rattle.std.specs.Prelude.{slice_get}
use Rattle.mc_model.specs.declared.row.Row.{Row}
use Rattle.edfvd_c.specs.Scheduler.Latest.{begins, latest_from}
use Rattle.edfvd_c.proofs.scheduler.Slots.{slot_is}
use Rattle.edfvd_c.proofs.scheduler.RunBegins.{number_at}
use Rattle.edfvd_c.proofs.scheduler.latest.LatestRows.first_kept.Goals as goal

pub returns : goal.returns
returns c =
    let a = c.self.inside in
    let b = c.index.result.now in
    let many : 256 ≤ a.runs = omega (arith, c.if-self-lt-KEPT.false) in
    let there : slice_get (begins a.rows) 255 ≡ Some b = slot_is (begins a.rows) a.slots.items a.runs 255 _ b c.self.invariant.slots c.self.invariant.latest c.self.invariant.runs (omega (arith, many)) (omega arith) (omega (arith, many)) c.index.ensures in
    subst (λ (h : List Row). b.number ≡ latest_from h) c.self.view_is (sym (number_at a.rows 255 b there))
