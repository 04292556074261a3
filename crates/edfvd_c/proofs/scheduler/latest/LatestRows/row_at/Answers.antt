use Rattle.std.proofs.Common.{◌≡◌, ℕ, suc, ◌+◌, ◌-◌, ◌^◌, ◌<◌, ◌≤◌, min, List, Some, length, sym, ap, ◌∙◌, subst, arith}
use Rattle.std.specs.Prelude.{slice_get}
use Rattle.std.proofs.lemmas.List.{length-reverse}
use Rattle.mc_model.specs.declared.row.Row.{Row}
use Rattle.edfvd_c.specs.Scheduler.Latest.{begins, latest_from}
use Rattle.edfvd_c.proofs.scheduler.Slots.{slot_is}
use Rattle.edfvd_c.proofs.scheduler.RunBegins.{end_of, found_row, number_at, none_left, latest_below}
use Rattle.edfvd_c.proofs.scheduler.latest.LatestRows.row_at.Goals as goal

pub returns-then-number-first_kept : goal.returns-then-number-first_kept
returns-then-number-first_kept c =
    let below : c.args.number < latest_from c.args.self.now = omega (arith, c.if-number-first_kept.true, c.first_kept.ensures) in
    (below, omega (arith, below, latest_below c.args.self.now, length-reverse c.args.self.now))

pub returns-then-begin-number : goal.returns-then-begin-number
returns-then-begin-number c =
    let a = c.self.inside in
    let h : List Row = c.args.self.now in
    let back : ℕ = c.loop-back.back in
    let number : ℕ = c.args.number in
    let times : ℕ = c.most_32.result in
    let b = c.index-begin.result.now in
    let inside : back < a.runs = omega (arith, c.loop-back-test.true, c.min-back-end.ensures) in
    let late : back < 256 = omega (arith, c.loop-back-test.true, c.min-back-end.ensures) in
    let there : slice_get (begins h) back ≡ Some b = subst (λ (g : List Row). slice_get (begins g) back ≡ Some b) c.self.view_is
    (slot_is (begins a.rows) a.slots.items a.runs back _ b c.self.invariant.slots c.self.invariant.latest c.self.invariant.runs inside late (omega (arith, inside)) c.index-begin.ensures) in
    let few = subst (λ (e : ℕ). e - number < 2 ^ 32 → times ≡ e - number) c.loop-back.invariant.0 c.most_32.ensures.small in
    let many = subst (λ (e : ℕ). 2 ^ 32 ≤ e - number → times ≡ 2 ^ 32 - 1) c.loop-back.invariant.0 c.most_32.ensures.large in
    let found = found_row h back number times b there (omega (arith, c.if-begin-number.true)) (omega (arith, c.loop-back.invariant.1, c.loop-back.invariant.0)) few many in
    (omega (arith, c.if-number-first_kept.false, c.first_kept.ensures), found.0, found.1)

pub loop-back-preserved : goal.loop-back-preserved
loop-back-preserved c =
    let a = c.self.inside in
    let h : List Row = c.args.self.now in
    let back : ℕ = c.loop-back.back in
    let b = c.index-begin.result.now in
    let inside : back < a.runs = omega (arith, c.loop-back-test.true, c.min-back-end.ensures) in
    let late : back < 256 = omega (arith, c.loop-back-test.true, c.min-back-end.ensures) in
    let there : slice_get (begins h) back ≡ Some b = subst (λ (g : List Row). slice_get (begins g) back ≡ Some b) c.self.view_is
    (slot_is (begins a.rows) a.slots.items a.runs back _ b c.self.invariant.slots c.self.invariant.latest c.self.invariant.runs inside late (omega (arith, inside)) c.index-begin.ensures) in
    let more : back + 1 ≡ suc back = omega arith in
    (sym (ap (end_of h) more ∙ number_at h back b there), omega (arith, c.if-begin-number.false))

pub unreachable-requires : goal.unreachable-requires
unreachable-requires c =
    let h : List Row = c.args.self.now in
    let number : ℕ = c.args.number in
    let runs : c.self.inside.runs ≡ length (begins h) = c.self.invariant.runs ∙ ap (λ (g : List Row). length (begins g)) c.self.view_is in
    let at : c.loop-back.back ≡ min (length (begins h)) 256 = omega (arith, c.loop-back-test.false, c.loop-back.auto.back-end, c.min-back-end.ensures, runs) in
    none_left h number (subst (λ (n : ℕ). number < end_of h n) at (omega (arith, c.loop-back.invariant.1, c.loop-back.invariant.0)))
    (omega (arith, c.if-number-first_kept.false, c.first_kept.ensures))
