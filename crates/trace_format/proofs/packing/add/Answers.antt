use Rattle.std.proofs.Common.{◌≡◌, ◌-◌, ◌++◌, ℕ, List, length, slice_set, sym, ap, ◌∙◌, arith}
use Rattle.mc_model.specs.Runs.{rows_of, expand}
use Rattle.mc_model.specs.declared.run.Run.{Run}
use Rattle.trace_format.specs.Packing.{ArePacked, with_last}
use Rattle.trace_format.proofs.PackLemmas.{taken, added}
use Rattle.trace_format.proofs.packing.add.Goals.{In-Some, In_ok-push}
use Rattle.trace_format.proofs.packing.add.Goals as goal

-- the last run takes the new one
by_last : (c : In-Some) (n : ℕ) → n ≡ length c.args.runs.now.items
    → let new = slice_set c.args.runs.now.items (n - 1) c.in-Some.both in (expand new ≡ expand c.args.runs.now.items ++ rows_of c.args.run) × ArePacked new
by_last c n all =
    taken c.args.runs.now.items _ c.args.run c.in-Some.both c.requires.packed
    (ap (λ (runs : List Run). with_last runs c.args.run) (sym c.deref.ensures.value) ∙ (sym c.with_last.ensures ∙ c.in-Some.is))
    (ap (λ m. slice_set c.args.runs.now.items (m - 1) c.in-Some.both) all)

pub returns-in-Some-clause-rows : goal.returns-in-Some-clause-rows
returns-in-Some-clause-rows c = (by_last (goal.at.returns-in-Some-clause-rows c).In-Some _ (omega (arith, c.len-last.ensures, c.args.runs.now.ok.0))).0

pub returns-in-Some-clause-packed : goal.returns-in-Some-clause-packed
returns-in-Some-clause-packed c = (by_last (goal.at.returns-in-Some-clause-packed c).In-Some _ (omega (arith, c.len-last.ensures, c.args.runs.now.ok.0))).1

-- the new run is added by itself
by_itself : (c : In_ok-push) → (expand c.push.new.self.items ≡ expand c.args.runs.now.items ++ rows_of c.args.run) × ArePacked c.push.new.self.items
by_itself c =
    added c.args.runs.now.items c.push.new.self.items c.args.run c.requires.packed c.requires.is_run
    (ap (λ (runs : List Run). with_last runs c.args.run) (sym c.deref.ensures.value) ∙ (sym c.with_last.ensures ∙ c.in_default.is)) c.in_ok-push.ensures.items

pub returns-clause-rows : goal.returns-clause-rows
returns-clause-rows c = (by_itself c).0

pub returns-clause-packed : goal.returns-clause-packed
returns-clause-packed c = (by_itself c).1
