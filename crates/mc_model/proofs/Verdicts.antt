-- A verdict finds no fault exactly in legal traces.
use Rattle.std.proofs.Common.{◌≡◌, ℕ, ◌+◌, List, [], ◌∷◌, Option, Some, None, option_map, length, refl, ap, ◌∙◌}
use Rattle.std.specs.List.{AllByRecursion}
use Rattle.std.specs.Option.{option_or}
use Rattle.mc_task.specs.declared.task.Task.{Task}
use Rattle.mc_task.specs.declared.task.Rule.{Rule}
use Rattle.mc_task.specs.declared.task.JobId.{JobId}
use Rattle.mc_model.specs.declared.row.Row.{Row}
use Rattle.mc_model.specs.declared.verdict.Why.{Why}
use Rattle.mc_model.specs.Late.{late}
use Rattle.mc_model.specs.Legal.{Legal, IsOfSet, fault}
use Rattle.mc_model.specs.Verdict.{RowFault, first_unfit, verdict, verdict_of}
use Rattle.mc_model.specs.declared.verdict.Verdict.TheVariants as verdicts

-- a legal trace has no row that does not fit
pub no_fault : (set : List Task) (rule : Rule) (h : List Row) → Legal set rule h → first_unfit set rule h ≡ None
no_fault set rule [] l = refl
no_fault set rule (row ∷ g) l = rw (no_fault set rule g l.2, l.1) refl

-- if one of two options is chosen and the result is none, both are none
neither : (a : Option RowFault) (place : ℕ) (b : Option Why) → option_or a (option_map (λ why. record { place = place; why = why }) b) ≡ None → (a ≡ None) × (b ≡ None)
neither None place None h = (refl, refl)
neither None place (Some why) h = cc
neither (Some fault) place b h = cc

-- a trace of the set's tasks without a row that does not fit is legal
pub legal_by_verdict : (set : List Task) (rule : Rule) (h : List Row) → AllByRecursion (IsOfSet set) h → first_unfit set rule h ≡ None → Legal set rule h
legal_by_verdict set rule [] of f = tt
legal_by_verdict set rule (row ∷ g) of f =
    let p = neither (first_unfit set rule g) (length g + 1) (fault set rule row g) f in
    (of.0, p.1, legal_by_verdict set rule g of.1 p.0)

-- the verdict on a legal trace counts the late jobs
pub verdict-legal : (set : List Task) (rule : Rule) (h : List Row) → Legal set rule h → verdict set rule h ≡ verdict_of None (late set h)
verdict-legal set rule h l = ap (λ f. verdict_of f (late set h)) (no_fault set rule h l)

-- the verdict on a legal trace without late jobs counts 0 and names none
pub verdict-good : (set : List Task) (rule : Rule) (h : List Row) → Legal set rule h → late set h ≡ [] → verdict set rule h ≡ verdicts.Legal 0 None
verdict-good set rule h l none = verdict-legal set rule h l ∙ ap (λ (jobs : List JobId). verdict_of None jobs) none
