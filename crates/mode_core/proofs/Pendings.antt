-- The pending jobs of a legal trace, row by row, and its counts.
use Rattle.std.proofs.Common.{◌≡◌, ◌≤◌, Bool, true, false, List, [], ◌∷◌, ◌++◌, length, reverse, sym, ap, ◌∙◌, arith}
use Rattle.std.proofs.lemmas.List.{reverse-append}
use Rattle.mc_task.specs.declared.task.Rule.{Rule}
use Rattle.mc_task.specs.declared.task.Task.{Task}
use Rattle.mc_task.specs.declared.task.JobId.{JobId}
use Rattle.mc_model.specs.declared.row.Row.{Row}
use Rattle.mc_model.specs.declared.row.Row.TheVariants.{Release, Tick, Idle}
use Rattle.mc_model.specs.Pending.{pending}
use Rattle.mc_model.specs.Rows.{ticks, used}
use Rattle.mc_model.specs.Legal.{Legal}
use Rattle.mc_model.proofs.Bridge.{bridge}
use Rattle.mc_model.proofs.Steps.{release_fits}
use Rattle.mc_model.proofs.Counts.{counted as counted_so}

-- after a push the new element stands first in the reversed list
pub pushed : {X : Type 0} → (x : X) (xs ys : List X) → ys ≡ xs ++ x ∷ [] → reverse ys ≡ x ∷ reverse xs
pushed x xs ys e = ap reverse e ∙ reverse-append xs (x ∷ [])

-- a kept release adds its job to the pending jobs
pub pending-kept : (set : List Task) (rule : Rule) (j : JobId) (g : List Row) → Legal set rule (Release j true ∷ g) → pending set (Release j true ∷ g) ≡ record { job = j; release = ticks g } ∷ pending set g
pending-kept set rule j g l = (bridge set rule (Release j true ∷ g) l).same ∙ ap (λ xs. record { job = j; release = ticks g } ∷ xs) (sym (bridge set rule g l.2).same)

-- a dropped release adds no pending job
pub pending-dropped : (set : List Task) (rule : Rule) (j : JobId) (g : List Row) → Legal set rule (Release j false ∷ g) → pending set (Release j false ∷ g) ≡ pending set g
pending-dropped set rule j g l = (bridge set rule (Release j false ∷ g) l).same ∙ sym (bridge set rule g l.2).same

-- an idle tick leaves the pending jobs as they are
pub pending-idle : (set : List Task) (rule : Rule) (g : List Row) → Legal set rule (Idle ∷ g) → pending set (Idle ∷ g) ≡ pending set g
pending-idle set rule g l = (bridge set rule (Idle ∷ g) l).same ∙ sym (bridge set rule g l.2).same

-- a job that was just released has no ticks
pub unused : (set : List Task) (rule : Rule) (j : JobId) (kept : Bool) (h : List Row) → Legal set rule (Release j kept ∷ h) → used h j ≡ 0
unused set rule j kept h l = (counted_so set rule h (bridge set rule h l.2).legal).fresh j (omega (arith, (release_fits set rule j kept h l.1).count))
