-- The rows of a trace are of its set.
use Rattle.std.proofs.Common.{List, [], ◌∷◌, All, reverse, subst, sym}
use Rattle.std.proofs.lemmas.List.{reverse-append, reverse-reverse}
use Rattle.std.proofs.lemmas.List.Elements.{All-nil, All-cons, All-append}
use Rattle.mc_task.specs.declared.task.Rule.{Rule}
use Rattle.mc_task.specs.declared.task.Task.{Task}
use Rattle.mc_model.specs.declared.row.Row.{Row}
use Rattle.mc_model.specs.Legal.{Legal, IsOfSet}
use Rattle.mc_model.specs.Traces.{IsTraceOf}

-- each row of a legal trace is of the set, with the oldest first
pub rows_of_legal : (set : List Task) (rule : Rule) (h : List Row) → Legal set rule h → All (IsOfSet set) (reverse h)
rows_of_legal set rule [] legal = All-nil (IsOfSet set)
rows_of_legal set rule (row ∷ g) legal =
    subst (All (IsOfSet set)) (sym (reverse-append (row ∷ []) g))
    (All-append (IsOfSet set) (reverse g) (row ∷ []) (rows_of_legal set rule g legal.2) (All-cons (IsOfSet set) row [] legal.0 (All-nil (IsOfSet set))))

-- each row of a trace is of the set, if its rows are written with the oldest first
pub rows_of_trace : (set : List Task) (rows : List Row) → IsTraceOf set (reverse rows) → All (IsOfSet set) rows
rows_of_trace set rows trace = subst (All (IsOfSet set)) (reverse-reverse rows) (rows_of_legal set trace.rule (reverse rows) trace.legal)
