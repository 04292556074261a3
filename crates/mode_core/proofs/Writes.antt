-- The held releases are written one after another.
use Rattle.std.proofs.Common.{◌≡◌, ℕ, ◌+◌, ◌<◌, ◌≤◌, List, [], ◌∷◌, ◌++◌, take, drop, reverse, length, get_or, refl, sym, ap, ◌∙◌, subst, arith}
use Rattle.std.proofs.lemmas.List.{reverse-append, take-append-drop, length-reverse, length-take-le}
use Rattle.mc_task.specs.declared.task.Rule.{Rule}
use Rattle.mc_task.specs.declared.task.Task.{Task}
use Rattle.mc_task.specs.declared.task.JobId.{JobId}
use Rattle.mc_model.specs.declared.row.Row.{Row}
use Rattle.mc_model.specs.Legal.{Legal}
use Rattle.mc_model.proofs.Lists.{reverse-take_more}
use Rattle.mode_core.proofs.Held.{length-held}
use Rattle.mc_model.specs.Core.{add_held, release_row}

-- the held releases of two joined lists are written list by list
held-append : (set : List Task) (rule : Rule) (xs ys : List JobId) (g : List Row) → add_held set rule (xs ++ ys) g ≡ add_held set rule xs (add_held set rule ys g)
held-append set rule [] ys g = refl
held-append set rule (x ∷ xs) ys g = ap (λ h. release_row set rule x h ∷ h) (held-append set rule xs ys g)

-- if the rows with the held releases are legal, the rows before the held releases are legal
legal-before : (set : List Task) (rule : Rule) (xs : List JobId) (g : List Row) → Legal set rule (add_held set rule xs g) → Legal set rule g
legal-before set rule [] g l = l
legal-before set rule (x ∷ xs) g l = legal-before set rule xs g l.2

-- one more release is one more row
pub add_one : (set : List Task) (rule : Rule) (js : List JobId) (i : ℕ) (d : JobId) (g : List Row) → i < length js →
    add_held set rule (reverse (take (i + 1) js)) g ≡ release_row set rule (get_or js i d) (add_held set rule (reverse (take i js)) g) ∷ add_held set rule (reverse (take i js)) g
add_one set rule js i d g h = ap (λ xs. add_held set rule xs g) (reverse-take_more js i d h)

-- the row of the next held release fits
pub legal_one : (set : List Task) (rule : Rule) (js : List JobId) (i : ℕ) (d : JobId) (g : List Row) → i < length js → Legal set rule (add_held set rule (reverse js) g) →
    Legal set rule (release_row set rule (get_or js i d) (add_held set rule (reverse (take i js)) g) ∷ add_held set rule (reverse (take i js)) g)
legal_one set rule js i d g h l =
    let before = add_held set rule (reverse (take (i + 1) js)) g in
    let split : reverse js ≡ reverse (drop (i + 1) js) ++ reverse (take (i + 1) js) =
    ap reverse (sym (take-append-drop (i + 1) js)) ∙ reverse-append (take (i + 1) js) (drop (i + 1) js) in
    let all : Legal set rule (add_held set rule (reverse (drop (i + 1) js)) before) =
    rw (split, held-append set rule (reverse (drop (i + 1) js)) (reverse (take (i + 1) js)) g) at l in
    subst (Legal set rule) (add_one set rule js i d g h) (legal-before set rule (reverse (drop (i + 1) js)) before all)

-- there is capacity for the next held release
pub room_one : (set : List Task) (rule : Rule) (js : List JobId) (i n : ℕ) (g : List Row) → i < length js → length g + length js ≤ n → length (add_held set rule (reverse (take i js)) g) < n
room_one set rule js i n g h r =
    omega (arith, length-held set rule (reverse (take i js)) g, length-reverse (take i js), length-take-le i js (omega (arith, h)), h, r)
