-- The rows of a processor's tasks are work for them.
use Rattle.std.proofs.Common.{◌≡◌, ℕ, ◌+◌, ◌<◌, ◌≤◌, inl, inr, true, List, [], ◌∷◌, ◌++◌, get_or, take, map, length, Option, Some, None, refl}
use Rattle.std.proofs.lemmas.Bool.{cases_Bool, cond_both}
use Rattle.std.proofs.lemmas.List.{length-map, map-append}
use Rattle.std.proofs.lemmas.List.Elements.{filter_more}
use Rattle.std.proofs.lemmas.List.Sums.{length-filter, count_by-le-length}
use Rattle.mc_task.specs.declared.task.Task.{Task}
use Rattle.mc_model.specs.Work.{MayFollow, AllFollow, IsWork}
use Rattle.mc_model.specs.declared.work.WorkRow.{WorkRow}
use Rattle.part_fit.specs.Parts.{part_of}
use Rattle.part_fit.specs.PartWork.{is_on, renumbered, part_rows}
use Rattle.part_fit.specs.Numbering.{number_there}
use Rattle.part_fit.proofs.Numbers.{number-IsIn, number-task, number-injective}

may_follow : (n : ℕ) (set : List Task) (of : List ℕ) (w v : WorkRow) → is_on n of w.task.0 ≡ true → is_on n of v.task.0 ≡ true → MayFollow set w v
    → MayFollow (part_of set of n) (renumbered n of w) (renumbered n of v)
may_follow n set of w v a b h = record {
  order = h.order;
  apart = λ same. rw (number-task n set of w.task.0 a) (h.apart (number-injective n of w.task.0 v.task.0 a b same));
}

all_follow : (n : ℕ) (set : List Task) (of : List ℕ) (w : WorkRow) (vs : List WorkRow) → is_on n of w.task.0 ≡ true → AllFollow set w vs
    → AllFollow (part_of set of n) (renumbered n of w) (part_rows n of vs)
unfolding part_rows
all_follow n set of w [] a h = tt
all_follow n set of w (v ∷ vs) a h =
    let rest = all_follow n set of w vs a h.1 in
    cond_both (is_on n of v.task.0) _ _ (λ us. AllFollow (part_of set of n) (renumbered n of w) (map (renumbered n of) us))
    (λ b. (may_follow n set of w v a b h.0, rest)) (λ b. rest)

pub part_rows-IsWork : (n : ℕ) (set : List Task) (of : List ℕ) (work : List WorkRow) → IsWork set work → IsWork (part_of set of n) (part_rows n of work)
unfolding part_rows
part_rows-IsWork n set of [] h = tt
part_rows-IsWork n set of (w ∷ ws) h =
    let rest = part_rows-IsWork n set of ws h.2 in
    cond_both (is_on n of w.task.0) _ _ (λ us. IsWork (part_of set of n) (map (renumbered n of) us))
    (λ a. (record { task = number-IsIn n set of w.task.0 a h.0.task; need = h.0.need }, all_follow n set of w ws a h.1, rest)) (λ a. rest)

-- a processor has at most as many rows of work as there are
pub part_rows-length : (n : ℕ) (of : List ℕ) (work : List WorkRow) → length (part_rows n of work) ≤ length work
unfolding part_rows
part_rows-length n of work = simp (length-map, length-filter) (count_by-le-length (λ w. is_on n of w.task.0) work)

-- the row with this task number, if there is one
abbrev pub with_number : WorkRow → Option ℕ → List WorkRow
with_number w None = []
with_number w (Some number) = (record w { task = record { 0 = number } }) ∷ []

-- a processor's rows with one more, by its task's number there
pub part_rows-more : (n : ℕ) (of : List ℕ) (rows : List WorkRow) (i : ℕ) (d : WorkRow) {number : Option ℕ} → i < length rows
    → number ≡ number_there n of (get_or rows i d).task.0 → part_rows n of (take (i + 1) rows) ≡ part_rows n of (take i rows) ++ with_number (get_or rows i d) number
unfolding part_rows
part_rows-more n of rows i d inside is =
    rw (is, filter_more (λ w. is_on n of w.task.0) rows i d inside, map-append)
    (elim (cases_Bool (is_on n of (get_or rows i d).task.0)) [ inl on ↦ rw on refl | inr off ↦ rw off refl ])
