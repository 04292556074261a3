-- Lists of workers and of starts, in the order of their tasks.
use Rattle.std.proofs.Common.{arith, ◌++◌, ℕ, ◌≡◌, ◌<◌, ◌+◌, ◌-◌, ◌==◌, ◌∙◌, List, [], ◌∷◌, true, length, sym, subst}
use Rattle.std.specs.List.{slice_index_or, slice_set}
use Rattle.std.proofs.lemmas.Bool.{eq-eqb}
use Rattle.std.proofs.lemmas.List.Folds.{list_any_at}
use Rattle.std.proofs.lemmas.List.{get_or-set_same, get_or-set_other, length-set, length-append}
use Rattle.std.proofs.Math.ListN.{get_or-append}
use Rattle.std.proofs.Math.Seq.{get_or-append_seam}
use mathlib.Core.Logic.{dite}
use native.Mathlib.Decide.{ℕ_discrete}
use Rattle.executive.specs.declared.pass.TaskPass.{TaskPass}
use Rattle.executive.specs.declared.executive.Executive.{Executive}
use Rattle.executive.specs.Opening.{AreFresh}
use Rattle.executive.specs.Passes.{of_pass, floor_of}
use Rattle.executive.specs.Closing.{has_pass, IsMissing}
use Rattle.task_threads.specs.declared.starts.SpawnResult.{SpawnResult}
use Rattle.task_threads.specs.Passes.{IsPassFor}
use Rattle.task_threads.specs.Workers.{AreInOrder}
use Rattle.task_threads.specs.Starts.{IsSpawnResultOf, GoDown}

-- passes that were just made are in order
pub from_fresh : (e : Executive) (ps : List TaskPass) → AreFresh e ps → AreInOrder IsPassFor e ps
from_fresh e ps fresh i d lt = ((fresh i d lt).of, (fresh i d lt).task)

-- an element of a non-empty list
pub first_of : {A : Type 0} (xs : List A) → 0 < length xs → A
first_of [] h = absurd (omega (arith, h))
first_of (x ∷ xs) h = x

-- if there are as many passes in order as tasks, no task lacks one
pub none_missing : (e : Executive) (ps : List TaskPass) (k : ℕ) → AreInOrder IsPassFor e ps → IsMissing ps (floor_of e).core.set k → length ps ≡ length (floor_of e).core.set → ⊥
none_missing e ps k order missing all =
    let a = missing.in_set.0 in
    let b = missing.in_set.1 in
    let lt : k - 1 < length ps = omega (arith, a, b, all) in
    let is : k - 1 + 1 ≡ k = omega (arith, a) in
    let d = first_of ps (omega (arith, lt)) in
    let there : has_pass ps k ≡ true = list_any_at (λ p. (of_pass p).task == k) ps (k - 1) d lt (eq-eqb _ k ((order (k - 1) d lt).1 ∙ is)) in
    let none = missing.none in cc

-- workers in order with one more, of the next task
pub one_more : {T : Type 0} (is_of : Executive → ℕ → T → Type 0) (e : Executive) (ws : List T) (w : T) → AreInOrder is_of e ws → is_of e (length ws + 1) w → AreInOrder is_of e (ws ++ w ∷ [])
one_more is_of e ws w all last i d lt =
    let len : length (ws ++ w ∷ []) ≡ length ws + 1 = length-append ws (w ∷ []) in
    dite (ℕ_discrete i (length ws))
    (λ same. subst (λ (j : ℕ). is_of e (j + 1) (slice_index_or (ws ++ w ∷ []) j d)) (sym same) (subst (is_of e (length ws + 1)) (sym (get_or-append_seam ws w [] d)) last))
    (λ other. let before : i < length ws = omega (arith, len, lt, other) in
    subst (is_of e (i + 1)) (sym (get_or-append ws (w ∷ []) d i before)) (all i d before))

-- starts in order with one replaced by another of the same task
pub replaced : {T : Type 0} (is_of : Executive → ℕ → T → Type 0) (e : Executive) (n m : ℕ) (ss : List (SpawnResult T)) (k : ℕ) (s : SpawnResult T) → m ≡ n → length ss ≡ n → k < m → GoDown is_of e n ss → IsSpawnResultOf is_of e (m - k) s → GoDown is_of e n (slice_set ss k s)
replaced {T} is_of e n m ss k s same_number len below down is i d lt =
    let inside : k < length ss = omega (arith, same_number, len, below) in
    let here : IsSpawnResultOf is_of e (n - k) s = subst (λ (l : ℕ). IsSpawnResultOf is_of e (l - k) s) same_number is in
    dite (ℕ_discrete i k)
    (λ same. subst (λ (j : ℕ). IsSpawnResultOf is_of e (n - j) (slice_index_or (slice_set ss k s) j d)) (sym same) (subst (IsSpawnResultOf is_of e (n - k)) (sym (get_or-set_same ss k s d inside)) here))
    (λ other. subst (IsSpawnResultOf is_of e (n - i)) (sym (get_or-set_other ss k i s d other)) (down i d (subst (λ (m : ℕ). i < m) (length-set ss k s) lt)))
