-- Lists with an element for each task number from k on.
use Rattle.std.proofs.Common.{◌≡◌, ℕ, zero, suc, ◌+◌, ◌<◌, ◌≤◌, ◌≢◌, List, [], ◌∷◌, ◌++◌, Some, length, drop, map, set, slice_get, refl, sym, ap, ap₂, ◌∙◌, arith, append_assoc}
use Rattle.mc_task.specs.declared.task.Task.{Task}
use Rattle.mc_task.specs.declared.task.Level.{Level}
use Rattle.mc_task.specs.TaskSet.{task_at}
use Rattle.mc_model.proofs.Tasks.{task_at-next}
use Rattle.mc_model.proofs.Walk.{drop_at}
use Rattle.sched_report.specs.declared.task_tally.TaskTally.{TaskTally}
use Rattle.sched_report.specs.TaskTally.{tally_of}
use Rattle.sched_report.specs.Tally.{numbered}

pub length-numbered : {X : Type 0} (f : ℕ → X) → (k : ℕ) (ts : List Task) → length (numbered f k ts) ≡ length ts
length-numbered f k [] = refl
length-numbered f k (t ∷ ts) = ap suc (length-numbered f (k + 1) ts)

pub numbered_same : {X : Type 0} (f g : ℕ → X) → (k : ℕ) (ts : List Task) → ((m : ℕ) → k ≤ m → f m ≡ g m) → numbered f k ts ≡ numbered g k ts
numbered_same f g k [] h = refl
numbered_same f g k (t ∷ ts) h = ap₂ (λ x xs. x ∷ xs) (h k (omega arith)) (numbered_same f g (k + 1) ts (λ m a. h m (omega (arith, a))))

pub get-numbered : {X : Type 0} (f : ℕ → X) → (k i n : ℕ) (ts : List Task) → i < length ts → k + i ≡ n → slice_get (numbered f k ts) i ≡ Some (f n)
get-numbered f k i n [] h e = absurd (omega (arith, h))
get-numbered f k zero n (t ∷ ts) h e = let same : k ≡ n = omega (arith, e) in ap (λ m. Some (f m)) same
get-numbered f k (suc i) n (t ∷ ts) h e = get-numbered f (k + 1) i n ts (omega (arith, h)) (omega (arith, e))

-- a numbered list with one element changed
pub set-numbered : {X : Type 0} (f g : ℕ → X) → (k i n : ℕ) (x : X) (ts : List Task) → i < length ts → k + i ≡ n → g n ≡ x → ((m : ℕ) → m ≢ n → g m ≡ f m)
    → set (numbered f k ts) i x ≡ numbered g k ts
set-numbered f g k i n x [] h e here others = absurd (omega (arith, h))
set-numbered f g k zero n x (t ∷ ts) h e here others =
    let same : n ≡ k = omega (arith, e) in
    ap₂ (λ y ys. y ∷ ys) (sym here ∙ ap g same) (numbered_same f g (k + 1) ts (λ m a. sym (others m (λ s. omega (arith, a, s, e)))))
set-numbered f g k (suc i) n x (t ∷ ts) h e here others =
    ap₂ (λ y ys. y ∷ ys) (sym (others k (λ s. omega (arith, s, e)))) (set-numbered f g (k + 1) i n x ts (omega (arith, h)) (omega (arith, e)) here others)

pub map-numbered : {X Y : Type 0} (f : ℕ → X) (g : X → Y) → (k : ℕ) (ts : List Task) → map g (numbered f k ts) ≡ numbered (λ m. g (f m)) k ts
map-numbered f g k [] = refl
map-numbered f g k (t ∷ ts) = ap (λ ys. g (f k) ∷ ys) (map-numbered f g (k + 1) ts)

-- the tally of no rows
abbrev no_rows : Level → TaskTally
no_rows level = record { level = level; released = 0; kept = 0; dropped = 0; discarded = 0; done = 0; stopped = 0; ticks = 0; response = 0 }

-- the tallies of no rows, with one more task
pub numbered_next : (tasks : List Task) (i : ℕ) (t : Task) (some more whole : List TaskTally) → slice_get tasks i ≡ Some t → more ≡ some ++ no_rows t.level ∷ []
    → some ++ numbered (tally_of tasks []) (i + 1) (drop i tasks) ≡ whole
    → more ++ numbered (tally_of tasks []) (i + 1 + 1) (drop (i + 1) tasks) ≡ whole
numbered_next tasks i t some more whole found is h =
    let next : i + 1 ≡ 1 + i = omega arith in
    let number : task_at tasks (i + 1) ≡ Some t = ap (task_at tasks) next ∙ (task_at-next tasks i ∙ found) in
    rw (is, append_assoc) (rw (drop_at tasks i t found, number) at h)
