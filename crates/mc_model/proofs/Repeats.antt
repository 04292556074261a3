-- Equal rows after a trace: more ticks of a job that goes on, and idle ticks. The newest row stands first.
use Rattle.std.proofs.Common.{◌≡◌, ℕ, zero, suc, ◌+◌, ◌≤◌, Bool, true, false, ◌&&◌, ◌||◌, List, ◌++◌, cond, length, replicate, refl, ◌∙◌, arith}
use Rattle.std.proofs.lemmas.List.{length-append, length-replicate}
use Rattle.mc_task.specs.declared.task.Rule.{Rule}
use Rattle.mc_task.specs.declared.task.Task.{Task}
use Rattle.mc_task.specs.declared.task.JobId.{JobId}
use Rattle.mc_model.specs.declared.row.How.TheVariants.{More}
use Rattle.mc_model.specs.declared.row.Row.{Row}
use Rattle.mc_model.specs.declared.row.Row.TheVariants.{Tick, Idle}
use Rattle.mc_model.specs.Rows.{same_job, ticks, used, releases, next_release}
use Rattle.mc_task.specs.Kinds.{is_virtual}
use Rattle.mc_model.specs.Mode.{high_mode}
use Rattle.mc_model.specs.Pending.{pending}
use Rattle.mc_model.specs.Legal.{Legal, is_empty}

-- n more ticks of a job that goes on add n to the ticks, and change nothing else

pub ticks_more : (j : JobId) (n : ℕ) (g : List Row) → ticks (replicate n (Tick j More) ++ g) ≡ ticks g + n
ticks_more j zero g = omega arith
ticks_more j (suc n) g = let more : ticks (replicate n (Tick j More) ++ g) ≡ ticks g + n = ticks_more j n g in omega arith

pub releases_more : (j : JobId) (n : ℕ) (g : List Row) (k : ℕ) → releases (replicate n (Tick j More) ++ g) k ≡ releases g k
releases_more j zero g k = refl
releases_more j (suc n) g k = releases_more j n g k

pub next_more : (set : List Task) (j : JobId) (n : ℕ) (g : List Row) (k : ℕ) → next_release set (replicate n (Tick j More) ++ g) k ≡ next_release set g k
next_more set j zero g k = refl
next_more set j (suc n) g k = next_more set j n g k

pub mode_more : (rule : Rule) (j : JobId) (n : ℕ) (g : List Row) → high_mode rule (replicate n (Tick j More) ++ g) ≡ high_mode rule g
mode_more rule j zero g = refl
mode_more rule j (suc n) g = none (is_virtual rule) (high_mode rule (replicate n (Tick j More) ++ g)) ∙ mode_more rule j n g
  where
    none : (v h : Bool) → ((v && false) || h) ≡ h
    none true h = refl
    none false h = refl

pub pending_more : (set : List Task) (j : JobId) (n : ℕ) (g : List Row) → pending set (replicate n (Tick j More) ++ g) ≡ pending set g
pending_more set j zero g = refl
pending_more set j (suc n) g = pending_more set j n g

pub used_more : (j : JobId) (n : ℕ) (g : List Row) (i : JobId) → used (replicate n (Tick j More) ++ g) i ≡ cond (same_job j i) n 0 + used g i
used_more j zero g i = elim (same_job j i) as (λ b. used g i ≡ cond b 0 0 + used g i) [ true ↦ omega arith | false ↦ omega arith ]
used_more j (suc n) g i = let more : used (replicate n (Tick j More) ++ g) i ≡ cond (same_job j i) n 0 + used g i = used_more j n g i in go (same_job j i) more
  where
    go : (b : Bool) → used (replicate n (Tick j More) ++ g) i ≡ cond b n 0 + used g i → cond b 1 0 + used (replicate n (Tick j More) ++ g) i ≡ cond b (suc n) 0 + used g i
    go true more = omega (arith, more)
    go false more = omega (arith, more)

-- n idle ticks add n to the ticks

pub ticks_idle : (n : ℕ) (g : List Row) → ticks (replicate n Idle ++ g) ≡ ticks g + n
ticks_idle zero g = omega arith
ticks_idle (suc n) g = let more : ticks (replicate n Idle ++ g) ≡ ticks g + n = ticks_idle n g in omega arith

pub releases_idle : (n : ℕ) (g : List Row) (k : ℕ) → releases (replicate n Idle ++ g) k ≡ releases g k
releases_idle zero g k = refl
releases_idle (suc n) g k = releases_idle n g k

pub next_idle : (set : List Task) (n : ℕ) (g : List Row) (k : ℕ) → next_release set (replicate n Idle ++ g) k ≡ next_release set g k
next_idle set zero g k = refl
next_idle set (suc n) g k = next_idle set n g k

-- the mode is low from the first idle tick on
pub mode_idle : (rule : Rule) (n : ℕ) (g : List Row) → 1 ≤ n → high_mode rule (replicate n Idle ++ g) ≡ false
mode_idle rule zero g h = absurd (omega (arith, h))
mode_idle rule (suc n) g h = refl

pub pending_idle : (set : List Task) (n : ℕ) (g : List Row) → pending set (replicate n Idle ++ g) ≡ pending set g
pending_idle set zero g = refl
pending_idle set (suc n) g = pending_idle set n g

-- idle ticks all fit if nothing is pending
pub idle_legal : (set : List Task) (rule : Rule) (n : ℕ) (g : List Row) → Legal set rule g → is_empty (pending set g) ≡ true → Legal set rule (replicate n Idle ++ g)
idle_legal set rule zero g v e = v
idle_legal set rule (suc n) g v e = (tt, rw (pending_idle set n g, e) refl, idle_legal set rule n g v e)

-- n copies of a row are n rows more
pub length_copies : (row : Row) (n : ℕ) (g : List Row) → length (replicate n row ++ g) ≡ length g + n
length_copies row n g = omega (arith, length-append (replicate n row) g, length-replicate n row)
