use Rattle.std.proofs.Common.{ℕ, ◌+◌, ◌*◌, ◌^◌, ◌<◌, ◌≤◌, Bool, true, false, cond, Some, sym, subst, rules, arith}
use Rattle.std.proofs.lemmas.Nat.{mul-le}
use Rattle.mc_task.specs.declared.task.Rule.{Rule}
use Rattle.mc_task.specs.declared.task.Rule.TheVariants.{Plain, Virtual}
use Rattle.mc_task.specs.declared.task.Task.{Task}
use Rattle.mc_model.specs.TaskNumbers.{is_high_in}
use Rattle.mc_model.specs.Holds.{Fits}
use Rattle.mc_model.specs.Key.{key_of}
use Rattle.trace_judge.specs.Heads.{no_key}
use Rattle.trace_judge.proofs.rules.key_at.Goals as goal

-- the sum of a scaled release and a scaled period is less than the key of an empty queue
scaled : (q r s t : ℕ) → q ≤ 2 ^ 60 → r < 2 ^ 64 → s ≤ 2 ^ 60 → t < 2 ^ 32 → q * r + s * t < no_key
scaled q r s t a b c d =
    omega (arith, mul-le q r (2 ^ 60) (2 ^ 64) a (omega (arith, b)), mul-le s t (2 ^ 60) (2 ^ 32) c (omega (arith, d)))

-- every key is less than what stands for an empty queue
key_below : (rule : Rule) (high : Bool) (t : Task) (r : ℕ) → Fits rule → t.period < 2 ^ 32 → r < 2 ^ 64 → key_of rule high (Some t) r < no_key
key_below Plain true t r f p h = scaled 1 r 1 t.period (omega arith) h (omega arith) p
key_below Plain false t r f p h = omega (arith, scaled 1 r 1 t.period (omega arith) h (omega arith) p)
key_below (Virtual p q) true t r f period h = scaled q r q t.period f.2 h f.2 period
key_below (Virtual p q) false t r f period h =
    elim (is_high_in (Some t)) as (λ b. q * r + cond b (p * t.period) (q * t.period) < no_key)
    [ true ↦ scaled q r p t.period f.2 h (omega (arith, f.1, f.2)) period | false ↦ scaled q r q t.period f.2 h f.2 period ]

pub returns-clause-below : goal.returns-clause-below
returns-clause-below c =
    let period : c.args.task.now.period < 2 ^ 32 = search rules in
    let release : c.args.release < 2 ^ 64 = search rules in
    subst (λ (k : ℕ). k < no_key) (sym c.key.ensures) (key_below c.args.rule c.args.high_mode c.args.task.now c.args.release c.requires period release)
