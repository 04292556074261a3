-- The boundaries from which the tasks' first releases are allowed after a restart, noted one by one.
use Rattle.std.proofs.Common.{◌≡◌, ℕ, ◌+◌, ◌-◌, ◌≤◌, false, nat_lt, cond, List, length, get_or, refl, ap, subst, ◌∙◌, arith, lt-ltb}
use Rattle.std.specs.Prelude.{slice_index_or, max}
use Rattle.std.proofs.lemmas.Bool.Decides.{nat_tests}
use Rattle.mc_task.specs.TaskSet.{IsIn}
use Rattle.mc_model.specs.Core.{State, next}
use Rattle.mode_core.specs.Events.{empty_state}
use Rattle.restart.specs.Restarted.{first_allowed_from_now, IsRestarted}

-- the boundary in place i once those before place n are noted
abbrev pub noted : State → List ℕ → ℕ → ℕ → ℕ
noted s old n i = cond (nat_lt i n) (first_allowed_from_now s (get_or old i 0) (i + 1)) (get_or old i 0)

-- before the first step nothing is noted
pub noted_start : (s : State) (old : List ℕ) (i : ℕ) → get_or old i 0 ≡ noted s old 0 i
noted_start s old i = let none : nat_lt i 0 ≡ false = grind (arith, nat_tests) in rw none refl

-- after the last step each place is noted
pub noted_all : (s : State) (old now : List ℕ) → ((i : ℕ) → get_or now i 0 ≡ noted s old (length s.set) i)
    → (k : ℕ) → 1 ≤ k → k ≤ length s.set → slice_index_or now (k - 1) 0 ≡ first_allowed_from_now s (slice_index_or old (k - 1) 0) k
noted_all s old now at k first last =
    let number : (k - 1) + 1 ≡ k = omega (arith, first) in
    subst (λ (n : ℕ). slice_index_or now (k - 1) 0 ≡ first_allowed_from_now s (slice_index_or old (k - 1) 0) n) number (rw (lt-ltb (k - 1) (length s.set) (omega (arith, first, last))) at (at (k - 1)))

-- of 0 and a number the number is the greater
max_zero : (n : ℕ) → max 0 n ≡ n
max_zero n = grind arith

-- a core that is opened again, with the boundaries that are noted of all tasks
pub opened_again : (s core : State) (old now : List ℕ) → core ≡ empty_state s.set s.rule s.places
    → ((k : ℕ) → IsIn s.set k → slice_index_or now (k - 1) 0 ≡ first_allowed_from_now s (slice_index_or old (k - 1) 0) k)
    → IsRestarted (record { core = s; first_allowed = old }) (record { core = core; first_allowed = now })
opened_again s core old now e noted = record {
  core = e;
  earliest_is = λ k i. ap (λ (x : State). max (next x k) (slice_index_or now (k - 1) 0)) e ∙ (max_zero (slice_index_or now (k - 1) 0) ∙ noted k i);
}
