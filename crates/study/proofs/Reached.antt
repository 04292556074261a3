-- The percentages that a generated set reaches.
use Rattle.std.proofs.Common.{◌≡◌, ℕ, ◌+◌, ◌*◌, ◌<◌, ◌≤◌, inl, inr, refl, sym, ◌∙◌, arith, false, nat_le, le-leb, List, Option, Some, None}
use Rattle.std.proofs.lemmas.Bool.{lt-leb, lt-ltb, le-ltb}
use Rattle.std.proofs.lemmas.Bool.Decides.{leb_tells}
use Rattle.mc_task.specs.declared.task.Task.{Task}
use Rattle.mc_task.specs.TaskSet.{AreTasks}
use Rattle.mc_model.specs.Loads.{load, low_low, high_low}
use Rattle.mc_model.specs.Sums.{total}
use Rattle.set_gen.specs.Words.{words_of}
use Rattle.set_gen.specs.GeneratedSet.{generated_set}
use Rattle.set_gen.proofs.GeneratedTasks.{generated_set-divides, generated_set-AreTasks}
use Rattle.study.specs.Stretch.{is_admitted_at, stretch, IsStretch}
use Rattle.study.specs.Loads.{budget_at, AdmitsUpTo}
use Rattle.study.specs.Acceptance.{reaches, generated_stretch}
use Rattle.study.specs.Levels.{IsReached, AreSumsOf, IsUpTo, asks_at}
use Rattle.study.specs.declared.levels.Sums.{Sums}
use Rattle.study.proofs.Percentages.{stretch-greatest, less-admitted}
use Rattle.study.proofs.Over.{over-none, over-some}

-- a percentage is admitted exactly if the stretch reaches it
pub reaches-admitted : (set : List Task) (s : ℕ) → AreTasks set → s ≤ 1000 → reaches s (stretch set) ≡ is_admitted_at set s
reaches-admitted set s is most = go (stretch set) (stretch-greatest set)
  where
    go : (o : Option ℕ) → IsStretch set o → reaches s o ≡ is_admitted_at set s
    go None h = sym (h s most)
    go (Some m) h =
        elim (leb_tells s m) [
          | inl t ↦ t.0 ∙ sym (less-admitted set s m is t.1 h.1)
          | inr t ↦ t.0 ∙ sym (h.2 s (omega (arith, t.1)) most)
        ]

-- a percentage above one that is not reached is not reached
reaches-less : (o : Option ℕ) (r s : ℕ) → r ≤ s → reaches r o ≡ false → reaches s o ≡ false
reaches-less None r s le h = refl
reaches-less (Some m) r s le h =
    elim (leb_tells r m) [
      | inl t ↦ absurd (cc (t.0, h))
      | inr t ↦ lt-leb _ _ (omega (arith, t.1, le))
    ]

pub reached-none : (number n : ℕ) (sums : Sums) → 2 ≤ n → n ≤ 32 → AreSumsOf (generated_set (words_of number) n) sums → AdmitsUpTo 20000 sums.low_low sums.high_low None
    → IsReached (generated_stretch number n) 0
unfolding generated_stretch
reached-none number n sums some few are none = λ i lt.
    let set : List Task = generated_set (words_of number) n in
    let is : AreTasks set = generated_set-AreTasks (words_of number) n some few in
    let admits : AdmitsUpTo 20000 (load low_low 20000 set) (load high_low 20000 set) None = rw (← are.low_low, ← are.high_low) none in
    reaches-admitted set (100 + 10 * i) is (omega arith) ∙ over-none 20000 (100 + 10 * i) set (omega arith) is (generated_set-divides (words_of number) n) admits ∙ sym (le-ltb _ _ (omega arith))

pub reached-some : (number n most k : ℕ) (sums : Sums) → 2 ≤ n → n ≤ 32 → AreSumsOf (generated_set (words_of number) n) sums → AdmitsUpTo 20000 sums.low_low sums.high_low (Some most)
    → IsUpTo sums.highs.items most k → IsReached (generated_stretch number n) k
unfolding generated_stretch
reached-some number n most k sums some few are admits upto = λ i lt.
    elim (leb_tells k i) [
      | inl t ↦ reaches-less (stretch set) (100 + 10 * k) (100 + 10 * i) (omega (arith, t.1)) (at_k (omega (arith, t.1, lt))) ∙ sym (le-ltb _ _ (t.1))
      | inr t ↦ at i lt ∙ le-leb _ _ (omega (arith, asks i lt, upto.within i (omega (arith, t.1)))) ∙ sym (lt-ltb _ _ (omega (arith, t.1)))
    ]
  where
    set : List Task
    set = generated_set (words_of number) n

    is : AreTasks set
    is = generated_set-AreTasks (words_of number) n some few

    over : AdmitsUpTo 20000 (load low_low 20000 set) (load high_low 20000 set) (Some most)
    over = rw (← are.low_low, ← are.high_low) admits

    at : (i : ℕ) → i < 11 → reaches (100 + 10 * i) (stretch set) ≡ nat_le (load (budget_at (100 + 10 * i)) 20000 set) most
    at i lt = reaches-admitted set (100 + 10 * i) is (omega arith) ∙ over-some 20000 (100 + 10 * i) most set (omega arith) is (generated_set-divides (words_of number) n) over

    asks : (i : ℕ) → i < 11 → total (asks_at (100 + 10 * i)) sums.highs.items ≡ load (budget_at (100 + 10 * i)) 20000 set
    asks i lt = are.highs (100 + 10 * i) (omega arith) (omega arith)

    at_k : k < 11 → reaches (100 + 10 * k) (stretch set) ≡ false
    at_k lt = at k lt ∙ lt-leb _ _ (omega (arith, asks k lt, upto.past lt))
