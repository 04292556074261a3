-- Which of two items wins a match.
use Rattle.std.proofs.Common.{◌≡◌, ℕ, Bool, true, false, ◌&&◌, ◌||◌, ◌==◌, ◌⊎◌, nat_lt, cond, Option, Some, None, option_map, refl, ap, inl, inr, arith}
use Rattle.std.proofs.lemmas.Bool.Decides.{nat_tests}
use Rattle.mc_task.specs.declared.task.TaskNo.{TaskNo}
use Rattle.ready_queue.specs.declared.item.Item.{Item}
use Rattle.ready_queue.specs.Items.{before}
use Rattle.ready_queue.specs.Tree.{winner}

-- whether one key and task number come before another
abbrev pub earlier : ℕ → ℕ → ℕ → ℕ → Bool
earlier a s b t = nat_lt a b || ((a == b) && nat_lt s t)

-- a key and number do not come before themselves
pub earlier-self : (a s : ℕ) → earlier a s a s ≡ false
earlier-self a s = grind (arith, nat_tests)

-- if one of two items comes before the other, the other does not come before it
pub earlier-back : (a s b t : ℕ) → earlier a s b t ≡ true → earlier b t a s ≡ false
earlier-back a s b t h = grind (arith, nat_tests)

-- an item that does not come before a later one does not come before an earlier one
pub earlier-trans : (a s b t c u : ℕ) → earlier b t a s ≡ false → earlier c u b t ≡ false → earlier c u a s ≡ false
earlier-trans a s b t c u h k = grind (arith, nat_tests)

-- if neither of two items comes before the other, they have the same task number
earlier-tie : (a s b t : ℕ) → earlier a s b t ≡ false → earlier b t a s ≡ false → s ≡ t
earlier-tie a s b t h k = grind (arith, nat_tests)

-- whether a would win a match with b in which a tie goes to b
abbrev pub beats : Option Item → Option Item → Bool
beats None b = false
beats (Some i) None = true
beats (Some i) (Some j) = before i j

pub beats-self : (a : Option Item) → beats a a ≡ false
beats-self None = refl
beats-self (Some i) = earlier-self i.key i.task.0

-- the first of two items does not beat the winner
pub winner_left : (a b : Option Item) → beats a (winner a b) ≡ false
winner_left None b = refl
winner_left (Some i) None = earlier-self i.key i.task.0
winner_left (Some i) (Some j) = go (before j i) refl
  where
    go : (x : Bool) → before j i ≡ x → before i (cond x j i) ≡ false
    go true m = earlier-back j.key j.task.0 i.key i.task.0 m
    go false m = earlier-self i.key i.task.0

-- the second of two items does not beat the winner
pub winner_right : (a b : Option Item) → beats b (winner a b) ≡ false
winner_right None b = beats-self b
winner_right (Some i) None = refl
winner_right (Some i) (Some j) = go (before j i) refl
  where
    go : (x : Bool) → before j i ≡ x → before j (cond x j i) ≡ false
    go true m = earlier-self j.key j.task.0
    go false m = m

-- the winner is one of the two items
pub winner_is : (a b : Option Item) → (winner a b ≡ a) ⊎ (winner a b ≡ b)
winner_is None b = inr refl
winner_is (Some i) None = inl refl
winner_is (Some i) (Some j) = go (before j i)
  where
    go : (x : Bool) → (Some (cond x j i) ≡ Some i) ⊎ (Some (cond x j i) ≡ Some j)
    go true = inr refl
    go false = inl refl

-- if b does not beat a, and c does not beat b, then c does not beat a
pub beats-trans : (a b c : Option Item) → beats b a ≡ false → beats c b ≡ false → beats c a ≡ false
beats-trans a b None h k = refl
beats-trans a None (Some n) h k = cc
beats-trans None (Some j) (Some n) h k = cc
beats-trans (Some i) (Some j) (Some n) h k = earlier-trans i.key i.task.0 j.key j.task.0 n.key n.task.0 h k

-- if neither of two items beats the other, they are of the same task
pub beats-tie : (a b : Option Item) → beats a b ≡ false → beats b a ≡ false → option_map (λ (i : Item). i.task) a ≡ option_map (λ (i : Item). i.task) b
beats-tie None None h k = refl
beats-tie None (Some j) h k = cc
beats-tie (Some i) None h k = cc
beats-tie (Some i) (Some j) h k =
    let task : ℕ → Option TaskNo = λ n. Some (record { 0 = n }) in
    ap task (earlier-tie i.key i.task.0 j.key j.task.0 h k)
