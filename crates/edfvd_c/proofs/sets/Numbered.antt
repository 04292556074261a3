-- The names of tasks in order.
use Rattle.std.proofs.Common.{◌≡◌, ℕ, suc, ◌+◌, [], ◌∷◌, ◌++◌, refl, subst, arith}
use Rattle.edfvd_c.specs.Sets.Named.{name_of, names_of}

-- no name
pub names_none : names_of 0 ≡ []
unfolding names_of
names_none = refl

-- one name more
pub names_more : (n : ℕ) → names_of (n + 1) ≡ names_of n ++ (name_of (n + 1) ∷ [])
unfolding names_of
names_more n =
    let next : suc n ≡ n + 1 = omega arith in
    subst (λ k. names_of k ≡ names_of n ++ (name_of k ∷ [])) next refl
