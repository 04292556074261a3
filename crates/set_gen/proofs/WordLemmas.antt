-- The words that are left.
use Rattle.std.proofs.Common.{◌≡◌, ℕ, zero, suc, ◌+◌, ap, ◌∙◌, arith}
use Rattle.rand_pcg.specs.Lcg.{Lcg}
use Rattle.set_gen.specs.Words.{rest, after}

-- taking m + n words is taking m words and then n
pub after-add : (m n : ℕ) (words : Lcg) → after (m + n) words ≡ after n (after m words)
after-add zero n words = let e : zero + n ≡ n = omega arith in ap (λ k. after k words) e
after-add (suc m) n words = let e : suc m + n ≡ suc (m + n) = omega arith in ap (λ k. after k words) e ∙ after-add m n (rest words)
