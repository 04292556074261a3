-- The words of a number: the successive outputs of PCG's 32-bit generator (O'Neill's XSH RR 64/32), made by
-- `new(NUMBER, 54)`.
use Rattle.std.specs.Prelude.{ℕ, zero, suc}
use Rattle.rand_pcg.specs.Lcg.{Lcg, started, increment_of}
use Rattle.rand_pcg.specs.Pcg.{multiplier_64, pcg32}

-- the words of a number, before any is taken
abbrev pub words_of : ℕ → Lcg
words_of number = started 64 multiplier_64 number (increment_of 64 54)

-- the first of the words that are left, a number below 2^32
unfoldable pub word : Lcg → ℕ
word words = (pcg32 words).0

-- the words that are left after the first is taken
unfoldable pub rest : Lcg → Lcg
rest words = (pcg32 words).1

-- the words that are left after n are taken
abbrev pub after : ℕ → Lcg → Lcg
after zero words = words
after (suc n) words = after n (rest words)
