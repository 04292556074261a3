-- Steps of reading a text, of which the first refusal ends all.
use Rattle.std.specs.Prelude.{Option, Some, None, Result, Ok, Err}

infixl 10 ◌>>=◌
-- the second step with the value of the first, or the refusal of the first
abbrev pub ◌>>=◌ : {A B E : Type 0} → Result A E → (A → Result B E) → Result B E
(Ok x) >>= f = f x
(Err e) >>= f = Err e

-- the value, or the refusal where there is none
abbrev pub or_refuse : {A E : Type 0} → E → Option A → Result A E
or_refuse e (Some x) = Ok x
or_refuse e None = Err e
