-- The state of the tests: a counter for each seat. An entry has the number of a seat, and a turn adds one to
-- that seat's counter.
use Rattle.std.specs.Prelude.{◌≡◌, ℕ, ◌%◌, ◌^◌, ◌<◌, List, length, slice_index}
use Rattle.turnstile.specs.History.{made_by}

-- how many entries of the history are the seat's
abbrev pub turns_of : {E : Type 0} → (E → ℕ) → ℕ → List E → ℕ
turns_of number k history = length (made_by number k history)

-- each counter is the number of its seat's turns, modulo 2 ^ 64
abbrev pub CountsTurns : {E : Type 0} → (E → ℕ) → List E → List ℕ → Type 0
CountsTurns number history counters =
    (k : ℕ) → k < length counters → slice_index counters k ≡ turns_of number k history % 2 ^ 64
