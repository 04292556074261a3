-- The words of a call, as texts.
use Rattle.std.specs.Prelude.{ℕ, List, [], slice_get, String, string_bytes}
use Rattle.std.specs.Option.{option_map_or}
use Rattle.std.specs.declared.alloc.Global.{Global}

-- the text at this place, counted from 0; empty where there is none
abbrev pub text_at : List (String Global) → ℕ → List ℕ
text_at texts place = option_map_or string_bytes (slice_get texts place) []
