-- The first key of a table that a test refuses.
use Rattle.std.proofs.Common.{◌≡◌, ℕ, List, [], ◌∷◌, Bool, true, false, not, cond, Option, Some, None, option_map, option_copied, String, Global, string_bytes, refl, Bor}
use Rattle.std.specs.Prelude.{find}
use Rattle.std.specs.Map.{keys_of}
use Rattle.toml.specs.View.{members_view}
use Rattle.toml.specs.declared.value.Value.{Value}
use Rattle.task_file.specs.TaskTable.{first_other}

step : (b : Bool) (k : String Global) (rest : Option (String Global)) (other : Option (List ℕ)) → other ≡ option_map string_bytes rest
    → cond b other (Some (string_bytes k)) ≡ option_map string_bytes (cond (not b) (Some k) rest)
step true k rest other same = same
step false k rest other same = refl

pub first_other-found : (known : List ℕ → Bool) (es : List (String Global × Value))
    → first_other known (members_view es) ≡ option_map string_bytes (find (λ k. not (known (string_bytes k))) (keys_of es))
unfolding first_other
first_other-found known [] = refl
first_other-found known (e ∷ es) = step (known (string_bytes e.0)) e.0 _ _ (first_other-found known es)

pub bytes_of_ref : (r : Option (Bor (String Global))) → option_map (λ k. string_bytes k.now) r ≡ option_map string_bytes (option_copied r)
bytes_of_ref None = refl
bytes_of_ref (Some k) = refl
