-- What a map of an option says of it, what a choice between options is, and what no refusal says.
use Rattle.std.proofs.Common.{◌≡◌, Bool, true, false, Option, Some, None, option_map, cond, refl}
use Rattle.std.proofs.lemmas.Option.{same_Some}
use Rattle.std.specs.Option.{option_or}
use Rattle.mode_core.specs.Events.{refused_if}

-- if the mapped option has a value, so has the option
pub mapped : {D E : Type 0} → (f : D → E) (o : Option D) (y : E) → option_map f o ≡ Some y → (x : D) × (o ≡ Some x) × (f x ≡ y)
mapped f None y e = cc
mapped f (Some x) y e = (x, refl, same_Some (f x) y e)

-- if the mapped option has no value, neither has the option
pub no_map : {D E : Type 0} → (f : D → E) (o : Option D) → option_map f o ≡ None → o ≡ None
no_map f None h = refl
no_map f (Some x) h = cc

-- a map of a choice between an option and none is the choice between the mapped option and none
pub map-cond : {D E : Type 0} → (f : D → E) (b : Bool) (o : Option D) → option_map f (cond b o None) ≡ cond b (option_map f o) None
map-cond f true o = refl
map-cond f false o = refl

-- a choice between two equal values is that value
pub same-cond : {D : Type 0} → (b : Bool) (d : D) → cond b d d ≡ d
same-cond true d = refl
same-cond false d = refl

-- if one refusal or else another gives none, neither refusal applies
pub neither : {E : Type 0} → (a b : Option E) → option_or a b ≡ None → (a ≡ None) × (b ≡ None)
neither None None h = (refl, refl)
neither a b h = cc

-- if a refusal does not apply, its test is false
pub not_if : {E : Type 0} → (b : Bool) (e : E) → refused_if b e ≡ None → b ≡ false
not_if true e h = cc
not_if false e h = refl
