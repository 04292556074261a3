-- The array that stores a name.
use Rattle.std.specs.Prelude.{◌≡◌, ℕ, ◌-◌, List, ◌++◌, length, take, replicate, IsTrue}
use Rattle.mc_task.specs.NameForm.{is_name}
use Rattle.mc_task.specs.declared.name.Name.TheInside.{Inside}

-- the bytes of a name in an array of 32 bytes, filled up with 0
unfoldable pub padded : List ℕ → List ℕ
padded bytes = bytes ++ replicate (32 - length bytes) 0

-- the bytes of a name that is stored in an array
abbrev pub name_view : Inside → List ℕ
name_view a = take a.len a.array

-- the array stores a name, filled up with 0
pub record IsName (a : Inside) : Type 0 where
  pub len : a.len ≡ length (take a.len a.array)
  pub array : a.array ≡ padded (take a.len a.array)
  pub name : IsTrue (is_name (take a.len a.array))

-- the array and length that store these bytes
abbrev pub from_bytes : List ℕ → Inside
from_bytes bytes = record { array = padded bytes; len = length bytes }
