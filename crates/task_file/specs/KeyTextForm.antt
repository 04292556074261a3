-- The array that stores a shown key.
use Rattle.std.specs.Prelude.{◌≤◌, take, IsTrue}
use Rattle.std.specs.List.{list_all}
use Rattle.task_file.specs.KeyText.{is_visible}
use Rattle.task_file.specs.declared.key.KeyText.TheInside.{Inside}

-- a shown key: at most 32 bytes, each a visible ASCII character
pub record IsKeyText (a : Inside) : Type 0 where
  pub len : a.len ≤ 32
  pub visible : IsTrue (list_all is_visible (take a.len a.array))
