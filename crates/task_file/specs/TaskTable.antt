-- One task of a task file: what its table says, or the first refusal. n is the task's number, from 1.
use Rattle.std.specs.Prelude.{ℕ, ℤ, ◌^◌, pos, Bool, ◌&&◌, nat_le, nat_lt, if◌then◌else◌, List, [], ◌∷◌, codes, find, Option, Some, None, Result, Ok, Err}
use Rattle.std.specs.Str.{bytes_eq}
use Rattle.toml.specs.Data.{Data, Members, no_members, member, get_member, as_str, as_integer, as_table}
use Rattle.mc_task.specs.declared.task.Task.{Task}
use Rattle.mc_task.specs.declared.task.Level.{Level}
use Rattle.mc_task.specs.declared.task.Level.TheVariants.{Low, High}
use Rattle.mc_task.specs.NameForm.{is_name}
use Rattle.task_file.specs.Keys.{key_bytes, is_task_key}
use Rattle.task_file.specs.Refusals.{◌>>=◌, or_refuse, refuse_key}
use Rattle.task_file.specs.declared.key.KeyName.{KeyName}
use Rattle.task_file.specs.declared.key.KeyName.TheVariants as key
use Rattle.task_file.specs.declared.fault.TaskFault.{TaskFault}
use Rattle.task_file.specs.declared.fault.TaskFault.TheVariants.{KeyMissing, KeyUnknown, WrongKind, OutOfRange, BadName, HighOnLow}

-- the first key, in byte order, that the test refuses
unfoldable pub first_other : (List ℕ → Bool) → Members → Option (List ℕ)
first_other known no_members = None
first_other known (member k d ms) = if known k then first_other known ms else Some k

-- the value of a table at a key, if any
abbrev pub at_key : KeyName → Members → Option Data
at_key k ms = get_member (key_bytes k) ms

-- the value at a key, which each task must have
abbrev pub need : ℕ → KeyName → Members → Result Data TaskFault
need n k ms = or_refuse (KeyMissing n k) (at_key k ms)

-- a level as it stands in a file
abbrev pub level_bytes : Level → List ℕ
level_bytes Low = codes "low"
level_bytes High = codes "high"

-- the text, if it is a name; otherwise the refusal
abbrev pub name_of : ℕ → List ℕ → Result (List ℕ) TaskFault
name_of n text = if is_name text then Ok text else Err (BadName n)

-- the level that the text t names, or the refusal
abbrev pub level_of : ℕ → List ℕ → Result Level TaskFault
level_of n t = or_refuse (OutOfRange n key.Level) (find (λ l. bytes_eq t (level_bytes l)) (Low ∷ High ∷ []))

-- the whole number, if it may be a period or a budget, 1 to 4,294,967,295 ticks; otherwise the refusal
abbrev pub number_of : ℕ → KeyName → ℤ → Result ℕ TaskFault
number_of n k (pos m) = if nat_le 1 m && nat_lt m (2 ^ 32) then Ok m else Err (OutOfRange n k)
number_of n k _ = Err (OutOfRange n k)

-- nothing if the value is absent, otherwise what is read of it, or the refusal
abbrev pub if_some : {A B : Type 0} → (A → Result B TaskFault) → Option A → Result (Option B) TaskFault
if_some read None = Ok None
if_some read (Some x) = read x >>= λ y. Ok (Some y)

-- the high budget: a high task must give its high budget; a low task must not, and its high budget is its low
-- one
abbrev pub high_of : ℕ → Level → ℕ → Option ℕ → Result ℕ TaskFault
high_of n High low (Some high) = Ok high
high_of n High low None = Err (KeyMissing n key.High)
high_of n Low low None = Ok low
high_of n Low low (Some high) = Err (HighOnLow n)

-- the task that a value says
unfoldable pub task_of : ℕ → Data → Result Task TaskFault
task_of n d = do
  ms ← or_refuse (WrongKind n key.Task) (as_table d)
  _ ← refuse_key (KeyUnknown n) (first_other is_task_key ms)
  name ← need n key.Name ms
  level ← need n key.Level ms
  period ← need n key.Period ms
  low ← need n key.Low ms
  name ← or_refuse (WrongKind n key.Name) (as_str name)
  level ← or_refuse (WrongKind n key.Level) (as_str level)
  period ← or_refuse (WrongKind n key.Period) (as_integer period)
  low ← or_refuse (WrongKind n key.Low) (as_integer low)
  given ← if_some (λ d. or_refuse (WrongKind n key.High) (as_integer d)) (at_key key.High ms)
  name ← name_of n name
  level ← level_of n level
  period ← number_of n key.Period period
  low ← number_of n key.Low low
  given ← if_some (number_of n key.High) given
  high ← high_of n level low given
  Ok (record { name = name; level = level; period = period; low = low; high = high })
