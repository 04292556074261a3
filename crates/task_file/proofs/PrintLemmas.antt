-- The tree of a printed task file, value by value.
use Rattle.std.proofs.Common.{◌≡◌, ℕ, zero, suc, ◌<◌, true, Ordering, Less, Equal, Greater, List, [], ◌∷◌, get_or, IsTrue, String, Global, string_bytes, refl, ◌∙◌, arith}
use Rattle.std.specs.List.{list_all}
use Rattle.std.specs.Ordering.{match_ordering}
use Rattle.std.specs.BTreeMap.{insert_entry}
use Rattle.std.specs.Str.{IsUtf8}
use Rattle.std.specs.String.{string_cmp}
use Rattle.std.proofs.lemmas.Bool.{and_parts}
use Rattle.std.proofs.lemmas.Bool.Decides.{nat_tests}
use Rattle.std.proofs.lemmas.Str.{IsUtf8-from_ascii}
use Rattle.toml.specs.Data.{Data, Members, no_members, member}
use Rattle.toml.specs.View.{view, members_view}
use Rattle.toml.specs.declared.value.Value.{Value}
use Rattle.toml.proofs.Views.{Entry}
use Rattle.mc_task.specs.NameForm.{is_name, is_name_byte}
use Rattle.task_file.specs.Keys.{key_bytes}
use Rattle.task_file.specs.Printed.{put_member}
use Rattle.task_file.specs.declared.key.KeyName.TheVariants as key

match_members : (o : Ordering) (a b c : List Entry) → members_view (match_ordering o a b c) ≡ match_ordering o (members_view a) (members_view b) (members_view c)
match_members Less a b c = refl
match_members Equal a b c = refl
match_members Greater a b c = refl

-- inserting an entry into a table's map puts the member into the tree
pub members_view-insert : (k : String Global) (v : Value) (es : List Entry) → members_view (insert_entry string_cmp es k v) ≡ put_member (string_bytes k) (view v) (members_view es)
unfolding put_member
members_view-insert k v [] = refl
members_view-insert k v (e ∷ es) = match_members (string_cmp k e.0) _ _ _ ∙ rw (members_view-insert k v es)

-- the tasks go before the version, and the scale before both
pub put_tasks : (tasks version : Data) → put_member (key_bytes key.Task) tasks (put_member (key_bytes key.Version) version no_members)
    ≡ member (key_bytes key.Task) tasks (member (key_bytes key.Version) version no_members)
unfolding put_member
put_tasks tasks version = refl

pub put_scale : (scale tasks : Data) (ms : Members) → put_member (key_bytes key.Scale) scale (member (key_bytes key.Task) tasks ms) ≡ member (key_bytes key.Scale) scale (member (key_bytes key.Task) tasks ms)
unfolding put_member
put_scale scale tasks ms = refl

-- putting the four common members one by one gives them in order
pub put_common : (name level period low : Data)
    → put_member (key_bytes key.Low) low (put_member (key_bytes key.Period) period (put_member (key_bytes key.Level) level (put_member (key_bytes key.Name) name no_members)))
    ≡ member (key_bytes key.Level) level (member (key_bytes key.Low) low (member (key_bytes key.Name) name (member (key_bytes key.Period) period no_members)))
unfolding put_member
put_common name level period low = refl

-- the high budget goes before the common members
pub put_high : (high level : Data) (ms : Members) → put_member (key_bytes key.High) high (member (key_bytes key.Level) level ms) ≡ member (key_bytes key.High) high (member (key_bytes key.Level) level ms)
unfolding put_member
put_high high level ms = refl

-- a byte of a name is ASCII
name_byte_ascii : (b : ℕ) → is_name_byte b ≡ true → b < 128
name_byte_ascii b h = grind (arith, nat_tests, h)

name_bytes_ascii : (bs : List ℕ) → list_all is_name_byte bs ≡ true → (i : ℕ) → get_or bs i 0 < 128
name_bytes_ascii [] h i = omega arith
name_bytes_ascii (b ∷ bs) h zero = name_byte_ascii b ((and_parts (is_name_byte b) (list_all is_name_byte bs) h).0)
name_bytes_ascii (b ∷ bs) h (suc i) = name_bytes_ascii bs ((and_parts (is_name_byte b) (list_all is_name_byte bs) h).1) i

-- a name is UTF-8
pub IsUtf8-name : (name : List ℕ) → IsTrue (is_name name) → IsUtf8 name
IsUtf8-name name h = IsUtf8-from_ascii name (name_bytes_ascii name ((and_parts _ (list_all is_name_byte name) h).1))
