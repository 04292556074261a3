-- Records with more fields than any record that is read, and csv's machine in as much detail as their width
-- needs.
use Rattle.std.specs.Prelude.{◌≡◌, ◌<◌, ◌≤◌, ◌-◌, ⊤, ℕ, Bool, true, false, List, [], ◌∷◌, length, drop, Option, Some, None}
use Rattle.csv.specs.Machine.{next_record}
use Rattle.csv.specs.Reading.{default_config, is_bom, records, records_from, records_next}
use Rattle.csv.specs.declared.parser.State.{State}
use Rattle.csv.specs.declared.parser.State.TheVariants as csv_state
use Rattle.csv.specs.declared.parser.Action.{Action}
use Rattle.csv.specs.declared.parser.Action.TheVariants as act
use Rattle.csv_records.specs.declared.width.ParserState.{ParserState}
use Rattle.csv_records.specs.declared.width.ParserState.TheVariants as state
use Rattle.csv_records.specs.declared.width.Ends.{Ends}
use Rattle.csv_records.specs.declared.width.Ends.TheVariants as ends
use Rattle.csv_records.specs.declared.width.FieldCount.{FieldCount}

-- the most fields of a record that is read
abbrev pub most_fields : ℕ
most_fields = 6

-- the first of these records has too many fields
abbrev pub StartsWide : List (List (List ℕ)) → Type 0
StartsWide [] = ⊥
StartsWide (fields ∷ rest) = most_fields < length fields

-- if a number n is given, the record after the first n has too many fields
abbrev pub KnowsWide : Option ℕ → List (List (List ℕ)) → Type 0
KnowsWide None left = ⊤
KnowsWide (Some n) left = StartsWide (drop n left)

-- the text begins with a byte order mark
abbrev pub has_mark : List ℕ → Bool
has_mark [] = false
has_mark (a ∷ []) = false
has_mark (a ∷ b ∷ []) = false
has_mark (a ∷ b ∷ c ∷ rest) = is_bom a b c

-- the state of csv's machine that this state stands for
abbrev pub csv_state_of : ParserState → State
csv_state_of state.StartRecord = csv_state.StartRecord
csv_state_of state.AfterCr = csv_state.AfterCr
csv_state_of state.StartField = csv_state.StartField
csv_state_of state.InField = csv_state.InField
csv_state_of state.InQuoted = csv_state.InQuoted
csv_state_of state.AfterQuote = csv_state.AfterQuote

-- what an action ends
abbrev pub ends_of : Action → Ends
ends_of act.Skip = ends.Nothing
ends_of act.Copy = ends.Nothing
ends_of act.EndField = ends.Field
ends_of act.EndRecord = ends.Record

-- whether the state is inside a record, which then ends if the text ends
abbrev pub is_inside : State → Bool
is_inside csv_state.StartRecord = false
is_inside csv_state.AfterCr = false
is_inside csv_state.InComment = false
is_inside csv_state.StartField = true
is_inside csv_state.InField = true
is_inside csv_state.InQuoted = true
is_inside csv_state.AfterQuote = true
is_inside csv_state.InEscape = true

-- after i bytes of the text the counts are right: how many records ended, how many fields of the next one
-- ended, and the state of csv's machine
pub record CountsFields (text : List ℕ) (i : ℕ) (count : FieldCount) : Type 0 where
  pub fields : List (List ℕ)
  pub part : List ℕ
  pub width : length fields ≡ count.fields
  pub inside : 0 < count.fields → is_inside (csv_state_of count.state) ≡ true
  pub order : count.records ≤ i
  pub left :
      drop count.records (records default_config text)
      ≡ records_next (records_from default_config (length text - count.records))
      (next_record default_config (csv_state_of count.state) fields part (drop i text))
