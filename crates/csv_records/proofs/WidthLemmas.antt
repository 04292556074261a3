-- The number of fields of the records of a text, counted byte by byte.
use Rattle.std.proofs.Common.{◌≡◌, ◌<◌, ◌≤◌, ℕ, zero, suc, ◌+◌, ◌-◌, Bool, true, false, ◌&&◌, ◌==◌, cond, List, [], ◌∷◌, ◌++◌, length, take, drop, Some, None, refl, sym, ap, subst, ◌∙◌, arith}
use Rattle.std.proofs.Math.Seq.{take-length}
use Rattle.std.proofs.lemmas.List.{length-append, length-drop}
use Rattle.csv.specs.Machine.{Read, next_record, step, in_field, start_field, start_record, ends_with, after_end, is_end, fields_after, field_after, ends_at_end}
use Rattle.csv.specs.Reading.{default_config, records, records_from, records_next, strip_bom}
use Rattle.csv.specs.declared.parser.State.{State}
use Rattle.csv.specs.declared.parser.State.TheVariants as csv_state
use Rattle.csv.specs.declared.parser.Action.{Action}
use Rattle.csv.specs.declared.parser.Action.TheVariants as act
use Rattle.csv_records.specs.declared.width.FieldCount.{FieldCount}
use Rattle.csv_records.specs.declared.width.Ends.TheVariants as ends
use Rattle.csv_records.specs.Width.{StartsWide, has_mark, csv_state_of, ends_of, is_inside, CountsFields}
use Rattle.csv_records.proofs.RecordLemmas.{one_read}

-- a text without its byte order mark is the text from its fourth byte on
pub stripped : (text : List ℕ) → strip_bom text ≡ cond (has_mark text) (drop 3 text) text
unfolding strip_bom
stripped [] = refl
stripped (a ∷ []) = refl
stripped (a ∷ b ∷ []) = refl
stripped (a ∷ b ∷ c ∷ rest) = refl

-- taking all that is left of a text after three bytes leaves it as it is
pub from_third : (text : List ℕ) → take (length text - 3) (drop 3 text) ≡ drop 3 text
from_third text = ap (λ (n : ℕ). take n (drop 3 text)) (sym (length-drop 3 text)) ∙ take-length (drop 3 text)

-- after one more record, one record fewer stands before the wide one
pub one_fewer : (n : ℕ) (fields : List (List ℕ)) (left : List (List (List ℕ))) → (n ≡ 0 → ⊥) → StartsWide (drop n (fields ∷ left)) → StartsWide (drop (n - 1) left)
one_fewer zero fields left some wide = absurd (some refl)
one_fewer (suc n) fields left some wide = let less : suc n - 1 ≡ n = omega arith in rw less wide

-- a byte that ends a field leaves the machine inside its record
abbrev FieldInside : State × Action → Type 0
FieldInside to = to.1 ≡ act.EndField → is_inside to.0 ≡ true

-- a byte that does not end the record leaves the machine inside it
abbrev StaysInside : State × Action → Type 0
StaysInside to = is_end to.1 ≡ false → is_inside to.0 ≡ true

in_field_by : (d e : Bool) (s : State) → StaysInside (cond d (csv_state.StartField, act.EndField) (cond e (s, act.EndRecord) (csv_state.InField, act.Copy)))
in_field_by true e s h = refl
in_field_by false true s h = cc
in_field_by false false s h = refl

in_field_stays : (b : ℕ) → StaysInside (in_field default_config b)
in_field_stays b = in_field_by (b == default_config.delimiter) (ends_with default_config.terminator b) (after_end default_config.terminator b)

-- a choice between two steps that both stay inside the record does so too
skips_or : (d : Bool) (s : State) (a : Action) (to : State × Action) → is_inside s ≡ true → StaysInside to → StaysInside (cond d (s, a) to)
skips_or true s a to inside stays h = inside
skips_or false s a to inside stays h = stays h

start_field_stays : (b : ℕ) → StaysInside (start_field default_config b)
start_field_stays b = skips_or (default_config.quoting && (b == default_config.quote)) csv_state.InQuoted act.Skip (in_field default_config b) refl (in_field_stays b)

-- inside a record, a byte either ends the record or stays inside it
stays : (s : State) (b : ℕ) → is_inside s ≡ true → StaysInside (step default_config s b)
stays csv_state.StartRecord b h = cc
stays csv_state.AfterCr b h = cc
stays csv_state.InComment b h = cc
stays csv_state.StartField b h = start_field_stays b
stays csv_state.InField b h = in_field_stays b
stays csv_state.InQuoted b h = skips_or (b == 34) csv_state.AfterQuote act.Skip (csv_state.InQuoted, act.Copy) refl (λ still. refl)
stays csv_state.AfterQuote b h = skips_or (b == 34) csv_state.InQuoted act.Copy (in_field default_config b) refl (in_field_stays b)
stays csv_state.InEscape b h = λ still. refl

-- a field that ends does not end its record
field_is_inside : (to : State × Action) → StaysInside to → FieldInside to
field_is_inside to stays h = stays (ap is_end h)

-- a byte that is skipped ends no field
skipped_or : (d : Bool) (s : State) (to : State × Action) → FieldInside to → FieldInside (cond d (s, act.Skip) to)
skipped_or true s to inside h = cc
skipped_or false s to inside h = inside h

start_record_field : (b : ℕ) → FieldInside (start_record default_config b)
start_record_field b = skipped_or (ends_with default_config.terminator b) csv_state.StartRecord (start_field default_config b) (field_is_inside (start_field default_config b) (start_field_stays b))

-- after each byte that ends a field, the machine is inside a record
field_inside : (s : State) (b : ℕ) → FieldInside (step default_config s b)
field_inside csv_state.StartRecord b = start_record_field b
field_inside csv_state.AfterCr b = skipped_or (b == 10) csv_state.StartRecord (start_record default_config b) (start_record_field b)
field_inside csv_state.InComment b = skipped_or (b == 10) csv_state.StartRecord (csv_state.InComment, act.Skip) (λ h. cc)
field_inside csv_state.StartField b = field_is_inside (step default_config csv_state.StartField b) (stays csv_state.StartField b refl)
field_inside csv_state.InField b = field_is_inside (step default_config csv_state.InField b) (stays csv_state.InField b refl)
field_inside csv_state.InQuoted b = field_is_inside (step default_config csv_state.InQuoted b) (stays csv_state.InQuoted b refl)
field_inside csv_state.AfterQuote b = field_is_inside (step default_config csv_state.AfterQuote b) (stays csv_state.AfterQuote b refl)
field_inside csv_state.InEscape b = field_is_inside (step default_config csv_state.InEscape b) (stays csv_state.InEscape b refl)

-- the end of a text ends the record that the machine is inside of
inside_ends : (s : State) → is_inside s ≡ true → ends_at_end s ≡ true
inside_ends csv_state.StartRecord h = cc
inside_ends csv_state.AfterCr h = cc
inside_ends csv_state.InComment h = cc
inside_ends csv_state.StartField h = refl
inside_ends csv_state.InField h = refl
inside_ends csv_state.InQuoted h = refl
inside_ends csv_state.AfterQuote h = refl
inside_ends csv_state.InEscape h = refl

-- the next record, by the action on its next byte
by_action : (s : State) (fields : List (List ℕ)) (part : List ℕ) (b : ℕ) (rest : List ℕ) (a : Action) → (step default_config s b).1 ≡ a
    → next_record default_config s fields part (b ∷ rest)
    ≡ cond (is_end a) (Some (fields_after a fields part, (step default_config s b).0, rest)) (next_record default_config (step default_config s b).0 (fields_after a fields part) (field_after a b part) rest)
unfolding next_record
by_action s fields part b rest a h =
    subst (λ (a : Action). next_record default_config s fields part (b ∷ rest)
    ≡ cond (is_end a) (Some (fields_after a fields part, (step default_config s b).0, rest)) (next_record default_config (step default_config s b).0 (fields_after a fields part) (field_after a b part) rest)) h refl

-- the record that the machine is inside of has at least one field more
ends_wider : (s : State) (fields : List (List ℕ)) (part xs : List ℕ) → is_inside s ≡ true
    → (r : Read) × (next_record default_config s fields part xs ≡ Some r) × (length fields < length r.0)
unfolding next_record
ends_wider s fields part [] h =
    let longer = length-append fields (part ∷ []) in
    ((fields ++ (part ∷ []), csv_state.StartRecord, []), ap (λ (b : Bool). cond b (Some (fields ++ (part ∷ []), csv_state.StartRecord, [])) None) (inside_ends s h), omega (arith, longer))
ends_wider s fields part (b ∷ rest) h = go (step default_config s b).1 refl (λ s fields part h. ends_wider s fields part rest h)
  where
    go : (a : Action) → (step default_config s b).1 ≡ a
        → ((s : State) (fields : List (List ℕ)) (part : List ℕ) → is_inside s ≡ true → (r : Read) × (next_record default_config s fields part rest ≡ Some r) × (length fields < length r.0))
        → (r : Read) × (next_record default_config s fields part (b ∷ rest) ≡ Some r) × (length fields < length r.0)
    go act.EndRecord e ends =
        let longer = length-append fields (part ∷ []) in
        ((fields ++ (part ∷ []), (step default_config s b).0, rest), by_action s fields part b rest act.EndRecord e, omega (arith, longer))
    go act.EndField e ends =
        let longer = length-append fields (part ∷ []) in
        let more = ends (step default_config s b).0 (fields ++ (part ∷ [])) [] (stays s b h (ap is_end e)) in
        (more.0, by_action s fields part b rest act.EndField e ∙ more.1, omega (arith, longer, more.2))
    go act.Skip e ends =
        let more = ends (step default_config s b).0 fields part (stays s b h (ap is_end e)) in
        (more.0, by_action s fields part b rest act.Skip e ∙ more.1, more.2)
    go act.Copy e ends =
        let more = ends (step default_config s b).0 fields (part ++ (b ∷ [])) (stays s b h (ap is_end e)) in
        (more.0, by_action s fields part b rest act.Copy e ∙ more.1, more.2)

-- after six fields of a record, the record is too wide
pub has_too_many : (text : List ℕ) (i : ℕ) (count : FieldCount) → CountsFields text i count → 6 ≤ count.fields → StartsWide (drop count.records (records default_config text))
has_too_many text i count counts wide =
    let width = counts.width in
    let more = ends_wider (csv_state_of count.state) counts.fields counts.part (drop i text) (counts.inside (omega (arith, wide))) in
    let left = counts.left ∙ ap (records_next (records_from default_config (length text - count.records))) more.1 in
    subst (λ (rs : List (List (List ℕ))). StartsWide rs) (sym left) (omega (arith, width, wide, more.2))

-- before the first byte the counts are right
pub none_counted : (text : List ℕ) (count : FieldCount) → count.records ≡ 0 → count.fields ≡ 0 → csv_state_of count.state ≡ csv_state.StartRecord → CountsFields text 0 count
none_counted text count none no_field start = record {
  fields = [];
  part = [];
  width = sym no_field;
  inside = λ some. absurd (omega (arith, some, no_field));
  order = omega (arith, none);
  left = rw (none, start) (one_read csv_state.StartRecord text (length text + 1) (length text - 0) (omega arith));
}

-- if y stands first of what is left after n, ys is what is left after n + 1
drop_after : {A : Type 0} (n : ℕ) (xs : List A) (y : A) (ys : List A) → drop n xs ≡ y ∷ ys → drop (suc n) xs ≡ ys
drop_after zero [] y ys h = cc
drop_after zero (x ∷ xs) y ys h = ap (drop 1) h
drop_after (suc n) [] y ys h = cc
drop_after (suc n) (x ∷ xs) y ys h = drop_after n xs y ys h

-- the counts are right after one more byte that ends nothing
pub goes_on : (text : List ℕ) (i b : ℕ) (old new : FieldCount) → drop i text ≡ b ∷ drop (i + 1) text → CountsFields text i old → ends_of (step default_config (csv_state_of old.state) b).1 ≡ ends.Nothing
    → csv_state_of new.state ≡ (step default_config (csv_state_of old.state) b).0 → new.records ≡ old.records → new.fields ≡ old.fields → CountsFields text (i + 1) new
goes_on text i b old new byte counts nothing state same_records same_fields = go (step default_config (csv_state_of old.state) b).1 refl
  where
    on : (part : List ℕ) → is_end (step default_config (csv_state_of old.state) b).1 ≡ false
        → next_record default_config (csv_state_of old.state) counts.fields counts.part (b ∷ drop (i + 1) text) ≡ next_record default_config (step default_config (csv_state_of old.state) b).0 counts.fields part (drop (i + 1) text)
        → CountsFields text (i + 1) new
    on part still next =
        let order = counts.order in
        record {
          fields = counts.fields;
          part = part;
          width = counts.width ∙ sym same_fields;
          inside = λ some. ap is_inside state ∙ stays (csv_state_of old.state) b (counts.inside (omega (arith, some, same_fields))) still;
          order = omega (arith, order, same_records);
          left = rw (same_records, state) (counts.left ∙ ap (λ (xs : List ℕ). records_next (records_from default_config (length text - old.records)) (next_record default_config (csv_state_of old.state) counts.fields counts.part xs)) byte
              ∙ ap (records_next (records_from default_config (length text - old.records))) next);
        }

    go : (a : Action) → (step default_config (csv_state_of old.state) b).1 ≡ a → CountsFields text (i + 1) new
    go act.Skip e = on counts.part (ap is_end e) (by_action (csv_state_of old.state) counts.fields counts.part b (drop (i + 1) text) act.Skip e)
    go act.Copy e = on (counts.part ++ (b ∷ [])) (ap is_end e) (by_action (csv_state_of old.state) counts.fields counts.part b (drop (i + 1) text) act.Copy e)
    go act.EndField e = absurd (let bad = ap ends_of e in let no : ends.Field ≡ ends.Nothing = sym bad ∙ nothing in cc)
    go act.EndRecord e = absurd (let bad = ap ends_of e in let no : ends.Record ≡ ends.Nothing = sym bad ∙ nothing in cc)

only_field : (a : Action) → ends_of a ≡ ends.Field → a ≡ act.EndField
only_field act.EndField h = refl
only_field act.EndRecord h = cc
only_field act.Skip h = cc
only_field act.Copy h = cc

only_record : (a : Action) → ends_of a ≡ ends.Record → a ≡ act.EndRecord
only_record act.EndRecord h = refl
only_record act.EndField h = cc
only_record act.Skip h = cc
only_record act.Copy h = cc

-- the counts are right after one more byte that ends a field
pub ends_field : (text : List ℕ) (i b : ℕ) (old new : FieldCount) → drop i text ≡ b ∷ drop (i + 1) text → CountsFields text i old → ends_of (step default_config (csv_state_of old.state) b).1 ≡ ends.Field
    → csv_state_of new.state ≡ (step default_config (csv_state_of old.state) b).0 → new.records ≡ old.records → new.fields ≡ old.fields + 1 → CountsFields text (i + 1) new
ends_field text i b old new byte counts field state same_records one_more =
    let e = only_field _ field in
    let order = counts.order in
    let width = counts.width in
    let longer = length-append counts.fields (counts.part ∷ []) in
    record {
      fields = counts.fields ++ (counts.part ∷ []);
      part = [];
      width = omega (arith, longer, width, one_more);
      inside = λ some. ap is_inside state ∙ field_inside (csv_state_of old.state) b e;
      order = omega (arith, order, same_records);
      left = rw (same_records, state) (counts.left ∙ ap (λ (xs : List ℕ). records_next (records_from default_config (length text - old.records)) (next_record default_config (csv_state_of old.state) counts.fields counts.part xs)) byte
          ∙ ap (records_next (records_from default_config (length text - old.records))) (by_action (csv_state_of old.state) counts.fields counts.part b (drop (i + 1) text) act.EndField e));
    }

-- the counts are right after one more byte that ends a record
pub ends_record : (text : List ℕ) (i b : ℕ) (old new : FieldCount) → drop i text ≡ b ∷ drop (i + 1) text → CountsFields text i old → ends_of (step default_config (csv_state_of old.state) b).1 ≡ ends.Record
    → csv_state_of new.state ≡ (step default_config (csv_state_of old.state) b).0 → new.records ≡ old.records + 1 → new.fields ≡ 0 → CountsFields text (i + 1) new
ends_record text i b old new byte counts ended state one_more no_field =
    let e = only_record _ ended in
    let order = counts.order in
    let inside : i < length text = before_end i text byte in
    let one = counts.left ∙ ap (λ (xs : List ℕ). records_next (records_from default_config (length text - old.records)) (next_record default_config (csv_state_of old.state) counts.fields counts.part xs)) byte
    ∙ ap (records_next (records_from default_config (length text - old.records))) (by_action (csv_state_of old.state) counts.fields counts.part b (drop (i + 1) text) act.EndRecord e) in
    let after = drop_after old.records (records default_config text) _ _ one in
    let next : suc old.records ≡ old.records + 1 = omega arith in
    record {
      fields = [];
      part = [];
      width = sym no_field;
      inside = λ some. absurd (omega (arith, some, no_field));
      order = omega (arith, order, one_more);
      left = rw (one_more, state) (ap (λ (n : ℕ). drop n (records default_config text)) (sym next) ∙ after
          ∙ one_read (step default_config (csv_state_of old.state) b).0 (drop (i + 1) text) (length text - old.records) (length text - (old.records + 1)) (omega (arith, order, inside)));
    }
  where
    before_end : (i : ℕ) (text : List ℕ) → drop i text ≡ b ∷ drop (i + 1) text → i < length text
    before_end zero [] h = cc
    before_end zero (x ∷ xs) h = omega arith
    before_end (suc i) [] h = cc
    before_end (suc i) (x ∷ xs) h =
        let one : suc i + 1 ≡ suc (i + 1) = omega arith in
        let inner : i < length xs = before_end i xs (h ∙ ap (λ (n : ℕ). b ∷ drop n (x ∷ xs)) one) in
        omega (arith, inner)
