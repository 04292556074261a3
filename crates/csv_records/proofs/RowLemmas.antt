-- The rows that are read of records, one by one.
use Rattle.std.proofs.Common.{◌≡◌, ℕ, zero, suc, ◌+◌, List, [], ◌∷◌, ◌++◌, length, take, Option, Some, None, Result, Ok, Err, slice_get, refl, sym, ap, subst, ◌∙◌, append_assoc}
use Rattle.std.proofs.lemmas.List.{append-nil}
use Rattle.std.specs.Option.{option_map_or}
use Rattle.csv_records.specs.declared.fault.Fault.{Fault}
use Rattle.csv_records.specs.declared.fault.Fault.TheVariants.{Memory, At}
use Rattle.csv_records.specs.Rows.{Means, rows_with, rows_from, rows_of, EndsWith, IsReadEach}

-- each record is one row more
pub each_is_read : {Row Cause : Type 0} (means : Means Row Cause) (records : List (List (List ℕ))) (before : List Row) → IsReadEach means records before (rows_from means records before)
each_is_read means [] before = record { more = []; each = λ i fields row here there. cc; ends = (sym (append-nil before), refl) }
each_is_read {Row = Row} {Cause = Cause} means (f ∷ fs) before = go (means before f) refl (each_is_read means fs)
  where
    each : (r : Row) → means before f ≡ Ok r → (more : List Row) → ((i : ℕ) (fields : List (List ℕ)) (row : Row) → slice_get fs i ≡ Some fields → slice_get more i ≡ Some row → means ((before ++ r ∷ []) ++ take i more) fields ≡ Ok row)
        → (i : ℕ) (fields : List (List ℕ)) (row : Row) → slice_get (f ∷ fs) i ≡ Some fields → slice_get (r ∷ more) i ≡ Some row → means (before ++ take i (r ∷ more)) fields ≡ Ok row
    each r is more others zero fields row here there = ap (λ rows. means rows fields) (append-nil before) ∙ cc
    each r is more others (suc i) fields row here there = ap (λ rows. means rows fields) (sym (append_assoc before (r ∷ []) (take i more))) ∙ others i fields row here there

    ends : (r : Row) (more : List Row) (read : Result (List Row) (Fault Cause)) → EndsWith means fs (before ++ r ∷ []) more read → EndsWith means (f ∷ fs) before (r ∷ more) read
    ends r more (Ok rows) e = (e.0 ∙ append_assoc before (r ∷ []) more, ap suc e.1)
    ends r more (Err Memory) e = e
    ends r more (Err (At line cause)) e = subst (λ rows. (fields : List (List ℕ)) × (slice_get fs (length more) ≡ Some fields) × (means rows fields ≡ Err cause) × (line ≡ length rows + 2)) (append_assoc before (r ∷ []) more) e

    go : (one : Result Row Cause) → means before f ≡ one → ((rows : List Row) → IsReadEach means fs rows (rows_from means fs rows)) → IsReadEach means (f ∷ fs) before (rows_with before (rows_from means fs) one)
    go (Err cause) is others =
        record { more = []; each = λ i fields row here there. cc; ends = (f, refl, rw append-nil is, rw append-nil refl) }
    go (Ok r) is others =
        let b = others (before ++ r ∷ []) in
        record { more = r ∷ b.more; each = each r is b.more b.each; ends = ends r b.more (rows_from means fs (before ++ r ∷ [])) b.ends }

-- a property that each further row keeps holds of all rows
rows_keep : {Row Cause : Type 0} (P : List Row → Type 0) (means : Means Row Cause) → ((before : List Row) (fields : List (List ℕ)) (row : Row) → P before → means before fields ≡ Ok row → P (before ++ row ∷ []))
    → (records : List (List (List ℕ))) (before rows : List Row) → P before → rows_from means records before ≡ Ok rows → P rows
rows_keep P means keep [] before rows h read = let same : before ≡ rows = cc in subst P same h
rows_keep {Row = Row} {Cause = Cause} P means keep (f ∷ fs) before rows h read = go (means before f) refl (λ b k. rows_keep P means keep fs b rows k) read
  where
    go : (one : Result Row Cause) → means before f ≡ one → ((b : List Row) → P b → rows_from means fs b ≡ Ok rows → P rows) → rows_with before (rows_from means fs) one ≡ Ok rows → P rows
    go (Err cause) is others read = cc
    go (Ok row) is others read = others (before ++ row ∷ []) (keep before f row h is) read

-- a property that each further row keeps holds of all rows after a header
pub file_keeps : {Row Cause : Type 0} (P : List Row → Type 0) (header : List (List ℕ) → Option (Means Row Cause)) (no_header : Cause) → P []
    → ((first : List (List ℕ)) (means : Means Row Cause) → header first ≡ Some means → (before : List Row) (fields : List (List ℕ)) (row : Row) → P before → means before fields ≡ Ok row → P (before ++ row ∷ []))
    → (records : List (List (List ℕ))) (rows : List Row) → rows_of header no_header records ≡ Ok rows → P rows
file_keeps P header no_header none keep [] rows read = cc
file_keeps {Row = Row} {Cause = Cause} P header no_header none keep (first ∷ left) rows read = by (header first) refl read
  where
    by : (says : Option (Means Row Cause)) → header first ≡ says → option_map_or (λ means. rows_from means left []) says (Err (At 1 no_header)) ≡ Ok rows → P rows
    by None is read = cc
    by (Some means) is read = rows_keep P means (keep first means is) left [] rows none read
