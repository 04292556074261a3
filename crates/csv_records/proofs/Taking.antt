-- The rows that are taken of records, one by one.
use Rattle.std.proofs.Common.{◌≡◌, ℕ, ◌+◌, ◌<◌, List, [], ◌∷◌, ◌++◌, length, Some, None, Result, Ok, Err, refl, sym, ap, subst, ◌∙◌, arith}
use Rattle.std.proofs.lemmas.List.{length-append}
use Rattle.csv_records.specs.declared.fault.Fault.{Fault}
use Rattle.csv_records.specs.declared.fault.Fault.TheVariants.{Memory, At}
use Rattle.csv_records.specs.Reads.{Reads, Takes}
use Rattle.csv_records.specs.Rows.{Means, IsTaken, rows_with, rows_from, accepted_with, accepted_from}
use Rattle.csv_records.specs.Width.{most_fields, StartsWide}

-- some rows were taken, the next record has this line, and the records that are left say after these rows what all
-- records say; the rows accepted of all records are these and those accepted after them
pub record IsReading {Row Cause : Type 0} (took : List Row → Type 0) (means : Means Row Cause) (left : List (List (List ℕ))) (line : ℕ) (says : Result (List Row) (Fault Cause)) (accepted : List Row) : Type 0 where
  pub rows : List Row
  pub taken : took rows
  pub number : line ≡ length rows + 2
  pub rest : rows_from means left rows ≡ says
  pub before : accepted_from means left rows ≡ accepted

-- reading begins before the first row, at line 2
pub reading_begins : {Row Cause : Type 0} (took : List Row → Type 0) (means : Means Row Cause) (records : List (List (List ℕ))) → took [] → IsReading took means records 2 (rows_from means records []) (accepted_from means records [])
reading_begins took means records none = record { rows = []; taken = none; number = refl; rest = refl; before = refl }

-- reading goes on after one more row is taken
pub reading_goes_on : {Row Cause : Type 0} (took new : List Row → Type 0) (means after : Means Row Cause) (all left : List (List (List ℕ))) (fields : List (List ℕ)) (line : ℕ) (says : Result (List Row) (Fault Cause)) (accepted : List Row)
    → all ≡ fields ∷ left → IsReading took means all line says accepted → ((before : List Row) → took before → IsTaken new before None (means before fields)) → after ≡ means → IsReading new after left (line + 1) says accepted
reading_goes_on {Row = Row} {Cause = Cause} took new means after all left fields line says accepted is r step same =
    let t = step r.rows r.taken in
    let at = r.number in
    subst (λ (m : Means Row Cause). IsReading new m left (line + 1) says accepted) (sym same)
    (record {
      rows = r.rows ++ t.0 ∷ [];
      taken = t.2;
      number = omega (arith, at, length-append r.rows (t.0 ∷ []));
      rest = ap (rows_with r.rows (rows_from means left)) (sym t.1) ∙ (ap (λ records. rows_from means records r.rows) (sym is) ∙ r.rest);
      before = ap (accepted_with r.rows (accepted_from means left)) (sym t.1) ∙ (ap (λ records. accepted_from means records r.rows) (sym is) ∙ r.before);
    })

-- if the next record is refused, its refusal is what the records say
pub reading_refused : {Row Cause : Type 0} (took new : List Row → Type 0) (means : Means Row Cause) (all left : List (List (List ℕ))) (fields : List (List ℕ)) (line : ℕ) (says : Result (List Row) (Fault Cause)) (accepted : List Row) (cause : Cause)
    → all ≡ fields ∷ left → IsReading took means all line says accepted → ((before : List Row) → took before → IsTaken new before (Some cause) (means before fields)) → says ≡ Err (At line cause)
reading_refused took new means all left fields line says accepted cause is r step =
    sym r.rest ∙ (ap (λ records. rows_from means records r.rows) is ∙ (ap (rows_with r.rows (rows_from means left)) (step r.rows r.taken) ∙ ap (λ (n : ℕ). Err (At n cause)) (sym r.number)))

-- if the next record is refused, the rows that were handed over are those accepted of all records
pub handed_refused : {Row Cause : Type 0} (took new handed : List Row → Type 0) (means : Means Row Cause) (all left : List (List (List ℕ))) (fields : List (List ℕ)) (line : ℕ) (says : Result (List Row) (Fault Cause)) (accepted : List Row) (cause : Cause)
    → all ≡ fields ∷ left → IsReading took means all line says accepted → ((before : List Row) → took before → IsTaken new before (Some cause) (means before fields)) → ((before : List Row) → took before → handed before) → handed accepted
handed_refused took new handed means all left fields line says accepted cause is r step kept =
    let same = sym (ap (accepted_with r.rows (accepted_from means left)) (step r.rows r.taken)) ∙ (ap (λ records. accepted_from means records r.rows) (sym is) ∙ r.before) in
    subst handed same (kept r.rows r.taken)

-- at the end of the records, the rows that were taken are what the records say
pub reading_ends : {Row Cause : Type 0} (took : List Row → Type 0) (means : Means Row Cause) (left : List (List (List ℕ))) (line : ℕ) (says : Result (List Row) (Fault Cause)) (accepted : List Row) → left ≡ [] → IsReading took means left line says accepted
    → (rows : List Row) × (says ≡ Ok rows) × took rows
reading_ends took means left line says accepted none r = (r.rows, sym r.rest ∙ ap (λ records. rows_from means records r.rows) none, r.taken)

-- if the next record has too many fields, its refusal is what the records say
pub reading_wide : {Row Cause : Type 0} (took : List Row → Type 0) (means : Means Row Cause) (left : List (List (List ℕ))) (line : ℕ) (says : Result (List Row) (Fault Cause)) (accepted : List Row) (cause : Cause) → StartsWide left → IsReading took means left line says accepted
    → ((before : List Row) (fields : List (List ℕ)) → took before → most_fields < length fields → means before fields ≡ Err cause) → says ≡ Err (At line cause)
reading_wide took means [] line says accepted cause wide r refuses = absurd wide
reading_wide took means (fields ∷ left) line says accepted cause wide r refuses = reading_refused took took means (fields ∷ left) left fields line says accepted cause refl r (λ before h. refuses before fields h wide)

-- if the next record has too many fields, the rows that were handed over are those accepted of all records
pub handed_wide : {Row Cause : Type 0} (took handed : List Row → Type 0) (means : Means Row Cause) (left : List (List (List ℕ))) (line : ℕ) (says : Result (List Row) (Fault Cause)) (accepted : List Row) (cause : Cause) → StartsWide left → IsReading took means left line says accepted
    → ((before : List Row) (fields : List (List ℕ)) → took before → most_fields < length fields → means before fields ≡ Err cause) → ((before : List Row) → took before → handed before) → handed accepted
handed_wide took handed means [] line says accepted cause wide r refuses kept = absurd wide
handed_wide took handed means (fields ∷ left) line says accepted cause wide r refuses kept =
    handed_refused took took handed means (fields ∷ left) left fields line says accepted cause refl r (λ before h. refuses before fields h wide) kept

-- a fault is the same one, whatever would have been taken
pub takes_fails : {X Y Row Cause : Type 0} (took : X → List Row → Type 0) (other : Y → List Row → Type 0) (fault : Fault Cause) (says : Result (List Row) (Fault Cause)) → Takes took (Err fault) says → Takes other (Err fault) says
takes_fails took other Memory says t = tt
takes_fails took other (At line cause) says t = t

-- a fault is the same one, however the rows would have been seen
pub gives_fails : {X Y Row Cause : Type 0} (took : X → List Row → Type 0) (view : Y → List Row) (fault : Fault Cause) (says : Result (List Row) (Fault Cause)) → Takes took (Err fault) says → Reads view (Err fault) says
gives_fails took view Memory says t = tt
gives_fails took view (At line cause) says t = t
