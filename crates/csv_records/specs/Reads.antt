-- What a reader of a text returns.
use Rattle.std.specs.Prelude.{◌≡◌, List, Result, Ok, Err}
use Rattle.csv_records.specs.declared.fault.Fault.{Fault}
use Rattle.csv_records.specs.declared.fault.Fault.TheVariants.{Memory}

-- the result is what the text says, its rows (seen by `view`) or its first refusal; or memory ran out
abbrev pub Reads : {X Y Cause : Type 0} → (X → Y) → Result X (Fault Cause) → Result Y (Fault Cause) → Type 0
Reads view (Ok x) says = says ≡ Ok (view x)
Reads view (Err Memory) says = Unit {0}
Reads view (Err refusal) says = says ≡ Err refusal

-- the rows that the text says were taken; or the result is the text's first refusal; or memory ran out
abbrev pub Takes : {X Row Cause : Type 0} → (X → List Row → Type 0) → Result X (Fault Cause) → Result (List Row) (Fault Cause) → Type 0
Takes {Row = Row} took (Ok x) says = (rows : List Row) × (says ≡ Ok rows) × took x rows
Takes took (Err Memory) says = Unit {0}
Takes took (Err refusal) says = says ≡ Err refusal

-- if the text is refused, these rows, which stand before the refusal, were taken; of out of memory nothing is said
abbrev pub TakesBefore : {Row Cause : Type 0} → (List Row → Type 0) → List Row → Fault Cause → Type 0
TakesBefore took before Memory = Unit {0}
TakesBefore took before refusal = took before
