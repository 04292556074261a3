use Rattle.std.proofs.Common.{◌≡◌, ◌++◌, [], length, drop, sym, ◌∙◌, arith}
use Rattle.std.specs.Bool.{Decides}
use Rattle.std.specs.Str.{bytes_eq}
use Rattle.std.proofs.lemmas.Bool.Decides.{Decides-eqb, nat_tests, same_from_decides}
use Rattle.std.proofs.lemmas.List.{append-nil, drop_all}
use Rattle.std.proofs.lemmas.Slice.Eq.{starts_is, bytes_eq-Decides}
use Rattle.csv_records.proofs.fields.is_long.Goals as goal

-- a field as long as a word begins with the word exactly where it is the word
pub returns-then-field-word : goal.returns-then-field-word
returns-then-field-word c =
    let field = c.args.field.now in
    let word = c.args.word.now in
    let begins = rw c.as_bytes.ensures.value at (starts_is Decides-eqb field c.as_bytes.result.now c.starts_with.result c.starts_with.ensures.value) in
    let same : length field ≡ length word = grind (arith, nat_tests, c.if-field-word.true) in
    let whole : word ++ drop (length word) field ≡ word = rw (drop_all (length word) field (omega (arith, same))) (append-nil word) in
    let decides : Decides c.starts_with.result (field ≡ word) = ((λ begins_so. begins.0 begins_so ∙ whole), (λ equal. begins.1 [] (equal ∙ sym (append-nil word)))) in
    same_from_decides c.starts_with.result (bytes_eq field word) decides (bytes_eq-Decides field word)
