use Rattle.std.proofs.Common.{◌≡◌, ◌==◌, ℕ, refl, sym, ap, ◌∙◌, rules}
use Rattle.std.specs.Int.{w32, from_le_bytes, to_le_bytes}
use Rattle.std.specs.Bool.{Decides}
use Rattle.std.specs.Str.{bytes_eq}
use Rattle.std.proofs.lemmas.Bool.Decides.{Decides-eqb, same_from_decides}
use Rattle.std.proofs.lemmas.Nat.{le_bytes_4}
use Rattle.std.proofs.lemmas.Slice.Eq.{bytes_eq-Decides}
use Rattle.csv_records.proofs.fields.are_same.Goals as goal

-- a number of four bytes gives the bytes back
pub returns : goal.returns
returns c =
    let m : ℕ = from_le_bytes w32 c.args.bytes in
    let n : ℕ = from_le_bytes w32 c.args.others in
    let back : to_le_bytes w32 m ≡ c.args.bytes = le_bytes_4 c.args.bytes m (search rules) (search rules) refl in
    let back_others : to_le_bytes w32 n ≡ c.args.others = le_bytes_4 c.args.others n (search rules) (search rules) refl in
    let decides : Decides (m == n) (c.args.bytes ≡ c.args.others) =
    ((λ equal_numbers. sym back ∙ (ap (to_le_bytes w32) ((Decides-eqb m n).0 equal_numbers) ∙ back_others)), (λ same. (Decides-eqb m n).1 (ap (from_le_bytes w32) same))) in
    rw (c.from_le_bytes.ensures, c.from_le_bytes-2.ensures) (same_from_decides (m == n) (bytes_eq c.args.bytes c.args.others) decides (bytes_eq-Decides c.args.bytes c.args.others))
