-- Names, and the arrays that store them.
use Rattle.std.proofs.Common.{◌≡◌, ℕ, List, length, take, IsTrue, sym, ap}
use Rattle.std.proofs.Math.Seq.{take-append_seam}
use Rattle.mc_task.specs.NameForm.{is_name}
use Rattle.mc_task.specs.Name.{IsName, from_bytes, padded}

pub take-padded : (bytes : List ℕ) → take (length bytes) (padded bytes) ≡ bytes
unfolding padded
take-padded bytes = take-append_seam bytes _

pub IsName-from_bytes : (bytes : List ℕ) → IsTrue (is_name bytes) → IsName (from_bytes bytes)
IsName-from_bytes bytes h =
    let same : take (length bytes) (padded bytes) ≡ bytes = take-padded bytes in
    record { len = ap length (sym same); array = ap padded (sym same); name = rw same h }
