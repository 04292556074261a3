-- One run more that is read.
use Rattle.std.proofs.Common.{◌≡◌, ℕ, ◌+◌, List, [], ◌∷◌, ◌++◌, Ok, arith}
use Rattle.std.proofs.lemmas.List.{length-append}
use Rattle.mc_task.specs.declared.task.Task.{Task}
use Rattle.mc_model.specs.declared.run.Run.{Run}
use Rattle.mc_model.specs.Runs.{length_of}
use Rattle.trace_format.specs.declared.version.Version.{Version}
use Rattle.trace_format.specs.declared.read.Reading.{Reading}
use Rattle.trace_format.specs.Reading.{AreRead}
use Rattle.trace_format.specs.TraceFile.{record_run}
use Rattle.trace_format.proofs.TickLemmas.{total-one}
use Rattle.trace_format.proofs.RunsOfSet.{of_record}

-- what the reader keeps of the runs, after one more run is read
pub read_more : (set : List Task) (v : Version) (before : List Run) (fields : List (List ℕ)) (q : Run) (reading new : Reading) → AreRead before reading → record_run set v before fields ≡ Ok q
    → new.count ≡ reading.count + 1 → new.due ≡ reading.due + length_of q → AreRead (before ++ q ∷ []) new
read_more set v before fields q reading new read is count due =
    let fits = of_record set v before fields q is in
    let few = fits.0 in
    let short = fits.1.short in
    let was = read.count in
    let ticks = read.ticks in
    record {
      count = omega (arith, count, was, length-append before (q ∷ []));
      few = omega (arith, count, was, few);
      ticks = omega (arith, due, ticks, total-one before q);
      short = omega (arith, due, ticks, short);
    }
