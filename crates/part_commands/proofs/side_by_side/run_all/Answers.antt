use Rattle.std.proofs.Common.{◌≡◌, suc, List, [], ◌∷◌, length, sym, ap, subst, ◌∙◌, arith, Result, Ok, Err, IfOk, Vec, Global}
use Rattle.std.specs.List.{AllZip}
use Rattle.timetable.specs.Floor.{FloorState}
use Rattle.mc_task.specs.declared.set.Memory.{Memory}
use Rattle.part_commands.specs.declared.side_by_side.Side.{Side}
use Rattle.part_commands.specs.Runs.{IsRunOf, RunsEach, results_of}
use Rattle.part_commands.proofs.side_by_side.run_all.Goals as goal

-- where each result is that of its side, each floor that came back is the run of its side
runs-AllZip : (sides : List Side) (done : List FloorState) → length (results_of done) ≡ length sides → RunsEach sides (results_of done) → AllZip IsRunOf sides done
runs-AllZip [] [] long each = tt
runs-AllZip [] (d ∷ ds) long each = absurd (omega arith)
runs-AllZip (j ∷ js) [] long each = absurd (omega arith)
runs-AllZip (j ∷ js) (d ∷ ds) long each = (each 0 j (Ok d) (omega arith), runs-AllZip js ds (omega arith) (λ i side r lt. each (suc i) side r (omega arith)))

-- the floors that come back are the runs of the sides that were given
runs-finished : (sides : List Side) (results : List (Result FloorState Memory)) (r : Result (Vec FloorState Global) Memory)
    → length results ≡ length sides → RunsEach sides results → IfOk r (λ v. results_of v.items ≡ results) → IfOk r (λ v. AllZip IsRunOf sides v.items)
runs-finished sides results (Ok v) long each h = runs-AllZip sides v.items (ap length h ∙ long) (subst (λ rs. RunsEach sides rs) (sym h) each)
runs-finished sides results (Err e) long each h = tt

pub returns : goal.returns
returns g c = runs-finished c.args.sides.items c.in_ok-results.results.items c.floors_in.result c.in_ok-results.ensures.long c.in_ok-results.ensures.each c.floors_in.ensures
