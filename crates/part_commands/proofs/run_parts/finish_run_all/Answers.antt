use Rattle.std.proofs.Common.{◌≡◌, ℕ, suc, List, [], ◌∷◌, ◌++◌, length, map, reverse, refl, ap, subst, ◌∙◌, arith, rules, sym}
use Rattle.std.specs.Prelude.{All, flat_map, zip, codes, decimal}
use Rattle.std.specs.List.{AllZip}
use Rattle.std.proofs.lemmas.List.Elements.{All-nil, All-cons}
use Rattle.mc_model.specs.declared.row.Row.{Row}
use Rattle.mc_model.specs.declared.work.WorkRow.{WorkRow}
use Rattle.mc_model.specs.Follows.{Follows}
use Rattle.mc_model.specs.TraceText.{trace_text}
use Rattle.timetable.specs.declared.plan.Plan.{Plan}
use Rattle.timetable.specs.declared.plan.Plan.TheVariants.{Rows}
use Rattle.timetable.specs.Floor.{FloorState}
use Rattle.timetable.specs.Plans.{IsTraceOfPlan}
use Rattle.part_fit.specs.PartWork.{part_rows}
use Rattle.part_commands.specs.Parted.{Parted, tasks_on}
use Rattle.part_commands.specs.RunAll.{IsTraceOn, trace_lines}
use Rattle.part_commands.specs.Runs.{IsFresh, IsRunOf}
use Rattle.part_commands.specs.Planned.{IsPlannedOn, parted_of}
use Rattle.part_commands.specs.Traced.{HasSmallCapacity, floor_lines}
use Rattle.part_commands.specs.declared.side_by_side.Side.{Side}
use Rattle.replies.specs.Reply.{reply_of}
use Rattle.part_commands.proofs.run_parts.finish_run_all.Goals as goal

-- the rows of floors
abbrev rows_of : List FloorState → List (List Row)
rows_of floors = map (λ f. f.core.rows) floors

-- floors that are planned for their processors are fresh
all-fresh : (ticks : ℕ) (parted : Parted) (work : List WorkRow) (ns : List ℕ) (sides : List Side) → AllZip (IsPlannedOn ticks parted work) ns sides → All IsFresh sides
all-fresh ticks parted work [] [] h = All-nil IsFresh
all-fresh ticks parted work [] (s ∷ ss) h = absurd h
all-fresh ticks parted work (n ∷ ns) [] h = absurd h
all-fresh ticks parted work (n ∷ ns) (s ∷ ss) h = All-cons IsFresh s ss h.0.fresh (all-fresh ticks parted work ns ss h.1)

-- a floor at the end of its plan has the trace of its processor, and a small capacity
ended : (ticks : ℕ) (parted : Parted) (work : List WorkRow) (n : ℕ) (side : Side) (done : FloorState) → IsPlannedOn ticks parted work n side → IsRunOf side done
    → (done.core.set ≡ tasks_on parted n) × IsTraceOn ticks parted work n done.core.rows × HasSmallCapacity done
ended ticks parted work n side done is run =
    let tasks = tasks_on parted n in
    let rows = part_rows n parted.of work in
    let same_set : done.core.set ≡ tasks = ap (λ (f : FloorState). f.core.set) run.same ∙ is.tasks in
    let same_rule : done.core.rule ≡ side.floor.core.rule = ap (λ (f : FloorState). f.core.rule) run.same in
    let same_plan : done.plan ≡ Rows rows ticks = ap (λ (f : FloorState). f.plan) run.same ∙ is.plan in
    let places : done.core.places ≡ side.floor.core.places = ap (λ (f : FloorState). f.core.places) run.same in
    let trace = subst (λ (p : Plan). IsTraceOfPlan p done.core) same_plan run.trace in
    let follows : Follows done.core.set done.core.rule rows ticks done.core.rows = trace.follows in
    let same : Follows tasks done.core.rule rows ticks done.core.rows = subst (λ s. Follows s done.core.rule rows ticks done.core.rows) same_set follows in (
      same_set,
      record { rule = side.floor.core.rule; test = is.test; follows = subst (λ r. Follows tasks r rows ticks done.core.rows) same_rule same },
      omega (arith, places, is.few),
    )

-- all floors at the end of their plans: they have small capacities and the traces that follow on their processors, and
-- the text of the floors is that of the traces
record AreEnded (ticks : ℕ) (parted : Parted) (work : List WorkRow) (ns : List ℕ) (done : List FloorState) : Type 0 where
  pub long : length ns ≡ length done
  pub few : All HasSmallCapacity done
  pub traces : AllZip (IsTraceOn ticks parted work) ns (rows_of done)
  pub text : flat_map floor_lines (zip ns done) ≡ flat_map (trace_lines parted) (zip ns (rows_of done))

all-ended : (ticks : ℕ) (parted : Parted) (work : List WorkRow) (ns : List ℕ) (sides : List Side) (done : List FloorState) → AllZip (IsPlannedOn ticks parted work) ns sides
    → AllZip IsRunOf sides done
    → AreEnded ticks parted work ns done
all-ended ticks parted work [] [] [] h runs = record { long = refl; few = All-nil HasSmallCapacity; traces = tt; text = refl }
all-ended ticks parted work [] [] (d ∷ ds) h runs = absurd runs
all-ended ticks parted work [] (s ∷ ss) ds h runs = absurd h
all-ended ticks parted work (n ∷ ns) [] ds h runs = absurd h
all-ended ticks parted work (n ∷ ns) (s ∷ ss) [] h runs = absurd runs
all-ended ticks parted work (n ∷ ns) (s ∷ ss) (d ∷ ds) h runs =
    let (set, trace, few) = ended ticks parted work n s d h.0 runs.0 in
    let rest = all-ended ticks parted work ns ss ds h.1 runs.1 in
    let here = ap (λ tasks. codes "processor " ++ (decimal n ++ (codes "\n" ++ trace_text tasks (reverse d.core.rows)))) set in
    record {
      long = ap suc rest.long;
      few = All-cons HasSmallCapacity d ds few rest.few;
      traces = (trace, rest.traces);
      text = ap (λ line. line ++ flat_map floor_lines (zip ns ds)) here ∙ ap (λ more. trace_lines parted (n, d.core.rows) ++ more) rest.text;
    }

pub run_all-requires-after_bounds : goal.run_all-requires-after_bounds
run_all-requires-after_bounds g c κs within =
    all-fresh c.args.ticks.now (parted_of c.args.job.parted) c.args.job.work c.in_ok-used.field-0.used.items c.in_ok-used.field-0.sides.items c.in_ok-used.ensures.planned

pub traces_text-requires : goal.traces_text-requires
traces_text-requires g c =
    let parts = c.in_ok-used.field-0 in
    let ended = all-ended c.args.ticks.now (parted_of c.args.job.parted) c.args.job.work parts.used.items parts.sides.items c.in_ok-done.done.items c.in_ok-used.ensures.planned c.in_ok-done.ensures in
    record {
      long = ap length c.deref.ensures.value ∙ (ended.long ∙ sym (ap length c.deref-2.ensures.value));
      few = subst (λ ds. All HasSmallCapacity ds) (sym c.deref-2.ensures.value) ended.few;
    }

pub returns-clause-traces : goal.returns-clause-traces
returns-clause-traces g c =
    let parts = c.in_ok-used.field-0 in
    let done = c.in_ok-done.done.items in
    let ended = all-ended c.args.ticks.now (parted_of c.args.job.parted) c.args.job.work parts.used.items parts.sides.items done c.in_ok-used.ensures.planned c.in_ok-done.ensures in
    let text : c.new.result ≡ reply_of 0 c.in_ok-text.text.items = search rules in (
      rows_of done,
      subst (λ ms. AllZip (IsTraceOn c.args.ticks.now (parted_of c.args.job.parted) c.args.job.work) ms (rows_of done)) c.in_ok-used.ensures.used ended.traces,
      text
          ∙ ap (reply_of 0)
          (c.in_ok-text.ensures ∙ ap (λ ms. flat_map floor_lines (zip ms c.deref-2.result.now)) c.deref.ensures.value
          ∙ ap (λ ds. flat_map floor_lines (zip parts.used.items ds)) c.deref-2.ensures.value
          ∙ ended.text
          ∙ ap (λ ms. flat_map (trace_lines (parted_of c.args.job.parted)) (zip ms (rows_of done))) c.in_ok-used.ensures.used),
    )
