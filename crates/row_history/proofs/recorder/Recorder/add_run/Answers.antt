use Rattle.std.proofs.Common.{◌≡◌, ℕ, suc, ◌+◌, ◌≤◌, List, ◌∷◌, ◌++◌, length, replicate, refl, ap, ◌∙◌, subst, arith}
use Rattle.std.proofs.lemmas.List.{length-append, length-replicate}
use Rattle.mc_model.specs.declared.row.Row.{Row}
use Rattle.row_history.proofs.recorder.Recorder.add_run.Goals as goal

pub loop-init : goal.loop-init
loop-init g c = record { rows_are = refl; capacity_is = refl; set = λ set rule k. k }

pub add-requires : goal.add-requires
add-requires g c =
    let old : List Row = g.Self.Recorder.rows c.args.self.now in
    let i : ℕ = c.loop.counter in
    let r : length old + c.args.times ≤ g.Self.Recorder.capacity c.args.self.now = c.requires.room in
    record { room = omega (arith, c.loop-test.true, r, c.loop.invariant.capacity_is, ap length c.loop.invariant.rows_are, length-append (replicate i c.args.row) old, length-replicate i c.args.row) }

pub loop-preserved : goal.loop-preserved
loop-preserved g c = record {
  rows_are =
      let i : ℕ = c.loop.counter in
      let more : suc i ≡ i + 1 = omega arith in
      subst (λ (n : ℕ). g.Self.Recorder.rows c.add.new.self ≡ replicate n c.args.row ++ g.Self.Recorder.rows c.args.self.now) more (c.add.ensures.rows ∙ ap (λ (xs : List Row). c.args.row ∷ xs) c.loop.invariant.rows_are);
  capacity_is = c.add.ensures.capacity ∙ c.loop.invariant.capacity_is;
  set = λ set rule k. c.add.ensures.set set rule (c.loop.invariant.set set rule k);
}

pub returns-clause-rows : goal.returns-clause-rows
returns-clause-rows g c =
    let all : c.loop.counter ≡ c.args.times = omega arith in
    subst (λ (n : ℕ). g.Self.Recorder.rows c.loop.self ≡ replicate n c.args.row ++ g.Self.Recorder.rows c.args.self.now) all c.loop.invariant.rows_are

pub returns-clause-capacity : goal.returns-clause-capacity
returns-clause-capacity g c = c.loop.invariant.capacity_is

pub returns-clause-set : goal.returns-clause-set
returns-clause-set g c = c.loop.invariant.set
