use Rattle.std.proofs.Common.{◌≡◌, ℕ, ◌++◌, true, false, replicate, inl, inr, refl, sym, subst}
use Rattle.mc_model.specs.declared.row.How.{How}
use Rattle.mc_model.specs.declared.row.Row.TheVariants.{Tick}
use Rattle.mc_model.specs.Legal.{Legal}
use Rattle.mc_model.specs.Pending.{is_end}
use Rattle.mc_model.specs.Mode.{is_over}
use Rattle.mc_model.proofs.Runs.{alone}
use Rattle.sched_report.specs.Tally.{Tallies}
use Rattle.sched_report.proofs.Released.{release_of}
use Rattle.sched_report.proofs.Steps.{found, held_at, inside, more_run, end_step, over_step}
use Rattle.sched_report.proofs.tally.Tally.tick.Goals as goal

pub returns-in-More : goal.returns-in-More
returns-in-More c = λ tasks rule g l t.
    let i = inside tasks rule (Tick c.args.job c.args.how) c.args.length g c.requires.is_run.0 l in
    rw c.in-More.is (more_run tasks c.args.job c.args.length g _ _ i t (c.go_on.ensures _ (found tasks g c.args.job.task.0 _ i t.tasks)))

pub returns-in-Done : goal.returns-in-Done
returns-in-Done c = λ tasks rule g l t.
    let last : (is_end c.args.how ≡ true) × (is_over c.args.how ≡ false) = elim c.in-Done.is [ inl is ↦ rw is (refl, refl) | inr is ↦ rw is (refl, refl) ] in
    let one = alone c.args.job c.args.how c.args.length c.requires.is_run (λ (e : c.args.how ≡ How.More). cc (rw e at last.0)) in
    let l = subst (λ (n : ℕ). Legal tasks rule (replicate n (Tick c.args.job c.args.how) ++ g)) one l in
    let ends = c.end.ensures _ (release_of g c.args.job) (found tasks g c.args.job.task.0 _ l.0 t.tasks) (held_at tasks rule c.args.job c.args.how g c.args.self.now.waiting l t.waiting) in
    subst (λ (n : ℕ). Tallies tasks (replicate n (Tick c.args.job c.args.how) ++ g) c.end.new.self) (sym one)
    (end_step tasks rule c.args.job c.args.how g _ _ last.0 last.1 l t ends)

pub returns-in-Over : goal.returns-in-Over
returns-in-Over c = λ tasks rule g l t.
    let one : c.args.length ≡ 1 = alone c.args.job c.args.how c.args.length c.requires.is_run (λ e. let is = c.in-Over.is in cc) in
    let l = rw c.in-Over.is at (subst (λ (n : ℕ). Legal tasks rule (replicate n (Tick c.args.job c.args.how) ++ g)) one l) in
    subst (λ (n : ℕ). Tallies tasks (replicate n (Tick c.args.job c.args.how) ++ g) c.overrun.new.self) (sym one)
    (rw c.in-Over.is (over_step tasks rule c.args.job g _ _ l t (c.overrun.ensures _ (found tasks g c.args.job.task.0 _ l.0 t.tasks))))
