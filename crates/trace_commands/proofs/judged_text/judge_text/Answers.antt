use Rattle.std.proofs.Common.{◌++◌, List, reverse, sym, ap, subst, ◌∙◌}
use Rattle.mc_model.specs.declared.run.Run.{Run}
use Rattle.mc_model.specs.Runs.{expand}
use Rattle.trace_judge.proofs.Watching.{said_of}
use Rattle.trace_commands.specs.JudgedText.{IsMonitorOf}
use Rattle.trace_commands.specs.OnTrace.{is_good}
use Rattle.trace_commands.proofs.GoodTrace.{good_ticks}
use Rattle.trace_commands.proofs.JudgedText.{seen_more}
use Rattle.trace_commands.proofs.judged_text.judge_text.Goals as goal

pub follow_all-requires : goal.follow_all-requires
follow_all-requires c =
    let read = c.in_ok-read_runs.ensures.runs.2 in
    record {
      runs = rw c.deref.ensures.value read.valid;
      tasks = rw (c.deref.ensures.value, read.judged.same_tasks) read.of_set;
      room = rw c.deref.ensures.value read.room;
    }

pub returns-in-Ok-follow_all : goal.returns-in-Ok-follow_all
returns-in-Ok-follow_all c =
    let tasks = c.args.set.now.tasks in
    let read = c.in_ok-read_runs.ensures.runs in
    let has = read.2 in
    let items = c.read_runs.new.runs.runs.items in
    let m = c.follow_all.new.self in
    let all = seen_more tasks c.args.rule has.first items c.read_runs.new.runs.monitor m has.judged c.follow_all.ensures.set c.follow_all.ensures.rule (rw c.deref.ensures.value at c.in-Ok-follow_all.ensures.rows) in
    let is = subst (λ (runs : List Run). IsMonitorOf tasks c.args.rule runs m) (sym has.split) all in
    let said = said_of (reverse (expand read.0)) m c.verdict.result is.seen_rows c.verdict.ensures.verdict tasks c.args.rule is.same_tasks is.same_rule in (
      read.0,
      read.1,
      (
        said,
        λ good. good_ticks tasks c.args.rule read.0 m c.ticks.result is (ap is_good (sym said) ∙ good) c.ticks.ensures,
        λ kept. sym (has.split ∙ ap (λ (xs : List Run). xs ++ items) (has.keeps kept)),
      ),
    )
