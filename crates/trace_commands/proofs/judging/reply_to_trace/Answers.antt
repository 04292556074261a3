use Rattle.std.proofs.Common.{List, reverse, sym, ap, ◌∙◌, rules}
use Rattle.mc_model.specs.declared.run.Run.{Run}
use Rattle.mc_model.specs.Rows.{ticks}
use Rattle.mc_model.specs.Runs.{expand}
use Rattle.trace_commands.specs.JudgedText.{needs_runs}
use Rattle.trace_commands.proofs.GoodTrace.{kept_valid, kept_of_set, kept_trace}
use Rattle.trace_commands.proofs.judging.reply_to_trace.Goals as goal

pub chart_reply-requires : goal.chart_reply-requires
chart_reply-requires c =
    let kept = c.deref.ensures.value ∙ c.in-Ok.ensures.2.2 (c.needs_runs-keeps_runs.ensures ∙ ap needs_runs c.in-Chart.is) in
    let good = sym c.is_good.ensures ∙ c.if-not-is_good.false in
    record {
      ticks = c.in-Ok.ensures.2.1 good ∙ ap (λ (runs : List Run). ticks (reverse (expand runs))) (sym kept);
      runs = kept_valid c.args.ruled.now.set.tasks c.args.bytes.now c.in-Ok.ensures.0 _ c.in-Ok.ensures.1 kept;
      trace = kept_trace c.args.ruled.now.set.tasks c.args.ruled.now.rule c.args.bytes.now c.in-Ok.ensures.0 _ c.in-Ok.judged.0 c.requires c.in-Ok.ensures.1 kept c.in-Ok.ensures.2.0 good;
    }

pub report-requires : goal.report-requires
report-requires c =
    let kept = c.deref-in-Report.ensures.value ∙ c.in-Ok.ensures.2.2 (c.needs_runs-keeps_runs.ensures ∙ ap needs_runs c.in-Report.is) in
    let good = sym c.is_good.ensures ∙ c.if-not-is_good.false in
    record {
      runs = kept_valid c.args.ruled.now.set.tasks c.args.bytes.now c.in-Ok.ensures.0 _ c.in-Ok.ensures.1 kept;
      trace = kept_trace c.args.ruled.now.set.tasks c.args.ruled.now.rule c.args.bytes.now c.in-Ok.ensures.0 _ c.in-Ok.judged.0 c.requires c.in-Ok.ensures.1 kept c.in-Ok.ensures.2.0 good;
    }

pub merged_text-requires : goal.merged_text-requires
merged_text-requires c =
    let kept = c.deref-in-Migrate.ensures.value ∙ c.in-Ok.ensures.2.2 (c.needs_runs-keeps_runs.ensures ∙ ap needs_runs c.in-Migrate.is) in
    record {
      runs = kept_valid c.args.ruled.now.set.tasks c.args.bytes.now c.in-Ok.ensures.0 _ c.in-Ok.ensures.1 kept;
      tasks = kept_of_set c.args.ruled.now.set.tasks c.args.bytes.now c.in-Ok.ensures.0 _ c.in-Ok.ensures.1 kept;
    }

pub returns-then-not-is_good-clause-reply : goal.returns-then-not-is_good-clause-reply
returns-then-not-is_good-clause-reply c = search rules
