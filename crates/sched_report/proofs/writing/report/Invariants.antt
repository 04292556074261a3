use Rattle.std.proofs.Common.{◌≡◌, ◌+◌, ◌++◌, [], ◌∷◌, codes, decimal, drop, reverse}
use Rattle.std.specs.List.{concat}
use Rattle.mc_model.specs.Runs.{expand}
use Rattle.sched_report.specs.ReportText.{how_many, is_idle, is_switch, report_lines, report_text}
use Rattle.sched_report.proofs.writing.report.Given as goal

abbrev pub invariant-loop-i : goal.invariant-loop-i
invariant-loop-i l =
    l.text.items
    ++ (report_lines l.set.tasks (reverse (expand l.runs)) (l.i + 1) (drop l.i l.set.tasks)
    ++ concat (codes "idle " ∷ decimal (how_many is_idle (reverse (expand l.runs))) ∷ codes "\nswitches " ∷ decimal (how_many is_switch (reverse (expand l.runs))) ∷ codes "\n" ∷ []))
    ≡ report_text l.set.tasks (reverse (expand l.runs))
