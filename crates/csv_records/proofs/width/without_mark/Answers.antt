use Rattle.std.proofs.Common.{Bool, cond, drop, sym, ap, ◌∙◌}
use Rattle.csv_records.proofs.WidthLemmas.{stripped, from_third}
use Rattle.csv_records.proofs.width.without_mark.Goals as goal

pub returns-then-has_mark : goal.returns-then-has_mark
returns-then-has_mark c =
    from_third c.args.text.now
    ∙ sym (stripped c.args.text.now ∙ ap (λ (b : Bool). cond b (drop 3 c.args.text.now) c.args.text.now) (sym c.has_mark.ensures.mark ∙ c.if-has_mark.true))

pub returns-else-has_mark : goal.returns-else-has_mark
returns-else-has_mark c =
    sym (stripped c.args.text.now ∙ ap (λ (b : Bool). cond b (drop 3 c.args.text.now) c.args.text.now) (sym c.has_mark.ensures.mark ∙ c.if-has_mark.false))
