use Rattle.std.proofs.Common.{refl, sym, ◌∙◌}
use Rattle.csv_records.proofs.WidthLemmas.{goes_on, ends_field, ends_record}
use Rattle.csv_records.proofs.width.counted.Goals as goal

pub returns-in-Nothing : goal.returns-in-Nothing
returns-in-Nothing c text i byte counts =
    goes_on text i c.args.b c.args.count _ byte counts (sym c.step-state.ensures.ends ∙ c.in-Nothing.is) c.step-state.ensures.state refl refl

pub returns-in-Field : goal.returns-in-Field
returns-in-Field c text i byte counts =
    ends_field text i c.args.b c.args.count _ byte counts (sym c.step-state.ensures.ends ∙ c.in-Field.is) c.step-state.ensures.state refl refl

pub returns-in-Record : goal.returns-in-Record
returns-in-Record c text i byte counts =
    ends_record text i c.args.b c.args.count _ byte counts (sym c.step-state.ensures.ends ∙ c.in-Record.is) c.step-state.ensures.state refl refl
