use Rattle.std.proofs.Common.{◌≡◌, ◌∷◌, Ok, Some, ap, ◌∙◌}
use Rattle.csv.specs.Records.{fields_of}
use Rattle.csv_records.specs.Width.{KnowsWide}
use Rattle.csv_records.proofs.WidthLemmas.{one_fewer}
use Rattle.csv_records.proofs.records.Records.next.Goals as goal
use Rattle.csv_records.proofs.records.Records.next.Goals.{in-Some+else-count-eq0, in_default}

pub invariant_of-self : goal.invariant_of-self
invariant_of-self c =
    elim c.match-self.branch [
      | in-Some+else-count-eq0 w ↦
          let known : KnowsWide (Some w.in-Some.count) c.self.inside.all = rw w.in-Some.is at c.self.invariant in
          let first : c.self.inside.all ≡ fields_of c.next.new.fields ∷ c.next.new.self = rw w.self-inside-is at (c.next.ensures.record (c.in-Ok-true.is ∙ ap Ok c.in-Ok-true.field-0-test)) in
          rw w.self-inside-is (one_fewer w.in-Some.count (fields_of c.next.new.fields) c.next.new.self w.if-count-eq0.false (rw first at known))
      | in_default w ↦ search (w.self-inside-is, w.in_default.is)
    ]
