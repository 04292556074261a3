use Rattle.std.proofs.Common.{◌∷◌, Bool, sym, ap, ◌∙◌}
use Rattle.csv.specs.Records.{fields_of}
use Rattle.csv_records.specs.Left.{records_left}
use Rattle.csv_records.proofs.RecordLemmas.{taken, ended}
use Rattle.csv_records.proofs.all.AllRecords.next.Goals as goal

pub returns-in-Ok-true-clause-record : goal.returns-in-Ok-true-clause-record
returns-in-Ok-true-clause-record c found =
    let gives = c.self.invariant c.if-self.false in
    let read = rw c.in-Ok-true.field-0-test at (c.in-Ok-true.ensures.reads gives.trim gives.ready) in
    let fields = fields_of c.read_byte_record.new.row in
    sym c.self.view_is
    ∙ (ap (λ (b : Bool). records_left b c.self.inside.reader) c.if-self.false
    ∙ (taken c.self.inside.reader c.read_byte_record.new.self fields gives read ∙ ap (λ (b : Bool). fields ∷ records_left b c.read_byte_record.new.self) (sym c.if-self.false)))

pub returns-in-Ok-false-clause-none : goal.returns-in-Ok-false-clause-none
returns-in-Ok-false-clause-none c found =
    let gives = c.self.invariant c.if-self.false in
    let read = rw c.in-Ok-false.field-0-test at (c.in-Ok-false.ensures.reads gives.trim gives.ready) in
    sym c.self.view_is
    ∙ (ap (λ (b : Bool). records_left b c.self.inside.reader) c.if-self.false ∙ ended c.self.inside.reader c.read_byte_record.new.self (fields_of c.read_byte_record.new.row) gives read)
