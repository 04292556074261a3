use Rattle.std.proofs.Common.{rules}
use Rattle.command_line.specs.Form.{form_in}
use Rattle.edfvd_program.proofs.Outcomes.{answers, kept, calm_outcome}
use Rattle.promises.proofs.Promises.{no_memory_keeps}
use Rattle.edfvd_program.proofs.edfvd.edfvd.Goals as goal

pub returns-in-Ok-clause-outcome : goal.returns-in-Ok-clause-outcome
returns-in-Ok-clause-outcome g c = search rules

pub returns-in-Ok-clause-answer : goal.returns-in-Ok-clause-answer
returns-in-Ok-clause-answer g c = answers c.in-Ok.ensures.reply c.deliver.ensures

pub returns-in-Ok-clause-headline : goal.returns-in-Ok-clause-headline
returns-in-Ok-clause-headline g c files old exposes written calm =
    (kept c.in-Ok.ensures.range c.in-Ok.ensures.reply c.deliver.ensures files old exposes written calm).0

pub returns-in-Ok-clause-right_text : goal.returns-in-Ok-clause-right_text
returns-in-Ok-clause-right_text g c files old exposes written calm =
    (kept c.in-Ok.ensures.range c.in-Ok.ensures.reply c.deliver.ensures files old exposes written calm).1

pub returns-in-Ok-clause-complete : goal.returns-in-Ok-clause-complete
returns-in-Ok-clause-complete g c files old exposes written calm =
    (kept c.in-Ok.ensures.range c.in-Ok.ensures.reply c.deliver.ensures files old exposes written calm).2

pub returns-in-Ok-clause-tested : goal.returns-in-Ok-clause-tested
returns-in-Ok-clause-tested g c files old exposes written calm =
    (kept c.in-Ok.ensures.range c.in-Ok.ensures.reply c.deliver.ensures files old exposes written calm).3

pub returns-in-Ok-clause-calm_shelf : goal.returns-in-Ok-clause-calm_shelf
returns-in-Ok-clause-calm_shelf g c = calm_outcome c.in-Ok.ensures.reply c.deliver.ensures

pub returns-in-Err-clause-headline : goal.returns-in-Err-clause-headline
returns-in-Err-clause-headline g c files old exposes written calm = (no_memory_keeps (form_in c.args.call.now.words.now) files old (g.K.Sink.state c.args.call.now.out).written).0

pub returns-in-Err-clause-right_text : goal.returns-in-Err-clause-right_text
returns-in-Err-clause-right_text g c files old exposes written calm = (no_memory_keeps (form_in c.args.call.now.words.now) files old (g.K.Sink.state c.args.call.now.out).written).1

pub returns-in-Err-clause-complete : goal.returns-in-Err-clause-complete
returns-in-Err-clause-complete g c files old exposes written calm = (no_memory_keeps (form_in c.args.call.now.words.now) files old (g.K.Sink.state c.args.call.now.out).written).2

pub returns-in-Err-clause-tested : goal.returns-in-Err-clause-tested
returns-in-Err-clause-tested g c files old exposes written calm = (no_memory_keeps (form_in c.args.call.now.words.now) files old (g.K.Sink.state c.args.call.now.out).written).3
