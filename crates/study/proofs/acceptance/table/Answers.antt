use Rattle.study.proofs.Counts.{parts-add, accepted-admitted}
use Rattle.study.proofs.acceptance.table.Goals as goal

pub returns-clause-parts : goal.returns-clause-parts
returns-clause-parts g c = parts-add

pub returns-clause-admitted : goal.returns-clause-admitted
returns-clause-admitted g c = accepted-admitted

pub returns-in_err-pieces-clause-parts : goal.returns-in_err-pieces-clause-parts
returns-in_err-pieces-clause-parts g c = parts-add

pub returns-in_err-pieces-clause-admitted : goal.returns-in_err-pieces-clause-admitted
returns-in_err-pieces-clause-admitted g c = accepted-admitted

pub returns-in_err-to_vec-clause-parts : goal.returns-in_err-to_vec-clause-parts
returns-in_err-to_vec-clause-parts g c = parts-add

pub returns-in_err-to_vec-clause-admitted : goal.returns-in_err-to_vec-clause-admitted
returns-in_err-to_vec-clause-admitted g c = accepted-admitted
