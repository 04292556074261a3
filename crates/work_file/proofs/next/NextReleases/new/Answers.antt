use Rattle.std.proofs.lemmas.List.{get_or-replicate}
use Rattle.work_file.proofs.next.NextReleases.new.Goals as goal

pub returns : goal.returns
returns c set i h = get_or-replicate 128 i 0 0 h
