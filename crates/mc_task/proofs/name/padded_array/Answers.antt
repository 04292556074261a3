use Rattle.std.proofs.Common.{◌++◌, length, ap}
use Rattle.std.proofs.lemmas.List.{drop-replicate}
use Rattle.mc_task.specs.Name.{padded}
use Rattle.mc_task.proofs.name.padded_array.Goals as goal

pub returns : goal.returns
unfolding padded
returns c = rw c.copy_from_slice.ensures.after (ap (λ t. c.args.bytes.now ++ t) (drop-replicate (length c.args.bytes.now) 32 0))
