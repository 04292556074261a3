use Rattle.std.proofs.Common.{arith}
use Rattle.virtual_key.proofs.key.Goals as goal

pub overflow_mul-result : goal.overflow_mul-result
overflow_mul-result c = grind arith
