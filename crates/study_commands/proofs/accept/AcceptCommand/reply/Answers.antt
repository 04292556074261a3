use Rattle.std.proofs.Common.{◌≡◌, ℕ, length, refl, ap, arith}
use Rattle.study.specs.Acceptance.{percentages, accept_table}
use Rattle.study_commands.proofs.accept.AcceptCommand.reply.Goals as goal

-- a table has eleven counts
table-length : (number sets n : ℕ) → length (accept_table number sets n) ≡ 11
unfolding accept_table percentages
table-length number sets n = refl

pub table_text-requires : goal.table_text-requires
table_text-requires g c =
    omega (arith, ap length c.deref.ensures.value, ap length c.in_ok-counts.ensures.counts, table-length c.args.self.now.number c.get.result c.get-2.result)
