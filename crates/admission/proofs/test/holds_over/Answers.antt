use Rattle.std.proofs.Common.{arith}
use Rattle.admission.proofs.Numbers.{AtMostOne-from_holds}
use Rattle.admission.proofs.test.holds_over.Goals as goal
use Rattle.admission.proofs.test.holds_over.Goals.{then-n-a-via-then-n-a, then-n-a-via-else-n-a+then-n-b, then-n-a-via-else-n-a+else-n-b+then-n-c}

pub returns-then-n-a : goal.returns-then-n-a
returns-then-n-a c = (
  λ wrong. absurd (cc wrong),
  λ holds.
      let most = AtMostOne-from_holds c.args.n c.args.a c.args.b c.args.c c.args.p c.args.q holds in
      elim c.then-n-a.branch [
        | then-n-a-via-then-n-a w ↦ absurd (omega arith)
        | then-n-a-via-else-n-a+then-n-b w ↦ absurd (omega arith)
        | then-n-a-via-else-n-a+else-n-b+then-n-c w ↦ absurd (omega arith)
      ],
)
