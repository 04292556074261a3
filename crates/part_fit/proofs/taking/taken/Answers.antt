use Rattle.std.proofs.Common.{refl}
use Rattle.part_fit.proofs.LoadSums.{next-BelongTo, next-past, fits-answer, admitted-AreSmall}
use Rattle.part_fit.proofs.taking.taken.Goals as goal

pub returns-in_err-more-clause-exactly : goal.returns-in_err-more-clause-exactly
returns-in_err-more-clause-exactly c = λ tasks next. rw c.from_residual.ensures (next-past next (c.in_err-more.ensures.none.0 refl))

pub admit-requires : goal.admit-requires
admit-requires c = record { tasks = _; belong = (next-BelongTo c.requires.next.next c.in_ok-more.ensures.some c.in_ok-more.ensures.within).0 }

pub returns-then-is_some-clause-exactly : goal.returns-then-is_some-clause-exactly
returns-then-is_some-clause-exactly c = λ tasks next.
    let both = next-BelongTo next c.in_ok-more.ensures.some c.in_ok-more.ensures.within in
    (fits-answer both.0 (c.admit.ensures.published _ both.0) c.if-is_some.ensures, both.1)

pub returns-then-is_some-clause-small : goal.returns-then-is_some-clause-small
returns-then-is_some-clause-small c =
    let both = next-BelongTo c.requires.next.next c.in_ok-more.ensures.some c.in_ok-more.ensures.within in
    admitted-AreSmall both.0 (c.admit.ensures.published _ both.0) c.if-is_some.ensures

pub returns-else-is_some-clause-exactly : goal.returns-else-is_some-clause-exactly
returns-else-is_some-clause-exactly c = λ tasks next.
    let both = next-BelongTo next c.in_ok-more.ensures.some c.in_ok-more.ensures.within in
    fits-answer both.0 (c.admit.ensures.published _ both.0) c.if-is_some.ensures
