use Rattle.std.proofs.Common.{◌≡◌, ◌+◌, get_or, sym, ◌∙◌, arith, rules}
use Rattle.std.specs.Ordering.{is_lt, nat_cmp, ordering_then}
use Rattle.std.proofs.lemmas.Bool.Decides.{nat_tests}
use Rattle.std.proofs.lemmas.List.Sorted.{answers_always}
use Rattle.trace_judge.specs.declared.turned.Turned.{Turned}
use Rattle.trace_judge.specs.Turned.{comes_first}
use Rattle.trace_judge.proofs.turned.put_in_order.Goals as goal

-- two jobs in the order of their pairs of deadline and row
pairs : (a b : Turned) → is_lt (ordering_then (nat_cmp a.deadline b.deadline) (nat_cmp a.rows_before b.rows_before)) ≡ comes_first a b
pairs a b = grind (arith, nat_tests)

pub returns-clause-order : goal.returns-clause-order
returns-clause-order c k d low high =
    let ts = c.sort_unstable_by_key.new.self.items in
    sym (pairs (get_or ts (k + 1) d) (get_or ts k d))
    ∙ c.sort_unstable_by_key.ensures.sorted (λ t. (t.deadline, t.rows_before)) (answers_always _ _ _ (λ f a r f' k. search rules)) k d low high
