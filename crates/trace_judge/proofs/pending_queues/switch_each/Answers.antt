use Rattle.std.proofs.Common.{◌≡◌, ℕ, suc, ◌+◌, ◌<◌, ◌≤◌, ◌++◌, List, length, take, drop, get_or, set, sym, ap, ◌∙◌, subst, arith, rules, append-nil}
use Rattle.std.specs.Vec.{vec_len}
use Rattle.std.proofs.lemmas.List.{length-map, take_all, drop_all}
use Rattle.mc_task.specs.declared.task.Rule.{Rule}
use Rattle.mc_task.specs.declared.task.Task.{Task}
use Rattle.mc_task.specs.TaskSet.{task_at}
use Rattle.trace_judge.specs.declared.queue.Queued.{Queued}
use Rattle.trace_judge.specs.Queues.{AreKeyed, head_key, switched_queue, switched_from}
use Rattle.trace_judge.proofs.Queues.{queues_set}
use Rattle.trace_judge.proofs.Switched.{half_step, half_at, half_length, set_at, switched_length, switched_at, keyed_at}
use Rattle.trace_judge.proofs.pending_queues.switch_each.Goals as goal

-- there are as many queues as before the loop
same_many : (set : List Task) (rule : Rule) (old now : List (List Queued)) (i : ℕ) → now ≡ take i (switched_from set rule 1 old) ++ drop i old → length now ≡ length old
same_many set rule old now i e = ap length e ∙ half_length (switched_from set rule 1 old) old i (switched_length set rule 1 old)

pub index_mut-requires : goal.index_mut-requires
index_mut-requires c =
    let old : vec_len c.args.queues.now ≡ length c.args.queues.now.items = search rules in
    let new : vec_len c.loop-index.queues ≡ length c.loop-index.queues.items = search rules in
    omega (arith, c.loop-index-test.true, c.len-index-end.ensures, old, new, same_many c.args.set.now.tasks c.args.rule c.args.queues.now.items c.loop-index.queues.items c.loop-index.index c.loop-index.invariant.0)

pub switch-requires-clause-keyed : goal.switch-requires-clause-keyed
switch-requires-clause-keyed c =
    let qs : List (List Queued) = c.args.queues.now.items in
    let ss : List (List Queued) = switched_from c.args.set.now.tasks c.args.rule 1 qs in
    let i : ℕ = c.loop-index.index in
    let queue : List Queued = c.index_mut.result.now in
    let old : vec_len c.args.queues.now ≡ length qs = search rules in
    let inside : i < length qs = omega (arith, c.loop-index-test.true, c.len-index-end.ensures, old) in
    let here : queue ≡ get_or qs i queue = c.index_mut.ensures.value ∙ (ap (λ ys. get_or ys i queue) c.loop-index.invariant.0 ∙ half_at ss qs i queue (switched_length c.args.set.now.tasks c.args.rule 1 qs)) in
    let number : 1 + i ≡ i + 1 = omega arith in
    let keyed = keyed_at c.args.set.now.tasks c.args.rule c.requires.keyed.0 1 qs i queue inside c.requires.keyed.1 in (
      c.requires.keyed.0,
      rw (c.get.ensures.value) (subst (λ (n : ℕ). AreKeyed c.args.rule c.requires.keyed.0 (task_at c.args.set.now.tasks n) queue) number
          (subst (λ (q : List Queued). AreKeyed c.args.rule c.requires.keyed.0 (task_at c.args.set.now.tasks (1 + i)) q) (sym here) keyed)),
    )

pub index-requires : goal.index-requires
index-requires c =
    let old : vec_len c.args.queues.now ≡ length c.args.queues.now.items = search rules in
    let new : vec_len c.loop-index.queues ≡ length c.loop-index.queues.items = search rules in
    omega (arith, c.loop-index-test.true, c.len-index-end.ensures, old, new, same_many c.args.set.now.tasks c.args.rule c.args.queues.now.items c.loop-index.queues.items c.loop-index.index c.loop-index.invariant.0)

pub set-requires : goal.set-requires
set-requires c =
    let old : vec_len c.args.queues.now ≡ length c.args.queues.now.items = search rules in
    omega (
      arith,
      c.loop-index-test.true,
      c.len-index-end.ensures,
      old,
      same_many c.args.set.now.tasks c.args.rule c.args.queues.now.items c.loop-index.queues.items c.loop-index.index c.loop-index.invariant.0,
      ap length c.loop-index.invariant.1.heads_are,
      length-map c.loop-index.queues.items head_key,
    )

pub loop-index-preserved : goal.loop-index-preserved
loop-index-preserved c =
    let tasks = c.args.set.now.tasks in
    let qs : List (List Queued) = c.args.queues.now.items in
    let ss : List (List Queued) = switched_from tasks c.args.rule 1 qs in
    let i : ℕ = c.loop-index.index in
    let queue : List Queued = c.index_mut.result.now in
    let old : vec_len c.args.queues.now ≡ length qs = search rules in
    let inside : i < length qs = omega (arith, c.loop-index-test.true, c.len-index-end.ensures, old) in
    let same = switched_length tasks c.args.rule 1 qs in
    let here : queue ≡ get_or qs i queue = c.index_mut.ensures.value ∙ (ap (λ ys. get_or ys i queue) c.loop-index.invariant.0 ∙ half_at ss qs i queue same) in
    let number : i + 1 ≡ 1 + i = omega arith in
    let there : i < length c.loop-index.queues.items = omega (arith, inside, same_many tasks c.args.rule qs c.loop-index.queues.items i c.loop-index.invariant.0) in
    let head : c.index.result.now ≡ c.switch.new.self = c.index.ensures ∙ set_at c.loop-index.queues.items i c.switch.new.self c.index.result.now there in
    let next : suc i ≡ i + 1 = omega arith in
    let new : c.switch.new.self ≡ get_or ss i queue =
    c.switch.ensures.jobs
    ∙ (ap (λ o. switched_queue c.args.rule o queue) (c.get.ensures.value ∙ ap (task_at tasks) number)
    ∙ (ap (switched_queue c.args.rule (task_at tasks (1 + i))) here ∙ sym (switched_at tasks c.args.rule 1 qs i queue queue inside))) in (
      ap (λ ys. set ys i c.switch.new.self) c.loop-index.invariant.0
          ∙ (ap (λ q. set (take i ss ++ drop i qs) i q) new ∙ (half_step ss qs i queue same inside ∙ ap (λ (n : ℕ). take n ss ++ drop n qs) next)),
      queues_set c.loop-index.queues.items c.loop-index.heads c.set.new.self i c.head_key.result c.switch.new.self c.loop-index.invariant.1 c.switch.ensures.ordered c.set.ensures (c.head_key.ensures ∙ ap head_key head),
    )

pub returns-clause-items : goal.returns-clause-items
returns-clause-items c =
    let qs : List (List Queued) = c.args.queues.now.items in
    let ss : List (List Queued) = switched_from c.args.set.now.tasks c.args.rule 1 qs in
    let i : ℕ = c.loop-index.index in
    let old : vec_len c.args.queues.now ≡ length qs = search rules in
    let past : length qs ≤ i = omega (arith, c.loop-index-test.false, c.len-index-end.ensures, old) in
    c.loop-index.invariant.0
    ∙ (ap (λ ys. ys ++ drop i qs) (take_all i ss (omega (arith, past, switched_length c.args.set.now.tasks c.args.rule 1 qs)))
    ∙ (ap (λ ys. ss ++ ys) (drop_all i qs past) ∙ append-nil ss))
