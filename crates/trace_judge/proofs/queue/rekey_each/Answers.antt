use Rattle.std.proofs.Common.{◌≡◌, ℕ, suc, ◌+◌, ◌<◌, ◌++◌, List, Some, length, map, take, drop, get_or, set, true, deque_len, sym, ap, ◌∙◌, subst, arith, rules}
use Rattle.std.specs.List.{AllByRecursion}
use Rattle.std.proofs.lemmas.List.{length-map, get_or_read}
use Rattle.std.proofs.Math.ListN.{get_or-map}
use Rattle.mc_model.specs.Key.{key_of}
use Rattle.trace_judge.specs.declared.queue.Queued.{Queued}
use Rattle.trace_judge.specs.Heads.{no_key}
use Rattle.trace_judge.specs.Queues.{rekeyed_job}
use Rattle.trace_judge.proofs.Switched.{half_step, half_at, half_length, all_step}
use Rattle.trace_judge.proofs.queue.rekey_each.Goals as goal

-- the job with this key
abbrev with_key : Queued → ℕ → Queued
with_key q k = record { key = k; count = q.count; pending = q.pending }

pub loop-position-preserved : goal.loop-position-preserved
loop-position-preserved c =
    let f : Queued → Queued = rekeyed_job c.args.rule (Some c.args.task.now) in
    let xs : List Queued = c.args.jobs.now.items in
    let ss : List Queued = map f xs in
    let i : ℕ = c.loop-position.position in
    let before = c.loop-position.invariant in
    let q : Queued = c.index_mut.result.now in
    let same : length ss ≡ length xs = length-map xs f in
    let many : deque_len c.args.jobs.now ≡ length xs = search rules in
    let inside : i < length xs = omega (arith, c.loop-position-test.true, c.len-position-end.ensures, many) in
    let there : i < length c.loop-position.jobs.items = omega (arith, inside, half_length ss xs i same, ap length before.0) in
    let old : q ≡ get_or xs i q = c.index_mut.ensures.value ∙ (ap (λ (ys : List Queued). get_or ys i q) before.0 ∙ half_at ss xs i q same) in
    let read : c.index.result.now ≡ q = get_or_read c.loop-position.jobs.items i c.index.result.now there c.index.ensures q ∙ sym c.index_mut.ensures.value in
    let key : c.key_at.result ≡ key_of c.args.rule true (Some c.args.task.now) q.pending.release = c.key_at.ensures.key ∙ ap (λ (r : Queued). key_of c.args.rule true (Some c.args.task.now) r.pending.release) read in
    let new : with_key q c.key_at.result ≡ get_or ss i (f q) = ap (with_key q) key ∙ (ap f old ∙ sym (get_or-map f xs i q)) in
    let next : suc i ≡ i + 1 = omega arith in (
      ap (λ (ys : List Queued). set ys i (with_key q c.key_at.result)) before.0
          ∙ (ap (λ (x : Queued). set (take i ss ++ drop i xs) i x) new
          ∙ (half_step ss xs i (f q) same inside ∙ ap (λ (n : ℕ). take n ss ++ drop n xs) next)),
      subst (λ (n : ℕ). AllByRecursion (λ (x : Queued). x.key < no_key) (take n ss)) next
          (all_step (λ (x : Queued). x.key < no_key) ss i (f q) (omega (arith, inside, same)) before.1 (subst (λ (x : Queued). x.key < no_key) new c.key_at.ensures.below)),
      before.2,
    )
