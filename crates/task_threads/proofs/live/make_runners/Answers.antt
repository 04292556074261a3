use Rattle.std.proofs.Common.{rules, arith, ◌≡◌, ℕ, ◌+◌, ◌-◌, [], ◌∷◌, ◌++◌, Option, All, length, vec_len, sym, subst}
use Rattle.std.specs.Prelude.{MatchOption}
use Rattle.std.proofs.lemmas.List.{length-append}
use Rattle.std.proofs.lemmas.List.Elements.{All-take}
use Rattle.status_board.specs.declared.tokens.Watcher.{Watcher}
use Rattle.executive.specs.Watching.{IsWatcherOf}
use Rattle.task_threads.specs.LivePasses.{IsRunner}
use Rattle.task_threads.specs.Workers.{AreInOrder}
use Rattle.task_threads.proofs.InOrder.{one_more}
use Rattle.task_threads.proofs.live.make_runners.Goals as goal

pub loop-pass-preserved : goal.loop-pass-preserved
loop-pass-preserved g c =
    let e = c.args.serving.now.executive.now in
    let kept = c.loop-pass.invariant in
    let before = c.loop-pass.runners in
    let watchers = c.loop-pass.watchers in
    let runner = c.first_runner.result in
    let at : c.len-position.result ≡ length before.items = omega (arith, c.len-position.ensures, before.ok.0) in
    let last : IsRunner e (length before.items + 1) runner = subst (λ (n : ℕ). IsRunner e (n + 1) runner) at c.first_runner.ensures in
    let one_more_yielded : length (c.loop-pass.yielded ++ c.in-Some.pass ∷ []) ≡ length c.loop-pass.yielded + 1 = length-append c.loop-pass.yielded (c.in-Some.pass ∷ []) in
    let one_less : vec_len c.pop.new.self + 1 ≡ vec_len watchers =
    subst (λ (o : Option Watcher). MatchOption o ((vec_len watchers ≡ 0) × (vec_len c.pop.new.self ≡ 0)) (λ _. vec_len c.pop.new.self + 1 ≡ vec_len watchers)) c.unwrap-watcher.ensures c.pop.ensures.cases in
    record {
      len = omega (arith, c.push_reserved.ensures.len, kept.len, one_more_yielded);
      watchers = subst (All (λ (w : Watcher). IsWatcherOf e w)) (sym c.pop.ensures.rest) (All-take (λ (w : Watcher). IsWatcherOf e w) (vec_len watchers - 1) watchers.items kept.watchers);
      left = omega (arith, one_less, kept.left, one_more_yielded);
      room = search rules;
      runners = subst (AreInOrder IsRunner e) (sym c.push_reserved.ensures.items) (one_more IsRunner e before.items runner kept.runners last);
    }
