use Rattle.std.proofs.Common.{rules, arith, ◌≡◌, ◌+◌, ◌-◌, ◌<◌, Option, All, length, vec_len, sym, subst}
use Rattle.std.specs.Prelude.{MatchOption}
use Rattle.std.proofs.lemmas.List.Elements.{All-take}
use Rattle.status_board.specs.declared.tokens.Watcher.{Watcher}
use Rattle.executive.specs.Watching.{IsWatcherOf}
use Rattle.task_threads.proofs.tests.apart.opened.Goals as goal

pub make_runners-requires-clause-watchers : goal.make_runners-requires-clause-watchers
make_runners-requires-clause-watchers g c =
    let e = c.in-Ok.executive in
    let watchers = c.in-Ok.watchers in
    let ours : All (λ (w : Watcher). IsWatcherOf e w) watchers.items = λ k d inside. (c.in-Ok.ensures.watchers.1 k d inside).0 in
    let one_less : vec_len c.pop.new.self + 1 ≡ vec_len watchers =
    subst (λ (o : Option Watcher). MatchOption o ((vec_len watchers ≡ 0) × (vec_len c.pop.new.self ≡ 0)) (λ _. vec_len c.pop.new.self + 1 ≡ vec_len watchers)) c.unwrap-watcher.ensures c.pop.ensures.cases in
    let two : vec_len c.in-Ok.passes ≡ 2 = search rules in
    rw c.quietly-serving.ensures (
      omega (arith, one_less, c.in-Ok.ensures.watchers.0, two),
      subst (All (λ (w : Watcher). IsWatcherOf e w)) (sym c.pop.ensures.rest) (All-take (λ (w : Watcher). IsWatcherOf e w) (vec_len watchers - 1) watchers.items ours),
    )

pub returns-clause-watcher : goal.returns-clause-watcher
returns-clause-watcher g c =
    let watchers = c.in-Ok.watchers in
    let last = c.unwrap-watcher.result in
    let there : 0 < vec_len watchers = omega (arith, c.in-Ok.ensures.watchers.0) in
    let inside : vec_len watchers - 1 < length watchers.items = omega (arith, there, watchers.ok.0) in
    subst (λ (o : Option Watcher). MatchOption o (vec_len watchers ≡ 0) (IsWatcherOf c.in-Ok.executive)) c.unwrap-watcher.ensures
    (subst (λ (o : Option Watcher). MatchOption o (vec_len watchers ≡ 0) (IsWatcherOf c.in-Ok.executive)) (sym (c.pop.ensures.value last there)) (c.in-Ok.ensures.watchers.1 (vec_len watchers - 1) last inside).0)
