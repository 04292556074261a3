use Rattle.std.proofs.Common.{◌≡◌, ℕ, List, Bor, map, take}
use Rattle.std.specs.Prelude.{All, IsUtf8}
use Rattle.in_process.proofs.asked.texts.Given as goal

abbrev pub invariant-loop-word : goal.invariant-loop-word
invariant-loop-word l = record {
  same : map (λ (t : Bor (List ℕ)). t.now) l.texts.items ≡ take l.word-index (map (λ (w : Bor (List ℕ)). w.now) l.fn.words);
  utf8 : All IsUtf8 (map (λ (t : Bor (List ℕ)). t.now) l.texts.items);
}
