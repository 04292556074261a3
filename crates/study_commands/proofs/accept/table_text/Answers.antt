use Rattle.std.proofs.Common.{◌≡◌, ℕ, ◌+◌, ◌≤◌, List, ◌∷◌, ◌++◌, drop, length, sym, ap, ◌∙◌, codes, decimal, arith}
use Rattle.std.proofs.lemmas.List.{drop_all, append_assoc, append-nil, drop_more}
use Rattle.study_commands.specs.Accept.{lines_from}
use Rattle.study_commands.proofs.accept.table_text.Goals as goal

-- after the line of a count, the lines of the counts after it are left to write
lines-more : (counts : List ℕ) (i s count : ℕ) (text line more all : List ℕ) → drop i counts ≡ count ∷ drop (i + 1) counts
    → line ≡ decimal s ++ (codes " " ++ (decimal count ++ codes "\n")) → more ≡ text ++ line → text ++ lines_from s (drop i counts) ≡ all
    → more ++ lines_from (s + 10) (drop (i + 1) counts) ≡ all
lines-more counts i s count text line more all here is longer inv =
    ap (λ l. l ++ lines_from (s + 10) (drop (i + 1) counts)) (longer ∙ ap (λ l. text ++ l) is)
    ∙ append_assoc text (decimal s ++ (codes " " ++ (decimal count ++ codes "\n"))) (lines_from (s + 10) (drop (i + 1) counts))
    ∙ ap (λ l. text ++ lines_from s l) (sym here) ∙ inv

-- after the line of the last count all lines are written
lines-end : (counts : List ℕ) (i s : ℕ) (text all : List ℕ) → length counts ≤ i → text ++ lines_from s (drop i counts) ≡ all → text ≡ all
lines-end counts i s text all past inv = sym (append-nil text) ∙ ap (λ l. text ++ lines_from s l) (sym (drop_all i counts past)) ∙ inv

pub loop-count-preserved : goal.loop-count-preserved
loop-count-preserved c =
    let i = c.loop-count.count-index in
    record {
      text = lines-more c.args.counts.now i c.loop-count.s _ c.loop-count.text.items c.as_bytes.result.now c.extend_from_slice.new.self.items _
          (drop_more c.args.counts.now i _ c.loop-count-test.true) (c.as_bytes.ensures.value ∙ c.in_ok-line.ensures.ok) c.in_ok-extend_from_slice.ensures.items c.loop-count.invariant.text;
      s = omega (arith, c.loop-count.invariant.s);
    }

pub returns : goal.returns
returns c = lines-end c.args.counts.now c.loop-count.count-index c.loop-count.s c.loop-count.text.items _ (omega arith) c.loop-count.invariant.text
