use Rattle.std.proofs.Common.{◌≡◌, ℕ, ◌+◌, ◌<◌, ◌≤◌, ◌++◌, ◌∙◌, ap, arith, length, length-set, slice_index}
use Rattle.set_gen.specs.Words.{after}
use Rattle.set_gen.specs.GeneratedWork.{job_rows}
use Rattle.set_gen.specs.NextReleases.{IsNext, release_of}
use Rattle.set_gen.proofs.Scans.{released_of, rows-more, words-more, released_of-more, before_more, after_more, none_between, next-until}
use Rattle.set_gen.proofs.jobs.Jobs.release.Goals as goal

pub loop-i-preserved : goal.loop-i-preserved
loop-i-preserved c =
    let visit = c.in_ok-next.ensures in
    let kept = c.loop-i.invariant in
    let more = released_of-more c.args.gaps.now c.args.at c.loop-i.i in
    let within : c.loop-i.i < length c.loop-i.self.next.items = omega arith in
    record {
      rows = rw more (rows-more c.args.set.now.tasks c.args.self.now.words c.args.self.now.rows.items c.loop-i.self.rows.items c.visit.new.self.rows.items c.loop-i.self.words (released_of c.args.gaps.now c.args.at c.loop-i.i) (release_of (slice_index c.args.gaps.now c.loop-i.i) c.args.at (c.loop-i.i + 1)) kept.rows kept.words visit.rows);
      words = rw more (words-more c.args.self.now.words c.loop-i.self.words c.visit.new.self.words (released_of c.args.gaps.now c.args.at c.loop-i.i) (release_of (slice_index c.args.gaps.now c.loop-i.i) c.args.at (c.loop-i.i + 1)) kept.words visit.words);
      count = ap length visit.next ∙ length-set c.loop-i.self.next.items c.loop-i.i c.in_ok-next.next ∙ kept.count;
      past = before_more (λ k n. IsNext (slice_index c.args.gaps.now k) (c.args.at + 1) n) c.loop-i.self.next.items c.visit.new.self.next.items c.loop-i.i c.in_ok-next.next within visit.next kept.past visit.is;
      left = after_more (λ k n. IsNext (slice_index c.args.gaps.now k) c.args.at n) c.loop-i.self.next.items c.visit.new.self.next.items c.loop-i.i c.in_ok-next.next (length c.args.gaps.now) visit.next kept.left;
      later = let after_it : c.args.at + 1 ≤ c.in_ok-next.next = visit.is.reached in omega (arith, c.min-least.ensures);
      within = omega (arith, c.min-least.ensures);
      least = before_more (λ k n. c.min-least.result ≤ n) c.loop-i.self.next.items c.visit.new.self.next.items c.loop-i.i c.in_ok-next.next within visit.next (λ k less. let far : c.loop-i.least ≤ slice_index c.loop-i.self.next.items k = kept.least k less in omega (arith, c.min-least.ensures)) (omega (arith, c.min-least.ensures));
    }

pub returns : goal.returns
returns c =
    let kept = c.loop-i.invariant in
    let all : c.loop-i.i ≡ length c.args.gaps.now = omega arith in
    let are : (k : ℕ) → k < length c.args.gaps.now → IsNext (slice_index c.args.gaps.now k) (c.args.at + 1) (slice_index c.loop-i.self.next.items k) = λ k less. kept.past k (omega arith) in
    let far : (k : ℕ) → k < length c.args.gaps.now → c.loop-i.least ≤ slice_index c.loop-i.self.next.items k = λ k less. kept.least k (omega arith) in
    record {
      rows = kept.rows ∙ ap (λ i. c.args.self.now.rows.items ++ job_rows c.args.self.now.words c.args.set.now.tasks (released_of c.args.gaps.now c.args.at i)) all;
      words = kept.words ∙ ap (λ i. after (length (released_of c.args.gaps.now c.args.at i)) c.args.self.now.words) all;
      later = kept.later;
      within = kept.within;
      none = λ r first last. none_between c.args.gaps.now c.loop-i.self.next.items c.args.at c.loop-i.least r (λ k less. (c.requires.gaps.each k less).0) are far first last;
      next = record {
        count = kept.count;
        each = λ k less. next-until (slice_index c.args.gaps.now k) c.args.at c.loop-i.least (slice_index c.loop-i.self.next.items k) (are k less) kept.later (far k less);
      };
    }
