use Rattle.std.proofs.Common.{◌≡◌, ◌+◌, ◌%◌, ◌==◌, true, sym, ◌∙◌, arith, append-nil, refl, slice_index}
use Rattle.std.proofs.lemmas.Grind.{get_or_default_zero}
use Rattle.std.proofs.lemmas.List.{set-get_or}
use Rattle.set_gen.specs.NextReleases.{IsNext}
use Rattle.set_gen.proofs.Scans.{not_due, next-due, next-not_due, release_of-none}
use Rattle.set_gen.proofs.jobs.Jobs.visit.Goals as goal

pub returns-then-next-at : goal.returns-then-next-at
returns-then-next-at c =
    let value : c.index-next.result.now ≡ slice_index c.args.self.now.next.items c.args.i =
    c.index-next.ensures ∙ get_or_default_zero c.args.self.now.next.items c.args.i c.index-next.result.now (omega arith) in
    let next : IsNext c.args.gap c.args.at c.index-next.result.now = rw value c.requires.next in
    let none = release_of-none c.args.gap c.args.at (c.args.i + 1) (not_due c.args.gap c.args.at c.index-next.result.now c.requires.gap next c.if-next-at.true) in
    record {
      rows = rw none (sym (append-nil c.args.self.now.rows.items));
      words = rw none refl;
      next = rw value (sym (set-get_or c.args.self.now.next.items c.args.i 0));
      is = next-not_due c.args.gap c.args.at c.index-next.result.now next c.if-next-at.true;
    }

pub returns : goal.returns
returns c =
    let value : c.index-next.result.now ≡ slice_index c.args.self.now.next.items c.args.i =
    c.index-next.ensures ∙ get_or_default_zero c.args.self.now.next.items c.args.i c.index-next.result.now (omega arith) in
    let next : IsNext c.args.gap c.args.at c.index-next.result.now = rw value c.requires.next in
    let on = rw c.if-next-at.false at next.multiple in
    let one : (c.args.at % c.args.gap == 0) ≡ true = rw on refl in
    record {
      rows = rw one c.in_ok-add.ensures.rows;
      words = rw one c.in_ok-add.ensures.words;
      next = rw c.in_ok-add.ensures.next refl;
      is = next-due c.args.gap c.args.at c.requires.gap on;
    }
