use Rattle.std.proofs.Common.{◌+◌, ◌<◌, ◌≤◌, suc, inl, inr, sym, ◌∙◌, arith}
use Rattle.std.proofs.lemmas.Bool.Decides.{leb_tells}
use Rattle.std.specs.Prelude.{is_some}
use Rattle.mc_model.specs.Test.{rule_of}
use Rattle.sensitivity.proofs.Admitted.{Passes-from_admitted, admitted-from_Passes, refused-unless, same-test}
use Rattle.sensitivity.proofs.passing.is_admitted.Goals as goal
use Rattle.sensitivity.proofs.passing.is_admitted.Goals.{then-n-a-via-then-n-a, then-n-a-via-else-n-a+then-n-c}

pub returns-then-n-a : goal.returns-then-n-a
returns-then-n-a c =
    sym (refused-unless c.args.n c.args.a c.args.b c.args.c
    (λ p.
    let low = p.low in
    let high = p.high in
    elim c.then-n-a.branch [
      | then-n-a-via-then-n-a w ↦ omega (arith, low, w.if-n-a)
      | then-n-a-via-else-n-a+then-n-c w ↦ omega (arith, high, w.if-n-c)
    ]))

pub returns-then-a-n : goal.returns-then-a-n
returns-then-a-n c =
    let low : c.args.a ≤ c.args.n = omega arith in
    let high : c.args.c ≤ c.args.n = omega arith in
    let fits : c.args.a + c.args.c ≤ c.args.n = omega arith in
    sym (admitted-from_Passes c.args.n c.args.a c.args.b c.args.c (record { low = low; high = high; fits = inl fits }))

pub returns-then-a-n-2 : goal.returns-then-a-n-2
returns-then-a-n-2 c =
    let low : c.args.a ≤ c.args.n = omega arith in
    let high : c.args.c ≤ c.args.n = omega arith in
    let below : c.args.a < c.args.n = omega arith in
    same-test c.is_product_at_most.result (is_some (rule_of c.args.n c.args.a c.args.b c.args.c))
    (λ most. admitted-from_Passes c.args.n c.args.a c.args.b c.args.c (record { low = low; high = high; fits = inr (below, c.is_product_at_most.ensures.0 most) }))
    (λ admitted.
    let p = Passes-from_admitted c.args.n c.args.a c.args.b c.args.c admitted in
    elim p.fits [
      | inl plain ↦ absurd (omega (arith, plain, c.if-a-n.false))
      | inr scaled ↦ c.is_product_at_most.ensures.1 scaled.1
    ])

pub returns-else-a-n-2 : goal.returns-else-a-n-2
returns-else-a-n-2 c =
    elim (leb_tells (suc c.args.a) c.args.n) [
      | inl below ↦ absurd (omega (arith, below.1, c.if-a-n-2.false))
      | inr past ↦
          past.0
          ∙ sym (refused-unless c.args.n c.args.a c.args.b c.args.c (λ p.
          elim p.fits [
            | inl plain ↦ omega (arith, plain, c.if-a-n.false)
            | inr scaled ↦ (let less = scaled.0 in omega (arith, less, past.1))
          ]))
    ]
