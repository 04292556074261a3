use Rattle.std.proofs.Common.{◌≡◌, ℕ, suc, ◌+◌, ◌<◌, false, ◌==◌, List, ◌++◌, length, get_or, sym, ap, ◌∙◌, arith, ◌∷◌, [], cond, filter, map, eq-eqb, ne_eqb}
use Rattle.std.specs.Option.{option_map_or}
use Rattle.std.proofs.lemmas.Option.{slice_get-get_or}
use Rattle.part_fit.specs.PartWork.{is_on}
use Rattle.std.proofs.lemmas.List.{map-append, append-nil}
use Rattle.mc_task.specs.declared.task.TaskNo.{TaskNo}
use Rattle.part_commands.proofs.Processors.{made-more, filter-one}
use Rattle.part_commands.proofs.floors.numbers_on.Goals as goal
use Rattle.part_commands.proofs.floors.numbers_on.Goals.{then-of-i+in_ok-push, else-of-i}

-- whether the task at an index is on the processor
on-place : (n : ℕ) (of : List ℕ) (i : ℕ) → i < length of → is_on n of (i + 1) ≡ (get_or of i 0 == n)
on-place n of i within =
    let number : i + 1 ≡ suc i = omega arith in
    ap (is_on n of) number ∙ ap (λ o. option_map_or (λ p. p == n) o false) (slice_get-get_or of i 0 within)

pub loop-i-preserved : goal.loop-i-preserved
loop-i-preserved c =
    let on = is_on c.args.processor c.args.of.now in
    let i = c.loop-i.i in
    let some = map (λ (k : TaskNo). k.0) c.loop-i.numbers.items in
    let within : i < length c.args.of.now = (let more = c.loop-i-test.true in omega (arith, more, c.len-i-end.ensures.count, c.requires)) in
    let here = on-place c.args.processor c.args.of.now i within in
    let more = λ (next : List ℕ) (grows : next ≡ some ++ filter on ((i + 1) ∷ [])).
    made-more (filter on) (λ k. filter on (k ∷ [])) (i + 1) (length c.args.of.now) some next _ (filter-one on) (omega (arith, within)) c.loop-i.invariant grows in
    elim c.if-of-i.branch [
      | then-of-i+in_ok-push w ↦
          more _ (ap (λ v. map (λ (k : TaskNo). k.0) v.items) w.numbers-is ∙ ap (λ l. map (λ (k : TaskNo). k.0) l) w.in_ok-push.ensures.items ∙ map-append (λ (k : TaskNo). k.0) c.loop-i.numbers.items _
          ∙ sym (ap (λ b. some ++ cond b ((i + 1) ∷ []) []) (here ∙ eq-eqb _ _ w.if-of-i.true)))
      | else-of-i w ↦
          more _ (ap (λ v. map (λ (k : TaskNo). k.0) v.items) w.numbers-is ∙ sym (append-nil some) ∙ sym (ap (λ b. some ++ cond b ((i + 1) ∷ []) []) (here ∙ ne_eqb _ _ w.if-of-i.false)))
    ]
