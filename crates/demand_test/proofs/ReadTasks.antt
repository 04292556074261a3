-- Tasks that are read one after another.
use Rattle.std.proofs.Common.{◌≡◌, ◌≢◌, ℕ, ◌+◌, ◌<◌, ◌≤◌, ◌^◌, Bool, true, false, not, ◌||◌, ◌==◌, nat_lt, List, [], ◌∷◌, ◌++◌, length, Result, Ok, Err, IsTrue, refl, sym, ◌∙◌, subst, arith, le-ltb, lt-ltb}
use Rattle.std.specs.Str.{bytes_eq}
use Rattle.std.proofs.lemmas.Bool.{false≢true, or_parts}
use Rattle.std.proofs.lemmas.Bool.Decides.{nat_tests}
use Rattle.std.proofs.lemmas.List.{length-append, map-append}
use Rattle.std.proofs.lemmas.Slice.Eq.{bytes_eq-Decides}
use Rattle.mc_task.specs.NameForm.{is_name}
use Rattle.mc_task.specs.TaskSet.{Distinct}
use Rattle.tick_frac.specs.Numbers.{lcm}
use Rattle.mc_model.proofs.Lists.{Each, Each-append}
use Rattle.demand_test.specs.declared.demand.Demand.{Demand}
use Rattle.demand_test.specs.declared.fault.DemandCause.{DemandCause}
use Rattle.demand_test.specs.declared.fault.DemandCause.TheVariants.{BadName, SameName, ZeroNumber, DeadlineOrder, Range}
use Rattle.demand_test.specs.DemandSet.{IsDemand, names_of, lcm_from, hyperperiod, most_lcm}
use Rattle.demand_test.specs.DemandFile.{has_name, name_of, multiple_with}
use Rattle.demand_test.specs.Refusals.{◌>>=◌, refuse_if}
use Rattle.demand_test.specs.SoFar.{IsSoFar}
use Rattle.demand_test.proofs.Multiples.{lcm_from-pos}

-- the least common multiple with one more period
pub lcm_from-push : (m : ℕ) (ts : List Demand) (t : Demand) → lcm_from m (ts ++ t ∷ []) ≡ lcm (lcm_from m ts) t.period
unfolding lcm_from
lcm_from-push m [] t = refl
lcm_from-push m (u ∷ us) t = lcm_from-push (lcm m u.period) us t

-- the tests of a task's numbers, one after the other
abbrev tested : Bool → Bool → Bool → ℕ → Result ℕ DemandCause
tested a b c m = refuse_if a ZeroNumber >>= λ _. refuse_if b DeadlineOrder >>= λ _. refuse_if c Range >>= λ _. Ok m

-- the tests give a number only if each of them is false
given : (a b c : Bool) (m n : ℕ) → Ok n ≡ tested a b c m → (a ≡ false) × (b ≡ false) × (c ≡ false) × (n ≡ m)
given false false false m n h = (refl, refl, refl, cc)
given a b c m n h = absurd (cc)

no_zero : (p d b : ℕ) → p ≢ 0 → d ≢ 0 → b ≢ 0 → ((p == 0 || d == 0) || b == 0) ≡ false
no_zero p d b x y z = grind (arith, nat_tests)

-- numbers in order give the hyperperiod with this period
pub in_order : (before : List Demand) (t : Demand) → t.period ≢ 0 → t.deadline ≢ 0 → t.budget ≢ 0 → t.deadline ≤ t.period → hyperperiod (before ++ t ∷ []) ≤ most_lcm → multiple_with before t ≡ Ok (hyperperiod (before ++ t ∷ []))
in_order before t p d b o r = rw (no_zero t.period t.deadline t.budget p d b, le-ltb t.period t.deadline o, le-ltb most_lcm (hyperperiod (before ++ t ∷ [])) r) refl

-- a hyperperiod past the limit is refused
pub out_of_range : (before : List Demand) (t : Demand) → t.period ≢ 0 → t.deadline ≢ 0 → t.budget ≢ 0 → t.deadline ≤ t.period → most_lcm < hyperperiod (before ++ t ∷ []) → multiple_with before t ≡ Err Range
out_of_range before t p d b o r = rw (no_zero t.period t.deadline t.budget p d b, le-ltb t.period t.deadline o, lt-ltb most_lcm (hyperperiod (before ++ t ∷ [])) r) refl

-- what the tests say of a task whose numbers they let pass
order_of :
    (before : List Demand) (t : Demand) (multiple : ℕ) → Ok multiple ≡ multiple_with before t →
    (1 ≤ t.period) × (1 ≤ t.deadline) × (1 ≤ t.budget) × (t.deadline ≤ t.period) ×
    (hyperperiod (before ++ t ∷ []) ≤ most_lcm) × (multiple ≡ hyperperiod (before ++ t ∷ []))
order_of before t multiple e =
    let p = given ((t.period == 0 || t.deadline == 0) || t.budget == 0) (nat_lt t.period t.deadline) (nat_lt most_lcm (hyperperiod (before ++ t ∷ []))) (hyperperiod (before ++ t ∷ [])) multiple e in
    grind (arith, nat_tests)

-- a name that the next task may have: it has the form of a name, and no task before has it
pub record IsNew (before : List Demand) (name : List ℕ) : Type 0 where
  pub form : IsTrue (is_name name)
  pub new : has_name name before ≡ false

pub named : (before : List Demand) (field name : List ℕ) → Ok name ≡ name_of before field → IsNew before name
named before field name e = by (is_name field) (has_name field before) refl refl e
  where
    by : (a b : Bool) → is_name field ≡ a → has_name field before ≡ b → Ok name ≡ (refuse_if (not a) BadName >>= λ _. refuse_if b SameName >>= λ _. Ok field) → IsNew before name
    by true false f n h = let same : field ≡ name = cc in subst (IsNew before) same (record { form = f; new = n })
    by a b f n h = absurd (cc)

-- different names, with one more that is none of them, are different
distinct-push : (ns : List (List ℕ)) (n : List ℕ) → Distinct ns → Each (λ m. m ≢ n) ns → Distinct (ns ++ n ∷ [])
distinct-push [] n d e = (tt, tt)
distinct-push (m ∷ ms) n d e = (Each-append (λ x. m ≢ x) ms (n ∷ []) d.0 (e.0, tt), distinct-push ms n d.1 e.1)

other_names : (name : List ℕ) (ts : List Demand) → has_name name ts ≡ false → Each (λ m. m ≢ name) (names_of ts)
other_names name [] e = tt
other_names name (t ∷ ts) e =
    let p = or_parts (bytes_eq t.name name) (has_name name ts) e in
    ((λ same. false≢true (sym p.0 ∙ (bytes_eq-Decides t.name name).1 same)), other_names name ts p.1)

-- the tasks so far are a set with one more task, if its name and numbers may stand after them
pub so_far-push : (before : List Demand) (t : Demand) (multiple next : ℕ) → IsSoFar before multiple → length before < 128 → IsNew before t.name → (t.period < 2 ^ 32) × (t.deadline < 2 ^ 32) × (t.budget < 2 ^ 32) →
    Ok next ≡ multiple_with before t → IsSoFar (before ++ t ∷ []) next
so_far-push before t multiple next s few new small order =
    let o = order_of before t next order in
    let is : IsDemand t = record { name = new.form; period = (o.0, small.0); deadline = (o.1, small.1); budget = (o.2, small.2); constrained = o.3 } in
    record {
      few = let l : length (before ++ t ∷ []) ≡ length before + 1 = length-append before (t ∷ []) in omega (arith, l, few);
      each = Each-append IsDemand before (t ∷ []) s.each (is, tt);
      names = subst Distinct (sym (map-append (λ (u : Demand). u.name) before (t ∷ []))) (distinct-push (names_of before) t.name s.names (other_names t.name before new.new));
      value = o.5;
      range = o.4;
    }

-- before the first task there are no tasks, and their hyperperiod is 1
pub so_far-none : IsSoFar [] 1
unfolding lcm_from
so_far-none = record { few = omega arith; each = tt; names = tt; value = refl; range = omega arith }

-- the hyperperiod of the tasks so far is above 0
pub so_far-pos : (before : List Demand) (multiple : ℕ) → IsSoFar before multiple → 1 ≤ multiple
so_far-pos before multiple s = let p : 1 ≤ hyperperiod before = lcm_from-pos 1 before (omega arith) s.each in let v = s.value in omega (arith, p, v)
