-- For callers: the item of each task after each call, and the least of two lists with the same item of each
-- task.
use Rattle.std.proofs.Common.{◌≡◌, ℕ, ◌<◌, ◌≤◌, Bool, true, false, not, ◌==◌, nat_lt, cond, List, [], ◌∷◌, Option, Some, None, map, filter, refl, sym, ap, subst, ◌∙◌, arith, eq-eqb, eqb-true}
use Rattle.std.specs.List.{AllByRecursion}
use Rattle.std.proofs.lemmas.Bool.Decides.{nat_tests}
use Rattle.ready_queue.specs.declared.item.Item.{Item}
use Rattle.ready_queue.specs.Items.{before, first_of_two, least, item_of, with_item, without, by_real, AreItems, AreItemsFrom}
use Rattle.ready_queue.specs.Tree.{rekeyed}
use Rattle.ready_queue.proofs.Matches.{beats, beats-tie}
use Rattle.ready_queue.proofs.Firsts.{task_in, IsFirst, least_first}

-- no task has two items
abbrev pub OnePerTask : List Item → Type 0
OnePerTask [] = Unit {0}
OnePerTask (i ∷ is) = (item_of is i.task.0 ≡ None) × OnePerTask is

-- if all task numbers of a list are above a number, no lower task number has an item in it
none_above : (above places t : ℕ) (items : List Item) → AreItemsFrom above places items → t ≤ above → item_of items t ≡ None
none_above above places t [] rise low = refl
none_above above places t (i ∷ items) rise low =
    let first : above < i.task.0 = rise.0 in
    let test : (i.task.0 == t) ≡ false = grind (arith, nat_tests) in
    rw test (none_above i.task.0 places t items rise.2 (omega arith))

one_from : (above places : ℕ) (items : List Item) → AreItemsFrom above places items → OnePerTask items
one_from above places [] rise = tt
one_from above places (i ∷ items) rise = (none_above i.task.0 places i.task.0 items rise.2 (omega arith), one_from i.task.0 places items rise.2)

pub one_per_task : (places : ℕ) (items : List Item) → AreItems places items → OnePerTask items
one_per_task places items rise = one_from 0 places items rise

-- the item of each task after `insert`
pub item_of-with_item : (i : Item) (items : List Item) (k : ℕ) → item_of items i.task.0 ≡ None → item_of (with_item i items) k ≡ cond (i.task.0 == k) (Some i) (item_of items k)
item_of-with_item i [] k free = refl
item_of-with_item i (j ∷ items) k free = go (item_of-with_item i items k) (nat_lt i.task.0 j.task.0) (j.task.0 == i.task.0) refl free
  where
    after : (item_of items i.task.0 ≡ None → item_of (with_item i items) k ≡ cond (i.task.0 == k) (Some i) (item_of items k)) →
        (a b : Bool) → (i.task.0 == k) ≡ a → (j.task.0 == k) ≡ b → (j.task.0 == i.task.0) ≡ false → item_of items i.task.0 ≡ None →
        cond b (Some j) (item_of (with_item i items) k) ≡ cond a (Some i) (cond b (Some j) (item_of items k))
    after ih true true e f other none = absurd (grind (arith, nat_tests))
    after ih true false e f other none = ih none ∙ rw e refl
    after ih false true e f other none = refl
    after ih false false e f other none = ih none ∙ rw e refl

    go : (item_of items i.task.0 ≡ None → item_of (with_item i items) k ≡ cond (i.task.0 == k) (Some i) (item_of items k)) →
        (less other : Bool) → (j.task.0 == i.task.0) ≡ other → cond other (Some j) (item_of items i.task.0) ≡ None →
        item_of (cond less (i ∷ j ∷ items) (j ∷ with_item i items)) k ≡ cond (i.task.0 == k) (Some i) (item_of (j ∷ items) k)
    go ih true other e none = refl
    go ih false true e none = absurd (cc)
    go ih false false e none = after ih (i.task.0 == k) (j.task.0 == k) refl refl e none

-- the item of each task after `remove`
pub item_of-without : (t : ℕ) (items : List Item) (k : ℕ) → item_of (without t items) k ≡ cond (t == k) None (item_of items k)
item_of-without t [] k = go (t == k)
  where
    no_one : Option Item
    no_one = None

    go : (b : Bool) → no_one ≡ cond b no_one no_one
    go true = refl
    go false = refl
item_of-without t (j ∷ items) k = go (item_of-without t items k) (j.task.0 == t) (t == k) (j.task.0 == k) refl refl refl
  where
    go : item_of (without t items) k ≡ cond (t == k) None (item_of items k) →
        (a b d : Bool) → (j.task.0 == t) ≡ a → (t == k) ≡ b → (j.task.0 == k) ≡ d →
        item_of (cond (not a) (j ∷ without t items) (without t items)) k ≡ cond b None (cond d (Some j) (item_of items k))
    go ih true true d e f g = ih ∙ rw f refl
    go ih true false true e f g = absurd (grind (arith, nat_tests))
    go ih true false false e f g = ih ∙ rw f refl
    go ih false true true e f g = absurd (grind (arith, nat_tests))
    go ih false true false e f g = rw g (ih ∙ rw f refl)
    go ih false false true e f g = rw g refl
    go ih false false false e f g = rw g (ih ∙ rw f refl)

-- after `remove` the task has no item
pub item_of-removed : (t : ℕ) (items : List Item) → item_of (without t items) t ≡ None
item_of-removed t items = item_of-without t items t ∙ (let test : (t == t) ≡ true = eq-eqb t t refl in rw test refl)

-- the item of each task after `rekey_high`
pub item_of-rekeyed : (items : List Item) (k : ℕ) → OnePerTask items → item_of (map by_real (filter (λ i. i.high) items)) k ≡ rekeyed (item_of items k)
item_of-rekeyed [] k one = refl
item_of-rekeyed (j ∷ items) k one = go (item_of-rekeyed items k one.1) j.high (j.task.0 == k) refl refl
  where
    gone : (j.task.0 == k) ≡ true → item_of items k ≡ None
    gone e = subst (λ (n : ℕ). item_of items n ≡ None) (eqb-true j.task.0 k e) one.0

    go : item_of (map by_real (filter (λ i. i.high) items)) k ≡ rekeyed (item_of items k) →
        (high b : Bool) → j.high ≡ high → (j.task.0 == k) ≡ b →
        item_of (map by_real (cond high (j ∷ filter (λ i. i.high) items) (filter (λ i. i.high) items))) k ≡ rekeyed (cond b (Some j) (item_of items k))
    go ih true true e f = rw (f, e) refl
    go ih true false e f = rw f ih
    go ih false true e f = rw e (ih ∙ ap rekeyed (gone f))
    go ih false false e f = ih

-- the item of a task in the list does not come before the first item x
not_earlier : (items : List Item) (x : Item) (k : ℕ) → AllByRecursion (λ j. before j x ≡ false) items → beats (item_of items k) (Some x) ≡ false
not_earlier [] x k others = refl
not_earlier (j ∷ items) x k others = elim (j.task.0 == k) as (λ (b : Bool). beats (cond b (Some j) (item_of items k)) (Some x) ≡ false) [ true ↦ others.0 | false ↦ not_earlier items x k others.1 ]

-- the least item is the item of its task
pub least_item : (items : List Item) (x : Item) → OnePerTask items → least items ≡ Some x → item_of items x.task.0 ≡ Some x
least_item [] x one e = cc
least_item (i ∷ items) x one e = go (least items) (λ (y : Item) (m : least items ≡ Some y). least_item items y one.1 m) refl e
  where
    here : Some i ≡ Some x → item_of (i ∷ items) x.task.0 ≡ Some x
    here h =
        let q : i ≡ x = cc in
        subst (λ (y : Item). item_of (i ∷ items) y.task.0 ≡ Some y) q (rw (eq-eqb i.task.0 i.task.0 refl) refl)

    there : (y : Item) → item_of items y.task.0 ≡ Some y → y ≡ x → (b : Bool) → (i.task.0 == x.task.0) ≡ b → cond b (Some i) (item_of items x.task.0) ≡ Some x
    there y f q true g =
        let none : item_of items x.task.0 ≡ None = subst (λ (n : ℕ). item_of items n ≡ None) (eqb-true i.task.0 x.task.0 g) one.0 in
        let found : item_of items x.task.0 ≡ Some x = subst (λ (z : Item). item_of items z.task.0 ≡ Some z) q f in
        absurd (cc)
    there y f q false g = subst (λ (z : Item). item_of items z.task.0 ≡ Some z) q f

    chosen : (y : Item) → item_of items y.task.0 ≡ Some y → (b : Bool) → Some (cond b y i) ≡ Some x → item_of (i ∷ items) x.task.0 ≡ Some x
    chosen y f true h = there y f (cc) (i.task.0 == x.task.0) refl
    chosen y f false h = here h

    go : (o : Option Item) → ((y : Item) → least items ≡ Some y → item_of items y.task.0 ≡ Some y) → least items ≡ o → Some (first_of_two i o) ≡ Some x → item_of (i ∷ items) x.task.0 ≡ Some x
    go None ih m h = here h
    go (Some y) ih m h = chosen y (ih y m) (before y i) h

-- no item of the list comes before the least
pub least_others : (items : List Item) (x : Item) → least items ≡ Some x → AllByRecursion (λ j. before j x ≡ false) items
least_others [] x e = tt
least_others (i ∷ items) x e =
    let f : IsFirst (i ∷ items) (first_of_two i (least items)) = least_first i items in
    let q : first_of_two i (least items) ≡ x = the_one (first_of_two i (least items)) e in
    subst (λ (y : Item). AllByRecursion (λ j. before j y ≡ false) (i ∷ items)) q f.others
  where
    the_one : (y : Item) → Some y ≡ Some x → y ≡ x
    the_one y h = cc

-- a list without a least item is empty
least_none : (items : List Item) (k : ℕ) → least items ≡ None → item_of items k ≡ None
least_none [] k e = refl
least_none (i ∷ items) k e = absurd (cc)

-- the least of a list does not come after the least of another that has each task's item
no_later : (xs ys : List Item) → OnePerTask xs → ((k : ℕ) → item_of xs k ≡ item_of ys k) → (o p : Option Item) → least xs ≡ o → least ys ≡ p → beats o p ≡ false
no_later xs ys one same None p m n = refl
no_later xs ys one same (Some x) None m n =
    let found : item_of xs x.task.0 ≡ Some x = least_item xs x one m in
    let none : item_of ys x.task.0 ≡ None = least_none ys x.task.0 n in
    let both : item_of xs x.task.0 ≡ item_of ys x.task.0 = same x.task.0 in
    absurd (nowhere x (sym found ∙ both ∙ none))
  where
    nowhere : (x : Item) → Some x ≡ None → ⊥
    nowhere x h = cc
no_later xs ys one same (Some x) (Some y) m n =
    subst (λ (o : Option Item). beats o (Some y) ≡ false) (sym (same x.task.0) ∙ least_item xs x one m) (not_earlier ys y x.task.0 (least_others ys y n))

-- two lists with the same item of each task have the same least task, in whatever order they stand
pub least_by_item : (xs ys : List Item) → OnePerTask xs → OnePerTask ys → ((k : ℕ) → item_of xs k ≡ item_of ys k) → task_in (least xs) ≡ task_in (least ys)
least_by_item xs ys one other same =
    beats-tie (least xs) (least ys) (no_later xs ys one same (least xs) (least ys) refl refl) (no_later ys xs other (λ k. sym (same k)) (least ys) (least xs) refl refl)
