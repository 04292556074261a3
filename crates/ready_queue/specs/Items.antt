-- The items of a queue, at most one of each task, in the order of the tasks' numbers.
use Rattle.std.specs.Prelude.{◌≡◌, ℕ, ◌<◌, ◌≤◌, Bool, false, not, ◌&&◌, ◌||◌, ◌==◌, nat_lt, cond, List, [], ◌∷◌, find, filter, Contains, Option, Some, None}
use Rattle.std.specs.List.{AllByRecursion}
use Rattle.mc_task.specs.declared.task.TaskNo.{TaskNo}
use Rattle.ready_queue.specs.declared.item.Item.{Item}

-- the queue has capacity for tasks with the numbers 1 to `places`, and these items
pub record Queue : Type 0 where
  pub places : ℕ
  pub items : List Item

-- i comes before j: its key is less, or the keys are equal and its task's number is lower
abbrev pub before : Item → Item → Bool
before i j = nat_lt i.key j.key || ((i.key == j.key) && nat_lt i.task.0 j.task.0)

-- the item of the two that comes first; the only item if there is no second
abbrev pub first_of_two : Item → Option Item → Item
first_of_two i None = i
first_of_two i (Some j) = cond (before j i) j i

-- the item that comes first
abbrev pub least : List Item → Option Item
least [] = None
least (i ∷ is) = Some (first_of_two i (least is))

-- the task has an item in the list, and no item of the list comes before it
pub record IsFirstItem (items : List Item) (task : TaskNo) : Type 0 where
  pub item : Item
  pub of_task : item.task ≡ task
  pub there : Contains items item
  pub others : AllByRecursion (λ j. before j item ≡ false) items

-- the item of task number k
abbrev pub item_of : List Item → ℕ → Option Item
item_of items k = find (λ i. i.task.0 == k) items

-- the items with one more, in the order of task numbers
abbrev pub with_item : Item → List Item → List Item
with_item i [] = i ∷ []
with_item i (j ∷ js) = cond (nat_lt i.task.0 j.task.0) (i ∷ j ∷ js) (j ∷ with_item i js)

-- the items of all tasks except number k
abbrev pub without : ℕ → List Item → List Item
without k items = filter (λ i. not (i.task.0 == k)) items

-- the item, ordered by its real deadline
abbrev pub by_real : Item → Item
by_real i = record i { key = i.real }

-- the task numbers rise; the first is above `above` and none is above `places`
abbrev pub AreItemsFrom : ℕ → ℕ → List Item → Type 0
AreItemsFrom above places [] = Unit {0}
AreItemsFrom above places (i ∷ is) =
    (above < i.task.0) × (i.task.0 ≤ places) × AreItemsFrom i.task.0 places is

-- the items are of different tasks with numbers from 1 to `places`, in the order of these numbers
abbrev pub AreItems : ℕ → List Item → Type 0
AreItems places items = AreItemsFrom 0 places items
