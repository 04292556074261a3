use Rattle.std.proofs.Common.{◌≡◌, ◌≢◌, ℕ, ◌≤◌, ◌==◌, Bool, true, List, [], ◌∷◌, length, ap, subst, ◌∙◌, inl, inr, arith}
use Rattle.std.specs.Prelude.{All, Contains, nat_le}
use Rattle.std.specs.List.{list_any}
use Rattle.std.proofs.lemmas.Bool.Decides.{leb_tells, nat_tests}
use Rattle.trace_judge.specs.declared.queue.Queued.{Queued}
use Rattle.trace_judge.specs.Heads.{no_key}
use Rattle.trace_judge.specs.Entries.{Entry, PendingEntries}
use Rattle.trace_judge.specs.Queues.{AreQueues, entries_from}
use Rattle.trace_judge.proofs.Queues.{none_there, head_entry}
use Rattle.trace_judge.proofs.pending_queues.PendingQueues.is_empty.Goals as goal

-- if an entry passes a test, there is an entry
some_length : (p : Entry → Bool) (es : List Entry) → list_any p es ≡ true → length es ≢ 0
some_length p [] h e = cc
some_length p (x ∷ es) h e = omega (arith, e)

-- the least key of the heads is as great as that of an empty queue exactly if there is no entry
says : (qs : List (List Queued)) (heads : List ℕ) (least : ℕ) → AreQueues qs heads → All (λ (key : ℕ). least ≤ key) heads → Contains heads least → nat_le no_key least ≡ (length (entries_from 1 qs) == 0)
says qs heads least a below there =
    elim (leb_tells no_key least) [
      | inl great ↦
          let all : All (λ (key : ℕ). no_key ≤ key) heads = λ i key l. (omega (arith, great.1, below i key l)) in
          let none = none_there 1 qs a.each (subst (λ (ks : List ℕ). All (λ (key : ℕ). no_key ≤ key) ks) a.heads_are all) in
          grind (arith, nat_tests, ap length none, great.1)
      | inr small ↦
          let some = some_length (λ (o : Entry). o.0.key == least) (entries_from 1 qs)
          (head_entry least qs (λ e. (omega (arith, e, small.1))) (subst (λ (ks : List ℕ). Contains ks least) a.heads_are there)) in
          grind (arith, nat_tests, some, small.1)
    ]

pub returns : goal.returns
returns c =
    says c.self.inside.queues.items c.self.inside.heads c.least.result c.self.invariant c.least.ensures.below c.least.ensures.there
    ∙ ap (λ (h : PendingEntries). length h.entries == 0) c.self.view_is
