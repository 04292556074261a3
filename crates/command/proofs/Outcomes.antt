-- The reply over a shelf that exposes its files, and over one that does not fail.
use Rattle.std.proofs.Common.{◌≡◌, ◌≢◌, inl, inr, ℕ, ◌+◌, ◌<◌, List, length, get_or, Option, Some, None, IfSome, ap, sym, ◌∙◌, subst, arith, le-leb}
use Rattle.std.specs.Prelude.{MatchBool, nat_lt, IsSomeAnd}
use Rattle.std.proofs.lemmas.Bool.{lt-leb}
use Rattle.mc_world.specs.Count.{Rose}
use Rattle.mc_world.specs.Shelf.{Files, ShelfState}
use Rattle.replies.specs.Reply.{Reply}
use Rattle.replies.specs.Refusal.{ReadFault, Longer, refuse}
use Rattle.command.specs.Command.{Command, answer, fetch}
use Rattle.command.specs.Outcome.{HasBytes, IsReply, Exposes, IsAnswer}

-- of a file that is longer than its limit, the statement for longer bytes holds
long_answer : (P Q : List ℕ → Type 0) (limit : ℕ) (file : Option (List ℕ)) → IsSomeAnd file (λ bytes. limit < length bytes) → ((bytes : List ℕ) → P bytes)
    → IsSomeAnd file (λ bytes. MatchBool (nat_lt limit (length bytes)) (P bytes) (Q bytes))
long_answer P Q limit None long h = absurd long
long_answer P Q limit (Some bytes) long h = subst (λ b. MatchBool b (P bytes) (Q bytes)) (sym (le-leb _ _ long)) (h bytes)

-- a shelf that exposes its files before a fetch exposes the same files after it
exposes_on : (name : List ℕ) (limit : ℕ) (bytes : List ℕ) (files : Files) (before mid after : ShelfState) → HasBytes name limit bytes before mid → Exposes files before after → Exposes files mid after
exposes_on name limit bytes files before mid after h t = record { exposed = h.same ∙ t.exposed; calm = λ rose. t.calm (subst (λ n. Rose n after.faults) h.calm rose) }

-- if the shelf exposes its files and has no fault, the reply is the answer
pub is_answer : (files : Files) (k : ℕ) (command : Command) (before after : ShelfState) (reply : Reply) → IsReply k command before after reply → Exposes files before after → IsAnswer files k command reply
is_answer files k (answer Is) before after reply r t = r.1
is_answer files k (fetch name limit next) before after reply r t =
    elim r [
      | inl refused ↦
          elim refused [
            | inl failed ↦ absurd (t.calm failed.0.rose)
            | inr long ↦
                long_answer (λ bytes. reply ≡ refuse (Longer k limit)) (λ bytes. IsAnswer files (k + 1) (next bytes) reply) limit (files name)
                (subst (λ o. IfSome o (λ files. IsSomeAnd (files name) (λ bytes. limit < length bytes))) t.exposed long.0.exposed) (λ bytes. long.1)
          ]
      | inr more ↦
          subst (λ o. IsSomeAnd o (λ bytes. MatchBool (nat_lt limit (length bytes)) (reply ≡ refuse (Longer k limit)) (IsAnswer files (k + 1) (next bytes) reply)))
          (sym (subst (λ o. IfSome o (λ files. files name ≡ Some more.0)) t.exposed more.2.exposed))
          (subst (λ b. MatchBool b (reply ≡ refuse (Longer k limit)) (IsAnswer files (k + 1) (next more.0) reply)) (sym (lt-leb _ _ (omega (arith, more.2.short))))
          (is_answer files (k + 1) (next more.0) more.1 after reply more.3 (exposes_on name limit more.0 files before more.1 after more.2 t)))
    ]

-- a count that is 0 never rose
pub never_rose : (before after : ℕ) → after ≡ 0 → Rose before after → ⊥
never_rose before after zero rose = elim rose [ inl more ↦ absurd (omega (arith, zero, more)) | inr full ↦ absurd (omega (arith, zero, full)) ]

-- the two lines of status 7 differ in their first byte
not_longer : (j k limit : ℕ) → refuse (ReadFault j) ≢ refuse (Longer k limit)
not_longer j k limit same = let e : 114 ≡ 102 = ap (λ (r : Reply). get_or r.text 0 0) same in absurd (omega (arith, e))

-- over a shelf whose count of faults is 0 no reply reports a read fault
pub reports_no_fault : (k : ℕ) (command : Command) (before after : ShelfState) (reply : Reply) → IsReply k command before after reply → after.faults ≡ 0 → (j : ℕ) → reply ≢ refuse (ReadFault j)
reports_no_fault k (answer Is) before after reply r zero j is = r.2.read (ap (λ (r : Reply). r.status) is)
reports_no_fault k (fetch name limit next) before after reply r zero j is =
    elim r [
      | inl refused ↦ elim refused [ inl failed ↦ absurd (never_rose before.faults after.faults zero failed.0.rose) | inr long ↦ absurd (not_longer j k limit (sym is ∙ long.1)) ]
      | inr more ↦ reports_no_fault (k + 1) (next more.0) more.1 after reply more.3 zero j is
    ]
