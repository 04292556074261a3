-- What a call leaves, by its reply and how much of it was written.
use Rattle.std.proofs.Common.{◌≡◌, ◌≢◌, ◌⊎◌, inl, inr, ℕ, List, Option, Some, IfSome, sym, subst}
use Rattle.mc_world.specs.Count.{Rose}
use Rattle.mc_world.specs.Shelf.{Files, ShelfState}
use Rattle.mc_world.specs.Sink.{SinkState}
use Rattle.replies.specs.Reply.{Reply}
use Rattle.replies.specs.Refusal.{ReadFault, refuse}
use Rattle.command_line.specs.declared.form.Form.{Form}
use Rattle.command_line.specs.Form.{IsInRange, command}
use Rattle.command.specs.Written.{IsWritten, IsCutShort}
use Rattle.command.specs.Outcome.{Exposes}
use Rattle.command.proofs.Outcomes.{is_answer, reports_no_fault}
use Rattle.command.proofs.Written.{wrote_whole, one_more-rose}
use Rattle.promises.specs.Reply.{IsReply}
use Rattle.edfvd_program.specs.Outcome.{Ends, WritesAnswer}
use Rattle.promises.specs.Promises.{Promises}
use Rattle.promises.proofs.Promises.{answer_keeps, no_memory_keeps}

-- if the shelf exposes its files and has no fault, the reply is the answer, and if it was written whole, the
-- answer was written
pub answers : {form : Option Form} {before after : ShelfState} {sink_before sink_after : SinkState} {reply : Reply} {ended : ℕ} → IsReply form before after reply
    → IsWritten reply ended sink_before sink_after ⊎ IsCutShort reply ended sink_before sink_after
    → (files : Files) (old : List ℕ) → Exposes files before after → sink_before.written ≡ Some old → (Rose sink_before.faults sink_after.faults → ⊥)
    → WritesAnswer form files old ended sink_after.written
answers {form} {before} {after} {sink_before} {sink_after} {reply} r written files old exposes sink_written calm =
    elim written [
      | inl w ↦
          inr (reply, is_answer files 1 (command form) before after reply r.is exposes, w.status, wrote_whole old reply.text sink_before.written sink_after.written sink_written w.text)
      | inr cut ↦ absurd (calm (one_more-rose sink_before.faults sink_after.faults cut.once))
    ]

-- the promises hold of what a call leaves, whether it wrote an answer or ran out of memory
promises : (form : Option Form) → IfSome form IsInRange → (files : Files) (old : List ℕ) (ended : ℕ) (new : Option (List ℕ)) → WritesAnswer form files old ended new
    → Promises form files old ended new
promises form range files old ended new h =
    elim h [
      | inl none ↦ subst (λ n. Promises form files old n new) (sym none.0) (no_memory_keeps form files old new)
      | inr r ↦
          subst (λ n. Promises form files old n new) (sym r.2)
          (subst (λ o. Promises form files old r.0.status o) (sym r.3) (answer_keeps form range files old r.0 r.1))
    ]

-- a call whose reply was written keeps all that the program promises
pub kept : {form : Option Form} {before after : ShelfState} {sink_before sink_after : SinkState} {reply : Reply} {ended : ℕ} → IfSome form IsInRange
    → IsReply form before after reply
    → IsWritten reply ended sink_before sink_after ⊎ IsCutShort reply ended sink_before sink_after
    → (files : Files) (old : List ℕ) → Exposes files before after → sink_before.written ≡ Some old → (Rose sink_before.faults sink_after.faults → ⊥)
    → Promises form files old ended sink_after.written
kept {form} {sink_after} {ended} range r written files old exposes sink_written calm =
    promises form range files old ended sink_after.written (answers r written files old exposes sink_written calm)

-- a call in which no fetch failed reports no read fault
pub calm_outcome : {form : Option Form} {before after : ShelfState} {sink_before sink_after : SinkState} {reply : Reply} {ended : ℕ} → IsReply form before after reply
    → IsWritten reply ended sink_before sink_after ⊎ IsCutShort reply ended sink_before sink_after
    → after.faults ≡ 0
    → Ends (λ reply. IsReply form before after reply × ((k : ℕ) → reply ≢ refuse (ReadFault k))) sink_before sink_after ended
calm_outcome {form} {before} {after} {reply} r written zero = inr (reply, (r, reports_no_fault 1 (command form) before after reply r.is zero), written)
