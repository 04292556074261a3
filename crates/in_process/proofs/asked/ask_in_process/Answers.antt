use Rattle.std.proofs.Common.{◌≡◌, map, Bor, IfOk, IfSome, List, ℕ, Result, Ok, Err, Some, [], refl, ap, ◌∙◌, subst}
use Rattle.replies.specs.Reply.{Reply}
use Rattle.mc_world.specs.Shelf.{ShelfState}
use Rattle.mc_world.specs.CalmShelfState.{CalmShelfState, calm_files}
use Rattle.command_line.specs.Form.{IsInRange, form_of, command}
use Rattle.command.proofs.Outcomes.{is_answer, never_rose}
use Rattle.promises.specs.Reply.{IsReply}
use Rattle.promises.proofs.Promises.{answer_keeps}
use Rattle.in_process.specs.Asked.{two_files, IsAnswered}
use Rattle.in_process.proofs.asked.ask_in_process.Goals as goal

-- a reply over a calm shelf of the two files is the answer, and keeps what the program promises
answered : {E : Type 0} (result : Result Reply E) (words given : List (List ℕ)) (first second : List ℕ) (before after : ShelfState)
    → words ≡ given → before.holds ≡ Some (two_files first second) → after.faults ≡ 0 → IfSome (form_of words) IsInRange
    → IfOk result (IsReply (form_of words) before after) → IfOk result (IsAnswered given first second)
answered (Ok reply) words given first second before after same holds calm range r =
    subst (λ ws. IsAnswered ws first second reply) same
    (let files = two_files first second in
    let answer = is_answer files 1 (command (form_of words)) before after reply r.is (record { exposed = holds; calm = never_rose before.faults after.faults calm }) in
    record { answer = answer; promises = answer_keeps (form_of words) range files [] reply answer })
answered (Err e) words given first second before after same holds calm range r = tt

pub returns-clause-reply : goal.returns-clause-reply
returns-clause-reply c =
    answered c.reply_alone.result (map (λ w. w.now) c.deref.result.now) _ c.args.first.now c.args.second.now _ _
    (ap (λ (ws : List (Bor (List ℕ))). map (λ w. w.now) ws) c.deref.ensures.value ∙ c.in_ok-words.ensures.texts)
    (ap (λ (s : CalmShelfState). Some (calm_files s.files)) c.in_ok-shelf.ensures) refl c.reply_alone.ensures.range c.reply_alone.ensures.reply

pub returns-clause-cause : goal.returns-clause-cause
returns-clause-cause c = rw (c.deref.ensures.value, c.in_ok-words.ensures.texts) at c.reply_alone.ensures.cause

pub returns-clause-alone : goal.returns-clause-alone
returns-clause-alone c = rw (c.deref.ensures.value, c.in_ok-words.ensures.texts) at c.reply_alone.ensures.alone
