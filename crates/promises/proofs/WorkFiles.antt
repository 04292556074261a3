-- What is so of a work file: how much work it says at most, and of a command that goes on with the work in it.
use Rattle.std.proofs.Common.{◌≡◌, ◌≢◌, ℕ, ◌^◌, ◌≤◌, ◌<◌, ◌==◌, nat_le, Bool, true, false, cond, List, [], ◌∷◌, ◌++◌, length, Some, None, Ok, Err, refl, ap, ◌∙◌, arith}
use Rattle.std.proofs.lemmas.Bool.Decides.{nat_tests}
use Rattle.std.proofs.lemmas.List.{length-append}
use Rattle.csv.specs.Reading.{default_config, records, strip_bom}
use Rattle.csv_records.specs.Rows.{Means}
use Rattle.csv_records.proofs.RowLemmas.{file_keeps}
use Rattle.mc_task.specs.declared.task.Task.{Task}
use Rattle.mc_world.specs.Shelf.{Files}
use Rattle.mc_model.specs.declared.work.WorkRow.{WorkRow}
use Rattle.work_file.specs.WorkFile.{work_in, is_header, row_of, in_time, record_row, after_header}
use Rattle.work_file.specs.declared.fault.WorkCause.{WorkCause}
use Rattle.work_file.specs.declared.fault.WorkCause.TheVariants.{BadRecord, Header, TooMany}
use Rattle.replies.specs.Reply.{Reply}
use Rattle.replies.specs.Refusal.{WorkFile}
use Rattle.command.specs.Command.{Command, fetch, read_or_refuse}
use Rattle.command.specs.Outcome.{IsAnswer}
use Rattle.command.specs.Admitted.{work_of}
use Rattle.promises.specs.Headline.{bytes_of}
use Rattle.promises.specs.Complete.{SaysWork}
use Rattle.promises.proofs.AnswerSteps.{file_says, answer_by_file}

-- a record means a row only where fewer than 1,000,000 rows stand before it
few_before : (set : List Task) (before : List WorkRow) (fields : List (List ℕ)) (w : WorkRow) → record_row set before fields ≡ Ok w → length before < 1000000
unfolding record_row
few_before set before fields w h = go (nat_le 1000000 (length before)) refl h
  where
    go : (b : Bool) → nat_le 1000000 (length before) ≡ b
        → cond b (Err TooMany) (cond (length fields == 3) (in_time set before (row_of set fields)) (Err BadRecord)) ≡ Ok w → length before < 1000000
    go true e h = absurd (cc)
    go false e h = grind (arith, nat_tests, e)

-- with one more row that a record means there are at most 1,000,000 rows
few_after : (set : List Task) (first : List (List ℕ)) (means : Means WorkRow WorkCause) → after_header set first ≡ Some means
    → (before : List WorkRow) (fields : List (List ℕ)) (w : WorkRow) → length before ≤ 1000000 → means before fields ≡ Ok w → length (before ++ w ∷ []) ≤ 1000000
few_after set first means is before fields w few read = go (is_header first) is
  where
    go : (b : Bool) → cond b (Some (record_row set)) None ≡ Some means → length (before ++ w ∷ []) ≤ 1000000
    go true h =
        let same : record_row set ≡ means = cc in
        let room = few_before set before fields w (ap (λ (m : Means WorkRow WorkCause). m before fields) same ∙ read) in
        omega (arith, room, length-append before (w ∷ []))
    go false h = absurd (cc)

-- a work file has at most 1,000,000 rows
pub work-few : (set : List Task) (bytes : List ℕ) (work : List WorkRow) → work_in set bytes ≡ Ok work → length work ≤ 1000000
work-few set bytes work is = file_keeps (λ rows. length rows ≤ 1000000) (after_header set) Header (omega arith) (few_after set) (records default_config (strip_bom bytes)) work is

-- the command that goes on with the work in a work file
abbrev pub on_work : List Task → List ℕ → (List WorkRow → Command) → Command
on_work set work next = fetch work (2 ^ 24) (λ more. read_or_refuse (work_of set more) next)

-- a reply to a command that goes on with the work in a work file
module _ (files : Files) (reply : Reply) (set : List Task) (work : List ℕ) (next : List WorkRow → Command) (h : IsAnswer files 2 (on_work set work next) reply) where
  -- if the status is none of the work file's refusals, the file says some work, and the reply is an answer by it
  pub file_says_work : reply.status ≢ 7 → reply.status ≢ 4 → (rows : List WorkRow) × SaysWork (bytes_of files work) set rows × IsAnswer files 3 (next rows) reply
  file_says_work not_7 not_4 = file_says files reply 2 (2 ^ 24) work WorkFile (work_in set) next h not_7 (λ fault. not_4)

  -- if the file says some work, the reply is an answer by it
  pub answer_by_work : (rows : List WorkRow) → SaysWork (bytes_of files work) set rows → IsAnswer files 3 (next rows) reply
  answer_by_work rows says = answer_by_file files reply 2 (2 ^ 24) work WorkFile (work_in set) next h rows says
