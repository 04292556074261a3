-- The command `demand DEMANDS`: whether tasks with constrained deadlines meet them all under plain EDF.
use Rattle.std.specs.Prelude.{◌≡◌, ℕ, List, ◌++◌, codes, decimal}
use Rattle.demand_test.specs.declared.demand.Demand.{Demand as Asked}
use Rattle.demand_test.specs.declared.fit.Fit.{Fit}
use Rattle.demand_test.specs.declared.fit.Fit.TheVariants.{Within, Past}
use Rattle.demand_test.specs.DemandSet.{IsDemandSet}
use Rattle.demand_test.specs.DemandBound.{IsFit}
use Rattle.demand_test.specs.CounterText.{ShowsCounter}
use Rattle.demand_test.specs.DemandFile.{demands_in}
use Rattle.replies.specs.Reply.{Reply, reply_of}
use Rattle.replies.specs.Refusal.{DemandFile}
use Rattle.replies.specs.Reading.{refused_as}
use Rattle.command.specs.Command.{Command, answer, read_or_refuse}
use Rattle.command.specs.Admitted.{fetch_table}

-- the line for a set that is schedulable: in each length up to h it asks for no more ticks than there are
abbrev pub within_line : ℕ → List ℕ
within_line h = codes "schedulable, demand checked to " ++ (decimal h ++ codes "\n")

-- the line for a set that is not schedulable: it asks for m ticks in length n, which is fewer
abbrev pub past_line : ℕ → ℕ → List ℕ
past_line n m =
    codes "not schedulable: demand " ++ (decimal m ++ (codes " in length " ++ (decimal n ++ codes "\n")))

-- the reply says the test's answer: with status 0 that the set is schedulable, or with status 10 that it is
-- not, with a counterexample
abbrev pub IsFitReply : List Asked → Fit → Reply → Type 0
IsFitReply set (Within h) reply = reply ≡ reply_of 0 (within_line h)
IsFitReply set (Past n m) reply =
    (text : List ℕ) × ShowsCounter set n text × (reply ≡ reply_of 10 (past_line n m ++ text))

-- the tasks that were read are a set, and the reply says the test's answer for it
pub record IsDemandReply (set : List Asked) (reply : Reply) : Type 0 where
  pub is_set : IsDemandSet set
  pub fit : Fit
  pub is : IsFit set fit
  pub fit_reply : IsFitReply set fit reply

-- the command `demand` on the demand file of this name
abbrev pub demand : List ℕ → Command
demand demands = fetch_table demands (λ bytes.
    read_or_refuse (refused_as DemandFile (demands_in bytes)) (λ set. answer (IsDemandReply set)))
