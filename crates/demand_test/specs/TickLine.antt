-- The line of a tick that is kept for the next tick of its job.
use Rattle.std.specs.Prelude.{◌≡◌, ℕ, ◌+◌, ◌<◌, ◌^◌, List, ◌++◌, codes, decimal, length, Some, IfSome}
use Rattle.mc_task.specs.declared.task.JobId.{JobId}
use Rattle.demand_test.specs.declared.demand.Demand.{Demand}
use Rattle.demand_test.specs.declared.tick_line.TickLine.{TickLine}
use Rattle.demand_test.specs.CounterText.{job_text}

-- the line of tick n, which was given to the job
abbrev pub tick_line : List Demand → ℕ → JobId → List ℕ
tick_line set n j = codes "tick " ++ (decimal n ++ (job_text set j ++ codes "\n"))

-- this is the line of tick n, which was given to the job
pub record IsLineOf (set : List Demand) (n : ℕ) (j : JobId) (line : TickLine) : Type 0 where
  pub job : line.job ≡ Some j
  pub tick : line.tick ≡ n
  pub bytes : line.bytes.items ≡ tick_line set n j
  pub end : line.end ≡ 5 + length (decimal n)

-- if there is a line, it is that of its tick and its job
abbrev pub IsLine : List Demand → TickLine → Type 0
IsLine set line = IfSome line.job (λ j. IsLineOf set line.tick j line)

-- if ds are the digits of a number, the others are those of the next number
abbrev pub IsNext : List ℕ → List ℕ → Type 0
IsNext ds more = (n : ℕ) → n + 1 < 2 ^ 64 → ds ≡ decimal n → more ≡ decimal (n + 1)
