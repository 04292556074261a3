-- A scheduler's clock, mode and jobs, in numbers.
use Rattle.std.specs.Prelude.{length, cond}
use Rattle.mc_model.specs.Rows.{ticks}
use Rattle.mc_model.specs.Mode.{high_mode}
use Rattle.mc_model.specs.Core.{State, chosen}
use Rattle.edfvd_c.specs.declared.scheduler.look.CLook.{CLook}
use Rattle.edfvd_c.specs.Row.{task_number, count_number}

-- a scheduler's clock, mode and jobs
abbrev pub look : State → CLook
look s = record {
  ticks = ticks s.rows;
  rows = length s.rows;
  high_mode = cond (high_mode s.rule s.rows) 1 0;
  out_task = task_number s.out;
  out_count = count_number s.out;
  chosen_task = task_number (chosen s.set s.rule s.rows);
  chosen_count = count_number (chosen s.set s.rule s.rows);
}

-- what is read of no scheduler
abbrev pub no_look : CLook
no_look = record { ticks = 0; rows = 0; high_mode = 0; out_task = 0; out_count = 0; chosen_task = 0; chosen_count = 0 }
