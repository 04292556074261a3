-- Which history the shared state stands for.
use Rattle.std.specs.Prelude.{◌≡◌, List, option_map}
use Rattle.mode_core.specs.Events.{empty_state}
use Rattle.mode_core.specs.Shape.{IsSound}
use Rattle.timetable.specs.Floor.{FloorState, opening}
use Rattle.timetable.specs.Plans.{IsOnPlan}
use Rattle.executive.specs.declared.entry.Entry.{Entry}
use Rattle.status_board.specs.Tokens.{writer_board}
use Rattle.executive.specs.declared.state.State.{State}
use Rattle.executive.specs.declared.state.Opened.{Opened}
use Rattle.executive.specs.Histories.{after, IsLegal}
use Rattle.executive.specs.Shows.{shows, HasShown}

-- the floor before any call: its set, rule, capacity and plan, with no rows and no granted tick
abbrev pub opening_of : FloorState → FloorState
opening_of f = opening (empty_state f.core.set f.core.rule f.core.places) f.plan

-- the part of the state that no call changes
abbrev pub opened : State → Opened
opened s = record { floor = opening_of s.called.floor; board = option_map writer_board s.writer }

-- the core keeps its laws, and keeps to its plan
pub record IsKept (f : FloorState) : Type 0 where
  pub sound : IsSound f.core
  pub on_plan : IsOnPlan f.plan f.taken f.core

-- the history is legal from the opening floor, and leaves this floor; if there is a board, the history was
-- shown there
pub record Stands (log : List Entry) (s : State) : Type 0 where
  pub legal : IsLegal (opening_of s.called.floor) log
  pub leaves : s.called.floor ≡ after (opening_of s.called.floor) log
  pub kept : IsKept s.called.floor
  pub shown : HasShown (shows (opening_of s.called.floor) log) s.writer
