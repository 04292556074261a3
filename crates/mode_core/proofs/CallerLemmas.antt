-- What a caller's proof may cite of the scheduler core.

-- no job of a sound state is late
pub use Rattle.mode_core.proofs.Timely.{sound_timely}
-- the chosen job is the first of those pending
pub use Rattle.mode_core.proofs.Chosen.{Choice, choice, IsFirst, is_first, all_from, none_pending}
-- of two pending jobs of a task one is older
pub use Rattle.mode_core.proofs.Apart.{Apart, Older, only, pending_apart}
-- the rows that the events add are legal
pub use Rattle.mode_core.proofs.Fits.{release_legal, idle_legal, tick_legal, chooses, same_bool-refl}
-- what the held releases add to the rows
pub use Rattle.mode_core.proofs.Held.{ticks-held, releases-held, IsSettled, settled_words}
pub use Rattle.mode_core.proofs.Releasing.{jobs-few, not_spent}
-- a good state by its parts, and when nothing is held
pub use Rattle.mode_core.proofs.Keep.{state, no_held}
-- when an event is not refused
pub use Rattle.mode_core.proofs.Options.{neither, not_if, no_map}
pub use Rattle.mode_core.proofs.Sound.{MayGrant, may_grant}
-- a run is its single ticks: none of them is refused, the job goes on after each but the last, and no run is longer than to the
-- boundary; and what an overrun discards
pub use Rattle.mode_core.proofs.Going.{MayRun, may_run, going_is, run_ticks, run_ends, run_fills, idling_is, idle_ticks, over_discards}
