-- What a block and a handle end as, once what they lent has come back.
use Rattle.std.specs.Prelude.{Option, Some}
use Rattle.std.specs.Borrow.{Lends, LendsIf, MutBor, Fml}
use mathlib.Core.Path.{refl}
use Rattle.edfvd_c.specs.Handle.{open_mark}
use Rattle.edfvd_c.specs.declared.handle.held.Held.{Held}
use Rattle.edfvd_c.specs.contracts.handle.held.Held.{the_row as held_row}
use Rattle.edfvd_c.specs.declared.handle.block.Block.{Block}
use Rattle.edfvd_c.specs.contracts.handle.block.Block.{the_row as block_row}
use Rattle.edfvd_c.specs.declared.handle.Handle.{Handle}
use Rattle.edfvd_c.specs.contracts.handle.Handle.{the_row}

-- the block with w in it
abbrev pub with_held : Block → Held → Block
with_held b w = record { at = b.at; alloc = b.alloc; held = Some w }

-- the open handle with w in it
abbrev pub open_with : Handle → Held → Handle
open_with h w = record { mark = open_mark; block = with_held h.block w; marked = (λ e. refl, λ ne. absurd (ne refl)) }

-- the block ends with the last value that is written through r in it
abbrev pub BlockLends : MutBor Block → MutBor Held → Fml
BlockLends b r = Lends block_row held_row b r (with_held b.now)

-- the handle ends open, with the last value that is written through r in it, or as it was if it lends nothing
abbrev pub HandleLends : MutBor Handle → Option (MutBor Held) → Fml
HandleLends h r = LendsIf the_row held_row h r (open_with h.now) h.now
