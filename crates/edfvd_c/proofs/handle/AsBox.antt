-- A block and its parts own what a box at the same types owns.
use Rattle.std.specs.Prelude.{Bool, true, false, ◌≡◌, Option, Some, None, IsSome}
use mathlib.Core.Path.{refl, subst}
use mir.Syntax.{impl, tnil, dnil}
use mathlib.Core.List.{[]}
use denote.Signature.{Slot, plain}
use Rattle.std_alloc.proofs.BoxSteps.Form.{Bx}
use Rattle.std_heap.specs.contracts.Global as Heap
use Rattle.std_heap.specs.contracts.GlobalAllocator.TheImpl.{ghosts, dict}
use Rattle.std_heap.proofs.Global.TheLaws as heap
use Rattle.edfvd_c.specs.contracts.handle.held.Held as Held
use Rattle.edfvd_c.proofs.handle.held.Held.TheLaws as held
use Rattle.edfvd_c.specs.contracts.handle.parts.Parts as Parts
use Rattle.edfvd_c.specs.contracts.handle.block.Block as Block

abbrev pub E : Bx
E = record { row = Held.the_row; laws = held.the_row_laws; al = record { row = Heap.the_row; laws = heap.the_row_laws; g = ghosts; d = dict; drops = impl [] tnil dnil } }

abbrev pub FromParts : Slot 0
FromParts = plain (λ _. Parts.the_row Held.the_row Heap.the_row ghosts)

abbrev pub FromBlock : Slot 0
FromBlock = plain (λ _. Block.the_row)

abbrev Apart : Bool → Type 0
Apart false = Unit {0}
Apart true = ⊥

-- what is in an option that has something in it
pub found : {A : Type 0} (c : Option A) → IsSome c → (x : A) × (c ≡ Some x)
found (Some x) t = (x, refl)
found None t = absurd (subst Apart t tt)
