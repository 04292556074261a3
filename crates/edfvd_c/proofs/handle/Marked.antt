-- An open handle that lent what it holds, whatever is written there.
use Rattle.std.proofs.Common.{◌≡◌, ℕ, inl, ap, subst}
use Rattle.std.proofs.Props.{props}
use Rattle.std.specs.Prelude.{◌⊎◌, Option, Some}
use base.Fml.{GName}
use Rattle.edfvd_c.specs.Handle.{IsMarked, open_mark}
use Rattle.edfvd_c.specs.Handle.Lending.{with_held, open_with}
use Rattle.edfvd_c.specs.declared.handle.held.Held.{Held}
use Rattle.edfvd_c.specs.declared.handle.block.Block.{Block}
use Rattle.edfvd_c.specs.declared.handle.Handle.{Handle}

IsMarked-prop : (m : ℕ) (h : Option Held) → IsProp (IsMarked m h)
IsMarked-prop m h = Prim.hlevel props

abbrev pub handle_of : (m : ℕ) (b : Block) → IsMarked m b.held → Handle
handle_of m b marked = record { mark = m; block = b; marked = marked }

abbrev Same : ℕ → Block → ℕ → Type 0
Same m b k = (x : IsMarked m b.held) (y : IsMarked k b.held) → handle_of m b x ≡ handle_of k b y

-- two handles with one mark and one block are one
same_handle : (m : ℕ) (b : Block) → m ≡ open_mark → Same m b open_mark
same_handle m b e = subst (Same m b) e (λ x y. ap (handle_of m b) (IsMarked-prop m b.held x y))

-- with the mark of an open handle, and with w in its block, it is the open handle with w in it
pub lends_open : (γ : GName) (h : Handle) → h.mark ≡ open_mark → (given : (w : Held) → IsMarked h.mark (Some w))
    → ◌≡◌ {A = (GName × (Held → Handle)) ⊎ Handle} (inl (γ, λ w. handle_of h.mark (with_held h.block w) (given w))) (inl (γ, open_with h))
lends_open γ h e given = λ j. inl (γ, λ w. same_handle h.mark (with_held h.block w) e (given w) (open_with h w).marked j)
