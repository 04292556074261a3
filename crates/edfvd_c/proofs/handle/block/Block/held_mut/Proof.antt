-- `held_mut` lends what is in the block, and the block follows it.
use Rattle.std.specs.Prelude.{◌≡◌, ℕ, Option, Some, IsSome}
use mathlib.Core.Path.{refl}
use mathlib.Core.List.{List, [], ◌∷◌}
use seplogic.Ra.Ura.{Ura}
use base.Fraction.{full_share}
use mir.Syntax.{named}
use mir.Val.{Val, vptr}
use mir.Raw.{raw as bare}
use base.Logic.{ent, sep, id⊢}
use base.Fml.{GName, Fml, ftrue, flft, fsep}
use types.Logic.{Logic, sem}
use contract.Monad.{fact}
use contract.Running.{tables}
use types.Kit.{‵, raw, ◌⊛◌, some, later, at_ret, ◌$◌, ◌∵◌, !, qed, move, keep, use1, split, join, fsplit, fsplit3, fjoin, fpack, rewrite, pick, await, group, suffices, frame, done}
use types.Part.{whole, sub, look_in}
use types.Run.{stop, fld, load, of_opd, first, blocks, exec, returns, enter, addr}
use types.ByLocal.{alloc_all, pass_all, free_all, look_at, get, through, sets, sets_last, env}
use denote.Exit.{no}
use denote.Memory.{part_at, mem, cell_at, part_of}
use denote.RawPtr.{block_ptr}
use denote.Ref.{MutBor, MutRef, mut_vals, mut_Tells}
use denote.Signature.{plain, mut_ref_to}
use denote.Steps.{nothing, heard, opens}
use denote.Follow.{follows, Part, lends_Part}
use denote.Triple.Walked.{says, Stays, stay_dropped, walk_of, ends_at, Goes-spent_ref}
use Rattle.std.proofs.raw_atomic.Walks.{proved}
use Rattle.std.proofs.VecSteps.Shapes.{after}
use Rattle.std_alloc.proofs.BoxSteps.Form.{D, B, τ, word, handle}
use Rattle.std_alloc.proofs.BoxSteps.Steps.{box_out, box_in}
use Rattle.std.proofs.alloc.Calls.{token}
use Rattle.edfvd_c.proofs.handle.AsBox.{E, found}
use Rattle.edfvd_c.specs.Handle.Lending.{with_held}
use Rattle.edfvd_c.specs.declared.handle.held.Held as Held'
use Rattle.edfvd_c.specs.contracts.handle.held.Held as Held
use Rattle.edfvd_c.specs.contracts.handle.block.Block as Block
use Rattle.edfvd_c.specs.contracts.handle.block.Block.held_mut as f
use Rattle.edfvd_c.proofs.handle.block.Block.held_mut.Statement.{statement}
use Rattle.edfvd_c.proofs.handle.block.Block.held_mut.Code as code

abbrev X : Type 0
X = Held'.Held

abbrev Bk : Type 0
Bk = (Block.the_row).Denot

abbrev stayed : Stays f.ended.signature.params f.ended.kept
stayed = (stay_dropped (mut_ref_to (0 ∷ []) tt (plain (λ _. Block.the_row))) no, tt)

module _ {M : Type 1} {𝓤 : Ura M} (𝓛 : Logic 𝓤) (h : Bk) (b o : ℕ) (hv : Val) (rb ro : ℕ) where
  -- all of the block but what is in it
  abbrev Rest : Fml
  Rest = fsep (fsep (token E.al h.alloc (bare (τ E)) (block_ptr b o)) (handle E h.alloc hv)) (cell_at full_share (Block.the_row).mir (word E hv b o ∷ []) rb ro)

  back : h.at ≡ block_ptr b o → (w : X) → ent 𝓤 (sep 𝓤 (sem 𝓛 ((mem Held.the_row).own_at w b o)) (sem 𝓛 Rest)) (sem 𝓛 ((mem Block.the_row).own_at (with_held h w) rb ro))
  unfolding part_of
  back at_b w =
      qed 𝓛 (‵ (part_at Held.the_row full_share w b o) ∷ ‵ Rest ∷ []) ∵ move ! (1 ∷ []) $ fsplit ! $ fsplit ! $ move ! (3 ∷ []) $
      box_in E ! (record { ptr = h.at; alloc = h.alloc; value = w }) b o w at_b refl $
      use1 𝓛 (‵ ((Block.the_row).own_val (with_held h w) (word E hv b o ∷ []))) (id⊢ 𝓤 _) $ move ! (1 ∷ 0 ∷ []) $ fjoin ! $
      fpack ! (List Val) (λ us. fsep (cell_at full_share (Block.the_row).mir us rb ro) ((Block.the_row).own_val (with_held h w) us)) (word E hv b o ∷ []) $ done !

pub held_mut_spec : {M : Type 1} → statement M
held_mut_spec 𝓤 𝓛 𝓜 𝓡 wired =
    let c = f.clauses 𝓛 𝓜.mem 𝓡.returns in let W = walk_of 𝓛 f.ended stayed c in let 𝓣 = tables 𝓤 𝓛.H 𝓜 𝓡 𝓡.env in
    proved 𝓛 f.ended stayed c 𝓜 𝓡 (Goes-spent_ref 𝓛 1 (0 ∷ []) tt (plain (λ _. Block.the_row)), tt)
    f.Key.name code.function (code.unfolded 𝓤 𝓛.H 𝓜 𝓡 wired)
    (λ κs. (mut_vals, tt)) (λ κs. (mut_Tells (named 0) κs.0 Block.the_row, tt)) (λ κs qs bounds a _ are.
    let κ = κs.0 in let q = qs.0 in let rb = a.0.ref_ptr.0 in let ro = a.0.ref_ptr.1 in let γ = a.0.ghost_name in let h = a.0.now in let vs = mut_vals a.0 in
    let y : W.Ghost = ((κs, qs, bounds, a, (vs, tt)), tt) in
    qed 𝓛 (((‵ (flft κ q) ⊛ ‵ ftrue) ⊛ ‵ ((MutRef (named 0) κ Block.the_row).own_val a.0 vs) ⊛ ‵ ftrue) ∷ raw (fact 𝓤 (IsSome h.held)) ∷ []) ∵
    move ! (1 ∷ []) $ heard ! (IsSome h.held) (λ some_held.
    let x = (found h.held some_held).0 in let is : h.held ≡ Some x = (found h.held some_held).1 in
    let v : D E = record { ptr = h.at; alloc = h.alloc; value = x } in
    split ! $ split ! $ move ! (2 ∷ []) $ split ! $ keep ! (0 ∷ 2 ∷ []) $
    enter ! _ _ _ _ _ $ alloc_all ! (λ l. pass_all ! refl ((tt, tt), tt) $
    fsplit3 ! $ move ! (1 ∷ 2 ∷ 3 ∷ []) $ opens ! tt Block.the_row {h = h} rb ro (λ us. move ! (1 ∷ []) $
    rewrite ! 0 (λ (c : Option X). ‵ ((Block.the_row).own_val (record { at = h.at; alloc = h.alloc; held = c }) us)) is refl $
    use1 𝓛 (‵ ((B E).own_val v us)) (id⊢ 𝓤 _) $ box_out E ! v us (λ b o hv at_b ws fa.
    move ! (1 ∷ 2 ∷ []) $ fjoin ! $ move ! (1 ∷ []) $ rewrite ! 2 (λ (us : List Val). ‵ (cell_at full_share (Block.the_row).mir us rb ro)) ws refl $
    -- [what is in it; the token with the allocator; the block's cell; the open borrow, in three entries]
    first ! $ blocks ! $
    sets ! (of_opd ! (load ! (through ! refl (fld ! refl (stop !))) (look_in ! 2 (sub ! 0 refl (whole !))))) refl (tt, tt) $
    sets ! (of_opd ! (get ! refl)) refl (tt, tt) $
    sets_last ! (addr ! (through ! refl (stop !))) refl (tt, tt) $
    exec ! 𝓣.C 𝓣.Λ (env code.Mir.locals l) (after 1 (code.function).body) (at_ret _ (W.post y)) $
    sets ! (of_opd ! (get ! refl)) refl (tt, tt) $
    move ! (1 ∷ 2 ∷ []) $ fjoin ! $ move ! (2 ∷ 3 ∷ 4 ∷ 1 ∷ 0 ∷ []) $ group ! 5 $
    let rest = sem 𝓛 (Rest 𝓛 h b o hv rb ro) in let way = back 𝓛 h b o hv rb ro at_b in let old = (Block.the_row).coded.code h in
    use1 𝓛 (later (some (λ (δ : GName). raw (Part 𝓛 Block.the_row Held.the_row (with_held h) (named 0) κ q rb ro b o γ rest way x δ))))
    (lends_Part 𝓛 Block.the_row Held.the_row (with_held h) (named 0) κ q rb ro b o γ rest way old old x) $ await ! tt $ pick ! (λ δ.
    returns ! (look_at ! 0 refl) $ free_all ! refl $ keep ! (0 ∷ []) $
    let r : MutBor X = record { ref_ptr = (b, o); ghost_name = δ; now = x } in
    use1 𝓛 (‵ ((MutRef (named 0) κ Held.the_row).own_val r (vptr b o ∷ [])) ⊛ ‵ (flft κ q) ⊛ ‵ (follows Block.the_row Held.the_row γ δ (with_held h))) (id⊢ 𝓤 _) $ split ! $ move ! (1 ∷ []) $ split ! $ move ! (2 ∷ 0 ∷ 1 ∷ []) $
    suffices ! _ (ends_at 𝓛 f.ended stayed c y (vptr b o) r (tt, tt) (tt, tt)) $
    nothing ! $ nothing ! $ fjoin ! $ join ! $ nothing ! $ move ! (2 ∷ 0 ∷ []) $ join ! $ join ! $ frame ! $ says ! is $ done !))))))
