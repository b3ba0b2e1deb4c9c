-- A handle's machine value, and the steps that open and close a `&mut` to one. Assumes `Logic`.
--     word p             the machine value of a handle whose pointer is p
--     handle_opens       a `&mut` to a handle is [what it owns; its cell; the open borrow, in three entries]
--     handle_closes      the same back, at another pointer and another value
--     found              a value that is there
--     tested             what a handle owns tells whether its pointer is null
use Rattle.std.proofs.Common.{◌≡◌, ℕ, List, [], ◌∷◌, ◌++◌, refl, sym, subst, lit<, Bool, true, false, not, Option, None, Some, is_some, IsSome}
use lib.Dec.{T}
use seplogic.Ra.Ura.{Ura}
use base.Fraction.{full_share}
use mir.Raw.{raw as bare}
use mir.Val.{Val, vnull, vstruct, vcons, vnil, of_list, ptr_same}
use base.Logic.{via, never, fst∗, snd∗, guard_i}
use base.Stored.{Gv}
use base.Fml.{Lft, GName, Share, flft, fobs, fauth, fbor, fobor}
use types.Logic.{Logic, sem}
use types.SemTy.{Body as Borrowed}
use types.Kit.{Goal, Soaks, Step, step, Seq, Item, ‵, given, ◌$◌, move, drop, use1, learn, rewrite, fsplit, fjoin, fpick, fpack, feq_i, feq_l}
use contract.Monad.{fact_use}
use denote.RattleType.{RattleType, Valss}
use denote.Memory.{cell_at, mem, lone}
use denote.RawPtr.{Ptr, RawPtr, block_ptr, null_ptr, ptr_val, in_a_block, lies_at, Testable}
use denote.Steps.{opens, closes, nothing}
use denote.Struct.Struct.{within}
use denote.Struct.Owning.{shape}
use Rattle.std.specs.contracts.alloc.Global as global
use Rattle.std.specs.contracts.impls.GlobalAllocator.TheImpl.{ghosts}
use Rattle.std.proofs.GlobalToken.{dealloc_token-Testable}
use Rattle.std.specs.Box.Ownership.{box_owns}
use Rattle.tera_c.specs.contracts.box_pointer.BoxPointer as loose
use Rattle.tera_c.specs.declared.pack_renderer.PackRenderer.{PackRenderer}
use Rattle.tera_c.specs.contracts.pack_renderer.PackRenderer as engine
use Rattle.tera_c.specs.contracts.handle.Handle as handle
use Rattle.tera_c.specs.Held.{heap, holds}

-- the engine, the handle, and a loose box of the engine
abbrev pub R : RattleType
R = engine.the_row

abbrev pub H : RattleType
H = handle.the_row

abbrev pub L : RattleType
L = loose.the_row R global.the_row ghosts

abbrev pub word : Ptr → Val
word p = vstruct (vcons (ptr_val p) vnil)

module _ {M : Type 1} {𝓤 : Ura M} {𝓛 : Logic 𝓤} {K : Type 0} {Γ : List (Item 𝓤)} {G : Goal 𝓤 𝓛.H} where
  pub handle_opens : K → Soaks G → {κ : Lft} {q : Share} {γ : GName} (h : H.Denot) (b o : ℕ)
      → Step K 𝓛 (‵ (holds h.at h.value) ∷ ‵ (cell_at full_share H.mir (word h.at ∷ []) b o) ∷ ‵ (fobor κ q (Borrowed (mem H) b o γ)) ∷ ‵ (fobs γ (H.coded.code h)) ∷ ‵ (fauth γ (H.coded.code h)) ∷ Γ) G
      (‵ (fobs γ (H.coded.code h)) ∷ ‵ (fbor κ (Borrowed (mem H) b o γ)) ∷ ‵ (flft κ q) ∷ Γ) G
  handle_opens t z h b o = step (λ s.
      opens t z H {h = h} b o (λ vs. move t (1 ∷ []) $ fsplit t $ fpick t (λ vss. fsplit t $ feq_l t (λ ev. fsplit t $ feq_l t (λ ep. drop t $
      rewrite t 1 (λ (us : List Val). ‵ (cell_at full_share H.mir us b o)) (subst (λ (ps : List Val). vs ≡ vstruct (of_list (ps ++ [])) ∷ []) ep ev) refl $ s)))))

  pub handle_closes : K → Soaks G → {κ : Lft} {q : Share} {v w : Gv} {γ : GName} (p : Ptr) (y : Option PackRenderer) (b o : ℕ)
      → Step K 𝓛 (‵ (fobs γ (H.coded.code (record { at = p; value = y }))) ∷ ‵ (fbor κ (Borrowed (mem H) b o γ)) ∷ ‵ (flft κ q) ∷ Γ) G
      (‵ (holds p y) ∷ ‵ (cell_at full_share H.mir (word p ∷ []) b o) ∷ ‵ (fobor κ q (Borrowed (mem H) b o γ)) ∷ ‵ (fobs γ v) ∷ ‵ (fauth γ w) ∷ Γ) G
  handle_closes t z p y b o = step (λ s.
      nothing t $ feq_i t (List Val) (ptr_val p ∷ []) (ptr_val p ∷ []) refl $ fjoin t $ feq_i t (List Val) (word p ∷ []) (word p ∷ []) refl $ fjoin t $
      fpack t (Valss (RawPtr ∷ [])) (within (shape handle.the_type) (p, tt) (word p ∷ [])) (ptr_val p ∷ [], tt) $ fjoin t $
      move t (1 ∷ 0 ∷ []) $ closes t z H (record { at = p; value = y }) (word p ∷ []) b o $ s)

  pub tested : K → (p : Ptr) (y : Option PackRenderer) → (Testable p → is_some y ≡ not (ptr_same (ptr_val p) vnull) → Seq K 𝓛 (‵ (holds p y) ∷ Γ) G) → Seq K 𝓛 (‵ (holds p y) ∷ Γ) G
  tested t p None k = feq_l t (λ e. feq_i t Ptr p null_ptr e $ k (subst Testable (sym e) (lit< tt)) (subst (λ (n : Ptr). false ≡ not (ptr_same (ptr_val n) vnull)) (sym e) refl))
  tested t p (Some x) k =
      in_a_block t p (λ n. box_owns (ghosts.dealloc_token heap) R n x) (fst∗ 𝓤 (never 𝓤) (sem 𝓛 (ghosts.dealloc_token heap (bare (lone R.mir)) null_ptr))) (λ b o e. let n = block_ptr b o in
      use1 𝓛 (given (Testable n) (‵ (box_owns (ghosts.dealloc_token heap) R n x)))
      (fact_use 𝓤 (Testable n) (via 𝓤 _ (snd∗ 𝓤 (sem 𝓛 (lies_at R full_share n x)) (sem 𝓛 (ghosts.dealloc_token heap (bare (lone R.mir)) n))) (dealloc_token-Testable 𝓛 heap (bare (lone R.mir)) n)) (guard_i 𝓤 (Testable n) (sem 𝓛 (box_owns (ghosts.dealloc_token heap) R n x)))) $
      learn t (λ ok. rewrite t 0 (λ (m : Ptr). ‵ (box_owns (ghosts.dealloc_token heap) R m x)) (sym e) refl $ k (subst Testable (sym e) ok) (subst (λ (m : Ptr). true ≡ not (ptr_same (ptr_val m) vnull)) (sym e) refl)))

  pub found : K → (y : Option PackRenderer) → IsSome y → ((x : PackRenderer) → y ≡ Some x → Seq K 𝓛 Γ G) → Seq K 𝓛 Γ G
  found t None i k = absurd (subst (λ (y : Bool). T (not y)) i tt)
  found t (Some x) i k = k x refl
