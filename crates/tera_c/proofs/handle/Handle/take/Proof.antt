-- `take` hands the pointer out, and leaves null.
use Rattle.std.proofs.Common.{◌≡◌, List, [], ◌∷◌, ◌++◌, refl, sym, subst, lit<, Option, None, Some, IsSome}
use mir.Raw.{raw as bare}
use mir.Syntax.{impl, tnil, dnil}
use mir.Val.{Val, vptr}
use base.Fraction.{full_share}
use base.Logic.{SProp, ent, emp, id⊢, never, fst∗}
use base.Fml.{ftrue, flft}
use prog.Wp.{WpFn}
use types.Logic.{sem}
use types.Kit.{‵, raw, ◌⊛◌, ◌$◌, ◌∵◌, !, qed, by, move, keep, split, join, fsplit3, fjoin, fjoin3, suffices, use0, feq_i, rewrite}
use types.Run.{stop, fld, of_opd, lit, load, assigns, returns, enter}
use types.ByLocal.{alloc_all, pass_all, free_all, look_at, get, through, sets}
use types.Part.{agg, sub, whole, look_in, store_in}
use types.Run.{and_then, no_more}
use contract.Monad.{fact, fact_i}
use contract.Running.{tables}
use denote.Exit.{yes}
use denote.RattleType.{RattleType, owns}
use denote.Memory.{cell_at, lone}
use denote.Signature.{types_at, plain}
use denote.RawPtr.{Ptr, block_ptr, null_ptr, in_a_block}
use denote.Steps.{nothing, heard}
use denote.Triple.Walked.{Stays, stay_ref, stay_dropped, Goes-ref, walk_of}
use Rattle.std.proofs.alloc.Calls.{Goes-blank, handle_tells}
use Rattle.std.proofs.raw_atomic.Walks.{proved_at, leaves}
use Rattle.std.specs.contracts.alloc.Global as global
use Rattle.std.proofs.alloc.Global.TheLaws as global_laws
use Rattle.std.specs.contracts.impls.GlobalAllocator.TheImpl.{ghosts}
use Rattle.std.specs.Box.Ownership.{box_owns}
use Rattle.tera_c.proofs.Pointers.{pair, pair_fits, pointer_in}
use Rattle.tera_c.specs.declared.pack_renderer.PackRenderer.{PackRenderer}
use Rattle.tera_c.specs.Held.{heap, holds}
use Rattle.tera_c.proofs.Handles.{R, H, word, handle_opens, handle_closes, found}
use Rattle.tera_c.specs.contracts.handle.Handle.take.{ended, clauses}
use Rattle.tera_c.specs.contracts.handle.Handle.take.Key.{name as #self}
use Rattle.tera_c.proofs.handle.Handle.take.Statement.{statement}
use Rattle.tera_c.proofs.handle.Handle.take.Code as code

abbrev stayed : Stays ended.signature.params ended.kept
stayed = (stay_ref (0 ∷ []) tt (plain (λ _. H)), (stay_dropped (plain (λ _. global.the_row)) yes, tt))

pub take_spec : {M : Type 1} → statement M
take_spec 𝓤 𝓛 𝓜 𝓡 wired =
    let c = clauses 𝓛 𝓜.mem 𝓡.returns in let 𝓣 = tables 𝓤 𝓛.H 𝓜 𝓡 𝓡.env in let Z : RattleType = global.the_row in let LZ = global_laws.the_row_laws in
    proved_at 𝓛 ended stayed c 𝓜 𝓡 (Goes-ref 𝓛 1 0 tt (plain (λ _. H)), (Goes-blank 𝓛 1 (plain (λ _. Z)) yes (λ κs x f. tt), tt)) #self code.function (code.unfolded 𝓤 𝓛.H 𝓜 𝓡 wired) (λ z are.
    let m = z.0.3.0 in let b = m.ref_ptr.0 in let o = m.ref_ptr.1 in let h = m.now in let a = z.0.3.1.0 in let gone : Option PackRenderer = None in let Post : Val → SProp 𝓤 = (walk_of 𝓛 ended stayed c).post z in
    let Run : List Val → SProp 𝓤 = λ ws. WpFn 𝓤 𝓛.H 𝓣.C 𝓣.Λ code.function ws Post in
    qed 𝓛 (((‵ (flft z.0.0.0 z.0.1.0) ⊛ ‵ ftrue) ⊛ ‵ (owns (types_at ended.signature.params z.0.0) z.0.3 z.0.4)) ∷ raw (fact 𝓤 (IsSome h.value)) ∷ []) ∵
    move ! (1 ∷ []) $ heard ! (IsSome h.value) (λ is. found ! h.value is (λ x some.
    split ! $ split ! $ move ! (2 ∷ []) $ fsplit3 ! $ keep ! (1 ∷ 0 ∷ 3 ∷ []) $
    -- [the allocator; the `&mut`; the token]
    handle_tells (record { row = Z; laws = LZ; g = ghosts; d = impl [] tnil dnil; drops = impl [] tnil dnil }) ! a z.0.4.1.0 (λ w ws fits.
    suffices ! (Run (vptr b o ∷ w ∷ [])) (subst (λ (us : List Val). ent 𝓤 (Run (vptr b o ∷ w ∷ [])) (Run us)) (sym (λ i. are.0.0 i ++ (ws i ++ []))) (id⊢ 𝓤 (Run (vptr b o ∷ w ∷ [])))) $
    enter ! _ _ _ _ _ $ alloc_all ! (λ l. pass_all ! refl ((tt, tt), (fits, tt)) $
    move ! (1 ∷ []) $ fsplit3 ! $ move ! (1 ∷ 2 ∷ 4 ∷ []) $ handle_opens ! tt h b o $
    -- [what it owns; its cell; the open borrow, in three; the reference; the allocator]
    rewrite ! 0 (λ (y : Option PackRenderer). ‵ (holds h.at y)) some refl $
    in_a_block ! h.at (λ p. box_owns (ghosts.dealloc_token heap) R p x) (fst∗ 𝓤 (never 𝓤) (sem 𝓛 (ghosts.dealloc_token heap (bare (lone R.mir)) null_ptr))) (λ nb no' e.
    rewrite ! 1 (λ (p : Ptr). ‵ (cell_at full_share H.mir (word p ∷ []) b o)) e refl $
    sets ! (of_opd ! (load ! (through ! refl (fld ! refl (stop !))) (look_in ! 1 (sub ! 0 refl (whole !))))) refl (tt, tt) $ sets ! (of_opd ! (get ! refl)) refl (tt, tt) $
    assigns ! (of_opd ! (lit ! tt)) (through ! refl (fld ! refl (stop !))) (store_in ! 1 (sub ! 0 refl (whole !)) (tt, record { fits = lit< tt })) $
    sets ! (agg ! (and_then ! (get ! refl) (and_then ! (get ! refl) (no_more !)))) refl (pair_fits R Z LZ ghosts nb no' w fits) $
    feq_i ! Ptr null_ptr null_ptr refl $ move ! (0 ∷ 2 ∷ 3 ∷ 4 ∷ 5 ∷ []) $ handle_closes ! tt null_ptr None b o $
    -- [two parts of the `&mut`; the token; the box; the `&mut`'s first part; the allocator]
    move ! (3 ∷ 5 ∷ []) $ pointer_in R Z LZ ghosts ! nb no' w a x $
    returns ! (look_at ! 0 refl) $ free_all ! refl $ move ! (4 ∷ 1 ∷ 2 ∷ []) $ fjoin3 ! $ nothing ! $ nothing ! $ fjoin ! $ move ! (1 ∷ 0 ∷ []) $ fjoin ! $
    -- [the `&mut`, and nothing of the allocator; the loose box; the token]
    nothing ! $ move ! (3 ∷ 0 ∷ []) $ join ! $
    use0 𝓛 (raw (fact 𝓤 (Some x ≡ h.value))) (fact_i 𝓤 (Some x ≡ h.value) (emp 𝓤) (sym some)) $ use0 𝓛 (raw (fact 𝓤 (gone ≡ None))) (fact_i 𝓤 (gone ≡ None) (emp 𝓤) refl) $ join ! $
    keep ! (1 ∷ 2 ∷ 3 ∷ 0 ∷ []) $ by ! (leaves 𝓛 ended stayed c z (pair (vptr nb no') w) (record { at = block_ptr nb no'; alloc = a; value = x }) (record { at = null_ptr; value = None }, (tt, tt)) (tt, (tt, tt)))))))))
