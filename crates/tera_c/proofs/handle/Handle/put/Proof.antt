-- `put` stores the pointer of the box.
use Rattle.std.proofs.Common.{◌≡◌, List, [], ◌∷◌, ◌++◌, refl, sym, subst, None, Some}
use mir.Val.{Val, vptr, vunit}
use base.Logic.{SProp, ent, emp, id⊢}
use base.Fml.{ftrue, flft}
use prog.Wp.{WpFn}
use types.Kit.{‵, raw, ◌⊛◌, ◌$◌, ◌∵◌, !, qed, by, move, keep, drop, split, join, fsplit3, fjoin, fjoin3, suffices, use0, feq_i}
use types.Run.{stop, fld, of_opd, unit_lit, assigns, returns, enter}
use types.ByLocal.{alloc_all, pass_all, free_all, look_at, get, get_in, through, sets}
use types.Part.{sub, whole, store_in}
use contract.Monad.{fact, fact_i}
use contract.Running.{tables}
use denote.Exit.{yes}
use denote.RattleType.{RattleType, owns}
use denote.Signature.{types_at, plain}
use denote.RawPtr.{block_ptr}
use denote.Steps.{nothing}
use denote.Triple.Walked.{Stays, stay_ref, stay_dropped, Goes-ref, walk_of}
use Rattle.std.proofs.alloc.Calls.{Goes-blank}
use Rattle.std.proofs.raw_atomic.Walks.{proved_at, leaves}
use Rattle.std.specs.contracts.alloc.Global as global
use Rattle.std.proofs.alloc.Global.TheLaws as global_laws
use Rattle.std.specs.contracts.impls.GlobalAllocator.TheImpl.{ghosts}
use Rattle.tera_c.proofs.Pointers.{pair, pair_fits, pointer_out}
use Rattle.tera_c.proofs.Handles.{R, H, L, handle_opens, handle_closes}
use Rattle.tera_c.specs.contracts.handle.Handle.put.{ended, clauses}
use Rattle.tera_c.specs.contracts.handle.Handle.put.Key.{name as #self}
use Rattle.tera_c.proofs.handle.Handle.put.Statement.{statement}
use Rattle.tera_c.proofs.handle.Handle.put.Code as code

abbrev stayed : Stays ended.signature.params ended.kept
stayed = (stay_ref (0 ∷ []) tt (plain (λ _. H)), (stay_dropped (plain (λ _. L)) yes, tt))

pub put_spec : {M : Type 1} → statement M
put_spec 𝓤 𝓛 𝓜 𝓡 wired =
    let c = clauses 𝓛 𝓜.mem 𝓡.returns in let 𝓣 = tables 𝓤 𝓛.H 𝓜 𝓡 𝓡.env in let Z : RattleType = global.the_row in let LZ = global_laws.the_row_laws in
    proved_at 𝓛 ended stayed c 𝓜 𝓡 (Goes-ref 𝓛 1 0 tt (plain (λ _. H)), (Goes-blank 𝓛 1 (plain (λ _. L)) yes (λ κs x f. tt), tt)) #self code.function (code.unfolded 𝓤 𝓛.H 𝓜 𝓡 wired) (λ z are.
    let m = z.0.3.0 in let b = m.ref_ptr.0 in let o = m.ref_ptr.1 in let h = m.now in let v = z.0.3.1.0 in let Post : Val → SProp 𝓤 = (walk_of 𝓛 ended stayed c).post z in
    let Run : List Val → SProp 𝓤 = λ ws. WpFn 𝓤 𝓛.H 𝓣.C 𝓣.Λ code.function ws Post in
    qed 𝓛 (((‵ (flft z.0.0.0 z.0.1.0) ⊛ ‵ ftrue) ⊛ ‵ (owns (types_at ended.signature.params z.0.0) z.0.3 z.0.4)) ∷ raw (fact 𝓤 (h.value ≡ None)) ∷ []) ∵
    split ! $ split ! $ move ! (2 ∷ []) $ fsplit3 ! $ keep ! (1 ∷ 0 ∷ 3 ∷ []) $
    -- [the loose box; the `&mut`; the token]
    pointer_out R Z LZ ghosts ! v z.0.4.1.0 (λ nb no' w e ws fits.
    suffices ! (Run (vptr b o ∷ pair (vptr nb no') w ∷ [])) (subst (λ (us : List Val). ent 𝓤 (Run (vptr b o ∷ pair (vptr nb no') w ∷ [])) (Run us)) (sym (λ i. are.0.0 i ++ (ws i ++ []))) (id⊢ 𝓤 (Run (vptr b o ∷ pair (vptr nb no') w ∷ [])))) $
    enter ! _ _ _ _ _ $ alloc_all ! (λ l. pass_all ! refl ((tt, tt), (pair_fits R Z LZ ghosts nb no' w fits, tt)) $
    sets ! (of_opd ! (get_in ! (fld ! refl (stop !)) (sub ! 0 refl (whole !)))) refl (tt, tt) $
    -- [the box; the allocator; the `&mut`; the token]
    move ! (2 ∷ []) $ fsplit3 ! $ move ! (1 ∷ 2 ∷ 5 ∷ []) $ handle_opens ! tt h b o $
    -- [what it owned; its cell; the open borrow, in three; the reference; the box; the allocator]
    drop ! $ assigns ! (of_opd ! (get ! refl)) (through ! refl (fld ! refl (stop !))) (store_in ! 0 (sub ! 0 refl (whole !)) (tt, tt)) $
    sets ! (of_opd ! (unit_lit !)) refl (tt, tt) $
    move ! (5 ∷ []) $ handle_closes ! tt (block_ptr nb no') (Some v.value) b o $
    -- [two parts of the `&mut`; the token; its first part]
    returns ! (look_at ! 0 refl) $ free_all ! refl $ move ! (3 ∷ []) $ fjoin3 ! $ nothing ! $ nothing ! $ fjoin ! $ move ! (1 ∷ 0 ∷ []) $ fjoin ! $
    nothing ! $ move ! (2 ∷ 0 ∷ []) $ join ! $ feq_i ! (List Val) (vunit ∷ []) (vunit ∷ []) refl $
    use0 𝓛 (raw (fact 𝓤 (Some v.value ≡ Some v.value))) (fact_i 𝓤 (Some v.value ≡ Some v.value) (emp 𝓤) refl) $
    keep ! (2 ∷ 3 ∷ 1 ∷ 0 ∷ []) $ by ! (leaves 𝓛 ended stayed c z vunit tt (record { at = block_ptr nb no'; value = Some v.value }, (tt, tt)) (tt, (tt, tt))))))
