-- `is_full` compares the pointer with null.
use Rattle.std.proofs.Common.{◌≡◌, List, [], ◌∷◌, refl, sym, lit<, not, is_some}
use mir.Val.{Val, vnull, vbool, ptr_same}
use base.Logic.{emp}
use base.Fml.{ftrue, flft}
use types.Kit.{‵, raw, ◌⊛◌, ◌$◌, ◌∵◌, !, qed, by, move, keep, split, join, fsplit, fsplit3, fjoin, fjoin3, use0, feq_i}
use types.Run.{stop, fld, of_opd, lit, bin, load, returns, enter}
use types.ByLocal.{alloc_all, pass_all, free_all, look_at, get, through, sets}
use types.Part.{sub, whole, look_in}
use contract.Monad.{fact, fact_i}
use denote.RattleType.{owns}
use denote.Ref.{mut_vals, mut_Tells}
use denote.RawPtr.{ptr_val, rawptr_Lawful, tests_null}
use denote.Signature.{types_at, plain}
use denote.Steps.{nothing}
use denote.Triple.Walked.{Stays, stay_ref, Goes-ref}
use mir.Syntax.{named}
use Rattle.std.proofs.raw_atomic.Walks.{proved, leaves}
use Rattle.tera_c.proofs.Handles.{H, handle_opens, handle_closes, tested}
use Rattle.tera_c.specs.contracts.handle.Handle.is_full.{ended, clauses}
use Rattle.tera_c.specs.contracts.handle.Handle.is_full.Key.{name as #self}
use Rattle.tera_c.proofs.handle.Handle.is_full.Statement.{statement}
use Rattle.tera_c.proofs.handle.Handle.is_full.Code as code

abbrev stayed : Stays ended.signature.params ended.kept
stayed = (stay_ref (0 ∷ []) tt (plain (λ _. H)), tt)

pub is_full_spec : {M : Type 1} → statement M
is_full_spec 𝓤 𝓛 𝓜 𝓡 wired =
    let c = clauses 𝓛 𝓜.mem 𝓡.returns in
    proved 𝓛 ended stayed c 𝓜 𝓡 (Goes-ref 𝓛 1 0 tt (plain (λ _. H)), tt) #self code.function (code.unfolded 𝓤 𝓛.H 𝓜 𝓡 wired)
    (λ κs. (mut_vals, tt)) (λ κs. (mut_Tells (named 0) κs.0 H, tt)) (λ κs qs bounds a g are.
    let b = a.0.ref_ptr.0 in let o = a.0.ref_ptr.1 in let h = a.0.now in let vs = mut_vals a.0 in
    qed 𝓛 (((‵ (flft κs.0 qs.0) ⊛ ‵ ftrue) ⊛ ‵ (owns (types_at ended.signature.params κs) a (vs, tt))) ∷ ‵ ftrue ∷ []) ∵
    split ! $ split ! $ move ! (2 ∷ []) $ fsplit ! $ keep ! (0 ∷ 2 ∷ []) $
    enter ! _ _ _ _ _ $ alloc_all ! (λ l. pass_all ! refl ((tt, tt), tt) $ fsplit3 ! $ move ! (1 ∷ 2 ∷ 3 ∷ []) $ handle_opens ! tt h b o $
    -- [what it owns; its cell; the open borrow, in three; the reference]
    tested ! h.at h.value (λ test full.
    let r = not (ptr_same (ptr_val h.at) vnull) in
    sets ! (of_opd ! (lit ! tt)) refl (tt, record { fits = lit< tt }) $
    sets ! (of_opd ! (load ! (through ! refl (fld ! refl (stop !))) (look_in ! 1 (sub ! 0 refl (whole !))))) refl ((rawptr_Lawful 𝓛).typed h.at _ refl).0 $
    sets ! (bin ! (get ! refl) (get ! refl) (tests_null h.at test)) refl (tt, tt) $
    handle_closes ! tt h.at h.value b o $
    returns ! (look_at ! 0 refl) $ free_all ! refl $ move ! (3 ∷ 0 ∷ 1 ∷ []) $ fjoin3 ! $ nothing ! $ move ! (1 ∷ 0 ∷ []) $ fjoin ! $ nothing ! $ move ! (2 ∷ 0 ∷ []) $ join ! $
    feq_i ! (List Val) (vbool r ∷ []) (vbool r ∷ []) refl $
    use0 𝓛 (raw (fact 𝓤 (r ≡ is_some h.value))) (fact_i 𝓤 (r ≡ is_some h.value) (emp 𝓤) (sym full)) $ use0 𝓛 (raw (fact 𝓤 (h.value ≡ h.value))) (fact_i 𝓤 (h.value ≡ h.value) (emp 𝓤) refl) $ join ! $
    keep ! (2 ∷ 3 ∷ 1 ∷ 0 ∷ []) $ by ! (leaves 𝓛 ended stayed c ((κs, qs, bounds, a, (vs, tt)), g) (vbool r) r (h, tt) (tt, tt)))))
