-- `into_box` makes the box of its parts.
use Rattle.std.proofs.Common.{◌≡◌, List, [], ◌∷◌, ◌++◌, refl, sym, ap, subst}
use mir.Syntax.{a_type, dcons, dnil}
use mir.Val.{Val, vptr}
use mir.MapTy.{inst_fn}
use base.Logic.{SProp, ent, id⊢}
use base.Fml.{ftrue, flft}
use prog.Wp.{WpFn}
use types.Kit.{‵, raw, ◌⊛◌, some, later, at_ret, ◌$◌, ◌∵◌, !, qed, by, move, keep, drop, split, split3, join, fsplit, fjoin, pick, suffices, use1, await, rewrite, feq_i}
use types.Run.{stop, fld, of_opd, no_more, and_then, first, blocks, exec, returns, enter}
use types.ByLocal.{alloc_all, pass_all, free_all, look_at, get, get_in, sets, lands_last, env}
use types.Part.{sub, whole}
use contract.Monad.{fact}
use contract.BorrowLft.{◌⊑◌}
use contract.Running.{tables}
use denote.Exit.{no}
use denote.RattleType.{RattleType, owns}
use denote.Signature.{types_at, plain}
use denote.RawPtr.{block_ptr}
use denote.Steps.{nothing, only}
use denote.Param.{param, layout, bounded}
use denote.Param.Laws.{param_laws}
use denote.Triple.Clauses.{Lasts, lasts}
use denote.Triple.Spec.{triple_of}
use denote.Triple.Call.{calls_at_last}
use denote.Triple.Table.{framed}
use denote.Triple.Walked.{Stays, stay_dropped, walk_of}
use Rattle.std.proofs.alloc.Calls.{Goes-blank}
use Rattle.std.proofs.alloc.Shapes.{after}
use Rattle.std.proofs.cell.Inside.{Good}
use Rattle.std.proofs.BoxSteps.Form as box
use Rattle.std.proofs.BoxSteps.Steps.{box_out, box_in}
use Rattle.std.proofs.raw_atomic.Walks.{proved_at, leaves}
use Rattle.std.specs.contracts.boxed.Box.from_raw as callee
use Rattle.std.proofs.boxed.Box.from_raw.Met.{met}
use Rattle.tera_c.proofs.Pointers.{pair, pair_fits, pointer_out, Pointer}
use Rattle.tera_c.specs.contracts.box_pointer.BoxPointer.into_box.{ended, clauses}
use Rattle.tera_c.specs.contracts.box_pointer.BoxPointer.into_box.Key.{name as #self}
use Rattle.tera_c.proofs.box_pointer.BoxPointer.into_box.Statement.{statement}
use Rattle.tera_c.proofs.box_pointer.BoxPointer.into_box.Code as code

pub into_box_spec : {M : Type 1} → statement M
into_box_spec 𝓤 𝓛 𝓜 𝓡 wired T A laws_t laws_a g dict drop_t drop_a met_a glue_t glue_a =
    let 𝓣 = tables 𝓤 𝓛.H 𝓜 𝓡 𝓡.env in
    let R : RattleType = param 0 T in
    let Z : RattleType = param 1 A in
    let LZ = param_laws 1 A laws_a in
    let whole_ended = ended T A g dict drop_t drop_a in
    let c = clauses T A g dict drop_t drop_a 𝓛 𝓜.mem 𝓡.returns in
    let boxes : box.Bx = record { row = T; laws = laws_t; al = record { row = A; laws = laws_a; g = g; d = dict; drops = drop_a } } in
    let B : RattleType = box.B boxes in
    let at_types = bounded (a_type ∷ a_type ∷ []) (T, (A, tt)) (dcons dict (dcons drop_t (dcons drop_a dnil))) in
    let f = inst_fn at_types code.function in
    let kept : Stays whole_ended.signature.params whole_ended.kept = (stay_dropped (plain (λ _. Pointer R Z LZ g)) no, tt) in
    proved_at 𝓛 whole_ended kept c 𝓜 𝓡 (Goes-blank 𝓛 2 (plain (λ _. Pointer R Z LZ g)) no (λ κs x f. tt), tt) (#self at_types) f (code.unfolded 𝓤 𝓛.H 𝓜 𝓡 wired (T, (A, tt)) dict drop_t drop_a) (λ z are.
    let κs = z.0.0 in
    let qs = z.0.1 in
    let p = z.0.3.0 in
    let Post : Val → SProp 𝓤 = (walk_of 𝓛 whole_ended kept c).post z in
    let Run : List Val → SProp 𝓤 = λ ws. WpFn 𝓤 𝓛.H 𝓣.C 𝓣.Λ f ws Post in
    let tokens = ‵ (flft κs.0 qs.0) ⊛ ‵ (flft κs.1.0 qs.1.0) ⊛ ‵ ftrue in
    let wanted = raw (fact 𝓤 (κs.0 ⊑ T.lives)) ⊛ raw (fact 𝓤 (κs.1.0 ⊑ A.lives)) ⊛ ‵ ftrue in
    qed 𝓛 ((tokens ⊛ ‵ (owns (types_at whole_ended.signature.params κs) z.0.3 z.0.4)) ∷ raw ((c κs z.0.3).requires z.1) ∷ []) ∵
    split ! $ move ! (1 ∷ []) $ fsplit ! $ pointer_out R Z LZ g ! p z.0.4.0 (λ b o h at word fits.
    let w : Val = pair (vptr b o) h in
    let typed = pair_fits R Z LZ g b o h fits in
    let k = triple_of 𝓛 (callee.signature T A g dict drop_a) (callee.spec T A g dict drop_a 𝓛 𝓜.mem 𝓡.returns) in
    let y : k.Ghost = ((κs, qs, tt, (p.alloc, (block_ptr b o, tt)), (h ∷ [], (vptr b o ∷ [], tt))), p.value) in
    -- what `Box::from_raw` asks for
    move ! (4 ∷ []) $ use1 𝓛 wanted (id⊢ 𝓤 _) $ split3 ! $ move ! (2 ∷ []) $ drop ! $ move ! (1 ∷ 2 ∷ []) $ join ! $ move ! (1 ∷ 0 ∷ []) $ join ! $
    move ! (2 ∷ []) $ feq_i ! (List Val) (vptr b o ∷ []) (vptr b o ∷ []) refl $ fjoin ! $ move ! (2 ∷ 0 ∷ []) $ fjoin ! $ move ! (2 ∷ 0 ∷ []) $ join ! $ join ! $ use1 𝓛 (raw (k.pre y)) (id⊢ 𝓤 _) $
    suffices ! (Run (w ∷ [])) (subst (λ (us : List Val). ent 𝓤 (Run (w ∷ [])) (Run us)) (sym (λ i. word i ++ [])) (id⊢ 𝓤 (Run (w ∷ [])))) $
    enter ! 𝓣.C 𝓣.Λ f (w ∷ []) Post $ alloc_all ! (λ l. pass_all ! refl (typed, tt) $
    sets ! (of_opd ! (get_in ! (fld ! refl (stop !)) (sub ! 0 refl (whole !)))) refl (tt, tt) $
    sets ! (of_opd ! (get_in ! (fld ! refl (stop !)) (sub ! 1 refl (whole !)))) refl fits $
    first ! $ blocks ! $ sets ! (of_opd ! (get ! refl)) refl fits $
    calls_at_last ! (framed 𝓤 𝓛.H 𝓜 𝓣) k (met 𝓤 𝓛 𝓜 𝓡 (code.calls-std_alloc::boxed::Box::from_raw 𝓡.env wired) T A laws_t laws_a g dict drop_a met_a glue_a) y (and_then ! (get ! refl) (and_then ! (get ! refl) (no_more !))) (λ u.
    -- what it answers: a box of this value
    use1 𝓛 (later (some (λ (made : B.Denot). (tokens ⊛ ‵ (B.own_val made (u ∷ []))) ⊛ some (λ (ls : Lasts (callee.ended T A g dict drop_a) κs y.0.3). ‵ (lasts (callee.ended T A g dict drop_a) κs y.0.3 ls) ⊛ (raw (fact 𝓤 (made.value ≡ p.value)) ⊛ raw (fact 𝓤 (made.alloc ≡ p.alloc))))))) (id⊢ 𝓤 (k.post y u)) $
    await ! tt $ pick ! (λ made. split ! $ move ! (1 ∷ []) $ pick ! (λ _. split3 ! $ drop ! $ move ! (2 ∷ []) $ split ! $ move ! (1 ∷ []) $
    box_out boxes ! made (u ∷ []) (λ nb no' nh here us fits'.
    let good : Good (layout B) u = subst (Good (layout B)) (sym (ap only us)) (pair_fits R Z LZ g nb no' nh fits') in
    box_in boxes ! made nb no' made.value here refl $ rewrite ! 0 (λ (xs : List Val). ‵ (B.own_val made xs)) (sym us) refl $
    lands_last ! refl good $ exec ! 𝓣.C 𝓣.Λ (env f.locals l) (after 3 f.body) (at_ret (env f.locals l) Post) $
    sets ! (of_opd ! (get ! refl)) refl good $ nothing ! $ nothing ! $ fjoin ! $
    returns ! (look_at ! 0 refl) $ free_all ! refl $ keep ! (2 ∷ 0 ∷ 1 ∷ 3 ∷ []) $
    by ! (leaves 𝓛 whole_ended kept c z u made ((tt, (tt, tt)), tt) (tt, tt)))))))))
