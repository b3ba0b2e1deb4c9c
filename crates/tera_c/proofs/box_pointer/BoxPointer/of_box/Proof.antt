-- `of_box` takes the box apart.
use Rattle.std.proofs.Common.{◌≡◌, List, [], ◌∷◌, ◌++◌, refl, sym, ap, ◌∙◌, subst}
use mir.Syntax.{a_type, dcons, dnil}
use mir.Raw.{raw as bare}
use mir.Val.{Val, vptr, vstruct, of_list}
use mir.MapTy.{inst_fn}
use base.Logic.{SProp, ent, emp, never, id⊢, fst∗}
use base.Fml.{ftrue, fsep, flft}
use prog.Wp.{WpFn}
use types.Logic.{sem}
use types.Kit.{‵, raw, ◌⊛◌, some, later, ◌$◌, ◌∵◌, !, qed, by, move, keep, drop, split, split3, join, fsplit, fjoin, fpick, pick, suffices, use0, use1, await, rewrite, feq_l}
use types.Run.{stop, fld, of_opd, no_more, and_then, returns, enter}
use types.ByLocal.{alloc_all, pass_all, free_all, look_at, get, get_in, sets, lands_as}
use types.Part.{agg, sub, whole}
use contract.Monad.{fact, fact_i}
use contract.Running.{tables}
use denote.Exit.{no}
use denote.RattleType.{RattleType, owns}
use denote.Signature.{types_at, plain}
use denote.Builtin.{RawPtr}
use denote.RawPtr.{Ptr, block_ptr, null_ptr, ptr_val, in_a_block}
use denote.Steps.{nothing, only, heard}
use denote.Param.{param, layout, bounded}
use denote.Param.Laws.{param_laws}
use denote.Struct.Tuple.{Tuple}
use denote.Triple.Spec.{triple_of}
use denote.Triple.Call.{calls_at}
use denote.Triple.Table.{framed}
use denote.Triple.Walked.{Stays, stay_dropped, walk_of}
use Rattle.std.proofs.alloc.Calls.{Goes-blank, handle_tells}
use Rattle.std.specs.Box.Ownership.{box_owns}
use Rattle.std.proofs.BoxSteps.Form as box
use Rattle.std.proofs.BoxSteps.Steps.{box_out, box_in}
use Rattle.std.proofs.raw_atomic.Walks.{proved_at, leaves}
use Rattle.std.specs.contracts.boxed.Box.into_raw_with_allocator as callee
use Rattle.std.proofs.boxed.Box.into_raw_with_allocator.Met.{met}
use Rattle.tera_c.proofs.Pointers.{pair, pair_fits, pointer_in}
use Rattle.tera_c.specs.contracts.box_pointer.BoxPointer.of_box.{ended, clauses}
use Rattle.tera_c.specs.contracts.box_pointer.BoxPointer.of_box.Key.{name as #self}
use Rattle.tera_c.proofs.box_pointer.BoxPointer.of_box.Statement.{statement}
use Rattle.tera_c.proofs.box_pointer.BoxPointer.of_box.Code as code

pub of_box_spec : {M : Type 1} → statement M
of_box_spec 𝓤 𝓛 𝓜 𝓡 wired T A laws_t laws_a g dict drop_t drop_a met_a glue_t glue_a =
    let 𝓣 = tables 𝓤 𝓛.H 𝓜 𝓡 𝓡.env in
    let R : RattleType = param 0 T in
    let Z : RattleType = param 1 A in
    let LZ = param_laws 1 A laws_a in
    let whole_ended = ended T A g dict drop_t drop_a in
    let c = clauses T A g dict drop_t drop_a 𝓛 𝓜.mem 𝓡.returns in
    let boxes : box.Bx = record { row = T; laws = laws_t; al = record { row = A; laws = laws_a; g = g; d = dict; drops = drop_a } } in
    let at_types = bounded (a_type ∷ a_type ∷ []) (T, (A, tt)) (dcons dict (dcons drop_t (dcons drop_a dnil))) in
    let f = inst_fn at_types code.function in
    let kept : Stays whole_ended.signature.params whole_ended.kept = (stay_dropped (plain (λ _. box.B boxes)) no, tt) in
    proved_at 𝓛 whole_ended kept c 𝓜 𝓡 (Goes-blank 𝓛 2 (plain (λ _. box.B boxes)) no (λ κs x f. tt), tt) (#self at_types) f (code.unfolded 𝓤 𝓛.H 𝓜 𝓡 wired (T, (A, tt)) dict drop_t drop_a) (λ z are.
    let κs = z.0.0 in
    let qs = z.0.1 in
    let v = z.0.3.0 in
    let Post : Val → SProp 𝓤 = (walk_of 𝓛 whole_ended kept c).post z in
    let Run : List Val → SProp 𝓤 = λ ws. WpFn 𝓤 𝓛.H 𝓣.C 𝓣.Λ f ws Post in
    let tokens = ‵ (flft κs.0 qs.0) ⊛ ‵ (flft κs.1.0 qs.1.0) ⊛ ‵ ftrue in
    qed 𝓛 ((tokens ⊛ ‵ (owns (types_at whole_ended.signature.params κs) z.0.3 z.0.4)) ∷ raw ((c κs z.0.3).requires z.1) ∷ []) ∵
    split ! $ move ! (1 ∷ []) $ fsplit ! $ box_out boxes ! v z.0.4.0 (λ b o h at word fits. box_in boxes ! v b o v.value at refl $
    let w : Val = box.word boxes h b o in
    let typed = pair_fits R Z LZ g b o h fits in
    let k = triple_of 𝓛 (callee.signature T A g dict drop_a drop_t) (callee.spec T A g dict drop_a drop_t 𝓛 𝓜.mem 𝓡.returns) in
    let y : k.Ghost = ((κs, qs, tt, (v, tt), (w ∷ [], tt)), tt) in
    let Parts = Tuple (RawPtr ∷ Z ∷ []) in
    fjoin ! $ move ! (1 ∷ 0 ∷ []) $ join ! $ join ! $ use1 𝓛 (raw (k.pre y)) (id⊢ 𝓤 _) $
    suffices ! (Run (w ∷ [])) (subst (λ (us : List Val). ent 𝓤 (Run (w ∷ [])) (Run us)) (sym (λ i. word i ++ [])) (id⊢ 𝓤 (Run (w ∷ [])))) $
    enter ! 𝓣.C 𝓣.Λ f (w ∷ []) Post $ alloc_all ! (λ l. pass_all ! refl (typed, tt) $ sets ! (of_opd ! (get ! refl)) refl typed $
    calls_at ! (framed 𝓤 𝓛.H 𝓜 𝓣) k (met 𝓤 𝓛 𝓜 𝓡 (code.calls-std_alloc::boxed::Box::into_raw_with_allocator 𝓡.env wired) T A laws_t laws_a g dict drop_a drop_t met_a glue_a glue_t) y (and_then ! (get ! refl) (no_more !)) (λ u.
    -- what it answers: the pointer, which is that of a box of this value, and the allocator
    use1 𝓛 (later (some (λ (parts : Ptr × A.Denot). (tokens ⊛ ‵ (Parts.own_val parts (u ∷ []))) ⊛ some (λ (_ : (Unit {0} × (Unit {0} × Unit {0})) × Unit {0}). ‵ (fsep (fsep ftrue (fsep ftrue ftrue)) ftrue) ⊛ (raw (fact 𝓤 (parts.1 ≡ v.alloc)) ⊛ ‵ (box_owns (g.dealloc_token v.alloc) R parts.0 v.value)))))) (id⊢ 𝓤 _) $
    await ! tt $ pick ! (λ parts. split ! $ move ! (1 ∷ []) $ pick ! (λ _. split3 ! $ drop ! $ heard ! (parts.1 ≡ v.alloc) (λ same.
    in_a_block ! parts.0 (λ p. box_owns (g.dealloc_token v.alloc) R p v.value) (fst∗ 𝓤 (never 𝓤) (sem 𝓛 (g.dealloc_token v.alloc (bare (layout T)) null_ptr))) (λ nb no' here.
    move ! (1 ∷ []) $ split ! $ move ! (1 ∷ []) $ fpick ! (λ vss. fsplit ! $ feq_l ! (λ both. fsplit ! $ feq_l ! (λ first. fsplit ! $
    rewrite ! 0 (λ (s : A.Denot). ‵ (A.own_val s vss.1.0)) same refl $ handle_tells boxes.al ! v.alloc vss.1.0 (λ nh second fits'.
    let made = pair_fits R Z LZ g nb no' nh fits' in
    lands_as ! (ap only (both ∙ (λ j. vstruct (of_list ((first ∙ ap (λ (p : Ptr). ptr_val p ∷ []) here) j ++ (second j ++ []))) ∷ []))) refl made $
    sets ! (of_opd ! (get_in ! (fld ! refl (stop !)) (sub ! 0 refl (whole !)))) refl (tt, tt) $
    sets ! (of_opd ! (get_in ! (fld ! refl (stop !)) (sub ! 1 refl (whole !)))) refl fits' $
    sets ! (of_opd ! (get ! refl)) refl fits' $
    sets ! (agg ! (and_then ! (get ! refl) (and_then ! (get ! refl) (no_more !)))) refl made $
    move ! (3 ∷ 0 ∷ []) $ pointer_in R Z LZ g ! nb no' nh v.alloc v.value $
    use0 𝓛 (raw (fact 𝓤 (v.value ≡ v.value))) (fact_i 𝓤 (v.value ≡ v.value) (emp 𝓤) refl) $ nothing ! $ nothing ! $ fjoin ! $
    returns ! (look_at ! 0 refl) $ free_all ! refl $ keep ! (4 ∷ 0 ∷ 2 ∷ 1 ∷ []) $
    by ! (leaves 𝓛 whole_ended kept c z (pair (vptr nb no') nh) (record { at = block_ptr nb no'; alloc = v.alloc; value = v.value }) ((tt, (tt, tt)), tt) (tt, tt))))))))))))))
