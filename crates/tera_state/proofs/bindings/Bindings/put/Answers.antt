use Rattle.std.proofs.Common.{rules, ◌≡◌, ◌∙◌, ◌++◌, List, ap, refl, Some, None, arith, ◌+◌}
use Rattle.tera_state.specs.declared.bindings.Binding.{Binding}
use Rattle.tera_state.specs.Bound.{with_binding, position_from, end_with, layer_of}
use Rattle.tera_state.proofs.Puts.{at_position, bind-at}
use Rattle.tera_state.proofs.Parts.{with-first}
use Rattle.tera_state.proofs.Alike.{ends-alike}
use Rattle.tera_state.proofs.Ends.{ends-end_with, ends_put, ends_of}
use Rattle.tera_state.proofs.bindings.Bindings.put.Goals as goal

pub index_mut-requires : goal.index_mut-requires
index_mut-requires c =
    let h : position_from 0 c.self.inside.few.items c.args.frame c.args.layer c.args.name ≡ Some c.in-Some.at = search rules in
    let x = at_position 0 c.self.inside.few.items c.args.frame c.args.layer c.args.name c.in-Some.at h in
    search (rules, x.1)

pub invariant_of-self : goal.invariant_of-self
invariant_of-self c =
    let few = c.self.inside.few.items in
    let others = c.self.inside.others in
    let items = few ++ others in
    let end = c.self.inside.end in
    let h : position_from 0 few c.args.frame c.args.layer c.args.name ≡ Some c.in-Some.at = search rules in
    let m : c.in-Some.at ≡ 0 + c.in-Some.at = omega arith in
    ends_of _ (with_binding items c.args.frame c.args.layer c.args.name c.args.value) c.end_with-self-inside.result (end_with c.args.frame c.args.layer end)
    (ap (λ (bs : List Binding). bs ++ others) (bind-at 0 c.in-Some.at few c.args.frame c.args.layer c.args.name c.args.value c.index_mut.result.now (h ∙ ap Some m) c.index_mut.ensures.value)
    ∙ with-first 0 c.in-Some.at few others c.args.frame c.args.layer c.args.name c.args.value h)
    c.end_with-self-inside.ensures
    (ends_put items c.args.frame c.args.layer end c.args.name c.args.value c.self.invariant)

pub invariant_of-self-in-Continue-1 : goal.invariant_of-self-in-Continue-1
invariant_of-self-in-Continue-1 c =
    let few = c.self.inside.few.items in
    let others = c.self.inside.others in
    let items = few ++ others in
    let end = c.self.inside.end in
    let h : position_from 0 few c.args.frame c.args.layer c.args.name ≡ None = search rules in
    let made = with_binding items c.args.frame c.args.layer c.args.name c.args.value in
    let last = c.end_with-self-inside.result in
    ends-alike _ made last.frame last.layer (c.in_ok-append-in-None.ensures.ok h)
    (ends_of made made last (end_with c.args.frame c.args.layer end) refl c.end_with-self-inside.ensures (ends_put items c.args.frame c.args.layer end c.args.name c.args.value c.self.invariant))

pub invariant_of-self-in_err-append-in-None : goal.invariant_of-self-in_err-append-in-None
invariant_of-self-in_err-append-in-None c =
    let items = c.self.inside.few.items ++ c.self.inside.others in
    let end = c.self.inside.end in
    ends_of _ items c.end_with-self-inside.result (end_with c.args.frame c.args.layer end) c.in_err-append-in-None.ensures.err c.end_with-self-inside.ensures
    (ends-end_with items c.args.frame c.args.layer end c.self.invariant)

pub returns-in-Some-clause-ok : goal.returns-in-Some-clause-ok
returns-in-Some-clause-ok c =
    let few = c.self.inside.few.items in
    let others = c.self.inside.others in
    let h : position_from 0 few c.args.frame c.args.layer c.args.name ≡ Some c.in-Some.at = search rules in
    let m : c.in-Some.at ≡ 0 + c.in-Some.at = omega arith in
    λ f l. ap (λ (bs : List Binding). layer_of bs f l)
    (ap (λ (bs : List Binding). bs ++ others) (bind-at 0 c.in-Some.at few c.args.frame c.args.layer c.args.name c.args.value c.index_mut.result.now (h ∙ ap Some m) c.index_mut.ensures.value)
    ∙ with-first 0 c.in-Some.at few others c.args.frame c.args.layer c.args.name c.args.value h
    ∙ ap (λ bs. with_binding bs c.args.frame c.args.layer c.args.name c.args.value) c.self.view_is)

pub returns-in_ok-append-in-None-clause-ok : goal.returns-in_ok-append-in-None-clause-ok
returns-in_ok-append-in-None-clause-ok c =
    let h : position_from 0 c.self.inside.few.items c.args.frame c.args.layer c.args.name ≡ None = search rules in
    λ f l. c.in_ok-append-in-None.ensures.ok h f l ∙ ap (λ bs. layer_of (with_binding bs c.args.frame c.args.layer c.args.name c.args.value) f l) c.self.view_is
