use Rattle.std.proofs.Common.{◌≡◌, get_or, [], ◌∷◌, Ok, map, take, sym, ap, ◌∙◌, rules}
use Rattle.tera_values.specs.Named.{without_names}
use Rattle.tera_values.proofs.Kept.{without_more, without_none, next_text, all_texts}
use Rattle.tera_values.proofs.context.Context.try_clone_without.Goals as goal

pub loop-name-preserved : goal.loop-name-preserved
loop-name-preserved c =
    let whole = c.args.self.now in
    let all = c.args.names.now in
    let i = c.loop-name.name-index in
    let text = get_or all i (record { ref_ptr = (0, 0); now = [] }) in
    c.leave_out.ensures
    ∙ ap (without_names (text.now ∷ [])) c.loop-name.invariant
    ∙ without_more (map (λ n. n.now) (take i all)) text.now whole
    ∙ ap (λ names. without_names names whole) (sym (next_text all i _ c.loop-name-test.true))

pub loop-name-init : goal.loop-name-init
loop-name-init c =
    let made : c.in_ok-copy.copy ≡ c.args.self.now = search rules in
    made ∙ sym (without_none c.args.self.now)

pub returns : goal.returns
returns c =
    ap Ok (sym (c.loop-name.invariant ∙ ap (λ names. without_names names c.args.self.now) (all_texts c.args.names.now c.loop-name.name-index (search rules))))
