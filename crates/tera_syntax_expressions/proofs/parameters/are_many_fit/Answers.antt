use Rattle.std.proofs.Common.{◌≡◌, ◌<◌, ◌+◌, ◌∷◌, drop, length, sym, ap, ◌∙◌, rules}
use Rattle.std.specs.Option.{option_copied}
use Rattle.std.specs.Prelude.{codes}
use Rattle.std.proofs.lemmas.List.{drop_more}
use Rattle.tera_syntax_tree.specs.Blocks.{are_distinct}
use Rattle.tera_syntax_expressions.specs.Parts.{signature_names}
use Rattle.tera_syntax_expressions.proofs.Beside.{has, has-empty, has-more, are_new, are_new-none, are_new-cons}
use Rattle.tera_syntax_expressions.proofs.Fit.{fit_names}
use Rattle.tera_syntax_expressions.proofs.parameters.are_many_fit.Goals as goal

pub loop-parameter-init : goal.loop-parameter-init
loop-parameter-init c =
    let ps = c.deref-parameter-items.result.now in
    let all = c.args.signature.now.parameters.items in
    let rest = option_copied c.args.signature.now.rest in
    let same : ps ≡ all = search rules in
    let none = has-empty c.new-seen.result c.new-seen.ensures.empty in
    sym (are_new-cons (has c.new-seen.result) (has c.insert.new.self) (codes "body") (signature_names ps rest) (has-more (codes "body") c.new-seen.result c.insert.new.self c.in_ok-insert.ensures.updates) (none (codes "body")))
    ∙ are_new-none (has c.new-seen.result) (codes "body" ∷ signature_names ps rest) none
    ∙ ap (λ l. are_distinct (codes "body" ∷ signature_names l rest)) same
    ∙ ap (λ names. are_distinct (codes "body" ∷ names)) (sym (fit_names all rest))

pub loop-parameter-preserved : goal.loop-parameter-preserved
loop-parameter-preserved c =
    let i = c.loop-parameter.parameter-index in
    let ps = c.deref-parameter-items.result.now in
    let rest = option_copied c.args.signature.now.rest in
    let p = c.parameter-item.result in
    let h : i < length ps = search rules in
    let next : drop i ps ≡ p ∷ drop (i + 1) ps = drop_more ps i p h ∙ ap (λ x. x ∷ drop (i + 1) ps) (sym c.parameter-item.is) in
    sym (are_new-cons (has c.loop-parameter.seen) (has c.insert-in-loop-parameter.new.self) p.name.now (signature_names (drop (i + 1) ps) rest) (has-more p.name.now c.loop-parameter.seen c.insert-in-loop-parameter.new.self c.in_ok-insert-2.ensures.updates) (search rules))
    ∙ ap (λ l. are_new (has c.loop-parameter.seen) (signature_names l rest)) (sym next)
    ∙ c.loop-parameter.invariant
