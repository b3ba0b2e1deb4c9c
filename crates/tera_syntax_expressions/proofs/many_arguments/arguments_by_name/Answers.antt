use Rattle.std.proofs.Common.{◌≡◌, [], ◌∷◌, sym, ap, ◌∙◌}
use Rattle.std.proofs.lemmas.Map.Iter.{rest_more, rest_all}
use Rattle.tera_syntax_tree.specs.declared.expression.Argument.{Argument}
use Rattle.tera_syntax_expressions.proofs.ByName.{joined, joined-push, joined-all}
use Rattle.tera_syntax_expressions.proofs.many_arguments.arguments_by_name.Goals as goal

pub loop-name-preserved : goal.loop-name-preserved
loop-name-preserved c =
    let all = c.loop-name.all.items in
    let a : Argument = record { name = c.in-Some.name; value = c.in-Some.value } in
    let left = rest_more (λ e. e) c.loop-name.name-iterator c.next.new.self c.next.result (c.in-Some.name, c.in-Some.value) c.in-Some.is c.next.ensures.steps in
    ap (λ items. joined items c.next.new.self) c.in_ok-push.ensures.items ∙ joined-push all a c.next.new.self ∙ ap (joined all) (sym left) ∙ c.loop-name.invariant

pub returns : goal.returns
returns c =
    let all = c.loop-name.all.items in
    let none = rest_all (λ e. e) c.loop-name.name-iterator c.next.new.self c.next.result c.in-None.is c.next.ensures.steps in
    sym (joined-all all) ∙ ap (joined all) (sym none) ∙ c.loop-name.invariant
