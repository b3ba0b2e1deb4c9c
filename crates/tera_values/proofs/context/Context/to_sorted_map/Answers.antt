use Rattle.std.proofs.Common.{◌≡◌, [], Ok, string_bytes, sym, ap, ◌∙◌, rules}
use Rattle.tera_errors.specs.Site.{Name}
use Rattle.tera_value_types.specs.Val.{Val}
use Rattle.tera_values.specs.Named.{put}
use Rattle.tera_values.proofs.Named.{texts, text_inserted}
use Rattle.tera_values.proofs.Contents.{put_none, put_next, put_whole, put_all-nil}
use Rattle.tera_values.proofs.Contexts.{named_ascend}
use Rattle.tera_values.proofs.context.Context.to_sorted_map.Goals as goal

pub loop-name-init : goal.loop-name-init
loop-name-init c = put_none c.self.inside.names.entries _ _ _ (search rules) c.iter-name-items.ensures.unique (search rules)

pub loop-name-preserved : goal.loop-name-preserved
loop-name-preserved c =
    let k = c.in-Some.name.now in
    let v = c.in-Some.value.now in
    let so_far = texts c.loop-name.ordered.entries in
    let copy : string_bytes c.in_ok-name.name ≡ k = search rules in
    let same : c.in_ok-value.value ≡ v = search rules in
    let step : texts c.insert.new.self.entries ≡ put k v so_far =
    ap texts c.in_ok-old.ensures.entries
    ∙ text_inserted c.loop-name.ordered.entries c.in_ok-name.name c.in_ok-value.value
    ∙ ap (λ (n : Name). put n c.in_ok-value.value so_far) copy
    ∙ ap (λ (w : Val). put k w so_far) same in
    put_next k v _ c.next.new.self so_far (texts c.insert.new.self.entries) c.into_iter-name-iterator.result [] c.in-Some.ensures.steps step c.loop-name.invariant

pub returns-clause-all : goal.returns-clause-all
returns-clause-all c =
    let m = c.args.self.now in
    let made = put_whole c.self.inside.names.entries m _ (texts c.loop-name.ordered.entries) c.into_iter-name-iterator.result [] c.in-None.ensures.steps.0 (search rules) c.self.view_is c.loop-name.invariant in
    ap Ok (sym (made ∙ put_all-nil m (named_ascend c.self.inside.names.entries m c.self.view_is)))
