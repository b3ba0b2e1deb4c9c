use Rattle.std.proofs.Common.{◌≡◌, Ok, string_bytes, sym, ap, ◌∙◌, rules}
use Rattle.tera_values.proofs.Named.{texts}
use Rattle.tera_values.proofs.Contents.{filled_none, filled_next, filled_all}
use Rattle.tera_values.proofs.context.Context.to_map.Goals as goal

pub loop-name-init : goal.loop-name-init
loop-name-init c =
    let all : texts c.in_ok-items.items.entries ≡ c.args.self.now = cc c.in_ok-items.ensures.all in
    filled_none c.args.self.now c.new-all.result _ (search rules) (ap texts c.into_iter-name-iterator.ensures.into_iter_gives.0 ∙ all)

pub loop-name-preserved : goal.loop-name-preserved
loop-name-preserved c =
    filled_next c.args.self.now c.loop-name.all c.insert.new.self (string_bytes c.in-Some.name, c.in-Some.value) (texts c.next.new.self) _ (ap texts c.in-Some.ensures.steps) c.to_sorted_map.ensures.ascending c.loop-name.invariant (search rules)

pub returns : goal.returns
returns c =
    ap Ok (sym (filled_all c.args.self.now c.loop-name.all _ (ap texts c.in-None.ensures.steps.0) c.loop-name.invariant))
