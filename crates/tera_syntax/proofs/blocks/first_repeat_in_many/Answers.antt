use Rattle.std.proofs.Common.{rules, sym, ◌∙◌}
use Rattle.tera_syntax.proofs.Again.{read_more}
use Rattle.tera_syntax.proofs.blocks.first_repeat_in_many.Goals as goal

pub loop-at-preserved-in-Some : goal.loop-at-preserved-in-Some
loop-at-preserved-in-Some c =
    read_more c.args.names.now c.loop-at.at c.loop-at.behind c.insert.new.self c.loop-at.found (search rules) c.loop-at.invariant
    c.in_ok-next.ensures.updates _ (sym c.in_ok-next.ensures.old ∙ c.in-Some.is)

pub loop-at-preserved : goal.loop-at-preserved
loop-at-preserved c =
    read_more c.args.names.now c.loop-at.at c.loop-at.behind c.insert.new.self c.loop-at.found (search rules) c.loop-at.invariant
    c.in_ok-next.ensures.updates _ (sym c.in_ok-next.ensures.old ∙ c.in_default.is)
