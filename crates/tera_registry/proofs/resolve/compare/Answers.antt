use Rattle.std.proofs.Common.{sym, ◌∙◌, ap, length}
use Rattle.std.proofs.lemmas.List.{take_rest}
use Rattle.tera_values.specs.Named.{name_cmp}
use Rattle.tera_registry.proofs.Compared.{cmp-short, cmp-long, then-equal, then-other}
use Rattle.tera_registry.proofs.resolve.compare.Goals as goal

pub returns-then-name-front : goal.returns-then-name-front
returns-then-name-front c = c.cmp.ensures ∙ sym (cmp-short _ _ c.args.back.now c.if-name-front.true)

pub returns-in-Equal : goal.returns-in-Equal
returns-in-Equal c =
    c.cmp-in-Equal.ensures ∙ ap (λ l. name_cmp l c.args.back.now) (take_rest c.args.name.now (length c.args.front.now)) ∙ sym (cmp-long c.args.name.now c.args.front.now c.args.back.now c.if-name-front.false ∙ then-equal _ _ (sym c.in-Equal.ensures))

pub returns-in_default : goal.returns-in_default
returns-in_default c =
    c.cmp-2.ensures ∙ sym (cmp-long c.args.name.now c.args.front.now c.args.back.now c.if-name-front.false ∙ then-other _ _ (λ e. c.in_default.not-Equal (c.cmp-2.ensures ∙ e)))
