use Rattle.std.proofs.Common.{Ok, sym, ap, ◌∙◌}
use Rattle.tera_syntax_tree.specs.Blocks.{is_among}
use Rattle.tera_values.specs.Named.{text_keys}
use Rattle.tera_components.specs.Definition.{Definition, formal_names}
use Rattle.tera_components.proofs.LeftOver.{none_left}
use Rattle.tera_components.proofs.definition.ComponentDefinition.rest_arguments.Goals as goal

pub returns-then-are_among : goal.returns-then-are_among
returns-then-are_among c = ap Ok (ap text_keys (none_left c.args.self.now c.args.given.now (λ n found.
    sym (ap (λ (d : Definition). is_among n (formal_names d)) c.self.view_is)
    ∙ sym (c.self.invariant n)
    ∙ c.are_among.ensures.among c.if-are_among.true n found)) ∙ sym c.new.ensures)
