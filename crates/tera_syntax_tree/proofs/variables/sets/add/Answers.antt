use Rattle.std.proofs.Common.{ap, ◌∙◌, string_bytes}
use Rattle.tera_syntax_tree.specs.Free.{only, ◌∪◌}
use Rattle.tera_syntax_tree.specs.Sets.{names_in}
use Rattle.tera_syntax_tree.proofs.Unions.{added}
use Rattle.tera_syntax_tree.proofs.variables.sets.add.Goals as goal

pub returns : goal.returns
returns c =
    added (string_bytes c.in_ok-from_str.field-0) c.args.found.now c.insert.new.self c.in_ok-insert.ensures.updates ∙ ap (λ m. only m ∪ names_in c.args.found.now) c.in_ok-from_str.ensures.ok
