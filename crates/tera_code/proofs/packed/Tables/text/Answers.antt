use Rattle.std.proofs.Common.{ap, ◌∙◌}
use Rattle.std.proofs.lemmas.Str.{IsUtf8-string_bytes}
use Rattle.tera_code.specs.declared.instruction.Instruction.TheVariants as instruction
use Rattle.tera_code.proofs.Growth.{text_there}
use Rattle.tera_code.proofs.packed.Tables.text.Goals as goal

pub returns-clause-ok : goal.returns-clause-ok
returns-clause-ok c =
    let there = text_there _ _ _ c.in_ok-start.start c.in_ok-end.end (IsUtf8-string_bytes c.args.self.now.pool) c.utf8.text (c.in_ok-start.ensures.ok ∙ c.len.ensures ∙ c.args.self.now.pool.bytes.ok.0) c.in_ok-push_str.ensures.bytes (c.in_ok-end.ensures.ok ∙ c.len-2.ensures ∙ c.push_str.new.self.bytes.ok.0) in
    (there.0, ap (λ t. instruction.WriteText t) there.1)
