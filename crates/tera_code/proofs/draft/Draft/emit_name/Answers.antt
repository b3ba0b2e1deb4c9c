use Rattle.tera_code.specs.declared.instruction.Instruction.TheVariants as instruction
use Rattle.tera_code.proofs.Growth.{all_grow, chunk_grows}
use Rattle.tera_code.proofs.draft.Draft.emit_name.Goals as goal

pub invariant_of-self-2 : goal.invariant_of-self-2
invariant_of-self-2 c =
    all_grow c.self.inside.tables c.written_name.new.self c.in_ok-packed.ensures.grows c.self.inside.code.items c.self.invariant _ _ (instruction.WriteName c.args.name c.args.span) c.in_ok-packed.ensures.ok c.in_ok-push.ensures.items

pub returns : goal.returns
returns c =
    chunk_grows c.self.inside.tables c.written_name.new.self c.in_ok-packed.ensures.grows c.self.inside.code.items c.self.invariant _ _ _ c.in_ok-packed.ensures.ok c.in_ok-push.ensures.items c.self.inside.file _ c.self.view_is
