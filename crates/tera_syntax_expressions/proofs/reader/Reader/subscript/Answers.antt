use Rattle.std.proofs.Common.{◌≡◌, Option, None, ap, sym, ◌∙◌}
use Rattle.tera_syntax_tokens.specs.Answers.{Refuses}
use Rattle.tera_syntax_tokens.specs.Input.{same, kind}
use Rattle.tera_syntax_tokens.specs.Takes.{input}
use Rattle.tera_syntax_tokens.specs.declared.refusal.Refusal.{Refusal}
use Rattle.tera_syntax_tokens.specs.declared.refusal.Refusal.TheVariants.{Syntax, OutOfMemory}
use Rattle.tera_syntax_tokens.specs.declared.token.Kind.TheVariants.{RightBracket}
use Rattle.tera_syntax_expressions.specs.Expressions.{expr}
use Rattle.tera_syntax_expressions.specs.Parts.{deep_of}
use Rattle.tera_syntax_expressions.proofs.Forms.{subscript-none}
use Rattle.tera_syntax_expressions.proofs.Rounds.{tested}
use Rattle.tera_syntax_expressions.proofs.reader.Reader.subscript.Goals as goal

-- where nothing is meant, each refusal is right
any-refusal : {Y : Type 0} {meant : Option Y} (r : Refusal) → meant ≡ None → Refuses meant r
any-refusal (Syntax why position) e = e
any-refusal OutOfMemory e = tt

pub returns-then-eq : goal.returns-then-eq
returns-then-eq g c =
    any-refusal c.refuse.result (subscript-none c.args.self.now.limit (expr c.args.self.now.below) c.args.at.optional c.args.at.start (deep_of c.args.x.now) (input c.args.tokens.now)
    (ap (λ i. same RightBracket (kind i)) (sym c.take.ensures) ∙ tested (same RightBracket) c.kind.ensures c.eq.ensures c.if-eq.true))
