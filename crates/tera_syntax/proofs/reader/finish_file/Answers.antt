use Rattle.tera_syntax.proofs.Plain.{refused_any, refused_by}
use Rattle.tera_syntax.proofs.reader.finish_file.Goals as goal

pub returns-in-Err-Syntax-clause-value : goal.returns-in-Err-Syntax-clause-value
returns-in-Err-Syntax-clause-value c =
    refused_any _ c.refusal_at.result (refused_by _ c.in-Err-Syntax.why c.in-Err-Syntax.open _ c.in-Err-Syntax.field-0-is c.in-Err-Syntax.ensures.value)
