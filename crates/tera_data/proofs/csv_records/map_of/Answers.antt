use Rattle.std.proofs.Common.{Ok, sym, ap, ◌∙◌, arith}
use Rattle.csv.specs.Records.{fields_of}
use Rattle.tera_data.proofs.Members.{placed_none}
use Rattle.tera_data.proofs.Records.{under_none}
use Rattle.tera_data.proofs.csv_records.map_of.Goals as goal

pub returns : goal.returns
returns c =
    let l = c.loop-position in
    let names = fields_of c.args.names.now in
    let fields = fields_of c.args.fields.now in
    ap Ok (sym (placed_none _) ∙ l.invariant ∙ under_none l.all names fields l.position (omega arith))
