use Rattle.std.proofs.Common.{refl, ap, ◌∙◌}
use Rattle.csv.specs.Records.{fields_of}
use Rattle.tera_data.proofs.Records.{field_now}
use Rattle.tera_data.proofs.csv_records.field_of.Goals as goal

pub returns : goal.returns
returns c =
    ap (λ s. s.now) c.unwrap_or.ensures
    ∙ field_now c.get.result _ (fields_of c.args.row.now) c.args.position refl c.get.ensures.value
