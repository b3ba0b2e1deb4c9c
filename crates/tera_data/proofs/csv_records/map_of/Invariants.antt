use Rattle.std.proofs.Common.{◌≡◌, [], drop}
use Rattle.csv.specs.Records.{fields_of}
use Rattle.tera_data.specs.Csv.{under}
use Rattle.tera_data.proofs.Members.{placed}
use Rattle.tera_data.proofs.csv_records.map_of.Given as goal

abbrev pub invariant-loop-position : goal.invariant-loop-position
invariant-loop-position l =
    placed [] (under (fields_of l.names) (fields_of l.fields))
    ≡ placed l.all (under (drop l.position (fields_of l.names)) (drop l.position (fields_of l.fields)))
