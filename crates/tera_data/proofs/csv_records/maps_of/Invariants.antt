use Rattle.std.proofs.Common.{◌≡◌, Ok, ◌++◌, drop, map}
use Rattle.csv.specs.Records.{fields_of}
use Rattle.tera_data.specs.Values.{then}
use Rattle.tera_data.specs.Csv.{of_records}
use Rattle.tera_data.proofs.csv_records.maps_of.Given as goal

abbrev pub invariant-loop-row : goal.invariant-loop-row
invariant-loop-row l =
    of_records (fields_of l.names) (map fields_of l.records)
    ≡ then (of_records (fields_of l.names) (map fields_of (drop l.row-index l.records)))
    (λ vs. Ok (l.all.items ++ vs))
