use Rattle.std.proofs.Common.{◌≡◌, Ok, drop}
use Rattle.json.specs.Value.{members_view}
use Rattle.tera_values.specs.Named.{put_all}
use Rattle.tera_data.specs.Values.{then, of_members}
use Rattle.tera_data.specs.Contexts.{named}
use Rattle.tera_data.proofs.conversion.context_of.Given as goal

abbrev pub invariant-loop-member : goal.invariant-loop-member
invariant-loop-member l =
    named l.floats (members_view l.member-items)
    ≡ then (of_members l.floats (members_view (drop l.member-index l.member-items)))
    (λ vs. Ok (put_all vs l.all))
