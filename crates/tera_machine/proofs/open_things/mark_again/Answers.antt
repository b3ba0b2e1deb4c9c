use Rattle.std.proofs.Common.{◌≡◌, sym, ap, arith}
use Rattle.std.specs.Option.{unwrap_or}
use Rattle.tera_machine.specs.OpenThings.{mark_at}
use Rattle.tera_machine.proofs.open_things.mark_again.Goals as goal

pub returns-in_default : goal.returns-in_default
returns-in_default c =
    let none : mark_at c.args.marks.now.entries c.args.number ≡ 0 = ap (λ o. unwrap_or o 0) (sym c.in_default.ensures.value) in
    absurd (omega (arith, none, c.requires))
