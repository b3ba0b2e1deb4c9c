use Rattle.std.proofs.Common.{get_or, map, refl}
use Rattle.std.proofs.lemmas.List.Elements.{All-get_or}
use Rattle.tera_code.specs.Packed.{Within, tables_of, unpacked}
use Rattle.tera_code.specs.declared.packed.Packed.TheVariants as packed
use Rattle.tera_code.proofs.Noted.{meant_there, not_noted, notes_other}
use Rattle.tera_code.proofs.settling.with_notes.Goals as goal

pub returns-in_default : goal.returns-in_default
returns-in_default c =
    let s = tables_of c.args.tables.now in
    let ps = c.args.code.now in
    let i = c.args.at in
    let first = packed.WriteText 0 0 in
    record {
      within = All-get_or (Within s) ps i first c.requires.there c.requires.within;
      same = refl;
      notes = notes_other (map (unpacked s) ps) i s (get_or ps i first) (not_noted (get_or ps i first) c.in_default.not-LoadName c.in_default.not-StartLoop) (meant_there s ps i first c.requires.there);
    }
