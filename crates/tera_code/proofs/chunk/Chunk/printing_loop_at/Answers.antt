use Rattle.std.proofs.Common.{◌≡◌, length, map, Some, slice_get, ap, refl, subst}
use Rattle.std.proofs.lemmas.Option.{slice_get_read}
use Rattle.tera_code.specs.Packed.{tables_of, unpacked}
use Rattle.tera_code.proofs.Noted.{noted_at, printing_told}
use Rattle.tera_code.proofs.chunk.Chunk.printing_loop_at.Goals as goal

pub returns-clause-ends : goal.returns-clause-ends
returns-clause-ends c =
    let s = tables_of c.self.inside.tables in
    let ps = c.self.inside.code.items in
    let p = c.in_ok-get.field-0.now in
    let lent = c.deref.result.now in
    let got = c.in_ok-get.ensures.lookup in
    let read = slice_get_read lent (length lent) c.args.at p refl got.3.0 got.1 in
    let here = subst (λ xs. slice_get xs c.args.at ≡ Some p) c.deref.ensures.value read in
    let view : map (unpacked s) ps ≡ c.args.self.now.code = ap (λ l. l.code) c.self.view_is in
    rw (← view) (printing_told (map (unpacked s) ps) c.args.at p c.printing_size.result (noted_at s ps c.self.invariant c.args.at p here) c.printing_size.ensures).1
