use Rattle.std.proofs.Common.{◌≡◌, Option, None, string_bytes, sym, ap, ◌∙◌, ℕ}
use Rattle.tera_errors.specs.Site.{Name}
use Rattle.tera_registry.specs.declared.template.Template.{Template}
use Rattle.tera_registry.specs.Definers.{blocks_of, names_of}
use Rattle.tera_registry.specs.Kept.{entry_of}
use Rattle.tera_registry.specs.Places.{stands, place_from}
use Rattle.tera_registry.proofs.Placing.{block-names}
use Rattle.tera_registry.proofs.definers.own_block.Goals as goal

place-of : (t : Template) (q : Name) (o : Option ℕ) → stands t.places q ≡ o → o ≡ place_from q 0 (names_of (entry_of t))
place-of t q o is =
    sym is ∙ t.placed q ∙ ap (place_from q 0) (block-names t.blocks.items (string_bytes t.name) (blocks_of (entry_of t)) t.divided)

pub returns-in_err-position : goal.returns-in_err-position
returns-in_err-position c =
    let t = c.args.template.now in
    let q = c.args.block.now in
    let none : stands t.places q ≡ None = ap (stands t.places) (sym c.as_str.ensures) ∙ sym c.in_err-position.ensures.value in
    rw c.from_residual.ensures (place-of t q None none)

pub returns : goal.returns
returns c =
    let t = c.args.template.now in
    let q = c.args.block.now in
    let there = ap (stands t.places) (sym c.as_str.ensures) ∙ sym c.in_ok-position.ensures.value in
    place-of t q _ there
