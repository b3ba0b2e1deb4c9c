use Rattle.std.proofs.Common.{◌≡◌, Some, sym, ◌∙◌}
use Rattle.tera_code.specs.Code.{listing_of}
use Rattle.tera_registry.specs.HandedOut.{code_of}
use Rattle.tera_registry.specs.Templates.{templates_of}
use Rattle.tera_registry.proofs.Counted.{found-at, found-within}
use Rattle.tera_registry.proofs.Tabled.{own-listing}
use Rattle.tera_registry.proofs.templates.FoundTemplate.body.Goals as goal

pub own_body-requires : goal.own_body-requires
own_body-requires c = found-within c.args.self.now

pub returns-clause-code : goal.returns-clause-code
returns-clause-code c = λ r t is.
    let f = c.args.self.now in
    let q : Some (code_of c.own_body.result) ≡ Some (listing_of t.0 t.1.tree.nodes) = sym c.own_body.ensures.code ∙ own-listing (templates_of f.templates.now) f.position t (found-at f t is) in
    cc
