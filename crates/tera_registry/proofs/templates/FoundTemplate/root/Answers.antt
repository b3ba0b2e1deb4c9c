use Rattle.std.proofs.Common.{◌≡◌, Some, sym, ◌∙◌, arith}
use Rattle.tera_code.specs.Code.{listing_of}
use Rattle.tera_meaning.specs.Resolve.{root}
use Rattle.tera_registry.specs.HandedOut.{code_of}
use Rattle.tera_registry.specs.Templates.{registry_in}
use Rattle.tera_registry.proofs.Counted.{found-at, root-at, root-place, root-within}
use Rattle.tera_registry.proofs.templates.FoundTemplate.root.Goals as goal

pub index-requires : goal.index-requires
index-requires c =
    let f = c.args.self.now in
    omega (arith, root-place f, f.templates.now.roots.ok)

pub own_body-requires : goal.own_body-requires
own_body-requires c = root-within c.args.self.now c.index.result.now c.index.ensures

pub returns-clause-code : goal.returns-clause-code
returns-clause-code c = λ r t is.
    let f = c.args.self.now in
    let ts = f.templates.now in
    let q = registry_in ts in
    let k = c.index.result.now in
    let s : Some (code_of c.own_body.result) ≡ Some (listing_of (root q t).0 (root q t).1.tree.nodes) = sym c.own_body.ensures.code ∙ ts.rooted.those f.position k t (root-at f k c.index.ensures) (found-at f t is) in
    let code : code_of c.own_body.result ≡ listing_of (root q t).0 (root q t).1.tree.nodes = cc in
    code
