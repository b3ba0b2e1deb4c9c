use Rattle.std.proofs.Common.{◌≡◌, ◌∷◌, Some, IfSome, sym, ap, ◌∙◌, subst, arith}
use Rattle.tera_code.specs.Code.{listing_of}
use Rattle.tera_meaning.specs.Lineage.{Definer, ancestors, definers_in}
use Rattle.tera_registry.specs.HandedOut.{code_of}
use Rattle.tera_registry.specs.Kept.{entries_of}
use Rattle.tera_registry.specs.Numbers.{IsBlock, above_in, block_at, from_first, from_standing}
use Rattle.tera_registry.specs.Templates.{registry_in, definers_of}
use Rattle.tera_registry.proofs.Aboves.{above-at}
use Rattle.tera_registry.proofs.Ancestors.{grounded}
use Rattle.tera_registry.proofs.Counted.{entry-within}
use Rattle.tera_registry.proofs.Numbered.{above-block, block-listing, block-some, block-within, from-lineage, parents-climb, place-of-block}
use Rattle.tera_registry.proofs.templates.Templates.definer.Goals as goal

pub body-requires : goal.body-requires
body-requires c = block-within (entries_of c.args.self.now.all.items) c.args.number c.requires

pub index-requires : goal.index-requires
index-requires c =
    let self = c.args.self.now in
    omega (arith, entry-within self c.args.number (block-within (entries_of self.all.items) c.args.number c.requires), self.table.entries.ok)

pub definers_from-requires : goal.definers_from-requires
definers_from-requires c =
    let self = c.args.self.now in
    let r = registry_in self in
    let es = entries_of self.all.items in
    let lt = entry-within self c.args.number (block-within es c.args.number c.requires) in
    let above = above-at r self.table.entries.items c.args.number c.index.result.now _ self.climbed c.index.ensures lt in
    subst (λ o. IfSome o (IsBlock es)) (sym above) (above-block r (block_at es c.args.number))

pub returns-clause-next : goal.returns-clause-next
returns-clause-next c =
    let self = c.args.self.now in
    let r = registry_in self in
    let es = entries_of self.all.items in
    let n = c.args.number in
    let lt = entry-within self n (block-within es n c.requires) in
    let above = above-at r self.table.entries.items n c.index.result.now _ self.climbed c.index.ensures lt in
    let p = block-some es n c.requires in
    let t = (p.0).0 in
    let b = (p.0).1 in
    let d : Definer = record { file = t.0; body = b.1 } in
    let at = place-of-block es n p.0 p.1 in
    let ok = (grounded r self.faultless).each at.template t at.here in
    let number = above ∙ ap (above_in r) p.1 in
    let those : definers_of c.definers_from.result ≡ definers_in b.0 (ancestors r t) = c.definers_from.ensures.those ∙ ap (from_first r) number ∙ from-lineage r b.0 (ancestors r t) (parents-climb r t ok) in
    let s : Some (code_of c.body.result) ≡ Some (listing_of t.0 b.1) = sym c.body.ensures.code ∙ block-listing es n p.0 p.1 in
    record {
      definer = d;
      is = ap (from_standing r) p.1 ∙ ap (λ l. d ∷ l) (sym those);
      code = cc;
    }
