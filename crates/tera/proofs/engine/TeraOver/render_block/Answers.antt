use Rattle.std.proofs.Common.{Global, Result, sym, ap, ◌∙◌, subst, string_bytes, rules}
use Rattle.tera_errors.specs.Site.{Text, Name}
use Rattle.tera_errors.specs.Fault.{Fault}
use Rattle.tera_errors.specs.Answer.{Gives}
use Rattle.tera_registry.specs.HandedOut.{code_of}
use Rattle.tera.specs.Registry.{registry_of, subject_of_file, block_meant}
use Rattle.tera.proofs.Renders.{same_ok}
use Rattle.tera.proofs.ByName.{own-root, code-found, block-missing, block-found, renders-block, no_block, no_template}
use Rattle.tera.proofs.engine.TeraOver.render_block.Goals as goal

pub render_found_block-answer-requires : goal.render_found_block-answer-requires
render_found_block-answer-requires g c κs within =
    let r = registry_of g.O.Objects.engine c.args.self.now in
    let leads = c.in-Some.ensures r in
    let own = own-root r c.args.name.now c.in-Some.found leads _ c.root.ensures.code in
    search (rules, leads.among, c.root.ensures.templates, code-found r c.args.name.now c.in-Some.found leads _ own)

pub returns-in_ok-wanted-in-Some-next : goal.returns-in_ok-wanted-in-Some-next
returns-in_ok-wanted-in-Some-next g c =
    let r = registry_of g.O.Objects.engine c.args.self.now in
    let nearest = c.in-Some-next.ensures.next in
    let leads = c.in-Some.ensures r in
    let own = own-root r c.args.name.now c.in-Some.found leads _ c.root.ensures.code in
    let subject = subject_of_file r c.in-Some.found.name.now (code_of c.root.result).file c.args.context.now in
    let same = ap (λ (n : Name). block_meant n subject) (sym (same_ok _ _ c.in_ok-wanted-in-Some-next.ensures)) in
    let is = same ∙ block-found r c.args.name.now c.args.block.now c.args.context.now c.in-Some.found leads c.definers.result c.definers.ensures.those _ own nearest.definer _ nearest.is in
    let P : Result Text Fault → Type 0 = Gives (string_bytes {Z = Global}) c.render_found_block-answer.result in
    rw c.tell.ensures (renders-block r c.args.name.now c.args.block.now c.args.context.now (string_bytes {Z = Global}) c.render_found_block-answer.result (subst P is c.render_found_block-answer.ensures))

pub returns-in-None-next : goal.returns-in-None-next
returns-in-None-next g c =
    let r = registry_of g.O.Objects.engine c.args.self.now in
    no_block r c.args.name.now c.args.block.now c.args.context.now c.no_block.result c.no_block.ensures (block-missing r c.args.name.now c.args.block.now c.args.context.now c.in-Some.found (c.in-Some.ensures r) c.definers.result c.definers.ensures.those c.in-None-next.ensures.next)

pub returns-in-None : goal.returns-in-None
returns-in-None g c =
    let r = registry_of g.O.Objects.engine c.args.self.now in
    no_template r c.args.name.now c.args.block.now c.args.context.now c.no_template.result c.no_template.ensures (c.in-None.ensures r)
