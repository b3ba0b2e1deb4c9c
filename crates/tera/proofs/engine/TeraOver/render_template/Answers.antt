use Rattle.std.proofs.Common.{Global, ◌+◌, ◌*◌, ◌≤◌, ℕ, Result, subst, string_bytes, rules}
use Rattle.tera_errors.specs.Site.{Text}
use Rattle.tera_errors.specs.Fault.{Fault}
use Rattle.tera_errors.specs.Answer.{Gives}
use Rattle.tera.specs.Registry.{registry_of}
use Rattle.tera.proofs.ByName.{own-root, code-found, text-found, visits-found, renders, not_there}
use Rattle.tera.proofs.engine.TeraOver.render_template.Goals as goal

pub render_found-answer-requires : goal.render_found-answer-requires
render_found-answer-requires g c κs within =
    let r = registry_of g.O.Objects.engine c.args.self.now in
    let leads = c.in-Some.ensures r in
    let own = own-root r c.args.name.now c.in-Some.found leads _ c.root.ensures.code in
    search (rules, leads.among, c.root.ensures.templates, code-found r c.args.name.now c.in-Some.found leads _ own)

pub returns-in-Some-clause-means : goal.returns-in-Some-clause-means
returns-in-Some-clause-means g c =
    let r = registry_of g.O.Objects.engine c.args.self.now in
    let leads = c.in-Some.ensures r in
    let own = own-root r c.args.name.now c.in-Some.found leads _ c.root.ensures.code in
    let is = text-found r c.args.name.now c.args.context.now c.in-Some.found leads _ own in
    let P : Result Text Fault → Type 0 = Gives (string_bytes {Z = Global}) c.render_found-answer.result in
    rw c.tell.ensures (renders r c.args.name.now c.args.context.now (string_bytes {Z = Global}) c.render_found-answer.result (subst P is c.render_found-answer.ensures.means))

pub returns-in-Some-clause-few : goal.returns-in-Some-clause-few
returns-in-Some-clause-few g c =
    let r = registry_of g.O.Objects.engine c.args.self.now in
    let leads = c.in-Some.ensures r in
    let own = own-root r c.args.name.now c.in-Some.found leads _ c.root.ensures.code in
    let P : ℕ → Type 0 = λ n. c.render_found-answer.new.steps ≤ c.args.steps.now + 8 * n in
    subst P (visits-found r c.args.name.now c.args.context.now c.in-Some.found leads _ own) c.render_found-answer.ensures.few

pub returns-in-None-clause-means : goal.returns-in-None-clause-means
returns-in-None-clause-means g c =
    let r = registry_of g.O.Objects.engine c.args.self.now in
    not_there r c.args.name.now c.args.context.now c.no_template.result c.no_template.ensures (c.in-None.ensures r)
