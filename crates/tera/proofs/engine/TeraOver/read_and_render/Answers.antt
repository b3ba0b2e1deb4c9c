use Rattle.std.proofs.Common.{Global, Result, string_bytes, subst}
use Rattle.tera_errors.specs.Site.{Text}
use Rattle.tera_errors.specs.Fault.{Fault}
use Rattle.tera_errors.specs.Answer.{Gives}
use Rattle.tera_syntax_tree.specs.View.{tree_of}
use Rattle.tera.specs.Registry.{registry_of}
use Rattle.tera.proofs.Renders.{refused, refused-tree, rendered, beside-means}
use Rattle.tera.proofs.Within.{none_more, text_more}
use Rattle.tera.proofs.engine.TeraOver.read_and_render.Goals as goal

pub returns-in-Err-clause-means : goal.returns-in-Err-clause-means
returns-in-Err-clause-means g c =
    let r = registry_of g.O.Objects.engine c.args.self.now in
    refused r c.args.input.now c.args.context.now (string_bytes {Z = Global}) c.args.autoescape c.in-Err.error c.in-Err.ensures.reads

pub returns-in-Err-clause-few : goal.returns-in-Err-clause-few
returns-in-Err-clause-few g c = λ n h. absurd (none_more c.args.steps.now n h)

pub returns-in-Err-allow-clause-means : goal.returns-in-Err-allow-clause-means
returns-in-Err-allow-clause-means g c =
    let r = registry_of g.O.Objects.engine c.args.self.now in
    refused-tree r c.args.input.now c.args.context.now (string_bytes {Z = Global}) c.args.autoescape (tree_of c.in-Ok.output) c.in-Err-allow.error c.in-Ok.ensures.reads c.in-Err-allow.ensures.done

pub returns-in-Err-allow-clause-few : goal.returns-in-Err-allow-clause-few
returns-in-Err-allow-clause-few g c = λ n h. absurd (none_more c.args.steps.now n h)

pub returns-in-Ok-allow-clause-means : goal.returns-in-Ok-allow-clause-means
returns-in-Ok-allow-clause-means g c =
    let r = registry_of g.O.Objects.engine c.args.self.now in
    let tree = tree_of c.in-Ok.output in
    let is = beside-means r tree c.args.context.now c.args.autoescape in
    let P : Result Text Fault → Type 0 = Gives (string_bytes {Z = Global}) c.render_output.result in
    rendered r c.args.input.now c.args.context.now (string_bytes {Z = Global}) c.args.autoescape tree c.render_output.result c.in-Ok.ensures.reads c.in-Ok-allow.ensures.done (subst P is c.render_output.ensures.means)

pub returns-in-Ok-allow-clause-few : goal.returns-in-Ok-allow-clause-few
returns-in-Ok-allow-clause-few g c = λ n h.
    text_more (registry_of g.O.Objects.engine c.args.self.now) c.args.input.now c.args.context.now c.args.autoescape (tree_of c.in-Ok.output) c.args.steps.now _ n c.in-Ok.ensures.reads c.render_output.ensures.few h
