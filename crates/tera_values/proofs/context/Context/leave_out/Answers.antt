use Rattle.std.proofs.Common.{None, ap, cond, sym, refl, ◌∙◌}
use Rattle.std.specs.Str.{bytes_eq}
use Rattle.tera_errors.specs.Site.{Name}
use Rattle.tera_values.specs.Named.{at_name}
use Rattle.tera_values.specs.Names.{by_name}
use Rattle.tera_values.proofs.Named.{found}
use Rattle.tera_values.proofs.Contexts.{named_ascend}
use Rattle.tera_values.proofs.Kept.{without_is}
use Rattle.tera_values.proofs.context.Context.leave_out.Goals as goal

pub returns : goal.returns
returns c =
    let before = c.self.inside.names.entries in
    let left = c.swap_remove-old.new.self.entries in
    without_is c.args.name.now c.args.self.now (by_name left) (named_ascend before c.args.self.now c.self.view_is) (named_ascend left (by_name left) refl)
    (λ n. sym (found left n)
    ∙ c.swap_remove-old.ensures.updates.0 n
    ∙ ap (λ o. cond (bytes_eq c.new.result n) None o) (found before n ∙ ap (at_name n) c.self.view_is)
    ∙ ap (λ (k : Name). cond (bytes_eq k n) None (at_name n c.args.self.now)) c.new.ensures)
