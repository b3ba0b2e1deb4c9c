use Rattle.std.proofs.Common.{◌≡◌, Ok, sym, ap, ◌∙◌, subst}
use Rattle.tera_values.specs.Named.{put_all, IsAscending}
use Rattle.tera_values.proofs.Contents.{put_all-nil}
use Rattle.tera_values.proofs.kwargs.Kwargs.to_context.Goals as goal

pub returns : goal.returns
returns c =
    let m = c.args.self.now in
    let made : c.put_into.new.names ≡ m = c.in_ok-put_into.ensures.ok ∙ ap (put_all m) c.new-names.ensures ∙ put_all-nil m (subst IsAscending c.self.view_is c.self.invariant) in
    ap Ok (sym made)
