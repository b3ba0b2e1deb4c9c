use Rattle.std.proofs.Common.{◌≡◌, Ok, sym, ap, ◌∙◌}
use Rattle.tera_values.specs.Named.{put_all}
use Rattle.tera_values.proofs.Contents.{put_all-nil}
use Rattle.tera_values.proofs.Contexts.{named_ascend}
use Rattle.tera_values.proofs.context.Context.try_clone.Goals as goal

pub returns : goal.returns
returns c =
    let m = c.args.self.now in
    let made : c.put_all.new.self ≡ m = c.in_ok-put_all.ensures.ok ∙ ap (put_all m) c.new-copy.ensures ∙ put_all-nil m (named_ascend c.self.inside.names.entries m c.self.view_is) in
    ap Ok (sym made)
