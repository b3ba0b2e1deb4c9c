use Rattle.std.proofs.Common.{◌≡◌, IsUtf8, reverse, false, true, subst, sym, ap, ◌∙◌}
use Rattle.std.proofs.lemmas.Str.{IsUtf8-from_ascii}
use Rattle.tera_value_types.proofs.Backward.{ascii_backward}
use Rattle.tera_value_types.proofs.ascii.reversed_bytes.Goals as goal

pub unreachable-requires : goal.unreachable-requires
unreachable-requires c =
    let same : c.reverse.new.self.items ≡ reverse c.args.text.now = c.reverse.ensures.items ∙ ap reverse (c.in_ok-bytes.ensures.items ∙ c.as_bytes.ensures.value) in
    let no : false ≡ true = c.in-Err.ensures.succeeds (subst IsUtf8 (sym same) (IsUtf8-from_ascii (reverse c.args.text.now) (ascii_backward c.args.text.now c.requires))) in
    cc
