use Rattle.std.proofs.Common.{◌≡◌, string_bytes, length, subst, sym, rules}
use Rattle.std.proofs.lemmas.Str.{IsUtf8-string_bytes}
use Rattle.std.specs.String.Boundary.{IsSplitPoint}
use Rattle.tera_value_types.proofs.Stretches.{split_point}
use Rattle.tera_value_types.proofs.value.Value.print_all_to.Goals as goal

pub truncate-requires : goal.truncate-requires
truncate-requires c =
    let old = c.args.out.now in
    let new = c.append_printed.new.out in
    let kept : c.len-kept.result ≡ length (string_bytes old) = search rules in
    λ _. subst (IsSplitPoint (string_bytes new)) (sym kept) (split_point (string_bytes old) (string_bytes new) (IsUtf8-string_bytes old) (IsUtf8-string_bytes new) c.append_printed.ensures.keeps)
