-- What stands behind a part of a row.
use Rattle.std.specs.Prelude.{Bool, true, false, Some, if◌then◌else◌}
use Rattle.tera_syntax_tokens.specs.declared.token.Kind.{Kind}
use Rattle.tera_syntax_tokens.specs.declared.token.Kind.TheVariants.{Comma}
use Rattle.tera_syntax_tokens.specs.Input.{Parser, and_then, expect, kind, next, same}

-- a comma, or what closes: whether it is a comma
unfoldable pub comma_or : Kind → Parser Bool
comma_or closing =
    λ i. if same Comma (kind i) then Some (true, next i)
    else and_then (expect closing i) (λ done. λ j. Some (false, j))
