use Rattle.std.proofs.Common.{◌≡◌, List, ℕ, ◌++◌, OnOk, string_bytes, ap, sym, subst, ◌∙◌, length, append-nil}
use Rattle.std.specs.Char.{encode_utf8}
use Rattle.tera_filters.proofs.Capitals.{capitalized-some, capitalized-none}
use Rattle.tera_filters.proofs.case.put_capitalized.Goals as goal

pub returns-in-None-clause-ok : goal.returns-in-None-clause-ok
returns-in-None-clause-ok c =
    let none = capitalized-none c.args.text.now (ap length (sym c.chars-letters.ensures.rest) ∙ c.in-None.ensures.steps.0.0) in
    let old : List ℕ = string_bytes c.args.out.now in
    sym (append-nil old) ∙ ap (λ t. old ++ t) (sym none)

pub returns-in-Some-clause-ok : goal.returns-in-Some-clause-ok
returns-in-Some-clause-ok c =
    let first = c.in-Some.first in
    let whole : c.args.text.now ≡ encode_utf8 first ++ c.as_str.result.now = sym c.chars-letters.ensures.rest ∙ c.in-Some.ensures.steps.0 ∙ ap (λ t. encode_utf8 first ++ t) (sym c.as_str.ensures) in
    let is = capitalized-some c.args.text.now c.as_str.result.now first c.utf8.text whole in
    subst (λ (t : List ℕ). OnOk c.put_changed.result (string_bytes c.put_changed.new.out ≡ string_bytes c.args.out.now ++ t)) (sym is) c.put_changed.ensures.ok
