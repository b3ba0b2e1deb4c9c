use Rattle.std.proofs.Common.{◌≡◌, ℕ, List, ◌++◌, string_bytes, length, subst, sym}
use Rattle.std.specs.Prelude.{OnOk}
use Rattle.tera_value_types.specs.Growth.{IsPlain}
use Rattle.tera_value_types.proofs.Stretches.{plain_text}
use Rattle.tera_value_types.proofs.escape.append_escaped.Goals as goal

pub returns-then-position-text-clause-ok : goal.returns-then-position-text-clause-ok
returns-then-position-text-clause-ok g c =
    let t : List ℕ = c.args.text.now in
    let form : ℕ → List ℕ = g.F.Forms.spelled in
    let plain : IsPlain form t 0 (length t) = rw (c.if-position-text.true, c.as_bytes.ensures.value) at c.next_form-position.ensures.plain in
    subst (λ (x : List ℕ). OnOk c.append.result (string_bytes c.append.new.out ≡ string_bytes c.args.out.now ++ x)) (sym (plain_text form t plain)) c.append.ensures.ok
