-- A text without a suffix.
use Rattle.std.proofs.Common.{◌≡◌, ℕ, ◌-◌, ◌≤◌, ◌+◌, true, false, cond, List, length, take, Option, Some, None, Bor, sym, ap, ◌∙◌, subst, arith}
use Rattle.std.specs.Option.{MatchOption}
use Rattle.std.specs.Prelude.{option_copied}
use Rattle.std.specs.Str.{IsCharBoundary}
use Rattle.std.specs.Str.Pattern.{FindsTextSuffix, StripsSuffix}
use Rattle.std.proofs.lemmas.Str.Pattern.{ends_text}
use Rattle.tera_job.specs.Paths.{stem}

pub is_stem : (p s : List ℕ) (r : Option (Bor (List ℕ))) → MatchOption r (FindsTextSuffix p s None) (λ x. StripsSuffix (FindsTextSuffix p) s x.now) → option_copied r ≡ stem p s
is_stem p s None h = ap (λ b. cond b (Some (take (length s - length p) s)) None) (ends_text false p s h)
is_stem p s (Some x) h =
    let n = h.0 in
    let cut = h.1 in
    let all : length x.now + n ≡ length s = h.3 in
    let within : n ≤ length s = omega arith in
    let bound = subst (λ k. IsCharBoundary s (length s - k)) (sym cut.0) cut.2 in
    ap (λ t. Some t) (h.2 ∙ ap (λ k. take (length s - k) s) cut.0)
    ∙ ap (λ b. cond b (Some (take (length s - length p) s)) None) (ends_text true p s (n, cut, within, bound))
