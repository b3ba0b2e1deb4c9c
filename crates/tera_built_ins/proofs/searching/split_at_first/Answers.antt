use Rattle.std.proofs.Common.{length, Some, None, sym, subst}
use Rattle.std.specs.Str.{IsCharBoundary}
use Rattle.memchr.specs.Find.{FindsNeedle}
use Rattle.tera_built_ins.proofs.Found.{begins-boundary, ends-boundary, finds-none, splits-around, not-empty}
use Rattle.tera_built_ins.proofs.searching.split_at_first.Goals as goal

pub returns-in_err-place-clause-cases : goal.returns-in_err-place-clause-cases
returns-in_err-place-clause-cases c =
    let found : FindsNeedle c.args.text.now c.args.pattern.now 0 None =
    subst (λ t. FindsNeedle t c.args.pattern.now 0 None) c.as_bytes.ensures.value (subst (λ p. FindsNeedle c.as_bytes.result.now p 0 None) c.requires.of_pattern c.in_err-place.ensures) in
    rw c.from_residual.ensures (finds-none c.args.pattern.now c.args.text.now found)

pub split_at-requires : goal.split_at-requires
split_at-requires c =
    let found : FindsNeedle c.args.text.now c.args.pattern.now 0 (Some c.in_ok-place.place) =
    subst (λ t. FindsNeedle t c.args.pattern.now 0 (Some c.in_ok-place.place)) c.as_bytes.ensures.value (subst (λ p. FindsNeedle c.as_bytes.result.now p 0 (Some c.in_ok-place.place)) c.requires.of_pattern c.in_ok-place.ensures) in
    begins-boundary c.args.pattern.now c.args.text.now c.utf8.pattern c.utf8.text (not-empty c.args.pattern.now c.requires.some) c.in_ok-place.place found.1

pub split_at-requires-2 : goal.split_at-requires-2
split_at-requires-2 c =
    let found : FindsNeedle c.args.text.now c.args.pattern.now 0 (Some c.in_ok-place.place) =
    subst (λ t. FindsNeedle t c.args.pattern.now 0 (Some c.in_ok-place.place)) c.as_bytes.ensures.value (subst (λ p. FindsNeedle c.as_bytes.result.now p 0 (Some c.in_ok-place.place)) c.requires.of_pattern c.in_ok-place.ensures) in
    subst (λ r. IsCharBoundary r (length c.args.pattern.now)) (sym c.split_at.ensures.back)
    (ends-boundary c.args.pattern.now c.args.text.now c.utf8.pattern c.utf8.text (not-empty c.args.pattern.now c.requires.some) c.in_ok-place.place found.1)

pub returns-clause-cases : goal.returns-clause-cases
returns-clause-cases c =
    let found : FindsNeedle c.args.text.now c.args.pattern.now 0 (Some c.in_ok-place.place) =
    subst (λ t. FindsNeedle t c.args.pattern.now 0 (Some c.in_ok-place.place)) c.as_bytes.ensures.value (subst (λ p. FindsNeedle c.as_bytes.result.now p 0 (Some c.in_ok-place.place)) c.requires.of_pattern c.in_ok-place.ensures) in
    splits-around c.args.pattern.now c.args.text.now c.split_at.result.0.now c.split_at.result.1.now c.split_at-2.result.1.now c.in_ok-place.place c.utf8.pattern c.utf8.text (not-empty c.args.pattern.now c.requires.some) found c.split_at.ensures.front c.split_at.ensures.back c.split_at-2.ensures.back
