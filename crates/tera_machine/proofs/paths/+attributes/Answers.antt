use Rattle.std.proofs.Common.{◌+◌, arith, refl, Ok, Err, IfOk, IfErr, Result}
use Rattle.std.proofs.lemmas.Option.{slice_get_within}
use Rattle.tera_errors.specs.Answer.{SeenError}
use Rattle.tera_machine.proofs.Reaching.{attribute_breaks, attribute_reached, attribute_stands, counted_so}
use Rattle.tera_machine.proofs.paths.+attributes.Goals as goal

if_ok : {A : Type 0} {P Q : A → Type 0} (r : Result A SeenError) → ((a : A) → P a → Q a) → IfOk r P → IfOk r Q
if_ok (Ok a) f p = f a p
if_ok (Err e) f p = tt

if_err : {A : Type 0} {P Q : SeenError → Type 0} (r : Result A SeenError) → ((e : SeenError) → P e → Q e) → IfErr r P → IfErr r Q
if_err (Ok a) f p = tt
if_err (Err e) f p = f e p

pub attributes-requires : goal.attributes-requires
attributes-requires g t c κs within =
    (omega (arith, slice_get_within c.args.cursor.now.chunk.now.code (c.args.cursor.now.at + 1) _ c.in-Some.ensures.means, c.decreases), (within, record { few = c.requires.few; there = slice_get_within c.args.cursor.now.chunk.now.code (c.args.cursor.now.at + 1) _ c.in-Some.ensures.means }))

pub returns-in-Ok-clause-stands : goal.returns-in-Ok-clause-stands
returns-in-Ok-clause-stands g t c = λ s r.
    c.attributes.ensures.stands s (attribute_reached r c.in-Some.ensures.means refl (counted_so c.in-Some.ensures.count) c.file.ensures c.as_str.ensures c.in-Ok.ensures.part)

pub returns-in-Ok-clause-ok : goal.returns-in-Ok-clause-ok
returns-in-Ok-clause-ok g t c =
    if_ok c.attributes.result (λ o p s r. p s (attribute_reached r c.in-Some.ensures.means refl (counted_so c.in-Some.ensures.count) c.file.ensures c.as_str.ensures c.in-Ok.ensures.part)) c.attributes.ensures.ok

pub returns-in-Ok-clause-err : goal.returns-in-Ok-clause-err
returns-in-Ok-clause-err g t c =
    if_err c.attributes.result (λ e p s r. p s (attribute_reached r c.in-Some.ensures.means refl (counted_so c.in-Some.ensures.count) c.file.ensures c.as_str.ensures c.in-Ok.ensures.part)) c.attributes.ensures.err

pub returns-in-Err-clause-stands : goal.returns-in-Err-clause-stands
returns-in-Err-clause-stands g t c = λ s r.
    attribute_stands r c.in-Some.ensures.means refl (counted_so c.in-Some.ensures.count) c.file.ensures c.as_str.ensures

pub returns-in-Err-clause-err : goal.returns-in-Err-clause-err
returns-in-Err-clause-err g t c = λ s r.
    attribute_breaks r c.in-Some.ensures.means refl (counted_so c.in-Some.ensures.count) c.file.ensures c.as_str.ensures c.in-Err.error c.in-Err.ensures.part
