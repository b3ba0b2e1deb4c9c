use Rattle.std.proofs.Common.{rules, ℕ, List, IfSome, IfNone, MatchOption, ◌≡◌, ◌≢◌, false, ◌++◌, codes, nat_eq, sym, ◌∙◌}
use Rattle.std.specs.List.{ends_with}
use Rattle.std.proofs.lemmas.Str.Pattern.{ends_text}
use Rattle.tera_folders.specs.Names.{IsBelow}
use Rattle.tera_folders.proofs.Below.{strip_text, apart_from_start, by_next_slash}
use Rattle.tera_folders.proofs.place.rest_below.Goals as goal

-- src/place.rt:46:16
pub returns-in_err-rest-clause-apart : goal.returns-in_err-rest-clause-apart
returns-in_err-rest-clause-apart c =
    let h = strip_text c.args.folder.now c.args.path.now _ c.strip_prefix.ensures.cases in
    let lacks = apart_from_start c.args.folder.now c.args.path.now in
    search (rules, h, lacks)

answer_of_last : (c : goal.After-strip_prefix-2) → MatchOption c.strip_prefix-2.result
    ((rest : List ℕ) → ¬ IsBelow c.args.folder.now c.args.path.now rest)
    (λ x. IsBelow c.args.folder.now c.args.path.now x.now)
answer_of_last c =
    let other : c.args.path.now ≢ c.args.folder.now = search rules in
    let h = strip_text c.args.folder.now c.args.path.now _ c.strip_prefix.ensures.cases in
    let e : c.args.path.now ≡ c.args.folder.now ++ c.in_ok-rest.rest.now = search (rules, h) in
    let s : ends_with nat_eq c.args.folder.now (codes "/") ≡ false =
    sym (ends_text _ (codes "/") c.args.folder.now c.ends_with.ensures.cases) ∙ c.if-ends_with.false in
    by_next_slash _ _ _ _ other e s (strip_text (codes "/") c.in_ok-rest.rest.now _ c.strip_prefix-2.ensures.cases)

-- src/place.rt:39:1
pub returns-clause-below : goal.returns-clause-below
returns-clause-below c = search (rules, answer_of_last c)

-- src/place.rt:39:1
pub returns-clause-apart : goal.returns-clause-apart
returns-clause-apart c = search (rules, answer_of_last c)
