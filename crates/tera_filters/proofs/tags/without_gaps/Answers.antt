use Rattle.std.proofs.Common.{◌≡◌, ◌++◌, ◌∷◌, [], List, ℕ, Ok, string_bytes, ap, sym, ◌∙◌, append_assoc, rules}
use Rattle.tera_filters.specs.Tags.{compact}
use Rattle.tera_filters.proofs.Tagged.{gap-goes, no-gap}
use Rattle.tera_filters.proofs.tags.without_gaps.Goals as goal

pub loop-before-preserved : goal.loop-before-preserved
loop-before-preserved c =
    let old : List ℕ = string_bytes c.loop-before.kept in
    let front : List ℕ = c.in-Some.before.now in
    let more : List ℕ = compact c.past_gap-rest.result.now in
    let goes = gap-goes c.loop-before.rest.now front c.in-Some.behind.now c.past_gap-rest.result.now c.in-Some.ensures.cases c.past_gap-rest.ensures.value in
    let once : string_bytes c.push_str.new.self ≡ old ++ front = search rules in
    let twice : string_bytes c.push_str-in-Some.new.self ≡ string_bytes c.push_str.new.self ++ (62 ∷ []) = search rules in
    record {
      is_text = search rules;
      made = ap (λ t. t ++ more) (twice ∙ ap (λ t. t ++ (62 ∷ [])) once) ∙ append_assoc (old ++ front) (62 ∷ []) more ∙ append_assoc old front (62 ∷ more) ∙ ap (λ t. old ++ t) (sym goes) ∙ c.loop-before.invariant.made;
    }

pub returns : goal.returns
returns c =
    let old : List ℕ = string_bytes c.loop-before.kept in
    let last = no-gap c.loop-before.rest.now c.in_default.ensures.cases in
    let pushed : string_bytes c.push_str-2.new.self ≡ old ++ c.loop-before.rest.now = search rules in
    ap Ok (sym c.loop-before.invariant.made ∙ ap (λ t. old ++ t) last ∙ sym pushed)
