use Rattle.std.proofs.Common.{◌≡◌, ◌++◌, List, ℕ, Ok, string_bytes, ap, sym, ◌∙◌, append_assoc, rules}
use Rattle.tera_values.specs.Alphabet.{plain}
use Rattle.tera_built_ins.specs.Replace.{replaced}
use Rattle.tera_built_ins.proofs.Splitting.{replaced-found, replaced-none}
use Rattle.tera_built_ins.proofs.replace.put_at_each.Goals as goal

pub loop-before-preserved : goal.loop-before-preserved
loop-before-preserved c =
    let old : List ℕ = string_bytes c.loop-before.answer in
    let front : List ℕ = c.in-Some.before.now in
    let to : List ℕ = c.args.to.now in
    let more : List ℕ = replaced plain.code c.args.from.now to c.in-Some.behind.now in
    let found = replaced-found c.args.from.now to c.loop-before.rest.now front c.in-Some.behind.now c.requires c.in-Some.ensures.cases in
    let once : string_bytes c.push_str.new.self ≡ old ++ front = search rules in
    let twice : string_bytes c.push_str-in-Some.new.self ≡ string_bytes c.push_str.new.self ++ to = search rules in
    record {
      is_text = search rules;
      made = ap (λ t. t ++ more) (twice ∙ ap (λ t. t ++ to) once) ∙ append_assoc (old ++ front) to more ∙ append_assoc old front (to ++ more) ∙ ap (λ t. old ++ t) (sym found) ∙ c.loop-before.invariant.made;
    }

pub returns : goal.returns
returns c =
    let old : List ℕ = string_bytes c.loop-before.answer in
    let last = replaced-none c.args.from.now c.args.to.now c.loop-before.rest.now c.requires c.in_default.ensures.cases in
    let pushed : string_bytes c.push_str-2.new.self ≡ old ++ c.loop-before.rest.now = search rules in
    ap Ok (sym c.loop-before.invariant.made ∙ ap (λ t. old ++ t) last ∙ sym pushed)
