use Rattle.std.proofs.Common.{◌≡◌, ℕ, List, ◌∷◌, [], eqb, Bool, Some, None, ap, sym, ◌∙◌, arith, rules}
use Rattle.std.specs.List.{slice_split}
use Rattle.std.proofs.lemmas.Str.Pattern.{split_once_first}
use Rattle.std.proofs.lemmas.List.Splits.{slice_split_first}
use Rattle.tera_value_types.specs.Paths.{walk}
use Rattle.tera_value_types.proofs.Walks.{walk_none, split_whole}
use Rattle.tera_value_types.proofs.value.Value.get_from_path.Goals as goal

abbrev dot : ℕ → Bool
dot b = eqb b 46

pub returns-in-None : goal.returns-in-None
returns-in-None c =
    let rest = c.loop-piece.rest.now in
    let f = split_once_first 46 rest (Some (c.in-Some.piece, c.in-Some.after)) c.in-Some.ensures.cases (omega arith) in
    let cut : slice_split dot rest ≡ c.in-Some.piece.now ∷ slice_split dot c.in-Some.after.now = rw (f.1, f.2) (slice_split_first dot rest 0 f.0) in
    sym (c.loop-piece.invariant.walks ∙ ap (λ (ps : List (List ℕ)). walk ps (Some c.loop-piece.here.now)) cut ∙ ap (walk (slice_split dot c.in-Some.after.now)) (sym c.in-None.ensures) ∙ walk_none (slice_split dot c.in-Some.after.now))

pub loop-piece-preserved : goal.loop-piece-preserved
loop-piece-preserved c =
    let rest = c.loop-piece.rest.now in
    let f = split_once_first 46 rest (Some (c.in-Some.piece, c.in-Some.after)) c.in-Some.ensures.cases (omega arith) in
    let cut : slice_split dot rest ≡ c.in-Some.piece.now ∷ slice_split dot c.in-Some.after.now = rw (f.1, f.2) (slice_split_first dot rest 0 f.0) in
    record {
      walks = c.loop-piece.invariant.walks ∙ ap (λ (ps : List (List ℕ)). walk ps (Some c.loop-piece.here.now)) cut ∙ ap (walk (slice_split dot c.in-Some.after.now)) (sym c.in-Some-step.ensures);
      text = search rules;
    }

pub returns : goal.returns
returns c =
    let rest = c.loop-piece.rest.now in
    let whole : slice_split dot rest ≡ rest ∷ [] = split_whole dot rest (split_once_first 46 rest None c.in_default.ensures.cases (omega arith)) in
    c.step-2.ensures ∙ sym (c.loop-piece.invariant.walks ∙ ap (λ (ps : List (List ℕ)). walk ps (Some c.loop-piece.here.now)) whole)
