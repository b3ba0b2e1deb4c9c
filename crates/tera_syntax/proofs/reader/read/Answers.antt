use Rattle.std.proofs.Common.{rules, ◌≡◌, ◌-◌, ◌==◌, ℕ, Bool, true, length, List, [], Option, Some, ap, sym, ◌∙◌, subst, arith}
use Rattle.std.specs.Prelude.{option_and_then}
use Rattle.std.proofs.lemmas.List.{length-drop}
use Rattle.std.proofs.lemmas.Bool.Decides.{Decides-eqb}
use Rattle.tera_errors.specs.Site.{Text}
use Rattle.tera_syntax_tokens.specs.Cut.{cut, FoundPiece, pieces}
use Rattle.tera_syntax_tokens.specs.declared.cut.FoundPiece as found
use Rattle.tera_syntax_tokens.specs.declared.token.Token.{Token}
use Rattle.tera_syntax_tokens.specs.Answers.{Answers, Refuses}
use Rattle.tera_syntax_tree.specs.Delimiters.{Delims, delimiters_of}
use Rattle.tera_syntax_tree.specs.View.{tree_of}
use Rattle.tera_syntax_tokens.specs.Found.{found_of}
use Rattle.tera_syntax.specs.File as spec
use Rattle.tera_syntax.specs.View.{file_of}
use Rattle.tera_syntax_tokens.specs.Points.{PointsWithin}
use Rattle.tera_syntax_tokens.specs.Stretches.{PieceInside}
use Rattle.tera_syntax_tokens.proofs.Cuts.{cut_step, cut_broken, cut_nothing}
use Rattle.tera_syntax_tokens.proofs.Stretches.{piece_inside}
use Rattle.tera_syntax_expressions.proofs.Rounds.{refused}
use Rattle.tera_syntax.proofs.Extending.{file_broken, spelled_sound}
use Rattle.tera_syntax.proofs.Inside.{tree_inside}
use Rattle.tera_syntax.proofs.Plain.{refused_too}
use Rattle.tera_syntax.proofs.Rows.{some_bytes}
use Rattle.tera_syntax.proofs.reader.read.Goals as goal
use Rattle.tera_syntax_tree.specs.Depth.{max_tree_depth}

found_in : (meant : Option FoundPiece) (ts us : List Token) (x : found.FoundPiece) → ts ≡ us → meant ≡ Some (found_of ts x) → meant ≡ Some (found_of us x)
found_in meant ts us x e h = h ∙ ap (λ ts. Some (found_of ts x)) e

-- where nothing is left, all was read
all_read : (d : Delims) (text rest : Text) (f : spec.File) (trims : Bool) (at : ℕ) → spec.spelled max_tree_depth (pieces d text) ≡ spec.file_read_on max_tree_depth f (cut d trims 0 at rest) → (length rest == 0) ≡ true → spec.spelled max_tree_depth (pieces d text) ≡ spec.file_finished f
all_read d text rest f trims at so_far empty =
    let z : length rest ≡ 0 = (Decides-eqb (length rest) 0).0 empty in
    so_far ∙ ap (spec.file_read_on max_tree_depth f) (cut_nothing d trims at rest z)

pub returns-in-Err-clause-value : goal.returns-in-Err-clause-value
returns-in-Err-clause-value c =
    let l = some_bytes c.loop-rest.rest.now (sym c.is_empty.ensures ∙ c.loop-rest-test.true) in
    refused_too _ c.in-Err.refusal c.cut_refusal.result c.cut_refusal.ensures.same (refused c.in-Err.refusal (λ n. ap (option_and_then spec.once) (c.loop-rest.invariant.so_far
    ∙ ap (spec.file_read_on max_tree_depth (file_of c.loop-rest.file)) (cut_broken (delimiters_of c.args.delimiters.now) c.loop-rest.trims c.loop-rest.at c.loop-rest.rest.now l n)
    ∙ file_broken max_tree_depth (file_of c.loop-rest.file)))
    c.in-Err.ensures.value)

pub returns-in-Err-step-clause-value : goal.returns-in-Err-step-clause-value
returns-in-Err-step-clause-value c =
    let d = delimiters_of c.args.delimiters.now in
    let l = some_bytes c.loop-rest.rest.now (sym c.is_empty.ensures ∙ c.loop-rest-test.true) in
    let s = cut_step d c.loop-rest.trims c.loop-rest.at c.loop-rest.rest.now (found_of c.as_slice.result.now c.in-Ok.piece) l (found_in _ _ _ c.in-Ok.piece (sym c.as_slice.ensures.value) c.in-Ok.ensures.value) c.in-Ok.ensures.moves in
    refused c.in-Err-step.refusal (λ n. ap (option_and_then spec.once) (c.loop-rest.invariant.so_far
    ∙ ap (spec.file_read_on max_tree_depth (file_of c.loop-rest.file)) s
    ∙ ap (option_and_then (λ t. spec.file_read_on max_tree_depth t (cut d c.in-Ok.piece.trims 0 c.in-Ok.piece.next _))) n))
    c.in-Err-step.ensures.value

pub returns-in-Err-clause-points : goal.returns-in-Err-clause-points
returns-in-Err-clause-points c = subst (λ size. PointsWithin size c.cut_refusal.result) c.loop-rest.invariant.position c.cut_refusal.ensures.points

pub returns-in-Err-step-clause-points : goal.returns-in-Err-step-clause-points
returns-in-Err-step-clause-points c =
    let l = some_bytes c.loop-rest.rest.now (sym c.is_empty.ensures ∙ c.loop-rest-test.true) in
    let f = c.in-Ok.ensures.rest in
    let found = found_of c.as_slice.result.now c.in-Ok.piece in
    let inside = piece_inside c.args.delimiters.now c.requires c.loop-rest.trims c.loop-rest.at c.loop-rest.rest.now found l c.loop-rest.invariant.utf8 (found_in _ _ _ c.in-Ok.piece (sym c.as_slice.ensures.value) c.in-Ok.ensures.value) in
    c.in-Err-step.ensures.points (length c.args.source.now)
    (c.new-spans.ensures (length c.args.source.now) f.0 (omega (arith, f.1, c.loop-rest.invariant.position)))
    (subst (λ size. PieceInside size found.piece) c.loop-rest.invariant.position inside)

pub loop-rest-preserved : goal.loop-rest-preserved
loop-rest-preserved c =
    let d = delimiters_of c.args.delimiters.now in
    let l = some_bytes c.loop-rest.rest.now (sym c.is_empty.ensures ∙ c.loop-rest-test.true) in
    let s = cut_step d c.loop-rest.trims c.loop-rest.at c.loop-rest.rest.now (found_of c.as_slice.result.now c.in-Ok.piece) l (found_in _ _ _ c.in-Ok.piece (sym c.as_slice.ensures.value) c.in-Ok.ensures.value) c.in-Ok.ensures.moves in
    let f = c.in-Ok.ensures.rest in
    let k = ap length f.2 ∙ length-drop (c.in-Ok.piece.next - c.loop-rest.at) c.loop-rest.rest.now in
    record {
      utf8 = f.3;
      position = omega (arith, f.0, f.1, k, c.loop-rest.invariant.position);
      known = c.in-Ok.ensures.known;
      so_far = c.loop-rest.invariant.so_far
          ∙ ap (spec.file_read_on max_tree_depth (file_of c.loop-rest.file)) s
          ∙ ap (option_and_then (λ t. spec.file_read_on max_tree_depth t (cut d c.in-Ok.piece.trims 0 c.in-Ok.piece.next _))) c.in-Ok-step.ensures.value
          ∙ ap (λ text. spec.file_read_on max_tree_depth (file_of c.step.new.self) (cut d c.in-Ok.piece.trims 0 c.in-Ok.piece.next text)) (sym f.2);
    }

pub returns-in_err-output-clause-value : goal.returns-in_err-output-clause-value
returns-in_err-output-clause-value c =
    let all = all_read (delimiters_of c.args.delimiters.now) c.args.source.now c.loop-rest.rest.now (file_of c.loop-rest.file) c.loop-rest.trims c.loop-rest.at c.loop-rest.invariant.so_far (sym c.is_empty.ensures ∙ c.loop-rest-test.false) in
    let handed : Refuses (spec.file max_tree_depth (pieces (delimiters_of c.args.delimiters.now) c.args.source.now)) c.in_err-output.field-0.0 =
    refused c.in_err-output.field-0.0 (λ n. ap (option_and_then spec.once) (all ∙ n)) c.in_err-output.ensures.value in
    search rules

pub returns-clause-value : goal.returns-clause-value
returns-clause-value c =
    let all = all_read (delimiters_of c.args.delimiters.now) c.args.source.now c.loop-rest.rest.now (file_of c.loop-rest.file) c.loop-rest.trims c.loop-rest.at c.loop-rest.invariant.so_far (sym c.is_empty.ensures ∙ c.loop-rest-test.false) in
    subst (λ o. Answers tree_of (option_and_then spec.once o) c.with_distinct_names.result) (sym (all ∙ c.in_ok-output.ensures.value)) c.with_distinct_names.ensures.value

pub returns-clause-points : goal.returns-clause-points
returns-clause-points c =
    let all = all_read (delimiters_of c.args.delimiters.now) c.args.source.now c.loop-rest.rest.now (file_of c.loop-rest.file) c.loop-rest.trims c.loop-rest.at c.loop-rest.invariant.so_far (sym c.is_empty.ensures ∙ c.loop-rest-test.false) in
    let tree = tree_of c.in_ok-output.output in
    let s = spelled_sound max_tree_depth _ tree (all ∙ c.in_ok-output.ensures.value) in
    c.with_distinct_names.ensures.points (length c.args.source.now) (tree_inside [] c.args.delimiters.now c.args.source.now tree c.requires c.utf8.source s.0)
