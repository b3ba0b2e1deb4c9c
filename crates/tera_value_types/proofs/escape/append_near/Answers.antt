use Rattle.std.proofs.Common.{◌≡◌, ◌++◌, ◌∷◌, [], ◌<◌, ℕ, List, Ok, string_bytes, length, drop, get_or, sym, ap, ◌∙◌, arith}
use Rattle.std.proofs.lemmas.Str.{IsCharBoundary-after_ascii}
use Rattle.tera_value_types.specs.Growth.{Keeps, by_byte}
use Rattle.tera_value_types.proofs.Stretches.{keeps_on, wrote_byte}
use Rattle.tera_value_types.proofs.escape.append_near.Goals as goal
use Rattle.tera_value_types.proofs.escape.append_near.Goals.{then-branch, else-branch+then-left-gt0+then-byte-lt128+in_ok-push}

pub loop-position-preserved : goal.loop-position-preserved
loop-position-preserved g c =
    let f : ℕ → List ℕ = g.F.Forms.spelled in
    let t : List ℕ = c.args.text.now in
    let p : ℕ = c.loop-position.position in
    let h : p < length t = omega arith in
    let old : List ℕ = string_bytes c.args.out.now in
    let now : List ℕ = string_bytes c.loop-position.out in
    let tried : List ℕ = string_bytes c.append_form.new.out in
    let whole : List ℕ = old ++ by_byte f (drop c.args.from t) in
    let b : ℕ = get_or c.as_bytes-bytes.result.now p 0 in
    let same : b ≡ get_or t p 0 = ap (λ (x : List ℕ). get_or x p 0) c.as_bytes-bytes.ensures.value in
    let kept : Keeps old tried = keeps_on old now tried c.loop-position.invariant.keeps c.append_form.ensures.keeps in
    elim c.if-branch.branch [
      | then-branch w ↦
          let wrote : tried ≡ now ++ f (get_or t p 0) = c.in_ok-append_form.ensures.ok (ap Ok w.if-branch.true) ∙ ap (λ (x : ℕ). now ++ f x) same in
          let low : get_or t p 0 < 128 = omega (arith, same, c.in_ok-append_form.ensures.ascii (ap Ok w.if-branch.true)) in
          record {
            low = omega arith;
            fresh = λ _. w.left-is;
            cut = IsCharBoundary-after_ascii t p c.utf8.text h low;
            written = rw w.out-is (wrote_byte f t p now tried whole h wrote c.loop-position.invariant.written);
            keeps = rw w.out-is kept;
          }
      | else-branch+then-left-gt0+then-byte-lt128+in_ok-push w ↦
          let end : List ℕ = string_bytes w.push.new.self in
          let pushed : end ≡ tried ++ b ∷ [] = w.in_ok-push.ensures.bytes ∙ ap (λ (x : List ℕ). tried ++ x) (w.push.ensures.ascii (omega arith)) in
          let form : b ∷ [] ≡ f (get_or t p 0) = sym (c.in_ok-append_form.ensures.plain (ap Ok w.if-branch.false)) ∙ ap f same in
          let wrote : end ≡ now ++ f (get_or t p 0) = pushed ∙ ap (λ (x : List ℕ). x ++ b ∷ []) (c.in_ok-append_form.ensures.unchanged (ap Ok w.if-branch.false)) ∙ ap (λ (x : List ℕ). now ++ x) form in
          let low : get_or t p 0 < 128 = omega (arith, same) in
          let grown : Keeps tried end = record { more = b ∷ []; is = pushed } in
          record {
            low = omega arith;
            fresh = λ at. absurd (omega arith);
            cut = IsCharBoundary-after_ascii t p c.utf8.text h low;
            written = rw w.out-is (wrote_byte f t p now end whole h wrote c.loop-position.invariant.written);
            keeps = rw w.out-is (keeps_on old tried end kept grown);
          }
    ]
