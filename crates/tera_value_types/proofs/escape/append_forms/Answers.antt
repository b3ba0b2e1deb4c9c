use Rattle.std.proofs.Common.{◌≡◌, ◌++◌, ◌≤◌, ℕ, List, string_bytes, subst, ◌-◌, length, take, drop, refl, ap, ◌∙◌}
use Rattle.std.proofs.lemmas.Str.{IsCharBoundary-start}
use Rattle.tera_value_types.specs.Growth.{IsPlain, Keeps, by_byte}
use Rattle.tera_value_types.proofs.Stretches.{keeps_all, keeps_on, wrote_stretch}
use Rattle.tera_value_types.proofs.escape.append_forms.Goals as goal

pub loop-start-init : goal.loop-start-init
loop-start-init g c =
    record {
      cut = IsCharBoundary-start c.args.text.now c.utf8.text;
      written = refl;
      keeps = keeps_all (string_bytes c.args.out.now);
    }

pub loop-start-preserved : goal.loop-start-preserved
loop-start-preserved g c =
    let f : ℕ → List ℕ = g.F.Forms.spelled in
    let t : List ℕ = c.args.text.now in
    let s : ℕ = c.loop-start.start in
    let q : ℕ = c.next_form-position.result in
    let old : List ℕ = string_bytes c.args.out.now in
    let now : List ℕ = string_bytes c.loop-start.out in
    let stretch : List ℕ = string_bytes c.append_stretch.new.out in
    let end : List ℕ = string_bytes c.append_near.new.out in
    let same = c.as_bytes-bytes.ensures.value in
    let high : q ≤ length t = subst (λ (x : List ℕ). q ≤ length x) same c.next_form-position.ensures.high in
    let plain : IsPlain f t s q = subst (λ (x : List ℕ). IsPlain f x s q) same c.next_form-position.ensures.plain in
    let wrote : stretch ≡ now ++ take (q - s) (drop s t) = c.in_ok-append_stretch.ensures.ok ∙ ap (λ (x : List ℕ). now ++ x) {y = take (q - s) (drop s t)} c.range.ensures.value in
    let kept : Keeps old stretch = keeps_on old now stretch c.loop-start.invariant.keeps c.append_stretch.ensures.keeps in
    record {
      cut = c.in_ok-start.ensures.cut;
      written = c.in_ok-start.ensures.ok ∙ wrote_stretch f t s q now stretch (old ++ by_byte f t) c.next_form-position.ensures.low high plain wrote c.loop-start.invariant.written;
      keeps = keeps_on old stretch end kept c.append_near.ensures.keeps;
    }
