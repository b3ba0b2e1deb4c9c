use Rattle.std.proofs.Common.{◌≡◌, Ok, [], ◌∷◌, ◌++◌, cond, string_bytes, refl, sym, ap, ◌∙◌, append-nil, arith}
use Rattle.std.proofs.lemmas.Iterator.Consumers.{YieldsList-end}
use Rattle.std.proofs.lemmas.Iterator.Splits.{YieldsList-from_lines}
use Rattle.std.proofs.lemmas.Str.Pattern.{ends_char}
use Rattle.tera_built_ins.specs.Pieces.{ends_line}
use Rattle.tera_built_ins.proofs.Trimming.{byte}
use Rattle.tera_built_ins.proofs.Indenting.{begun-push, later-step, first-step, all-done, ends-same}
use Rattle.tera_built_ins.proofs.indent.indent_lines.Goals as goal
use Rattle.tera_built_ins.proofs.indent.indent_lines.Goals.{then-ends_with+in_ok-push_str, else-ends_with}

-- src/indent.rt
pub loop-line-init : goal.loop-line-init
loop-line-init c = record { bytes = c.new-out.ensures.bytes; begins = refl }

pub loop-line-preserved-in-Continue-1 : goal.loop-line-preserved-in-Continue-1
loop-line-preserved-in-Continue-1 c = record {
  bytes = later-step (λ x. x.now) c.args.padding.now c.args.first c.args.blank c.loop-line.yielded c.in-Some.line _ _ c.loop-line.begun c.loop-line.invariant.bytes c.loop-line.invariant.begins c.if-begun.true c.in_ok-append_later.ensures.ok;
  begins = c.if-begun.true ∙ sym (begun-push c.loop-line.yielded c.in-Some.line);
}

pub loop-line-preserved : goal.loop-line-preserved
loop-line-preserved c = record {
  bytes = first-step (λ x. x.now) c.args.padding.now c.args.first c.args.blank c.loop-line.yielded c.in-Some.line _ _ c.loop-line.begun c.loop-line.invariant.bytes c.loop-line.invariant.begins c.if-begun.false c.in_ok-append_first.ensures.ok;
  begins = sym (begun-push c.loop-line.yielded c.in-Some.line);
}

pub returns : goal.returns
returns c =
    let t = YieldsList-end (YieldsList-from_lines c.args.text.now cc) c.loop-line.yielded _ c.loop-line.yielded_by _ _ c.in-None.is c.next.ensures.steps in
    let e = ends_char 10 c.args.text.now c.ends_with.result c.ends_with.ensures.cases (omega arith) in
    let last : c.ends_with.result ≡ ends_line byte c.args.text.now = ends-same c.args.text.now _ c.ends_with.result e.0 e.1 in
    let whole = all-done c.args.padding.now c.args.first c.args.blank c.args.text.now _ (string_bytes c.loop-line.out) t.0 c.loop-line.invariant.bytes in
    let tail : string_bytes c.if-ends_with.out ≡ string_bytes c.loop-line.out ++ cond (ends_line byte c.args.text.now) (10 ∷ []) [] =
    elim c.if-ends_with.branch [
      | then-ends_with+in_ok-push_str w ↦ ap string_bytes w.out-is ∙ w.in_ok-push_str.ensures.bytes ∙ ap (λ b. string_bytes c.loop-line.out ++ cond b (10 ∷ []) []) (sym (sym last ∙ w.if-ends_with.true))
      | else-ends_with w ↦ ap string_bytes w.out-is ∙ sym (append-nil (string_bytes c.loop-line.out)) ∙ ap (λ b. string_bytes c.loop-line.out ++ cond b (10 ∷ []) []) (sym (sym last ∙ w.if-ends_with.false))
    ] in
    ap Ok (whole ∙ sym tail)
