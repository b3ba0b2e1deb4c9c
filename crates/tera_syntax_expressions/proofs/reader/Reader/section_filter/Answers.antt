use Rattle.std.proofs.Common.{◌≡◌, ℕ, ◌+◌, ◌<◌, true, Some, ap, sym, ◌∙◌, arith}
use Rattle.tera_syntax_tree.specs.Tree.{Arguments}
use Rattle.tera_syntax_tree.specs.View.{arguments_of, filters_of}
use Rattle.tera_syntax_tokens.specs.Input.{is_word, kind, start, span}
use Rattle.tera_syntax_tokens.specs.Takes.{input}
use Rattle.tera_syntax_expressions.specs.Expressions.{expr, optional_arguments, join_filters, one_filter}
use Rattle.tera_syntax_expressions.proofs.FilterRows.{filters_of-push, filter_read}
use Rattle.tera_syntax_expressions.proofs.reader.Reader.section_filter.Goals as goal

pub returns : goal.returns
returns g c =
    let d = c.args.self.now.limit in
    let sub = expr c.args.self.now.below in
    let i = input c.args.tokens.now in
    let j = input c.optional_arguments.new.tokens in
    let found = filters_of c.args.found.now.items in
    let p : Arguments × ℕ = (arguments_of c.in-Ok.given.0.items, c.in-Ok.given.1) in
    let h : is_word (kind i) ≡ true = ap is_word (sym c.kind.ensures) ∙ sym c.is_word.ensures ∙ c.if-not-is_word.false in
    let f = c.if-depth-self.false in
    let lt : p.1 < d = omega (arith, f) in
    filter_read d sub found i j p h (ap (optional_arguments d sub) (sym c.take.ensures) ∙ c.in-Ok.ensures) lt
    ∙ ap (λ f. Some ((f, p.1 + 1), j)) (ap (λ n. join_filters found (one_filter n p.0 (span (start i) j))) (sym c.text-name.ensures)
    ∙ ap (λ at. join_filters found (one_filter c.text-name.result.now p.0 at)) (ap (λ s. span s j) (sym c.start-start.ensures) ∙ sym c.span.ensures)
    ∙ sym (ap filters_of c.in_ok-push.ensures.items ∙ filters_of-push c.args.found.now.items _))
