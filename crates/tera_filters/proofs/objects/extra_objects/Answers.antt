use Rattle.std.proofs.Common.{Ok, ap, sym, ◌∙◌}
use Rattle.tera_values.specs.Escape.{escape_html}
use Rattle.tera_filters.specs.Pack.{PackMeanings, extra_filters, in_pack, own_filter, own_function, own_test, with_filters, with_now, with_tests}
use Rattle.tera_filters.proofs.objects.extra_objects.Goals as goal

pub returns : goal.returns
returns g c =
    let m : PackMeanings _ _ _ = record {
      escape = λ e. escape_html;
      filter = λ p. record {
        meaning = in_pack (λ f. (own_filter f).meaning) g.F.Filter.meaning p;
        safe = in_pack (λ f. (own_filter f).safe) g.F.Filter.safe p;
      };
      test = λ p. record { meaning = in_pack (λ t. (own_test t).meaning) g.T.Test.meaning p };
      function = λ p. record {
        meaning = in_pack (λ f. (own_function f).meaning) g.G.Function.meaning p;
        safe = in_pack (λ f. (own_function f).safe) g.G.Function.safe p;
      };
    } in
    let filters = c.in_ok-put_filters.ensures.ok m ∙ ap (with_filters own_filter extra_filters) (c.new-objects.ensures m) in
    let tests = c.in_ok-put_tests.ensures.ok m ∙ ap (with_tests own_test) filters in
    ap Ok (sym (c.in_ok-put_now.ensures.ok m ∙ ap (with_now own_function c.args.clock) tests))
