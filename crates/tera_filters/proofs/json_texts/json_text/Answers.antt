use Rattle.std.proofs.Common.{rules, ◌≡◌, List, Ok, ap, sym, subst, ◌∙◌}
use Rattle.json.specs.Token.{Token}
use Rattle.tera_errors.specs.Answer.{Says}
use Rattle.tera_filters.specs.JsonTexts.{tokens_of, laid_out}
use Rattle.tera_filters.specs.Sheets.{Page, page_of, empty_page, with_all}
use Rattle.tera_filters.proofs.Pages.{filled, says_of}
use Rattle.tera_filters.proofs.json_texts.json_text.Goals as goal

pub into_text-requires : goal.into_text-requires
into_text-requires c =
    let put : with_all (empty_page c.args.is_pretty) (tokens_of c.args.value.now) ≡ Ok (page_of c.put_value.new.out)
    = ap (λ (p : Page). with_all p (tokens_of c.args.value.now)) (sym c.new-sheet.ensures) ∙ c.in_ok-put_value.ensures in
    (filled c.args.is_pretty (tokens_of c.args.value.now) (page_of c.put_value.new.out) put).fresh

pub returns : goal.returns
returns c =
    let put : with_all (empty_page c.args.is_pretty) (tokens_of c.args.value.now) ≡ Ok (page_of c.put_value.new.out)
    = ap (λ (p : Page). with_all p (tokens_of c.args.value.now)) (sym c.new-sheet.ensures) ∙ c.in_ok-put_value.ensures in
    let page = filled c.args.is_pretty (tokens_of c.args.value.now) (page_of c.put_value.new.out) put in
    let tokens = page.tokens in
    let whole = page.whole in
    search (rules, tokens, whole)

pub returns-in_err-put_value : goal.returns-in_err-put_value
returns-in_err-put_value c =
    let told = subst (λ (p : Page). Says c.in_err-put_value.field-0.0 (with_all p (tokens_of c.args.value.now))) c.new-sheet.ensures c.in_err-put_value.ensures in
    let whole = says_of c.in_err-put_value.field-0.0 (empty_page c.args.is_pretty) (tokens_of c.args.value.now) (λ (ts : List Token). Ok (laid_out c.args.is_pretty ts)) told in
    search (rules, whole)
