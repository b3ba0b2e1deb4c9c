use Rattle.std.proofs.Common.{rules, ◌≡◌, [], ◌∷◌, ◌++◌, Err, sym, ap, subst, ◌∙◌}
use Rattle.std.specs.Prelude.{IsUtf8}
use Rattle.std.proofs.lemmas.List.{map-append}
use Rattle.tera.specs.Prelude.{pairs_of}
use Rattle.tera_renderer.specs.Calls.{AreTexts}
use Rattle.tera_page.specs.Templates.{pieces_of, templates_in}
use Rattle.tera_page.proofs.Pieces.{next_text, next_name_among, next_text_among, one_more, texts_of_more}
use Rattle.tera_page.proofs.templates.templates_of.Goals as goal

pub loop-size-preserved : goal.loop-size-preserved
loop-size-preserved c =
    let sizes = c.args.sizes.now in
    let i = c.loop-size.size-index in
    let rest = c.loop-size.rest.now in
    let front = pairs_of c.loop-size.templates.items in
    let all = templates_in sizes c.args.bytes.now in
    let name = c.in_ok-name.name.now in
    let text = c.in_ok-text.text.now in
    let pushed : pairs_of c.push.new.self.items ≡ front ++ (name, text) ∷ [] = ap pairs_of c.in_ok-push.ensures.items ∙ map-append _ c.loop-size.templates.items ((c.in_ok-name.name, c.in_ok-text.text) ∷ []) in
    let cut : c.split_off-in-loop-size.result.0.now ≡ next_text sizes i rest front all c.loop-size-test.true c.loop-size.invariant.together = rw c.split_off.ensures.behind at c.split_off-in-loop-size.ensures.front in
    record {
      together = one_more sizes i rest front all c.loop-size-test.true c.loop-size.invariant.together (pairs_of c.push.new.self.items) name text c.split_off-in-loop-size.result.1.now pushed (c.in_ok-name.ensures.ok.0 ∙ c.split_off.ensures.front) (c.in_ok-text.ensures.ok.0 ∙ cut) (rw c.split_off.ensures.behind at c.split_off-in-loop-size.ensures.behind);
      texts = subst (λ l. AreTexts (pieces_of l)) (sym pushed) (texts_of_more front name text c.loop-size.invariant.texts (subst IsUtf8 (sym c.in_ok-name.ensures.ok.0) c.in_ok-name.ensures.ok.1) (subst IsUtf8 (sym c.in_ok-text.ensures.ok.0) c.in_ok-text.ensures.ok.1));
    }

pub returns-in_err-name-clause-told : goal.returns-in_err-name-clause-told
returns-in_err-name-clause-told c =
    let sizes = c.args.sizes.now in
    let front = pairs_of c.loop-size.templates.items in
    let all = templates_in sizes c.args.bytes.now in
    let among = next_name_among sizes c.loop-size.size-index c.loop-size.rest.now front all c.loop-size-test.true c.loop-size.invariant.together in
    let told = c.in_err-name.ensures.told in
    let is : c.from_residual.result ≡ Err c.in_err-name.field-0.0 = search rules in
    rw is (told.0, λ some texts. told.1 (subst IsUtf8 (sym c.split_off.ensures.front) (among texts)))

pub returns-in_err-text-clause-told : goal.returns-in_err-text-clause-told
returns-in_err-text-clause-told c =
    let sizes = c.args.sizes.now in
    let i = c.loop-size.size-index in
    let rest = c.loop-size.rest.now in
    let front = pairs_of c.loop-size.templates.items in
    let all = templates_in sizes c.args.bytes.now in
    let among = next_text_among sizes i rest front all c.loop-size-test.true c.loop-size.invariant.together in
    let told = c.in_err-text.ensures.told in
    let is : c.from_residual-in_err-text.result ≡ Err c.in_err-text.field-0.0 = search rules in
    let cut : c.split_off-in-loop-size.result.0.now ≡ next_text sizes i rest front all c.loop-size-test.true c.loop-size.invariant.together = rw c.split_off.ensures.behind at c.split_off-in-loop-size.ensures.front in
    rw is (told.0, λ some texts. told.1 (subst IsUtf8 (sym cut) (among texts)))
