use Rattle.std.proofs.Common.{rules, ◌≡◌, ◌+◌, ◌∷◌, ◌++◌, [], List, inl, inr, Ok, drop, get_or, arith, ap, sym, subst, ◌∙◌}
use Rattle.std.proofs.lemmas.Option.{slice_get_cases, slice_get_within, get_or_from_slice_get}
use Rattle.json.specs.Token.{Token, begin_object, key}
use Rattle.tera_errors.specs.Answer.{Says}
use Rattle.tera_value_types.proofs.Sizes.{array_deeper}
use Rattle.tera_values.specs.Val.{KeyVal, Val, entries}
use Rattle.tera_values.specs.View.{key_view}
use Rattle.tera_built_ins.specs.Arguments.{◌▸◌}
use Rattle.tera_filters.specs.JsonTexts.{tokens_of, member_tokens, name_of}
use Rattle.tera_filters.specs.Sheets.{Page, page_of, with_all, with_tokens}
use Rattle.tera_filters.proofs.Pages.{all_three, entry_below, member-next, opened, says_named}
use Rattle.tera_filters.proofs.json_texts.+writing.Goals.{put_members-in-Some+in_ok-put_name+in_ok-put_value, put_members-in_default}
use Rattle.tera_filters.proofs.json_texts.+writing.Goals as goal

pub put_members-loop-position-init : goal.put_members-loop-position-init
put_members-loop-position-init t c =
    let page = page_of c.args.out.now in
    let r = member_tokens (entries c.args.all.now) in
    let same : page_of c.put.new.self ≡ with_tokens page (begin_object ∷ []) = cc (c.in_ok-put.ensures) in
    ap (λ (p : Page). with_all p r) same ∙ opened page begin_object r

pub put_members-put_value-requires : goal.put_members-put_value-requires
put_members-put_value-requires t c =
    (omega (arith, entry_below c.args.all.now c.loop-position.position (key_view c.in-Some.key.now, c.in-Some.item.now) (sym c.in-Some.ensures), c.decreases), tt)

pub put_members-returns-in_err-put_value : goal.put_members-returns-in_err-put_value
put_members-returns-in_err-put_value t c =
    let page = page_of c.loop-position.out in
    let all = c.args.all.now in
    let i = c.loop-position.position in
    let e : KeyVal × Val = (key_view c.in-Some.key.now, c.in-Some.item.now) in
    let token = key (name_of e.0) in
    let later = member_tokens (entries (drop (i + 1) all)) in
    let within = slice_get_within all i e (sym c.in-Some.ensures) in
    let at : e ≡ get_or all i e = sym (get_or_from_slice_get all i e e (sym c.in-Some.ensures)) in
    let named : page_of c.put_name.new.out ≡ with_tokens page (token ∷ []) = cc (c.in_ok-put_name.ensures) in
    let told = subst (λ (p : Page). Says c.in_err-put_value.field-0.0 (with_all p (tokens_of e.1))) named c.in_err-put_value.ensures in
    let first = says_named c.in_err-put_value.field-0.0 page token (tokens_of e.1) (λ (ts : List Token). later ▸ λ us. Ok (token ∷ ts ++ us)) told in
    let whole = subst (Says c.in_err-put_value.field-0.0) (sym (member-next page all i e within at) ∙ c.loop-position.invariant) first in
    search (rules, whole)

pub put_members-loop-position-preserved : goal.put_members-loop-position-preserved
put_members-loop-position-preserved t c =
    let page = page_of c.loop-position.out in
    let all = c.args.all.now in
    let i = c.loop-position.position in
    elim c.match-entry_at.branch [
      | put_members-in-Some+in_ok-put_name+in_ok-put_value w ↦
          let e : KeyVal × Val = (key_view w.in-Some.key.now, w.in-Some.item.now) in
          let token = key (name_of e.0) in
          let later = member_tokens (entries (drop (i + 1) all)) in
          let within = slice_get_within all i e (sym w.in-Some.ensures) in
          let at : e ≡ get_or all i e = sym (get_or_from_slice_get all i e e (sym w.in-Some.ensures)) in
          let named : page_of w.put_name.new.out ≡ with_tokens page (token ∷ []) = cc (w.in_ok-put_name.ensures) in
          let put : with_all (with_tokens page (token ∷ [])) (tokens_of e.1) ≡ Ok (page_of w.put_value.new.out)
          = ap (λ (p : Page). with_all p (tokens_of e.1)) (sym named) ∙ w.in_ok-put_value.ensures in
          ap (λ o. with_all (page_of o) later) w.out-is
          ∙ all_three page (page_of w.put_value.new.out) token (tokens_of e.1) later put
          ∙ sym (member-next page all i e within at)
          ∙ c.loop-position.invariant
      -- each position has an entry
      | put_members-in_default w ↦ elim ((slice_get_cases all i).1) [
        | inl t ↦ let there = t.2 in let none = w.in_default.ensures in cc
        | inr t ↦ absurd (omega (arith, t.0, c.len-position-end.ensures.count, c.loop-position-test.true))
      ]
    ]

pub put_value-put_items-requires : goal.put_value-put_items-requires
put_value-put_items-requires t c = (omega (arith, array_deeper c.in-Array.items.now c.args.value.now c.in-Array.ensures, c.decreases), tt)
