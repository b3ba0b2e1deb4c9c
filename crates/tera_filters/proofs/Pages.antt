-- Tokens behind those of a page.
use Rattle.std.proofs.Common.{◌≡◌, ℕ, zero, suc, ◌+◌, ◌<◌, ◌≤◌, Bool, List, [], ◌∷◌, ◌++◌, Some, None, Ok, Err, length, drop, get_or, refl, ap, sym, subst, ◌∙◌, append_assoc, arith}
use Rattle.std.specs.Prelude.{Result, slice_get}
use Rattle.std.proofs.lemmas.List.{at_drop_more, at_drop_all}
use Rattle.json.specs.Token.{Token, end_array, end_object}
use Rattle.tera_errors.specs.Answer.{SeenError, Says}
use Rattle.tera_errors.specs.Fault.{Fault}
use Rattle.tera_values.specs.Val.{Val, KeyVal, vals, entries, item, entry, val_size, entries_size}
use Rattle.tera_built_ins.specs.Arguments.{◌▸◌}
use Rattle.tera_filters.specs.JsonTexts.{item_tokens, member_tokens, byte_tokens, laid_out}
use Rattle.tera_filters.specs.Sheets.{Page, empty_page, page_text, with_tokens, with_all}

abbrev pub Tokens : Type 0
Tokens = Result (List Token) Fault

with-again : (page : Page) (ts us vs : List Token) → ts ++ us ≡ vs → with_tokens (with_tokens page ts) us ≡ with_tokens page vs
with-again page ts us vs e =
    ap (λ (l : List Token). with_tokens (record { is_pretty = page.is_pretty; before = page.before; tokens = [] }) l) (append_assoc page.tokens ts us ∙ ap (λ (l : List Token). page.tokens ++ l) e)

-- a token, and then more
pub opened : (page : Page) (t : Token) (r : Tokens) → with_all (with_tokens page (t ∷ [])) r ≡ with_all page (r ▸ λ ts. Ok (t ∷ ts))
opened page t (Ok ts) = ap (λ (p : Page). Ok p) (with-again page (t ∷ []) ts (t ∷ ts) refl)
opened page t (Err fault) = refl

-- those of a value, and then those of more
pub both : (page after : Page) (r s : Tokens) → with_all page r ≡ Ok after → with_all after s ≡ with_all page (r ▸ λ ts. s ▸ λ us. Ok (ts ++ us))
both page after (Ok ts) (Ok us) e =
    let same : after ≡ with_tokens page ts = cc in
    ap (λ (p : Page). Ok (with_tokens p us)) same ∙ ap (λ (p : Page). Ok p) (with-again page ts us (ts ++ us) refl)
both page after (Ok ts) (Err fault) e = refl
both page after (Err fault) s e = cc

-- a name before them
pub all_three : (page after : Page) (t : Token) (r s : Tokens) → with_all (with_tokens page (t ∷ [])) r ≡ Ok after → with_all after s ≡ with_all page (r ▸ λ ts. s ▸ λ us. Ok (t ∷ ts ++ us))
all_three page after t (Ok ts) (Ok us) e =
    let same : after ≡ with_tokens (with_tokens page (t ∷ [])) ts = cc in
    ap (λ (p : Page). Ok (with_tokens p us)) (same ∙ with-again page (t ∷ []) ts (t ∷ ts) refl) ∙ ap (λ (p : Page). Ok p) (with-again page (t ∷ ts) us (t ∷ ts ++ us) refl)
all_three page after t (Ok ts) (Err fault) e = refl
all_three page after t (Err fault) s e = cc

-- what refuses a value refuses what it stands in
pub says_first : (e : SeenError) (page : Page) (r : Tokens) (more : List Token → Tokens) → Says e (with_all page r) → Says e (with_all page (r ▸ more))
says_first None page r more h = tt
says_first (Some fault) page (Ok ts) more h = cc
says_first (Some fault) page (Err told) more h = cc

pub says_named : (e : SeenError) (page : Page) (t : Token) (r : Tokens) (more : List Token → Tokens) → Says e (with_all (with_tokens page (t ∷ [])) r) → Says e (with_all page (r ▸ more))
says_named None page t r more h = tt
says_named (Some fault) page t (Ok ts) more h = cc
says_named (Some fault) page t (Err told) more h = cc

pub item-next : (page : Page) (vs : List Val) (i : ℕ) (v : Val) → i < length vs → v ≡ get_or vs i v → with_all page (item_tokens (vals (drop i vs))) ≡ with_all page (item_tokens (item v (vals (drop (i + 1) vs))))
item-next page vs i v h is =
    at_drop_more (λ (l : List Val). with_all page (item_tokens (vals l))) vs i v h ∙ ap (λ (w : Val). with_all page (item_tokens (item w (vals (drop (i + 1) vs))))) (sym is)

pub items-end : (page : Page) (vs : List Val) (i : ℕ) → length vs ≤ i → with_all page (item_tokens (vals (drop i vs))) ≡ Ok (with_tokens page (end_array ∷ []))
items-end page vs i h = at_drop_all (λ (l : List Val). with_all page (item_tokens (vals l))) vs i h

pub member-next : (page : Page) (es : List (KeyVal × Val)) (i : ℕ) (e : KeyVal × Val) → i < length es → e ≡ get_or es i e → with_all page (member_tokens (entries (drop i es))) ≡ with_all page (member_tokens (entry e.0 e.1 (entries (drop (i + 1) es))))
member-next page es i e h is =
    at_drop_more (λ (l : List (KeyVal × Val)). with_all page (member_tokens (entries l))) es i e h ∙ ap (λ (w : KeyVal × Val). with_all page (member_tokens (entry w.0 w.1 (entries (drop (i + 1) es))))) (sym is)

pub members-end : (page : Page) (es : List (KeyVal × Val)) (i : ℕ) → length es ≤ i → with_all page (member_tokens (entries (drop i es))) ≡ Ok (with_tokens page (end_object ∷ []))
members-end page es i h = at_drop_all (λ (l : List (KeyVal × Val)). with_all page (member_tokens (entries l))) es i h

pub byte-next : (page : Page) (bs : List ℕ) (i b : ℕ) → i < length bs → b ≡ get_or bs i b → with_tokens page (byte_tokens (drop i bs)) ≡ with_tokens page (byte_tokens (b ∷ drop (i + 1) bs))
byte-next page bs i b h is =
    at_drop_more (λ (l : List ℕ). with_tokens page (byte_tokens l)) bs i b h ∙ ap (λ (c : ℕ). with_tokens page (byte_tokens (c ∷ drop (i + 1) bs))) (sym is)

-- ---- a page that began with nothing

pub record Filled (is_pretty : Bool) (r : Tokens) (page : Page) : Type 0 where
  pub fresh : page.before ≡ []
  pub tokens : r ≡ Ok page.tokens
  pub whole : page_text page ≡ laid_out is_pretty page.tokens

pub filled : (is_pretty : Bool) (r : Tokens) (page : Page) → with_all (empty_page is_pretty) r ≡ Ok page → Filled is_pretty r page
filled is_pretty (Ok ts) page e =
    let same : with_tokens (empty_page is_pretty) ts ≡ page = cc in
    subst (λ (p : Page). Filled is_pretty (Ok ts) p) same (record { fresh = refl; tokens = refl; whole = refl })
filled is_pretty (Err fault) page e = cc

pub says_of : {Y : Type 0} (e : SeenError) (page : Page) (r : Tokens) (more : List Token → Result Y Fault) → Says e (with_all page r) → Says e (r ▸ more)
says_of None page r more h = tt
says_of (Some fault) page (Ok ts) more h = cc
says_of (Some fault) page (Err told) more h = cc

-- ---- a value of a map is smaller than what it stands in

pub entry_below : (es : List (KeyVal × Val)) (i : ℕ) (e : KeyVal × Val) → slice_get es i ≡ Some e → val_size e.1 < entries_size (entries es)
entry_below [] i e is = cc
entry_below (x ∷ es) zero e is =
    let same : x ≡ e = cc in
    omega (arith, ap (λ (w : KeyVal × Val). val_size w.1) same)
entry_below (x ∷ es) (suc i) e is = omega (arith, entry_below es i e is)
