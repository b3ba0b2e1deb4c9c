-- Tokens stand one behind another, inside the tag.
use Rattle.std.proofs.Common.{◌≡◌, ℕ, zero, suc, ◌+◌, ◌-◌, ◌<◌, ◌≤◌, List, [], ◌∷◌, Bool, true, false, length, drop, get_or, take, Option, Some, None, option_map, refl, sym, subst, arith, if◌then◌else◌}
use Rattle.std.proofs.lemmas.List.{length-take-le}
use Rattle.tera_errors.specs.Site.{Text}
use Rattle.tera_syntax_tokens.specs.declared.tag_tokens.Ending.{Ending}
use Rattle.tera_syntax_tokens.specs.declared.token.Kind.{Kind}
use Rattle.tera_syntax_tokens.specs.declared.token.Kind.TheVariants as k
use Rattle.tera_syntax_tokens.specs.declared.token.Measure.{Measure}
use Rattle.tera_syntax_tree.specs.Inside.{Within}
use Rattle.tera_syntax_tokens.specs.declared.token.Token as declared
use Rattle.tera_syntax_tokens.specs.Token.{Token, token, tokens_of, measured, next_token, is_blank}
use Rattle.tera_syntax_tokens.specs.Input.{Input, kind, kind_of, start, start_of, next, after}
use Rattle.tera_syntax_tokens.specs.Stretches.{InOrder}
use Rattle.tera_syntax_tokens.specs.Inside.{Inside, inside, closing, closing_in, open_after, prefixed, ended, token_then}
use Rattle.tera_syntax_tokens.proofs.Sizes.{measured_sized, token_size}
use Rattle.tera_syntax_tokens.proofs.Insides.{closing_found}

pub in_order-le : (size from : ℕ) (ts : List Token) → InOrder size from ts → from ≤ size
in_order-le size from [] h = h
in_order-le size from (t ∷ ts) h = let l = in_order-le size t.span.end ts h.2 in omega (arith, h.0, h.1, l)

-- each of them is a stretch of the text
pub token_within : (size from : ℕ) (ts : List declared.Token) (i : ℕ) (blank : declared.Token) → i < length ts → InOrder size from (tokens_of ts) → Within size (get_or ts i blank).span
token_within size from [] i blank l h = absurd (omega arith)
token_within size from (t ∷ ts) zero blank l h = (h.1, in_order-le size t.span.end (tokens_of ts) h.2)
token_within size from (t ∷ ts) (suc i) blank l h = token_within size t.span.end ts i blank (omega arith) h.2

-- from an earlier position on, and in a longer text
pub in_order-wider : (size more from before : ℕ) (ts : List Token) → size ≤ more → before ≤ from → InOrder size from ts → InOrder more before ts
in_order-wider size more from before [] m b h = omega arith
in_order-wider size more from before (t ∷ ts) m b h = (omega (arith, h.0), h.1, in_order-wider size more t.span.end t.span.end ts m (omega arith) h.2)

-- The tokens that are ahead stand behind what was taken.
abbrev pub Orderly : ℕ → Input → Type 0
Orderly size i = InOrder size i.last i.ahead

-- from one position to another in order
pub record Onward (size : ℕ) (i j : Input) : Type 0 where
  pub later : i.last ≤ j.last
  pub orderly : Orderly size j

pub onward_none : (size : ℕ) (i : Input) → Orderly size i → Onward size i i
onward_none size i h = record { later = omega arith; orderly = h }

pub onward_then : {size : ℕ} {i j m : Input} → Onward size i j → Onward size j m → Onward size i m
onward_then p q = let a = p.later in let b = q.later in record { later = omega arith; orderly = q.orderly }

pub onward_next : (size : ℕ) (i : Input) → Orderly size i → Onward size i (next i)
unfolding next
onward_next size i h = go i.ahead i.last i.in_loop h
  where
    go : (ts : List Token) (last : ℕ) (q : Bool) → InOrder size last ts → Onward size (record { ahead = ts; last = last; in_loop = q }) (after ts last q)
    go [] last q h = record { later = omega arith; orderly = h }
    go (t ∷ ts) last q h = record { later = omega (arith, h.0, h.1); orderly = h.2 }

-- a token begins where it does not end later
pub start_le : (size : ℕ) (s : Kind) (i : Input) → kind i ≡ s → (s ≡ k.End → ⊥) → Orderly size i → start i ≤ (next i).last
unfolding next kind start
start_le size s i e n h = go i.ahead i.last i.in_loop e h
  where
    go : (ts : List Token) (last : ℕ) (q : Bool) → kind_of ts ≡ s → InOrder size last ts → start_of ts ≤ (after ts last q).last
    go [] last q e h = absurd (n (sym e))
    go (t ∷ ts) last q e h = h.1

span_by : (o : Option Measure) (at : ℕ) (text : Text) (t : Token) → measured text ≡ o → option_map (token at text) o ≡ Some t → (t.span.start ≡ at) × (t.span.end ≡ at + length t.text)
span_by None at text t e h = absurd (cc)
span_by (Some m) at text t e h =
    let q : token at text m ≡ t = cc in
    let l = length-take-le m.size text (measured_sized text m e).fits in
    let s : at + m.size ≡ at + length (take m.size text) = omega (arith, l) in
    subst (λ u. (u.span.start ≡ at) × (u.span.end ≡ at + length u.text)) q (refl, s)

-- where a token stands
pub token_span : (at : ℕ) (text : Text) (t : Token) → next_token at text ≡ Some t → (t.span.start ≡ at) × (t.span.end ≡ at + length t.text)
unfolding next_token
token_span at text t h = span_by (measured text) at text t refl h

-- How a tag ends: what its end delimiter is, and where.
pub record Ends (end : Text) (at : ℕ) (text : Text) (x : Inside) : Type 0 where
  pub position : ℕ
  pub ending : Ending
  pub found : closing end (drop position text) ≡ Some ending
  pub next : x.next ≡ (at + position) + ending.size

-- a tag that was cut: its tokens stand in order before its end
pub record Cut (end : Text) (at skip : ℕ) (text : Text) (x : Inside) : Type 0 where
  pub ends : Ends end at text x
  pub in_order : InOrder x.next (at + skip) x.tokens

ends_more : (end : Text) (at b : ℕ) (bs : Text) (x : Inside) → Ends end (suc at) bs x → Ends end at (b ∷ bs) x
ends_more end at b bs x e = let n = e.next in record { position = suc e.position; ending = e.ending; found = e.found; next = omega arith }

later : (end : Text) (at skip n b : ℕ) (bs : Text) (x : Inside) → at + n ≤ suc at + skip → Cut end (suc at) skip bs x → Cut end at n (b ∷ bs) x
later end at skip n b bs x l c =
    record { ends = ends_more end at b bs x c.ends; in_order = in_order-wider x.next x.next (suc at + skip) (at + n) x.tokens (omega arith) l c.in_order }

abbrev Rest : Text → Text → Type 0
Rest end bs = (opened skip at : ℕ) (x : Inside) → inside end opened skip at bs ≡ Some x → Cut end at skip bs x

with_token : (end : Text) (at b : ℕ) (bs : Text) (t : Token) (o : Option Inside) (x : Inside) → next_token at (b ∷ bs) ≡ Some t
    → ((y : Inside) → o ≡ Some y → Cut end (suc at) (length t.text - 1) bs y) → prefixed (t ∷ []) o ≡ Some x → Cut end at 0 (b ∷ bs) x
with_token end at b bs t None x e more h = absurd (cc)
with_token end at b bs t (Some y) x e more h =
    let q : record y { tokens = t ∷ y.tokens } ≡ x = cc in
    let c = more y refl in
    let m = ends_more end at b bs y c.ends in
    let s = token_span at (b ∷ bs) t e in
    let z = (token_size at (b ∷ bs) t e).0 in
    let n = m.next in
    let all : InOrder y.next (at + 0) (t ∷ y.tokens) =
    (omega (arith, s.0), omega (arith, s.0, s.1), in_order-wider y.next y.next (suc at + (length t.text - 1)) t.span.end y.tokens (omega arith) (omega (arith, s.1, z)) c.in_order) in
    subst (λ x. Cut end at 0 (b ∷ bs) x) q (record { ends = record { position = m.position; ending = m.ending; found = m.found; next = n }; in_order = all })

token_or_none : (end : Text) (opened at b : ℕ) (bs : Text) (o : Option Token) (x : Inside) → Rest end bs → next_token at (b ∷ bs) ≡ o
    → token_then o (λ t. inside end (open_after opened t.kind) (length t.text - 1) (suc at) bs) ≡ Some x → Cut end at 0 (b ∷ bs) x
token_or_none end opened at b bs None x more e h = absurd (cc)
token_or_none end opened at b bs (Some t) x more e h =
    with_token end at b bs t (inside end (open_after opened t.kind) (length t.text - 1) (suc at) bs) x e (λ y q. more (open_after opened t.kind) (length t.text - 1) (suc at) y q) h

blank_or_token : (end : Text) (opened at b : ℕ) (bs : Text) (q : Bool) (x : Inside) → Rest end bs
    → (if q then inside end opened 0 (suc at) bs else token_then (next_token at (b ∷ bs)) (λ t. inside end (open_after opened t.kind) (length t.text - 1) (suc at) bs)) ≡ Some x → Cut end at 0 (b ∷ bs) x
blank_or_token end opened at b bs true x more h = later end at 0 0 b bs x (omega arith) (more opened 0 (suc at) x h)
blank_or_token end opened at b bs false x more h = token_or_none end opened at b bs (next_token at (b ∷ bs)) x more refl h

ended_or_more : (end : Text) (opened at b : ℕ) (bs : Text) (o : Option Ending) (x : Inside) → Rest end bs → closing_in opened end (b ∷ bs) ≡ o
    → ended at o (if is_blank b then inside end opened 0 (suc at) bs else token_then (next_token at (b ∷ bs)) (λ t. inside end (open_after opened t.kind) (length t.text - 1) (suc at) bs)) ≡ Some x → Cut end at 0 (b ∷ bs) x
ended_or_more end opened at b bs None x more e h = blank_or_token end opened at b bs (is_blank b) x more h
ended_or_more end opened at b bs (Some c) x more e h =
    let q : record { tokens = []; next = at + c.size; trims = c.trims } ≡ x = cc in
    let f = closing_found opened end (b ∷ bs) c e in
    subst (λ x. Cut end at 0 (b ∷ bs) x) q (record { ends = record { position = 0; ending = c; found = f; next = omega arith }; in_order = omega arith })

-- what stands in a tag
pub inside_cut : (end : Text) (opened skip at : ℕ) (text : Text) (x : Inside) → inside end opened skip at text ≡ Some x → Cut end at skip text x
unfolding inside
inside_cut end opened skip at [] x h = absurd (cc)
inside_cut end opened (suc n) at (b ∷ bs) x h = later end at n (suc n) b bs x (omega arith) (inside_cut end opened n (suc at) bs x h)
inside_cut end opened zero at (b ∷ bs) x h =
    ended_or_more end opened at b bs (closing_in opened end (b ∷ bs)) x (λ opened skip at x h. inside_cut end opened skip at bs x h) refl h
