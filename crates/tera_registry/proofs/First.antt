-- Templates are linked one after another, up to the first that is of a kind.
use Rattle.std.proofs.Common.{◌≡◌, ℕ, ◌+◌, ◌≤◌, Bool, true, false, if◌then◌else◌, length, Option, Some, None, inl, inr, refl, sym, ap, ◌∙◌, arith, slice_get}
use Rattle.std.specs.Option.{option_or}
use Rattle.std.proofs.lemmas.Bool.{cases_lt}
use Rattle.std.proofs.lemmas.Option.{slice_get_within}
use Rattle.tera_meaning.specs.Registry.{Registry, Entry}
use Rattle.tera_registry.specs.First.{NoneBefore, IsFirstAmong, IsFirstOne}

-- one template more
pub none-before-more : (r : Registry) (kind : ℕ → Entry → Bool) (position : ℕ) (t : Entry) → NoneBefore r kind position → slice_get r.templates position ≡ Some t → kind position t ≡ false → NoneBefore r kind (position + 1)
none-before-more r kind position t none at is = λ i u lt u_at.
    elim (cases_lt i position) [
      | inl before ↦ none i u before u_at
      | inr after ↦
          (let same : i ≡ position = omega arith in
          let e : u ≡ t = (let q : Some u ≡ Some t = sym u_at ∙ ap (slice_get r.templates) same ∙ at in cc) in
          ap (kind i) e ∙ ap (λ k. kind k t) same ∙ is)
    ]

pub first-more : (r : Registry) (kind : ℕ → Entry → Bool) (position : ℕ) (t : Entry) (found : Option ℕ) (b : Bool) → IsFirstAmong r kind position found → slice_get r.templates position ≡ Some t → b ≡ kind position t → IsFirstAmong r kind (position + 1) (option_or found (if b then Some position else None))
first-more r kind position t (Some c) b first at is = first
first-more r kind position t None true first at is =
    (first, λ u u_at. (let e : u ≡ t = (let q : Some u ≡ Some t = sym u_at ∙ at in cc) in ap (kind position) e ∙ sym is))
first-more r kind position t None false first at is = none-before-more r kind position t first at (sym is)

pub first-of-all : (r : Registry) (kind : ℕ → Entry → Bool) (position : ℕ) (found : Option ℕ) → IsFirstAmong r kind position found → length r.templates ≤ position → IsFirstOne r kind found
first-of-all r kind position None first over = λ i t at. first i t (omega (arith, slice_get_within r.templates i t at)) at
first-of-all r kind position (Some c) first over = first

-- no position before this one is the first of the kind
abbrev pub NotPast : Option ℕ → ℕ → Type 0
NotPast found position = (c : ℕ) → found ≡ Some c → position ≤ c

pub not-past-more : (found : Option ℕ) (position : ℕ) → NotPast found position → (found ≡ Some position → ⊥) → NotPast found (position + 1)
not-past-more found position before not = λ c is.
    elim (cases_lt position c) [
      | inl lt ↦ omega arith
      | inr after ↦ (let e : c ≡ position = omega (arith, before c is) in absurd (not (is ∙ ap Some e)))
    ]

pub is-here : (r : Registry) (kind : ℕ → Entry → Bool) (found : Option ℕ) (position : ℕ) (t : Entry) → IsFirstOne r kind found → found ≡ Some position → slice_get r.templates position ≡ Some t → kind position t ≡ true
is-here r kind None position t first is at = (let q : None ≡ Some position = is in cc)
is-here r kind (Some c) position t first is at =
    (let q : Some c ≡ Some position = is in
    let e : c ≡ position = cc in
    ap (λ k. kind k t) (sym e) ∙ first.1 t (ap (slice_get r.templates) e ∙ at))

pub is-not-here : (r : Registry) (kind : ℕ → Entry → Bool) (found : Option ℕ) (position : ℕ) (t : Entry) → IsFirstOne r kind found → NotPast found position → (found ≡ Some position → ⊥) → slice_get r.templates position ≡ Some t → kind position t ≡ false
is-not-here r kind None position t first before not at = first position t at
is-not-here r kind (Some c) position t first before not at =
    first.0 position t (let le = not-past-more (Some c) position before not c refl in omega arith) at
