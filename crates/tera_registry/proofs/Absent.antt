-- What none of a list passes, and blocks that are lost.
use Rattle.std.proofs.Common.{◌≡◌, ℕ, zero, suc, ◌+◌, ◌<◌, ◌≤◌, Bool, true, false, ◌&&◌, is_some, is_none, List, [], ◌∷◌, length, get_or, Option, Some, None, option_map, Ok, string_bytes, String, Global, inl, inr, refl, sym, ap, ◌∙◌, arith, slice_get}
use Rattle.std.specs.List.{list_any}
use Rattle.std.proofs.lemmas.Bool.{cases_lt}
use Rattle.std.proofs.lemmas.Option.{slice_get_read, slice_get_within}
use Rattle.std.specs.Str.{bytes_eq}
use Rattle.std.specs.Prelude.{cond}
use Rattle.tera_errors.specs.Site.{Name}
use Rattle.tera_syntax_tree.specs.Blocks.{top_blocks}
use Rattle.tera_values.specs.Named.{Named}
use Rattle.tera_meaning.specs.Registry.{Registry, Entry}
use Rattle.tera_meaning.specs.Resolve.{entry_at, parents}
use Rattle.tera_meaning.specs.Lineage.{ancestors, definers_in}
use Rattle.tera_meaning.specs.Accepted.{is_none_left, is_lost, loses_a_block}
use Rattle.tera_registry.specs.declared.definers.BlockAt.{BlockAt}
use Rattle.tera_registry.specs.declared.template.Template.{Template as Stored}
use Rattle.tera_registry.specs.Kept.{entry_of}
use Rattle.tera_registry.specs.Numbers.{first_of, from_standing, lineage, number_at}
use Rattle.tera_registry.proofs.Numbered.{AreFrom, are-from, block-some, parents-climb}

any-none-get : {X : Type 0} (p : X → Bool) (xs : List X) → ((k : ℕ) (x : X) → slice_get xs k ≡ Some x → p x ≡ false) → list_any p xs ≡ false
any-none-get p [] h = refl
any-none-get p (x ∷ xs) h =
    let first : p x ≡ false = h 0 x refl in
    let rest : list_any p xs ≡ false = any-none-get p xs (λ k y at. h (suc k) y at) in
    rw first rest

-- none before a position passes
abbrev pub NoneYet : {X : Type 0} → (X → Bool) → List X → ℕ → Type 0
NoneYet {X} p xs i = (k : ℕ) (x : X) → k < i → slice_get xs k ≡ Some x → p x ≡ false

pub none-yet-more : {X : Type 0} (p : X → Bool) (xs : List X) (i : ℕ) (x : X) → NoneYet p xs i → slice_get xs i ≡ Some x → p x ≡ false → NoneYet p xs (i + 1)
none-yet-more p xs i x none at fails = λ k y lt y_at.
    elim (cases_lt k i) [
      | inl before ↦ none k y before y_at
      | inr after ↦
          (let last : k ≡ i = omega arith in
          let e : y ≡ x = (let q : Some y ≡ Some x = sym y_at ∙ ap (slice_get xs) last ∙ at in cc) in rw e fails)
    ]

pub none-yet-all : {X : Type 0} (p : X → Bool) (xs : List X) (i : ℕ) → NoneYet p xs i → length xs ≤ i → list_any p xs ≡ false
none-yet-all p xs i none over = any-none-get p xs (λ k x at. none k x (omega (arith, slice_get_within xs k x at)) at)

-- The first thing of a name.

pub entry-first : {A : Type 0} (n : Name) (es : Named A) (i : ℕ) (e : Name × A) → NoneYet (λ e. bytes_eq n e.0) es i → slice_get es i ≡ Some e → bytes_eq n e.0 ≡ true → entry_at n es ≡ Some e
entry-first n [] i e none at same = (let q : None ≡ Some e = at in cc)
entry-first n (x ∷ es) zero e none at same =
    (let q : x ≡ e = (let s : Some x ≡ Some e = at in cc) in
    let t : bytes_eq n x.0 ≡ true = rw q same in
    ap (λ (b : Bool). cond b (Some x) (entry_at n es)) t ∙ ap Some q)
entry-first n (x ∷ es) (suc i) e none at same =
    ap (λ (b : Bool). cond b (Some x) (entry_at n es)) (none 0 x (omega arith) refl) ∙ entry-first n es i e (λ k y lt y_at. none (suc k) y (omega arith) y_at) at same

pub entry-nowhere : {A : Type 0} (n : Name) (es : Named A) (i : ℕ) → NoneYet (λ e. bytes_eq n e.0) es i → length es ≤ i → entry_at n es ≡ None
entry-nowhere n [] i none over = refl
entry-nowhere n (x ∷ es) i none over =
    ap (λ (b : Bool). cond b (Some x) (entry_at n es)) (none 0 x (omega arith) refl) ∙ entry-nowhere n es i (λ k y lt y_at. none (suc k) y (omega (arith, slice_get_within es k y y_at)) y_at) (omega arith)

-- Lost blocks.

pub tops-of : (kept : Stored) (t : Entry) → entry_of kept ≡ t → kept.tops.items ≡ top_blocks t.1.tree.nodes
tops-of kept t same = kept.topped ∙ ap (λ (u : Entry). top_blocks u.1.tree.nodes) same

pub top-at : (kept : Stored) (t : Entry) (lent : List Name) (i : ℕ) (name : Name) → entry_of kept ≡ t → lent ≡ kept.tops.items → i < length lent → name ≡ get_or lent i name → slice_get (top_blocks t.1.tree.nodes) i ≡ Some name
top-at kept t lent i name same e lt is =
    ap (λ l. slice_get l i) (sym (e ∙ tops-of kept t same)) ∙ slice_get_read lent (length lent) i name refl lt is

pub child-of : (kept : Stored) (t : Entry) (b : Bool) → entry_of kept ≡ t → is_some kept.parent ≡ b → is_some t.1.tree.parent ≡ b
child-of kept t b same e =
    ap (λ (u : Entry). is_some u.1.tree.parent) (sym same) ∙ named_as kept.parent e
  where
    named_as : (o : Option (String Global)) → is_some o ≡ b → is_some (option_map string_bytes o) ≡ b
    named_as None e = e
    named_as (Some s) e = e

-- whether a block is lost is told by the number of the first who defines it above
pub lost-by : (r : Registry) (t : Entry) (block : Name) (o : Option ℕ) → AreFrom r o (definers_in block (ancestors r t)) → is_lost r t block ≡ is_none o
lost-by r t block None f = ap is_none_left f
lost-by r t block (Some n) f =
    ap is_none_left f.0 ∙ ap (λ o. is_none_left (from_standing r o)) (block-some r.templates n f.1).1

pub lost-so : (r : Registry) (t : Entry) (block : Name) (o : Option BlockAt) → parents r t ≡ Ok (ancestors r t) → option_map (number_at r.templates) o ≡ first_of (lineage r block (ancestors r t)) → is_lost r t block ≡ is_none o
lost-so r t block o ok is =
    lost-by r t block _ (are-from r block (ancestors r t) (parents-climb r t ok)) ∙ ap is_none (sym is) ∙ alike o
  where
    alike : (o : Option BlockAt) → is_none (option_map (number_at r.templates) o) ≡ is_none o
    alike None = refl
    alike (Some at) = refl

pub loses-of : (r : Registry) (t : Entry) (b : Bool) → is_some t.1.tree.parent ≡ true → list_any (is_lost r t) (top_blocks t.1.tree.nodes) ≡ b → loses_a_block r t ≡ b
loses-of r t b child is =
    ap (λ s. s && list_any (is_lost r t) (top_blocks t.1.tree.nodes)) child ∙ is

pub loses-nothing : (r : Registry) (t : Entry) → is_some t.1.tree.parent ≡ false → loses_a_block r t ≡ false
loses-nothing r t alone =
    ap (λ s. s && list_any (is_lost r t) (top_blocks t.1.tree.nodes)) alone
