-- What look-ups find.
use Rattle.std.proofs.Common.{◌≡◌, ℕ, suc, ◌+◌, ◌-◌, ◌<◌, ◌≤◌, List, [], ◌∷◌, Option, Some, None, IfSome, length, drop, reverse, sym, ap, ap₂, ◌∙◌, arith, get_or}
use Rattle.std.specs.Prelude.{slice_get}
use Rattle.std.specs.Option.{option_or}
use Rattle.std.proofs.lemmas.List.{drop_more, get_or-reverse, length-reverse, drop_all, length-drop}
use Rattle.std.proofs.lemmas.Option.{slice_get_within, get_or_from_slice_get}
use Rattle.tera_values.specs.Val.{Val}
use Rattle.tera_values.specs.Named.{Named}
use Rattle.tera_state.specs.Bound.{layer_of}
use Rattle.tera_state.specs.Opened.{turn_of, turns_of}
use Rattle.tera_state.specs.Stack.{lower}
use Rattle.tera_state.specs.Scopes.{context_of}
use Rattle.tera_state.specs.declared.bindings.Binding.{Binding}
use Rattle.tera_state.specs.declared.loops.ForLoop.{ForLoop}
use Rattle.tera_state.specs.declared.frame.Frame.{Frame}
use Rattle.tera_state.specs.declared.frame.FrameKind.{FrameKind}
use Rattle.tera_state.specs.declared.frame.FrameKind.TheVariants as standing

pub first : (x a b : Option Val) → x ≡ a → (v : Val) → x ≡ Some v → x ≡ option_or a b
first x a b e v h = h ∙ ap (λ (y : Option Val). option_or y b) (sym h ∙ e)

pub second : (x a b : Option Val) → None ≡ a → x ≡ b → x ≡ option_or a b
second x a b none e = e ∙ ap (λ (y : Option Val). option_or y b) none

-- what is lent under one of two names for the same is lent under the other
pub lent_as : {B : Type 0} (o : Option B) (now : B → Val) {x y : Option Val} → x ≡ y → IfSome o (λ b. y ≡ Some (now b)) → IfSome o (λ b. x ≡ Some (now b))
lent_as None now e h = tt
lent_as (Some b) now e h = e ∙ h

module _ {X : Type 0} where
  pub lower_step : (xs : List X) (k : ℕ) (x : X) → slice_get (reverse xs) k ≡ Some x → lower (suc k) xs ≡ x ∷ lower k xs
  lower_step xs k x h =
      let within : k < length (reverse xs) = slice_get_within (reverse xs) k x h in
      let lt : k < length xs = omega (arith, within, length-reverse xs) in
      let i : ℕ = length xs - 1 - k in
      let here : i < length xs = omega (arith, lt) in
      let it : get_or xs i x ≡ x = sym (get_or-reverse xs k x lt) ∙ get_or_from_slice_get (reverse xs) k x x h in
      let same : length xs - suc k ≡ i = omega arith in
      let next : i + 1 ≡ length xs - k = omega (arith, lt) in
      ap (λ (j : ℕ). drop j xs) same ∙ drop_more xs i x here ∙ ap₂ (λ (y : X) (j : ℕ). y ∷ drop j xs) it next

  pub lower_none : (xs : List X) → lower 0 xs ≡ []
  lower_none xs = let le : length xs ≤ length xs - 0 = omega arith in drop_all (length xs - 0) xs le

  pub lower_all : (xs : List X) → lower (length xs) xs ≡ xs
  lower_all xs = let z : length xs - length xs ≡ 0 = omega arith in ap (λ (j : ℕ). drop j xs) z

  pub lower_length : (xs : List X) (k : ℕ) → k ≤ length xs → length (lower k xs) ≡ k
  lower_length xs k le = let n : length xs - (length xs - k) ≡ k = omega (arith, le) in length-drop (length xs - k) xs ∙ n

  pub lower_at : (xs : List X) (k : ℕ) (x : X) → 0 < k → slice_get (reverse xs) (k - 1) ≡ Some x → lower k xs ≡ x ∷ lower (k - 1) xs
  lower_at xs k x lt h = let e : k ≡ suc (k - 1) = omega (arith, lt) in ap (λ (j : ℕ). lower j xs) e ∙ lower_step xs (k - 1) x h

-- the turns of the loops from a layer outwards
pub turns_step : (bs : List Binding) (f : ℕ) (ls : List ForLoop) (k : ℕ) (l : ForLoop) → 0 < k → k ≤ length ls → slice_get (reverse ls) (k - 1) ≡ Some l → turns_of bs f (lower k ls) ≡ turn_of (layer_of bs f k) l ∷ turns_of bs f (lower (k - 1) ls)
turns_step bs f ls k l lt le h =
    let less : k - 1 ≤ length ls = omega (arith, le) in
    let size : suc (length (lower (k - 1) ls)) ≡ k = omega (arith, lower_length ls (k - 1) less, lt) in
    ap (turns_of bs f) (lower_at ls k l lt h) ∙ ap (λ (j : ℕ). turn_of (layer_of bs f j) l ∷ turns_of bs f (lower (k - 1) ls)) size

-- the context of a body
pub whole_context : (s : FrameKind) (c : Named Val × Named Val) (fs : List Frame) → s ≡ standing.Template c → context_of s fs ≡ c.0
whole_context s c [] e = ap (λ (t : FrameKind). context_of t []) e
whole_context s c (f ∷ fs) e = ap (λ (t : FrameKind). context_of t (f ∷ fs)) e

pub called_context : (s : FrameKind) (context : Named Val) (fs : List Frame) → s ≡ standing.Component context → context_of s fs ≡ context
called_context s context [] e = ap (λ (t : FrameKind). context_of t []) e
called_context s context (f ∷ fs) e = ap (λ (t : FrameKind). context_of t (f ∷ fs)) e

pub included_context : (s : FrameKind) (f : Frame) (fs gs : List Frame) → s ≡ standing.Include → gs ≡ f ∷ fs → context_of s gs ≡ context_of f.standing fs
included_context s f fs gs e g = ap₂ (λ (t : FrameKind) (hs : List Frame). context_of t hs) e g
