-- Where floats are refused, a text of TOML has one answer.
use Rattle.std.proofs.Common.{◌≡◌, inl, inr, Result, Ok, Err, sym, ap, ◌∙◌, subst}
use Rattle.toml.specs.Data.{Data, string, integer, float, boolean, datetime, array as list, table, Items, no_items, item, Members, no_members, member}
use Rattle.tera_errors.specs.Prelude.{Fault}
use Rattle.tera_data.specs.Values.{Follows}
use Rattle.tera_data.specs.Toml.{OfFloat, OfItems, OfMembers, OfToml}
use Rattle.tera_data.specs.Laws.{TomlHasOneAnswer}
use Rattle.tera_data.specs.declared.number.Floats.TheVariants as floats
use Rattle.std.specs.Prelude.{Float}

-- at most one answer is meant
abbrev IsOne : {A : Type 0} → (Result A Fault → Type 0) → Type 0
IsOne {A} Meant = (r s : Result A Fault) → Meant r → Meant s → r ≡ s

one_equal : {A : Type 0} (a : Result A Fault) → IsOne (λ r. r ≡ a)
one_equal a r s h k = h ∙ sym k

one_follows : {A B : Type 0} (There : Result A Fault → Type 0) (Next : A → Result B Fault → Type 0) → IsOne There → ((a : A) → IsOne (Next a))
    → IsOne (Follows There Next)
one_follows There Next one next r s (inl (f, h, e)) (inl (g, k, d)) = let same : f ≡ g = cc (one (Err f) (Err g) h k) in e ∙ ap (λ x. Err x) same ∙ sym d
one_follows There Next one next r s (inl (f, h, e)) (inr (a, k, d)) = cc (one (Err f) (Ok a) h k)
one_follows There Next one next r s (inr (a, h, e)) (inl (g, k, d)) = cc (one (Ok a) (Err g) h k)
one_follows There Next one next r s (inr (a, h, e)) (inr (b, k, d)) =
    let same : a ≡ b = cc (one (Ok a) (Ok b) h k) in
    next b r s (subst (λ x. Next x r) same e) d

one_float : (x : Float) → IsOne (OfFloat floats.Refuse x)
one_float x r s (t, is, h) (u, js, k) = h ∙ sym k

mutual
  one_toml : (d : Data) → IsOne (OfToml floats.Refuse d)
  one_toml (string t) = one_equal _
  one_toml (integer z) = one_equal _
  one_toml (float x) = one_float x
  one_toml (boolean b) = one_equal _
  one_toml (datetime when) = one_equal _
  one_toml (list ds) = one_follows _ _ (one_items ds) (λ vs. one_equal _)
  one_toml (table ms) = one_follows _ _ (one_members ms) (λ vs. one_equal _)

  one_items : (ds : Items) → IsOne (OfItems floats.Refuse ds)
  one_items no_items = one_equal _
  one_items (item d ds) = one_follows _ _ (one_toml d) (λ v. one_follows _ _ (one_items ds) (λ vs. one_equal _))

  one_members : (ms : Members) → IsOne (OfMembers floats.Refuse ms)
  one_members no_members = one_equal _
  one_members (member n d ms) = one_follows _ _ (one_toml d) (λ v. one_follows _ _ (one_members ms) (λ vs. one_equal _))

pub one_answer : TomlHasOneAnswer
one_answer t = one_follows _ _ (one_equal _) (λ ms. one_toml (table ms))
