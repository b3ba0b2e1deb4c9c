-- Entries of different keys, put into a map one by one.
use Rattle.std.proofs.Common.{◌≡◌, ℕ, false, cond, ◌||◌, List, [], ◌∷◌, ◌++◌, append-nil, append_assoc, length, map, refl, sym, ap, ◌∙◌, subst, arith}
use Rattle.std.specs.List.{list_any}
use Rattle.std.proofs.lemmas.List.{map-append}
use Rattle.std.proofs.lemmas.List.Folds.{list_any-append}
use Rattle.tera_values.specs.Val.{KeyVal}
use Rattle.tera_values.specs.Access.{insert_pair, key_eq}
use Rattle.tera_built_ins.specs.Gathering.{AllOther}
use Rattle.tera_built_ins.proofs.Gathered.{same_key, left-or, right-or}

-- none of these keys stands there
abbrev AllNew : List KeyVal → List KeyVal → Type 0
AllNew [] js = Unit {0}
AllNew (k ∷ ks) js = (list_any (key_eq k) js ≡ false) × AllNew ks js

more-new : (ks js : List KeyVal) (k : KeyVal) → AllNew ks js → list_any (key_eq k) ks ≡ false → AllNew ks (js ++ k ∷ [])
more-new [] js k new h = tt
more-new (j ∷ ks) js k new h =
    let other : key_eq j k ≡ false = same_key.symm j k ∙ left-or (key_eq k j) (list_any (key_eq k) ks) h in
    (list_any-append (key_eq j) js (k ∷ []) ∙ ap (λ b. b || (key_eq j k || false)) new.0 ∙ ap (λ b. b || false) other, more-new ks js k new.1 (right-or (key_eq k j) (list_any (key_eq k) ks) h))

all-new : (ks : List KeyVal) → AllNew ks []
all-new [] = tt
all-new (k ∷ ks) = (refl, all-new ks)

module _ {A : Type 0} where
  abbrev pub keys : List (KeyVal × A) → List KeyVal
  keys es = map (λ e. e.0) es

  abbrev pub put_all : List (KeyVal × A) → List (KeyVal × A) → List (KeyVal × A)
  put_all all [] = all
  put_all all (e ∷ es) = put_all (insert_pair all e.0 e.1) es

  insert-new : (all : List (KeyVal × A)) (k : KeyVal) (a : A) → list_any (key_eq k) (keys all) ≡ false → insert_pair all k a ≡ all ++ (k, a) ∷ []
  insert-new [] k a h = refl
  insert-new (e ∷ all) k a h =
      let other : key_eq k e.0 ≡ false = left-or (key_eq k e.0) (list_any (key_eq k) (keys all)) h in
      ap (λ b. cond b ((e.0, a) ∷ all) (e ∷ insert_pair all k a)) other ∙ ap (λ l. e ∷ l) (insert-new all k a (right-or (key_eq k e.0) (list_any (key_eq k) (keys all)) h))

  put_all-new : (es all : List (KeyVal × A)) → AllOther (keys es) → AllNew (keys es) (keys all) → put_all all es ≡ all ++ es
  put_all-new [] all o new = sym (append-nil all)
  put_all-new (e ∷ es) all o new =
      let one : insert_pair all e.0 e.1 ≡ all ++ e ∷ [] = insert-new all e.0 e.1 new.0 in
      let fresh : AllNew (keys es) (keys (all ++ e ∷ [])) = subst (AllNew (keys es)) (sym (map-append (λ e. e.0) all (e ∷ []))) (more-new (keys es) (keys all) e.0 new.1 o.0) in
      ap (λ l. put_all l es) one ∙ put_all-new es (all ++ e ∷ []) o.1 fresh ∙ append_assoc all (e ∷ []) es

  -- they stand there in their order
  pub put_all-other : (es : List (KeyVal × A)) → AllOther (keys es) → put_all [] es ≡ es
  put_all-other es o = put_all-new es [] o (all-new (keys es))

pub none-left : {A : Type 0} (xs : List A) (n : ℕ) → n ≡ length xs → n ≡ 0 → xs ≡ []
none-left [] n size none = refl
none-left (x ∷ xs) n size none = absurd (omega (arith, size, none))
