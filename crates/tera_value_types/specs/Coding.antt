-- A value is stored as the list of the steps that build it.
use Rattle.std.specs.Prelude.{◌≡◌, ℕ, zero, suc, ℤ, pos, true, false, List, [], ◌∷◌, ◌++◌, refl}
use Rattle.std.specs.Coded.{Coded, code_by, coded×, coded_ℕ, coded_ℤ, coded_list}
use Rattle.std.proofs.Common.{◌∙◌, ap}
use Rattle.tera_value_types.specs.Val.{Val, Vals, Entries, KeyVal, kbool, kint, ktext, undefined, none, bool, int, text, bytes, array, map, no_items, item, no_entries, entry}

pub data Tag : Type 0 where
  t_undefined t_none t_false t_true t_int t_text t_safe t_bytes : Tag
  t_array t_item t_map t_kfalse t_ktrue t_kint t_ktext : Tag

abbrev pub tag : ℕ → Tag
tag zero = t_undefined
tag (suc zero) = t_none
tag (suc (suc zero)) = t_false
tag (suc (suc (suc zero))) = t_true
tag (suc (suc (suc (suc zero)))) = t_int
tag (suc (suc (suc (suc (suc zero))))) = t_text
tag (suc (suc (suc (suc (suc (suc zero)))))) = t_safe
tag (suc (suc (suc (suc (suc (suc (suc zero))))))) = t_bytes
tag (suc (suc (suc (suc (suc (suc (suc (suc zero)))))))) = t_array
tag (suc (suc (suc (suc (suc (suc (suc (suc (suc zero))))))))) = t_item
tag (suc (suc (suc (suc (suc (suc (suc (suc (suc (suc zero)))))))))) = t_map
tag (suc (suc (suc (suc (suc (suc (suc (suc (suc (suc (suc zero))))))))))) = t_kfalse
tag (suc (suc (suc (suc (suc (suc (suc (suc (suc (suc (suc (suc zero)))))))))))) = t_ktrue
tag (suc (suc (suc (suc (suc (suc (suc (suc (suc (suc (suc (suc (suc zero))))))))))))) = t_kint
tag (suc (suc (suc (suc (suc (suc (suc (suc (suc (suc (suc (suc (suc (suc n)))))))))))))) = t_ktext

abbrev pub Step : Type 0
Step = ℕ × (ℤ × List ℕ)

abbrev pub onto : KeyVal → List Val → List Val
onto k (v ∷ map es ∷ s) = map (entry k v es) ∷ s
onto k s = []

abbrev pub with_item : List Val → List Val
with_item (v ∷ array vs ∷ s) = array (item v vs) ∷ s
with_item s = []

abbrev pub step : Tag → ℤ → List ℕ → List Val → List Val
step t_undefined z bs s = undefined ∷ s
step t_none z bs s = none ∷ s
step t_false z bs s = bool false ∷ s
step t_true z bs s = bool true ∷ s
step t_int z bs s = int z ∷ s
step t_text z bs s = text bs false ∷ s
step t_safe z bs s = text bs true ∷ s
step t_bytes z bs s = bytes bs ∷ s
step t_array z bs s = array no_items ∷ s
step t_item z bs s = with_item s
step t_map z bs s = map no_entries ∷ s
step t_kfalse z bs s = onto (kbool false) s
step t_ktrue z bs s = onto (kbool true) s
step t_kint z bs s = onto (kint z) s
step t_ktext z bs s = onto (ktext bs) s

abbrev pub decoded : List Step → List Val → List Val
decoded [] s = s
decoded (p ∷ ps) s = decoded ps (step (tag p.0) p.1.0 p.1.1 s)

abbrev pub bare : ℕ → Step
bare n = (n, (pos 0, []))

abbrev pub key_step : KeyVal → Step
key_step (kbool false) = bare 11
key_step (kbool true) = bare 12
key_step (kint z) = (13, (z, []))
key_step (ktext t) = (14, (pos 0, t))

abbrev mutual
  pub steps : Val → List Step
  steps undefined = bare 0 ∷ []
  steps none = bare 1 ∷ []
  steps (bool false) = bare 2 ∷ []
  steps (bool true) = bare 3 ∷ []
  steps (int z) = (4, (z, [])) ∷ []
  steps (text t false) = (5, (pos 0, t)) ∷ []
  steps (text t true) = (6, (pos 0, t)) ∷ []
  steps (bytes t) = (7, (pos 0, t)) ∷ []
  steps (array vs) = item_steps vs
  steps (map es) = entry_steps es

  pub item_steps : Vals → List Step
  item_steps no_items = bare 8 ∷ []
  item_steps (item v vs) = item_steps vs ++ steps v ++ bare 9 ∷ []

  pub entry_steps : Entries → List Step
  entry_steps no_entries = bare 10 ∷ []
  entry_steps (entry k v es) = entry_steps es ++ steps v ++ key_step k ∷ []

abbrev pub top : List Val → Val
top [] = undefined
top (v ∷ s) = v

pub decoded-append : (ps qs : List Step) (s : List Val)
    → decoded (ps ++ qs) s ≡ decoded qs (decoded ps s)
decoded-append [] qs s = refl
decoded-append (p ∷ ps) qs s = decoded-append ps qs (step (tag p.0) p.1.0 p.1.1 s)

pub decoded-key : (k : KeyVal) (v : Val) (es : Entries) (s : List Val)
    → decoded (key_step k ∷ []) (v ∷ map es ∷ s) ≡ map (entry k v es) ∷ s
decoded-key (kbool false) v es s = refl
decoded-key (kbool true) v es s = refl
decoded-key (kint z) v es s = refl
decoded-key (ktext t) v es s = refl

mutual
  pub decoded-steps : (v : Val) (s : List Val) → decoded (steps v) s ≡ v ∷ s
  decoded-steps undefined s = refl
  decoded-steps none s = refl
  decoded-steps (bool false) s = refl
  decoded-steps (bool true) s = refl
  decoded-steps (int z) s = refl
  decoded-steps (text t false) s = refl
  decoded-steps (text t true) s = refl
  decoded-steps (bytes t) s = refl
  decoded-steps (array vs) s = decoded-items vs s
  decoded-steps (map es) s = decoded-entries es s

  pub decoded-items : (vs : Vals) (s : List Val) → decoded (item_steps vs) s ≡ array vs ∷ s
  decoded-items no_items s = refl
  decoded-items (item v vs) s =
      decoded-append (item_steps vs ++ steps v) (bare 9 ∷ []) s
      ∙ ap (decoded (bare 9 ∷ []))
      (decoded-append (item_steps vs) (steps v) s ∙ ap (decoded (steps v)) (decoded-items vs s)
      ∙ decoded-steps v (array vs ∷ s))

  pub decoded-entries : (es : Entries) (s : List Val) → decoded (entry_steps es) s ≡ map es ∷ s
  decoded-entries no_entries s = refl
  decoded-entries (entry k v es) s =
      decoded-append (entry_steps es ++ steps v) (key_step k ∷ []) s
      ∙ ap (decoded (key_step k ∷ []))
      (decoded-append (entry_steps es) (steps v) s ∙ ap (decoded (steps v)) (decoded-entries es s)
      ∙ decoded-steps v (map es ∷ s))
      ∙ decoded-key k v es s

pub top-steps : (v : Val) → top (decoded (steps v) []) ≡ v
top-steps v = ap top (decoded-steps v [])

abbrev pub key_at : Tag → ℤ → List ℕ → KeyVal
key_at t_ktrue z bs = kbool true
key_at t_kint z bs = kint z
key_at t_ktext z bs = ktext bs
key_at _ z bs = kbool false

abbrev pub key_of : Step → KeyVal
key_of p = key_at (tag p.0) p.1.0 p.1.1

abbrev pub val_coding : Coded Val
val_coding =
    code_by (List Step) (coded_list (coded× coded_ℕ (coded× coded_ℤ (coded_list coded_ℕ)))) steps
    (λ ps. top (decoded ps [])) top-steps

pub key_of-step : (k : KeyVal) → key_of (key_step k) ≡ k
key_of-step (kbool false) = refl
key_of-step (kbool true) = refl
key_of-step (kint z) = refl
key_of-step (ktext t) = refl

abbrev pub key_coding : Coded KeyVal
key_coding =
    code_by Step (coded× coded_ℕ (coded× coded_ℤ (coded_list coded_ℕ))) key_step key_of key_of-step

abbrev pub entries_coding : Coded (List (KeyVal × Val))
entries_coding = coded_list (coded× key_coding val_coding)
