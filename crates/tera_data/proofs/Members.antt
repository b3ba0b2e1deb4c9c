-- Members put into a map one by one are each name once.
use Rattle.std.proofs.Common.{◌≡◌, ◌≢◌, ◌⊎◌, inl, inr, Bool, true, false, cond, [], ◌∷◌, ◌++◌, List, Option, Some, None, Result, Ok, Err, refl, sym, ap, ◌∙◌, append_assoc, append-nil, unwrap_or, subst}
use Rattle.std.proofs.lemmas.Bool.{cond-true, cond-false}
use Rattle.std.specs.Str.{bytes_eq}
use Rattle.std.specs.Cmp.Lexicographic.{bytes_decides}
use Rattle.std.proofs.lemmas.Map.Text.{is_eq-slice_cmp}
use Rattle.tera_errors.specs.Prelude.{Fault, Name}
use Rattle.tera_value_types.specs.Val.{Val, KeyVal, ktext}
use Rattle.tera_value_types.specs.Access.{insert_pair}
use Rattle.tera_values.specs.Named.{Named, at_name, without_names, text_keys}
use Rattle.tera_values.proofs.Kept.{either_order}
use Rattle.tera_data.specs.Values.{then, in_front, once}
use Rattle.tera_data.specs.Laws.{names, LastMemberWins, NewNameGoesLast, KnownNamesStay}

-- these entries, and then each member put at its name
abbrev pub placed : List (KeyVal × Val) → Named Val → List (KeyVal × Val)
placed es [] = es
placed es (m ∷ ms) = placed (insert_pair es (ktext m.0) m.1) ms

-- the same of one member, by names
abbrev set : Named Val → Name → Val → Named Val
set [] n v = (n, v) ∷ []
set (e ∷ es) n v = cond (bytes_eq n e.0) ((e.0, v) ∷ es) (e ∷ set es n v)

abbrev without : Name → Named Val → Named Val
without k es = without_names (k ∷ []) es

tested : (b : Bool) → (b ≡ true) ⊎ (b ≡ false)
tested true = inl refl
tested false = inr refl

itself : (n : Name) → bytes_eq n n ≡ true
itself n = (bytes_decides n n).1 refl

-- at text keys a member is put as at its name
inserted : (es : Named Val) (n : Name) (v : Val) → insert_pair (text_keys es) (ktext n) v ≡ text_keys (set es n v)
inserted [] n v = refl
inserted (e ∷ es) n v =
    ap (λ (b : Bool). cond b ((ktext e.0, v) ∷ text_keys es) ((ktext e.0, e.1) ∷ insert_pair (text_keys es) (ktext n) v)) (is_eq-slice_cmp n e.0)
    ∙ by (bytes_eq n e.0) (inserted es n v)
  where
    by : (b : Bool) → insert_pair (text_keys es) (ktext n) v ≡ text_keys (set es n v)
        → cond b ((ktext e.0, v) ∷ text_keys es) ((ktext e.0, e.1) ∷ insert_pair (text_keys es) (ktext n) v) ≡ text_keys (cond b ((e.0, v) ∷ es) (e ∷ set es n v))
    by true h = refl
    by false h = ap (λ (rest : List (KeyVal × Val)). (ktext e.0, e.1) ∷ rest) h

-- what was put is found
at_set : (es : Named Val) (n : Name) (v : Val) → at_name n (set es n v) ≡ Some v
at_set [] n v = cond-true (bytes_eq n n) (Some v) None (itself n)
at_set (e ∷ es) n v = elim (tested (bytes_eq n e.0)) [
  | inl h ↦ ap (at_name n) (cond-true (bytes_eq n e.0) ((e.0, v) ∷ es) (e ∷ set es n v) h) ∙ cond-true (bytes_eq n e.0) (Some v) (at_name n es) h
  | inr h ↦ ap (at_name n) (cond-false (bytes_eq n e.0) ((e.0, v) ∷ es) (e ∷ set es n v) h) ∙ cond-false (bytes_eq n e.0) (Some e.1) (at_name n (set es n v)) h ∙ at_set es n v
]

-- and every other name finds what it did
at_set-other : (es : Named Val) (k n : Name) (v : Val) → bytes_eq k n ≡ false → at_name k (set es n v) ≡ at_name k es
at_set-other [] k n v h = cond-false (bytes_eq k n) (Some v) None h
at_set-other (e ∷ es) k n v h = elim (tested (bytes_eq n e.0)) [
  | inl t ↦
      let other : bytes_eq k e.0 ≡ false = subst (λ (j : Name). bytes_eq k j ≡ false) ((bytes_decides n e.0).0 t) h in
      ap (at_name k) (cond-true (bytes_eq n e.0) ((e.0, v) ∷ es) (e ∷ set es n v) t)
      ∙ cond-false (bytes_eq k e.0) (Some v) (at_name k es) other
      ∙ sym (cond-false (bytes_eq k e.0) (Some e.1) (at_name k es) other)
  | inr t ↦
      ap (at_name k) (cond-false (bytes_eq n e.0) ((e.0, v) ∷ es) (e ∷ set es n v) t)
      ∙ ap (λ (o : Option Val). cond (bytes_eq k e.0) (Some e.1) o) (at_set-other es k n v h)
]

-- the first of some is left out, or stays
goes : (k : Name) (e : Name × Val) (es : Named Val) → bytes_eq e.0 k ≡ true → without k (e ∷ es) ≡ without k es
goes k e es h = rw h refl

stays : (k : Name) (e : Name × Val) (es : Named Val) → bytes_eq e.0 k ≡ false → without k (e ∷ es) ≡ e ∷ without k es
stays k e es h = rw h refl

-- a name that is left out may have been put before
without-set : (es : Named Val) (n : Name) (v : Val) → without n (set es n v) ≡ without n es
without-set [] n v = goes n (n, v) [] (itself n)
without-set (e ∷ es) n v = elim (tested (bytes_eq n e.0)) [
  | inl t ↦
      let same : bytes_eq e.0 n ≡ true = either_order e.0 n ∙ t in
      ap (without n) (cond-true (bytes_eq n e.0) ((e.0, v) ∷ es) (e ∷ set es n v) t) ∙ goes n (e.0, v) es same ∙ sym (goes n e es same)
  | inr t ↦
      let other : bytes_eq e.0 n ≡ false = either_order e.0 n ∙ t in
      ap (without n) (cond-false (bytes_eq n e.0) ((e.0, v) ∷ es) (e ∷ set es n v) t)
      ∙ stays n e (set es n v) other
      ∙ ap (λ (rest : Named Val). e ∷ rest) (without-set es n v)
      ∙ sym (stays n e es other)
]

-- one name left out and another put, in either order
without-set_other : (es : Named Val) (k n : Name) (v : Val) → bytes_eq n k ≡ false → without k (set es n v) ≡ set (without k es) n v
without-set_other [] k n v h = stays k (n, v) [] h
without-set_other (e ∷ es) k n v h = elim (tested (bytes_eq n e.0)) [
  | inl t ↦
      let other : bytes_eq e.0 k ≡ false = subst (λ (j : Name). bytes_eq j k ≡ false) ((bytes_decides n e.0).0 t) h in
      ap (without k) (cond-true (bytes_eq n e.0) ((e.0, v) ∷ es) (e ∷ set es n v) t)
      ∙ stays k (e.0, v) es other
      ∙ sym (ap (λ (l : Named Val). set l n v) (stays k e es other) ∙ cond-true (bytes_eq n e.0) ((e.0, v) ∷ without k es) (e ∷ set (without k es) n v) t)
  | inr t ↦ ap (without k) (cond-false (bytes_eq n e.0) ((e.0, v) ∷ es) (e ∷ set es n v) t) ∙ by (tested (bytes_eq e.0 k)) t (without-set_other es k n v h)
]
  where
    by : (bytes_eq e.0 k ≡ true) ⊎ (bytes_eq e.0 k ≡ false) → bytes_eq n e.0 ≡ false → without k (set es n v) ≡ set (without k es) n v
        → without k (e ∷ set es n v) ≡ set (without k (e ∷ es)) n v
    by (inl s) t rest = goes k e (set es n v) s ∙ rest ∙ sym (ap (λ (l : Named Val). set l n v) (goes k e es s))
    by (inr s) t rest =
        stays k e (set es n v) s
        ∙ ap (λ (l : Named Val). e ∷ l) rest
        ∙ sym (ap (λ (l : Named Val). set l n v) (stays k e es s) ∙ cond-false (bytes_eq n e.0) ((e.0, v) ∷ without k es) (e ∷ set (without k es) n v) t)

-- a member in front, and one put, in either order
in_front-set : (m : Name × Val) (es : Named Val) (n : Name) (v : Val) → in_front m (set es n v) ≡ set (in_front m es) n v
in_front-set m es n v = elim (tested (bytes_eq n m.0)) [
  | inl t ↦
      let same : m.0 ≡ n = sym ((bytes_decides n m.0).0 t) in
      let found : at_name m.0 (set es n v) ≡ Some v = subst (λ (j : Name). at_name j (set es n v) ≡ Some v) (sym same) (at_set es n v) in
      let left : without m.0 (set es n v) ≡ without m.0 es = subst (λ (j : Name). without j (set es n v) ≡ without j es) (sym same) (without-set es n v) in
      ap (λ (o : Option Val). (m.0, unwrap_or o m.1) ∷ without m.0 (set es n v)) found
      ∙ ap (λ (l : Named Val). (m.0, v) ∷ l) left
      ∙ sym (cond-true (bytes_eq n m.0) ((m.0, v) ∷ without m.0 es) ((m.0, unwrap_or (at_name m.0 es) m.1) ∷ set (without m.0 es) n v) t)
  | inr t ↦
      ap (λ (o : Option Val). (m.0, unwrap_or o m.1) ∷ without m.0 (set es n v)) (at_set-other es m.0 n v (either_order m.0 n ∙ t))
      ∙ ap (λ (l : Named Val). (m.0, unwrap_or (at_name m.0 es) m.1) ∷ l) (without-set_other es m.0 n v t)
      ∙ sym (cond-false (bytes_eq n m.0) ((m.0, v) ∷ without m.0 es) ((m.0, unwrap_or (at_name m.0 es) m.1) ∷ set (without m.0 es) n v) t)
]

-- a further member is put
once-more : (ms : Named Val) (m : Name × Val) → once (ms ++ m ∷ []) ≡ set (once ms) m.0 m.1
once-more [] m = refl
once-more (e ∷ ms) m = ap (in_front e) (once-more ms m) ∙ in_front-set e (once ms) m.0 m.1

-- members put after those that are each name once
placed-once : (done ms : Named Val) → placed (text_keys (once done)) ms ≡ text_keys (once (done ++ ms))
placed-once done [] = ap (λ (l : Named Val). text_keys (once l)) (sym (append-nil done))
placed-once done (m ∷ ms) =
    ap (λ (es : List (KeyVal × Val)). placed es ms) (inserted (once done) m.0 m.1 ∙ ap text_keys (sym (once-more done m)))
    ∙ placed-once (done ++ m ∷ []) ms
    ∙ ap (λ (l : Named Val). text_keys (once l)) (append_assoc done (m ∷ []) ms)

-- members put into no entries are each name once
pub placed_none : (ms : Named Val) → placed [] ms ≡ text_keys (once ms)
placed_none ms = placed-once [] ms

-- each name once, where members are read: as they are put into no entries
pub once_placed : (r : Result (Named Val) Fault) → then r (λ vs. Ok (text_keys (once vs))) ≡ then r (λ vs. Ok (placed [] vs))
once_placed (Ok vs) = ap (λ (es : List (KeyVal × Val)). Ok es) (sym (placed-once [] vs))
once_placed (Err fault) = refl

pub last_wins : LastMemberWins
last_wins ms n v = ap (at_name n) (once-more ms (n, v)) ∙ at_set (once ms) n v

-- a new name is put last
set-new : (es : Named Val) (n : Name) (v : Val) → at_name n es ≡ None → set es n v ≡ es ++ (n, v) ∷ []
set-new [] n v h = refl
set-new (e ∷ es) n v h = by (bytes_eq n e.0) h (set-new es n v)
  where
    by : (b : Bool) → cond b (Some e.1) (at_name n es) ≡ None → (at_name n es ≡ None → set es n v ≡ es ++ (n, v) ∷ [])
        → cond b ((e.0, v) ∷ es) (e ∷ set es n v) ≡ e ∷ (es ++ (n, v) ∷ [])
    by true h rest = cc
    by false h rest = ap (λ (l : Named Val). e ∷ l) (rest h)

-- a name that is there is put where it stands
set-known : (es : Named Val) (n : Name) (v : Val) → at_name n es ≢ None → names (set es n v) ≡ names es
set-known [] n v h = absurd (h refl)
set-known (e ∷ es) n v h = by (bytes_eq n e.0) h (set-known es n v)
  where
    by : (b : Bool) → cond b (Some e.1) (at_name n es) ≢ None → (at_name n es ≢ None → names (set es n v) ≡ names es)
        → names (cond b ((e.0, v) ∷ es) (e ∷ set es n v)) ≡ names (e ∷ es)
    by true h rest = refl
    by false h rest = ap (λ (l : List Name). e.0 ∷ l) (rest h)

pub new_goes_last : NewNameGoesLast
new_goes_last ms n v h = once-more ms (n, v) ∙ set-new (once ms) n v h

pub known_stay : KnownNamesStay
known_stay ms n v h = ap names (once-more ms (n, v)) ∙ set-known (once ms) n v h
