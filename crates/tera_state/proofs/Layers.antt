-- Layers of the list of bindings.
use Rattle.std.proofs.Common.{◌≡◌, ◌≢◌, ◌⊎◌, inl, inr, ℕ, suc, ◌<◌, ◌≤◌, Bool, true, false, cond, List, [], ◌∷◌, length, refl, sym, ap, ap₂, ◌∙◌, arith, if◌then◌else◌, Option, Some}
use Rattle.std.proofs.lemmas.Bool.{eq-eqb, ne_eqb, eqb-true}
use Rattle.std.specs.Prelude.{nat_eq, ◌&&◌, ◌||◌, not, bytes_eq}
use Rattle.tera_errors.specs.Site.{Name}
use Rattle.tera_values.specs.Val.{Val}
use Rattle.tera_values.specs.Named.{at_name}
use Rattle.tera_state.specs.Scope.{Bindings, Turn, Variables, bind, set_variable, set_global, open_turn, Frame as FrameMeant}
use Rattle.tera_state.specs.Bound.{value_in, layer_of, with_binding, without, without_frame}
use Rattle.tera_state.specs.Opened.{turn_of, turns_of}
use Rattle.tera_state.specs.Scopes.{variables_at, above_of, frame_of}
use Rattle.tera_state.specs.declared.bindings.Binding.{Binding}
use Rattle.tera_state.specs.declared.loops.ForLoop.{ForLoop}
use Rattle.tera_state.specs.declared.frame.Frame.{Frame}
use Rattle.tera_state.proofs.Cases.{either, both, new}

abbrev pub in_layer : ℕ → ℕ → Binding → Bool
in_layer f l b = nat_eq b.frame f && nat_eq b.layer l

-- a value that is found in a layer
by_tests : (p q r : Bool) (n k : Name) (v : Val) (rest : Bindings) (o : Option Val) → r ≡ bytes_eq n k → o ≡ at_name n rest → (if p && q && r then Some v else o) ≡ at_name n (if p && q then (k, v) ∷ rest else rest)
by_tests true true true n k v rest o e h = rw⁻¹ e refl
by_tests true true false n k v rest o e h = rw⁻¹ e h
by_tests true false r n k v rest o e h = h
by_tests false q r n k v rest o e h = h

pub value-is : (bs : List Binding) (f l : ℕ) (n : Name) → value_in bs f l n ≡ at_name n (layer_of bs f l)
value-is [] f l n = refl
value-is (b ∷ bs) f l n = by_tests (nat_eq b.frame f) (nat_eq b.layer l) (bytes_eq n b.name) n b.name b.value (layer_of bs f l) (value_in bs f l n) refl (value-is bs f l n)

-- the layer that is bound in
bind_by : (p q r : Bool) (b : Binding) (f l : ℕ) (n : Name) (v : Val) (bs more : List Binding) → nat_eq b.frame f ≡ p → nat_eq b.layer l ≡ q → bytes_eq n b.name ≡ r → layer_of more f l ≡ bind n v (layer_of bs f l) → layer_of (if p && q && r then record b { value = v } ∷ bs else b ∷ more) f l ≡ bind n v (if p && q then (b.name, b.value) ∷ layer_of bs f l else layer_of bs f l)
bind_by true true true b f l n v bs more p q r h = rw (p, q, r) refl
bind_by true true false b f l n v bs more p q r h = rw (p, q, r, h) refl
bind_by true false r b f l n v bs more p q r' h = rw (p, q) h
bind_by false q r b f l n v bs more p q' r' h = rw p h

pub in_own : (b : Binding) → in_layer b.frame b.layer b ≡ true
in_own b = rw (eq-eqb b.frame b.frame refl, eq-eqb b.layer b.layer refl) refl

itself : (f l : ℕ) (n : Name) (v : Val) → in_layer f l (new f l n v) ≡ true
itself f l n v = in_own (new f l n v)

pub bind_there : (bs : List Binding) (f l : ℕ) (n : Name) (v : Val) → layer_of (with_binding bs f l n v) f l ≡ bind n v (layer_of bs f l)
bind_there [] f l n v = ap (λ t. if t then (n, v) ∷ [] else []) (itself f l n v)
bind_there (b ∷ bs) f l n v = bind_by (nat_eq b.frame f) (nat_eq b.layer l) (bytes_eq n b.name) b f l n v bs (with_binding bs f l n v) refl refl refl (bind_there bs f l n v)

-- another layer
elsewhere : (g f j l : ℕ) (b : Binding) → (g ≢ f) ⊎ (j ≢ l) → in_layer f l b ≡ true → in_layer g j b ≡ false
elsewhere g f j l b ne e = either (in_layer g j b)
    (λ t. absurd (apart ne (both (nat_eq b.frame f) (nat_eq b.layer l) e) (both (nat_eq b.frame g) (nat_eq b.layer j) t)))
    (λ t. t)
  where
    apart : (g ≢ f) ⊎ (j ≢ l) → (nat_eq b.frame f ≡ true) × (nat_eq b.layer l ≡ true) → (nat_eq b.frame g ≡ true) × (nat_eq b.layer j ≡ true) → ⊥
    apart (inl ne) x y = ne (sym (eqb-true b.frame g y.0) ∙ eqb-true b.frame f x.0)
    apart (inr ne) x y = ne (sym (eqb-true b.layer j y.1) ∙ eqb-true b.layer l x.1)

-- what is bound in one layer is seen in no other
kept_same : (b : Binding) (bs more : List Binding) (g j : ℕ) → layer_of more g j ≡ layer_of bs g j → layer_of (b ∷ more) g j ≡ layer_of (b ∷ bs) g j
kept_same b bs more g j h = ap (λ (x : Bindings). if in_layer g j b then (b.name, b.value) ∷ x else x) h

pub skipped : (b : Binding) (bs : List Binding) (g j : ℕ) → in_layer g j b ≡ false → layer_of (b ∷ bs) g j ≡ layer_of bs g j
skipped b bs g j e = ap (λ (t : Bool). if t then (b.name, b.value) ∷ layer_of bs g j else layer_of bs g j) e

other_by : (p q r : Bool) (b : Binding) (g j : ℕ) (v : Val) (bs more : List Binding) → ((p && q) ≡ true → in_layer g j b ≡ false) → layer_of more g j ≡ layer_of bs g j → layer_of (if p && q && r then record b { value = v } ∷ bs else b ∷ more) g j ≡ layer_of (b ∷ bs) g j
other_by true true true b g j v bs more f h = skipped (record b { value = v }) bs g j (f refl) ∙ sym (skipped b bs g j (f refl))
other_by true true false b g j v bs more f h = kept_same b bs more g j h
other_by true false r b g j v bs more f h = kept_same b bs more g j h
other_by false q r b g j v bs more f h = kept_same b bs more g j h

pub bind_other : (bs : List Binding) (f l g j : ℕ) (n : Name) (v : Val) → (g ≢ f) ⊎ (j ≢ l) → layer_of (with_binding bs f l n v) g j ≡ layer_of bs g j
bind_other [] f l g j n v ne = skipped (new f l n v) [] g j (elsewhere g f j l (new f l n v) ne (itself f l n v))
bind_other (b ∷ bs) f l g j n v ne =
    other_by (nat_eq b.frame f) (nat_eq b.layer l) (bytes_eq n b.name) b g j v bs (with_binding bs f l n v) (λ e. elsewhere g f j l b ne e) (bind_other bs f l g j n v ne)

-- what is taken out of a layer
there_by : (p q : Bool) (b : Binding) (f l : ℕ) (rest : List Binding) → nat_eq b.frame f ≡ p → nat_eq b.layer l ≡ q → layer_of rest f l ≡ [] → layer_of (cond (not p || not q) (b ∷ rest) rest) f l ≡ []
there_by true true b f l rest p q h = h
there_by true false b f l rest p q h = skipped b rest f l (rw (p, q) refl) ∙ h
there_by false q b f l rest p q' h = skipped b rest f l (rw p refl) ∙ h

pub without_there : (bs : List Binding) (f l : ℕ) → layer_of (without bs f l) f l ≡ []
without_there [] f l = refl
without_there (b ∷ bs) f l = there_by (nat_eq b.frame f) (nat_eq b.layer l) b f l (without bs f l) refl refl (without_there bs f l)

else_by : (p q : Bool) (b : Binding) (g j : ℕ) (bs rest : List Binding) → ((p && q) ≡ true → in_layer g j b ≡ false) → layer_of rest g j ≡ layer_of bs g j → layer_of (cond (not p || not q) (b ∷ rest) rest) g j ≡ layer_of (b ∷ bs) g j
else_by true true b g j bs rest f h = h ∙ sym (skipped b bs g j (f refl))
else_by true false b g j bs rest f h = kept_same b bs rest g j h
else_by false q b g j bs rest f h = kept_same b bs rest g j h

pub without_other : (bs : List Binding) (f l g j : ℕ) → (g ≢ f) ⊎ (j ≢ l) → layer_of (without bs f l) g j ≡ layer_of bs g j
without_other [] f l g j ne = refl
without_other (b ∷ bs) f l g j ne = else_by (nat_eq b.frame f) (nat_eq b.layer l) b g j bs (without bs f l) (λ e. elsewhere g f j l b ne e) (without_other bs f l g j ne)

-- what is taken out of a frame
frame_there_by : (p : Bool) (b : Binding) (f l : ℕ) (rest : List Binding) → nat_eq b.frame f ≡ p → layer_of rest f l ≡ [] → layer_of (cond (not p) (b ∷ rest) rest) f l ≡ []
frame_there_by true b f l rest p h = h
frame_there_by false b f l rest p h = skipped b rest f l (rw p refl) ∙ h

pub frame_there : (bs : List Binding) (f l : ℕ) → layer_of (without_frame bs f) f l ≡ []
frame_there [] f l = refl
frame_there (b ∷ bs) f l = frame_there_by (nat_eq b.frame f) b f l (without_frame bs f) refl (frame_there bs f l)

frame_else_by : (p : Bool) (b : Binding) (g j : ℕ) (bs rest : List Binding) → (p ≡ true → in_layer g j b ≡ false) → layer_of rest g j ≡ layer_of bs g j → layer_of (cond (not p) (b ∷ rest) rest) g j ≡ layer_of (b ∷ bs) g j
frame_else_by true b g j bs rest f h = h ∙ sym (skipped b bs g j (f refl))
frame_else_by false b g j bs rest f h = kept_same b bs rest g j h

frame_apart : (f g j : ℕ) (b : Binding) → g ≢ f → nat_eq b.frame f ≡ true → in_layer g j b ≡ false
frame_apart f g j b ne e = rw (ne_eqb b.frame g (λ t. ne (sym t ∙ eqb-true b.frame f e))) refl

pub frame_other : (bs : List Binding) (f g j : ℕ) → g ≢ f → layer_of (without_frame bs f) g j ≡ layer_of bs g j
frame_other [] f g j ne = refl
frame_other (b ∷ bs) f g j ne = frame_else_by (nat_eq b.frame f) b g j bs (without_frame bs f) (frame_apart f g j b ne) (frame_other bs f g j ne)

-- turns, variables and frames whose layers are the same
pub turns_same : (bs cs : List Binding) (f : ℕ) (ls : List ForLoop) → ((j : ℕ) → j ≤ length ls → layer_of cs f j ≡ layer_of bs f j) → turns_of cs f ls ≡ turns_of bs f ls
turns_same bs cs f [] h = refl
turns_same bs cs f (l ∷ ls) h =
    let top : suc (length ls) ≤ length (l ∷ ls) = omega arith in
    ap₂ (λ sets ts. turn_of sets l ∷ ts) (h (suc (length ls)) top) (turns_same bs cs f ls (λ j le. let m : j ≤ length (l ∷ ls) = omega (arith, le) in h j m))

pub variables_same : (bs cs : List Binding) (f : ℕ) (fr : Frame) → ((j : ℕ) → layer_of cs f j ≡ layer_of bs f j) → variables_at cs f fr ≡ variables_at bs f fr
variables_same bs cs f fr h =
    ap₂ (λ (ts : List Turn) (sets : Bindings). record { turns = ts; sets = sets }) (turns_same bs cs f fr.loops (λ j le. h j)) (h 0)

below : (k n : ℕ) → k < n → k ≢ n
below k n lt e = omega (arith, lt, e)

pub above_same : (bs cs : List Binding) (fs : List Frame) → ((g j : ℕ) → g < length fs → layer_of cs g j ≡ layer_of bs g j) → above_of cs fs ≡ above_of bs fs
above_same bs cs [] h = refl
above_same bs cs (f ∷ fs) h =
    let top : length fs < length (f ∷ fs) = omega arith in
    ap₂ (λ (v : Variables) (us : List (FrameMeant × Variables)). (frame_of f.standing fs, v) ∷ us) (variables_same bs cs (length fs) f (λ j. h (length fs) j top)) (above_same bs cs fs (λ g j lt. let m : g < length (f ∷ fs) = omega (arith, lt) in h g j m))

-- the frames above see nothing of what the frame that runs binds or takes out
pub bind_above : (bs : List Binding) (fs : List Frame) (l : ℕ) (n : Name) (v : Val) → above_of (with_binding bs (length fs) l n v) fs ≡ above_of bs fs
bind_above bs fs l n v = above_same bs (with_binding bs (length fs) l n v) fs (λ g j lt. bind_other bs (length fs) l g j n v (inl (below g (length fs) lt)))

pub without_above : (bs : List Binding) (fs : List Frame) (l : ℕ) → above_of (without bs (length fs) l) fs ≡ above_of bs fs
without_above bs fs l = above_same bs (without bs (length fs) l) fs (λ g j lt. without_other bs (length fs) l g j (inl (below g (length fs) lt)))

pub frame_above : (bs : List Binding) (fs : List Frame) → above_of (without_frame bs (length fs)) fs ≡ above_of bs fs
frame_above bs fs = above_same bs (without_frame bs (length fs)) fs (λ g j lt. frame_other bs (length fs) g j (below g (length fs) lt))

above_it : (j n : ℕ) → j ≤ n → j ≢ suc n
above_it j n le e = omega (arith, le, e)

-- setting
pub set_law : (bs : List Binding) (f : ℕ) (ls : List ForLoop) (n : Name) (v : Val) → (record { turns = turns_of (with_binding bs f (length ls) n v) f ls; sets = layer_of (with_binding bs f (length ls) n v) f 0 }) ≡ set_variable n v (record { turns = turns_of bs f ls; sets = layer_of bs f 0 })
set_law bs f [] n v = ap (λ (sets : Bindings). record { turns = []; sets = sets }) (bind_there bs f 0 n v)
set_law bs f (l ∷ ls) n v =
    let k = suc (length ls) in
    let cs = with_binding bs f k n v in
    let zero_le : 0 ≤ length ls = omega arith in
    ap₂ (λ (ts : List Turn) (sets : Bindings). record { turns = ts; sets = sets })
    (ap₂ (λ (sets : Bindings) (ts : List Turn). turn_of sets l ∷ ts) (bind_there bs f k n v) (turns_same bs cs f ls (λ j le. bind_other bs f k f j n v (inr (above_it j (length ls) le)))))
    (bind_other bs f k f 0 n v (inr (above_it 0 (length ls) zero_le)))

pub set_global_law : (bs : List Binding) (f : ℕ) (ls : List ForLoop) (n : Name) (v : Val) → (record { turns = turns_of (with_binding bs f 0 n v) f ls; sets = layer_of (with_binding bs f 0 n v) f 0 }) ≡ set_global n v (record { turns = turns_of bs f ls; sets = layer_of bs f 0 })
set_global_law bs f ls n v =
    ap₂ (λ (ts : List Turn) (sets : Bindings). record { turns = ts; sets = sets }) (turns_global bs f ls n v) (bind_there bs f 0 n v)
  where
    positive : (j : ℕ) → suc j ≢ 0
    positive j e = omega (arith, e)

    turns_global : (bs : List Binding) (f : ℕ) (ls : List ForLoop) (n : Name) (v : Val) → turns_of (with_binding bs f 0 n v) f ls ≡ turns_of bs f ls
    turns_global bs f [] n v = refl
    turns_global bs f (l ∷ ls) n v = ap₂ (λ (sets : Bindings) (ts : List Turn). turn_of sets l ∷ ts) (bind_other bs f 0 f (suc (length ls)) n v (inr (positive (length ls)))) (turns_global bs f ls n v)

-- a turn's beginning, where ls are the loops around it
pub open_law : (bs : List Binding) (f : ℕ) (ls : List ForLoop) (l : ForLoop) → (record { turns = turns_of (without bs f (suc (length ls))) f (l ∷ ls); sets = layer_of (without bs f (suc (length ls))) f 0 }) ≡ open_turn (turn_of [] l) (record { turns = turns_of bs f ls; sets = layer_of bs f 0 })
open_law bs f ls l =
    let k = suc (length ls) in
    let cs = without bs f k in
    let zero_le : 0 ≤ length ls = omega arith in
    ap₂ (λ (ts : List Turn) (sets : Bindings). record { turns = ts; sets = sets })
    (ap₂ (λ (sets : Bindings) (ts : List Turn). turn_of sets l ∷ ts) (without_there bs f k) (turns_same bs cs f ls (λ j le. without_other bs f k f j (inr (above_it j (length ls) le)))))
    (without_other bs f k f 0 (inr (above_it 0 (length ls) zero_le)))

-- a loop's end
pub close_law : (bs : List Binding) (f : ℕ) (ls : List ForLoop) → ◌≡◌ {A = Variables} (record { turns = turns_of (without bs f (suc (length ls))) f ls; sets = layer_of (without bs f (suc (length ls))) f 0 }) (record { turns = turns_of bs f ls; sets = layer_of bs f 0 })
close_law bs f ls =
    let k = suc (length ls) in
    let cs = without bs f k in
    let zero_le : 0 ≤ length ls = omega arith in
    ap₂ (λ (ts : List Turn) (sets : Bindings). record { turns = ts; sets = sets })
    (turns_same bs cs f ls (λ j le. without_other bs f k f j (inr (above_it j (length ls) le))))
    (without_other bs f k f 0 (inr (above_it 0 (length ls) zero_le)))
