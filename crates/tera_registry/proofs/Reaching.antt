-- Positions that are reached, one more at a time.
use Rattle.std.proofs.Common.{◌≡◌, ℕ, zero, suc, ◌+◌, ◌<◌, ◌≤◌, Bool, true, false, not, ◌||◌, List, [], ◌∷◌, ◌++◌, length, take, set, get_or-set_other, count_by, cond, replicate, Option, Some, None, inl, inr, refl, sym, ap, ◌∙◌, append_assoc, append-nil, arith, slice_get}
use Rattle.std.specs.List.{list_any, filter_map, cons_option}
use Rattle.std.proofs.lemmas.Bool.{cases_eq}
use Rattle.std.proofs.lemmas.List.{length-replicate, length-set, length-append, take-append-le, take_all}
use Rattle.std.proofs.lemmas.List.Folds.{list_any-append}
use Rattle.std.proofs.lemmas.List.Sums.{sum_by-cons}
use Rattle.std.proofs.lemmas.Option.{slice_get_within, get_or_from_slice_get}
use Rattle.tera_meaning.specs.Registry.{Registry, Entry}
use Rattle.tera_meaning.specs.Accepted.{includes_of}
use Rattle.tera_registry.specs.Edges.{all_at, AreThere}
use Rattle.tera_registry.specs.Reached.{is_marked, AreReached, Reaches, IsClosure}
use Rattle.tera_registry.proofs.Filled.{all_at-push, AreThere-push}
use Rattle.tera_registry.proofs.Rows.{length-push, take-more}
use Rattle.tera_registry.proofs.Ways.{count-mark-not}

or-false : (b : Bool) → (b || false) ≡ b
or-false true = refl
or-false false = refl

or-assoc : (a b c : Bool) → ((a || b) || c) ≡ (a || (b || c))
or-assoc true b c = refl
or-assoc false b c = refl

or-true : (b : Bool) → (b || true) ≡ true
or-true true = refl
or-true false = refl

absorbed : (b c : Bool) → (c ≡ true → b ≡ true) → b ≡ (b || (c || false))
absorbed true c h = refl
absorbed false true h = h refl
absorbed false false h = refl

-- One more, or one that is there.

pub reached-already : (es : List Entry) (t : Entry) (ps : List ℕ) (ms : List Bool) (position : ℕ) → is_marked ms position ≡ true → AreReached es ps ms → slice_get es position ≡ Some t → Reaches es (t ∷ []) ps ps ms
reached-already es t ps ms position is a at = record {
  reached = a;
  behind = [];
  longer = sym (append-nil ps);
  those = λ f. absorbed (list_any f (all_at es ps)) (f t) (a.marked position t f is at);
}

one-more : (es : List Entry) (t : Entry) (ps : List ℕ) (position : ℕ) (f : Entry → Bool) → slice_get es position ≡ Some t → list_any f (all_at es (ps ++ position ∷ [])) ≡ (list_any f (all_at es ps) || (f t || false))
one-more es t ps position f at =
    ap (list_any f) (all_at-push es ps position t at) ∙ list_any-append f (all_at es ps) (t ∷ [])

pub reached-new : (es : List Entry) (t : Entry) (ps : List ℕ) (ms : List Bool) (position : ℕ) → is_marked ms position ≡ false → position < length ms → AreReached es ps ms → slice_get es position ≡ Some t → Reaches es (t ∷ []) ps (ps ++ position ∷ []) (set ms position true)
reached-new es t ps ms position is lt a at = record {
  reached = record {
    as_many = length-set ms position true ∙ a.as_many;
    there = AreThere-push ps position (length es) a.there (slice_get_within es position t at);
    counted = (let marks = count-mark-not ms position lt is in omega (arith, length-push ps position, a.counted));
    marked = λ i x f m x_at holds.
        elim (cases_eq i position) [
          | inl same ↦
              (let e : t ≡ x = (let q : Some t ≡ Some x = sym at ∙ ap (slice_get es) (sym same) ∙ x_at in cc) in
              let here : f t ≡ true = ap f e ∙ holds in
              one-more es t ps position f at ∙ ap (λ b. list_any f (all_at es ps) || (b || false)) here ∙ or-true (list_any f (all_at es ps)))
          | inr other ↦
              (let before : is_marked ms i ≡ true = sym (get_or-set_other ms position i true false other) ∙ m in
              one-more es t ps position f at ∙ ap (λ b. b || (f t || false)) (a.marked i x f before x_at holds))
        ];
  };
  behind = position ∷ [];
  longer = refl;
  those = λ f. one-more es t ps position f at;
}

-- Some of a list that are there are reached, and the others are to come.

pub record Reaching {X : Type 0} (es : List Entry) (h : X → Option Entry) (xs left : List X) (old ps : List ℕ) (ms : List Bool) : Type 0 where
  pub reached : AreReached es ps ms
  pub behind : List ℕ
  pub longer : ps ≡ old ++ behind
  pub those : (f : Entry → Bool) → (list_any f (all_at es ps) || list_any f (filter_map h left)) ≡ (list_any f (all_at es old) || list_any f (filter_map h xs))

pub reaching-begins : {X : Type 0} (es : List Entry) (h : X → Option Entry) (xs : List X) (ps : List ℕ) (ms : List Bool) → AreReached es ps ms → Reaching es h xs xs ps ps ms
reaching-begins es h xs ps ms a = record {
  reached = a;
  behind = [];
  longer = sym (append-nil ps);
  those = λ f. refl;
}

pub reaching-none : {X : Type 0} (es : List Entry) (h : X → Option Entry) (xs left rest : List X) (x : X) (old ps : List ℕ) (ms : List Bool) → left ≡ x ∷ rest → h x ≡ None → Reaching es h xs left old ps ms → Reaching es h xs rest old ps ms
reaching-none es h xs left rest x old ps ms is none w = record {
  reached = w.reached;
  behind = w.behind;
  longer = w.longer;
  those = λ f. sym (ap (λ l. list_any f (all_at es ps) || list_any f (filter_map h l)) is ∙ ap (λ o. list_any f (all_at es ps) || list_any f (cons_option o (filter_map h rest))) none) ∙ w.those f;
}

pub reaching-some : {X : Type 0} (es : List Entry) (h : X → Option Entry) (xs left rest : List X) (x : X) (t : Entry) (old ps qs : List ℕ) (ms ns : List Bool) → left ≡ x ∷ rest → h x ≡ Some t → Reaches es (t ∷ []) ps qs ns → Reaching es h xs left old ps ms → Reaching es h xs rest old qs ns
reaching-some es h xs left rest x t old ps qs ms ns is some r w = record {
  reached = r.reached;
  behind = w.behind ++ r.behind;
  longer = r.longer ∙ ap (λ l. l ++ r.behind) w.longer ∙ append_assoc old w.behind r.behind;
  those = λ f.
      let rest_of = list_any f (filter_map h rest) in
      ap (λ b. b || rest_of) (r.those f)
      ∙ or-assoc (list_any f (all_at es ps)) (f t || false) rest_of
      ∙ ap (λ b. list_any f (all_at es ps) || (b || rest_of)) (or-false (f t))
      ∙ sym (ap (λ l. list_any f (all_at es ps) || list_any f (filter_map h l)) is ∙ ap (λ o. list_any f (all_at es ps) || list_any f (cons_option o (filter_map h rest))) some)
      ∙ w.those f;
}

pub reaching-ends : {X : Type 0} (es : List Entry) (h : X → Option Entry) (xs left : List X) (old ps : List ℕ) (ms : List Bool) → left ≡ [] → Reaching es h xs left old ps ms → Reaches es (filter_map h xs) old ps ms
reaching-ends es h xs left old ps ms is w = record {
  reached = w.reached;
  behind = w.behind;
  longer = w.longer;
  those = λ f. sym (ap (λ l. list_any f (all_at es ps) || list_any f (filter_map h l)) is ∙ or-false (list_any f (all_at es ps))) ∙ w.those f;
}

-- None are reached yet.

unmarked : (n i : ℕ) → is_marked (replicate n false) i ≡ false
unmarked zero i = refl
unmarked (suc n) zero = refl
unmarked (suc n) (suc i) = unmarked n i

all-unmarked : (n : ℕ) → count_by not (replicate n false) ≡ n
all-unmarked zero = refl
all-unmarked (suc n) =
    let e = all-unmarked n in
    let step = sum_by-cons (λ b. cond {A = ℕ} (not b) 1 0) false (replicate n false) in
    omega (arith, e, step)

pub none-reached : (es : List Entry) (ps : List ℕ) (ms : List Bool) (n : ℕ) → ps ≡ [] → ms ≡ replicate n false → n ≡ length es → AreReached es ps ms
none-reached es ps ms n none is many = rw (none, is) (record {
  as_many = length-replicate n false ∙ many;
  there = λ k lt. absurd (omega arith);
  counted = (let e = all-unmarked n in omega (arith, many, e));
  marked = λ i x f m at holds. (let q : false ≡ true = sym (unmarked n i) ∙ m in cc);
})

-- a position that is there
pub there-at : (ps : List ℕ) (n k p : ℕ) → AreThere ps n → slice_get ps k ≡ Some p → p < n
there-at ps n k p all at = rw (get_or_from_slice_get ps k p 0 at) at (all k (slice_get_within ps k p at))

-- Going on from what is reached.

-- of what is reached, the includes of the first so many are
pub record Closing (r : Registry) (from : List ℕ) (next : ℕ) (ps : List ℕ) (ms : List Bool) : Type 0 where
  pub reached : AreReached r.templates ps ms
  pub within : next ≤ length ps
  pub begun : (f : Entry → Bool) → list_any f (all_at r.templates from) ≡ true → list_any f (all_at r.templates ps) ≡ true
  pub closed : (f : Entry → Bool) → list_any (λ t. list_any f (includes_of r t)) (all_at r.templates (take next ps)) ≡ true → list_any f (all_at r.templates ps) ≡ true
  pub no_more : (f : Entry → Bool) → ((i : ℕ) (t : Entry) → slice_get r.templates i ≡ Some t → list_any f (includes_of r t) ≡ true → f t ≡ true) → list_any f (all_at r.templates ps) ≡ true → list_any f (all_at r.templates from) ≡ true

pub closing-begins : (r : Registry) (from old ps : List ℕ) (ms : List Bool) → old ≡ [] → Reaches r.templates (all_at r.templates from) old ps ms → Closing r from 0 ps ms
closing-begins r from old ps ms none w =
    let those = λ (f : Entry → Bool). w.those f ∙ ap (λ l. list_any f (all_at r.templates l) || list_any f (all_at r.templates from)) none in
    record {
      reached = w.reached;
      within = omega arith;
      begun = λ f any. those f ∙ any;
      closed = λ f any. (let q : false ≡ true = any in cc);
      no_more = λ f back any. sym (those f) ∙ any;
    }

all_at-there : {X : Type 0} (f : X → Bool) (es : List X) (ps : List ℕ) (k position : ℕ) (x : X) → slice_get ps k ≡ Some position → slice_get es position ≡ Some x → f x ≡ true → list_any f (all_at es ps) ≡ true
all_at-there f es [] k position x p_at at holds = (let q : None ≡ Some position = p_at in cc)
all_at-there f es (p ∷ ps) zero position x p_at at holds =
    (let e : p ≡ position = (let q : Some p ≡ Some position = p_at in cc) in
    ap (λ o. list_any f (cons_option o (all_at es ps))) (ap (slice_get es) e ∙ at) ∙ ap (λ b. b || list_any f (all_at es ps)) holds)
all_at-there {X} f es (p ∷ ps) (suc k) position x p_at at holds =
    by_first (slice_get es p) (all_at-there f es ps k position x p_at at holds)
  where
    by_first : (o : Option X) → list_any f (all_at es ps) ≡ true → list_any f (cons_option o (all_at es ps)) ≡ true
    by_first None rest = rest
    by_first (Some y) rest = ap (λ b. f y || b) rest ∙ or-true (f y)

either-true : (a b c : Bool) → (a ≡ true → c ≡ true) → (b ≡ true → c ≡ true) → (a || b) ≡ true → c ≡ true
either-true true b c h g any = h refl
either-true false b c h g any = g any

pub closing-on : (r : Registry) (from : List ℕ) (next position : ℕ) (t : Entry) (ps qs : List ℕ) (ms ns : List Bool) → slice_get ps next ≡ Some position → slice_get r.templates position ≡ Some t → Reaches r.templates (includes_of r t) ps qs ns → Closing r from next ps ms → Closing r from (next + 1) qs ns
closing-on r from next position t ps qs ms ns p_at at w c =
    let es = r.templates in
    let lt = slice_get_within ps next position p_at in
    let front : take (next + 1) qs ≡ take next ps ++ position ∷ [] = ap (take (next + 1)) w.longer ∙ take-append-le (next + 1) ps w.behind (omega (arith, lt)) ∙ sym (taken ps next position p_at) in
    record {
      reached = w.reached;
      within = omega (arith, lt, ap length w.longer, length-append ps w.behind);
      begun = λ f any. w.those f ∙ ap (λ b. b || list_any f (includes_of r t)) (c.begun f any);
      closed = λ f any.
          let led = λ (u : Entry). list_any f (includes_of r u) in
          let split : list_any led (all_at es (take (next + 1) qs)) ≡ (list_any led (all_at es (take next ps)) || (led t || false)) = ap (λ l. list_any led (all_at es l)) front ∙ one-more es t (take next ps) position led at in
          w.those f ∙ either-true (list_any led (all_at es (take next ps))) (led t || false) (list_any f (all_at es ps) || list_any f (includes_of r t)) (λ e. ap (λ b. b || list_any f (includes_of r t)) (c.closed f e)) (λ e. ap (λ b. list_any f (all_at es ps) || b) (sym (or-false (led t)) ∙ e) ∙ or-true (list_any f (all_at es ps))) (sym split ∙ any);
      no_more = λ f back any.
          c.no_more f back (either-true (list_any f (all_at es ps)) (list_any f (includes_of r t)) (list_any f (all_at es ps)) (λ e. e) (λ e. all_at-there f es ps next position t p_at at (back position t at e)) (sym (w.those f) ∙ any));
    }
  where
    taken : (xs : List ℕ) (i x : ℕ) → slice_get xs i ≡ Some x → take i xs ++ x ∷ [] ≡ take (i + 1) xs
    taken xs i x is = take-more xs i x is

pub closing-ends : (r : Registry) (from : List ℕ) (next : ℕ) (ps : List ℕ) (ms : List Bool) → length ps ≤ next → Closing r from next ps ms → IsClosure r from ps
closing-ends r from next ps ms le c = record {
  there = c.reached.there;
  begun = c.begun;
  closed = λ f any. c.closed f (ap (λ l. list_any (λ t. list_any f (includes_of r t)) (all_at r.templates l)) (take_all next ps le) ∙ any);
  no_more = c.no_more;
}

-- no more are reached than there are
pub few : (es : List Entry) (ps : List ℕ) (ms : List Bool) → AreReached es ps ms → length ps ≤ length es
few es ps ms a = omega (arith, a.counted)
