-- What a name stands for at marked characters stands for what it stands for at bytes, also after an assignment.
use Rattle.std.proofs.Common.{◌≡◌, ℕ, Bool, true, false, cond, List, [], ◌∷◌, refl, ap, Option, Some, None, unwrap_or, Ordering, Less, Equal, Greater}
use Rattle.std.specs.Str.{bytes_eq}
use Rattle.std.specs.Option.{option_or}
use Rattle.std.specs.Ordering.{match_ordering}
use Rattle.tera_errors.specs.Site.{Name}
use Rattle.tera_values.specs.Alphabet.{Marked, names_from_outside}
use Rattle.tera_values.specs.Val.{Val, ValOf, ktext, undefined}
use Rattle.tera_values.specs.Named.{Named, at_name, put, name_cmp}
use Rattle.tera_values.specs.Access.{is_undefined}
use Rattle.tera_state.specs.Scope.{bind, TurnOf, VariablesOf, Kind, whole, included, called, FrameOf, AroundOf, in_turn, in_turns, in_variables, outermost, defined, handed_down, bound, look, bound_above, look_implicit, set_in, assign, open_turn, inner_turns, close_turn, nothing_set, outside, in_include, in_component, put_all, put_turns, text_keys, dump}
use Rattle.tera_meaning.proofs.Marks.Claim.{Claim, NamesHold}
use Rattle.tera_meaning.proofs.Marks.Each.{Each, none, more}
use Rattle.tera_meaning.proofs.Marks.Standing.{Stands, undefineds, maps, from_outside-stands, OptionStands, no_value, value}
use Rattle.tera_meaning.proofs.Marks.Moving.{undefined-same, Pair, entries-stand}

-- a name and its value
abbrev pub Binds : Claim → Name × ValOf Marked → Name × ValOf ℕ → Type 0
Binds K v w = (v.0 ≡ w.0) × Stands K v.1 w.1

pub record TurnStands (K : Claim) (t : TurnOf Marked) (u : TurnOf ℕ) : Type 0 where
  pub counters : Each (Binds K) t.counters u.counters
  pub sets : Each (Binds K) t.sets u.sets
  pub names : Each (Binds K) t.names u.names

pub record VariablesStand (K : Claim) (v : VariablesOf Marked) (w : VariablesOf ℕ) : Type 0 where
  pub turns : Each (TurnStands K) v.turns w.turns
  pub sets : Each (Binds K) v.sets w.sets

pub record FrameStands (K : Claim) (f : FrameOf Marked) (g : FrameOf ℕ) : Type 0 where
  pub kind : f.kind ≡ g.kind
  pub context : Each (Binds K) f.context g.context
  pub global : Each (Binds K) f.global g.global

-- a frame above, with its variables
abbrev pub AboveStands : Claim → FrameOf Marked × VariablesOf Marked → FrameOf ℕ × VariablesOf ℕ → Type 0
AboveStands K a b = FrameStands K a.0 b.0 × VariablesStand K a.1 b.1

pub record AroundStands (K : Claim) (a : AroundOf Marked) (b : AroundOf ℕ) : Type 0 where
  pub frame : FrameStands K a.frame b.frame
  pub above : Each (AboveStands K) a.above b.above

module _ {K : Claim} where
  pub option_or-stands : {x x' : Option (ValOf Marked)} {y y' : Option (ValOf ℕ)} → OptionStands (Stands K) x y → OptionStands (Stands K) x' y' → OptionStands (Stands K) (option_or x x') (option_or y y')
  option_or-stands (value s) t = value s
  option_or-stands no_value t = t

  unwrap_or-stands : {x : Option (ValOf Marked)} {y : Option (ValOf ℕ)} → OptionStands (Stands K) x y → Stands K (unwrap_or x undefined) (unwrap_or y undefined)
  unwrap_or-stands (value s) = s
  unwrap_or-stands no_value = undefineds

  pub at_name-stands : (n : Name) {vs : List (Name × ValOf Marked)} {ws : List (Name × ValOf ℕ)} → Each (Binds K) vs ws → OptionStands (Stands K) (at_name n vs) (at_name n ws)
  at_name-stands n none = no_value
  at_name-stands n (more {x = v} {y = w} {xs = vs} {ys = ws} k ks) = rw k.0 (go (bytes_eq n w.0) (at_name-stands n ks))
    where
      go : (b : Bool) → OptionStands (Stands K) (at_name n vs) (at_name n ws) → OptionStands (Stands K) (cond b (Some v.1) (at_name n vs)) (cond b (Some w.1) (at_name n ws))
      go true rest = value k.1
      go false rest = rest

  in_turn-stands : (n : Name) {t : TurnOf Marked} {u : TurnOf ℕ} → TurnStands K t u → OptionStands (Stands K) (in_turn n t) (in_turn n u)
  in_turn-stands n k =
      option_or-stands (at_name-stands n k.counters) (option_or-stands (at_name-stands n k.sets) (at_name-stands n k.names))

  in_turns-stands : (n : Name) {ts : List (TurnOf Marked)} {us : List (TurnOf ℕ)} → Each (TurnStands K) ts us → OptionStands (Stands K) (in_turns n ts) (in_turns n us)
  in_turns-stands n none = no_value
  in_turns-stands n (more k ks) = option_or-stands (in_turn-stands n k) (in_turns-stands n ks)

  in_variables-stands : (n : Name) {v : VariablesOf Marked} {w : VariablesOf ℕ} → VariablesStand K v w → OptionStands (Stands K) (in_variables n v) (in_variables n w)
  in_variables-stands n k = option_or-stands (in_turns-stands n k.turns) (at_name-stands n k.sets)

  outermost-stands : (n : Name) {f : FrameOf Marked} {g : FrameOf ℕ} → FrameStands K f g → OptionStands (Stands K) (outermost n f) (outermost n g)
  outermost-stands n k = option_or-stands (at_name-stands n k.context) (at_name-stands n k.global)

  pub defined-stands : {x : Option (ValOf Marked)} {y : Option (ValOf ℕ)} → OptionStands (Stands K) x y → OptionStands (Stands K) (defined x) (defined y)
  defined-stands no_value = no_value
  defined-stands (value {a = v} {b = w} s) = rw (undefined-same s) (go (is_undefined w))
    where
      go : (b : Bool) → OptionStands (Stands K) (cond b None (Some v)) (cond b None (Some w))
      go true = no_value
      go false = value s

  handed_down-stands : (kind : Kind) {x : Option (ValOf Marked)} {y : Option (ValOf ℕ)} → OptionStands (Stands K) x y → OptionStands (Stands K) (handed_down kind x) (handed_down kind y)
  handed_down-stands whole s = no_value
  handed_down-stands included s = defined-stands s
  handed_down-stands called s = no_value

  -- recursion on the frames above
  bound-stands : (n : Name) {us : List (FrameOf Marked × VariablesOf Marked)} {ws : List (FrameOf ℕ × VariablesOf ℕ)} → Each (AboveStands K) us ws
      → {f : FrameOf Marked} {g : FrameOf ℕ} {v : VariablesOf Marked} {w : VariablesOf ℕ} → FrameStands K f g → VariablesStand K v w → OptionStands (Stands K) (bound n f us v) (bound n g ws w)
  bound-stands n none k vs = option_or-stands (in_variables-stands n vs) (outermost-stands n k)
  bound-stands n (more l ls) {g = g} k vs =
      option_or-stands (in_variables-stands n vs)
      (option_or-stands (rw k.kind (handed_down-stands g.kind (bound-stands n ls l.0 l.1))) (outermost-stands n k))

  pub look-stands : (n : Name) {a : AroundOf Marked} {b : AroundOf ℕ} {v : VariablesOf Marked} {w : VariablesOf ℕ} → AroundStands K a b → VariablesStand K v w → Stands K (look n a v) (look n b w)
  look-stands n k vs = unwrap_or-stands (bound-stands n k.above k.frame vs)

  -- and so on the way up through the callers
  bound_above-stands : (n : Name) {us : List (FrameOf Marked × VariablesOf Marked)} {ws : List (FrameOf ℕ × VariablesOf ℕ)} → Each (AboveStands K) us ws
      → {f : FrameOf Marked} {g : FrameOf ℕ} {v : VariablesOf Marked} {w : VariablesOf ℕ} → FrameStands K f g → VariablesStand K v w → OptionStands (Stands K) (bound_above n f us v) (bound_above n g ws w)
  bound_above-stands n none k vs = defined-stands (bound-stands n none k vs)
  bound_above-stands n (more l ls) k vs =
      option_or-stands (defined-stands (bound-stands n (more l ls) k vs)) (bound_above-stands n ls l.0 l.1)

  pub look_implicit-stands : (n : Name) {a : AroundOf Marked} {b : AroundOf ℕ} {v : VariablesOf Marked} {w : VariablesOf ℕ} → AroundStands K a b → VariablesStand K v w → Stands K (look_implicit n a v) (look_implicit n b w)
  look_implicit-stands n k vs = unwrap_or-stands (bound_above-stands n k.above k.frame vs)

  -- binding
  bind-stands : (n : Name) {v : ValOf Marked} {w : ValOf ℕ} → Stands K v w → {vs : List (Name × ValOf Marked)} {ws : List (Name × ValOf ℕ)} → Each (Binds K) vs ws → Each (Binds K) (bind n v vs) (bind n w ws)
  bind-stands n s none = more (refl, s) none
  bind-stands n {v} {w} s (more {x = b} {y = c} {xs = vs} {ys = ws} k ks) = rw k.0 (go (bytes_eq n c.0) (bind-stands n s ks))
    where
      go : (there : Bool) → Each (Binds K) (bind n v vs) (bind n w ws) → Each (Binds K) (cond there ((c.0, v) ∷ vs) ((c.0, b.1) ∷ bind n v vs)) (cond there ((c.0, w) ∷ ws) (c ∷ bind n w ws))
      go true rest = more (refl, s) ks
      go false rest = more (refl, k.1) rest

  set_in-stands : (n : Name) {a : ValOf Marked} {b : ValOf ℕ} → Stands K a b → {ts : List (TurnOf Marked)} {us : List (TurnOf ℕ)} → Each (TurnStands K) ts us
      → {v : VariablesOf Marked} {w : VariablesOf ℕ} → VariablesStand K v w → VariablesStand K (set_in ts n a v) (set_in us n b w)
  set_in-stands n s none k = record { turns = k.turns; sets = bind-stands n s k.sets }
  set_in-stands n s (more t ts) k =
      record { turns = more (record { counters = t.counters; sets = bind-stands n s t.sets; names = t.names }) ts; sets = k.sets }

  pub assign-stands : (is_global : Bool) (n : Name) {a : ValOf Marked} {b : ValOf ℕ} → Stands K a b → {v : VariablesOf Marked} {w : VariablesOf ℕ} → VariablesStand K v w → VariablesStand K (assign is_global n a v) (assign is_global n b w)
  assign-stands true n s k = record { turns = k.turns; sets = bind-stands n s k.sets }
  assign-stands false n s k = set_in-stands n s k.turns k

  pub open_turn-stands : {t : TurnOf Marked} {u : TurnOf ℕ} → TurnStands K t u → {v : VariablesOf Marked} {w : VariablesOf ℕ} → VariablesStand K v w → VariablesStand K (open_turn t v) (open_turn u w)
  open_turn-stands t k = record { turns = more t k.turns; sets = k.sets }

  inner_turns-stand : {ts : List (TurnOf Marked)} {us : List (TurnOf ℕ)} → Each (TurnStands K) ts us → Each (TurnStands K) (inner_turns ts) (inner_turns us)
  inner_turns-stand none = none
  inner_turns-stand (more t ts) = ts

  pub close_turn-stands : {v : VariablesOf Marked} {w : VariablesOf ℕ} → VariablesStand K v w → VariablesStand K (close_turn v) (close_turn w)
  close_turn-stands k = record { turns = inner_turns-stand k.turns; sets = k.sets }

  -- all that is bound
  pub put-stands : (n : Name) {v : ValOf Marked} {w : ValOf ℕ} → Stands K v w → {vs : Named (ValOf Marked)} {ws : Named (ValOf ℕ)} → Each (Binds K) vs ws → Each (Binds K) (put n v vs) (put n w ws)
  put-stands n s none = more (refl, s) none
  put-stands n {v} {w} s (more {x = b} {y = c} {xs = vs} {ys = ws} k ks) = rw k.0 (go (name_cmp n c.0) (put-stands n s ks))
    where
      go : (o : Ordering) → Each (Binds K) (put n v vs) (put n w ws)
          → Each (Binds K) (match_ordering o ((n, v) ∷ (c.0, b.1) ∷ vs) ((n, v) ∷ vs) ((c.0, b.1) ∷ put n v vs)) (match_ordering o ((n, w) ∷ c ∷ ws) ((n, w) ∷ ws) (c ∷ put n w ws))
      go Less rest = more (refl, s) (more (refl, k.1) ks)
      go Equal rest = more (refl, s) ks
      go Greater rest = more (refl, k.1) rest

  pub put_all-stands : {bs : List (Name × ValOf Marked)} {cs : List (Name × ValOf ℕ)} → Each (Binds K) bs cs → {vs : Named (ValOf Marked)} {ws : Named (ValOf ℕ)} → Each (Binds K) vs ws → Each (Binds K) (put_all bs vs) (put_all cs ws)
  put_all-stands none ks = ks
  put_all-stands (more {y = c} b bs) ks = put_all-stands bs (rw b.0 (put-stands c.0 b.1 ks))

  put_turns-stand : {ts : List (TurnOf Marked)} {us : List (TurnOf ℕ)} → Each (TurnStands K) ts us → {vs : Named (ValOf Marked)} {ws : Named (ValOf ℕ)} → Each (Binds K) vs ws → Each (Binds K) (put_turns ts vs) (put_turns us ws)
  put_turns-stand none ks = ks
  put_turns-stand (more t ts) ks = put_all-stands t.sets (put_turns-stand ts ks)

  pub text_keys-stand : {vs : Named (ValOf Marked)} {ws : Named (ValOf ℕ)} → Each (Binds K) vs ws → Each (Pair K) (text_keys vs) (text_keys ws)
  text_keys-stand none = none
  text_keys-stand (more k ks) = more (ap ktext k.0, k.1) (text_keys-stand ks)

  pub dump-stands : {a : AroundOf Marked} {b : AroundOf ℕ} {v : VariablesOf Marked} {w : VariablesOf ℕ} → AroundStands K a b → VariablesStand K v w → Stands K (dump a v) (dump b w)
  dump-stands k vs =
      let outer = put_all-stands k.frame.context k.frame.global in
      maps (entries-stand (text_keys-stand (put_turns-stand vs.turns (put_all-stands vs.sets outer))))

  -- names from outside, and what is around a rendering of them
  pub names-stand : (vs : Named Val) → NamesHold K vs → Each (Binds K) (names_from_outside vs) vs
  names-stand [] h = none
  names-stand (v ∷ vs) h = more (refl, from_outside-stands v.1 h.0) (names-stand vs h.1)

  pub outside-stands : (context global : Named Val) → NamesHold K context → NamesHold K global → AroundStands K (outside (names_from_outside context) (names_from_outside global)) (outside context global)
  outside-stands context global h g =
      record { frame = record { kind = refl; context = names-stand context h; global = names-stand global g }; above = none }

  -- around an include, and around a component: the body that runs is now the nearest above
  pub in_include-stands : {a : AroundOf Marked} {b : AroundOf ℕ} {v : VariablesOf Marked} {w : VariablesOf ℕ} → AroundStands K a b → VariablesStand K v w → AroundStands K (in_include a v) (in_include b w)
  in_include-stands k vs =
      record { frame = record { kind = refl; context = k.frame.context; global = none }; above = more (k.frame, vs) k.above }

  pub in_component-stands : {cs : Named (ValOf Marked)} {ds : Named (ValOf ℕ)} → Each (Binds K) cs ds → {a : AroundOf Marked} {b : AroundOf ℕ} {v : VariablesOf Marked} {w : VariablesOf ℕ} → AroundStands K a b → VariablesStand K v w → AroundStands K (in_component cs a v) (in_component ds b w)
  in_component-stands cs k vs =
      record { frame = record { kind = refl; context = cs; global = none }; above = more (k.frame, vs) k.above }

  pub nothing-stands : VariablesStand K nothing_set nothing_set
  nothing-stands = record { turns = none; sets = none }
