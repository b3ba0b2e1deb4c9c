-- Registries without a fault.
use Rattle.std.proofs.Common.{◌≡◌, ◌≢◌, ℕ, zero, suc, ◌<◌, Bool, true, false, not, ◌||◌, ◌&&◌, if◌then◌else◌, List, [], ◌∷◌, ◌++◌, length, get_or, Option, Some, None, is_some, Result, Ok, Err, refl, ap, ◌∙◌, subst, arith}
use Rattle.std.specs.Option.{option_or, IsSome}
use Rattle.std.specs.List.{list_any, filter}
use mathlib.Core.Path.{fun_ext}
use Rattle.tera_errors.specs.Site.{Name, Text}
use Rattle.tera_errors.specs.Fault.{Fault, message, circular_include}
use Rattle.tera_values.specs.Val.{Val}
use Rattle.tera_values.specs.Named.{Named, put_all}
use Rattle.tera_syntax_tree.specs.Tree.{Nodes}
use Rattle.tera_syntax_tree.specs.Delimiters.{Delims}
use Rattle.tera_syntax_tree.specs.Blocks.{top_blocks}
use Rattle.tera_syntax_tree.specs.Calls.{Callee, AFilter, ATest, AFunction, AComponent, ATemplate, calls}
use Rattle.tera_state.specs.Engine.{Engine}
use Rattle.tera_state.specs.Laws.{OnlyAdds}
use Rattle.tera_meaning.specs.Registry.{Entry, Registry, Template}
use Rattle.tera_meaning.specs.Resolve.{parents}
use Rattle.tera_meaning.specs.Lineage.{Definer, ancestors, definers_in}
use Rattle.tera_meaning.specs.Components.{better, best_from, defines, definer_of, has_a_tie}
use Rattle.tera_meaning.specs.Known.{has_unknown, bodies, lacks_a_callee}
use Rattle.tera_meaning.specs.Accepted.{fault_of_parents, includes_of, can_walk, leads_into_a_circle, fault_if, template_fault, first_fault, is_none_left, is_lost, loses_a_block, knows, lacks_something, missing, fault}
use Rattle.tera_meaning.specs.Adding.{unless_faulty, added}
use Rattle.tera_meaning.specs.Laws.{AcceptanceStays, EmptyBatchIsAccepted, NamesWhatIsThere, NothingIsMissing}

-- Tests and options.

pub option_or-none : {A : Type 0} (a b : Option A) → option_or a b ≡ None → (a ≡ None) × (b ≡ None)
option_or-none None b h = (refl, h)
option_or-none (Some x) b h = absurd (cc)

pub or-false : (a b : Bool) → (a || b) ≡ false → (a ≡ false) × (b ≡ false)
or-false true b h = absurd (cc)
or-false false b h = (refl, h)

both-false : (a b : Bool) → a ≡ false → b ≡ false → (a || b) ≡ false
both-false true b e f = e
both-false false b e f = f

not-false : (b : Bool) → not b ≡ false → b ≡ true
not-false true h = refl
not-false false h = absurd (cc)

not-true : (b : Bool) → b ≡ true → not b ≡ false
not-true true h = refl
not-true false h = absurd (cc)

-- a test that no element passes
pub list_any-none : {X : Type 0} (p : X → Bool) (xs : List X) → list_any p xs ≡ false → (k : ℕ) (d : X) → k < length xs → p (get_or xs k d) ≡ false
list_any-none p [] h k d lt = absurd (omega arith)
list_any-none p (x ∷ xs) h zero d lt = (or-false (p x) (list_any p xs) h).0
list_any-none p (x ∷ xs) h (suc k) d lt = list_any-none p xs (or-false (p x) (list_any p xs) h).1 k d (omega arith)

-- nor one that fewer pass
list_any-fewer : {X : Type 0} (p q : X → Bool) (xs : List X) → ((x : X) → p x ≡ false → q x ≡ false) → list_any p xs ≡ false → list_any q xs ≡ false
list_any-fewer p q [] less h = h
list_any-fewer p q (x ∷ xs) less h =
    let parts = or-false (p x) (list_any p xs) h in
    both-false (q x) (list_any q xs) (less x parts.0) (list_any-fewer p q xs less parts.1)

-- What a fault is made of.

if-none : (b : Bool) (f : Fault) → (if b then Some f else None) ≡ None → b ≡ false
if-none true f h = absurd (cc)
if-none false f h = refl

pub fault-parts : (r : Registry) → fault r ≡ None → (first_fault r [] r.templates ≡ None) × (list_any (lacks_something r) r.templates ≡ false)
unfolding fault missing
fault-parts r h =
    let parts = option_or-none (first_fault r [] r.templates) (missing r) h in
    (parts.0, if-none (list_any (lacks_something r) r.templates) message parts.1)

faultless : (r : Registry) → first_fault r [] r.templates ≡ None → list_any (lacks_something r) r.templates ≡ false → fault r ≡ None
unfolding fault missing
faultless r first lacks =
    ap (λ (o : Option Fault). option_or o (missing r)) first ∙ ap (λ (b : Bool). if b then Some message else None) lacks

pub first-none : (r : Registry) (before ts : List Entry) → first_fault r before ts ≡ None → (k : ℕ) (d : Entry) → k < length ts → (left : List Entry) × (template_fault r left (get_or ts k d) ≡ None)
unfolding first_fault
first-none r before [] h k d lt = absurd (omega arith)
first-none r before (t ∷ rest) h zero d lt =
    (before, (option_or-none (template_fault r before t) (first_fault r (before ++ t ∷ []) rest) h).0)
first-none r before (t ∷ rest) h (suc k) d lt =
    first-none r (before ++ t ∷ []) rest (option_or-none (template_fault r before t) (first_fault r (before ++ t ∷ []) rest) h).1 k d (omega arith)

fault_if-none : (b : Bool) (f : Fault) → fault_if b f ≡ None → b ≡ false
fault_if-none true f h = absurd (cc)
fault_if-none false f h = refl

-- a template without a fault has parents, and leads into no circle
pub template-parts : (r : Registry) (before : List Entry) (t : Entry) → template_fault r before t ≡ None → (fault_of_parents (parents r t) ≡ None) × (leads_into_a_circle r t ≡ false)
unfolding template_fault
template-parts r before t h =
    let walks = fault_if (leads_into_a_circle r t) circular_include in
    let ties = fault_if (has_a_tie r before t) message in
    let parts = option_or-none (fault_of_parents (parents r t)) (option_or walks ties) h in
    (parts.0, fault_if-none (leads_into_a_circle r t) circular_include (option_or-none walks ties parts.1).0)

-- the same of each template of a registry without a fault
pub each-parts : (r : Registry) → fault r ≡ None → (k : ℕ) (d : Entry) → k < length r.templates → (fault_of_parents (parents r (get_or r.templates k d)) ≡ None) × (leads_into_a_circle r (get_or r.templates k d) ≡ false)
each-parts r h k d lt =
    let one = first-none r [] r.templates (fault-parts r h).0 k d lt in
    template-parts r one.0 (get_or r.templates k d) one.1

-- A registry and the same one with other suffixes, delimiters, another global context and engine.

module _ (r : Registry) (suffixes : List Text) (delimiters : Delims) (global : Named Val) (engine : Engine) where
  abbrev other : Registry
  other = record r { suffixes = suffixes; delimiters = delimiters; global = global; engine = engine }

  walks-same : (n : ℕ) (t : Entry) → can_walk other n t ≡ can_walk r n t
  unfolding can_walk
  walks-same zero t = refl
  walks-same (suc n) t = ap (λ (p : Entry → Bool). list_any p (includes_of r t)) (fun_ext (λ u. walks-same n u))

  template-same : (before : List Entry) (t : Entry) → template_fault other before t ≡ template_fault r before t
  unfolding template_fault
  template-same before t =
      ap (λ (b : Bool). option_or (fault_of_parents (parents r t)) (option_or (fault_if b circular_include) (fault_if (has_a_tie r before t) message))) (walks-same (length r.templates) t)

  first-same : (before ts : List Entry) → first_fault other before ts ≡ first_fault r before ts
  unfolding first_fault
  first-same before [] = refl
  first-same before (t ∷ rest) =
      ap (λ (o : Option Fault). option_or o (first_fault other (before ++ t ∷ []) rest)) (template-same before t)
      ∙ ap (λ (o : Option Fault). option_or (template_fault r before t) o) (first-same (before ++ t ∷ []) rest)

  better-same : (best : Option Entry) (t : Entry) → better other best t ≡ better r best t
  better-same None t = refl
  better-same (Some s) t = refl

  best-same : (best : Option Entry) (ts : List Entry) → best_from other best ts ≡ best_from r best ts
  best-same best [] = refl
  best-same best (t ∷ ts) =
      ap (λ (b : Option Entry). best_from other b ts) (better-same best t) ∙ best-same (better r best t) ts

  definer-same : (name : Name) → definer_of other name ≡ definer_of r name
  definer-same name = best-same None (filter (defines name) r.templates)

  module _ (adds : OnlyAdds r.engine engine) where
    known-more : (c : Callee) → knows r c ≡ true → knows other c ≡ true
    known-more (AFilter name) h = adds.filters name h
    known-more (ATest name) h = adds.tests name h
    known-more (AFunction name) h = adds.functions name h
    known-more (AComponent name) h = ap is_some (definer-same name) ∙ h
    known-more (ATemplate name) h = h

    unknown-fewer : (nodes : Nodes) → has_unknown (knows r) nodes ≡ false → has_unknown (knows other) nodes ≡ false
    unknown-fewer nodes h =
        list_any-fewer (λ c. not (knows r c)) (λ c. not (knows other c)) (calls nodes)
        (λ c unknown. not-true (knows other c) (known-more c (not-false (knows r c) unknown))) h

    lacks-fewer : (t : Entry) → lacks_something r t ≡ false → lacks_something other t ≡ false
    lacks-fewer t h =
        let tree = t.1.tree in
        let parts = or-false (loses_a_block r t) (lacks_a_callee (knows r) tree) h in
        both-false (loses_a_block other t) (lacks_a_callee (knows other) tree) parts.0
        (list_any-fewer (has_unknown (knows r)) (has_unknown (knows other)) (bodies tree) unknown-fewer parts.1)

    pub stays : fault r ≡ None → fault other ≡ None
    stays h =
        let parts = fault-parts r h in
        faultless other (first-same [] r.templates ∙ parts.0) (list_any-fewer (lacks_something r) (lacks_something other) r.templates lacks-fewer parts.1)

same-names : (e : Engine) → OnlyAdds e e
same-names e = record { filters = λ n h. h; tests = λ n h. h; functions = λ n h. h }

none-there : (r : Registry) → r.templates ≡ [] → fault r ≡ None
unfolding first_fault
none-there r h =
    faultless r (ap (first_fault r []) h) (ap (λ (ts : Named Template). list_any (lacks_something r) ts) h)

unless-accepted : (r next : Registry) (o : Option Fault) → fault r ≡ o → unless_faulty r o ≡ Ok next → fault next ≡ None
unless-accepted r next None h e = (let same : r ≡ next = cc in subst (λ (x : Registry). fault x ≡ None) same h)
unless-accepted r next (Some f) h e = absurd (cc)

added-accepted : (r next : Registry) (reading : Result (Named Template) Fault) → added r reading ≡ Ok next → fault next ≡ None
added-accepted r next (Err f) h = absurd (cc)
added-accepted r next (Ok batch) h =
    let made = record r { templates = put_all batch r.templates } in
    unless-accepted made next (fault made) refl h

pub acceptance_stays : AcceptanceStays
acceptance_stays = record {
  empty = none-there;
  suffixes = λ r suffixes h. stays r suffixes r.delimiters r.global r.engine (same-names r.engine) h;
  global = λ r global h. stays r r.suffixes r.delimiters global r.engine (same-names r.engine) h;
  objects = λ r engine adds h. stays r r.suffixes r.delimiters r.global engine adds h;
  batch = added-accepted;
}

pub empty_batch_is_accepted : EmptyBatchIsAccepted
empty_batch_is_accepted r h = ap (unless_faulty r) h

-- What is there.

parents-there : (p : Result (List Entry) Fault) → fault_of_parents p ≡ None → (ts : List Entry) × (p ≡ Ok ts)
parents-there (Ok ts) h = (ts, refl)
parents-there (Err f) h = absurd (cc)

under-some : {A : Type 0} (o : Option A) (b : Bool) → IsSome o → (is_some o && b) ≡ false → b ≡ false
under-some None b some h = absurd (cc)
under-some (Some a) b some h = h

some-left : (ds : List Definer) → is_none_left ds ≡ false → ds ≢ []
some-left [] h e = (cc)
some-left (d ∷ ds) h e = (cc)

names-there : (r : Registry) (t : Entry) → fault_of_parents (parents r t) ≡ None → lacks_something r t ≡ false → NamesWhatIsThere r t
names-there r t there h =
    let tree = t.1.tree in
    let parts = or-false (loses_a_block r t) (lacks_a_callee (knows r) tree) h in
    record {
      parents = parents-there (parents r t) there;
      calls = λ k body lt j c lt'.
          not-false (knows r (get_or (calls (get_or (bodies tree) k body)) j c))
          (list_any-none (λ c. not (knows r c)) (calls (get_or (bodies tree) k body)) (list_any-none (has_unknown (knows r)) (bodies tree) parts.1 k body lt) j c lt');
      blocks = λ extends k block lt.
          some-left (definers_in (get_or (top_blocks tree.nodes) k block) (ancestors r t))
          (list_any-none (is_lost r t) (top_blocks tree.nodes) (under-some t.1.tree.parent (list_any (is_lost r t) (top_blocks tree.nodes)) extends parts.0) k block lt);
    }

pub nothing_is_missing : NothingIsMissing
nothing_is_missing r h k d lt =
    names-there r (get_or r.templates k d) (each-parts r h k d lt).0 (list_any-none (lacks_something r) r.templates (fault-parts r h).1 k d lt)
