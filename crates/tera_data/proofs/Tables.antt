-- Loops over items and members of TOML answer as the definitions say.
use Rattle.std.proofs.Common.{◌≡◌, inl, inr, [], ◌∷◌, ◌++◌, List, Some, None, Result, Ok, Err, refl, sym, ap, ◌∙◌, append_assoc, append-nil, subst}
use Rattle.toml.specs.Data.{Data, Items, no_items, item, Members, no_members, member}
use Rattle.tera_errors.specs.Prelude.{Fault, Name}
use Rattle.tera_errors.specs.Answer.{SaysOneOf, SeenError}
use Rattle.tera_value_types.specs.Val.{KeyVal, Val}
use Rattle.tera_values.specs.Named.{Named, text_keys}
use Rattle.tera_data.specs.Values.{Follows, once}
use Rattle.tera_data.specs.Toml.{OfItems, OfMembers, OfToml}
use Rattle.tera_data.specs.declared.number.Floats.{Floats}
use Rattle.tera_data.proofs.Members.{placed, placed_none}

-- the values of items that are left, behind those that are done
abbrev pub ItemsBehind : Floats → List Val → Items → Result (List Val) Fault → Type 0
ItemsBehind f done ds = Follows (OfItems f ds) (λ vs a. a ≡ Ok (done ++ vs))

pub items_all : (f : Floats) (ds : Items) (r : Result (List Val) Fault) → ItemsBehind f [] ds r → OfItems f ds r
items_all f ds r (inl (fault, h, e)) = subst (OfItems f ds) (sym e) h
items_all f ds r (inr (vs, h, e)) = subst (OfItems f ds) (sym e) h

pub items_more : (f : Floats) (done : List Val) (d : Data) (ds : Items) (v : Val) → OfToml f d (Ok v)
    → (r : Result (List Val) Fault) → ItemsBehind f (done ++ v ∷ []) ds r → ItemsBehind f done (item d ds) r
items_more f done d ds v h r (inl (fault, rest, e)) = inl (fault, inr (v, h, inl (fault, rest, refl)), e)
items_more f done d ds v h r (inr (vs, rest, e)) =
    inr (v ∷ vs, inr (v, h, inr (vs, rest, refl)), e ∙ ap Ok (append_assoc done (v ∷ []) vs))

pub items_refused : (f : Floats) (done : List Val) (d : Data) (ds : Items) (fault : Fault) → OfToml f d (Err fault)
    → ItemsBehind f done (item d ds) (Err fault)
items_refused f done d ds fault h = inl (fault, inl (fault, h, refl), refl)

pub items_none : (f : Floats) (done : List Val) → ItemsBehind f done no_items (Ok done)
items_none f done = inr ([], refl, ap Ok (sym (append-nil done)))

-- what becomes of the values of members that are left
abbrev pub MembersInto : {T : Type 0} → Floats → (Named Val → T) → Members → Result T Fault → Type 0
MembersInto f finish ms = Follows (OfMembers f ms) (λ vs a. a ≡ Ok (finish vs))

pub members_more : {T : Type 0} (f : Floats) (finish : Named Val → T) (n : Name) (d : Data) (ms : Members) (v : Val) → OfToml f d (Ok v)
    → (r : Result T Fault) → MembersInto f (λ vs. finish ((n, v) ∷ vs)) ms r → MembersInto f finish (member n d ms) r
members_more f finish n d ms v h r (inl (fault, rest, e)) = inl (fault, inr (v, h, inl (fault, rest, refl)), e)
members_more f finish n d ms v h r (inr (vs, rest, e)) = inr ((n, v) ∷ vs, inr (v, h, inr (vs, rest, refl)), e)

pub members_refused : {T : Type 0} (f : Floats) (finish : Named Val → T) (n : Name) (d : Data) (ms : Members) (fault : Fault) → OfToml f d (Err fault)
    → MembersInto f finish (member n d ms) (Err fault)
members_refused f finish n d ms fault h = inl (fault, inl (fault, h, refl), refl)

pub members_none : {T : Type 0} (f : Floats) (finish : Named Val → T) → MembersInto f finish no_members (Ok (finish []))
members_none f finish = inr ([], refl, refl)

-- a fault that is meant of one answer is meant of another, if any fault is
pub says : {Y Z : Type 0} (e : SeenError) (Here : Result Y Fault → Type 0) (There : Result Z Fault → Type 0)
    → ((fault : Fault) → Here (Err fault) → There (Err fault)) → SaysOneOf e Here → SaysOneOf e There
says None Here There next h = tt
says (Some fault) Here There next h = next fault h

-- a fault stays
pub fault_stays : {A B : Type 0} (There : Result A Fault → Type 0) (Next : A → Result B Fault → Type 0) (fault : Fault)
    → There (Err fault) → Follows There Next (Err fault)
fault_stays There Next fault h = inl (fault, h, refl)

pub fault_was : {A B : Type 0} (There : Result A Fault → Type 0) (g : A → B) (fault : Fault)
    → Follows There (λ vs a. a ≡ Ok (g vs)) (Err fault) → There (Err fault)
fault_was There g fault (inl (first, h, e)) = let same : fault ≡ first = cc e in rw same h
fault_was There g fault (inr (vs, h, e)) = cc e

-- and an answer may be changed
pub then_changed : {A B C : Type 0} (There : Result A Fault → Type 0) (g : A → B) (k : B → C) (b : B)
    → Follows There (λ vs a. a ≡ Ok (g vs)) (Ok b) → Follows There (λ vs a. a ≡ Ok (k (g vs))) (Ok (k b))
then_changed There g k b (inl (first, h, e)) = cc e
then_changed There g k b (inr (vs, h, e)) = let same : b ≡ g vs = cc e in inr (vs, h, ap (λ x. Ok (k x)) same)

-- members put into no entries are each name once
pub once_each : (f : Floats) (ms : Members) (r : Result (List (KeyVal × Val)) Fault) → MembersInto f (placed []) ms r
    → Follows (OfMembers f ms) (λ vs a. a ≡ Ok (text_keys (once vs))) r
once_each f ms r (inl (fault, h, e)) = inl (fault, h, e)
once_each f ms r (inr (vs, h, e)) = inr (vs, h, e ∙ ap Ok (placed_none vs))
