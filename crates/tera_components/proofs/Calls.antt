-- The context of a call, as the signature has it.
use Rattle.std.proofs.Common.{◌≡◌, ℕ, ◌+◌, ◌<◌, not, List, [], ◌∷◌, Option, Some, None, Result, Ok, refl, sym, ap, ◌∙◌, subst, map as map_list, length, drop, get_or}
use Rattle.std.specs.List.{filter}
use Rattle.std.specs.Option.{option_and_then}
use Rattle.std.proofs.lemmas.List.{drop_more}
use Rattle.tera_errors.specs.Answer.{SeenError, Says, Gives}
use Rattle.tera_errors.specs.Fault.{Fault}
use Rattle.tera_errors.specs.Site.{Name}
use Rattle.tera_syntax_tree.specs.Blocks.{is_among}
use Rattle.tera_syntax_tree.specs.Tree.{Parameter, Signature}
use Rattle.tera_values.specs.Alphabet.{plain}
use Rattle.tera_values.specs.Val.{Val}
use Rattle.tera_values.specs.Named.{Named, put}
use Rattle.tera_components.specs.Context.{parameter_value_in, with_parameters_in, with_rest, with_body, others, component_context}
use Rattle.tera_components.specs.Definition.{Formal, Definition, formal_of, definition_of, left_over, formal_value, with_formals, or_message, Binds}

and_then_same : {A B : Type 0} (f g : A → Option B) (o : Option A) → ((a : A) → f a ≡ g a) → option_and_then f o ≡ option_and_then g o
and_then_same f g None h = refl
and_then_same f g (Some a) h = h a

module _ (look : Name → Val) (given : List (Name × Val)) where
  with_formals-is : (ps : List Parameter) (context : Named Val) → with_formals look given (map_list formal_of ps) context ≡ with_parameters_in plain look given ps context
  with_formals-is [] context = refl
  with_formals-is (p ∷ ps) context =
      and_then_same (λ v. with_formals look given (map_list formal_of ps) (put p.name v context)) (λ v. with_parameters_in plain look given ps (put p.name v context)) (parameter_value_in plain look given p) (λ v. with_formals-is ps (put p.name v context))

names_are : (ps : List Parameter) → map_list (λ (f : Formal). f.name) (map_list formal_of ps) ≡ map_list (λ (p : Parameter). p.name) ps
names_are [] = refl
names_are (p ∷ ps) = ap (λ (ns : List Name). p.name ∷ ns) (names_are ps)

left_over-is : (s : Signature) (given : List (Name × Val)) → left_over (definition_of s) given ≡ others s given
left_over-is s given = ap (λ (ns : List Name). filter (λ a. not (is_among a.0 ns)) given) (names_are s.parameters)

-- the context of a call, by what is kept
abbrev pub call_context : Definition → List (Name × Val) → Option Val → (Name → Val) → Option (Named Val)
call_context d given body look =
    option_and_then (with_rest d.rest (left_over d given)) (with_formals look given d.formals (with_body body []))

-- a definition gives what its signature says
pub call_context-is : (s : Signature) (given : List (Name × Val)) (body : Option Val) (look : Name → Val) → call_context (definition_of s) given body look ≡ component_context s given body look
call_context-is s given body look =
    ap (λ over. option_and_then (with_rest s.rest over) (with_formals look given (map_list formal_of s.parameters) (with_body body []))) (left_over-is s given)
    ∙ ap (option_and_then (with_rest s.rest (others s given))) (with_formals-is look given s.parameters (with_body body []))

pub or_message_some : {A : Type 0} (o : Option A) (a : A) → ◌≡◌ {A = Result A Fault} (or_message o) (Ok a) → o ≡ Some a
or_message_some None a e = cc
or_message_some (Some b) a e = cc

pub answered : {A : Type 0} (a b : A) → ◌≡◌ {A = Result A Fault} (Ok a) (Ok b) → a ≡ b
answered a b e = cc

-- what refuses the value of a parameter refuses the call
pub says_refused : {A B : Type 0} (told : SeenError) (o : Option A) (f : A → Option B) → Says told (or_message o) → Says told (or_message (option_and_then f o))
says_refused None o f h = tt
says_refused (Some fault) None f h = cc
says_refused (Some fault) (Some a) f h = absurd (cc)

module _ (look : Name → Val) (given : List (Name × Val)) where
  pub with_formals_refused : (fs : List Formal) (i : ℕ) (f : Formal) (context : Named Val) (told : SeenError) (meant : Option (Named Val)) →
      i < length fs → f ≡ get_or fs i f → meant ≡ with_formals look given (drop i fs) context → Says told (or_message (formal_value look given f)) → Says told (or_message meant)
  with_formals_refused fs i f context told meant h at is says =
      let next : drop i fs ≡ f ∷ drop (i + 1) fs = drop_more fs i f h ∙ ap (λ g. g ∷ drop (i + 1) fs) (sym at) in
      let same : meant ≡ with_formals look given (f ∷ drop (i + 1) fs) context = is ∙ ap (λ (gs : List Formal). with_formals look given gs context) next in
      subst (λ (o : Option (Named Val)). Says told (or_message o)) (sym same) (says_refused told (formal_value look given f) _ says)

  -- a parameter that takes a value is bound to it
  pub with_formals_next : (fs : List Formal) (i : ℕ) (f : Formal) (context new : Named Val) (name : Name) (v : Val) →
      i < length fs → f ≡ get_or fs i f → ◌≡◌ {A = Result Val Fault} (or_message (formal_value look given f)) (Ok v) → name ≡ f.name → new ≡ put name v context →
      with_formals look given (drop i fs) context ≡ with_formals look given (drop (i + 1) fs) new
  with_formals_next fs i f context new name v h at takes named is =
      let rest : List Formal = drop (i + 1) fs in
      let next : drop i fs ≡ f ∷ rest = drop_more fs i f h ∙ ap (λ g. g ∷ rest) (sym at) in
      ap (λ (gs : List Formal). with_formals look given gs context) next
      ∙ ap (λ (o : Option Val). option_and_then (λ w. with_formals look given rest (put f.name w context)) o) (or_message_some (formal_value look given f) v takes)
      ∙ ap (with_formals look given rest) (sym (is ∙ ap (λ n. put n v context) named))

-- the answer of a call that gives the context by what is kept
pub gives_called : (r : Result (Named Val) SeenError) (d : Definition) (given : List (Name × Val)) (body : Option Val) (look : Name → Val) →
    Gives (λ (c : Named Val). c) r (or_message (call_context d given body look)) → Binds d given body look r
gives_called r d given body look h s is =
    subst (λ (o : Option (Named Val)). Gives (λ (c : Named Val). c) r (or_message o)) (ap (λ e. call_context e given body look) is ∙ call_context-is s given body look) h
