-- The context in which a component runs, at marked characters.
use Rattle.std.proofs.Common.{◌≡◌, ℕ, Bool, true, false, not, List, [], ◌∷◌, refl, ap, Option, Some, None, option_map, codes, if◌then◌else◌}
use Rattle.tera_errors.specs.Site.{Name}
use Rattle.tera_syntax_tree.specs.declared.component.ArgumentType.{ArgumentType}
use Rattle.tera_syntax_tree.specs.declared.component.ArgumentType.TheVariants as argument
use Rattle.tera_syntax_tree.specs.Tree.{Literal, NothingLiteral, BooleanLiteral, IntegerLiteral, TextLiteral, ArrayLiteral, MapLiteral, Literals, NoLiterals, MoreLiterals, LiteralEntries, NoLiteralEntries, MoreLiteralEntries, Parameter, Signature}
use Rattle.tera_syntax_tree.specs.Blocks.{is_among}
use Rattle.tera_values.specs.Alphabet.{Marked, made, plain, marking}
use Rattle.tera_values.specs.Val as val
use Rattle.tera_values.specs.Val.{KeyVal, ValOf}
use Rattle.tera_values.specs.Named.{Named}
use Rattle.tera_operators.specs.Literals.{key_val}
use Rattle.tera_components.specs.Context.{literal_value_in, literal_items_in, literal_pairs_in, is_of_type, fitting, looked_up, parameter_names, others, with_rest, with_body, parameter_value_in, with_parameters_in, component_context_in}
use Rattle.tera_meaning.proofs.Marks.Claim.{Claim}
use Rattle.tera_meaning.proofs.Marks.Each.{Each, none, more, each-filter}
use Rattle.tera_meaning.proofs.Marks.Standing.{Stands, undefineds, nones, bools, ints, texts, raws, arrays, maps, AllStand, no_more, one_more, unsafe-each, OptionStands, no_value, value, and_then-stands}
use Rattle.tera_meaning.proofs.Marks.Moving.{Pair, entries-stand, inserted-stands}
use Rattle.tera_meaning.proofs.Marks.Around.{Binds, option_or-stands, at_name-stands, defined-stands, put-stands, text_keys-stand}

module _ {K : Claim} where
  -- defaults are made: none of their texts is safe
  mutual
    literal-stands : (l : Literal) → Stands K (literal_value_in marking l) (literal_value_in plain l)
    literal-stands NothingLiteral = nones
    literal-stands (BooleanLiteral b) = bools b
    literal-stands (IntegerLiteral z) = ints z
    literal-stands (TextLiteral t) = texts false (unsafe-each made t)
    literal-stands (ArrayLiteral all) = arrays (literals-stand all)
    literal-stands (MapLiteral all) = maps (entries-stand (literal_pairs-stand all none))

    literals-stand : (all : Literals) → AllStand K (literal_items_in marking all) (literal_items_in plain all)
    literals-stand NoLiterals = no_more
    literals-stand (MoreLiterals l rest) = one_more (literal-stands l) (literals-stand rest)

    literal_pairs-stand : (all : LiteralEntries) {es : List (KeyVal × ValOf Marked)} {fs : List (KeyVal × ValOf ℕ)} → Each (Pair K) es fs → Each (Pair K) (literal_pairs_in marking all es) (literal_pairs_in plain all fs)
    literal_pairs-stand NoLiteralEntries ss = ss
    literal_pairs-stand (MoreLiteralEntries k l rest) ss =
        literal_pairs-stand rest (inserted-stands (key_val k) (literal-stands l) ss)

  default-stands : (o : Option Literal) → OptionStands (Stands K) (option_map (literal_value_in marking) o) (option_map (literal_value_in plain) o)
  default-stands None = no_value
  default-stands (Some l) = value (literal-stands l)

-- the type of a value does not tell characters apart
each_type : (v : ValOf Marked) (w : ValOf ℕ) → is_of_type argument.String v ≡ is_of_type argument.String w → is_of_type argument.Bool v ≡ is_of_type argument.Bool w
    → is_of_type argument.Integer v ≡ is_of_type argument.Integer w → is_of_type argument.Number v ≡ is_of_type argument.Number w
    → is_of_type argument.Array v ≡ is_of_type argument.Array w → is_of_type argument.Map v ≡ is_of_type argument.Map w
    → (of_type : ArgumentType) → is_of_type of_type v ≡ is_of_type of_type w
each_type v w s b i n l m argument.String = s
each_type v w s b i n l m argument.Bool = b
each_type v w s b i n l m argument.Integer = i
each_type v w s b i n l m argument.Number = n
each_type v w s b i n l m argument.Array = l
each_type v w s b i n l m argument.Map = m

module _ {K : Claim} where
  type-same : {v : ValOf Marked} {w : ValOf ℕ} → Stands K v w → (of_type : ArgumentType) → is_of_type of_type v ≡ is_of_type of_type w
  type-same undefineds = each_type val.undefined val.undefined refl refl refl refl refl refl
  type-same nones = each_type val.none val.none refl refl refl refl refl refl
  type-same (bools b) = each_type (val.bool b) (val.bool b) refl refl refl refl refl refl
  type-same (ints z) = each_type (val.int z) (val.int z) refl refl refl refl refl refl
  type-same (texts safe {t = t} {u = u} rs) = each_type (val.text t safe) (val.text u safe) refl refl refl refl refl refl
  type-same (raws t) = each_type (val.bytes t) (val.bytes t) refl refl refl refl refl refl
  type-same (arrays {vs = vs} {ws = ws} ss) = each_type (val.array vs) (val.array ws) refl refl refl refl refl refl
  type-same (maps {es = es} {fs = fs} ss) = each_type (val.map es) (val.map fs) refl refl refl refl refl refl

  fitting-stands : (o : Option ArgumentType) {v : ValOf Marked} {w : ValOf ℕ} → Stands K v w → OptionStands (Stands K) (fitting o v) (fitting o w)
  fitting-stands None s = value s
  fitting-stands (Some of_type) {v} {w} s = rw (type-same s of_type) (go (is_of_type of_type w))
    where
      go : (fits : Bool) → OptionStands (Stands K) (if fits then Some v else None) (if fits then Some w else None)
      go true = value s
      go false = no_value

-- names are looked up on both sides, and what is found stands
abbrev pub LooksStand : Claim → (Name → ValOf Marked) → (Name → ValOf ℕ) → Type 0
LooksStand K look other = (name : Name) → Stands K (look name) (other name)

module _ {K : Claim} where
  looked_up-stands : {look : Name → ValOf Marked} {other : Name → ValOf ℕ} → LooksStand K look other → (is_implicit : Bool) (name : Name) → OptionStands (Stands K) (looked_up look is_implicit name) (looked_up other is_implicit name)
  looked_up-stands h true name = defined-stands (value (h name))
  looked_up-stands h false name = no_value

  with_rest-stands : (rest : Option Name) {over : List (Name × ValOf Marked)} {left : List (Name × ValOf ℕ)} → Each (Binds K) over left → {cs : Named (ValOf Marked)} {ds : Named (ValOf ℕ)} → Each (Binds K) cs ds → OptionStands (Each (Binds K)) (with_rest rest over cs) (with_rest rest left ds)
  with_rest-stands (Some rest) os ks = value (put-stands rest (maps (entries-stand (text_keys-stand os))) ks)
  with_rest-stands None none ks = value ks
  with_rest-stands None (more o os) ks = no_value

  with_body-stands : {body : Option (ValOf Marked)} {other : Option (ValOf ℕ)} → OptionStands (Stands K) body other → {cs : Named (ValOf Marked)} {ds : Named (ValOf ℕ)} → Each (Binds K) cs ds → Each (Binds K) (with_body body cs) (with_body other ds)
  with_body-stands no_value ks = ks
  with_body-stands (value s) ks = put-stands (codes "body") s ks

  others-stand : (s : Signature) {given : List (Name × ValOf Marked)} {also : List (Name × ValOf ℕ)} → Each (Binds K) given also → Each (Binds K) (others s given) (others s also)
  others-stand s ks = each-filter _ _ (λ a b k. ap (λ n. not (is_among n (parameter_names s))) k.0) ks

  module _ {look : Name → ValOf Marked} {other : Name → ValOf ℕ} (looks : LooksStand K look other) {given : List (Name × ValOf Marked)} {also : List (Name × ValOf ℕ)} (ks : Each (Binds K) given also) where
    parameter-stands : (p : Parameter) → OptionStands (Stands K) (parameter_value_in marking look given p) (parameter_value_in plain other also p)
    parameter-stands p =
        let found = option_or-stands (at_name-stands p.name ks) (option_or-stands (looked_up-stands looks p.is_implicit p.name) (default-stands p.default)) in
        and_then-stands found (λ v w s. fitting-stands p.of_type s)

    with_parameters-stand : (ps : List Parameter) {cs : Named (ValOf Marked)} {ds : Named (ValOf ℕ)} → Each (Binds K) cs ds → OptionStands (Each (Binds K)) (with_parameters_in marking look given ps cs) (with_parameters_in plain other also ps ds)
    with_parameters-stand [] cs = value cs
    with_parameters-stand (p ∷ ps) cs =
        and_then-stands (parameter-stands p) (λ v w s. with_parameters-stand ps (put-stands p.name s cs))

    pub context-stands : (s : Signature) {body : Option (ValOf Marked)} {text : Option (ValOf ℕ)} → OptionStands (Stands K) body text → OptionStands (Each (Binds K)) (component_context_in marking s given body look) (component_context_in plain s also text other)
    context-stands s b =
        and_then-stands (with_parameters-stand s.parameters (with_body-stands b none)) (λ cs ds k. with_rest-stands s.rest (others-stand s ks) k)
