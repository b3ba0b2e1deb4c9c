-- The marked meaning of a tree stands for the plain one, where answers to requests do.
use Rattle.std.proofs.Common.{◌≡◌, ℕ, ◌+◌, Bool, true, false, List, ◌∷◌, refl, subst, codes, Option, filter_map, Result, Ok, if◌then◌else◌, [], ◌++◌}
use Rattle.std.specs.Str.{bytes_eq}
use Rattle.std.specs.List.{cons_option, AllByRecursion}
use Rattle.tera_errors.specs.Site as site
use Rattle.tera_errors.specs.declared.span.Span.{Span}
use Rattle.tera_errors.specs.Fault.{Fault}
use Rattle.tera_syntax_tree.specs.Tree.{Key, Expr, Nothing, Boolean, Integer, Text, Name, Attribute, Index, Slice, Not, Negate, Binary, And, Or, Ternary, Array, Map, Comprehension, Super, Filter, Test, Call, Component, Optional, Absent, Present, Items, NoItems, MoreItems, Entries, NoEntries, MoreEntries, Arguments, NoArguments, MoreArguments, Filters, NoFilters, MoreFilters, Node, Content, Print, If, Set, Capture, FilterSection, For, Block, Include, ComponentCall, Break, Continue, Nodes, NoNodes, MoreNodes}
use Rattle.tera_meaning.proofs.Marks.Claim.{Claim, TextHolds, CalleeHolds, CallsHold}
use Rattle.tera_meaning.proofs.Marks.Each.{Each, none, more, each-append}
use Rattle.tera_meaning.proofs.Marks.Standing.{Bears, Stands, nones, bools, ints, texts, arrays, seen-is, bearing-each, unsafe-each, escaped-each, printed-each, OptionStands, no_value, value, ResultStands, answers, refuses}
use Rattle.tera_meaning.proofs.Marks.Moving.{undefined-same, safe-same, truthy-same, all-stand, Pair}
use Rattle.tera_meaning.proofs.Marks.Around.{Binds, TurnStands, VariablesStand, AroundStands, look-stands, assign-stands, open_turn-stands, close_turn-stands, dump-stands}
use Rattle.tera_meaning.proofs.Marks.Turning.{turns-stand}
use Rattle.tera_meaning.proofs.Marks.Operating.{Operand, Listed, placed-stands, attribute-stands, item-stands, sliced-stands, not-stands, negative-stands, binary-stands, array-stands, map-stands, entries-are}
use Rattle.tera_meaning.proofs.Marks.Objects.{seen-same}
use Rattle.tera_meaning.proofs.Marks.Calling.{filter-stands, test-stands, function-stands}
use Rattle.tera_values.specs.Alphabet.{Marked, template, escaped, made, plain, marking, bytes_of}
use Rattle.tera_values.specs.Val.{KeyVal, kbool, kint, ktext, ValOf}
use Rattle.tera_values.specs.Access.{is_undefined, is_safe, truthy}
use Rattle.tera_values.specs.Printed.{printed_of}
use Rattle.tera_values.specs.Escape.{escape_html}
use Rattle.tera_operators.specs.Operand.{EvaluatedOf, fault_at}
use Rattle.tera_state.specs.Rendered.{rendered_in}
use Rattle.tera_state.specs.Scope.{AroundOf, VariablesOf, TurnOf, Heading, look, dump}
use Rattle.tera_meaning.specs.Run.{Signal, On, Broke, RunOf, AnswerOf, Failed, Gave, MeaningOf, OracleOf, ◌▹◌, onward, more as counted, visit, gives, answered, answered_at, value_at, if_else, reads, changes, writes, go_on, put_back, captured, RequestOf, ABlock, Above, AnInclude, AComponent, joined_answer, asks}
use Rattle.tera_components.specs.Definition.{named_by}
use Rattle.tera_meaning.specs.Meaning.{output_in, written_in, turns_of_in, named_value, if_kept, comprehension, after_turn, loop, loop_or_else, expr_meaning_in, bound_meaning_in, condition_meaning_in, items_meaning_in, entries_meaning_in, arguments_meaning_in, filters_meaning_in, put_out, component_meaning_in, node_meaning_in, nodes_meaning_in}
use Rattle.tera_meaning.specs.Here.{HereOf}
use Rattle.tera_state.specs.Engine.{Engine}
use Rattle.tera_meaning.proofs.Marks.All.{all-left, all-right}
use Rattle.tera_syntax_tree.specs.Calls as called
use Rattle.tera_syntax_tree.specs.Calls.{AFilter, ATest, AFunction, AComponent, expr_calls, optional_calls, items_calls, entries_calls, arguments_calls, filters_calls, node_calls, calls}
use Rattle.tera_meaning.specs.Marks.Sources.{node_contents, contents}

pub record Ended (K : Claim) (b : site.Name × List Marked) (c : site.Name × List ℕ) : Type 0 where
  pub name : b.0 ≡ c.0
  pub text : Each (Bears K true) b.1 c.1

pub record RunStands (K : Claim) (r : RunOf Marked) (s : RunOf ℕ) : Type 0 where
  pub vars : VariablesStand K r.vars s.vars
  pub text : Each (Bears K true) r.text s.text
  pub blocks : Each (Ended K) r.blocks s.blocks

pub data AnswerStands (K : Claim) {A B : Type 0} (S : A → B → Type 0) : AnswerOf Marked A → AnswerOf ℕ B → Type 0 where
  fails : (fault : Fault) (n : ℕ) → AnswerStands K S (Failed fault n) (Failed fault n)
  gave : {a : A} {b : B} {r : RunOf Marked} {s : RunOf ℕ} (n : ℕ) → S a b → RunStands K r s → AnswerStands K S (Gave a r n) (Gave b s n)

abbrev pub Means : Claim → {A B : Type 0} → (A → B → Type 0) → MeaningOf Marked A → MeaningOf ℕ B → Type 0
Means K S m n = (r : RunOf Marked) (s : RunOf ℕ) → RunStands K r s → AnswerStands K S (m r) (n s)

module _ {K : Claim} where
  pub counted-stands : {A B : Type 0} {S : A → B → Type 0} (n : ℕ) {x : AnswerOf Marked A} {y : AnswerOf ℕ B} → AnswerStands K S x y → AnswerStands K S (counted n x) (counted n y)
  counted-stands n (fails fault m) = fails fault (n + m)
  counted-stands n (gave m k rs) = gave (n + m) k rs

  pub visit-means : {A B : Type 0} {S : A → B → Type 0} {m : MeaningOf Marked A} {n : MeaningOf ℕ B} → Means K S m n → Means K S (visit m) (visit n)
  visit-means h = λ r s rs. counted-stands 1 (h r s rs)

  onward-stands : {A B C D : Type 0} {S : A → B → Type 0} (T : C → D → Type 0) {x : AnswerOf Marked A} {y : AnswerOf ℕ B} {go : A → MeaningOf Marked C} {to : B → MeaningOf ℕ D} → AnswerStands K S x y → ((a : A) (b : B) → S a b → Means K T (go a) (to b)) → AnswerStands K T (onward x go) (onward y to)
  onward-stands T (fails fault n) h = fails fault n
  onward-stands T (gave {a = a} {b = b} {r = r} {s = s} n k rs) h = counted-stands n (h a b k r s rs)

  bind : {A B C D : Type 0} {S : A → B → Type 0} (T : C → D → Type 0) {m : MeaningOf Marked A} {n : MeaningOf ℕ B} {go : A → MeaningOf Marked C} {to : B → MeaningOf ℕ D} → Means K S m n → ((a : A) (b : B) → S a b → Means K T (go a) (to b)) → Means K T (m ▹ go) (n ▹ to)
  bind T h k = λ r s rs. onward-stands T (h r s rs) k

  gives-means : {A B : Type 0} {S : A → B → Type 0} (a : A) (b : B) → S a b → Means K S (gives a) (gives b)
  gives-means a b k = λ r s rs. gave 0 k rs

  answered-means : {A B : Type 0} {S : A → B → Type 0} {x : Result A Fault} {y : Result B Fault} → ResultStands S x y → Means K S (answered x) (answered y)
  answered-means (answers k) = λ r s rs. gave 0 k rs
  answered-means (refuses fault) = λ r s rs. fails fault 0

  answered_at-means : {A B : Type 0} {S : A → B → Type 0} {f : VariablesOf Marked → Result A Fault} {g : VariablesOf ℕ → Result B Fault} → ((v : VariablesOf Marked) (w : VariablesOf ℕ) → VariablesStand K v w → ResultStands S (f v) (g w)) → Means K S (answered_at f) (answered_at g)
  answered_at-means h = λ r s rs. answered-means (h r.vars s.vars rs.vars) r s rs

  choice-means : {A B : Type 0} {S : A → B → Type 0} (c : Bool) {m m' : MeaningOf Marked A} {n n' : MeaningOf ℕ B} → Means K S m n → Means K S m' n' → Means K S (if_else c m m') (if_else c n n')
  choice-means true h k = h
  choice-means false h k = k

  value-means : {v : ValOf Marked} {w : ValOf ℕ} (span : Span) → Stands K v w → Means K (Operand K) (value_at v span) (value_at w span)
  value-means span k = gives-means _ _ (record { value = k; span = refl })

  named-stands : (name : site.Name) {a : AroundOf Marked} {b : AroundOf ℕ} {v : VariablesOf Marked} {w : VariablesOf ℕ} → AroundStands K a b → VariablesStand K v w → Stands K (named_value name a v) (named_value name b w)
  named-stands name {a} {b} {v} {w} k vs = go (bytes_eq name (codes "__tera_context"))
    where
      go : (all : Bool) → Stands K (if all then dump a v else look name a v) (if all then dump b w else look name b w)
      go true = dump-stands k vs
      go false = look-stands name k vs

  named-means : (name : site.Name) {a : AroundOf Marked} {b : AroundOf ℕ} → AroundStands K a b → Means K (Stands K) (reads (named_value name a)) (reads (named_value name b))
  named-means name k = λ r s rs. gave 0 (named-stands name k rs.vars) rs

abbrev pub Same : {A : Type 0} → A → A → Type 0
Same x y = x ≡ y

module _ {K : Claim} where
  changes-means : {f : VariablesOf Marked → VariablesOf Marked} {g : VariablesOf ℕ → VariablesOf ℕ} → ((v : VariablesOf Marked) (w : VariablesOf ℕ) → VariablesStand K v w → VariablesStand K (f v) (g w)) → Means K Same (changes f) (changes g)
  changes-means h = λ r s rs. gave 0 refl (record { vars = h r.vars s.vars rs.vars; text = rs.text; blocks = rs.blocks })

  writes-means : {t : List Marked} {u : List ℕ} → Each (Bears K true) t u → Means K Same (writes t) (writes u)
  writes-means ts = λ r s rs. gave 0 refl (record { vars = rs.vars; text = each-append rs.text ts; blocks = rs.blocks })

  go_on-means : {x y : Signal} → x ≡ y → {m : MeaningOf Marked Signal} {n : MeaningOf ℕ Signal} → Means K Same m n → Means K Same (go_on x m) (go_on y n)
  go_on-means {y = y} p {m} {n} h = rw p (go y)
    where
      go : (x : Signal) → Means K Same (go_on x m) (go_on x n)
      go On = h
      go _ = gives-means _ _ refl

-- how a body ends, and its text, which keeps its marks
abbrev Captured : Claim → Signal × List Marked → Signal × List ℕ → Type 0
Captured K c d = (c.0 ≡ d.0) × Each (Bears K true) c.1 d.1

module _ {K : Claim} where
  put_back-stands : {t : List Marked} {u : List ℕ} → Each (Bears K true) t u → {x : AnswerOf Marked Signal} {y : AnswerOf ℕ Signal} → AnswerStands K Same x y → AnswerStands K (Captured K) (put_back t x) (put_back u y)
  put_back-stands ts (fails fault n) = fails fault n
  put_back-stands ts (gave n k rs) = gave n (k, rs.text) (record { vars = rs.vars; text = ts; blocks = rs.blocks })

  captured-means : {m : MeaningOf Marked Signal} {n : MeaningOf ℕ Signal} → Means K Same m n → Means K (Captured K) (captured m) (captured n)
  captured-means h = λ r s rs. put_back-stands rs.text (h _ _ (record { vars = rs.vars; text = none; blocks = rs.blocks }))

-- a request, and the answers that are given to requests
pub data RequestStands (K : Claim) : RequestOf Marked → RequestOf ℕ → Type 0 where
  blocks : (name : site.Name) (span : Span) → RequestStands K (ABlock name span) (ABlock name span)
  aboves : (span : Span) → RequestStands K (Above span) (Above span)
  includes : (name : site.Name) (span : Span) → RequestStands K (AnInclude name span) (AnInclude name span)
  components : (name : site.Name) {given : List (site.Name × ValOf Marked)} {others : List (site.Name × ValOf ℕ)} {body : Option (ValOf Marked)} {other : Option (ValOf ℕ)} (span : Span)
      → Each (Binds K) given others → OptionStands (Stands K) body other → RequestStands K (AComponent name given body span) (AComponent name others other span)

abbrev pub OracleStands : Claim → OracleOf Marked → OracleOf ℕ → Type 0
OracleStands K c d = (q : RequestOf Marked) (q' : RequestOf ℕ) (v : VariablesOf Marked) (w : VariablesOf ℕ) → RequestStands K q q' → VariablesStand K v w → AnswerStands K Same (c q v) (d q' w)

module _ {K : Claim} where
  -- the text of a body that stands elsewhere keeps its marks
  joined-stands : {r : RunOf Marked} {s : RunOf ℕ} → RunStands K r s → {x : AnswerOf Marked Signal} {y : AnswerOf ℕ Signal} → AnswerStands K Same x y → AnswerStands K (Each (Bears K true)) (joined_answer r x) (joined_answer s y)
  joined-stands rs (fails fault n) = fails fault n
  joined-stands rs (gave n k done) =
      gave n done.text (record { vars = done.vars; text = rs.text; blocks = each-append rs.blocks done.blocks })

  asks-means : {c : OracleOf Marked} {d : OracleOf ℕ} → OracleStands K c d → {q : RequestOf Marked} {q' : RequestOf ℕ} → RequestStands K q q' → Means K (Each (Bears K true)) (asks c q) (asks d q')
  asks-means h q = λ r s rs. joined-stands rs (h _ _ r.vars s.vars q rs.vars)

  -- loops and comprehensions, turn by turn
  kept-means : {x y : Bool} → x ≡ y → {m : MeaningOf Marked (EvaluatedOf Marked)} {n : MeaningOf ℕ (EvaluatedOf ℕ)} → Means K (Operand K) m n → Means K (Each (Stands K)) (if_kept x m) (if_kept y n)
  kept-means {y = y} p {m} {n} h = rw p (go y)
    where
      go : (keep : Bool) → Means K (Each (Stands K)) (if_kept keep m) (if_kept keep n)
      go true = bind (Each (Stands K)) h (λ a b k. gives-means _ _ (more k.value none))
      go false = gives-means _ _ none

  comprehension-means : {c : MeaningOf Marked Bool} {d : MeaningOf ℕ Bool} {m : MeaningOf Marked (EvaluatedOf Marked)} {n : MeaningOf ℕ (EvaluatedOf ℕ)} → Means K Same c d → Means K (Operand K) m n
      → {ts : List (TurnOf Marked)} {us : List (TurnOf ℕ)} → Each (TurnStands K) ts us → Means K (Each (Stands K)) (comprehension c m ts) (comprehension d n us)
  comprehension-means t h none = gives-means _ _ none
  comprehension-means t h (more k ks) =
      visit-means (bind (Each (Stands K)) (changes-means (λ v w vs. open_turn-stands k vs)) (λ x y i. bind (Each (Stands K)) t (λ a b p. bind (Each (Stands K)) (kept-means p h) (λ vs ws ss.
      bind (Each (Stands K)) (changes-means (λ v w vs. close_turn-stands vs)) (λ x y i. bind (Each (Stands K)) (comprehension-means t h ks) (λ vs' ws' ss'. gives-means _ _ (each-append ss ss')))))))

  after-means : {x y : Signal} → x ≡ y → {m : MeaningOf Marked Signal} {n : MeaningOf ℕ Signal} → Means K Same m n → Means K Same (after_turn x m) (after_turn y n)
  after-means {y = y} p {m} {n} h = rw p (go y)
    where
      go : (x : Signal) → Means K Same (after_turn x m) (after_turn x n)
      go Broke = gives-means _ _ refl
      go _ = h

  loop-means : {m : MeaningOf Marked Signal} {n : MeaningOf ℕ Signal} → Means K Same m n → {ts : List (TurnOf Marked)} {us : List (TurnOf ℕ)} → Each (TurnStands K) ts us → Means K Same (loop m ts) (loop n us)
  loop-means h none = gives-means _ _ refl
  loop-means h (more k ks) =
      visit-means (bind Same (changes-means (λ v w vs. open_turn-stands k vs)) (λ x y i. bind Same h (λ a b p.
      bind Same (changes-means (λ v w vs. close_turn-stands vs)) (λ x y i. after-means p (loop-means h ks)))))

  loop_or_else-means : {m m' : MeaningOf Marked Signal} {n n' : MeaningOf ℕ Signal} → Means K Same m n → Means K Same m' n' → {ts : List (TurnOf Marked)} {us : List (TurnOf ℕ)} → Each (TurnStands K) ts us → Means K Same (loop_or_else m m' ts) (loop_or_else n n' us)
  loop_or_else-means h e none = e
  loop_or_else-means h e (more k ks) = loop-means h (more k ks)

  -- arguments that are named by their keys
  named-each : {es : List (KeyVal × ValOf Marked)} {fs : List (KeyVal × ValOf ℕ)} → Each (Pair K) es fs → Each (Binds K) (filter_map named_by es) (filter_map named_by fs)
  named-each none = none
  named-each (more {x = e} {y = f} {xs = es} {ys = fs} s ss) =
      subst (λ k. Each (Binds K) (filter_map named_by (e ∷ es)) (cons_option (named_by (k, f.1)) (filter_map named_by fs))) s.0 (go e.0 (named-each ss))
    where
      go : (k : KeyVal) → Each (Binds K) (filter_map named_by es) (filter_map named_by fs) → Each (Binds K) (cons_option (named_by (k, e.1)) (filter_map named_by es)) (cons_option (named_by (k, f.1)) (filter_map named_by fs))
      go (ktext n) rest = more (refl, s.1) rest
      go (kbool b) rest = rest
      go (kint z) rest = rest

-- where nodes stand: texts are escaped
abbrev pub escaping : {C : Type 0} → site.Name → Engine → AroundOf C → HereOf C
escaping file engine around = record { file = file; around = around; autoescape = true; engine = engine }

module _ {K : Claim} where
  module _ (file : site.Name) (engine : Engine) (by_html : engine.escape ≡ escape_html) {u : AroundOf Marked} {w : AroundOf ℕ} (around : AroundStands K u w) (c : OracleOf Marked) (d : OracleOf ℕ) (answered_for : OracleStands K c d) where
    abbrev here : HereOf Marked
    here = escaping file engine u

    abbrev there : HereOf ℕ
    there = escaping file engine w

    rendered-each : {v : ValOf Marked} {w : ValOf ℕ} → Stands K v w → Each (Bears K true) (rendered_in marking true engine.escape v) (rendered_in plain true engine.escape w)
    rendered-each {v} {w} k = rw by_html (rw (safe-same k) (go (is_safe w) (printed-each k)))
      where
        go : (safe : Bool) → Each (Bears K safe) (printed_of marking v) (printed_of plain w)
            → Each (Bears K true) (if safe then printed_of marking v else marking.spelled escaped (escape_html (bytes_of (printed_of marking v)))) (if safe then printed_of plain w else escape_html (printed_of plain w))
        go true rs = rs
        go false rs = rw (seen-is false rs) (escaped-each (printed_of plain w))

    output-stands : {a : EvaluatedOf Marked} {b : EvaluatedOf ℕ} → Operand K a b → ResultStands (Each (Bears K true)) (output_in marking here a) (output_in plain there b)
    output-stands {a} {b} k = rw (undefined-same k.value) (rw k.span (go (is_undefined b.value)))
      where
        go : (u : Bool) → ResultStands (Each (Bears K true)) (if u then fault_at file b.span else Ok (rendered_in marking true engine.escape a.value)) (if u then fault_at file b.span else Ok (rendered_in plain true engine.escape b.value))
        go true = refuses _
        go false = answers (rendered-each k.value)

    turns_of-stand : (h : Heading) {a : EvaluatedOf Marked} {b : EvaluatedOf ℕ} → Operand K a b → ResultStands (Each (TurnStands K)) (turns_of_in marking here h a) (turns_of_in plain there h b)
    turns_of-stand h k = rw k.span (placed-stands (Each (TurnStands K)) file _ (turns-stand h k.value))

    -- what a component puts out keeps its marks, and is safe
    component-means : (name : site.Name) {all : List (Option Key × EvaluatedOf Marked)} {every : List (Option Key × EvaluatedOf ℕ)} {body : Option (ValOf Marked)} {other : Option (ValOf ℕ)} (span : Span)
        → Each (Listed K) all every → OptionStands (Stands K) body other → Means K (Operand K) (component_meaning_in marking here c name all body span) (component_meaning_in plain there d name every other span)
    component-means name span ks b =
        bind (Operand K) (answered-means (entries-are file ks)) (λ es fs ss. bind (Operand K) (asks-means answered_for (components name span (named-each ss) b)) (λ t u ts. value-means span (texts true ts)))

    -- what holds of all that is called holds of what is called in either part, and so of texts
    parts : (xs ys : List called.Callee) → CallsHold K engine (xs ++ ys) → CallsHold K engine xs × CallsHold K engine ys
    parts xs ys h = (all-left (CalleeHolds K engine) xs ys h, all-right (CalleeHolds K engine) xs ys h)

    pieces : (ts us : List site.Text) → AllByRecursion (TextHolds K template) (ts ++ us) → AllByRecursion (TextHolds K template) ts × AllByRecursion (TextHolds K template) us
    pieces ts us h = (all-left (TextHolds K template) ts us h, all-right (TextHolds K template) ts us h)

    mutual
      expr-means : (x : Expr) → CallsHold K engine (expr_calls x) → Means K (Operand K) (expr_meaning_in marking here c x) (expr_meaning_in plain there d x)
      expr-means (Nothing span) h = visit-means (value-means span nones)
      expr-means (Boolean b span) h = visit-means (value-means span (bools b))
      expr-means (Integer z span) h = visit-means (value-means span (ints z))
      expr-means (Text t span) h = visit-means (value-means span (texts false (unsafe-each made t)))
      expr-means (Name name span) h = visit-means (bind (Operand K) (named-means name around) (λ v w k. value-means span k))
      expr-means (Attribute x name optional span) h = visit-means (bind (Operand K) (expr-means x h) (λ a b k. answered-means (attribute-stands file optional name span k)))
      expr-means (Index x i optional span) h =
          visit-means (bind (Operand K) (expr-means x (parts (expr_calls x) (expr_calls i) h).0) (λ a b k. bind (Operand K) (expr-means i (parts (expr_calls x) (expr_calls i) h).1) (λ i j l. answered-means (item-stands file optional span k l))))
      expr-means (Slice x s e t optional span) h =
          let all = parts (expr_calls x) (optional_calls s ++ (optional_calls e ++ optional_calls t)) h in
          let bounds = parts (optional_calls s) (optional_calls e ++ optional_calls t) all.1 in
          let later = parts (optional_calls e) (optional_calls t) bounds.1 in
          visit-means (bind (Operand K) (expr-means x all.0) (λ a b h. bind (Operand K) (bound-means s bounds.0) (λ s s' i. bind (Operand K) (bound-means e later.0) (λ e e' j. bind (Operand K) (bound-means t later.1) (λ t t' k.
          answered-means (sliced-stands file optional span h i j k))))))
      expr-means (Not x span) h = visit-means (bind (Operand K) (expr-means x h) (λ a b k. gives-means _ _ (not-stands k)))
      expr-means (Negate x span) h = visit-means (bind (Operand K) (expr-means x h) (λ a b k. answered-means (negative-stands file k)))
      expr-means (Binary o x y span) h =
          visit-means (bind (Operand K) (expr-means x (parts (expr_calls x) (expr_calls y) h).0) (λ a b k. bind (Operand K) (expr-means y (parts (expr_calls x) (expr_calls y) h).1) (λ i j l. answered-means (binary-stands file k l o span))))
      expr-means (And x y span) h =
          visit-means (bind (Operand K) (expr-means x (parts (expr_calls x) (expr_calls y) h).0) (λ a b k. rw (truthy-same k.value) (choice-means (truthy b.value) (expr-means y (parts (expr_calls x) (expr_calls y) h).1) (gives-means _ _ k))))
      expr-means (Or x y span) h =
          visit-means (bind (Operand K) (expr-means x (parts (expr_calls x) (expr_calls y) h).0) (λ a b k. rw (truthy-same k.value) (choice-means (truthy b.value) (gives-means _ _ k) (expr-means y (parts (expr_calls x) (expr_calls y) h).1))))
      expr-means (Ternary x y z span) h =
          let all = parts (expr_calls y) (expr_calls x ++ expr_calls z) h in
          let either = parts (expr_calls x) (expr_calls z) all.1 in
          visit-means (bind (Operand K) (expr-means y all.0) (λ a b k. rw (truthy-same k.value) (choice-means (truthy b.value) (expr-means x either.0) (expr-means z either.1))))
      expr-means (Array xs span) h = visit-means (bind (Operand K) (items-mean xs h) (λ vs ws ks. answered-means (array-stands file span ks)))
      expr-means (Map xs span) h = visit-means (bind (Operand K) (entries-mean xs h) (λ vs ws ks. answered-means (map-stands file span ks)))
      expr-means (Comprehension x key name e c span) h =
          let all = parts (expr_calls e) (optional_calls c ++ expr_calls x) h in
          let each = parts (optional_calls c) (expr_calls x) all.1 in
          visit-means (bind (Operand K) (expr-means e all.0) (λ a b k. bind (Operand K) (answered-means (turns_of-stand (record { name = name; key = key; counts = false }) k)) (λ ts us ks.
          bind (Operand K) (comprehension-means (condition-means c each.0) (expr-means x each.1) ks) (λ vs ws ss. value-means span (arrays (all-stand ss))))))
      expr-means (Super xs span) h =
          visit-means (bind (Operand K) (arguments-mean xs h) (λ vs ws ks. bind (Operand K) (asks-means answered_for (aboves span)) (λ t u ts. value-means span (texts true ts))))
      expr-means (Filter x name xs span) h =
          let all = parts (expr_calls x) (arguments_calls xs ++ AFilter name ∷ []) h in
          let given = parts (arguments_calls xs) (AFilter name ∷ []) all.1 in
          visit-means (bind (Operand K) (expr-means x all.0) (λ a b k. bind (Operand K) (arguments-mean xs given.0) (λ vs ws ks.
          answered_at-means (λ v u us. filter-stands file engine name span ks (seen-same engine true around us) given.1.0 by_html k))))
      expr-means (Test x name xs span) h =
          let all = parts (expr_calls x) (arguments_calls xs ++ ATest name ∷ []) h in
          visit-means (bind (Operand K) (expr-means x all.0) (λ a b k. bind (Operand K) (arguments-mean xs (parts (arguments_calls xs) (ATest name ∷ []) all.1).0) (λ vs ws ks.
          answered_at-means (λ v u us. test-stands file engine name span ks (seen-same engine true around us) k))))
      expr-means (Call name xs span) h =
          let given = parts (arguments_calls xs) (AFunction name ∷ []) h in
          visit-means (bind (Operand K) (arguments-mean xs given.0) (λ vs ws ks. answered_at-means (λ v u us. function-stands file engine name span ks (seen-same engine true around us) given.1.0)))
      expr-means (Component name xs span) h =
          visit-means (bind (Operand K) (entries-mean xs (parts (entries_calls xs) (AComponent name ∷ []) h).0) (λ vs ws ks. component-means name span ks no_value))

      bound-means : (x : Optional) → CallsHold K engine (optional_calls x) → Means K (Operand K) (bound_meaning_in marking here c x) (bound_meaning_in plain there d x)
      bound-means Absent h = gives-means _ _ (record { value = nones; span = refl })
      bound-means (Present x) h = expr-means x h

      condition-means : (x : Optional) → CallsHold K engine (optional_calls x) → Means K Same (condition_meaning_in marking here c x) (condition_meaning_in plain there d x)
      condition-means Absent h = gives-means _ _ refl
      condition-means (Present x) h = bind Same (expr-means x h) (λ a b k. gives-means _ _ (truthy-same k.value))

      items-mean : (xs : Items) → CallsHold K engine (items_calls xs) → Means K (Each (Listed K)) (items_meaning_in marking here c xs) (items_meaning_in plain there d xs)
      items-mean NoItems h = gives-means _ _ none
      items-mean (MoreItems is_spread x xs) h =
          bind (Each (Listed K)) (expr-means x (parts (expr_calls x) (items_calls xs) h).0) (λ a b k. bind (Each (Listed K)) (items-mean xs (parts (expr_calls x) (items_calls xs) h).1) (λ vs ws ks. gives-means _ _ (more (refl, k) ks)))

      entries-mean : (xs : Entries) → CallsHold K engine (entries_calls xs) → Means K (Each (Listed K)) (entries_meaning_in marking here c xs) (entries_meaning_in plain there d xs)
      entries-mean NoEntries h = gives-means _ _ none
      entries-mean (MoreEntries key x xs) h =
          bind (Each (Listed K)) (expr-means x (parts (expr_calls x) (entries_calls xs) h).0) (λ a b k. bind (Each (Listed K)) (entries-mean xs (parts (expr_calls x) (entries_calls xs) h).1) (λ vs ws ks. gives-means _ _ (more (refl, k) ks)))

      arguments-mean : (xs : Arguments) → CallsHold K engine (arguments_calls xs) → Means K (Each (Listed K)) (arguments_meaning_in marking here c xs) (arguments_meaning_in plain there d xs)
      arguments-mean NoArguments h = gives-means _ _ none
      arguments-mean (MoreArguments name x xs) h =
          bind (Each (Listed K)) (expr-means x (parts (expr_calls x) (arguments_calls xs) h).0) (λ a b k. bind (Each (Listed K)) (arguments-mean xs (parts (expr_calls x) (arguments_calls xs) h).1) (λ vs ws ks. gives-means _ _ (more (refl, k) ks)))

    filters-mean : (fs : Filters) → CallsHold K engine (filters_calls fs) → {a : EvaluatedOf Marked} {b : EvaluatedOf ℕ} → Operand K a b → Means K (Operand K) (filters_meaning_in marking here c fs a) (filters_meaning_in plain there d fs b)
    filters-mean NoFilters h k = gives-means _ _ k
    filters-mean (MoreFilters name xs span rest) h k =
        let all = parts (arguments_calls xs ++ AFilter name ∷ []) (filters_calls rest) h in
        let given = parts (arguments_calls xs) (AFilter name ∷ []) all.0 in
        bind (Operand K) (visit-means (bind (Operand K) (arguments-mean xs given.0) (λ vs ws ks.
        answered_at-means (λ v u us. filter-stands file engine name span ks (seen-same engine true around us) given.1.0 by_html k)))) (λ a b l. filters-mean rest all.1 l)

    put_out-stands : (fs : Filters) {t : List Marked} {u : List ℕ} → Each (Bears K true) t u → Operand K (put_out here fs t) (put_out there fs u)
    put_out-stands fs ts = record { value = texts true ts; span = refl }

    written-means : {a : EvaluatedOf Marked} {b : EvaluatedOf ℕ} → Operand K a b → Means K Same (written_in marking here a) (written_in plain there b)
    written-means k = bind Same (answered-means (output-stands k)) (λ t u ts. writes-means ts)

    -- the claim holds of the texts of nodes, and of what they call
    mutual
      node-means : (n : Node) → AllByRecursion (TextHolds K template) (node_contents n) → CallsHold K engine (node_calls n) → Means K Same (node_meaning_in marking here c n) (node_meaning_in plain there d n)
      node-means (Content t span) held h = visit-means (writes-means (bearing-each template t held.0))
      node-means (Print x) held h = visit-means (bind Same (expr-means x h) (λ a b k. written-means k))
      node-means (If x body other) held h =
          let all = parts (expr_calls x) (calls body ++ calls other) h in
          let either = parts (calls body) (calls other) all.1 in
          let texts = pieces (contents body) (contents other) held in
          visit-means (bind Same (expr-means x all.0) (λ a b k. rw (truthy-same k.value) (choice-means (truthy b.value) (nodes-mean body texts.0 either.0) (nodes-mean other texts.1 either.1))))
      node-means (Set name x is_global) held h = visit-means (bind Same (expr-means x h) (λ a b k. changes-means (λ v w vs. assign-stands is_global name k.value vs)))
      node-means (Capture name fs body is_global) held h =
          visit-means (bind Same (captured-means (nodes-mean body (pieces (contents body) [] held).0 (parts (calls body) (filters_calls fs) h).0)) (λ x y k. go_on-means k.0 (bind Same (filters-mean fs (parts (calls body) (filters_calls fs) h).1 (put_out-stands fs k.1)) (λ a b l. changes-means (λ v w vs. assign-stands is_global name l.value vs)))))
      node-means (FilterSection fs body) held h =
          visit-means (bind Same (captured-means (nodes-mean body (pieces (contents body) [] held).0 (parts (calls body) (filters_calls fs) h).0)) (λ x y k. go_on-means k.0 (bind Same (filters-mean fs (parts (calls body) (filters_calls fs) h).1 (put_out-stands fs k.1)) (λ a b l. written-means l))))
      node-means (For key name x body other) held h =
          let all = parts (expr_calls x) (calls body ++ calls other) h in
          let either = parts (calls body) (calls other) all.1 in
          let texts = pieces (contents body) (contents other) held in
          visit-means (bind Same (expr-means x all.0) (λ a b k. bind Same (answered-means (turns_of-stand (record { name = name; key = key; counts = true }) k)) (λ ts us ks.
          loop_or_else-means (nodes-mean body texts.0 either.0) (nodes-mean other texts.1 either.1) ks)))
      node-means (Block name body span) held h = visit-means (bind Same (asks-means answered_for (blocks name span)) (λ t u ts. writes-means ts))
      node-means (Include name span) held h = visit-means (bind Same (asks-means answered_for (includes name span)) (λ t u ts. writes-means ts))
      node-means (ComponentCall name xs body span) held h =
          let all = parts (calls body) (entries_calls xs ++ AComponent name ∷ []) h in
          visit-means (bind Same (captured-means (nodes-mean body (pieces (contents body) [] held).0 all.0)) (λ x y k. go_on-means k.0 (bind Same (entries-mean xs (parts (entries_calls xs) (AComponent name ∷ []) all.1).0) (λ vs ws ks.
          bind Same (component-means name span ks (value (texts true k.1))) (λ a b l. written-means l)))))
      node-means Break held h = visit-means (gives-means _ _ refl)
      node-means Continue held h = visit-means (gives-means _ _ refl)

      pub nodes-mean : (ns : Nodes) → AllByRecursion (TextHolds K template) (contents ns) → CallsHold K engine (calls ns) → Means K Same (nodes_meaning_in marking here c ns) (nodes_meaning_in plain there d ns)
      nodes-mean NoNodes held h = gives-means _ _ refl
      nodes-mean (MoreNodes n ns) held h =
          let texts = pieces (node_contents n) (contents ns) held in
          let all = parts (node_calls n) (calls ns) h in
          bind Same (node-means n texts.0 all.0) (λ x y k. go_on-means k (nodes-mean ns texts.1 all.1))
