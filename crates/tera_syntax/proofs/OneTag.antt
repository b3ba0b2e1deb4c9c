-- One tag: what is read is what it may be, and the other way round.
use Rattle.std.proofs.Common.{◌≡◌, ℕ, suc, ◌≤◌, List, [], ◌∷◌, Bool, true, false, ◌&&◌, ◌||◌, Option, Some, None, IsTrue, if◌then◌else◌, bytes_eq, codes, refl, ap, sym, ◌∙◌, subst, arith}
use Rattle.std.specs.Prelude.{option_map}
use Rattle.std.proofs.lemmas.Slice.Eq.{bytes_eq-Decides}
use Rattle.tera_errors.specs.Site.{Text, Name}
use Rattle.tera_syntax_tokens.specs.declared.token.Kind.{Kind}
use Rattle.tera_syntax_tokens.specs.declared.token.Kind.TheVariants as k
use Rattle.tera_syntax_tokens.specs.Token.{Token}
use Rattle.tera_syntax_tokens.specs.Input.{Input, Parsed, begin, kind, text, start, next, span, same, is_word}
use Rattle.tera_syntax_tokens.specs.Cut.{is_alone}
use Rattle.tera_syntax_tokens.specs.Literal.{literal}
use Rattle.tera_syntax_tree.specs.Tree.{Expr, Entries, Filters, NoFilters, Node, Set, Include, Break, Continue}
use Rattle.tera_syntax_tree.specs.Depth.{depth, entries_depth, filters_depth, node_depth}
use Rattle.tera_syntax_expressions.specs.Grammar.{DerivesAttributes}
use Rattle.tera_syntax_expressions.specs.Headings.{Names, calls}
use Rattle.tera_syntax_expressions.proofs.Calls.{calls-got, calls-is}
use Rattle.tera_syntax_expressions.proofs.Steps.{guard, chosen, either, same-is, same-refl, alike, unlike}
use Rattle.tera_syntax.specs.declared.heads.Surroundings.{Surroundings}
use Rattle.tera_syntax.specs.Heads.{Head, IfHead, ForHead, SetHead, SectionHead, BlockHead, CallHead, head_depth, end_kind, is_end, is_named, is_call_end, first, ends, ends_component}
use Rattle.tera_syntax.specs.Grammar.{DerivesWhole, IsWord, Begins, Quotes, set_word, Simple, set, includes, breaks, continues, DerivesPipe, Opens, choice, loop, capture, filtered, section, block, call, GoesOn, elif}
use Rattle.tera_syntax.specs.Reader.{Tag, Single, Opening, GoingOn, Dividing, Closing, looping_by, setting, setting_by, sectioning, block_at, blocking, called, calling, quoted_name, including, alone, leaving, named, tag_by, tag, whole, pipe}
use Rattle.tera_syntax.proofs.Whole.{both, whole_sound, whole_complete, pipe_sound, pipe_complete, called_sound, called_complete}

-- what is said of a tag with expressions no deeper than this, where it was read
abbrev pub Meant : ℕ → Surroundings → Surroundings → List Token → Tag → Type 0
Meant limit q outer tokens (Single node) = Simple q node tokens × (node_depth node ≤ suc limit)
Meant limit q outer tokens (Opening head) = Opens q head tokens × (head_depth head ≤ limit)
Meant limit q outer tokens (GoingOn head) = GoesOn outer head tokens × (head_depth head ≤ limit)
Meant limit q outer tokens Dividing = IsWord k.Else (codes "else") tokens
Meant limit q outer tokens Closing = Unit {0}

mapped : {A B : Type 0} (f : A → B) (o : Option A) (y : B) → option_map f o ≡ Some y → (x : A) × (o ≡ Some x) × (f x ≡ y)
mapped f None y h = absurd (cc)
mapped f (Some x) y h = (x, refl, cc)

some-is : {A : Type 0} (x y : A) → Some x ≡ Some y → x ≡ y
some-is x y h = cc

is-word : (word w : Text) → bytes_eq word w ≡ true → word ≡ w
is-word word w h = (bytes_eq-Decides word w).0 h

alone-text : (word : Text) (tokens : List Token) → is_alone word tokens ≡ true → text (begin false tokens) ≡ word
unfolding text
alone-text word [] h = absurd (cc)
alone-text word (t ∷ []) h = is-word t.text word h
alone-text word (t ∷ u ∷ ts) h = absurd (cc)

named-text : (word name : Text) (tokens : List Token) → is_named word name tokens ≡ true → text (begin false tokens) ≡ word
unfolding text
named-text word name [] h = absurd (cc)
named-text word name (t ∷ []) h = absurd (cc)
named-text word name (t ∷ u ∷ []) h = is-word t.text word (both (bytes_eq t.text word) (is_word u.kind && bytes_eq u.text name) h).0
named-text word name (t ∷ u ∷ v ∷ ts) h = absurd (cc)

-- what ends a call begins with a slash, behind the first token
slash-text : (q : Bool) (name : Text) (tokens : List Token) → is_call_end name tokens ≡ true → same k.Slash (kind (next (begin q tokens))) ≡ true
unfolding kind next
slash-text q name [] h = absurd (cc)
slash-text q name (t ∷ []) h = absurd (cc)
slash-text q name (t ∷ u ∷ []) h = absurd (cc)
slash-text q name (t ∷ u ∷ v ∷ []) h = absurd (cc)
slash-text q name (t ∷ u ∷ v ∷ w ∷ []) h = (both (same k.Slash u.kind) ((is_word v.kind && bytes_eq v.text name) && same k.Greater w.kind) h).0
slash-text q name (t ∷ u ∷ v ∷ w ∷ z ∷ ts) h = absurd (cc)

-- A word and a name in quotes

pub quotes-got : (word : Text) (tokens : List Token) (name : Name) → Begins word tokens → quoted_name tokens ≡ Some name → Quotes word name tokens
quotes-got word tokens name b h =
    let i = next (begin false tokens) in
    let g = guard (same k.Text (kind i)) (if same k.End (kind (next i)) then literal (text i) else None) name h in
    let l = guard (same k.End (kind (next i))) (literal (text i)) name g.1 in
    (b, same-is k.Text (kind i) g.0, l.1, same-is k.End (kind (next i)) l.0)

pub quotes-is : (word : Text) (tokens : List Token) (name : Name) → Quotes word name tokens → quoted_name tokens ≡ Some name
quotes-is word tokens name e =
    let i = next (begin false tokens) in
    ap (λ (b : Bool). if b then (if same k.End (kind (next i)) then literal (text i) else None) else None) (alike k.Text (kind i) e.1)
    ∙ ap (λ (b : Bool). if b then literal (text i) else None) (alike k.End (kind (next i)) e.3)
    ∙ e.2

-- Soundness, a form at a time

module _ (limit : ℕ) (q outer : Surroundings) (tokens : List Token) (t : Tag) where
  abbrev Says : Type 0
  Says = Meant limit q outer tokens t

  said : (u : Tag) → Meant limit q outer tokens u → u ≡ t → Says
  said u m e = subst (Meant limit q outer tokens) e m

  if-got : first tokens ≡ k.If → option_map (λ c. Opening (IfHead c)) (whole limit (next (begin q.in_loop tokens))) ≡ Some t → Says
  if-got e h =
      let p = mapped (λ c. Opening (IfHead c)) (whole limit (next (begin q.in_loop tokens))) t h in
      let w = whole_sound limit (next (begin q.in_loop tokens)) p.0 p.1 in
      said (Opening (IfHead p.0)) (choice e w.0, w.1) p.2

  elif-got : first tokens ≡ k.Elif → option_map (λ c. GoingOn (IfHead c)) (whole limit (next (begin outer.in_loop tokens))) ≡ Some t → Says
  elif-got e h =
      let p = mapped (λ c. GoingOn (IfHead c)) (whole limit (next (begin outer.in_loop tokens))) t h in
      let w = whole_sound limit (next (begin outer.in_loop tokens)) p.0 p.1 in
      said (GoingOn (IfHead p.0)) (elif e w.0, w.1) p.2

  for-got : first tokens ≡ k.For → (o : Parsed (Option Name × Name)) → calls (next (begin q.in_loop tokens)) ≡ o → option_map Opening (looping_by limit o) ≡ Some t → Says
  for-got e None c h = absurd (cc)
  for-got e (Some n) c h =
      let head = mapped Opening (looping_by limit (Some n)) t h in
      let p = mapped (ForHead n.0.0 n.0.1) (whole limit n.1) head.0 head.1 in
      let w = whole_sound limit n.1 p.0 p.1 in
      said (Opening (ForHead n.0.0 n.0.1 p.0)) (loop e (calls-got (next (begin q.in_loop tokens)) n.1 n.0 c) w.0, w.1) (ap Opening p.2 ∙ head.2)

  set-by-got : (is_global : Bool) → Begins (set_word is_global) tokens → kind (next (begin q.in_loop tokens)) ≡ k.Name → (s : Kind) → kind (next (next (begin q.in_loop tokens))) ≡ s
      → setting_by limit is_global (text (next (begin q.in_loop tokens))) (next (next (begin q.in_loop tokens))) s ≡ Some t → Says
  set-by-got is_global b n k.Assign f h =
      let i = next (begin q.in_loop tokens) in
      let make : Expr → Tag = λ e. Single (Set (text i) e is_global) in
      let p = mapped make (whole limit (next (next i))) t h in
      let w = whole_sound limit (next (next i)) p.0 p.1 in
      said (make p.0) (set b (n, f) w.0, omega (arith, w.1)) p.2
  set-by-got is_global b n k.End f h = said (Opening (SetHead (text (next (begin q.in_loop tokens))) NoFilters is_global)) (capture b (n, f), omega arith) (some-is _ _ h)
  set-by-got is_global b n k.Bar f h =
      let i = next (begin q.in_loop tokens) in
      let make : Filters → Tag = λ fs. Opening (SetHead (text i) fs is_global) in
      let p = mapped make (pipe limit (next (next i))) t h in
      let w = pipe_sound limit (next (next i)) p.0 p.1 in
      said (make p.0) (filtered b (n, f) w.0, w.1) p.2
  set-by-got is_global b n _ f h = absurd (cc)

  set-got : (is_global : Bool) → Begins (set_word is_global) tokens → setting limit is_global (next (begin q.in_loop tokens)) ≡ Some t → Says
  set-got is_global b h =
      let i = next (begin q.in_loop tokens) in
      let g = guard (same k.Name (kind i)) (setting_by limit is_global (text i) (next i) (kind (next i))) t h in
      set-by-got is_global b (same-is k.Name (kind i) g.0) (kind (next i)) refl g.1

  section-got : Begins (codes "filter") tokens → sectioning limit (next (begin q.in_loop tokens)) ≡ Some t → Says
  section-got b h =
      let i = next (begin q.in_loop tokens) in
      let p = mapped (λ fs. Opening (SectionHead fs)) (pipe limit i) t h in
      let w = pipe_sound limit i p.0 p.1 in
      said (Opening (SectionHead p.0)) (section b w.0, w.1) p.2

  block-got : Begins (codes "block") tokens → blocking q.may_have_blocks (next (begin q.in_loop tokens)) ≡ Some t → Says
  block-got b h =
      let i = next (begin q.in_loop tokens) in
      let u = Opening (BlockHead (text i) (span (start i) (next i))) in
      let m = guard q.may_have_blocks (block_at i) t h in
      let g = guard (is_word (kind i)) (if same k.End (kind (next i)) then Some u else None) t m.1 in
      let f = guard (same k.End (kind (next i))) (Some u) t g.1 in
      said u (block m.0 b g.0 (same-is k.End (kind (next i)) f.0), omega arith) (some-is u t f.1)

  call-got : first tokens ≡ k.Less → calling limit (begin q.in_loop tokens) ≡ Some t → Says
  call-got e h =
      let i = begin q.in_loop tokens in
      either (chosen (same k.Slash (kind (next i))) (Some Closing) (option_map Opening (called limit (start i) (next i))) (Some t) h)
      (λ c. said Closing tt (some-is Closing t c.1))
      (λ c. let p = mapped Opening (called limit (start i) (next i)) t c.1 in
      let w = called_sound limit (start i) (next i) p.0 p.1 in
      let f = w.fits in
      said (Opening (CallHead (text (next i)) w.attributes (span (start i) (next w.position)))) (call e w.word w.derived w.shut w.end, f) (ap Opening w.made ∙ p.2))

  include-got : Begins (codes "include") tokens → including (next (begin false tokens)) ≡ Some t → Says
  include-got b h =
      let i = next (begin false tokens) in
      let make : Name → Tag = λ name. Single (Include name (span (start i) (next i))) in
      let p = mapped make (quoted_name tokens) t h in
      said (make p.0) (includes (quotes-got (codes "include") tokens p.0 b p.1), omega arith) p.2

  alone-got : (s : Kind) (word : Text) (u : Tag) → first tokens ≡ s → (IsWord s word tokens → Meant limit q outer tokens u) → alone word tokens u ≡ Some t → Says
  alone-got s word u e m h =
      let g = guard (is_alone word tokens) (Some u) t h in
      said u (m (e, g.0)) (some-is u t g.1)

  leaving-got : (word : Text) (n : Node) → first tokens ≡ k.Name → (IsTrue q.may_leave → IsWord k.Name word tokens → Meant limit q outer tokens (Single n)) → leaving q.may_leave word tokens n ≡ Some t → Says
  leaving-got word n e m h =
      let g = guard q.may_leave (alone word tokens (Single n)) t h in
      alone-got k.Name word (Single n) e (m g.0) g.1

  -- what is said where a tag begins with this word, and otherwise
  word-got : (word : Text) (o p : Option Tag) → (text (begin false tokens) ≡ word → o ≡ Some t → Says) → (p ≡ Some t → Says) → (if bytes_eq (text (begin false tokens)) word then o else p) ≡ Some t → Says
  word-got word o p this other h =
      let w = text (begin false tokens) in
      either (chosen (bytes_eq w word) o p (Some t) h) (λ c. this (is-word w word c.0) c.1) (λ c. other c.1)

  named-got : first tokens ≡ k.Name → named limit q tokens (text (begin false tokens)) ≡ Some t → Says
  unfolding named
  named-got e =
      word-got (codes "set") _ _ (λ w. set-got false (e, w)) (
      word-got (codes "set_global") _ _ (λ w. set-got true (e, w)) (
      word-got (codes "filter") _ _ (λ w. section-got (e, w)) (
      word-got (codes "block") _ _ (λ w. block-got (e, w)) (
      word-got (codes "component") _ _ (λ w h. absurd (cc)) (
      word-got (codes "include") _ _ (λ w. include-got (e, w)) (
      word-got (codes "break") _ _ (λ w. leaving-got (codes "break") Break e (λ l w. (breaks l w, omega arith))) (
      word-got (codes "continue") _ _ (λ w. leaving-got (codes "continue") Continue e (λ l w. (continues l w, omega arith)))
      (λ h. said Closing tt (some-is Closing t h)))))))))

  tag-by-got : (s : Kind) → first tokens ≡ s → tag_by limit q outer tokens s ≡ Some t → Says
  tag-by-got k.If e h = if-got e h
  tag-by-got k.Elif e h = elif-got e h
  tag-by-got k.For e h = for-got e (calls (next (begin q.in_loop tokens))) refl h
  tag-by-got k.Else e h = alone-got k.Else (codes "else") Dividing e (λ w. w) h
  tag-by-got k.Less e h = call-got e h
  tag-by-got k.Name e h = named-got e h
  tag-by-got _ e h = absurd (cc)

pub tag_sound : (limit : ℕ) (q outer : Surroundings) (tokens : List Token) (t : Tag) → tag limit q outer tokens ≡ Some t → Meant limit q outer tokens t
unfolding tag
tag_sound limit q outer tokens t h = tag-by-got limit q outer tokens t (first tokens) refl h

-- Completeness, a form at a time

module _ (limit : ℕ) (q outer : Surroundings) (tokens : List Token) where
  -- the reading of a tag by its first kind, and by its first word
  by-kind : (s : Kind) → first tokens ≡ s → tag limit q outer tokens ≡ tag_by limit q outer tokens s
  unfolding tag
  by-kind s e = ap (tag_by limit q outer tokens) e

  by-word : (word : Text) → Begins word tokens → tag limit q outer tokens ≡ named limit q tokens word
  by-word word b = by-kind k.Name b.0 ∙ ap (named limit q tokens) b.1

  name-stands : (i : Input) → kind i ≡ k.Name → (A : Option Tag) → (if same k.Name (kind i) then A else None) ≡ A
  name-stands i e A = ap (λ (b : Bool). if b then A else None) (ap (same k.Name) e ∙ same-refl k.Name)

  set-named : (is_global : Bool) → named limit q tokens (set_word is_global) ≡ setting limit is_global (next (begin q.in_loop tokens))
  unfolding named
  set-named true = refl
  set-named false = refl

  -- behind the word and a name, by what follows
  set-by : (is_global : Bool) (s : Kind) → Begins (set_word is_global) tokens → Names (next (begin q.in_loop tokens)) s
      → tag limit q outer tokens ≡ setting_by limit is_global (text (next (begin q.in_loop tokens))) (next (next (begin q.in_loop tokens))) s
  set-by is_global s b n =
      let i = next (begin q.in_loop tokens) in
      by-word (set_word is_global) b
      ∙ set-named is_global
      ∙ name-stands i n.0 (setting_by limit is_global (text i) (next i) (kind (next i)))
      ∙ ap (setting_by limit is_global (text i) (next i)) n.1

  set-read : {is_global : Bool} (e : Expr) → Begins (set_word is_global) tokens → Names (next (begin q.in_loop tokens)) k.Assign → DerivesWhole e (next (next (next (begin q.in_loop tokens)))) → depth e ≤ limit
      → tag limit q outer tokens ≡ Some (Single (Set (text (next (begin q.in_loop tokens))) e is_global))
  set-read {is_global = is_global} e b n w le = set-by is_global k.Assign b n ∙ ap (option_map (λ e. Single (Set (text (next (begin q.in_loop tokens))) e is_global))) (whole_complete w limit le)

  filtered-read : {is_global : Bool} {fs : Filters} → Begins (set_word is_global) tokens → Names (next (begin q.in_loop tokens)) k.Bar → DerivesPipe fs (next (next (next (begin q.in_loop tokens)))) → filters_depth fs ≤ limit
      → tag limit q outer tokens ≡ Some (Opening (SetHead (text (next (begin q.in_loop tokens))) fs is_global))
  filtered-read {is_global = is_global} b n w le = set-by is_global k.Bar b n ∙ ap (option_map (λ fs. Opening (SetHead (text (next (begin q.in_loop tokens))) fs is_global))) (pipe_complete w limit le)

  section-read : {fs : Filters} → Begins (codes "filter") tokens → DerivesPipe fs (next (begin q.in_loop tokens)) → filters_depth fs ≤ limit → tag limit q outer tokens ≡ Some (Opening (SectionHead fs))
  unfolding named
  section-read b w le = by-word (codes "filter") b ∙ ap (option_map (λ fs. Opening (SectionHead fs))) (pipe_complete w limit le)

  block-read : IsTrue q.may_have_blocks → Begins (codes "block") tokens → is_word (kind (next (begin q.in_loop tokens))) ≡ true → kind (next (next (begin q.in_loop tokens))) ≡ k.End
      → tag limit q outer tokens ≡ Some (Opening (BlockHead (text (next (begin q.in_loop tokens))) (span (start (next (begin q.in_loop tokens))) (next (next (begin q.in_loop tokens))))))
  unfolding named
  block-read m b w n =
      let i = next (begin q.in_loop tokens) in
      let u = Some (Opening (BlockHead (text i) (span (start i) (next i)))) in
      by-word (codes "block") b
      ∙ ap (λ (b : Bool). if b then block_at i else None) m
      ∙ ap (λ (b : Bool). if b then (if same k.End (kind (next i)) then u else None) else None) w
      ∙ ap (λ (b : Bool). if b then u else None) (ap (same k.End) n ∙ same-refl k.End)

  -- a word is no slash
  no-slash : (i : Input) → is_word (kind i) ≡ true → same k.Slash (kind i) ≡ false
  unfolding is_word
  no-slash i h = unlike k.Slash (kind i) (λ e. let f : is_word k.Slash ≡ true = ap is_word (sym e) ∙ h in cc)

  call-read : {xs : Entries} {a : Input} → first tokens ≡ k.Less → is_word (kind (next (begin q.in_loop tokens))) ≡ true → DerivesAttributes xs (next (next (begin q.in_loop tokens))) a → kind a ≡ k.Greater
      → kind (next a) ≡ k.End → entries_depth xs ≤ limit
      → tag limit q outer tokens ≡ Some (Opening (CallHead (text (next (begin q.in_loop tokens))) xs (span (start (begin q.in_loop tokens)) (next a))))
  call-read {xs = xs} {a = a} e w d g f le =
      let i = begin q.in_loop tokens in
      by-kind k.Less e
      ∙ ap (λ (b : Bool). if b then Some Closing else option_map Opening (called limit (start i) (next i))) (no-slash (next i) w)
      ∙ ap (option_map Opening) (called_complete limit (start i) (next i) a xs w d g f le)

  include-read : {name : Name} → Quotes (codes "include") name tokens
      → tag limit q outer tokens ≡ Some (Single (Include name (span (start (next (begin false tokens))) (next (next (begin false tokens))))))
  unfolding named
  include-read {name = name} w =
      let i = next (begin false tokens) in
      by-word (codes "include") w.0
      ∙ ap (option_map (λ name. Single (Include name (span (start i) (next i))))) (quotes-is (codes "include") tokens name w)

  alone-is : (word : Text) (u : Tag) → IsTrue (is_alone word tokens) → alone word tokens u ≡ Some u
  alone-is word u h = ap (λ (b : Bool). if b then Some u else None) h

  leaving-is : (word : Text) (n : Node) → IsTrue q.may_leave → IsTrue (is_alone word tokens) → leaving q.may_leave word tokens n ≡ Some (Single n)
  leaving-is word n l h = ap (λ (b : Bool). if b then alone word tokens (Single n) else None) l ∙ alone-is word (Single n) h

  pub simple_read : {node : Node} → Simple q node tokens → node_depth node ≤ suc limit → tag limit q outer tokens ≡ Some (Single node)
  unfolding named
  simple_read (set {e = e} b n w) le = set-read e b n w (omega (arith, le))
  simple_read (includes w) le = include-read w
  simple_read (breaks l w) le = by-word (codes "break") (w.0, alone-text (codes "break") tokens w.1) ∙ leaving-is (codes "break") Break l w.1
  simple_read (continues l w) le = by-word (codes "continue") (w.0, alone-text (codes "continue") tokens w.1) ∙ leaving-is (codes "continue") Continue l w.1

  pub opens_read : {head : Head} → Opens q head tokens → head_depth head ≤ limit → tag limit q outer tokens ≡ Some (Opening head)
  opens_read (choice e w) le = by-kind k.If e ∙ ap (option_map (λ c. Opening (IfHead c))) (whole_complete w limit le)
  opens_read (loop {key = key} {name = name} f c w) le =
      by-kind k.For f
      ∙ ap (λ o. option_map Opening (looping_by limit o)) (calls-is c)
      ∙ ap (λ o. option_map Opening (option_map (ForHead key name) o)) (whole_complete w limit le)
  opens_read (capture {is_global = is_global} b n) le = set-by is_global k.End b n
  opens_read (filtered b n w) le = filtered-read b n w le
  opens_read (section b w) le = section-read b w le
  opens_read (block m b w n) le = block-read m b w n
  opens_read (call e w d g f) le = call-read e w d g f le

  pub goes_on_read : {head : Head} → GoesOn outer head tokens → head_depth head ≤ limit → tag limit q outer tokens ≡ Some (GoingOn head)
  goes_on_read (elif e w) le = by-kind k.Elif e ∙ ap (option_map (λ c. GoingOn (IfHead c))) (whole_complete w limit le)

  pub else_read : IsWord k.Else (codes "else") tokens → tag limit q outer tokens ≡ Some Dividing
  else_read w = by-kind k.Else w.0 ∙ alone-is (codes "else") Dividing w.1

  -- the word of an end is no other statement's
  by-end : first tokens ≡ k.Name → (word : Text) → named limit q tokens word ≡ Some Closing → is_alone word tokens ≡ true → tag limit q outer tokens ≡ Some Closing
  by-end e word free h = by-word word (e, alone-text word tokens h) ∙ free

  set-end : first tokens ≡ k.Name → (is_global b : Bool) → is_alone (codes "endset") tokens ≡ b → (b || (is_global && is_alone (codes "endset_global") tokens)) ≡ true → tag limit q outer tokens ≡ Some Closing
  unfolding named
  set-end e is_global true f h = by-end e (codes "endset") refl f
  set-end e is_global false f h = by-end e (codes "endset_global") refl (both is_global (is_alone (codes "endset_global") tokens) h).1

  -- behind the word a name may stand
  named-end : first tokens ≡ k.Name → (word name : Text) → named limit q tokens word ≡ Some Closing → (b : Bool) → is_alone word tokens ≡ b → (b || is_named word name tokens) ≡ true → tag limit q outer tokens ≡ Some Closing
  named-end e word name free true f h = by-end e word free f
  named-end e word name free false f h = by-word word (e, named-text word name tokens h) ∙ free

  end-read : (head : Head) → first tokens ≡ end_kind head → is_end head tokens ≡ true → tag limit q outer tokens ≡ Some Closing
  unfolding named
  end-read (IfHead c) e h = by-end e (codes "endif") refl h
  end-read (ForHead key n c) e h = by-end e (codes "endfor") refl h
  end-read (SetHead n fs is_global) e h = set-end e is_global (is_alone (codes "endset") tokens) refl h
  end-read (SectionHead fs) e h = by-end e (codes "endfilter") refl h
  end-read (BlockHead n position) e h = named-end e (codes "endblock") n refl (is_alone (codes "endblock") tokens) refl h
  end-read (CallHead n all position) e h = by-kind k.Less e ∙ ap (λ (b : Bool). if b then Some Closing else option_map Opening (called limit (start (begin q.in_loop tokens)) (next (begin q.in_loop tokens)))) (slash-text q.in_loop n tokens h)

  pub extends_read : Begins (codes "extends") tokens → tag limit q outer tokens ≡ Some Closing
  unfolding named
  extends_read b = by-word (codes "extends") b

  -- a component is defined outside of all statements
  pub component_unread : Begins (codes "component") tokens → tag limit q outer tokens ≡ None
  unfolding named
  component_unread b = by-word (codes "component") b

  pub component_end_read : (name : Name) → IsTrue (ends_component name tokens) → tag limit q outer tokens ≡ Some Closing
  unfolding named
  component_end_read name h =
      let p = both (same k.Name (first tokens)) (is_alone (codes "endcomponent") tokens || is_named (codes "endcomponent") name tokens) h in
      named-end (same-is k.Name (first tokens) p.0) (codes "endcomponent") name refl (is_alone (codes "endcomponent") tokens) refl p.1

  pub ends_read : (head : Head) → IsTrue (ends head tokens) → tag limit q outer tokens ≡ Some Closing
  ends_read head h =
      let p = both (same (end_kind head) (first tokens)) (is_end head tokens) h in
      end-read head (same-is (end_kind head) (first tokens) p.0) p.1
