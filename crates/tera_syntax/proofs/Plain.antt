-- What is refused, and what never is.
use Rattle.std.proofs.Common.{max, ◌≡◌, ℕ, suc, ◌+◌, ◌-◌, ◌<◌, ◌≤◌, [], ◌∷◌, Bool, true, false, length, drop, is_some, Option, Some, None, Result, Err, IsTrue, refl, ap, sym, ◌∙◌, subst, arith}
use Rattle.std.proofs.lemmas.List.{drop_all}
use Rattle.tera_errors.specs.Site.{Text, Name}
use Rattle.tera_errors.specs.Fault.{Fault}
use Rattle.tera_errors.specs.Answer.{SeenError, Tells, SaysOneOf}
use Rattle.tera_errors.specs.declared.span.Span.{Span}
use Rattle.tera_syntax_tokens.specs.Answers.{IsSyntax, Refuses}
use Rattle.tera_syntax_tokens.specs.declared.refusal.Refusal as reader
use Rattle.tera_syntax_tokens.specs.declared.refusal.Refusal.TheVariants.{Syntax, OutOfMemory}
use Rattle.tera_syntax_tokens.specs.Bytes.{position}
use Rattle.tera_syntax_tokens.specs.Cut.{Piece, Words, FoundPiece, words, trims_before, opening_at, opens, piece, cut, pieces}
use Rattle.tera_syntax_tree.specs.Delimiters.{Delims}
use Rattle.tera_syntax_tree.specs.Depth.{tree_depth, max_tree_depth}
use Rattle.tera_syntax.specs.File.{spelled, file}
use Rattle.tera_syntax.specs.Reads.{SpellsNone}
use Rattle.tera_syntax.specs.Spells.{Spells}
use Rattle.tera_syntax_tree.specs.Tree.{Tree, NoNodes}
use Rattle.tera_syntax_tokens.proofs.Positions.{by_order, position_le, position_here, position_passes}
use Rattle.tera_syntax_tokens.proofs.Cuts.{cut_step, cut_nothing}
use Rattle.tera_syntax.proofs.Extending.{spelled_complete, file_complete}

-- what an error that tells a fault says
pub says_one : {Y : Type 0} (r : SeenError) (told : Fault) (Meant : Result Y Fault → Type 0) → Tells r told → Meant (Err told) → SaysOneOf r Meant
says_one None told Meant e m = tt
says_one (Some fault) told Meant e m = let P : Fault → Type 0 = λ f. Meant (Err f) in subst P (sym e) m

pub refused_by : {Y : Type 0} (meant : Option Y) (why : _) (at : Span) (r : reader.Refusal) → r ≡ Syntax why at → Refuses meant r → meant ≡ None
refused_by meant why at r e h = let P : reader.Refusal → Type 0 = Refuses meant in subst P e h

-- where nothing is meant, any refusal will do
pub refused_any : {Y : Type 0} (meant : Option Y) (r : reader.Refusal) → meant ≡ None → Refuses meant r
refused_any meant (Syntax why at) e = e
refused_any meant OutOfMemory e = tt

-- what is refused for one reason may be refused for another, and for want of memory at any time
pub refused_too : {Y : Type 0} (meant : Option Y) (r s : reader.Refusal) → (IsSyntax s → IsSyntax r) → Refuses meant r → Refuses meant s
refused_too meant (Syntax why at) (Syntax other position) h e = e
refused_too meant OutOfMemory (Syntax other position) h e = absurd (h tt)
refused_too meant (Syntax why at) OutOfMemory h e = tt
refused_too meant OutOfMemory OutOfMemory h e = tt

pub spells_none : (name : Name) (d : Delims) (text : Text) → file max_tree_depth (pieces d text) ≡ None → SpellsNone name d text
spells_none name d text h tree flat spells = let e = file_complete max_tree_depth tree spells (omega arith) flat.0 (flat.2, flat.4) in absurd (cc)

words_read : (words : Text) (at : Span) → (n : Tree) × (file max_tree_depth (Words words at ∷ []) ≡ Some n)
words_read [] at = (_, refl)
words_read (b ∷ bs) at = (_, refl)

abbrev IsWords : Piece → Type 0
IsWords (Words text at) = Unit {0}
IsWords _ = ⊥

piece_read : (p : Piece) → IsWords p → (n : Tree) × (file max_tree_depth (p ∷ []) ≡ Some n)
piece_read (Words text at) h = words_read text at
piece_read _ h = absurd h

unopened : (d : Delims) (text : Text) → is_some (opening_at d text) ≡ false → opening_at d text ≡ None
unopened d text h = go (opening_at d text) h
  where
    go : {A : Type 0} (o : Option A) → is_some o ≡ false → o ≡ None
    go None e = refl
    go (Some x) e = absurd (cc)

abbrev all_words : Delims → Text → FoundPiece
all_words d text = let n = position (opens d) text in
    record { piece = words false (trims_before (drop n text) (opening_at d (drop n text))) n 0 text; next = 0 + n; trims = false }

first_words : (d : Delims) (text : Text) → opening_at d text ≡ None → piece d false 0 text ≡ Some (all_words d text)
unfolding piece
first_words d text h = rw h refl

-- a text in which no start delimiter begins is read
one_piece : (d : Delims) (text : Text) → opening_at d text ≡ None → 0 < length text → position (opens d) text ≡ length text
    → cut d false 0 0 text ≡ (all_words d text).piece ∷ []
one_piece d text o l e =
    let n : 0 < (all_words d text).next = omega arith in
    let k : length text ≤ (all_words d text).next - 0 = omega arith in
    let r : drop ((all_words d text).next - 0) text ≡ [] = drop_all ((all_words d text).next - 0) text k in
    cut_step d false 0 text (all_words d text) l (first_words d text o) n
    ∙ ap (λ rest. (all_words d text).piece ∷ cut d false 0 (all_words d text).next rest) r
    ∙ ap (λ rest. (all_words d text).piece ∷ rest) (cut_nothing d false (all_words d text).next [] refl)

unread_by : (q : Bool) (d : Delims) (text : Text) → opens d text ≡ q → 0 < length text → position (opens d) text ≡ length text → file max_tree_depth (pieces d text) ≡ None → ⊥
unread_by true d text o l e h = let z = position_here (opens d) 0 text l o in absurd (omega arith)
unread_by false d text o l e h =
    let p = one_piece d text (unopened d text o) l e in
    let w = piece_read (all_words d text).piece tt in
    let f : file max_tree_depth (pieces d text) ≡ Some w.0 = ap (file max_tree_depth) p ∙ w.1 in cc

unread_opens : (d : Delims) (text : Text) → position (opens d) text ≡ length text → file max_tree_depth (pieces d text) ≡ None → ⊥
unread_opens d [] e h = let f : file max_tree_depth (pieces d []) ≡ Some (record { parent = None; nodes = NoNodes; definitions = [] }) = ap (file max_tree_depth) (cut_nothing d false 0 [] refl) in cc
unread_opens d (b ∷ bs) e h = unread_by (opens d (b ∷ bs)) d (b ∷ bs) refl (omega arith) e h

pub plain : (d : Delims) (text : Text) → file max_tree_depth (pieces d text) ≡ None → (at : ℕ) × IsTrue (opens d (drop at text))
plain d text h =
    let m = position_le (opens d) text in
    by_order (position (opens d) text) (length text)
    (λ l. (position (opens d) text, position_passes (opens d) text l))
    (λ l. absurd (unread_opens d text (omega arith) h))

-- a text spells one tree at most
pub one_tree : (name : Name) (d : Delims) (text : Text) (one other : Tree) → Spells name d text one → Spells name d text other → one ≡ other
one_tree name d text one other h k =
    let m = suc (max (tree_depth one) (tree_depth other)) in
    let a : spelled m (pieces d text) ≡ Some one = spelled_complete m h (omega arith) (omega arith) in
    let b : spelled m (pieces d text) ≡ Some other = spelled_complete m k (omega arith) (omega arith) in
    let e : Some one ≡ Some other = sym a ∙ b in cc
