-- Words that begin a statement.
use Rattle.std.proofs.Common.{◌≡◌, ℕ, List, Bool, true, false, Some, length, get_or, bytes_eq, codes, refl, sym, ap, ◌∙◌}
use Rattle.std.proofs.lemmas.Slice.Eq.{bytes_eq-Decides}
use Rattle.tera_errors.specs.Site.{Text}
use Rattle.tera_syntax_tokens.specs.Token.{Token}
use Rattle.tera_syntax.specs.declared.heads.Surroundings.{Surroundings}
use Rattle.tera_syntax.specs.Reader.{Closing, may_begin, named}

abbrev pub hint : Text → Bool
hint word = may_begin (get_or word 0 0) (length word)

unlike : (word other : Text) → hint word ≡ false → hint other ≡ true → bytes_eq word other ≡ false
unlike word other h o = go (bytes_eq word other) (bytes_eq-Decides word other).0
  where
    go : (q : Bool) → (q ≡ true → word ≡ other) → q ≡ false
    go true same = let e : false ≡ true = sym h ∙ ap hint (same refl) ∙ o in absurd (cc)
    go false same = refl

-- a word that doesn't begin as those that begin a statement do, or is not as long, is none of them
pub none_begun : (limit : ℕ) (q : Surroundings) (tokens : List Token) (word : Text) → hint word ≡ false → named limit q tokens word ≡ Some Closing
unfolding named
none_begun limit q tokens word h =
    rw (
      unlike word (codes "set") h refl,
      unlike word (codes "set_global") h refl,
      unlike word (codes "filter") h refl,
      unlike word (codes "block") h refl,
      unlike word (codes "component") h refl,
      unlike word (codes "include") h refl,
      unlike word (codes "break") h refl,
      unlike word (codes "continue") h refl,
    ) refl
