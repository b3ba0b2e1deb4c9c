-- What a replacement writes depends only on what a caller sees of the matches.
use Rattle.std.proofs.Common.{◌≡◌, ℕ, ◌+◌, ◌*◌, ◌<◌, ◌==◌, cond, true, Some, Option, List, [], ◌∷◌, ◌++◌, map, drop, get_or, slice_range, refl, sym, ap, ◌∙◌}
use Rattle.regex_syntax.specs.Captures.{SameCaptures}
use Rattle.regex_syntax.specs.Grammar.{Names}
use Rattle.regex.specs.Patterns.{Re, Match, find_all_str}
use Rattle.regex.specs.Replace.{bytes_of, replaced_by}
use Rattle.regex.specs.Templates.{written_after}
use Rattle.regex.specs.Writes.{both}
use Rattle.regex.proofs.ForCallers.{spans, find_all_alike}
use Rattle.tera_errors.specs.Site.{Text}
use Rattle.tera_filters.specs.Patterns.{replaced}

abbrev Seen : Type 0
Seen = ℕ × ℕ × (ℕ → Option ℕ)

module _ (names : Names) (rep hay : Text) where
  abbrev group_seen : Seen → ℕ → Text
  group_seen s n = bytes_of hay (cond (n == 0) (Some (s.0, s.1)) (both (s.2 (2 * n)) (s.2 (2 * n + 1))))

  abbrev written_seen : Seen → Text
  written_seen s = written_after names (group_seen s) rep 0

  abbrev replaced_seen : ℕ → List Seen → Text
  replaced_seen at [] = drop at hay
  replaced_seen at (s ∷ ss) = (slice_range hay at s.0 ++ written_seen s) ++ replaced_seen s.1 ss

  replaced-seen : (at : ℕ) (ms : List Match) → replaced_by (λ m. written_seen (spans m)) hay at ms ≡ replaced_seen at (map spans ms)
  unfolding replaced_by
  replaced-seen at [] = refl
  replaced-seen at (m ∷ ms) =
      ap (λ rest. (slice_range hay at m.start ++ written_seen (spans m)) ++ rest) (replaced-seen m.trace.end ms)

  pub replaced_alike : {a b : Re} → SameCaptures a b → ((k : ℕ) → get_or hay k 0 < 256) →
      replaced (a, names) rep hay ≡ replaced (b, names) rep hay
  replaced_alike {a} {b} same bytes =
      replaced-seen 0 (find_all_str a hay) ∙ ap (replaced_seen 0) (find_all_alike same hay bytes true)
      ∙ sym (replaced-seen 0 (find_all_str b hay))
