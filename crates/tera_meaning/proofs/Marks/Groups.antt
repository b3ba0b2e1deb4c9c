-- Items by an attribute, at marked characters.
use Rattle.std.proofs.Common.{◌≡◌, ℕ, codes, List, [], ◌∷◌, map, Option, Some, None, Result, Ok, Err, refl, ap}
use Rattle.std.specs.List.{filter, filter_map}
use Rattle.tera_errors.specs.Fault.{Fault}
use Rattle.tera_errors.specs.Site.{Text}
use Rattle.tera_values.specs.Access.{key_eq}
use Rattle.tera_values.specs.Alphabet.{Marked, plain, marking}
use Rattle.tera_values.specs.Named.{Named}
use Rattle.tera_values.specs.Val.{ValOf, KeyVal, array, vals}
use Rattle.tera_built_ins.specs.Arguments.{◌▸◌, GivenOf}
use Rattle.tera_built_ins.specs.Attributes.{all_of}
use Rattle.tera_built_ins.specs.Groups as of
use Rattle.tera_built_ins.specs.Sorting.{firsts}
use Rattle.tera_meaning.proofs.Marks.Claim.{Claim}
use Rattle.tera_meaning.proofs.Marks.Each.{Each, none, more, one_of-two, each-map}
use Rattle.tera_meaning.proofs.Marks.Standing.{Stands, arrays, maps, no_pairs, seen-is, bare-is, OptionStands, no_value, value, ResultStands, answers, refuses}
use Rattle.tera_meaning.proofs.Marks.Moving.{Pair, all-stand, entries-stand}
use Rattle.tera_meaning.proofs.Marks.Given.{NamedStand, GivenStands, given_texts, after-stands, as_array-stands, as_text-stands, needed-stands}
use Rattle.tera_meaning.proofs.Marks.Sorting.{all_of-stands}

module _ {K : Claim} where
  keyed-stands : (path : Text) {v : ValOf Marked} {w : ValOf ℕ} → Stands K v w → ResultStands (OptionStands (Pair K)) (of.keyed_by marking path v) (of.keyed_by plain path w)
  keyed-stands path {v} {w} s = rw (bare-is s) (go (of.attribute_key path w))
    where
      go : (r : Result (Option KeyVal) Fault) → ResultStands (OptionStands (Pair K)) (r ▸ λ k. Ok (of.at_key v k)) (r ▸ λ k. Ok (of.at_key w k))
      go (Ok None) = answers no_value
      go (Ok (Some k)) = answers (value (refl, s))
      go (Err fault) = refuses fault

  there-stand : {es : List (Option (KeyVal × ValOf Marked))} {fs : List (Option (KeyVal × ValOf ℕ))} → Each (OptionStands (Pair K)) es fs → Each (Pair K) (filter_map (λ e. e) es) (filter_map (λ e. e) fs)
  there-stand none = none
  there-stand (more no_value ss) = there-stand ss
  there-stand (more (value s) ss) = more s (there-stand ss)

  keys-same : {es : List (KeyVal × ValOf Marked)} {fs : List (KeyVal × ValOf ℕ)} → Each (Pair K) es fs → map (λ e. e.0) es ≡ map (λ e. e.0) fs
  keys-same none = refl
  keys-same (more s ss) = rw s.0 (rw (keys-same ss) refl)

  filtered-stand : (k : KeyVal) {es : List (KeyVal × ValOf Marked)} {fs : List (KeyVal × ValOf ℕ)} → Each (Pair K) es fs → Each (Pair K) (filter (λ e. key_eq k e.0) es) (filter (λ e. key_eq k e.0) fs)
  filtered-stand k none = none
  filtered-stand k (more {x = e} {y = f} s ss) = one_of-two (Each (Pair K)) (key_eq k e.0) (key_eq k f.0) (ap (key_eq k) s.0) (more s (filtered-stand k ss)) (filtered-stand k ss)

  group_arrays-stand : {es : List (KeyVal × ValOf Marked)} {fs : List (KeyVal × ValOf ℕ)} → Each (Pair K) es fs → (ks : List KeyVal) → Each (Pair K)
      (map (λ (g : KeyVal × List (ValOf Marked)). (g.0, array (vals g.1))) (map (λ k. (k, of.items_at k es)) ks)) (map (λ (g : KeyVal × List (ValOf ℕ)). (g.0, array (vals g.1))) (map (λ k. (k, of.items_at k fs)) ks))
  group_arrays-stand ss [] = none
  group_arrays-stand ss (k ∷ ks) = more (refl, arrays (all-stand (each-map _ _ (λ e f s. s.1) (filtered-stand k ss)))) (group_arrays-stand ss ks)

  groups-stand : {es : List (KeyVal × ValOf Marked)} {fs : List (KeyVal × ValOf ℕ)} → Each (Pair K) es fs → Stands K (of.group_arrays (of.groups es)) (of.group_arrays (of.groups fs))
  groups-stand {fs = fs} ss = rw (keys-same ss) (maps (entries-stand (group_arrays-stand ss (firsts key_eq (map (λ e. e.0) fs)))))

  by-stands : {a : GivenOf Marked} {b : GivenOf ℕ} → GivenStands K a b → {vs : List (ValOf Marked)} {ws : List (ValOf ℕ)} → Each (Stands K) vs ws
      → ResultStands (Stands K) (all_of (of.keyed_by marking (marking.seen a.text)) vs ▸ λ keyed. Ok (of.group_arrays (of.groups (filter_map (λ e. e) keyed))))
      (all_of (of.keyed_by plain b.text) ws ▸ λ keyed. Ok (of.group_arrays (of.groups (filter_map (λ e. e) keyed))))
  by-stands (given_texts safe {u = u} rs) ss =
      rw (seen-is safe rs) (after-stands (all_of-stands (λ v w. keyed-stands u) ss) (λ es fs ts. answers (groups-stand (there-stand ts))))

  grouped_items-stands : {vs : List (ValOf Marked)} {ws : List (ValOf ℕ)} → Each (Stands K) vs ws → {given : Named (ValOf Marked)} {others : Named (ValOf ℕ)} → NamedStand K given others → ResultStands (Stands K) (of.grouped_items marking given vs) (of.grouped_items plain others ws)
  grouped_items-stands none ns = answers (maps no_pairs)
  grouped_items-stands (more s ss) ns = after-stands (needed-stands (λ v w. as_text-stands) (codes "attribute") ns) (λ a b k. by-stands k (more s ss))

  pub group_by-stands : {v : ValOf Marked} {w : ValOf ℕ} → Stands K v w → {given : Named (ValOf Marked)} {others : Named (ValOf ℕ)} → NamedStand K given others → ResultStands (Stands K) (of.group_by_of marking v given) (of.group_by_of plain w others)
  group_by-stands s ns = after-stands (as_array-stands s) (λ vs ws ss. grouped_items-stands ss ns)
