-- Values as texts that are safe, or are not.
use Rattle.std.proofs.Common.{◌≡◌, ℕ, Bool, true, false, List, [], ◌∷◌, if◌then◌else◌, Ok, Err}
use Rattle.tera_errors.specs.Fault.{invalid_argument}
use Rattle.tera_values.specs.Access.{is_undefined, is_safe}
use Rattle.tera_values.specs.Alphabet.{Marked, plain, marking, marked_safe}
use Rattle.tera_values.specs.Escape.{escape_html}
use Rattle.tera_values.specs.Val.{ValOf, text}
use Rattle.tera_built_ins.specs.Escaping.{Escaping}
use Rattle.tera_built_ins.specs.Safety as of
use Rattle.tera_meaning.proofs.Marks.Claim.{Claim, TextHolds}
use Rattle.tera_meaning.proofs.Marks.Each.{Each}
use Rattle.tera_meaning.proofs.Marks.Standing.{Bears, Stands, texts, seen-is, lowered, bearing-each, printed-each, ResultStands, answers, refuses}
use Rattle.tera_meaning.proofs.Marks.Moving.{undefined-same, safe-same}
use Rattle.tera_meaning.proofs.Marks.Given.{after-stands, as_text-stands}
use Rattle.tera_meaning.proofs.Marks.Parts.{part-each}

-- where the claim holds of any byte that is marked safe
every-holds : (K : Claim) → ((b : ℕ) → K.holds (b, marked_safe)) → (u : List ℕ) → TextHolds K marked_safe u
every-holds K h [] = tt
every-holds K h (b ∷ u) = (h b, every-holds K h u)

module _ {K : Claim} where
  -- a text that is trusted keeps its marks where it was safe, and is marked safe where it was not
  trusted-each : ((b : ℕ) → K.holds (b, marked_safe)) → (safe : Bool) {t : List Marked} {u : List ℕ} → Each (Bears K safe) t u → Each (Bears K true) (marking.trusted safe t) (plain.trusted safe u)
  trusted-each h true rs = rs
  trusted-each h false {u = u} rs = rw (seen-is false rs) (bearing-each marked_safe u (every-holds K h u))

  pub safe-stands : ((b : ℕ) → K.holds (b, marked_safe)) → {v : ValOf Marked} {w : ValOf ℕ} → Stands K v w → ResultStands (Stands K) (of.safe_of marking v) (of.safe_of plain w)
  safe-stands h {v} {w} s = rw (undefined-same s) (rw (safe-same s) (go (is_undefined w) (trusted-each h (is_safe w) (printed-each s))))
    where
      go : (none : Bool) {t : List Marked} {u : List ℕ} → Each (Bears K true) t u → ResultStands (Stands K) (if none then Err invalid_argument else Ok (text t true)) (if none then Err invalid_argument else Ok (text u true))
      go true rs = refuses invalid_argument
      go false rs = answers (texts true rs)

  pub escape-stands : (view : Escaping) → view.escape ≡ escape_html → {v : ValOf Marked} {w : ValOf ℕ} → Stands K v w → ResultStands (Stands K) (of.escape_of marking view v) (of.escape_of plain view w)
  escape-stands view by_html s = after-stands (as_text-stands s) (λ g h k. answers (texts true (part-each view by_html true k)))

  pub str-stands : {v : ValOf Marked} {w : ValOf ℕ} → Stands K v w → ResultStands (Stands K) (of.str_of marking v) (of.str_of plain w)
  str-stands {w = w} s = answers (texts false (lowered (is_safe w) (printed-each s)))
