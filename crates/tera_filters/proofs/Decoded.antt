-- Bytes as a text, or why they are none.
use Rattle.std.proofs.Common.{◌≡◌, ℕ, Bool, true, false, cond, List, Ok, Err, ap}
use Rattle.std.specs.Prelude.{Result}
use Rattle.std.specs.Str.{IsUtf8, is_utf8}
use Rattle.std.proofs.lemmas.Bool.{false_from_ne_true}
use Rattle.std.proofs.lemmas.Str.{IsUtf8-from_is_utf8, is_utf8-from_IsUtf8}
use Rattle.tera_errors.specs.Fault.{Fault, message}
use Rattle.tera_values.specs.Val.{Val, text}
use Rattle.tera_filters.specs.Base64Texts.{unsafe_text}

abbrev by : List ℕ → Bool → Result Val Fault
by t b = cond b (Ok (text t false)) (Err message)

pub unsafe_text-utf8 : (t : List ℕ) → IsUtf8 t → unsafe_text t ≡ Ok (text t false)
unsafe_text-utf8 t utf8 = ap (by t) (is_utf8-from_IsUtf8 t utf8)

never : false ≡ true → ⊥
never e = cc

pub unsafe_text-refused : (t : List ℕ) → (IsUtf8 t → false ≡ true) → unsafe_text t ≡ Err message
unsafe_text-refused t refused = ap (by t) (false_from_ne_true (is_utf8 t) (λ e. never (refused (IsUtf8-from_is_utf8 t e))))
