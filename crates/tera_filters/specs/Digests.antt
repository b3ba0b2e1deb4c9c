-- Digests of texts, in hex.
use Rattle.std.specs.Prelude.{Result}
use Rattle.md5.specs.Md5.{md5}
use Rattle.sha2.specs.Sha256.{sha256}
use Rattle.hex.specs.Hex.{encode_lower}
use Rattle.tera_errors.specs.Fault.{Fault}
use Rattle.tera_values.specs.Val.{Val}
use Rattle.tera_filters.specs.Texts.{with_its_mark}

abbrev pub sha256_of : Val → Result Val Fault
sha256_of = with_its_mark (λ t. encode_lower (sha256 t))

abbrev pub md5_of : Val → Result Val Fault
md5_of = with_its_mark (λ t. encode_lower (md5 t))
