use Rattle.std.proofs.Common.{◌≡◌, ◌∷◌, drop}
use Rattle.json.specs.Token.{begin_array}
use Rattle.tera_filters.specs.JsonTexts.{byte_tokens}
use Rattle.tera_filters.specs.Sheets.{page_of, with_tokens}
use Rattle.tera_filters.proofs.json_texts.put_bytes.Given as goal

abbrev pub invariant-loop-byte : goal.invariant-loop-byte
invariant-loop-byte l =
    with_tokens (page_of l.out) (byte_tokens (drop l.byte-index l.content)) ≡ with_tokens (page_of l.fn.out) (begin_array ∷ byte_tokens l.content)
