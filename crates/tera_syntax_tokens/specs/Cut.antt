-- How a text is cut: into pieces of text, comments and tags.
use Rattle.std.specs.Prelude.{◌≡◌, ℕ, zero, suc, ◌+◌, ◌-◌, List, [], ◌∷◌, length, take, drop, Bool, false, ◌==◌, nat_lt, is_some, bytes_eq, codes, Option, Some, None, if◌then◌else◌}
use Rattle.std.specs.Str.{trim_start, trim_end}
use Rattle.std.specs.List.{ends_with}
use Rattle.tera_errors.specs.Site.{Text}
use Rattle.tera_errors.specs.declared.span.Span.{Span}
use Rattle.tera_syntax_tokens.specs.Bytes.{begins, position}
use Rattle.tera_syntax_tree.specs.Delimiters.{Delims}
use Rattle.tera_syntax_tokens.specs.Token.{Token}
use Rattle.tera_syntax_tokens.specs.Inside.{Inside, inside, hyphen}
use Rattle.tera_syntax_tokens.specs.declared.cut.Tag.{Tag}
use Rattle.tera_syntax_tokens.specs.declared.cut.Tag.TheVariants as tag
use Rattle.tera_syntax_tokens.specs.declared.cut.Opening.{Opening}

pub data Piece : Type 0 where
  -- text as it is written out, and where it stands
  Words : (text : Text) (span : Span) → Piece
  Comment : Piece
  Variable : (tokens : List Token) → Piece
  Block : (tokens : List Token) → Piece
  -- no piece begins here
  Broken : Piece

-- a piece, the position behind it, and whether a `-` at its end trims the text that follows
pub record FoundPiece : Type 0 where
  pub piece : Piece
  pub next : ℕ
  pub trims : Bool

abbrev pub opened_by : Tag → Text → Text → Option Opening
opened_by kind start text =
    if begins start text then Some (record { tag = kind; size = length start }) else None

abbrev pub longer : Option Opening → Option Opening → Option Opening
longer None b = b
longer (Some a) None = Some a
longer (Some a) (Some b) = if nat_lt a.size b.size then Some b else Some a

-- the start delimiter that begins a text, the longest of them
unfoldable pub opening_at : Delims → Text → Option Opening
opening_at d text = longer (opened_by tag.Variable d.variable_start text)
    (longer (opened_by tag.Block d.block_start text) (opened_by tag.Comment d.comment_start text))

-- the start delimiter that begins a text is this one, if it is known
abbrev pub Knows : Delims → Text → Option Opening → Type 0
Knows d text None = Unit {0}
Knows d text (Some o) = opening_at d text ≡ Some o

abbrev pub opens : Delims → Text → Bool
opens d text = is_some (opening_at d text)

-- whether a start delimiter with a `-` begins the text
abbrev pub trims_before : Text → Option Opening → Bool
trims_before text None = false
trims_before text (Some o) = begins hyphen (drop o.size text)

abbrev pub start_trimmed : Bool → Text → Text
start_trimmed trims text = if trims then trim_start text else text

abbrev pub end_trimmed : Bool → Text → Text
end_trimmed trims text = if trims then trim_end text else text

-- the first n bytes of a text that stands at a position, without the white space that a `-` on
-- either side removes
abbrev pub words : Bool → Bool → ℕ → ℕ → Text → Piece
words before behind n at text =
    let front = start_trimmed before (take n text) in
    let kept = end_trimmed behind front in
    let start = at + (n - length front) in
    Words kept (record { start = start; end = start + length kept })

-- A comment ends at the first comment end.
unfoldable pub comment : Text → ℕ → Text → Option FoundPiece
comment end at text =
    let n = position (begins end) text in
    if nat_lt n (length text)
    then Some
    (record {
      piece = Comment;
      next = at + (n + length end);
      trims = ends_with (λ a b. a == b) (take n text) hyphen;
    }) else None

abbrev pub tag_of : (List Token → Piece) → Option Inside → Option FoundPiece
tag_of make None = None
tag_of make (Some x) = Some (record { piece = make x.tokens; next = x.next; trims = x.trims })

-- a `-` right behind a start delimiter belongs to it
abbrev pub start_size : Opening → Text → ℕ
start_size o text = if begins hyphen (drop o.size text) then o.size + 1 else o.size

-- the tokens are this word alone
abbrev pub is_alone : Text → List Token → Bool
is_alone word (t ∷ []) = bytes_eq t.text word
is_alone word ts = false

-- a tag that is this word alone
abbrev pub of_word : Text → Option Inside → Option Inside
of_word word None = None
of_word word (Some x) = if is_alone word x.tokens then Some x else None

-- a tag of this kind that is `endraw` alone, behind its start delimiter
abbrev pub endraw_of : Delims → Tag → ℕ → Text → Option Inside
endraw_of d tag.Block at text = of_word (codes "endraw") (inside d.block_end 0 0 at text)
endraw_of d kind at text = None

abbrev pub endraw_by : Delims → ℕ → Text → Option Opening → Option Inside
endraw_by d at text None = None
endraw_by d at text (Some o) =
    endraw_of d o.tag (at + start_size o text) (drop (start_size o text) text)

-- the tag `endraw` at the front of a text that stands at a position
unfoldable pub endraw : Delims → ℕ → Text → Option Inside
endraw d at text = endraw_by d at text (opening_at d text)

abbrev pub ends_raw : Delims → Text → Bool
ends_raw d text = is_some (endraw d 0 text)

-- What the tag `raw` gives: the text behind it, up to the first tag `endraw`, as one piece. None
-- where there is no such tag.
unfoldable pub raw : Delims → Bool → ℕ → Text → Option FoundPiece
raw d trims at text =
    let n = position (ends_raw d) text in
    tag_of (λ tokens.
    words trims (trims_before (drop n text) (opening_at d (drop n text))) n at text)
    (endraw d (at + n) (drop n text))

-- What a block gives by its inside, where the text behind its start delimiter stands at a position.
abbrev pub block : Delims → ℕ → Text → Option Inside → Option FoundPiece
block d at text None = None
block d at text (Some x) =
    if is_alone (codes "raw") x.tokens then raw d x.trims x.next (drop (x.next - at) text)
    else tag_of Block (Some x)

abbrev pub behind : Delims → Tag → ℕ → Text → Option FoundPiece
behind d tag.Variable at text = tag_of Variable (inside d.variable_end 0 0 at text)
behind d tag.Block at text = block d at text (inside d.block_end 0 0 at text)
behind d tag.Comment at text = comment d.comment_end at text

abbrev pub piece_by : Delims → Bool → ℕ → Text → Option Opening → Option FoundPiece
piece_by d trims at text None =
    let n = position (opens d) text in
    Some (record {
      piece = words trims (trims_before (drop n text) (opening_at d (drop n text))) n at text;
      next = at + n;
      trims = false;
    })
piece_by d trims at text (Some o) =
    behind d o.tag (at + start_size o text) (drop (start_size o text) text)

-- The first piece of a text that stands at a position; a `-` before it may trim it.
unfoldable pub piece : Delims → Bool → ℕ → Text → Option FoundPiece
piece d trims at text = piece_by d trims at text (opening_at d text)

abbrev pub piece_then : Option FoundPiece → (FoundPiece → List Piece) → List Piece
piece_then None more = Broken ∷ []
piece_then (Some f) more = f.piece ∷ more f

-- The pieces of a text that stands at a position, after bytes that are passed over.
unfoldable pub cut : Delims → Bool → ℕ → ℕ → Text → List Piece
cut d trims skip at [] = []
cut d trims (suc n) at (b ∷ bs) = cut d trims n (suc at) bs
cut d trims zero at (b ∷ bs) =
    piece_then (piece d trims at (b ∷ bs)) (λ f. cut d f.trims (f.next - suc at) (suc at) bs)

abbrev pub pieces : Delims → Text → List Piece
pieces d text = cut d false 0 0 text
