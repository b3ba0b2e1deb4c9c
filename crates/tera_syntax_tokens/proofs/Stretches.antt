-- The pieces of a text are stretches of it, and so are the tokens of its tags.
use Rattle.std.proofs.Common.{◌≡◌, ℕ, zero, suc, ◌+◌, ◌-◌, ◌<◌, ◌≤◌, List, [], ◌∷◌, ◌==◌, ◌&&◌, Bool, true, false, cond, nat_lt, length, take, drop, codes, Option, Some, None, is_some, refl, ap, subst, arith, if◌then◌else◌, IsTrue, string_bytes}
use Rattle.std.proofs.lemmas.List.{length-drop, length-take-le, length-append, drop-drop}
use Rattle.std.proofs.lemmas.Bool.{and_parts}
use Rattle.std.proofs.lemmas.Bool.Decides.{nat_tests}
use Rattle.std.proofs.lemmas.Str.{encodes-chars, scalars-chars, IsUtf8-take, IsUtf8-drop, IsUtf8-string_bytes}
use Rattle.std.specs.Str.{IsUtf8, IsCharBoundary, chars, trim_start, trim_end, skip_leading_whitespace, drop_trailing_whitespace}
use Rattle.std.specs.List.{ends_with}
use Rattle.std.specs.Char.{is_whitespace}
use lib.Utf8.{scalar, scalars, encodes, encode}
use Rattle.tera_errors.specs.Site.{Text}
use Rattle.tera_syntax_tree.specs.Delimiters.{delimiters_of, accepted}
use Rattle.tera_syntax_tree.specs.declared.delimiters.Delimiters.{Delimiters}
use Rattle.tera_syntax_tokens.specs.Bytes.{begins, position}
use Rattle.tera_syntax_tokens.specs.Token.{Token}
use Rattle.tera_syntax_tokens.specs.Inside.{Inside, inside, hyphen}
use Rattle.tera_syntax_tokens.specs.declared.cut.Tag.{Tag}
use Rattle.tera_syntax_tokens.specs.declared.cut.Tag.TheVariants as tag
use Rattle.tera_syntax_tokens.specs.declared.cut.Opening.{Opening}
use Rattle.tera_syntax_tokens.specs.Cut.{Piece, Comment, Variable, Block, FoundPiece, opening_at, opens, trims_before, start_trimmed, end_trimmed, words, comment, tag_of, start_size, is_alone, of_word, endraw, endraw_of, endraw_by, ends_raw, raw, block, behind, piece_by, piece, piece_then, cut, pieces}
use Rattle.tera_syntax_tokens.proofs.Positions.{position_le, position_passes, boundary_after, word_fits}
use Rattle.tera_syntax_tokens.proofs.Insides.{ending_fits, ending_boundary}
use Rattle.tera_syntax_tokens.proofs.Openings.{start_of, start_fits, start_boundary, start_size_le, start_size_fits, words_boundary, filled}
use Rattle.tera_syntax_tokens.proofs.Cuts.{position_positive}
use Rattle.tera_syntax_tokens.proofs.Raws.{raw_boundary}
use Rattle.tera_syntax_tokens.specs.Stretches.{InOrder, PieceInside}
use Rattle.tera_syntax_tokens.proofs.Order.{in_order-wider, inside_cut}

-- white space that is dropped makes a text no longer
skipped_scalars : (cs : List ℕ) → scalars cs ≡ true → scalars (skip_leading_whitespace cs) ≡ true
skipped_scalars [] h = h
skipped_scalars (c ∷ cs) h = go (is_whitespace c) (skipped_scalars cs (and_parts (scalar c) (scalars cs) h).1)
  where
    go : (q : Bool) → scalars (skip_leading_whitespace cs) ≡ true → scalars (cond q (skip_leading_whitespace cs) (c ∷ cs)) ≡ true
    go true more = more
    go false more = h

skipped_le : (cs : List ℕ) → length (encodes (skip_leading_whitespace cs)) ≤ length (encodes cs)
skipped_le [] = omega arith
skipped_le (c ∷ cs) = go (is_whitespace c) (skipped_le cs)
  where
    go : (q : Bool) → length (encodes (skip_leading_whitespace cs)) ≤ length (encodes cs) → length (encodes (cond q (skip_leading_whitespace cs) (c ∷ cs))) ≤ length (encodes (c ∷ cs))
    go true l = let e = length-append (encode c) (encodes cs) in omega arith
    go false l = omega arith

dropped_le : (cs : List ℕ) → length (encodes (drop_trailing_whitespace cs)) ≤ length (encodes cs)
dropped_le [] = omega arith
dropped_le (c ∷ cs) = go (is_whitespace c && length (drop_trailing_whitespace cs) == 0) (dropped_le cs)
  where
    go : (q : Bool) → length (encodes (drop_trailing_whitespace cs)) ≤ length (encodes cs) → length (encodes (cond q [] (c ∷ drop_trailing_whitespace cs))) ≤ length (encodes (c ∷ cs))
    go true l = omega arith
    go false l =
        let e = length-append (encode c) (encodes cs) in
        let f = length-append (encode c) (encodes (drop_trailing_whitespace cs)) in
        omega arith

trim_start_utf8 : (text : Text) → IsUtf8 text → IsUtf8 (trim_start text)
unfolding trim_start
trim_start_utf8 text u = (skip_leading_whitespace (chars text), (skipped_scalars (chars text) (scalars-chars text u), refl))

trim_start_le : (text : Text) → IsUtf8 text → length (trim_start text) ≤ length text
unfolding trim_start
trim_start_le text u = let l = skipped_le (chars text) in let e = ap length (encodes-chars text u) in omega (arith, l, e)

trim_end_le : (text : Text) → IsUtf8 text → length (trim_end text) ≤ length text
unfolding trim_end
trim_end_le text u = let l = dropped_le (chars text) in let e = ap length (encodes-chars text u) in omega (arith, l, e)

start_trimmed_utf8 : (q : Bool) (text : Text) → IsUtf8 text → IsUtf8 (start_trimmed q text)
start_trimmed_utf8 true text u = trim_start_utf8 text u
start_trimmed_utf8 false text u = u

start_trimmed_le : (q : Bool) (text : Text) → IsUtf8 text → length (start_trimmed q text) ≤ length text
start_trimmed_le true text u = trim_start_le text u
start_trimmed_le false text u = omega arith

end_trimmed_le : (q : Bool) (text : Text) → IsUtf8 text → length (end_trimmed q text) ≤ length text
end_trimmed_le true text u = trim_end_le text u
end_trimmed_le false text u = omega arith

abbrev pub PiecesInside : ℕ → List Piece → Type 0
PiecesInside size [] = Unit {0}
PiecesInside size (p ∷ ps) = PieceInside size p × PiecesInside size ps

words_within : (before behind : Bool) (n at : ℕ) (text : Text) → n ≤ length text → IsUtf8 (take n text) → PieceInside (at + length text) (words before behind n at text)
words_within before behind n at text l u =
    let front = start_trimmed before (take n text) in
    let a = start_trimmed_le before (take n text) u in
    let b = end_trimmed_le behind front (start_trimmed_utf8 before (take n text) u) in
    let c = length-take-le n text l in
    (omega arith, omega arith)

-- a position in a text, or behind it, from which on it is a text too
pub record Reaches (at : ℕ) (text : Text) (next : ℕ) : Type 0 where
  pub forward : at ≤ next
  pub fits : next ≤ at + length text
  pub utf8 : IsUtf8 (drop (next - at) text)

reaches : (at n : ℕ) (text : Text) → n ≤ length text → IsUtf8 text → IsCharBoundary text n → Reaches at text (at + n)
reaches at n text l u b =
    let e : n ≡ (at + n) - at = omega arith in
    record { forward = omega arith; fits = omega arith; utf8 = subst (λ k. IsUtf8 (drop k text)) e (IsUtf8-drop text n u b) }

-- the same from an earlier position
reaches_from : (at s next : ℕ) (text : Text) → s ≤ length text → Reaches (at + s) (drop s text) next → Reaches at text next
reaches_from at s next text l r =
    let f = r.forward in let g = r.fits in
    let e : s + (next - (at + s)) ≡ next - at = omega arith in
    let m = length-drop s text in
    record {
      forward = omega arith;
      fits = omega arith;
      utf8 = subst (λ k. IsUtf8 (drop k text)) e (subst IsUtf8 (drop-drop (next - (at + s)) s text) r.utf8);
    }

-- a tag lies in its text
record TagIn (at : ℕ) (text : Text) (x : Inside) : Type 0 where
  in_order : InOrder (at + length text) 0 x.tokens
  reach : Reaches at text x.next

tag_in : (end : Text) (at : ℕ) (text : Text) (x : Inside) → 0 < length end → IsUtf8 end → IsUtf8 text → inside end 0 0 at text ≡ Some x → TagIn at text x
tag_in end at text x l v u h =
    let c = inside_cut end 0 0 at text x h in
    let f = ending_fits end text c.ends.position c.ends.ending l c.ends.found in
    let b = ending_boundary end text c.ends.position c.ends.ending u v l c.ends.found in
    let e : at + (c.ends.position + c.ends.ending.size) ≡ x.next = let n = c.ends.next in omega arith in
    let r = subst (Reaches at text) e (reaches at (c.ends.position + c.ends.ending.size) text f.1 u b) in
    record { in_order = in_order-wider x.next (at + length text) (at + 0) 0 x.tokens r.fits (omega arith) c.in_order; reach = r }

-- a piece lies in its text
record FoundIn (at : ℕ) (text : Text) (f : FoundPiece) : Type 0 where
  inside : PieceInside (at + length text) f.piece
  reach : Reaches at text f.next

tag_of_some : (make : List Token → Piece) (o : Option Inside) (f : FoundPiece) → tag_of make o ≡ Some f → (x : Inside) × (o ≡ Some x) × (make x.tokens ≡ f.piece) × (x.next ≡ f.next)
tag_of_some make None f h = absurd (cc)
tag_of_some make (Some x) f h =
    let e : record { piece = make x.tokens; next = x.next; trims = x.trims } ≡ f = cc in
    (x, refl, ap (λ f. f.piece) e, ap (λ f. f.next) e)

tag_found : (make : List Token → Piece) (at : ℕ) (text : Text) (o : Option Inside) (f : FoundPiece) → ((x : Inside) → o ≡ Some x → TagIn at text x)
    → ((tokens : List Token) → InOrder (at + length text) 0 tokens → PieceInside (at + length text) (make tokens)) → tag_of make o ≡ Some f → FoundIn at text f
tag_found make at text o f lies p h =
    let t = tag_of_some make o f h in
    let l = lies t.0 t.1 in
    record { inside = subst (PieceInside (at + length text)) t.2 (p t.0.tokens l.in_order); reach = subst (Reaches at text) t.3 l.reach }

comment_by : (end : Text) (at : ℕ) (text : Text) (q : Bool) (f : FoundPiece) → 0 < length end → IsUtf8 end → IsUtf8 text → nat_lt (position (begins end) text) (length text) ≡ q
    → (if q then Some (record { piece = Comment; next = at + (position (begins end) text + length end); trims = ends_with (λ a b. a == b) (take (position (begins end) text) text) hyphen }) else None) ≡ Some f → FoundIn at text f
comment_by end at text false f l v u e h = absurd (cc)
comment_by end at text true f l v u e h =
    let n = position (begins end) text in
    let m : n < length text = grind (arith, nat_tests) in
    let p = position_passes (begins end) text m in
    let r = reaches at (n + length end) text (word_fits end text n p l) u (boundary_after end text n u v p l) in
    let q : record { piece = Comment; next = at + (n + length end); trims = ends_with (λ a b. a == b) (take n text) hyphen } ≡ f = cc in
    subst (FoundIn at text) q (record { inside = tt; reach = r })

comment_found : (end : Text) (at : ℕ) (text : Text) (f : FoundPiece) → 0 < length end → IsUtf8 end → IsUtf8 text → comment end at text ≡ Some f → FoundIn at text f
unfolding comment
comment_found end at text f l v u h = comment_by end at text (nat_lt (position (begins end) text) (length text)) f l v u refl h

found_from : (at s : ℕ) (text : Text) (f : FoundPiece) → s ≤ length text → FoundIn (at + s) (drop s text) f → FoundIn at text f
found_from at s text f l p =
    let m = length-drop s text in
    let e : (at + s) + length (drop s text) ≡ at + length text = omega arith in
    record { inside = subst (λ n. PieceInside n f.piece) e p.inside; reach = reaches_from at s f.next text l p.reach }

word_some : (word : Text) (o : Option Inside) (x : Inside) → of_word word o ≡ Some x → o ≡ Some x
word_some word None x h = absurd (cc)
word_some word (Some y) x h = go (is_alone word y.tokens) h
  where
    go : (q : Bool) → (if q then Some y else None) ≡ Some x → Some y ≡ Some x
    go true e = e
    go false e = absurd (cc)

module _ (d : Delimiters) (usable : IsTrue (accepted (delimiters_of d))) where
  block_in : (at : ℕ) (text : Text) (x : Inside) → IsUtf8 text → inside (string_bytes d.block_end) 0 0 at text ≡ Some x → TagIn at text x
  block_in at text x u h = tag_in (string_bytes d.block_end) at text x (filled (delimiters_of d) usable).block_end (IsUtf8-string_bytes d.block_end) u h

  endraw_reaches : (at : ℕ) (text : Text) (x : Inside) (o : Option Opening) → IsUtf8 text → opening_at (delimiters_of d) text ≡ o → endraw_by (delimiters_of d) at text o ≡ Some x → Reaches at text x.next
  endraw_reaches at text x None u e h = absurd (cc)
  endraw_reaches at text x (Some o) u e h =
      let s = start_of d text o usable e in
      let n = start_size o text in
      let v : IsUtf8 (drop n text) = IsUtf8-drop text n u (start_boundary text o s u) in
      go o.tag (start_size_fits text o s) v h
    where
      go : (kind : Tag) → start_size o text ≤ length text → IsUtf8 (drop (start_size o text) text)
          → endraw_of (delimiters_of d) kind (at + start_size o text) (drop (start_size o text) text) ≡ Some x → Reaches at text x.next
      go tag.Variable l v h = absurd (cc)
      go tag.Comment l v h = absurd (cc)
      go tag.Block l v h =
          let n = start_size o text in
          let t = block_in (at + n) (drop n text) x v (word_some (codes "endraw") (inside (string_bytes d.block_end) 0 0 (at + n) (drop n text)) x h) in
          reaches_from at n x.next text l t.reach

  raw_found : (trims : Bool) (at : ℕ) (text : Text) (f : FoundPiece) → IsUtf8 text → raw (delimiters_of d) trims at text ≡ Some f → FoundIn at text f
  unfolding raw endraw
  raw_found trims at text f u h =
      let n = position (ends_raw (delimiters_of d)) text in
      let l = position_le (ends_raw (delimiters_of d)) text in
      let b = raw_boundary d text usable u in
      let t = tag_of_some _ (endraw (delimiters_of d) (at + n) (drop n text)) f h in
      let r = endraw_reaches (at + n) (drop n text) t.0 (opening_at (delimiters_of d) (drop n text)) (IsUtf8-drop text n u b) refl t.1 in
      let w = words_within trims (trims_before (drop n text) (opening_at (delimiters_of d) (drop n text))) n at text l (IsUtf8-take text n u b) in
      record { inside = subst (PieceInside (at + length text)) t.2 w; reach = subst (Reaches at text) t.3 (reaches_from at n t.0.next text l r) }

  block_found : (at : ℕ) (text : Text) (o : Option Inside) (f : FoundPiece) → IsUtf8 text → inside (string_bytes d.block_end) 0 0 at text ≡ o → block (delimiters_of d) at text o ≡ Some f → FoundIn at text f
  block_found at text None f u e h = absurd (cc)
  block_found at text (Some x) f u e h = go (is_alone (codes "raw") x.tokens) (block_in at text x u e) h
    where
      go : (q : Bool) → TagIn at text x → (if q then raw (delimiters_of d) x.trims x.next (drop (x.next - at) text) else tag_of Block (Some x)) ≡ Some f → FoundIn at text f
      go false t h = tag_found Block at text (Some x) f (λ y g. subst (TagIn at text) (let s : x ≡ y = cc in s) t) (λ tokens p. p) h
      go true t h =
          let n = x.next - at in
          let a = t.reach.forward in let b = t.reach.fits in
          let e : x.next ≡ at + n = omega arith in
          let g : raw (delimiters_of d) x.trims (at + n) (drop n text) ≡ Some f = subst (λ k. raw (delimiters_of d) x.trims k (drop n text) ≡ Some f) e h in
          found_from at n text f (omega arith) (raw_found x.trims (at + n) (drop n text) f t.reach.utf8 g)

  behind_found : (kind : Tag) (at : ℕ) (text : Text) (f : FoundPiece) → IsUtf8 text → behind (delimiters_of d) kind at text ≡ Some f → FoundIn at text f
  behind_found tag.Variable at text f u h =
      tag_found Variable at text (inside (string_bytes d.variable_end) 0 0 at text) f
      (λ x e. tag_in (string_bytes d.variable_end) at text x (filled (delimiters_of d) usable).variable_end (IsUtf8-string_bytes d.variable_end) u e) (λ tokens p. p) h
  behind_found tag.Block at text f u h = block_found at text (inside (string_bytes d.block_end) 0 0 at text) f u refl h
  behind_found tag.Comment at text f u h = comment_found (string_bytes d.comment_end) at text f (filled (delimiters_of d) usable).comment_end (IsUtf8-string_bytes d.comment_end) u h

  piece_found : (trims : Bool) (at : ℕ) (text : Text) (o : Option Opening) (f : FoundPiece) → 0 < length text → IsUtf8 text → opening_at (delimiters_of d) text ≡ o
      → piece_by (delimiters_of d) trims at text o ≡ Some f → FoundIn at text f × (at < f.next)
  piece_found trims at text None f some u e h =
      let n = position (opens (delimiters_of d)) text in
      let l = position_le (opens (delimiters_of d)) text in
      let b = words_boundary d text usable u in
      let p = position_positive (opens (delimiters_of d)) text some (ap is_some e) in
      let behind = trims_before (drop n text) (opening_at (delimiters_of d) (drop n text)) in
      let q : record { piece = words trims behind n at text; next = at + n; trims = false } ≡ f = cc in
      let m : at + n ≡ f.next = ap (λ f. f.next) q in
      (subst (FoundIn at text) q (record { inside = words_within trims behind n at text l (IsUtf8-take text n u b); reach = reaches at n text l u b }), omega arith)
  piece_found trims at text (Some o) f some u e h =
      let s = start_of d text o usable e in
      let n = start_size o text in
      let b = start_boundary text o s u in
      let l = (start_fits text o s).0 in
      let m = start_size_le text o in
      let p = behind_found o.tag (at + n) (drop n text) f (IsUtf8-drop text n u b) h in
      let g = p.reach.forward in
      (found_from at n text f (start_size_fits text o s) p, omega arith)

  -- a piece that is found is a stretch of its text
  pub piece_inside : (trims : Bool) (at : ℕ) (text : Text) (f : FoundPiece) → 0 < length text → IsUtf8 text → piece (delimiters_of d) trims at text ≡ Some f → PieceInside (at + length text) f.piece
  unfolding piece
  piece_inside trims at text f some u h = (piece_found trims at text (opening_at (delimiters_of d) text) f some u refl h).0.inside

  cut_by : (trims : Bool) (at b : ℕ) (bs : Text) (o : Option FoundPiece) → IsUtf8 (b ∷ bs) → piece (delimiters_of d) trims at (b ∷ bs) ≡ o
      → ((trims : Bool) (skip : ℕ) → IsUtf8 (drop skip bs) → PiecesInside (suc at + length bs) (cut (delimiters_of d) trims skip (suc at) bs))
      → PiecesInside (at + length (b ∷ bs)) (piece_then o (λ f. cut (delimiters_of d) f.trims (f.next - suc at) (suc at) bs))
  unfolding piece
  cut_by trims at b bs None u e more = (tt, tt)
  cut_by trims at b bs (Some f) u e more =
      let p = piece_found trims at (b ∷ bs) (opening_at (delimiters_of d) (b ∷ bs)) f (omega arith) u refl e in
      let l = p.1 in
      let n : f.next - at ≡ suc (f.next - suc at) = omega arith in
      let v : IsUtf8 (drop (f.next - suc at) bs) = subst (λ k. IsUtf8 (drop k (b ∷ bs))) n p.0.reach.utf8 in
      let s : suc at + length bs ≡ at + length (b ∷ bs) = omega arith in
      (p.0.inside, subst (λ k. PiecesInside k (cut (delimiters_of d) f.trims (f.next - suc at) (suc at) bs)) s (more f.trims (f.next - suc at) v))

  cut_inside : (trims : Bool) (skip at : ℕ) (text : Text) → IsUtf8 (drop skip text) → PiecesInside (at + length text) (cut (delimiters_of d) trims skip at text)
  unfolding cut
  cut_inside trims skip at [] u = tt
  cut_inside trims (suc n) at (b ∷ bs) u =
      let s : suc at + length bs ≡ at + length (b ∷ bs) = omega arith in
      subst (λ k. PiecesInside k (cut (delimiters_of d) trims n (suc at) bs)) s (cut_inside trims n (suc at) bs u)
  cut_inside trims zero at (b ∷ bs) u =
      cut_by trims at b bs (piece (delimiters_of d) trims at (b ∷ bs)) u refl (λ trims skip v. cut_inside trims skip (suc at) bs v)

  -- all pieces of a text lie in it
  pub pieces_inside : (text : Text) → IsUtf8 text → PiecesInside (length text) (pieces (delimiters_of d) text)
  pieces_inside text u =
      let e : 0 + length text ≡ length text = omega arith in
      subst (λ k. PiecesInside k (pieces (delimiters_of d) text)) e (cut_inside false 0 0 text u)
