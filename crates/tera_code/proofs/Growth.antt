-- Tables that grow, and the instructions that name what stands in them.
use Rattle.std.proofs.Common.{◌≡◌, ℕ, ◌+◌, ◌-◌, ◌<◌, ◌≤◌, List, [], ◌∷◌, ◌++◌, length, take, drop, map, get_or, None, refl, sym, ap, ap₂, subst, ◌∙◌, arith}
use Rattle.std.proofs.lemmas.List.{take-append-le, drop-append-le, get_or_append_left, length-append, length-drop, take_all, map-append, map-set}
use Rattle.std.proofs.lemmas.List.Elements.{All-nil, All-cons, All-head, All-tail, All-append, All-set}
use Rattle.std.proofs.lemmas.Str.{IsUtf8-append, IsUtf8-string_bytes, IsUtf8-take, IsCharBoundary-from_take, IsCharBoundary-end}
use Rattle.std.proofs.Math.Seq.{drop-append_seam}
use Rattle.std.specs.Prelude.{set}
use Rattle.std.specs.List.{All}
use Rattle.std.specs.Str.{IsUtf8, IsCharBoundary}
use Rattle.tera_errors.specs.Site.{Text}
use Rattle.tera_errors.specs.declared.span.Span.{Span}
use Rattle.tera_values.specs.Val as val
use Rattle.tera_code.specs.Constant.{small_integer}
use Rattle.tera_code.specs.declared.instruction.Instruction.{Instruction}
use Rattle.tera_code.specs.declared.instruction.Instruction.TheVariants as instruction
use Rattle.tera_code.specs.declared.packed.Packed.{Packed}
use Rattle.tera_code.specs.declared.packed.Packed.TheVariants as packed
use Rattle.tera_code.specs.declared.packed.LoopNames.{LoopNames}
use Rattle.tera_code.specs.declared.packed.Tables.{Tables}
use Rattle.tera_code.specs.Packed.{TableContents, tables_of, Longer, Grows, Packs, Within, unpacked, span_at, name_at, call_at, target_at}
use Rattle.tera_code.specs.Listing.{Listing}
use Rattle.tera_code.specs.Code.{lengthened}
use Rattle.tera_code.specs.Filling.{filled}

boundary_stays : (bs ds : List ℕ) (i : ℕ) → IsUtf8 bs → IsUtf8 (bs ++ ds) → IsCharBoundary bs i → IsCharBoundary (bs ++ ds) i
boundary_stays bs ds i u v b =
    let long : i ≤ length (bs ++ ds) = omega (arith, length-append bs ds, b.0) in
    IsCharBoundary-from_take (bs ++ ds) i v long (subst IsUtf8 (sym (take-append-le i bs ds b.0)) (IsUtf8-take bs i u b))

slice_stays : {X : Type 0} (bs ds : List X) (i j : ℕ) → i ≤ j → j ≤ length bs → take (j - i) (drop i (bs ++ ds)) ≡ take (j - i) (drop i bs)
slice_stays bs ds i j l m =
    let k : i ≤ length bs = omega (arith, l, m) in
    let n : j - i ≤ length (drop i bs) = omega (arith, length-drop i bs, l, m) in
    ap (take (j - i)) (drop-append-le i bs ds k) ∙ take-append-le (j - i) (drop i bs) ds n

-- where a text was put
pub text_there : (bs ds cs : List ℕ) (i j : ℕ) → IsUtf8 bs → IsUtf8 ds → i ≡ length bs → cs ≡ bs ++ ds → j ≡ length cs → ((i ≤ j) × (IsCharBoundary cs i × IsCharBoundary cs j)) × (take (j - i) (drop i cs) ≡ ds)
text_there bs ds cs i j u v e g h =
    let l : length cs ≡ length bs + length ds = ap length g ∙ length-append bs ds in
    let n : j - i ≡ length ds = omega (arith, e, h, l) in (
      (
        omega (arith, e, h, l),
        (
          subst (λ x. IsCharBoundary x i) (sym g) (boundary_stays bs ds i u (IsUtf8-append bs ds u v) (subst (IsCharBoundary bs) (sym e) (IsCharBoundary-end bs))),
          subst (IsCharBoundary cs) (sym h) (IsCharBoundary-end cs),
        ),
      ),
      ap₂ (λ k x. take k (drop i x)) n g ∙ ap (λ k. take (length ds) (drop k (bs ++ ds))) e ∙ ap (take (length ds)) (drop-append_seam bs ds) ∙ take_all (length ds) ds (omega arith),
    )

boundary_longer : (bs cs : Text) (i : ℕ) → IsUtf8 bs → IsUtf8 cs → Longer bs cs → IsCharBoundary bs i → IsCharBoundary cs i
boundary_longer bs cs i u v g b =
    subst (λ x. IsCharBoundary x i) (sym g) (boundary_stays bs (drop (length bs) cs) i u (subst IsUtf8 g v) b)

slice_longer : {X : Type 0} (bs cs : List X) (i j : ℕ) → Longer bs cs → i ≤ j → j ≤ length bs → take (j - i) (drop i cs) ≡ take (j - i) (drop i bs)
slice_longer bs cs i j g l m = ap (λ x. take (j - i) (drop i x)) g ∙ slice_stays bs (drop (length bs) cs) i j l m

to_longer : {X : Type 0} (xs ys : List X) (n : ℕ) → Longer xs ys → n ≤ length xs → n ≤ length ys
to_longer xs ys n g l = omega (arith, ap length g, length-append xs (drop (length xs) ys), l)

-- what stands at a position stands there still
at_longer : {X : Type 0} (xs ys : List X) (n : ℕ) (d : X) → Longer xs ys → n < length xs → (n < length ys) × (get_or ys n d ≡ get_or xs n d)
at_longer xs ys n d g l =
    (omega (arith, ap length g, length-append xs (drop (length xs) ys), l), ap (λ z. get_or z n d) g ∙ get_or_append_left xs (drop (length xs) ys) d n l)

abbrev chunk_of : TableContents → List Packed → Text → Listing
chunk_of s ps file = record { file = file; code = map (unpacked s) ps }

module _ (s t : TableContents) (u : IsUtf8 s.pool) (v : IsUtf8 t.pool) (g : Grows s t) where
  spanned : (make : Span → Instruction) (span : ℕ) → span < length s.spans → (span < length t.spans) × (make (span_at t span) ≡ make (span_at s span))
  spanned make span w = let at = at_longer s.spans t.spans span (record { start = 0; end = 0 }) g.1.1.1.1.1.0 w in (at.0, ap make at.1)

  -- with something else beside the span
  beside : {X : Type 0} (xs ys : List X) (d : X) → Longer xs ys → (make : X → Span → Instruction) (n span : ℕ) → (n < length xs) × (span < length s.spans)
      → ((n < length ys) × (span < length t.spans)) × (make (get_or ys n d) (span_at t span) ≡ make (get_or xs n d) (span_at s span))
  beside xs ys d longer make n span w =
      let at = at_longer xs ys n d longer w.0 in
      let whole = spanned (make (get_or xs n d)) span w.1 in
      ((at.0, whole.0), ap (λ x. make x (span_at t span)) at.1 ∙ whole.1)

  named : (make : Text → Span → Instruction) (name span : ℕ) → (name < length s.names) × (span < length s.spans)
      → ((name < length t.names) × (span < length t.spans)) × (make (name_at t name) (span_at t span) ≡ make (name_at s name) (span_at s span))
  named = beside s.names t.names [] g.1.0

  called : (make : Text × List Text → Span → Instruction) (call span : ℕ) → (call < length s.calls) × (span < length s.spans)
      → ((call < length t.calls) × (span < length t.spans)) × (make (call_at t call) (span_at t span) ≡ make (call_at s call) (span_at s span))
  called = beside s.calls t.calls ([], []) g.1.1.1.1.1.1.1.0

  -- an instruction means the same, and all that it names is there
  stays : (p : Packed) → Within s p → Packs t p (unpacked s p)
  stays (packed.WriteText start end) w = (
    (w.0, (boundary_longer s.pool t.pool start u v g.0 w.1.0, boundary_longer s.pool t.pool end u v g.0 w.1.1)),
    ap (λ x. instruction.WriteText x) (slice_longer s.pool t.pool start end g.0 w.0 w.1.1.0),
  )
  stays packed.WriteTop w = (tt, refl)
  stays (packed.LoadNone span) w = spanned (λ y. instruction.LoadConst val.none y) span w
  stays (packed.LoadBool flag span) w = spanned (λ y. instruction.LoadConst (val.bool flag) y) span w
  stays (packed.LoadInt span number) w = spanned (λ y. instruction.LoadConst (val.int number) y) span w
  stays (packed.LoadConst constant span) w =
      let both = beside s.constants t.constants val.none g.1.1.0 (λ x y. instruction.LoadConst x y) constant span (w.0, w.1) in
      ((both.0.0, both.0.1, ap small_integer (at_longer s.constants t.constants constant val.none g.1.1.0 w.0).1 ∙ w.2), both.1)
  stays (packed.WriteName name span) w = named (λ x y. instruction.WriteName x y) name span w
  stays (packed.LoadName reads_on name span) w = named (λ x y. instruction.LoadName x y) name span w
  stays (packed.LoadContext span) w = spanned (λ y. instruction.LoadContext y) span w
  stays (packed.LoadAttribute name optional span) w = named (λ x y. instruction.LoadAttribute x optional y) name span w
  stays (packed.LoadItem optional span) w = spanned (λ y. instruction.LoadItem optional y) span w
  stays (packed.Slice optional span) w = spanned (λ y. instruction.Slice optional y) span w
  stays packed.Not w = (tt, refl)
  stays packed.Negate w = (tt, refl)
  stays (packed.Binary operator span) w = spanned (λ y. instruction.Binary operator y) span w
  stays (packed.MakeArray start end span) w =
      let whole = spanned (λ y. instruction.MakeArray (take (end - start) (drop start s.spreads)) y) span w.2 in
      ((w.0, to_longer s.spreads t.spreads end g.1.1.1.0 w.1, whole.0), ap (λ x. instruction.MakeArray x (span_at t span)) (slice_longer s.spreads t.spreads start end g.1.1.1.0 w.0 w.1) ∙ whole.1)
  stays (packed.MakeMap keys span) w = beside s.keys t.keys [] g.1.1.1.1.0 (λ x y. instruction.MakeMap x y) keys span w
  stays (packed.Store name is_global) w = let at = at_longer s.names t.names name [] g.1.0 w in (at.0, ap (λ x. instruction.Store x is_global) at.1)
  stays (packed.StartLoop counts prints names size) w =
      let at = at_longer s.loops t.loops names (record { key = None; name = [] }) g.1.1.1.1.1.1.0 w in
      (at.0, ap (λ (n : LoopNames). instruction.StartLoop n.key n.name counts size) at.1)
  stays packed.NextTurn w = (tt, refl)
  stays (packed.EndLoop skip) w = (tt, refl)
  stays packed.Keep w = (tt, refl)
  stays (packed.EndComprehension span) w = spanned (λ y. instruction.EndComprehension y) span w
  stays packed.StartCapture w = (tt, refl)
  stays (packed.EndCapture span) w = spanned (λ y. instruction.EndCapture y) span w
  stays (packed.LeaveLoop drops) w = (tt, refl)
  stays (packed.LeaveTurn drops) w = (tt, refl)
  stays (packed.Jump skip) w = (tt, refl)
  stays (packed.PopJumpIfFalse skip) w = (tt, refl)
  stays (packed.JumpIfFalseOrPop skip) w = (tt, refl)
  stays (packed.JumpIfTrueOrPop skip) w = (tt, refl)
  stays (packed.TakeBlock name span) w = named (λ x y. instruction.TakeBlock x y) name span w
  stays (packed.TakeInclude target span) w = beside s.targets t.targets [] g.1.1.1.1.1.1.1.1 (λ x y. instruction.TakeInclude x y) target span w
  stays (packed.TakeComponent has_body target keys span) w =
      let name = at_longer s.targets t.targets target [] g.1.1.1.1.1.1.1.1 w.0 in
      let rest = beside s.keys t.keys [] g.1.1.1.1.0 (λ y z. instruction.TakeComponent (target_at s target) y has_body z) keys span (w.1, w.2) in
      ((name.0, rest.0.0, rest.0.1), ap (λ x. instruction.TakeComponent x (get_or t.keys keys []) has_body (span_at t span)) name.1 ∙ rest.1)
  stays (packed.TakeSuper span arguments) w = spanned (λ y. instruction.TakeSuper arguments y) span w
  stays (packed.ApplyFilter call span) w = called (λ x y. instruction.ApplyFilter x.0 x.1 y) call span w
  stays (packed.ApplyTest call span) w = called (λ x y. instruction.ApplyTest x.0 x.1 y) call span w
  stays (packed.CallFunction call span) w = called (λ x y. instruction.CallFunction x.0 x.1 y) call span w

  code_stays : (ps : List Packed) → All (Within s) ps → All (Within t) ps × (map (unpacked t) ps ≡ map (unpacked s) ps)
  code_stays [] h = (All-nil (Within t), refl)
  code_stays (p ∷ ps) h =
      let first = stays p (All-head (Within s) p ps h) in
      let rest = code_stays ps (All-tail (Within s) p ps h) in
      (All-cons (Within t) p ps first.0 rest.0, ap₂ (λ x xs. x ∷ xs) first.1 rest.1)

-- a chunk whose tables grow: its instructions stay, and one is put behind them or at a position that was kept for it
module _ (s t : Tables) (g : Grows (tables_of s) (tables_of t)) (ps : List Packed) (h : All (Within (tables_of s)) ps) where
  stay : All (Within (tables_of t)) ps × (map (unpacked (tables_of t)) ps ≡ map (unpacked (tables_of s)) ps)
  stay = code_stays (tables_of s) (tables_of t) (IsUtf8-string_bytes s.pool) (IsUtf8-string_bytes t.pool) g ps h

  -- no instruction is added, be it for want of a position
  pub all_stay : (qs : List Packed) → qs ≡ ps → All (Within (tables_of t)) qs
  all_stay qs e = subst (All (Within (tables_of t))) (sym e) stay.0

  pub all_grow : (qs : List Packed) (p : Packed) (i : Instruction) → Packs (tables_of t) p i → qs ≡ ps ++ p ∷ [] → All (Within (tables_of t)) qs
  all_grow qs p i is e =
      let within = Within (tables_of t) in
      subst (All within) (sym e) (All-append within ps (p ∷ []) stay.0 (All-cons within p [] is.0 (All-nil within)))

  pub chunk_grows : (qs : List Packed) (p : Packed) (i : Instruction) → Packs (tables_of t) p i → qs ≡ ps ++ p ∷ [] → (file : Text) (l : Listing) → chunk_of (tables_of s) ps file ≡ l → chunk_of (tables_of t) qs file ≡ lengthened l (i ∷ [])
  chunk_grows qs p i is e file l was =
      let new = unpacked (tables_of t) in
      ap (λ code. record { file = file; code = code }) (ap (map new) e ∙ map-append new ps (p ∷ []) ∙ ap₂ (λ x y. x ++ y ∷ []) stay.1 is.1)
      ∙ ap (λ k. lengthened k (i ∷ [])) was

  pub all_filled : (at : ℕ) (p : Packed) (i : Instruction) → Packs (tables_of t) p i → All (Within (tables_of t)) (set ps at p)
  all_filled at p i is = All-set (Within (tables_of t)) ps at p is.0 stay.0

  pub chunk_filled : (at : ℕ) (p : Packed) (i : Instruction) → Packs (tables_of t) p i → (file : Text) (l : Listing) → chunk_of (tables_of s) ps file ≡ l → chunk_of (tables_of t) (set ps at p) file ≡ filled at i l
  chunk_filled at p i is file l was =
      ap (λ code. record { file = file; code = code }) (map-set (unpacked (tables_of t)) ps at p ∙ ap₂ (λ xs x. set xs at x) stay.1 is.1)
      ∙ ap (filled at i) was
