-- The numbers of a range have room.
use Rattle.std.proofs.Common.{◌≡◌, ℕ, suc, ◌+◌, ◌-◌, ◌*◌, ◌/◌, ◌%◌, ◌<◌, ◌≤◌, List, [], ◌∷◌, ◌++◌, arith, subst}
use Rattle.std.proofs.lemmas.List.FromFn.{map-range_with_len_more}
use Rattle.std.proofs.lemmas.Int.{ints}
use Rattle.std.proofs.lemmas.Nat.{div-add-mod', mul-le}
use Rattle.std.specs.Prelude.{ℤ, pos, negsuc, ◌+ℤ◌, ◌-ℤ◌, ◌*ℤ◌, ◌≤ℤ◌, ◌<ℤ◌, unsigned_abs, FitsSigned}
use Rattle.std.specs.Int.{saturate_signed}
use Rattle.tera_values.specs.Val.{Val, int}
use Rattle.tera_built_ins.specs.Functions.{stepping}
use Rattle.tera_built_ins.specs.Rooms.{HasRoom, EachIsBelow}
use mir.Syntax.{w128}

-- a stride that is counted leads no further than what was divided
pub stride-within : (rounded stride position : ℕ) → position < rounded / stride → stride * position + stride ≤ rounded
stride-within rounded stride position h =
    let whole : rounded / stride * stride + rounded % stride ≡ rounded = div-add-mod' rounded stride in
    let some : suc position * stride ≤ rounded / stride * stride = mul-le (suc position) stride (rounded / stride) stride (omega arith) (omega arith) in
    grind arith

-- the strides to a distance, rounded up, begin within it
pub strides-below : (distance : ℤ) (stride : ℕ) → pos 0 ≤ℤ distance → 0 < stride → EachIsBelow distance stride (unsigned_abs (distance +ℤ pos (stride - 1)) / stride)
strides-below (pos n) stride h some position counted =
    let within : stride * position + stride ≤ n + (stride - 1) = stride-within (n + (stride - 1)) stride position counted in
    omega (arith, ints)
strides-below (negsuc n) stride h some position counted = absurd (omega (arith, ints))

-- a number between two that have room has room
between-fits : (low z high : ℤ) → FitsSigned w128 low → FitsSigned w128 high → low ≤ℤ (low +ℤ z) → (low +ℤ z) ≤ℤ high → FitsSigned w128 (low +ℤ z)
between-fits low z high l h a b = omega (arith, ints)

-- up to an end, and down to one
pub room-above : (start end step distance : ℤ) (stride count : ℕ) → FitsSigned w128 start → FitsSigned w128 end → pos 0 ≤ℤ step → stride ≡ unsigned_abs step → distance ≡ end -ℤ start → EachIsBelow distance stride count → HasRoom start step count
room-above start end (pos n) distance stride count s e some of far h position below =
    let under : pos (stride * position) <ℤ distance = h position below in
    let here : pos (n * position) <ℤ (end -ℤ start) = subst (λ (m : ℕ). pos (m * position) <ℤ (end -ℤ start)) of (subst (λ (d : ℤ). pos (stride * position) <ℤ d) far under) in
    between-fits start (pos (n * position)) end s e (omega (arith, ints)) (omega (arith, ints))
room-above start end (negsuc n) distance stride count s e some of far h position below = absurd (omega (arith, ints))

pub room-below : (start end step distance : ℤ) (stride count : ℕ) → FitsSigned w128 start → FitsSigned w128 end → step <ℤ pos 0 → stride ≡ unsigned_abs step → distance ≡ start -ℤ end → EachIsBelow distance stride count → HasRoom start step count
room-below start end (negsuc n) distance stride count s e some of far h position below =
    let under : pos (stride * position) <ℤ distance = h position below in
    let here : pos (suc n * position) <ℤ (start -ℤ end) = subst (λ (m : ℕ). pos (m * position) <ℤ (start -ℤ end)) of (subst (λ (d : ℤ). pos (stride * position) <ℤ d) far under) in
    omega (arith, ints)
room-below start end (pos n) distance stride count s e some of far h position below = absurd (omega (arith, ints))

-- a step further
step-further : (start step : ℤ) (position : ℕ) → (start +ℤ (step *ℤ pos position)) +ℤ step ≡ start +ℤ (step *ℤ pos (position + 1))
step-further start (pos n) position = grind (arith, ints)
step-further start (negsuc n) position = grind (arith, ints)

-- one number more
pub stepping-more : (start step number : ℤ) (position : ℕ) (items more : List Val) → items ≡ stepping start step position → number ≡ start +ℤ (step *ℤ pos position) → more ≡ items ++ int number ∷ [] → more ≡ stepping start step (position + 1)
stepping-more start step number position items more before here pushed =
    let behind : ◌≡◌ {A = List Val} (stepping start step (position + 1)) (stepping start step position ++ int (start +ℤ (step *ℤ pos position)) ∷ []) = map-range_with_len_more (λ (n : ℕ). int (start +ℤ (step *ℤ pos n))) 0 position position (omega arith) in
    cc

saturated-fits : (z : ℤ) → FitsSigned w128 z → saturate_signed w128 z ≡ z
saturated-fits (pos n) h = omega (arith, ints)
saturated-fits (negsuc n) h = omega (arith, ints)

-- where there is room for what stands behind a number, that is reached
pub number-further : (start step number next : ℤ) (position : ℕ) → FitsSigned w128 (start +ℤ (step *ℤ pos (position + 1))) → number ≡ start +ℤ (step *ℤ pos position) → next ≡ saturate_signed w128 (number +ℤ step) → next ≡ start +ℤ (step *ℤ pos (position + 1))
number-further start step number next position fits here reached =
    let further : (start +ℤ (step *ℤ pos position)) +ℤ step ≡ start +ℤ (step *ℤ pos (position + 1)) = step-further start step position in
    let kept : saturate_signed w128 (start +ℤ (step *ℤ pos (position + 1))) ≡ start +ℤ (step *ℤ pos (position + 1)) = saturated-fits _ fits in
    cc
