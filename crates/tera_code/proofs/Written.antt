-- Forms whose parts stand in a Vec.
use Rattle.std.proofs.Common.{◌≡◌, ℕ, suc, Bool, cond, length, List, [], ◌∷◌, ◌++◌, Box, Global, Result, Ok, Err, OnOk, Option, None, Some, refl, sym, ap, ap₂, ◌∙◌, append_assoc}
use Rattle.std.specs.declared.alloc.AllocError.{AllocError}
use Rattle.tera_errors.specs.declared.span.Span.{Span}
use Rattle.tera_syntax_tree.specs.declared.expression.Argument.{Argument}
use Rattle.tera_syntax_tree.specs.declared.expression.OwnedKey.{OwnedKey}
use Rattle.tera_syntax_tree.specs.declared.expression.Bounds.{Bounds}
use Rattle.tera_syntax_tree.specs.declared.expression.Sliced.{Sliced}
use Rattle.tera_syntax_tree.specs.declared.expression.Expression.{Expression}
use Rattle.tera_syntax_tree.specs.declared.expression.Expression.TheVariants as expression
use Rattle.tera_syntax_tree.specs.Tree.{Expr, Key, Arguments, And, Or}
use Rattle.tera_syntax_tree.specs.View.{key_option, keys_of, slice_of, optional_of, expr_of, arguments_of}
use Rattle.tera_syntax_tree.proofs.Views.{view_slice}
use Rattle.tera_code.specs.declared.instruction.Instruction.{Instruction}
use Rattle.tera_code.specs.declared.instruction.Instruction.TheVariants as instruction
use Rattle.tera_code.specs.Listing.{Listing}
use Rattle.tera_code.specs.Code.{Code, expr_code, bound_code, arguments_code, arguments_length, turn_code, lengthened}
use Rattle.tera_code.specs.Filling.{filled, behind}
use Rattle.tera_code.proofs.Lengthened.{lengthened-lengthened}
use Rattle.tera_code.proofs.Filled.{keep_written}

-- the bounds of a slice, and what takes it
abbrev bounds_code : Bounds → Bool → Span → Code
bounds_code b optional span =
    bound_code (optional_of b.start) ++ (bound_code (optional_of b.end) ++ (bound_code (optional_of b.step) ++ instruction.Slice optional span ∷ []))

pub length_keys : (ks : List (Option OwnedKey)) → length (keys_of ks) ≡ length ks
length_keys [] = refl
length_keys (k ∷ ks) = ap (λ n. suc n) (length_keys ks)

keys_of-append : (ks : List (Option OwnedKey)) (k : Option OwnedKey) → keys_of (ks ++ k ∷ []) ≡ keys_of ks ++ key_option k ∷ []
keys_of-append [] k = refl
keys_of-append (j ∷ ks) k = ap (λ all. key_option j ∷ all) (keys_of-append ks k)

-- one key more is copied, of what shows its key
pub keys_more : {A : Type 0} (shown : A → Option Key) (view : List A → List (Option Key)) → ((x : A) (xs : List A) → view (x ∷ xs) ≡ shown x ∷ view xs)
    → (ks js : List (Option OwnedKey)) (k : Option OwnedKey) (e : A) (before rest : List A) (all : List (Option Key)) → js ≡ ks ++ k ∷ [] → key_option k ≡ shown e → before ≡ e ∷ rest → keys_of ks ++ view before ≡ all → keys_of js ++ view rest ≡ all
keys_more shown view step ks js k e before rest all h same b is =
    ap (λ x. keys_of x ++ view rest) h
    ∙ ap (λ x. x ++ view rest) (keys_of-append ks k)
    ∙ append_assoc (keys_of ks) (key_option k ∷ []) (view rest)
    ∙ ap (λ x. keys_of ks ++ x ∷ view rest) same
    ∙ ap (λ x. keys_of ks ++ x) (sym (ap view b ∙ step e rest))
    ∙ is

pub on_ok_by : {X : Type 0} (r : Result (Unit {0}) AllocError) (x y z : X) → y ≡ z → OnOk r (x ≡ y) → OnOk r (x ≡ z)
on_ok_by (Ok a) x y z e h = h ∙ e
on_ok_by (Err b) x y z e h = tt

pub arguments_counted : (xs : List Argument) → length xs ≡ arguments_length (arguments_of xs)
arguments_counted [] = refl
arguments_counted (x ∷ xs) = ap (λ n. suc n) (arguments_counted xs)

-- the code of what is seen of a part is that of the part
pub seen : {A : Type 0} (code : A → Code) (l m : Listing) (x y : A) (r : Result (Unit {0}) AllocError) → x ≡ y → OnOk r (m ≡ lengthened l (code x)) → OnOk r (m ≡ lengthened l (code y))
seen code l m x y r is h = on_ok_by r m _ _ (ap (λ t. lengthened l (code t)) is) h

pub boxed_written : (l m : Listing) (x y : Expression) → m ≡ lengthened l (expr_code (expr_of x)) → x ≡ y → m ≡ lengthened l (expr_code (expr_of y))
boxed_written l m x y h e = h ∙ ap (λ e. lengthened l (expr_code (expr_of e))) e

-- which of the two operators is told once more
pub decided : (l : Listing) (b d : Bool) (left right : Expr) (span : Span) → b ≡ d → lengthened l (expr_code (cond d (Or left right span) (And left right span))) ≡ lengthened l (expr_code (cond b (Or left right span) (And left right span)))
decided l b d left right span is = ap (λ k. lengthened l (expr_code (cond k (Or left right span) (And left right span)))) (sym is)

-- a slice is written behind what it is taken of
pub slice_written : (l m n : Listing) (e : Expression) (optional : Bool) (sliced : Box Sliced Global) (span : Span) (x y : Sliced) (r : Result (Unit {0}) AllocError) → e ≡ expression.Slice optional sliced span → x ≡ sliced.value → y ≡ sliced.value → m ≡ lengthened l (expr_code (expr_of x.target))
    → OnOk r (n ≡ lengthened m (bounds_code y.bounds optional span)) → OnOk r (n ≡ lengthened l (expr_code (expr_of e)))
slice_written l m n e optional sliced span x y r is v w g h =
    let bounds : Sliced → Code = λ s. bounds_code s.bounds optional span in
    seen expr_code l n (slice_of sliced.value optional span) (expr_of e) r (sym (ap expr_of is ∙ view_slice optional sliced span))
    (on_ok_by r n _ _ (ap₂ (λ k s. lengthened k (bounds s)) (g ∙ ap (λ s. lengthened l (expr_code (expr_of s.target))) v) w ∙ lengthened-lengthened l (expr_code (expr_of sliced.value.target)) (bounds sliced.value)) h)

-- parts are written, and what takes them
pub taken_written : {A : Type 0} (l m n : Listing) (xs ys zs : A) (text : A → Code) (take : A → Instruction) (r : Result (Unit {0}) AllocError) → xs ≡ zs → ys ≡ zs → m ≡ lengthened l (text xs)
    → OnOk r (n ≡ lengthened m (take ys ∷ [])) → OnOk r (n ≡ lengthened l (text zs ++ take zs ∷ []))
taken_written l m n xs ys zs text take r a b h w =
    on_ok_by r n _ _ (ap₂ (λ k y. lengthened k (take y ∷ [])) (h ∙ ap (λ x. lengthened l (text x)) a) b ∙ lengthened-lengthened l (text zs) (take zs ∷ [])) w

-- a value, arguments and what takes both
pub applied_written : (l m n o : Listing) (value : Code) (xs ys zs : List Argument) (take : Arguments → Instruction) (r : Result (Unit {0}) AllocError) → xs ≡ zs → ys ≡ zs → m ≡ lengthened l value → n ≡ lengthened m (arguments_code (arguments_of xs))
    → OnOk r (o ≡ lengthened n (take (arguments_of ys) ∷ [])) → OnOk r (o ≡ lengthened l (value ++ (arguments_code (arguments_of zs) ++ take (arguments_of zs) ∷ [])))
applied_written l m n o value xs ys zs take r a b g h w =
    let last = arguments_code (arguments_of zs) ++ take (arguments_of zs) ∷ [] in
    on_ok_by r o _ _ (ap (λ k. lengthened k last) g ∙ lengthened-lengthened l value last) (taken_written m n o xs ys zs (λ x. arguments_code (arguments_of x)) (λ y. take (arguments_of y)) r a b h w)

-- a part is written, and what stands behind it
pub two_written : (l m n : Listing) (first second : Code) (r : Result (Unit {0}) AllocError) → m ≡ lengthened l first → OnOk r (n ≡ lengthened m second) → OnOk r (n ≡ lengthened l (first ++ second))
two_written l m n first second r h w = on_ok_by r n _ _ (ap (λ k. lengthened k second) h ∙ lengthened-lengthened l first second) w

-- the turn of a comprehension without a condition
pub kept : (l m n : Listing) (condition : Option (Box Expression Global)) (x value : Expression) → condition ≡ None → m ≡ lengthened l (expr_code (expr_of x)) → x ≡ value → n ≡ lengthened m (instruction.Keep ∷ [])
    → n ≡ lengthened l (turn_code (optional_of condition) (expr_code (expr_of value)))
kept l m n condition x value is h e w =
    w
    ∙ ap (λ k. lengthened k (instruction.Keep ∷ [])) (boxed_written l m x value h e)
    ∙ lengthened-lengthened l (expr_code (expr_of value)) (instruction.Keep ∷ [])
    ∙ ap (λ c. lengthened l (turn_code (optional_of c) (expr_code (expr_of value)))) (sym is)

-- and with one
pub kept_if : (l m n o p q : Listing) (condition : Option (Box Expression Global)) (b : Box Expression Global) (x y value : Expression) (position count : ℕ) → condition ≡ Some b → m ≡ lengthened l (expr_code (expr_of x)) → x ≡ b.value → position ≡ length m.code
    → n ≡ lengthened m (instruction.Jump 0 ∷ []) → o ≡ lengthened n (expr_code (expr_of y)) → y ≡ value → p ≡ lengthened o (instruction.Keep ∷ []) → count ≡ behind position p → q ≡ filled position (instruction.PopJumpIfFalse count) p
    → q ≡ lengthened l (turn_code (optional_of condition) (expr_code (expr_of value)))
kept_if l m n o p q condition b x y value position count is h e at g w d k c put =
    put
    ∙ keep_written l m n o p (expr_code (expr_of b.value)) (expr_code (expr_of value)) position count (boxed_written l m x b.value h e) at g (boxed_written n o y value w d) k c
    ∙ ap (λ z. lengthened l (turn_code (optional_of z) (expr_code (expr_of value)))) (sym is)
