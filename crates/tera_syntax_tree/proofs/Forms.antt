-- Expressions with parts that are lent.
use Rattle.std.proofs.Common.{◌≡◌, ◌⊎◌, inl, inr, ℕ, suc, ◌+◌, ◌<◌, Bool, List, ◌∷◌, length, drop, get_or, Vec, Box, Global, Result, OnOk, sym, ap, ap₂, ◌∙◌, add-one, drop-cons}
use Rattle.tera_errors.specs.declared.span.Span.{Span}
use Rattle.std.specs.declared.alloc.AllocError.{AllocError}
use Rattle.tera_syntax_tree.specs.declared.expression.Item.{Item}
use Rattle.tera_syntax_tree.specs.declared.expression.EntryExpression.{EntryExpression}
use Rattle.tera_syntax_tree.specs.declared.expression.Argument.{Argument}
use Rattle.tera_syntax_tree.specs.declared.expression.Applied.{Applied}
use Rattle.tera_syntax_tree.specs.declared.expression.FunctionCall.{FunctionCall, out-FunctionCall}
use Rattle.tera_syntax_tree.specs.declared.expression.Collected.{Collected}
use Rattle.tera_syntax_tree.specs.declared.expression.ComponentTag.{ComponentTag, out-ComponentTag}
use Rattle.tera_syntax_tree.specs.declared.expression.BinaryOperator.{BinaryOperator}
use Rattle.tera_syntax_tree.specs.declared.expression.Operands.{Operands}
use Rattle.tera_syntax_tree.specs.declared.expression.Indexed.{Indexed}
use Rattle.tera_syntax_tree.specs.declared.expression.Choice.{Choice}
use Rattle.tera_syntax_tree.specs.declared.expression.Sliced.{Sliced}
use Rattle.tera_syntax_tree.specs.declared.expression.Expression.{Expression}
use Rattle.tera_syntax_tree.specs.declared.expression.Expression.TheVariants as expression
use Rattle.tera_syntax_tree.specs.View.{expr_of, items_of, entries_of, arguments_of}
use Rattle.tera_syntax_tree.proofs.Views.{view_array, view_map, view_super, view_filter, view_test, view_call, view_component, view_comprehension, view_slice}
use Rattle.tera_syntax_tree.specs.Free.{Names, expr_free, items_free, entries_free, arguments_free, ◌∪◌}
use Rattle.tera_syntax_tree.specs.Sets.{applied_free, collected_free, bounds_free}
use Rattle.tera_syntax_tree.proofs.Unions.{ok-then}

pub drop-here : {A : Type 0} (xs : List A) (i : ℕ) (x : A) → i < length xs → x ≡ get_or xs i x → drop i xs ≡ x ∷ drop (i + 1) xs
drop-here xs i x l e =
    drop-cons xs i x l ∙ ap (λ y. y ∷ drop (suc i) xs) (sym e) ∙ ap (λ n. x ∷ drop n xs) (sym (add-one i))

-- what is added is that of the whole
pub whole : (r : Result (Unit {0}) AllocError) (p q l n : Names) → p ≡ q → OnOk r (n ≡ p ∪ l) → OnOk r (n ≡ q ∪ l)
whole r p q l n e h = ok-then r (λ g. g ∙ ap (λ x. x ∪ l) e) h

pub array : (e : Expression) (items : Vec Item Global) (span : Span) (xs : List Item) → e ≡ expression.Array items span → xs ≡ items.items → items_free (items_of xs) ≡ expr_free (expr_of e)
array e items span xs is a =
    ap (λ x. items_free (items_of x)) a ∙ sym (ap expr_free (ap expr_of is ∙ view_array items span))

pub map : (e : Expression) (entries : Vec EntryExpression Global) (span : Span) (xs : List EntryExpression) → e ≡ expression.Map entries span → xs ≡ entries.items → entries_free (entries_of xs) ≡ expr_free (expr_of e)
map e entries span xs is a =
    ap (λ x. entries_free (entries_of x)) a ∙ sym (ap expr_free (ap expr_of is ∙ view_map entries span))

pub super : (e : Expression) (arguments : Vec Argument Global) (span : Span) (xs : List Argument) → e ≡ expression.Super arguments span → xs ≡ arguments.items → arguments_free (arguments_of xs) ≡ expr_free (expr_of e)
super e arguments span xs is a =
    ap (λ x. arguments_free (arguments_of x)) a ∙ sym (ap expr_free (ap expr_of is ∙ view_super arguments span))

pub call : (e : Expression) (called : Box FunctionCall Global) (span : Span) (xs : List Argument) → e ≡ expression.Call called span → xs ≡ (out-FunctionCall called.value).arguments.items → arguments_free (arguments_of xs) ≡ expr_free (expr_of e)
call e called span xs is a =
    ap (λ x. arguments_free (arguments_of x)) a ∙ sym (ap expr_free (ap expr_of is ∙ view_call called span))

pub component : (e : Expression) (tag : Box ComponentTag Global) (span : Span) (xs : List EntryExpression) → e ≡ expression.Component tag span → xs ≡ (out-ComponentTag tag.value).attributes.items → entries_free (entries_of xs) ≡ expr_free (expr_of e)
component e tag span xs is a =
    ap (λ x. entries_free (entries_of x)) a ∙ sym (ap expr_free (ap expr_of is ∙ view_component tag span))

pub applied : (e : Expression) (parts : Box Applied Global) (x : Applied) → ((s : Span) × (e ≡ expression.Filter parts s)) ⊎ ((s : Span) × (e ≡ expression.Test parts s)) → x ≡ parts.value → applied_free x ≡ expr_free (expr_of e)
applied e parts x (inl p) v =
    ap applied_free v ∙ sym (ap expr_free (ap expr_of p.1 ∙ view_filter parts p.0))
applied e parts x (inr p) v =
    ap applied_free v ∙ sym (ap expr_free (ap expr_of p.1 ∙ view_test parts p.0))

pub comprehension : (e : Expression) (collected : Box Collected Global) (span : Span) (x : Collected) → e ≡ expression.Comprehension collected span → x ≡ collected.value → collected_free x ≡ expr_free (expr_of e)
comprehension e collected span x is v =
    ap collected_free v ∙ sym (ap expr_free (ap expr_of is ∙ view_comprehension collected span))

pub slice : (e : Expression) (optional : Bool) (sliced : Box Sliced Global) (span : Span) (x y : Sliced) → e ≡ expression.Slice optional sliced span → x ≡ sliced.value → y ≡ sliced.value → expr_free (expr_of x.target) ∪ bounds_free y.bounds ≡ expr_free (expr_of e)
slice e optional sliced span x y is v w =
    ap₂ (λ x y. expr_free (expr_of x.target) ∪ bounds_free y.bounds) v w ∙ sym (ap expr_free (ap expr_of is ∙ view_slice optional sliced span))

pub index : (e : Expression) (optional : Bool) (parts : Box Indexed Global) (span : Span) (x y : Indexed) → e ≡ expression.Index optional parts span → x ≡ parts.value → y ≡ parts.value → expr_free (expr_of x.target) ∪ expr_free (expr_of y.index) ≡ expr_free (expr_of e)
index e optional parts span x y is v w =
    ap₂ (λ s t. expr_free (expr_of s.target) ∪ expr_free (expr_of t.index)) v w ∙ sym (ap (λ z. expr_free (expr_of z)) is)

abbrev HasOperands : Expression → Box Operands Global → Type 0
HasOperands e operands =
    ((o : BinaryOperator) × (s : Span) × (e ≡ expression.Binary o operands s)) ⊎ (((s : Span) × (e ≡ expression.And operands s)) ⊎ ((s : Span) × (e ≡ expression.Or operands s)))

in_operands : (e : Expression) (operands : Box Operands Global) → HasOperands e operands → expr_free (expr_of operands.value.left) ∪ expr_free (expr_of operands.value.right) ≡ expr_free (expr_of e)
in_operands e operands (inl p) = sym (ap (λ z. expr_free (expr_of z)) p.2)
in_operands e operands (inr (inl p)) = sym (ap (λ z. expr_free (expr_of z)) p.1)
in_operands e operands (inr (inr p)) = sym (ap (λ z. expr_free (expr_of z)) p.1)

pub two_operands : (e : Expression) (operands : Box Operands Global) (x y : Operands) → HasOperands e operands → x ≡ operands.value → y ≡ operands.value → expr_free (expr_of x.left) ∪ expr_free (expr_of y.right) ≡ expr_free (expr_of e)
two_operands e operands x y is v w =
    ap₂ (λ s t. expr_free (expr_of s.left) ∪ expr_free (expr_of t.right)) v w ∙ in_operands e operands is

pub ternary : (e : Expression) (choice : Box Choice Global) (span : Span) (x y z : Choice) → e ≡ expression.Ternary choice span → x ≡ choice.value → y ≡ choice.value → z ≡ choice.value → expr_free (expr_of x.value) ∪ (expr_free (expr_of y.condition) ∪ expr_free (expr_of z.other)) ≡ expr_free (expr_of e)
ternary e choice span x y z is v w u =
    ap₂ (λ s t. expr_free (expr_of s.value) ∪ (expr_free (expr_of t.condition) ∪ expr_free (expr_of z.other))) v w ∙ ap (λ t. expr_free (expr_of choice.value.value) ∪ (expr_free (expr_of choice.value.condition) ∪ expr_free (expr_of t.other))) u ∙ sym (ap (λ k. expr_free (expr_of k)) is)
