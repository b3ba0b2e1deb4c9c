-- Arguments by their names, and where one more is put.
use Rattle.std.proofs.Common.{◌≡◌, Bool, true, false, cond, List, [], ◌∷◌, ◌++◌, Option, Some, None, option_map, is_some, refl, ap, ◌∙◌, Ordering, Less, Equal, Greater}
use Rattle.std.proofs.lemmas.Cmp.{nat_list_cmp_total}
use Rattle.std.specs.BTreeMap.{insert_entry, is_at}
use Rattle.std.specs.Borrow.{Bor}
use Rattle.std.specs.List.{AllByRecursion}
use Rattle.std.specs.List.Sorted.{IsStrictlySortedBy}
use Rattle.std.specs.Map.{keys_of, lookup}
use Rattle.std.specs.Ordering.{is_eq, match_ordering}
use Rattle.tera_errors.specs.Site.{Name}
use Rattle.tera_syntax_tree.specs.declared.expression.Argument.{Argument}
use Rattle.tera_syntax_tree.specs.declared.expression.Expression as declared
use Rattle.tera_syntax_tree.specs.Tree.{Expr, Arguments, MoreArguments}
use Rattle.tera_syntax_tree.specs.View.{arguments_of, expr_of}
use Rattle.tera_syntax_expressions.specs.Arguments.{put_argument}
use Rattle.tera_syntax_expressions.specs.Parts.{by_name, named_arguments}

abbrev pub Entries : Type 0
Entries = List (Bor Name × declared.Expression)

module _ (n : Bor Name) where
  -- whether the name is there
  abbrev pub has : Entries → Bool
  has es = is_some (lookup (is_at (by_name n)) es)

  module _ (x : declared.Expression) where
    -- One whose name is not there is put at its place.
    pub put-new : (es : Entries) → has es ≡ false → put_argument n.now (expr_of x) (named_arguments es) ≡ Some (named_arguments (insert_entry by_name es n x))
    put-new [] h = refl
    put-new (e ∷ es) h = go (put-new es) (by_name n e.0) h
      where
        go : (has es ≡ false → put_argument n.now (expr_of x) (named_arguments es) ≡ Some (named_arguments (insert_entry by_name es n x)))
            → (o : Ordering) → is_some (cond (is_eq o) (Some e.1) (lookup (is_at (by_name n)) es)) ≡ false
            → match_ordering o (Some (MoreArguments n.now (expr_of x) (named_arguments (e ∷ es)))) None (option_map (MoreArguments e.0.now (expr_of e.1)) (put_argument n.now (expr_of x) (named_arguments es)))
            ≡ Some (named_arguments (match_ordering o ((n, x) ∷ e ∷ es) ((e.0, x) ∷ es) (e ∷ insert_entry by_name es n x)))
        go again Less h = refl
        go again Equal h = cc
        go again Greater h = ap (option_map (MoreArguments e.0.now (expr_of e.1))) (again h)

  -- A name that is below all is not there.
  below-all : (m : Bor Name) (es : Entries) → by_name n m ≡ Less → AllByRecursion (λ k. by_name m k ≡ Less) (keys_of es) → has es ≡ false
  below-all m [] lt all = refl
  below-all m (e ∷ es) lt all =
      ap (λ o. is_some (cond (is_eq o) (Some e.1) (lookup (is_at (by_name n)) es))) (nat_list_cmp_total.trans n.now m.now e.0.now lt all.0) ∙ below-all m es lt all.1

  -- One whose name is there is not put.
  pub put-old : (x : Expr) (es : Entries) → IsStrictlySortedBy by_name (keys_of es) → has es ≡ true → put_argument n.now x (named_arguments es) ≡ None
  unfolding IsStrictlySortedBy
  put-old x [] s h = cc
  put-old x (e ∷ es) s h = go (put-old x es s.1) (by_name n e.0) refl h
    where
      go : (has es ≡ true → put_argument n.now x (named_arguments es) ≡ None) → (o : Ordering) → by_name n e.0 ≡ o → is_some (cond (is_eq o) (Some e.1) (lookup (is_at (by_name n)) es)) ≡ true
          → match_ordering o (Some (MoreArguments n.now x (named_arguments (e ∷ es)))) None (option_map (MoreArguments e.0.now (expr_of e.1)) (put_argument n.now x (named_arguments es))) ≡ None
      go again Less lt h = let none : has es ≡ false = below-all e.0 es lt s.0 in cc
      go again Equal lt h = refl
      go again Greater lt h = ap (option_map (MoreArguments e.0.now (expr_of e.1))) (again h)

-- arguments in a row, and those that are left of the map behind them
abbrev pub joined : List Argument → Entries → Arguments
joined [] es = named_arguments es
joined (a ∷ all) es = MoreArguments a.name.now (expr_of a.value) (joined all es)

-- one more in the row is one fewer in the map
pub joined-push : (all : List Argument) (a : Argument) (es : Entries) → joined (all ++ a ∷ []) es ≡ joined all ((a.name, a.value) ∷ es)
joined-push [] a es = refl
joined-push (b ∷ all) a es = ap (MoreArguments b.name.now (expr_of b.value)) (joined-push all a es)

pub joined-all : (all : List Argument) → joined all [] ≡ arguments_of all
joined-all [] = refl
joined-all (b ∷ all) = ap (MoreArguments b.name.now (expr_of b.value)) (joined-all all)
