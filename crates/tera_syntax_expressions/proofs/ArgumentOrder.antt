-- The arguments of a call are in the order of their names.
use Rattle.std.proofs.Common.{◌≡◌, Option, Some, None, option_map, refl, ◌∙◌, ap, subst, Ordering, Less, Equal, Greater}
use Rattle.std.specs.Ordering.{ordering_reverse}
use Rattle.std.proofs.lemmas.Cmp.{nat_list_cmp_total}
use Rattle.tera_errors.specs.Site.{Name}
use Rattle.tera_syntax_tree.specs.Tree.{Expr, Arguments, NoArguments, MoreArguments}
use Rattle.tera_syntax_tokens.specs.Input.{Input, text}
use Rattle.tera_syntax_expressions.specs.Arguments.{name_cmp, put_argument, IsBefore, AreInOrder}
use Rattle.tera_syntax_expressions.specs.Grammar.{argument, DerivesArguments, no_arguments, one_argument, more_arguments}
use Rattle.tera_syntax_expressions.proofs.ArgumentRows.{put_by}

flipped : (n m : Name) → name_cmp n m ≡ Greater → name_cmp m n ≡ Less
flipped n m h = nat_list_cmp_total.antisymm m n ∙ ap ordering_reverse h

-- what is put behind a name
put-behind : (k n : Name) (x : Expr) (found all : Arguments) → put_argument n x found ≡ Some all → name_cmp k n ≡ Less → IsBefore k found → IsBefore k all
put-behind k n x NoArguments all h less b = let e : MoreArguments n x NoArguments ≡ all = cc in subst (IsBefore k) e less
put-behind k n x (MoreArguments m y rest) all h less b = go (name_cmp n m) h
  where
    behind : (o : Option Arguments) → option_map (MoreArguments m y) o ≡ Some all → IsBefore k all
    behind None h = cc
    behind (Some more) h = let e : MoreArguments m y more ≡ all = cc in subst (IsBefore k) e b

    go : (o : Ordering) → put_by o n x m y rest ≡ Some all → IsBefore k all
    go Less h = let e : MoreArguments n x (MoreArguments m y rest) ≡ all = cc in subst (IsBefore k) e less
    go Equal h = cc
    go Greater h = behind (put_argument n x rest) h

put-in-order : (n : Name) (x : Expr) (found all : Arguments) → put_argument n x found ≡ Some all → AreInOrder found → AreInOrder all
put-in-order n x NoArguments all h p = let e : MoreArguments n x NoArguments ≡ all = cc in subst AreInOrder e (tt, tt)
put-in-order n x (MoreArguments m y rest) all h p = go (λ more e. put-in-order n x rest more e p.1) (name_cmp n m) refl h
  where
    behind : ((more : Arguments) → put_argument n x rest ≡ Some more → AreInOrder more) → name_cmp n m ≡ Greater → (o : Option Arguments) → put_argument n x rest ≡ o → option_map (MoreArguments m y) o ≡ Some all → AreInOrder all
    behind again c None e h = cc
    behind again c (Some more) e h =
        let f : MoreArguments m y more ≡ all = cc in
        subst AreInOrder f (put-behind m n x rest more e (flipped n m c) p.0, again more e)

    go : ((more : Arguments) → put_argument n x rest ≡ Some more → AreInOrder more) → (o : Ordering) → name_cmp n m ≡ o → put_by o n x m y rest ≡ Some all → AreInOrder all
    go again Less c h = let e : MoreArguments n x (MoreArguments m y rest) ≡ all = cc in subst AreInOrder e (c, p)
    go again Equal c h = cc
    go again Greater c h = behind again c (put_argument n x rest) refl h

-- Arguments behind others in order are in order, so those of a call are.
pub derived_in_order : {found all : Arguments} {i j : Input} → DerivesArguments found all i j → AreInOrder found → AreInOrder all
derived_in_order no_arguments p = p
derived_in_order (one_argument (argument {found = found} {all = all} {x = x} {i = i} h q d e)) p = put-in-order (text i) x found all e p
derived_in_order (more_arguments (argument {found = found} {all = all} {x = x} {i = i} h q d e) g u) p = derived_in_order u (put-in-order (text i) x found all e p)
