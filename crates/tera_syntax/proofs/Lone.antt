-- A tag that is one name.
use Rattle.std.proofs.Common.{◌≡◌, ℕ, suc, ◌<◌, ◌-◌, List, [], ◌∷◌, Bool, true, nat_lt, Some, refl, ap, ap₂, ◌∙◌, arith}
use Rattle.std.proofs.lemmas.Grind.{common_steps}
use Rattle.tera_syntax_tokens.specs.declared.token.Kind.TheVariants as k
use Rattle.tera_syntax_tokens.specs.Input.{begin, kind, next, start, text}
use Rattle.tera_syntax_tokens.specs.Token.{Token}
use Rattle.tera_syntax_tree.specs.Tree.{Name, Print}
use Rattle.tera_syntax_expressions.specs.Expressions.{expr, gives, head, needs, node}
use Rattle.tera_syntax_expressions.specs.Arguments.{is_call}
use Rattle.tera_syntax_expressions.specs.Loops.{loop_name}
use Rattle.tera_syntax_expressions.proofs.Alone.{stands, no_loop}
use Rattle.tera_syntax.specs.Reader.{Progress, room, whole, printed, added}
use Rattle.tera_syntax.proofs.Whole.{put_read}
use Rattle.tera_syntax_tree.specs.Depth.{max_tree_depth}

-- it reads as this name, wherever an expression may stand
pub name_is_whole : (limit : ℕ) (in_loop : Bool) (t : Token) → t.kind ≡ k.Name → whole (suc limit) (begin in_loop (t ∷ [])) ≡ Some (Name t.text t.span)
unfolding whole expr head kind start is_call node next gives needs text loop_name
name_is_whole limit in_loop t h =
    let i = begin in_loop (t ∷ []) in
    let lt : nat_lt 0 (suc limit) ≡ true = grind (arith, common_steps) in
    rw (stands (suc limit) (expr limit) 0 i (rw h refl), h, no_loop i refl, lt) refl

-- so what it prints is put behind what was read
pub name_is_printed : (s : Progress) (tokens : List Token) (t : Token) → tokens ≡ t ∷ [] → t.kind ≡ k.Name → 0 < room max_tree_depth s → printed max_tree_depth s (whole (room max_tree_depth s) (begin s.surroundings.in_loop tokens)) ≡ Some (added s (Print (Name t.text t.span)))
name_is_printed s tokens t e h le =
    let n = Print (Name t.text t.span) in
    let r : room max_tree_depth s ≡ suc (room max_tree_depth s - 1) = omega (arith, le) in
    let i = begin s.surroundings.in_loop tokens in
    let w : whole (room max_tree_depth s) i ≡ Some (Name t.text t.span) = ap₂ (λ m ts. whole m (begin s.surroundings.in_loop ts)) r e ∙ name_is_whole (room max_tree_depth s - 1) s.surroundings.in_loop t h in
    ap (printed max_tree_depth s) w ∙ put_read max_tree_depth s i (Name t.text t.span) n w
