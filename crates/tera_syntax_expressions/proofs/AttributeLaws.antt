-- Attributes up to where none begins: what is read is derived, and what is derived is read.
use Rattle.std.proofs.Common.{◌≡◌, ℕ, ◌≤◌, true, false, nat_le, Some, refl, ◌∙◌, subst, arith}
use Rattle.std.proofs.lemmas.Grind.{common_steps}
use Rattle.tera_syntax_tree.specs.Tree.{Entries, NoEntries}
use Rattle.tera_syntax_tree.specs.Depth.{entries_depth}
use Rattle.tera_syntax_tokens.specs.Input.{Input, kind, left}
use Rattle.tera_syntax_expressions.specs.Arguments.{begins_attribute}
use Rattle.tera_syntax_expressions.specs.Grammar.{DerivesAttributes}
use Rattle.tera_syntax_expressions.specs.Expressions as r
use Rattle.tera_syntax_expressions.specs.Expressions.{expr}
use Rattle.tera_syntax_expressions.proofs.Steps.{and_then-some, guard, some-pair}
use Rattle.tera_syntax_expressions.proofs.Rows.{got-first}
use Rattle.tera_syntax_expressions.proofs.AttributeRows.{all-attributes-got}
use Rattle.tera_syntax_expressions.proofs.Sections.{reads-expr}
use Rattle.tera_syntax_expressions.proofs.Complete.{goes-attributes}

pub attributes_are_derived : (b : ℕ) (i j : Input) (z : Entries × ℕ) → r.attributes b i ≡ Some (z, j) → DerivesAttributes z.0 i j × (z.1 ≡ entries_depth z.0) × (entries_depth z.0 ≤ b)
unfolding r.attributes
attributes_are_derived b i j z h =
    let q = and_then-some (r.attributes_from b (expr b) (left i) NoEntries 0 i) (r.no_deeper b) (z, j) h in
    let g = guard (nat_le q.0.1 b) (Some (q.0, q.1)) (z, j) q.3 in
    let s = some-pair (q.0, q.1) (z, j) g.1 in
    let w = all-attributes-got b (expr b) (reads-expr b) (left i) i q.1 q.0 q.2 in
    let le : q.0.1 ≤ b = grind (arith, common_steps, g.0) in
    let e = w.1 in
    let P : Entries × ℕ → Input → Type 0 = λ z j. DerivesAttributes z.0 i j × (z.1 ≡ entries_depth z.0) × (entries_depth z.0 ≤ b) in
    subst (λ z. P z j) s.0 (subst (P q.0) s.1 (w.0, e, omega (arith, e, le)))

-- What is derived is read, where no attribute follows.
pub attributes_are_read : (xs : Entries) (i j : Input) → DerivesAttributes xs i j → begins_attribute (kind j) ≡ false → (b : ℕ) → entries_depth xs ≤ b → r.attributes b i ≡ Some ((xs, entries_depth xs), j)
unfolding r.attributes
attributes_are_read xs i j d h b le =
    let t : nat_le (entries_depth xs) b ≡ true = grind (arith, common_steps) in
    let e = goes-attributes d h b b (left i) NoEntries 0 le (omega arith) ∙ got-first (entries_depth xs) j in
    rw (e, t) refl
