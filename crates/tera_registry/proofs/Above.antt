-- The positions of a template and its parents, one more at a time.
use Rattle.std.proofs.Common.{◌≡◌, ℕ, List, [], ◌∷◌, ◌++◌, Some, None, sym, ap, ◌∙◌, append_assoc, slice_get}
use Rattle.tera_meaning.specs.Registry.{Registry, Entry}
use Rattle.tera_meaning.specs.Lineage.{ancestors}
use Rattle.tera_registry.specs.Edges.{all_at}
use Rattle.tera_registry.proofs.Ancestors.{none-above}
use Rattle.tera_registry.proofs.Filled.{all_at-push}

pub passed : (r : Registry) (positions : List ℕ) (last : ℕ) (t u v : Entry) → slice_get r.templates last ≡ Some u → ancestors r u ≡ v ∷ ancestors r v → all_at r.templates positions ++ u ∷ ancestors r u ≡ t ∷ ancestors r t → all_at r.templates (positions ++ last ∷ []) ++ v ∷ ancestors r v ≡ t ∷ ancestors r t
passed r positions last t u v at behind is =
    let so_far = all_at r.templates positions in
    ap (λ l. l ++ v ∷ ancestors r v) (all_at-push r.templates positions last u at) ∙ append_assoc so_far (u ∷ []) (v ∷ ancestors r v) ∙ ap (λ l. so_far ++ u ∷ l) (sym behind) ∙ is

pub passed-last : (r : Registry) (positions : List ℕ) (last : ℕ) (t u : Entry) → slice_get r.templates last ≡ Some u → u.1.tree.parent ≡ None → all_at r.templates positions ++ u ∷ ancestors r u ≡ t ∷ ancestors r t → all_at r.templates (positions ++ last ∷ []) ≡ t ∷ ancestors r t
passed-last r positions last t u at none is =
    let so_far = all_at r.templates positions in
    all_at-push r.templates positions last u at ∙ ap (λ l. so_far ++ u ∷ l) (sym (none-above r u none)) ∙ is
