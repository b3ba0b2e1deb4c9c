-- Previews, one after another.
use Rattle.std.proofs.Common.{◌≡◌, ℕ, ◌+◌, ◌<◌, Bool, List, [], ◌∷◌, ◌++◌, length, take, sym, ap, ◌∙◌}
use Rattle.std.specs.Prelude.{string_bytes}
use Rattle.std.proofs.Math.ListN.{get_or}
use Rattle.std.proofs.lemmas.List.{map-append, take_more}
use Rattle.std.proofs.lemmas.List.Elements.{All-push}
use Rattle.tera.specs.Site.{Name}
use Rattle.tera.specs.Val.{Val}
use Rattle.tera.specs.Named.{Named}
use Rattle.tera.specs.MeaningRegistry.{Registry}
use Rattle.tera_job.specs.Previews.{IsPreview, PreviewsOf}
use Rattle.tera_job.specs.declared.preview.Preview.{Preview}

-- one more
pub previews_at : (r : Registry) (context : Named Val) (autoescape : Bool) (names : List Name) (i : ℕ) (name : Name) (ps : List Preview) (p : Preview) → i < length names → get_or names i [] ≡ name → PreviewsOf r context autoescape (take i names) ps → string_bytes p.name ≡ name → IsPreview r context autoescape p
    → PreviewsOf r context autoescape (take (i + 1) names) (ps ++ p ∷ [])
previews_at r context autoescape names i name ps p lt at h named k = (
  map-append (λ (q : Preview). string_bytes q.name) ps (p ∷ []) ∙ ap (λ (ns : List Name). ns ++ string_bytes p.name ∷ []) h.0 ∙ ap (λ (n : Name). take i names ++ n ∷ []) (named ∙ sym at) ∙ sym (take_more names i [] lt),
  All-push (IsPreview r context autoescape) ps p h.1 k,
)
