-- What is set in turns, layer by layer.
use Rattle.std.proofs.Common.{◌≡◌, inl, inr, ℕ, suc, ◌<◌, ◌≤◌, List, length, reverse, sym, ap, ◌∙◌, arith}
use Rattle.std.proofs.lemmas.List.{length-reverse}
use Rattle.std.proofs.lemmas.Option.{slice_get_cases}
use Rattle.tera_values.specs.Val.{Val}
use Rattle.tera_values.specs.Named.{Named, put_all}
use Rattle.tera_state.specs.Bound.{layer_of}
use Rattle.tera_state.specs.Opened.{turns_of}
use Rattle.tera_state.specs.Scope.{put_turns}
use Rattle.tera_state.specs.Stack.{lower}
use Rattle.tera_state.specs.declared.bindings.Binding.{Binding}
use Rattle.tera_state.specs.declared.loops.ForLoop.{ForLoop}
use Rattle.tera_state.proofs.Finds.{lower_step, lower_length}

module _ (bs : List Binding) (f : ℕ) (ls : List ForLoop) (m : Named Val) where
  abbrev pub up_to : ℕ → Named Val
  up_to k = put_turns (turns_of bs f (lower k ls)) m

  -- one layer more
  pub up_to-suc : (k : ℕ) → k < length ls → up_to (suc k) ≡ put_all (layer_of bs f (suc k)) (up_to k)
  up_to-suc k lt = elim ((slice_get_cases (reverse ls) k).1) [
    | inl t ↦
        let le : k ≤ length ls = omega (arith, lt) in
        ap (λ (below : List ForLoop). put_turns (turns_of bs f below) m) (lower_step ls k t.0 t.2)
        ∙ ap (λ (j : ℕ). put_all (layer_of bs f (suc j)) (up_to k)) (lower_length ls k le)
    | inr t ↦ absurd (omega (arith, t.0, length-reverse ls, lt))
  ]

  pub next_layer : (k j : ℕ) (names new : Named Val) → j ≡ suc k → k < length ls → names ≡ up_to k → new ≡ put_all (layer_of bs f j) names → new ≡ up_to j
  next_layer k j names new e lt before made =
      made
      ∙ ap (put_all (layer_of bs f j)) before
      ∙ ap (λ (i : ℕ). put_all (layer_of bs f i) (up_to k)) e
      ∙ sym (up_to-suc k lt)
      ∙ ap up_to (sym e)
