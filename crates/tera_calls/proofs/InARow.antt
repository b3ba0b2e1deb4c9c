-- Calls one after another.
use Rattle.std.proofs.Common.{◌≡◌, List, [], ◌∷◌, ◌++◌, refl, sym, subst}
use Rattle.tera.specs.declared.engine.TeraOver.{TeraOver}
use Rattle.tera.specs.Registry.{registry_of}
use Rattle.tera_state.specs.Kept.{Meanings, engine_of}
use Rattle.tera_state.specs.declared.objects.caller_objects.ObjectsOver.{ObjectsOver}
use Rattle.tera_meaning.specs.Registry.{Registry}
use Rattle.tera_calls.specs.declared.call.CallOver.{CallOver}
use Rattle.tera_calls.specs.Calls.{Answer, Ends, Leads}

module _ {E F T G : Type 0} (objects : Meanings E F T G) where
  -- one call more
  pub Leads-snoc : (now last next : Registry) (calls : List (CallOver E F T G)) (answers : List Answer) (call : CallOver E F T G) (answer : Answer) → Leads objects now calls answers last → Ends objects call answer last next → Leads objects now (calls ++ call ∷ []) (answers ++ answer ∷ []) next
  Leads-snoc now last next [] [] call answer h more = (next, subst (λ r. Ends objects call answer r next) (sym h) more, refl)
  Leads-snoc now last next [] (a ∷ answers) call answer h more = absurd h
  Leads-snoc now last next (c ∷ calls) [] call answer h more = absurd h
  Leads-snoc now last next (c ∷ calls) (a ∷ answers) call answer h more = (h.0, h.1, Leads-snoc h.0 last next calls answers call answer h.2 more)

  -- these calls were made, with these answers, and led from one engine to another
  pub record Made (old : TeraOver (ObjectsOver E F T G)) (calls : List (CallOver E F T G)) (answers : List Answer) (left : TeraOver (ObjectsOver E F T G)) : Type 0 where
    pub led : Leads objects (registry_of (engine_of objects) old) calls answers (registry_of (engine_of objects) left)

  pub Made-none : (old : TeraOver (ObjectsOver E F T G)) → Made old [] [] old
  Made-none old = record { led = refl }

  pub Made-more : (old left next : TeraOver (ObjectsOver E F T G)) (calls : List (CallOver E F T G)) (answers more : List Answer) (call : CallOver E F T G) (answer : Answer) → Made old calls answers left → more ≡ answers ++ answer ∷ []
      → Ends objects call answer (registry_of (engine_of objects) left) (registry_of (engine_of objects) next) → Made old (calls ++ call ∷ []) more next
  Made-more old left next calls answers more call answer made is ends =
      record { led = rw is (Leads-snoc (registry_of (engine_of objects) old) (registry_of (engine_of objects) left) (registry_of (engine_of objects) next) calls answers call answer made.led ends) }
