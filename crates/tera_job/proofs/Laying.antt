-- Data laid over data, one by one.
use Rattle.std.proofs.Common.{◌≡◌, inl, inr, ℕ, ◌+◌, ◌<◌, List, [], ◌∷◌, ◌++◌, length, take, drop, Some, None, Result, Ok, Err, refl, sym, subst}
use Rattle.std.proofs.Math.ListN.{get_or}
use Rattle.std.proofs.lemmas.List.{take_more, drop_more}
use Rattle.tera.specs.Fault.{Fault}
use Rattle.tera.specs.Answer.{SeenError, SaysOneOf}
use Rattle.tera.specs.Val.{Val}
use Rattle.tera.specs.Named.{Named}
use Rattle.tera_data.specs.declared.number.Floats.{Floats}
use Rattle.tera_job.specs.Data.{IsContextOf, Lays, LaysAll}
use Rattle.tera_job.specs.declared.datum.Datum.{Datum}

-- what has been laid, and one more
lays_more : (f : Floats) (there : Named Val) (ds : List Datum) (d : Datum) (c e : Named Val) → LaysAll f there ds (Ok c) → Lays f d c (Ok e) → LaysAll f there (ds ++ d ∷ []) (Ok e)
lays_more f there [] d c e h k = let same : c ≡ there = cc in inr (e, subst (λ (x : Named Val). Lays f d x (Ok e)) same k, refl)
lays_more f there (x ∷ ds) d c e (inl (fault, first, is)) k = absurd (cc)
lays_more f there (x ∷ ds) d c e (inr (next, first, rest)) k = inr (next, first, lays_more f next ds d c e rest k)

-- what is laid of a list from a position on
abbrev pub LaysFrom : Floats → Named Val → List Datum → ℕ → Result (Named Val) Fault → Type 0
LaysFrom f there ds i r = LaysAll f there (drop i ds) r

pub laid_more : (f : Floats) (ds : List Datum) (i : ℕ) (d : Datum) (c e : Named Val) → i < length ds → LaysAll f [] (take i ds) (Ok c) → Lays f (get_or ds i d) c (Ok e) → LaysAll f [] (take (i + 1) ds) (Ok e)
laid_more f ds i d c e lt h k = subst (λ xs. LaysAll f [] xs (Ok e)) (sym (take_more ds i d lt)) (lays_more f [] (take i ds) (get_or ds i d) c e h k)

pub lays_next : (f : Floats) (ds : List Datum) (i : ℕ) (d : Datum) (c e : Named Val) (r : Result (Named Val) Fault) → i < length ds → Lays f (get_or ds i d) c (Ok e) → LaysFrom f e ds (i + 1) r → LaysFrom f c ds i r
lays_next f ds i d c e r lt k h = subst (λ xs. LaysAll f c xs r) (sym (drop_more ds i d lt)) (inr (e, k, h))

pub lays_error : (f : Floats) (ds : List Datum) (i : ℕ) (d : Datum) (c : Named Val) (e : SeenError) → i < length ds → ((r : Result (Named Val) Fault) → LaysFrom f c ds i r → IsContextOf f ds r) → SaysOneOf e (Lays f (get_or ds i d) c) → SaysOneOf e (IsContextOf f ds)
lays_error f ds i d c None lt from h = tt
lays_error f ds i d c (Some fault) lt from h =
    from (Err fault) (subst (λ xs. LaysAll f c xs (Err fault)) (sym (drop_more ds i d lt)) (inl (fault, h, refl)))
