-- Open loops, by their places and by their turns to come.
use Rattle.std.proofs.Common.{◌≡◌, ◌≢◌, false, List, [], ◌∷◌, Some, None, refl, sym, ap, ap₂, ◌∙◌, true≢false}
use Rattle.std.specs.Prelude.{IsTrue, ◌↔◌, Bool, true, ℕ, zero, suc, drop, length, slice_get, option_map}
use Rattle.tera_state.specs.Scope.{Turn, Variables}
use Rattle.tera_state.specs.Scopes.{GoesRound}
use Rattle.tera_machine.specs.declared.loop_place.LoopPlace.{LoopPlace}
use Rattle.tera_machine.specs.Config.{Config, loops_at}
use Rattle.tera_machine.specs.Flow.{On, To}
use Rattle.tera_machine.specs.Did.{Goes, Sticks}
use Rattle.tera_machine.specs.Loops.{turned, innermost}
use Rattle.tera_machine.specs.Effect.{beneath_in}

-- with these loops and variables
abbrev looping : Config → List LoopPlace → List (List Turn) → Variables → Config
looping c places coming v = record c { loops = loops_at places coming; run = record c.run { vars = v } }

loops_at-none : (places : List LoopPlace) → loops_at places [] ≡ []
loops_at-none [] = refl
loops_at-none (p ∷ ps) = refl

-- an open loop has turns to come, or had some
pub has_turns : (places : List LoopPlace) (coming : List (List Turn)) → loops_at places coming ≢ [] → coming ≢ []
has_turns places coming h = λ e. h (ap (loops_at places) e ∙ loops_at-none places)

pub none_innermost : (places : List LoopPlace) (coming : List (List Turn)) → coming ≡ [] → innermost (loops_at places coming) ≡ None
none_innermost places coming e = ap (λ tss. innermost (loops_at places tss)) e ∙ ap innermost (loops_at-none places)

pub none_open : (coming : List (List Turn)) → (IsTrue false ↔ (coming ≢ [])) → coming ≡ []
none_open [] h = refl
none_open (ts ∷ tss) h =
    let e : IsTrue false = h.1 (λ e. cc) in
    absurd (true≢false (sym e))

-- the innermost loop is that of the topmost place
pub top_innermost : (places : List LoopPlace) (coming : List (List Turn)) (place : LoopPlace) → coming ≢ [] → slice_get places 0 ≡ Some place → innermost (loops_at places coming) ≡ Some (place.start, place.size)
top_innermost [] coming place h e = cc
top_innermost (p ∷ ps) [] place h e = absurd (h refl)
top_innermost (p ∷ ps) (ts ∷ outer) place h e = ap (option_map (λ q. (q.start, q.size))) e

-- where no turn is to come the machine goes on behind the loop's body
pub goes_past : (c : Config) (places : List LoopPlace) (coming coming' : List (List Turn)) (v v' : Variables) → turned (looping c places coming v) ≢ Sticks → GoesRound false coming v coming' v' → turned (looping c places coming v) ≡ Goes (looping c places coming' v') On
goes_past c [] coming coming' v v' h k = absurd (h refl)
goes_past c (p ∷ ps) [] coming' v v' h k = absurd (h refl)
goes_past c (p ∷ ps) ([] ∷ outer) coming' v v' h k =
    ap₂ (λ tss w. Goes (looping c (p ∷ ps) tss w) On) (sym k.1) (sym k.2)
goes_past c (p ∷ ps) ((t ∷ ts) ∷ outer) coming' v v' h k = absurd (true≢false (sym k.0))

-- where a turn is to come it goes on where the loop's body starts
pub goes_round : (c : Config) (places : List LoopPlace) (coming coming' : List (List Turn)) (v v' : Variables) (place : LoopPlace) → turned (looping c places coming v) ≢ Sticks → GoesRound true coming v coming' v' → slice_get places 0 ≡ Some place → turned (looping c places coming v) ≡ Goes (looping c places coming' v') (To place.start 0)
goes_round c [] coming coming' v v' place h k e = absurd (h refl)
goes_round c (p ∷ ps) [] coming' v v' place h k e = absurd (h refl)
goes_round c (p ∷ ps) ([] ∷ outer) coming' v v' place h k e = absurd (true≢false k.0)
goes_round c (p ∷ ps) ((t ∷ ts) ∷ outer) coming' v v' place h k e =
    let same : p ≡ place = cc in
    ap₂ (λ tss w. Goes (looping c (p ∷ ps) tss w) (To p.start 0)) (sym k.1) (sym k.2)
    ∙ ap (λ q. Goes (looping c (p ∷ ps) coming' v') (To q.start 0)) same

abbrev nothing : List (List Turn)
nothing = []

none_left : (n : ℕ) → drop n nothing ≡ nothing
none_left zero = refl
none_left (suc n) = refl

-- without the innermost loop of the body, those around it are as before
pub beneath_closed : {A : Type 0} (place : A) (places places' : List A) (coming coming' : List (List Turn)) → places ≡ place ∷ places' → coming' ≡ drop 1 coming → beneath_in places' coming' ≡ beneath_in places coming
beneath_closed place places places' [] coming' e f =
    ap (beneath_in places') f ∙ none_left (length places') ∙ sym (none_left (length places))
beneath_closed place places places' (ts ∷ outer) coming' e f =
    ap (beneath_in places') f ∙ sym (ap (λ ps. beneath_in ps (ts ∷ outer)) e)

-- a turn that is over changes nothing of the loops around the body
pub beneath_turned : (c : Config) (places : List LoopPlace) (coming coming' : List (List Turn)) (v v' : Variables) (more : Bool) → turned (looping c places coming v) ≢ Sticks → GoesRound more coming v coming' v' → beneath_in places coming' ≡ beneath_in places coming
beneath_turned c [] coming coming' v v' more h k = absurd (h refl)
beneath_turned c (p ∷ ps) [] coming' v v' more h k = ap (beneath_in (p ∷ ps)) k.1
beneath_turned c (p ∷ ps) ([] ∷ outer) coming' v v' more h k = ap (beneath_in (p ∷ ps)) k.1
beneath_turned c (p ∷ ps) ((t ∷ ts) ∷ outer) coming' v v' more h k = ap (beneath_in (p ∷ ps)) k.1
