-- Real bodies that are entered and left follow the pure machine.
use Rattle.std.proofs.Common.{◌≡◌, ◌≢◌, ℕ, true, List, [], ◌∷◌, ◌++◌, Some, None, Ok, Err, refl, sym, ap, ap₂, ◌∙◌, subst, append_assoc, append-nil}
use Rattle.tera_errors.specs.Site.{Name, Text}
use Rattle.tera_errors.specs.Answer.{SeenError}
use Rattle.tera_state.specs.Scope.{Turn}
use Rattle.tera_state.specs.Scopes.{around_of, coming_of, coming_around}
use Rattle.tera_meaning.specs.Run.{Request}
use Rattle.tera_meaning.specs.Whole.{World, Place, Takes}
use Rattle.tera_registry.specs.HandedOut.{code_of}
use Rattle.tera_registry.specs.Templates.{definers_of}
use Rattle.tera_registry.specs.declared.templates.Definer.{Definer as Nearest}
use Rattle.tera_registry.specs.declared.templates.FoundTemplate.{FoundTemplate}
use Rattle.tera_code.specs.Listing.{Listing}
use Rattle.tera_code.specs.Code.{Code}
use Rattle.tera_machine.specs.declared.requests.BlockRequest.{BlockRequest}
use Rattle.tera_machine.specs.declared.requests.BlockRequest.TheVariants as asked
use Rattle.tera_machine.specs.declared.block_bodies.EnteredBlock.{EnteredBlock}
use Rattle.tera_machine.specs.declared.open_bodies.OpenBlock.{OpenBlock}
use Rattle.tera_machine.specs.declared.open_bodies.OpenBodies.{OpenBodies}
use Rattle.tera_machine.specs.declared.configuration.Configuration.{Configuration}
use Rattle.tera_machine.specs.declared.machine.VirtualMachine.{VirtualMachine}
use Rattle.tera_machine.specs.declared.loop_place.LoopPlace.{LoopPlace}
use Rattle.tera_machine.specs.Config.{Config, Loop, config_of, loops_at}
use Rattle.tera_machine.specs.Flow.{Flow, Use, Written, Pushed, block_request, block_use}
use Rattle.tera_machine.specs.Did.{Did, Goes}
use Rattle.tera_machine.specs.Effect.{beneath, beneath_in}
use Rattle.tera_machine.specs.Exec.{End, Finished, entered, used, left, left_in, Ends, BodyEnds}
use Rattle.tera_machine.specs.Advance.{BodyWithin}
use Rattle.tera_machine.specs.Included.{names_in, names_opened}
use Rattle.tera_machine.specs.OpenThings.{Nested, nothing}
use Rattle.tera_machine.specs.Subject.{template_of, place_at, place_of}
use Rattle.tera_machine.specs.Bodies.{opened_by, blocks_opened_by, blocks_closed_by, IsBody, FindsBody, Entered, Enters, closed_in, Leaves, Stays}
use Rattle.tera_machine.specs.WantedBlock.{ended_by}
use Rattle.tera_machine.proofs.Together.{Last, last_still}
use Rattle.tera_machine.proofs.Noting.{noted_then, noted_from}
use Rattle.tera_machine.proofs.Taking.{can_leave, body_done}

pub place_same : {O : Type 0} (m : VirtualMachine O) (file file0 : Name) {b0 b : OpenBodies} {c0 c : Configuration} → file ≡ file0 → Stays b0 c0 b c → place_at m file b c ≡ place_at m file0 b0 c0
place_same m file file0 {b0} {b} {c0} {c} e s =
    ap₂ (λ f a. record { template = template_of m; file = f; around = a; autoescape = m.autoescape; depth = m.depth; included = names_in b.included.inner; opened = names_opened b.opened.inner; above = definers_of b.above }) e s.around
    ∙ ap₂ (λ (o : Nested OpenBlock) ds. record { template = template_of m; file = file0; around = around_of c0.scopes; autoescape = m.autoescape; depth = m.depth; included = names_in b.included.inner; opened = names_opened o.inner; above = definers_of ds }) s.opened s.above
    ∙ ap (λ (i : Nested FoundTemplate). record { template = template_of m; file = file0; around = around_of c0.scopes; autoescape = m.autoescape; depth = m.depth; included = names_in i.inner; opened = names_opened b0.opened.inner; above = definers_of b0.above }) s.included

-- where nothing is open
pub place_none : {O : Type 0} (m : VirtualMachine O) (file : Name) (b : OpenBodies) (c : Configuration) → b.opened ≡ nothing → definers_of b.above ≡ [] → b.included ≡ nothing → place_at m file b c ≡ place_of m file c
place_none m file b c e f g =
    ap₂ (λ (o : Nested OpenBlock) ds. record { template = template_of m; file = file; around = around_of c.scopes; autoescape = m.autoescape; depth = m.depth; included = names_in b.included.inner; opened = names_opened o.inner; above = ds }) e f
    ∙ ap (λ (i : Nested FoundTemplate). record { template = template_of m; file = file; around = around_of c.scopes; autoescape = m.autoescape; depth = m.depth; included = names_in i.inner; opened = []; above = [] }) g

pub stays_then : {b0 b1 b2 : OpenBodies} {c0 c1 c2 : Configuration} → Stays b0 c0 b1 c1 → Stays b1 c1 b2 c2 → Stays b0 c0 b2 c2
stays_then s t = record {
  opened = t.opened ∙ s.opened;
  above = t.above ∙ s.above;
  included = t.included ∙ s.included;
  around = t.around ∙ s.around;
  beneath = t.beneath ∙ s.beneath;
  since = s.since ++ t.since;
  ended = t.ended ∙ ap (λ bs. bs ++ t.since) s.ended ∙ append_assoc _ s.since t.since;
  noted = noted_then s.since t.since s.noted t.noted;
}

-- what an instruction leaves as it is
moved : {b0 b : OpenBodies} {c0 c : Configuration} (c1 : Configuration) → Stays b0 c0 b c → around_of c1.scopes ≡ around_of c.scopes → beneath c1 ≡ beneath c → (config_of c1).run.blocks ≡ (config_of c).run.blocks → Stays b0 c0 b c1
moved c1 s e f g = record {
  opened = s.opened;
  above = s.above;
  included = s.included;
  around = e ∙ s.around;
  beneath = f ∙ s.beneath;
  since = s.since;
  ended = g ∙ s.ended;
  noted = s.noted;
}

-- what instructions that were done together leave as it is
pub did_still : {most : ℕ} {w : World} {place : Place} {code : Code} {k : Config} {n0 at n2 : ℕ} {d : Did} {f : Flow} {b0 b : OpenBodies} {c0 c : Configuration} (c1 : Configuration) → Stays b0 c0 b c → Last most w place code k n0 at n2 (config_of c) d → (d ≡ Goes (config_of c1) f) × ((around_of c1.scopes ≡ around_of c.scopes) × (beneath c1 ≡ beneath c)) → Stays b0 c0 b c1
did_still c1 s l e = moved c1 s e.1.0 e.1.1 (last_still l e.0)

-- a body that is asked for in one place, and in the same
pub at_place : {w : World} {p p0 : Place} {q : Request} {u : Use} {c : Config} {n : ℕ} → p ≡ p0 → BodyWithin w p0 q u c n → BodyWithin w p q u c n
at_place {w} {p} {p0} {q} {u} {c} {n} e h = subst (λ x. BodyWithin w x q u c n) (sym e) h

pub ends_at : {w : World} {p p0 : Place} {q : Request} {u : Use} {c : Config} {o : End} → p ≡ p0 → BodyEnds w p q u c o → BodyEnds w p0 q u c o
ends_at {w} {p} {p0} {q} {u} {c} {o} e h = subst (λ x. BodyEnds w x q u c o) e h

-- the names of the blocks that are open in a body
names_by : (a : BlockRequest) (number : ℕ) (o : Nested OpenBlock) → names_opened (blocks_opened_by a number o).inner ≡ opened_by a (names_opened o.inner)
names_by (asked.Block name span) number o = refl
names_by (asked.Super span) number o = refl

-- what was found is entered
pub enters : {w : World} {O : Type 0} (m : VirtualMachine O) (file : Name) (a : BlockRequest) (b0 : OpenBodies) (c0 : Configuration) (d : Nearest) (b : OpenBodies) (c : Configuration) → IsBody w (place_at m file b0 c0) a (config_of c0).run.vars d → b.opened ≡ blocks_opened_by a d.number b0.opened → b.above ≡ d.above → b.included ≡ b0.included → c.scopes ≡ c0.scopes → config_of c ≡ entered (config_of c0).run.vars (config_of c0) → Entered w (place_at m file b0 c0) (block_request a) (config_of c0) (place_at m (code_of d.body).file b c) (code_of d.body).code (config_of c)
enters m file a b0 c0 d b c h opened above included scopes config =
    let names : names_opened b.opened.inner ≡ opened_by a (names_opened b0.opened.inner) = ap (λ (o : Nested OpenBlock). names_opened o.inner) opened ∙ names_by a d.number b0.opened in
    let same = ap₂ (λ f x. record { template = template_of m; file = f; around = around_of x; autoescape = m.autoescape; depth = m.depth; included = names_in b0.included.inner; opened = opened_by a (names_opened b0.opened.inner); above = definers_of d.above }) (sym (ap (λ (l : Listing). l.file) h.code)) (sym scopes)
    ∙ ap₂ (λ ns ds. record { template = template_of m; file = (code_of d.body).file; around = around_of c.scopes; autoescape = m.autoescape; depth = m.depth; included = names_in b0.included.inner; opened = ns; above = definers_of ds }) (sym names) (sym above)
    ∙ ap (λ (i : Nested FoundTemplate). record { template = template_of m; file = (code_of d.body).file; around = around_of c.scopes; autoescape = m.autoescape; depth = m.depth; included = names_in i.inner; opened = names_opened b.opened.inner; above = definers_of b.above }) (sym included) in
    record {
      vars = (config_of c0).run.vars;
      body = h.definer.body;
      takes = h.takes ∙ ap (λ p. Takes p (config_of c0).run.vars h.definer.body) same;
      is = ap (λ (l : Listing). l.code) h.code;
      config = config;
    }

pub no_loops : (ls : List Loop) (cs : List Text) (q : Request) (u : Use) (c0 c3 : Config) → left_in ls cs q u c0 c3 ≢ None → ls ≡ []
no_loops [] cs q u c0 c3 h = refl
no_loops (l ∷ ls) cs q u c0 c3 h = absurd (h refl)

left_closed : (ls : List Loop) (cs : List Text) (a : BlockRequest) (c0 c3 : Config) (bs : List (Name × Text)) (loops : List Loop) → c0.loops ≡ loops → c0.run.blocks ≡ bs → left_in ls cs (block_request a) (block_use a) c0 c3 ≢ None → left_in ls cs (block_request a) (block_use a) c0 c3 ≡ Some (closed_in cs (block_request a) (block_use a) bs loops c3)
left_closed (l ∷ ls) cs a c0 c3 bs loops e f h = absurd (h refl)
left_closed [] [] a c0 c3 bs loops e f h = absurd (h refl)
left_closed [] (t ∷ ts) (asked.Block name span) c0 c3 bs loops e f h =
    ap₂ (λ ls xs. Some (used Written (record c3.run { blocks = c3.run.blocks ++ (name.now, c3.run.text) ∷ [] }) (record { operands = c3.operands; captures = ts; loops = ls; run = record { vars = c3.run.vars; text = t; blocks = xs } }))) e f
left_closed [] (t ∷ ts) (asked.Super span) c0 c3 bs loops e f h =
    ap₂ (λ ls xs. Some (used (Pushed true span) c3.run (record { operands = c3.operands; captures = ts; loops = ls; run = record { vars = c3.run.vars; text = t; blocks = xs } }))) e f

-- the blocks that ended around the body, those that ended in it, and its own
closed_blocks : (cs : List Text) (a : BlockRequest) (bs : List (Name × Text)) (loops : List Loop) (c : Config) → cs ≢ [] → (closed_in cs (block_request a) (block_use a) bs loops c).run.blocks ≡ bs ++ (c.run.blocks ++ ended_by a c.run.text)
closed_blocks [] a bs loops c h = absurd (h refl)
closed_blocks (t ∷ ts) (asked.Block name span) bs loops c h = refl
closed_blocks (t ∷ ts) (asked.Super span) bs loops c h = ap (λ xs. bs ++ xs) (sym (append-nil c.run.blocks))

-- where a body has no open loop, those around it are as they were
pub coming_back : (places : List LoopPlace) (coming coming1 : List (List Turn)) → loops_at places coming ≡ [] → beneath_in places coming ≡ coming1 → coming ≡ coming1
coming_back [] coming coming1 e f = f
coming_back (p ∷ ps) [] coming1 e f = f
coming_back (p ∷ ps) (ts ∷ tss) coming1 e f = absurd (filled e)
  where
    filled : loops_at (p ∷ ps) (ts ∷ tss) ≡ [] → ⊥
    filled e = cc

-- the first of several, and those behind it
abbrev pub innermost_of : List (List (List Turn)) → List (List Turn)
innermost_of [] = []
innermost_of (tss ∷ outer) = tss

abbrev pub outer_of : List (List (List Turn)) → List (List (List Turn))
outer_of [] = []
outer_of (tss ∷ outer) = outer

-- no loop is open in the body that was entered
pub beneath_none : {A : Type 0} (places : List A) (coming : List (List Turn)) → places ≡ [] → beneath_in places coming ≡ coming
beneath_none places coming e = ap (λ ps. beneath_in ps coming) e

closed_opened : (a : BlockRequest) (number : ℕ) (o : Nested OpenBlock) → blocks_closed_by a (blocks_opened_by a number o) ≡ o
closed_opened (asked.Block name span) number o = refl
closed_opened (asked.Super span) number o = refl

pub no_captures : (ls : List Loop) (cs : List Text) (q : Request) (u : Use) (c0 c3 : Config) → cs ≡ [] → left_in ls cs q u c0 c3 ≡ None
no_captures (l ∷ ls) cs q u c0 c3 e = refl
no_captures [] cs q u c0 c3 e = ap (λ ts. left_in [] ts q u c0 c3) e

module _ (w : World) {O : Type 0} (m : VirtualMachine O) (file : Name) (a : BlockRequest) (b0 : OpenBodies) (c0 : Configuration) {most : ℕ} (may : BodyWithin w (place_at m file b0 c0) (block_request a) (block_use a) (config_of c0) most) where
  module _ {inside : EnteredBlock} {b1 : OpenBodies} {c1 : Configuration} (entry : Enters w m file a b0 c0 (Ok inside) b1 c1) where
    module _ (c3 : Configuration) {j : ℕ} (over : Ends w (place_at m (code_of inside.definer.body).file b1 c1) (code_of inside.definer.body).code 0 (config_of c1) (Finished (config_of c3) j)) where
      ended : left (block_request a) (block_use a) (config_of c0) (config_of c3) ≢ None
      ended = can_leave entry.0 may (config_of c3) j over

      -- a text is open around the body's
      may_leave : (config_of c3).captures ≢ []
      may_leave = λ e. ended (no_captures (config_of c3).loops (config_of c3).captures (block_request a) (block_use a) (config_of c0) (config_of c3) e)

      module _ {b3 : OpenBodies} (stay : Stays b1 c1 b3 c3) (b4 : OpenBodies) (c4 : Configuration) where
        -- the loops around the body's own, and those in the states around
        same_beneath : beneath c3 ≡ coming_of c0.scopes ∷ coming_around c0.scopes
        same_beneath =
            stay.beneath
            ∙ ap (λ tss. tss ∷ coming_around c1.scopes) (beneath_none c1.places (coming_of c1.scopes) entry.1.none)
            ∙ ap (λ s. coming_of s ∷ coming_around s) entry.1.scopes

        same_coming : coming_of c3.scopes ≡ coming_of c0.scopes
        same_coming =
            coming_back c3.places (coming_of c3.scopes) (coming_of c0.scopes) (no_loops (config_of c3).loops (config_of c3).captures (block_request a) (block_use a) (config_of c0) (config_of c3) ended) (ap innermost_of same_beneath)

        same_outer : coming_around c3.scopes ≡ coming_around c0.scopes
        same_outer = ap outer_of same_beneath

        -- the body is over
        pub took : Leaves a inside.above inside.outer b3 c3 b4 c4 → BodyEnds w (place_at m file b0 c0) (block_request a) (block_use a) (config_of c0) (Finished (config_of c4) j)
        took leaves =
            let loops = ap₂ (λ ps tss. loops_at ps tss) (sym entry.1.places) (sym same_coming) in
            body_done entry.0 (config_of c3) (config_of c4) j over (left_closed (config_of c3).loops (config_of c3).captures a (config_of c0) (config_of c3) inside.outer.ended.all (loops_at inside.outer.places (coming_of c3.scopes)) loops (sym entry.1.ended) ended ∙ ap Some (sym leaves.config))

        none_before : (config_of c1).run.blocks ≡ []
        none_before = ap (λ (c : Config). c.run.blocks) entry.0.config

        ended_since : Leaves a inside.above inside.outer b3 c3 b4 c4 → c4.ended.all ≡ c0.ended.all ++ (stay.since ++ ended_by a (config_of c3).run.text)
        ended_since leaves =
            ap (λ (c : Config). c.run.blocks) leaves.config
            ∙ closed_blocks (config_of c3).captures a inside.outer.ended.all (loops_at inside.outer.places (coming_of c3.scopes)) (config_of c3) may_leave
            ∙ ap₂ (λ xs ys. xs ++ (ys ++ ended_by a (config_of c3).run.text)) entry.1.ended (stay.ended ∙ ap (λ xs. xs ++ stay.since) none_before)

        pub stayed : Leaves a inside.above inside.outer b3 c3 b4 c4 → Stays b0 c0 b4 c4
        stayed leaves = record {
          opened = leaves.opened ∙ ap (blocks_closed_by a) (stay.opened ∙ entry.1.opened) ∙ closed_opened a inside.definer.number b0.opened;
          above = leaves.above ∙ entry.1.above;
          included = leaves.included ∙ stay.included ∙ entry.1.included;
          around = ap around_of leaves.scopes ∙ stay.around ∙ ap around_of entry.1.scopes;
          beneath = ap₂ (λ ps s. beneath_in ps (coming_of s) ∷ coming_around s) (leaves.places ∙ entry.1.places) leaves.scopes ∙ ap₂ (λ tss outer. beneath_in c0.places tss ∷ outer) same_coming same_outer;
          since = stay.since ++ ended_by a (config_of c3).run.text;
          ended = ended_since leaves;
          noted = noted_from _ entry.1.wanted (noted_then stay.since _ stay.noted leaves.noted);
        }

-- what is not found is not entered
pub not_found : (w : World) {O : Type 0} (m : VirtualMachine O) (file : Name) (a : BlockRequest) (b0 : OpenBodies) (c0 : Configuration) (r : SeenError) (b : OpenBodies) (c : Configuration) → FindsBody w (place_at m file b0 c0) a (config_of c0).run.vars (Err r) → Enters w m file a b0 c0 (Err r) b c
not_found w m file a b0 c0 None b c h = tt
not_found w m file a b0 c0 (Some f) b c h = h

pub enter_lacks : (w : World) {O : Type 0} (m : VirtualMachine O) (file : Name) (a : BlockRequest) (b0 : OpenBodies) (c0 : Configuration) (r : SeenError) (b : OpenBodies) (c : Configuration) → r ≡ None → Enters w m file a b0 c0 (Err r) b c
enter_lacks w m file a b0 c0 r b c e = subst (λ x. Enters w m file a b0 c0 (Err x) b c) (sym e) tt
