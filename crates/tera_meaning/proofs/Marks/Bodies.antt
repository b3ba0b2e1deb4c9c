-- Bodies that take one another: both meanings take the same ones, in places that stand for one another.
use Rattle.std.proofs.Common.{◌≡◌, ℕ, zero, suc, nat_lt, Bool, true, false, List, [], ◌∷◌, refl, Option, Some, None, if◌then◌else◌}
use Rattle.tera_errors.specs.Site.{Name}
use Rattle.tera_errors.specs.Fault.{Fault, message}
use Rattle.tera_syntax_tree.specs.Tree.{Nodes}
use Rattle.tera_syntax_tree.specs.Blocks.{is_among}
use Rattle.tera_values.specs.Alphabet.{Marked, plain, marking}
use Rattle.tera_values.specs.Escape.{escape_html}
use Rattle.tera_values.specs.Named.{Named}
use Rattle.tera_values.specs.Val.{ValOf}
use Rattle.tera_state.specs.Scope.{AroundOf, VariablesOf}
use Rattle.tera_meaning.specs.Run.{Signal, RunOf, AnswerOf, RequestOf, OracleOf, begun}
use Rattle.tera_meaning.specs.Registry.{Entry}
use Rattle.tera_meaning.specs.Resolve.{resolve}
use Rattle.tera_meaning.specs.Components.{Component}
use Rattle.tera_meaning.specs.Lineage.{Definer, definers}
use Rattle.tera_meaning.specs.Whole.{World, PlaceOf, WayOf, Refuses, Takes, takes_definer, takes_template, max_depth, takes_context, takes_component, component_at, way_in, left_of, ends, rank, FamilyOf, body_meaning_in, along, levels, whole_in, meaning_in}
use Rattle.tera_meaning.proofs.Marks.Claim.{Claim, BodyHolds}
use Rattle.tera_meaning.proofs.Marks.Each.{Each, none, more, each-append}
use Rattle.tera_meaning.proofs.Marks.Standing.{Stands, OptionStands, no_value, value}
use Rattle.tera_meaning.proofs.Marks.Around.{Binds, VariablesStand, AroundStands, look_implicit-stands, in_include-stands, in_component-stands, nothing-stands}
use Rattle.tera_meaning.proofs.Marks.Contexts.{context-stands}
use Rattle.tera_meaning.proofs.Marks.Meaning.{RunStands, AnswerStands, fails, gave, Same, RequestStands, blocks, aboves, includes, components, OracleStands, visit-means, nodes-mean}
use Rattle.std.specs.List.{AllByRecursion}
use Rattle.tera_state.specs.Engine.{Engine}
use Rattle.tera_meaning.proofs.Marks.Holding.{OptionHolds, TemplateHolds, DefinerHolds, ComponentHolds, WorldHolds, resolve-holds, definers-hold, component_at-holds}

-- the places differ in what is around them alone, and texts are escaped in both; the claim holds of
-- those who define the block that runs above this one
pub data PlaceStands (K : Claim) (engine : Engine) : PlaceOf Marked → PlaceOf ℕ → Type 0 where
  places : (template : Option Name) (file : Name) {a : AroundOf Marked} {b : AroundOf ℕ} (depth : ℕ) (included opened : List Name) (above : List Definer) → AllByRecursion (DefinerHolds K engine) above → AroundStands K a b
      → PlaceStands K engine (record { template = template; file = file; around = a; autoescape = true; depth = depth; included = included; opened = opened; above = above }) (record { template = template; file = file; around = b; autoescape = true; depth = depth; included = included; opened = opened; above = above })

-- the same body, of which the claim holds, or the same fault
data WayStands (K : Claim) (engine : Engine) : WayOf Marked → WayOf ℕ → Type 0 where
  refused : (fault : Fault) → WayStands K engine (Refuses fault) (Refuses fault)
  taken : {p : PlaceOf Marked} {q : PlaceOf ℕ} {v : VariablesOf Marked} {u : VariablesOf ℕ} (body : Nodes) → BodyHolds K engine body → PlaceStands K engine p q → VariablesStand K v u → WayStands K engine (Takes p v body) (Takes q u body)

abbrev FamilyStands : Claim → Engine → FamilyOf Marked → FamilyOf ℕ → Type 0
FamilyStands K engine f g = (p : PlaceOf Marked) (q : PlaceOf ℕ) → PlaceStands K engine p q → OracleStands K (f p) (g q)

module _ {K : Claim} {engine : Engine} where
  definer-stands : {p : PlaceOf Marked} {q : PlaceOf ℕ} → PlaceStands K engine p q → {v : VariablesOf Marked} {u : VariablesOf ℕ} → VariablesStand K v u → (opened : List Name) (fault : Fault) (ds : List Definer) → AllByRecursion (DefinerHolds K engine) ds → WayStands K engine (takes_definer p opened v fault ds) (takes_definer q opened u fault ds)
  definer-stands k vs opened fault [] h = refused fault
  definer-stands (places template file depth included opened' above holds around) vs opened fault (d ∷ ds) h =
      taken d.body h.0 (places template d.file depth included opened ds h.1 around) vs

  either_way : (b : Bool) (fault : Fault) {x : WayOf Marked} {y : WayOf ℕ} → WayStands K engine x y → WayStands K engine (if b then Refuses fault else x) (if b then Refuses fault else y)
  either_way true fault k = refused fault
  either_way false fault k = k

  -- what is included reads its includer, whose variables stand for one another too
  template-stands : {p : PlaceOf Marked} {q : PlaceOf ℕ} → PlaceStands K engine p q → {v : VariablesOf Marked} {u : VariablesOf ℕ} → VariablesStand K v u → (fault : Fault) (o : Option Entry) → OptionHolds (TemplateHolds K engine) o → WayStands K engine (takes_template p v fault o) (takes_template q u fault o)
  template-stands k vs fault None h = refused fault
  template-stands (places template file depth included opened above holds around) vs fault (Some t) h =
      either_way (is_among t.0 included) fault (taken t.1.tree.nodes h.0 (places (Some t.0) t.0 depth (t.0 ∷ included) [] [] tt (in_include-stands around vs)) nothing-stands)

  unless_deep : (b : Bool) {x : WayOf Marked} {y : WayOf ℕ} → WayStands K engine x y → WayStands K engine (if b then x else Refuses message) (if b then y else Refuses message)
  unless_deep true k = k
  unless_deep false k = refused message

  -- a component reads its context, which stands on both sides, and its callers by their names alone
  context-taken : {p : PlaceOf Marked} {q : PlaceOf ℕ} → PlaceStands K engine p q → {v : VariablesOf Marked} {u : VariablesOf ℕ} → VariablesStand K v u → (c : Component) → ComponentHolds K engine c → (fault : Fault) {x : Option (Named (ValOf Marked))} {y : Option (Named (ValOf ℕ))} → OptionStands (Each (Binds K)) x y → WayStands K engine (takes_context p v c fault x) (takes_context q u c fault y)
  context-taken k vs c h fault no_value = refused fault
  context-taken (places template file depth included opened above holds around) vs c h fault (value ks) =
      unless_deep (nat_lt depth max_depth) (taken c.body h (places None c.file (suc depth) [] [] [] tt (in_component-stands ks around vs)) nothing-stands)

  around-stands : {p : PlaceOf Marked} {q : PlaceOf ℕ} → PlaceStands K engine p q → AroundStands K p.around q.around
  around-stands (places template file depth included opened above holds around) = around

  component-stands : {p : PlaceOf Marked} {q : PlaceOf ℕ} → PlaceStands K engine p q → {v : VariablesOf Marked} {u : VariablesOf ℕ} → VariablesStand K v u → {given : List (Name × ValOf Marked)} {others : List (Name × ValOf ℕ)} → Each (Binds K) given others → {body : Option (ValOf Marked)} {other : Option (ValOf ℕ)} → OptionStands (Stands K) body other → (fault : Fault) (o : Option Component) → OptionHolds (ComponentHolds K engine) o
      → WayStands K engine (takes_component marking p v given body fault o) (takes_component plain q u others other fault o)
  component-stands k vs ks b fault None h = refused fault
  component-stands k vs ks b fault (Some c) h =
      context-taken k vs c h fault (context-stands (λ name. look_implicit-stands name (around-stands k) vs) ks c.signature b)

module _ {K : Claim} where
  left-stands : {a : RequestOf Marked} {b : RequestOf ℕ} → RequestStands K a b → {v : VariablesOf Marked} {u : VariablesOf ℕ} → VariablesStand K v u → {r : RunOf Marked} {s : RunOf ℕ} → RunStands K r s → RunStands K (left_of a v r) (left_of b u s)
  left-stands (blocks name span) vs rs =
      record { vars = rs.vars; text = rs.text; blocks = each-append rs.blocks (more (record { name = refl; text = rs.text }) none) }
  left-stands (aboves span) vs rs = rs
  left-stands (includes name span) vs rs = record { vars = vs; text = rs.text; blocks = none }
  left-stands (components name span ks b) vs rs = record { vars = vs; text = rs.text; blocks = none }

  ends-stand : {a : RequestOf Marked} {b : RequestOf ℕ} → RequestStands K a b → {v : VariablesOf Marked} {u : VariablesOf ℕ} → VariablesStand K v u → {x : AnswerOf Marked Signal} {y : AnswerOf ℕ Signal} → AnswerStands K Same x y → AnswerStands K Same (ends a v x) (ends b u y)
  ends-stand q vs (fails fault n) = fails fault n
  ends-stand q vs (gave n k rs) = gave n refl (left-stands q vs rs)

  begun-stands : {v : VariablesOf Marked} {u : VariablesOf ℕ} → VariablesStand K v u → RunStands K (begun v) (begun u)
  begun-stands k = record { vars = k; text = none; blocks = none }

module _ {K : Claim} (world : World) (by_html : world.registry.engine.escape ≡ escape_html) (held : WorldHolds K world) where
  way-stands : {p : PlaceOf Marked} {q : PlaceOf ℕ} → PlaceStands K world.registry.engine p q → {a : RequestOf Marked} {b : RequestOf ℕ} → RequestStands K a b → {v : VariablesOf Marked} {u : VariablesOf ℕ} → VariablesStand K v u → WayStands K world.registry.engine (way_in marking world p a v) (way_in plain world q b u)
  way-stands (places template file depth included opened above holds around) (blocks name span) vs =
      either_way (is_among name opened) _ (definer-stands (places template file depth included opened above holds around) vs (name ∷ opened) _ (definers world.registry template name) (definers-hold K world.registry held.templates template name))
  way-stands (places template file depth included opened above holds around) (aboves span) vs =
      definer-stands (places template file depth included opened above holds around) vs opened _ above holds
  way-stands (places template file depth included opened above holds around) (includes name span) vs =
      template-stands (places template file depth included opened above holds around) vs _ (resolve world.registry name) (resolve-holds (TemplateHolds K world.registry.engine) world.registry held.templates name)
  way-stands (places template file depth included opened above holds around) (components name span ks b) vs =
      component-stands (places template file depth included opened above holds around) vs ks b _ (component_at world name) (component_at-holds K world held name)

  body-stands : {c : OracleOf Marked} {d : OracleOf ℕ} → OracleStands K c d → {p : PlaceOf Marked} {q : PlaceOf ℕ} → PlaceStands K world.registry.engine p q → {v : VariablesOf Marked} {u : VariablesOf ℕ} → VariablesStand K v u → (body : Nodes) → BodyHolds K world.registry.engine body → AnswerStands K Same (body_meaning_in marking world c p v body) (body_meaning_in plain world d q u body)
  body-stands {c} {d} h (places template file depth included opened above holds around) vs body k =
      visit-means (nodes-mean file world.registry.engine by_html around c d h body k.texts k.calls_hold) _ _ (begun-stands vs)

  along-stands : {f : FamilyOf Marked} {g : FamilyOf ℕ} → FamilyStands K world.registry.engine f g → {a : RequestOf Marked} {b : RequestOf ℕ} → RequestStands K a b → {v : VariablesOf Marked} {u : VariablesOf ℕ} → VariablesStand K v u → {x : WayOf Marked} {y : WayOf ℕ} → WayStands K world.registry.engine x y → AnswerStands K Same (along marking world f a v x) (along plain world g b u y)
  along-stands h q vs (refused fault) = fails fault 0
  along-stands h q vs (taken body l k ws) = ends-stand q vs (body-stands (h _ _ k) k ws body l)

  levels-stand : (n : ℕ) → FamilyStands K world.registry.engine (levels marking world n) (levels plain world n)
  levels-stand zero p p' k q q' v u qs vs = fails message 0
  levels-stand (suc n) p p' k q q' v u qs vs = along-stands (levels-stand n) qs vs (way-stands k qs vs)

  whole-stands : FamilyStands K world.registry.engine (whole_in marking world) (whole_in plain world)
  unfolding whole_in
  whole-stands p q (places template file depth included opened above holds around) =
      levels-stand (suc (rank world p)) p q (places template file depth included opened above holds around)

  -- the marked meaning of a body in its place stands for the plain one
  pub meaning-stands : {p : PlaceOf Marked} {q : PlaceOf ℕ} → PlaceStands K world.registry.engine p q → {v : VariablesOf Marked} {u : VariablesOf ℕ} → VariablesStand K v u → (body : Nodes) → BodyHolds K world.registry.engine body → AnswerStands K Same (meaning_in marking world p v body) (meaning_in plain world q u body)
  meaning-stands k vs body h = body-stands (whole-stands _ _ k) k vs body h
