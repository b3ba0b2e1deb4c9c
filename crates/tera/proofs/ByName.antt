-- A rendering of a template, from what was found by its name.
use Rattle.std.proofs.Common.{◌≡◌, List, [], ◌∷◌, Some, None, Result, Ok, Err, refl, sym, ap, ap₂, ◌∙◌, subst}
use Rattle.tera_errors.specs.Site.{Text, Name}
use Rattle.tera_errors.specs.Fault.{Fault, message, template_not_found}
use Rattle.tera_errors.specs.Answer.{SeenError, Tells, Gives, GivesOneOf, SaysOneOf}
use Rattle.tera_values.specs.Alphabet.{marking}
use Rattle.tera_values.specs.Val.{Val}
use Rattle.tera_values.specs.Named.{Named}
use Rattle.tera_syntax_tree.specs.Tree.{Nodes}
use Rattle.tera_meaning.specs.Registry.{Registry}
use Rattle.tera_meaning.specs.Resolve.{entry_at, resolve, root}
use Rattle.tera_state.specs.Scope.{nothing_set}
use Rattle.tera_meaning.specs.Run.{Signal, Answer, begun, visits_of}
use Rattle.tera_meaning.specs.Lineage.{Definer, definers}
use Rattle.tera_meaning.specs.Rendering.{alone, autoescapes, text_of, template_meaning, render, render_in, render_template, block_among, render_template_block, render_block, render_block_in}
use Rattle.tera_code.specs.Code.{listing_of, nodes_code}
use Rattle.tera_code.specs.Listing.{Listing}
use Rattle.tera_meaning.specs.Marks.Origin.{Traces}
use Rattle.tera_meaning.proofs.Marks.Traced.{templates_are_traced, blocks_are_traced}
use Rattle.tera_machine.specs.Subject.{meant}
use Rattle.tera_registry.specs.HandedOut.{IsRootOf}
use Rattle.tera_registry.specs.Templates.{Leads, with_templates, definers_of}
use Rattle.tera_registry.specs.declared.templates.FoundTemplate.{FoundTemplate}
use Rattle.tera_registry.specs.declared.templates.Definers.{Definers}
use Rattle.tera.specs.Registry.{nodes_in, nodes_of_file, subject_of, subject_of_file, text_meant, block_meant}
use Rattle.tera.specs.Budget.{template_visits, visits_meant, visits_of_entry}
use Rattle.tera.specs.Rendering.{ByName, BlockByName}
use Rattle.tera.proofs.Owned.{owns-resolved, owns-root}

-- the code with which a rendering of a template begins is that of its root
pub own-root : (r : Registry) (name : Name) (found : FoundTemplate) (leads : Leads r name found) (code : Listing) → ((s : Registry) → IsRootOf (with_templates s found.templates.now) found.name.now code) → code ≡ listing_of (root r leads.entry).0 (root r leads.entry).1.tree.nodes
own-root r name found leads code is =
    let stands : entry_at found.name.now r.templates ≡ Some leads.entry = ap (λ n. entry_at n r.templates) leads.named ∙ owns-resolved r name leads.entry leads.resolves in
    subst (λ s. IsRootOf s found.name.now code) leads.among (is r) leads.entry stands

module _ (r : Registry) (name : Name) (found : FoundTemplate) (leads : Leads r name found) (code : Listing) (own : code ≡ listing_of (root r leads.entry).0 (root r leads.entry).1.tree.nodes) where
  file-found : code.file ≡ (root r leads.entry).0
  file-found = ap (λ (l : Listing). l.file) own

  nodes-found : nodes_of_file r code.file ≡ (root r leads.entry).1.tree.nodes
  nodes-found = ap (nodes_of_file r) file-found ∙ ap nodes_in (owns-root r name leads.entry leads.resolves)

  pub code-found : code.code ≡ nodes_code (nodes_of_file r code.file) 0
  code-found = ap (λ (l : Listing). l.code) own ∙ ap (λ ns. nodes_code ns 0) (sym nodes-found)

-- what the body that was found means is what the template means
answer-found : (r : Registry) (name : Name) (context : Named Val) (found : FoundTemplate) (leads : Leads r name found) (code : Listing) (own : code ≡ listing_of (root r leads.entry).0 (root r leads.entry).1.tree.nodes)
    → meant (subject_of_file r found.name.now code.file context) (begun nothing_set) ≡ template_meaning r leads.entry context
answer-found r name context found leads code own =
    let top = root r leads.entry in
    let m : Name → Name → Nodes → Answer Signal = λ n file ns. meant (subject_of (alone r) (Some n) file ns context (autoescapes r n)) (begun nothing_set) in
    ap (λ file. m found.name.now file (nodes_of_file r code.file)) (file-found r name found leads code own)
    ∙ ap (m found.name.now top.0) (nodes-found r name found leads code own)
    ∙ ap (λ n. m n top.0 top.1.tree.nodes) leads.named

-- so its text is what the name renders to
pub text-found : (r : Registry) (name : Name) (context : Named Val) (found : FoundTemplate) (leads : Leads r name found) (code : Listing) (own : code ≡ listing_of (root r leads.entry).0 (root r leads.entry).1.tree.nodes) → text_meant (subject_of_file r found.name.now code.file context) ≡ render r name context
text-found r name context found leads code own =
    ap text_of (answer-found r name context found leads code own)
    ∙ sym (ap (λ o. render_template r o context) leads.resolves)

-- and so are its visits
pub visits-found : (r : Registry) (name : Name) (context : Named Val) (found : FoundTemplate) (leads : Leads r name found) (code : Listing) (own : code ≡ listing_of (root r leads.entry).0 (root r leads.entry).1.tree.nodes) → visits_meant (subject_of_file r found.name.now code.file context) ≡ template_visits r name context
visits-found r name context found leads code own =
    ap visits_of (answer-found r name context found leads code own)
    ∙ sym (ap (λ o. visits_of_entry r o context) leads.resolves)

module _ (r : Registry) (name block : Name) (context : Named Val) (found : FoundTemplate) (leads : Leads r name found) (ds : Definers) (of_block : (s : Registry) → definers_of ds ≡ definers (with_templates s found.templates.now) (Some found.name.now) block) where
  defined : definers_of ds ≡ definers r (Some leads.entry.0) block
  defined =
      of_block r
      ∙ ap (λ s. definers s (Some found.name.now) block) leads.among
      ∙ ap (λ n. definers r (Some n) block) leads.named

  meant-by : (answer : Answer Signal) (bs : List Definer) → template_meaning r leads.entry context ≡ answer → definers_of ds ≡ bs → render_block r name block context ≡ block_among bs block answer
  meant-by answer bs is e =
      ap (λ o. render_template_block r o block context) leads.resolves
      ∙ ap₂ (λ xs a. block_among xs block a) (sym defined ∙ e) is

  -- a block that nobody defines
  pub block-missing : definers_of ds ≡ [] → render_block r name block context ≡ Err message
  block-missing e = meant-by (template_meaning r leads.entry context) [] refl e

  -- any other has the text of the last one that ended
  pub block-found : (code : Listing) (own : code ≡ listing_of (root r leads.entry).0 (root r leads.entry).1.tree.nodes) (d : Definer) (more : List Definer) → definers_of ds ≡ d ∷ more → block_meant block (subject_of_file r found.name.now code.file context) ≡ render_block r name block context
  block-found code own d more e =
      sym (meant-by (meant (subject_of_file r found.name.now code.file context) (begun nothing_set)) (d ∷ more) (sym (answer-found r name context found leads code own)) e)

module _ (r : Registry) (name : Name) (context : Named Val) where
  by_name : (answer : Result Text Fault) → answer ≡ render r name context → ByName r name context answer
  by_name answer e = record {
    is = e;
    origin = λ t found on by_html. let P : Result Text Fault → Type 0 = Traces (render_in marking r name context) in
        subst P (sym e) (templates_are_traced r name context t by_html found on);
  }

  pub renders : {X : Type 0} (view : X → Text) (result : Result X SeenError) → Gives view result (render r name context) → GivesOneOf view result (ByName r name context)
  renders view (Ok x) g = by_name (Ok (view x)) (sym g)
  renders view (Err None) g = tt
  renders view (Err (Some fault)) g = by_name (Err fault) (sym g)

  pub not_there : (e : SeenError) → e ≡ Some template_not_found → resolve r name ≡ None → SaysOneOf e (ByName r name context)
  not_there e is none =
      let P : SeenError → Type 0 = λ x. SaysOneOf x (ByName r name context) in
      subst P (sym is) (by_name (Err template_not_found) (sym (ap (λ o. render_template r o context) none)))

module _ (r : Registry) (name block : Name) (context : Named Val) where
  block_by_name : (answer : Result Text Fault) → answer ≡ render_block r name block context → BlockByName r name block context answer
  block_by_name answer e = record {
    is = e;
    origin = λ t found on by_html. let P : Result Text Fault → Type 0 = Traces (render_block_in marking r name block context) in
        subst P (sym e) (blocks_are_traced r name block context t by_html found on);
  }

  pub renders-block : {X : Type 0} (view : X → Text) (result : Result X SeenError) → Gives view result (render_block r name block context) → GivesOneOf view result (BlockByName r name block context)
  renders-block view (Ok x) g = block_by_name (Ok (view x)) (sym g)
  renders-block view (Err None) g = tt
  renders-block view (Err (Some fault)) g = block_by_name (Err fault) (sym g)

  refuses-with : (e : SeenError) (fault : Fault) → Tells e fault → render_block r name block context ≡ Err fault → SaysOneOf e (BlockByName r name block context)
  refuses-with None fault h is = tt
  refuses-with (Some told) fault h is = block_by_name (Err told) (ap Err h ∙ sym is)

  -- a block that is not there is refused
  pub no_block : (e : SeenError) → Tells e message → render_block r name block context ≡ Err message → SaysOneOf e (BlockByName r name block context)
  no_block e h is = refuses-with e message h is

  -- and so is a template that is not
  pub no_template : (e : SeenError) → e ≡ Some template_not_found → resolve r name ≡ None → SaysOneOf e (BlockByName r name block context)
  no_template e is none =
      let P : SeenError → Type 0 = λ x. SaysOneOf x (BlockByName r name block context) in
      subst P (sym is) (block_by_name (Err template_not_found) (sym (ap (λ o. render_template_block r o block context) none)))
