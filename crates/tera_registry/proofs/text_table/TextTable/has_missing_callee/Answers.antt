use Rattle.std.proofs.Common.{◌≡◌, Bool, true, false, ◌||◌, List, [], map, refl, sym, ap, ◌∙◌}
use Rattle.std.specs.List.{list_any}
use Rattle.tera_errors.specs.Site.{Name}
use Rattle.tera_syntax_tree.specs.Blocks.{blocks}
use Rattle.tera_syntax_tree.specs.Calls.{Callee}
use Rattle.tera_syntax_tree.specs.Tree.{Tree}
use Rattle.tera_code.specs.Code.{nodes_code}
use Rattle.tera_state.specs.Engine.{Engine}
use Rattle.tera_meaning.specs.Accepted.{is_template}
use Rattle.tera_meaning.specs.Known.{is_known, lacks_a_callee}
use Rattle.tera_meaning.specs.Registry.{Registry}
use Rattle.tera_meaning.specs.Rendering.{knows_beside}
use Rattle.tera_registry.specs.declared.code.Code.{Code}
use Rattle.tera_registry.specs.declared.components.Component.{Component}
use Rattle.tera_registry.specs.declared.inventory.Inventory.{Inventory}
use Rattle.tera_registry.specs.declared.text_table.TextTable.{TextTable}
use Rattle.tera_registry.specs.Components.{kept_of, kept_all}
use Rattle.tera_registry.specs.Kept.{seen}
use Rattle.tera_registry.specs.Known.{beside, is_there, known_in, code_lacks}
use Rattle.tera_registry.specs.References.{chunk_of}
use Rattle.tera_registry.specs.Templates.{with_templates}
use Rattle.tera_registry.proofs.Besides.{beside-lacks}
use Rattle.tera_registry.proofs.Listed.{chosen-in-all}
use Rattle.tera_registry.proofs.text_table.TextTable.has_missing_callee.Goals as goal

-- what a text's code and that of its components may call
abbrev known_beside : Engine → TextTable → Callee → Bool
known_beside engine self =
    is_known engine (is_there self.templates.now.choices self.components.items) (is_template (seen self.templates.now.all.items self.templates.now.prefixes.items))

-- an inventory of all that is where each of its parts is
whole : {O : Type 0} (engine : O → Engine) (objects : O) (self : TextTable) (i : Inventory O) → i.templates.now ≡ self.templates.now.all.items → i.prefixes.now ≡ self.templates.now.prefixes.items → i.choices.now ≡ self.templates.now.choices → beside i.own ≡ self.components.items → i.objects.now ≡ objects → known_in engine i ≡ known_beside (engine objects) self
whole engine objects self i t p c o b =
    let ts = self.templates.now in
    ap (λ x. is_known (engine x) (is_there i.choices.now (beside i.own)) (is_template (seen i.templates.now i.prefixes.now))) b
    ∙ ap (λ x. is_known (engine objects) (is_there x (beside i.own)) (is_template (seen i.templates.now i.prefixes.now))) c
    ∙ ap (λ x. is_known (engine objects) (is_there ts.choices x) (is_template (seen i.templates.now i.prefixes.now))) o
    ∙ ap (λ x. is_known (engine objects) (is_there ts.choices self.components.items) (is_template (seen x i.prefixes.now))) t
    ∙ ap (λ x. is_known (engine objects) (is_there ts.choices self.components.items) (is_template (seen ts.all.items x))) p

-- the body lacks something, or else what its components lack decides
by-body : (self : TextTable) (engine : Engine) (known : Callee → Bool) (body : Code) (own : List Component) (first : Bool) (r : Registry) (tree : Tree) (file : Name) → known ≡ known_beside engine self → own ≡ self.components.items → body ≡ self.body.code.value → r.engine ≡ engine → (chunk_of self.body).code ≡ nodes_code tree.nodes 0 → map kept_of self.components.items ≡ kept_all file tree.definitions → blocks tree.nodes ≡ [] → first ≡ code_lacks known body.chunk.code
    → (first || list_any (λ k. code_lacks known k.code.value.chunk.code) own) ≡ lacks_a_callee (knows_beside (with_templates r self.templates.now) tree) tree
by-body self engine known body own first r tree file among whose which of code kept none is =
    let ts = self.templates.now in
    let q = with_templates r ts in
    let all = self.components.items in
    ap (λ b. b || list_any (λ k. code_lacks known k.code.value.chunk.code) own) is
    ∙ ap (λ cs. code_lacks known body.chunk.code || list_any (λ k. code_lacks known k.code.value.chunk.code) cs) whose
    ∙ ap (λ f. code_lacks f body.chunk.code || list_any (λ k. code_lacks f k.code.value.chunk.code) all) among
    ∙ beside-lacks q engine (is_template (seen ts.all.items ts.prefixes.items)) tree file ts.choices all body.chunk (chosen-in-all q ts.choices ts.chosen) of refl (ap (λ k. k.chunk.code) which ∙ code) kept none

pub returns-then-code_has_missing_callee : goal.returns-then-code_has_missing_callee
returns-then-code_has_missing_callee g c = λ r tree file of code kept none.
    let self = c.args.self.now in
    let engine = g.O.Objects.engine in
    let objects = c.args.objects.now in
    let i = c.inventory-there.result in
    let here = c.inventory-there.ensures in
    let among = whole engine objects self i here.templates here.prefixes here.choices here.own here.objects in
    c.if-code_has_missing_callee.true ∙ by-body self (engine objects) (known_in engine i) c.deref-code.result.now self.components.items true r tree file among refl c.deref-code.ensures of code kept none (sym c.if-code_has_missing_callee.true ∙ c.code_has_missing_callee.ensures)

pub returns-else-code_has_missing_callee : goal.returns-else-code_has_missing_callee
returns-else-code_has_missing_callee g c = λ r tree file of code kept none.
    let self = c.args.self.now in
    let engine = g.O.Objects.engine in
    let objects = c.args.objects.now in
    let i = c.inventory-there.result in
    let here = c.inventory-there.ensures in
    let among = whole engine objects self i here.templates here.prefixes here.choices here.own here.objects in
    c.any_has_missing_callee.ensures ∙ by-body self (engine objects) (known_in engine i) c.deref-code.result.now c.as_slice.result.now false r tree file among c.as_slice.ensures.value c.deref-code.ensures of code kept none (sym c.if-code_has_missing_callee.false ∙ c.code_has_missing_callee.ensures)
