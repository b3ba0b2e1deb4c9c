-- Code that calls what is not there.
use Rattle.std.specs.Prelude.{Bool, false, not, ◌||◌, is_some, bytes_eq, List, [], Option, Some, None, String}
use Rattle.std.specs.List.{list_any}
use Rattle.std.specs.declared.alloc.Global.{Global}
use Rattle.std.specs.declared.collections.BTreeMap.{BTreeMap}
use Rattle.tera_errors.specs.Site.{Name}
use Rattle.tera_syntax_tree.specs.Calls.{Callee}
use Rattle.tera_code.specs.declared.instruction.Instruction.{Instruction}
use Rattle.tera_code.specs.Code.{Code}
use Rattle.tera_code.specs.Called.{called_by}
use Rattle.tera_state.specs.Engine.{Engine}
use Rattle.tera_meaning.specs.Known.{is_known}
use Rattle.tera_meaning.specs.Accepted.{is_template}
use Rattle.tera_registry.specs.declared.component_table.ComponentAt.{ComponentAt}
use Rattle.tera_registry.specs.declared.components.Component.{Component}
use Rattle.tera_registry.specs.declared.inventory.Inventory.{Inventory}
use Rattle.tera_registry.specs.declared.text_components.TextComponents.{TextComponents}
use Rattle.tera_registry.specs.Choices.{chosen}
use Rattle.tera_registry.specs.Kept.{seen}

-- the components of a text beside the templates, where there is one
abbrev pub beside : Option TextComponents → List Component
beside None = []
beside (Some own) = own.components.now

-- whether a component is taken of a name, or is one of these
abbrev pub is_there : BTreeMap (String Global) ComponentAt Global → List Component → Name → Bool
is_there choices own name =
    is_some (chosen choices name) || list_any (λ c. bytes_eq name c.definition.name) own

-- whether what is called is there among what an inventory holds
abbrev pub known_in : {O : Type 0} → (O → Engine) → Inventory O → Callee → Bool
known_in engine i =
    is_known (engine i.objects.now) (is_there i.choices.now (beside i.own))
    (is_template (seen i.templates.now i.prefixes.now))

abbrev pub is_missing : (Callee → Bool) → Option Callee → Bool
is_missing known None = false
is_missing known (Some callee) = not (known callee)

abbrev pub calls_missing : (Callee → Bool) → Instruction → Bool
calls_missing known i = is_missing known (called_by i)

abbrev pub code_lacks : (Callee → Bool) → Code → Bool
code_lacks known = list_any (calls_missing known)
