-- What holds of registries that are accepted.
use Rattle.std.specs.Prelude.{◌≡◌, ◌≢◌, IsTrue, IsSome, List, [], None, Result, Ok}
use Rattle.std.specs.List.{All}
use Rattle.tera_errors.specs.Site.{Text}
use Rattle.tera_errors.specs.Fault.{Fault}
use Rattle.tera_values.specs.Val.{Val}
use Rattle.tera_values.specs.Named.{Named}
use Rattle.tera_syntax_tree.specs.Blocks.{top_blocks}
use Rattle.tera_syntax_tree.specs.Calls.{calls}
use Rattle.tera_state.specs.Engine.{Engine}
use Rattle.tera_state.specs.Laws.{OnlyAdds}
use Rattle.tera_meaning.specs.Registry.{Entry, Registry, Template}
use Rattle.tera_meaning.specs.Resolve.{parents}
use Rattle.tera_meaning.specs.Lineage.{ancestors, definers_in}
use Rattle.tera_meaning.specs.Known.{bodies}
use Rattle.tera_meaning.specs.Accepted.{fault, knows}
use Rattle.tera_meaning.specs.Adding.{added}

abbrev pub IsAccepted : Registry → Type 0
IsAccepted r = fault r ≡ None

-- A registry without templates is accepted. One that is accepted stays so under other suffixes,
-- another global context, and objects beside those that are there; and so is what a batch makes.
pub record AcceptanceStays : Type 0 where
  pub empty : (r : Registry) → r.templates ≡ [] → IsAccepted r
  pub suffixes : (r : Registry) (suffixes : List Text) → IsAccepted r
      → IsAccepted (record r { suffixes = suffixes })
  pub global : (r : Registry) (global : Named Val) → IsAccepted r
      → IsAccepted (record r { global = global })
  pub objects : (r : Registry) (engine : Engine) → OnlyAdds r.engine engine → IsAccepted r
      → IsAccepted (record r { engine = engine })
  pub batch : (r next : Registry) (reading : Result (Named Template) Fault)
      → added r reading ≡ Ok next → IsAccepted next

-- An empty batch is accepted, and changes nothing.
abbrev pub EmptyBatchIsAccepted : Type 0
EmptyBatchIsAccepted = (r : Registry) → IsAccepted r → added r (Ok []) ≡ Ok r

-- What a template names is there: its parents, and the filters, tests, functions, components and
-- templates that its bodies call; and where it has a parent, some parent has each of its blocks
-- that stands inside no other.
pub record NamesWhatIsThere (r : Registry) (t : Entry) : Type 0 where
  pub parents : (ts : List Entry) × (parents r t ≡ Ok ts)
  pub calls : All (λ body. All (λ callee. IsTrue (knows r callee)) (calls body)) (bodies t.1.tree)
  pub blocks : IsSome t.1.tree.parent
      → All (λ block. definers_in block (ancestors r t) ≢ []) (top_blocks t.1.tree.nodes)

-- So do all templates of a registry that is accepted.
abbrev pub NothingIsMissing : Type 0
NothingIsMissing = (r : Registry) → IsAccepted r → All (NamesWhatIsThere r) r.templates
