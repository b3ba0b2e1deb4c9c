-- A JSON text that grows.
use Rattle.std.specs.Prelude.{ℕ, Bool, true, false, List, [], ◌++◌, Result, Ok}
use Rattle.json.specs.Token.{Token}
use Rattle.tera_errors.specs.Fault.{Fault}
use Rattle.tera_built_ins.specs.Arguments.{◌▸◌}
use Rattle.tera_filters.specs.JsonTexts.{laid_out}
use Rattle.tera_filters.specs.declared.json_sheet.Sheet.{Sheet}
use Rattle.tera_filters.specs.declared.json_sheet.Sheet.TheVariants.{Compact, Lines}

-- how it is laid out, what stood there before, and the tokens that were put
pub record Page : Type 0 where
  pub is_pretty : Bool
  pub before : List ℕ
  pub tokens : List Token

abbrev pub page_of : Sheet → Page
page_of (Compact w) = record { is_pretty = false; before = w.before; tokens = w.tokens }
page_of (Lines ts) = record { is_pretty = true; before = []; tokens = ts }

abbrev pub empty_page : Bool → Page
empty_page is_pretty = record { is_pretty = is_pretty; before = []; tokens = [] }

-- these tokens behind those that are there
abbrev pub with_tokens : Page → List Token → Page
with_tokens page ts = record { is_pretty = page.is_pretty; before = page.before; tokens = page.tokens ++ ts }

abbrev pub page_text : Page → List ℕ
page_text page = page.before ++ laid_out page.is_pretty page.tokens

-- the same, where there are such tokens
abbrev pub with_all : Page → Result (List Token) Fault → Result Page Fault
with_all page ts = ts ▸ λ all. Ok (with_tokens page all)
