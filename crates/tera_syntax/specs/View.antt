-- What is open while a text is read, as plain data.
use Rattle.std.specs.Prelude.{◌≡◌, List, ◌++◌, Option, Some, None, Result, Ok, Err, Vec, map, option_copied, option_map, reverse}
use Rattle.std.specs.Global.{Global}
use Rattle.tera_errors.specs.declared.span.Span.{Span}
use Rattle.tera_syntax_tree.specs.declared.expression.ComponentTag.{ComponentTag, out-ComponentTag}
use Rattle.tera_syntax_tree.specs.declared.expression.Heading.{Heading}
use Rattle.tera_syntax_tree.specs.declared.node.Node as declared
use Rattle.tera_syntax_tokens.specs.declared.refusal.Refusal.{Refusal}
use Rattle.tera_syntax_tokens.specs.declared.refusal.Refusal.TheVariants.{OutOfMemory}
use Rattle.tera_syntax_tokens.specs.Answers.{Refuses}
use Rattle.tera_syntax_tree.specs.Tree.{Nodes}
use Rattle.tera_syntax_tree.specs.View.{expr_of, entries_of, filters_of, signature_of, nodes_of, definitions_of, quoted_option}
use Rattle.tera_syntax.specs.Heads.{Head, IfHead, ForHead, SetHead, SectionHead, BlockHead, CallHead}
use Rattle.tera_syntax.specs.Reader.{OpenStatement, Progress}
use Rattle.tera_syntax.specs.Parts.{OpenComponent, Parts}
use Rattle.tera_syntax.specs.File.{File}
use Rattle.tera_syntax.specs.Names.{NameAt}
use Rattle.tera_syntax.specs.declared.blocks.PlacedName.{PlacedName}
use Rattle.tera_syntax.specs.declared.file.File as file
use Rattle.tera_syntax.specs.declared.heads.Head as head
use Rattle.tera_syntax.specs.declared.heads.Head.TheVariants as variant
use Rattle.tera_syntax.specs.declared.open_statements.OpenStatement as statement
use Rattle.tera_syntax.specs.declared.open_statements.OpenStatements as progress
use Rattle.tera_syntax.specs.declared.parts.OpenComponent as component
use Rattle.tera_syntax.specs.declared.parts.Parts as parts

abbrev pub heading_of : Heading → Head
heading_of h = ForHead (option_copied h.key) h.name.now (expr_of h.target)

abbrev call_of : ComponentTag → Span → Head
call_of t span = let parts = out-ComponentTag t in
    CallHead parts.name.now (entries_of parts.attributes.items) span

abbrev pub head_of : head.Head → Head
head_of (variant.If c) = IfHead (expr_of c.value)
head_of (variant.For h) = heading_of h.value
head_of (variant.Set c is_global) =
    SetHead c.value.name.now (filters_of c.value.filters.items) is_global
head_of (variant.Section fs) = SectionHead (filters_of fs.items)
head_of (variant.Block t span) = BlockHead t.now span
head_of (variant.Call t span) = call_of t.value span

abbrev pub body_of : Option (Vec declared.Node Global) → Option Nodes
body_of None = None
body_of (Some nodes) = Some (nodes_of nodes.items)

abbrev pub statement_of : statement.OpenStatement → OpenStatement
statement_of f =
    record {
      before = nodes_of f.before.items;
      head = head_of f.head;
      body = body_of f.body;
      is_chained = f.is_chained;
      surroundings = f.surroundings;
    }

-- the innermost stands last in memory
abbrev pub statements_of : List statement.OpenStatement → List OpenStatement
statements_of fs = map statement_of (reverse fs)

abbrev pub progress_of : progress.OpenStatements → Progress
progress_of s =
    record {
      statements = statements_of s.statements.items;
      found = nodes_of s.found.items;
      surroundings = s.surroundings;
    }

abbrev pub component_of : component.OpenComponent → OpenComponent
component_of c =
    record { before = nodes_of c.before.items; signature = signature_of c.signature }

abbrev pub parts_of : parts.Parts → Parts
parts_of p =
    record {
      definitions = definitions_of p.definitions.items;
      component = option_map component_of p.component;
      progress = progress_of p.progress;
    }

abbrev pub file_of : file.File → File
file_of f =
    record {
      parent = quoted_option f.parent;
      is_front = f.is_front;
      parts = parts_of f.parts;
    }

abbrev pub names_of : List PlacedName → List NameAt
names_of names = map (λ n. (n.name.now, n.span)) names

-- These names are put behind those that were there. Memory may lack for it, and nothing else is
-- refused.
abbrev pub Gathers : List NameAt → List PlacedName → Result (Unit {0}) Refusal → List PlacedName
    → Type 0
Gathers more old (Ok done) new = names_of new ≡ names_of old ++ more
Gathers more old (Err refusal) new = refusal ≡ OutOfMemory

-- What is read becomes what is meant. After a refusal nothing is said of it.
abbrev pub Becomes : Option Progress → Result (Unit {0}) Refusal → progress.OpenStatements → Type 0
Becomes meant (Ok done) new = meant ≡ Some (progress_of new)
Becomes meant (Err refusal) new = Refuses meant refusal

-- the same of nodes and components
abbrev pub PartsBecome : Option Parts → Result (Unit {0}) Refusal → parts.Parts → Type 0
PartsBecome meant (Ok done) new = meant ≡ Some (parts_of new)
PartsBecome meant (Err refusal) new = Refuses meant refusal

-- the same of a whole text
abbrev pub FileBecomes : Option File → Result (Unit {0}) Refusal → file.File → Type 0
FileBecomes meant (Ok done) new = meant ≡ Some (file_of new)
FileBecomes meant (Err refusal) new = Refuses meant refusal
