-- Statements with a body, as their first tag tells them.
use Rattle.std.specs.Prelude.{ℕ, List, [], ◌∷◌, Bool, true, false, ◌&&◌, ◌||◌, bytes_eq, codes, Option}
use Rattle.tera_errors.specs.Site as site
use Rattle.tera_errors.specs.declared.span.Span.{Span}
use Rattle.tera_syntax_tree.specs.Tree.{Expr, Entries, Filters, If, For, Capture, FilterSection, Block, ComponentCall, Node, Nodes}
use Rattle.tera_syntax_tree.specs.Depth.{depth, entries_depth, filters_depth}
use Rattle.tera_syntax_tokens.specs.declared.token.Kind.{Kind}
use Rattle.tera_syntax_tokens.specs.declared.token.Kind.TheVariants as k
use Rattle.tera_syntax_tokens.specs.Token.{Token}
use Rattle.tera_syntax_tokens.specs.Input.{begin, kind, text, same, is_word}
use Rattle.tera_syntax_tokens.specs.Cut.{is_alone}
use Rattle.tera_syntax.specs.declared.heads.Surroundings.{Surroundings}

-- what a text's first tag stands in: nothing
abbrev pub outside : Surroundings
outside = record { in_loop = false; may_leave = false; may_have_blocks = true }

-- what the body of a component that is defined stands in: no loop, and no block may stand there
abbrev pub in_component : Surroundings
in_component = record { in_loop = false; may_leave = false; may_have_blocks = false }

pub data Head : Type 0 where
  IfHead : (condition : Expr) → Head
  ForHead : (key : Option site.Name) (name : site.Name) (target : Expr) → Head
  SetHead : (name : site.Name) (filters : Filters) (is_global : Bool) → Head
  SectionHead : (filters : Filters) → Head
  -- with where its name stands
  BlockHead : (name : site.Name) (span : Span) → Head
  CallHead : (name : site.Name) (attributes : Entries) (span : Span) → Head

-- the statement with this body, and what stands behind its `else`
abbrev pub make : Head → Nodes → Nodes → Node
make (IfHead c) body other = If c body other
make (ForHead key n e) body other = For key n e body other
make (SetHead n fs is_global) body other = Capture n fs body is_global
make (SectionHead fs) body other = FilterSection fs body
make (BlockHead n span) body other = Block n body span
make (CallHead n all span) body other = ComponentCall n all body span

-- how deep the expressions, filters and attributes of its tag are
abbrev pub head_depth : Head → ℕ
head_depth (IfHead c) = depth c
head_depth (ForHead key n e) = depth e
head_depth (SetHead n fs is_global) = filters_depth fs
head_depth (SectionHead fs) = filters_depth fs
head_depth (BlockHead n span) = 0
head_depth (CallHead n all span) = entries_depth all

-- it may have an `else`
abbrev pub splits : Head → Bool
splits (IfHead c) = true
splits (ForHead key n e) = true
splits _ = false

-- it may have an `elif`
abbrev pub chains : Head → Bool
chains (IfHead c) = true
chains _ = false

-- What its body stands in. A block's body keeps the names of a loop around it, and can't leave a
-- turn of that loop; the body that a component is handed can.
abbrev pub inside : Head → Surroundings → Surroundings
inside (ForHead key n e) around =
    record { in_loop = true; may_leave = true; may_have_blocks = around.may_have_blocks }
inside (BlockHead n span) around =
    record {
      in_loop = around.in_loop;
      may_leave = false;
      may_have_blocks = around.may_have_blocks;
    }
inside _ around = around

-- the kind of a tag's first token
abbrev pub first : List Token → Kind
first tokens = kind (begin false tokens)

-- a tag that begins with this word, which is not reserved
abbrev pub is_begun_by : site.Text → List Token → Bool
is_begun_by word tokens =
    same k.Name (first tokens) && bytes_eq (text (begin false tokens)) word

abbrev pub is_extends : List Token → Bool
is_extends tokens = is_begun_by (codes "extends") tokens

-- a tag that defines a component
abbrev pub is_component : List Token → Bool
is_component tokens = is_begun_by (codes "component") tokens

-- the tokens are this word, and behind it this name
abbrev pub is_named : site.Text → site.Name → List Token → Bool
is_named word name (t ∷ u ∷ []) = bytes_eq t.text word && (is_word u.kind && bytes_eq u.text name)
is_named word name tokens = false

-- behind the first token stand a slash, this name and what closes
abbrev pub is_call_end : site.Name → List Token → Bool
is_call_end name (t ∷ u ∷ v ∷ w ∷ []) =
    same k.Slash u.kind && ((is_word v.kind && bytes_eq v.text name) && same k.Greater w.kind)
is_call_end name tokens = false

-- the kind of the first token of its end
abbrev pub end_kind : Head → Kind
end_kind (CallHead n all span) = k.Less
end_kind _ = k.Name

-- The tokens are its end, by the first one's kind. Behind the word that ends a block its name may
-- stand.
abbrev pub is_end : Head → List Token → Bool
is_end (IfHead c) tokens = is_alone (codes "endif") tokens
is_end (ForHead key n e) tokens = is_alone (codes "endfor") tokens
is_end (SetHead n fs is_global) tokens =
    is_alone (codes "endset") tokens || (is_global && is_alone (codes "endset_global") tokens)
is_end (SectionHead fs) tokens = is_alone (codes "endfilter") tokens
is_end (BlockHead n span) tokens =
    is_alone (codes "endblock") tokens || is_named (codes "endblock") n tokens
is_end (CallHead n all span) tokens = is_call_end n tokens

-- the tag ends a statement with this head
abbrev pub ends : Head → List Token → Bool
ends head tokens = same (end_kind head) (first tokens) && is_end head tokens

-- The tag ends the definition of a component of this name, which may stand behind the word.
abbrev pub ends_component : site.Name → List Token → Bool
ends_component name tokens =
    same k.Name (first tokens)
    && (is_alone (codes "endcomponent") tokens || is_named (codes "endcomponent") name tokens)
