-- Values of what is written out item by item.
use Rattle.std.proofs.Common.{◌≡◌, Vec, Global, List, [], ◌∷◌, Ok, Result, refl, sym, ap, ◌∙◌, map as map_list}
use Rattle.tera_errors.specs.Fault.{Fault}
use Rattle.tera_syntax_tree.specs.declared.component.Literal.{Literal, Row_of-Literal, end_of-Literal, more_of-Literal, items-the_row-Literal, items_hidden-the_row-Literal-0, Row_of-LiteralEntry, end_of-LiteralEntry, more_of-LiteralEntry, items-the_row-LiteralEntry, items_hidden-the_row-LiteralEntry-1}
use Rattle.tera_syntax_tree.specs.declared.component.Literal.TheVariants as written
use Rattle.tera_syntax_tree.specs.declared.component.LiteralEntry.{LiteralEntry}
use mathlib.Core.Former.{Count}
use Rattle.tera_syntax_tree.specs.Tree.{ArrayLiteral, MapLiteral, MoreLiterals, MoreLiteralEntries}
use Rattle.tera_syntax_tree.specs.View.{written_of, literal_of, row_literals, row_literal_entries, literals_of, literal_entries_of}
use Rattle.tera_values.specs.Alphabet.{plain}
use Rattle.tera_values.specs.Val.{Val, KeyVal, array, map, vals, item, entries}
use Rattle.tera_components.specs.Context.{literal_value, literal_items_in, literal_pairs_in}

literals_row : (m : _) (row : Row_of-Literal m) → row_literals row ≡ literals_of (items-the_row-Literal m row)
literals_row m end_of-Literal = refl
literals_row m (more_of-Literal v rest) = ap (λ r. MoreLiterals (written_of v) r) (literals_row _ rest)

entries_row : (m : _) (row : Row_of-LiteralEntry m) → row_literal_entries row ≡ literal_entries_of (items-the_row-LiteralEntry m row)
entries_row m end_of-LiteralEntry = refl
entries_row m (more_of-LiteralEntry k v rest) = ap (λ r. MoreLiteralEntries (literal_of k) (written_of v) r) (entries_row _ rest)

abbrev items_in : Literal → (n : Count) × Row_of-Literal n
items_in (written.Array' _ row) = (_, row)
items_in _ = (_, end_of-Literal)

abbrev entries_in : Literal → (n : Count) × Row_of-LiteralEntry n
entries_in (written.Map' _ row) = (_, row)
entries_in _ = (_, end_of-LiteralEntry)

view_array : (all : Vec Literal Global) → written_of (written.Array all) ≡ ArrayLiteral (literals_of all.items)
view_array all =
    let r = items_in (written.Array all) in
    ap ArrayLiteral (literals_row r.0 r.1 ∙ ap literals_of (items_hidden-the_row-Literal-0 all))

view_map : (all : Vec LiteralEntry Global) → written_of (written.Map all) ≡ MapLiteral (literal_entries_of all.items)
view_map all =
    let r = entries_in (written.Map all) in
    ap MapLiteral (entries_row r.0 r.1 ∙ ap literal_entries_of (items_hidden-the_row-LiteralEntry-1 all))

items_are : (xs : List Literal) → literal_items_in plain (literals_of xs) ≡ vals (map_list (λ v. literal_value (written_of v)) xs)
items_are [] = refl
items_are (x ∷ xs) = ap (λ vs. item (literal_value (written_of x)) vs) (items_are xs)

pub literal_array : (l : Literal) (all : Vec Literal Global) (xs : List Literal) (vs : List Val) → l ≡ written.Array all → xs ≡ all.items →
    ◌≡◌ {A = Result (List Val) Fault} (Ok (map_list (λ v. literal_value (written_of v)) xs)) (Ok vs) → literal_value (written_of l) ≡ array (vals vs)
literal_array l all xs vs is same made =
    let values : map_list (λ v. literal_value (written_of v)) xs ≡ vs = cc in
    ap (λ v. literal_value (written_of v)) is
    ∙ ap literal_value (view_array all)
    ∙ ap (λ ys. array (literal_items_in plain (literals_of ys))) (sym same)
    ∙ ap array (items_are xs ∙ ap vals values)

pub literal_map : (l : Literal) (all : Vec LiteralEntry Global) (xs : List LiteralEntry) (es : List (KeyVal × Val)) → l ≡ written.Map all → xs ≡ all.items →
    ◌≡◌ {A = Result (List (KeyVal × Val)) Fault} (Ok (literal_pairs_in plain (literal_entries_of xs) [])) (Ok es) → literal_value (written_of l) ≡ map (entries es)
literal_map l all xs es is same made =
    let pairs : literal_pairs_in plain (literal_entries_of xs) [] ≡ es = cc in
    ap (λ v. literal_value (written_of v)) is
    ∙ ap literal_value (view_map all)
    ∙ ap (λ ys. map (entries (literal_pairs_in plain (literal_entries_of ys) []))) (sym same)
    ∙ ap (λ ps. map (entries ps)) pairs
