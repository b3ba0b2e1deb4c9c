-- What a text of which the tree is computed renders to, and where its markup comes from.
use Rattle.std.proofs.Common.{◌≡◌, Bool, true, Option, Some, None, Result, Ok, Err, IfOk, IsSomeAnd, option_map, refl, ap, sym, ◌∙◌, subst}
use Rattle.tera_errors.specs.Site.{Text}
use Rattle.tera_errors.specs.Fault.{Fault}
use Rattle.tera_errors.specs.Answer.{SeenError, Gives, GivesOneOf}
use Rattle.tera_values.specs.Escape.{escape_html}
use Rattle.tera_values.specs.Val.{Val}
use Rattle.tera_values.specs.Named.{Named}
use Rattle.tera_syntax_tree.specs.Tree.{Tree}
use Rattle.tera_syntax.specs.TreeRead.{tree_read, IsReading}
use Rattle.tera_syntax.proofs.TreeRead.{answers_as_read}
use Rattle.tera_meaning.specs.Registry.{Registry}
use Rattle.tera_meaning.specs.Components.{one_off_name}
use Rattle.tera_meaning.specs.Rendering.{render_str}
use Rattle.tera_meaning.specs.Marks.Renderings.{Rendering, of_text, sources}
use Rattle.tera_meaning.specs.Marks.Foreign.{HasOwnMarkup, MarksNoneSafe}
use Rattle.tera_meaning.proofs.Marks.Foreign.{markup_is_the_templates}
use Rattle.tera.specs.FixedText.{text_rendered, TextMarksNoneSafe, TextHasOwnMarkup}
use Rattle.tera.specs.PageLaws.{AnswersAsComputed, MarkupIsTheTexts}
use Rattle.tera.specs.Rendering.{OneOff}

module _ (r : Registry) (text : Text) (context : Named Val) (autoescape : Bool) where
  -- what is answered for the tree that the reader makes of the text
  abbrev told : Tree → Result Text Fault
  told tree = render_str r (Ok tree) context autoescape

  told-by : (reading : Result Tree Fault) (o : Option Tree) (meant answer : Result Text Fault) → IsReading one_off_name text o reading → answer ≡ render_str r reading context autoescape
      → option_map told o ≡ Some meant → answer ≡ meant
  told-by reading None meant answer h is e = absurd (cc)
  told-by reading (Some tree) meant answer h is e = (let m : told tree ≡ meant = cc in is ∙ ap (λ x. render_str r x context autoescape) h ∙ m)

module _ (r : Registry) (text : Text) (context : Named Val) (page : Text) (by_html : r.engine.escape ≡ escape_html) where
  abbrev call_of : Tree → Rendering
  call_of tree = of_text (Ok tree) context true

  own-by : (reading : Result Tree Fault) (o : Option Tree) → IsReading one_off_name text o reading → Ok page ≡ render_str r reading context true
      → IsSomeAnd (option_map call_of o) (λ call. MarksNoneSafe (sources r call)) → IsSomeAnd (option_map call_of o) (λ call. HasOwnMarkup r call page)
  own-by reading None h is none_safe = absurd none_safe
  own-by reading (Some tree) h is none_safe =
      markup_is_the_templates r (call_of tree) page by_html refl none_safe (sym (is ∙ ap (λ x. render_str r x context true) h))

pub answers_as_computed : AnswersAsComputed
answers_as_computed r text context autoescape meant answer e one =
    told-by r text context autoescape one.reading (tree_read r.delimiters text) meant answer (answers_as_read one_off_name r.delimiters text one.reading one.read) one.is e

pub markup_is_the_texts : MarkupIsTheTexts
markup_is_the_texts r text context page by_html none_safe one =
    own-by r text context page by_html one.reading (tree_read r.delimiters text) (answers_as_read one_off_name r.delimiters text one.reading one.read) one.is none_safe

-- What a call gives that renders the text in this context.
module _ {X : Type 0} (view : X → Text) (result : Result X SeenError) (r : Registry) (text : Text) (context given : Named Val) (is : context ≡ given) where
  computed-in : (autoescape : Bool) (meant answer : Result Text Fault) → text_rendered r text given autoescape ≡ Some meant → OneOff r text context autoescape answer → meant ≡ answer
  computed-in autoescape meant answer e one = sym (answers_as_computed r text context autoescape meant answer (ap (λ c. text_rendered r text c autoescape) is ∙ e) one)

  -- what the text computes to, but for want of memory
  pub gives_computed : (autoescape : Bool) (meant : Result Text Fault) → text_rendered r text given autoescape ≡ Some meant → GivesOneOf view result (OneOff r text context autoescape) → Gives view result meant
  gives_computed autoescape meant e h = by result h
    where
      by : (answer : Result X SeenError) → GivesOneOf view answer (OneOff r text context autoescape) → Gives view answer meant
      by (Ok x) one = computed-in autoescape meant (Ok (view x)) e one
      by (Err None) one = tt
      by (Err (Some fault)) one = computed-in autoescape meant (Err fault) e one

  -- a page whose markup is all the text's own
  pub gives_own_markup : r.engine.escape ≡ escape_html → TextMarksNoneSafe r text given → GivesOneOf view result (OneOff r text context true) → IfOk result (λ page. TextHasOwnMarkup r text given (view page))
  gives_own_markup by_html none_safe h = by result h
    where
      by : (answer : Result X SeenError) → GivesOneOf view answer (OneOff r text context true) → IfOk answer (λ page. TextHasOwnMarkup r text given (view page))
      by (Ok x) one = markup_is_the_texts r text given (view x) by_html none_safe (subst (λ c. OneOff r text c true (Ok (view x))) is one)
      by (Err e) one = tt
