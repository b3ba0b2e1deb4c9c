-- Renderings within a budget of steps.
use Rattle.std.proofs.Common.{◌≡◌, ℕ, ◌+◌, ◌*◌, ◌<◌, ◌≤◌, Bool, true, false, Result, Ok, Err, refl, arith}
use Rattle.std.proofs.lemmas.Bool.{ltb-true}
use Rattle.tera_errors.specs.Site.{Text}
use Rattle.tera_errors.specs.Fault.{Fault}
use Rattle.tera_errors.specs.Answer.{SeenError, GivesOneOf}
use Rattle.tera_values.specs.Val.{Val}
use Rattle.tera_values.specs.Named.{Named}
use Rattle.tera_syntax_tree.specs.Tree.{Tree}
use Rattle.tera_syntax.specs.Reads.{Reads}
use Rattle.tera_meaning.specs.Registry.{Registry}
use Rattle.tera_meaning.specs.Components.{one_off_name}
use Rattle.tera_code.specs.Budget.{is_over}
use Rattle.tera.specs.Registry.{subject_beside}
use Rattle.tera.specs.Budget.{GivesWithin, TextTakesMore, unless, visits_meant}

-- what takes no steps takes no more than any number
pub none_more : (before n : ℕ) → before + n < before → ⊥
none_more before n h = omega (arith, h)

-- a text that was read takes more only where its tree does
pub text_more : (r : Registry) (text : Text) (context : Named Val) (autoescape : Bool) (tree : Tree) (before after n : ℕ) → Reads one_off_name r.delimiters text (Ok tree) → after ≤ before + 8 * visits_meant (subject_beside r tree context autoescape) → before + n < after → TextTakesMore r text context autoescape n
text_more r text context autoescape tree before after n read few h =
    record { tree = tree; read = read; more = omega (arith, few, h) }

-- an answer that is left out where the steps are spent
pub gives_within : {X Y : Type 0} (view : X → Y) (answer : Result X SeenError) (Meant : Result Y Fault → Type 0) (Exceeded : Type 0) (spent : Bool) → GivesOneOf view answer Meant → (spent ≡ true → Exceeded) → GivesWithin view (unless spent answer) Meant Exceeded
gives_within view answer Meant Exceeded true g exceeded = exceeded refl
gives_within view (Ok x) Meant Exceeded false g exceeded = g
gives_within view (Err e) Meant Exceeded false g exceeded = g

-- more than a budget has
pub exceeds : (limit allowed steps : ℕ) → limit ≡ allowed → is_over allowed steps ≡ true → limit < steps
exceeds limit allowed steps is over = omega (arith, is, ltb-true allowed steps over)
