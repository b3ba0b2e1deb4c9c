use Rattle.std.proofs.Common.{◌≡◌, ◌<◌, List, [], ◌∷◌, length, Result, Ok, codes, ap, sym, subst, ◌∙◌, arith}
use Rattle.std.proofs.lemmas.Bool.Decides.{nat_tests}
use Rattle.std.specs.List.{filter_map}
use Rattle.tera_errors.specs.Fault.{Fault}
use Rattle.tera_errors.specs.Answer.{Gives}
use Rattle.tera_values.specs.Alphabet.{plain}
use Rattle.tera_values.specs.Val.{Val}
use Rattle.tera_values.specs.Named.{Named}
use Rattle.tera_built_ins.specs.Arguments.{◌▸◌, Given, as_array, as_text, needed}
use Rattle.tera_built_ins.specs.Attributes.{all_of}
use Rattle.tera_built_ins.specs.Reading.{given_of}
use Rattle.tera_built_ins.specs.Groups.{keyed_by, groups, group_arrays, grouped_items}
use Rattle.tera_built_ins.proofs.groups.group_by.Goals as goal

-- where there is something to group, it is grouped by the attribute that is given
grouped_items-some : (arguments : Named Val) (items : List Val) (attribute : Given) → 0 < length items → needed as_text (codes "attribute") arguments ≡ Ok attribute
    → grouped_items plain arguments items ≡ (all_of (keyed_by plain attribute.text) items ▸ λ keyed. Ok (group_arrays (groups (filter_map (λ e. e) keyed))))
grouped_items-some arguments [] attribute some is = absurd (omega (arith, some))
grouped_items-some arguments (v ∷ vs) attribute some is =
    ap (λ (given : Result Given Fault). given ▸ λ a. all_of (keyed_by plain a.text) (v ∷ vs) ▸ λ keyed. Ok (group_arrays (groups (filter_map (λ e. e) keyed)))) is

pub returns-in-Ok : goal.returns-in-Ok
returns-in-Ok c =
    let items = c.in_ok-items.items.now in
    let some : 0 < length items = grind (arith, nat_tests, c.is_empty.ensures, c.if-is_empty.false) in
    let read : as_array c.args.value.now ≡ Ok items = c.in_ok-items.ensures in
    let attribute : needed as_text (codes "attribute") c.args.arguments.now ≡ Ok (given_of c.in-Ok.attribute) = c.in-Ok.ensures in
    let meant = ap (λ (r : Result (List Val) Fault). r ▸ grouped_items plain c.args.arguments.now) read ∙ grouped_items-some c.args.arguments.now items (given_of c.in-Ok.attribute) some attribute in
    subst (Gives (λ v. v) c.grouped_items.result) (sym meant) c.grouped_items.ensures
