use Rattle.std.proofs.Common.{rules, ◌≡◌, Ok, Err, List, sym, subst}
use Rattle.std.specs.Prelude.{string_bytes}
use Rattle.toml.specs.Data.{Members}
use Rattle.toml.specs.View.{members_view, view}
use Rattle.toml.proofs.Views.{Entry}
use Rattle.tera_errors.specs.Prelude.{Fault}
use Rattle.tera_value_types.specs.Val.{Val}
use Rattle.tera_values.specs.Named.{Named, put, put_all}
use Rattle.tera_data.specs.Toml.{OfTable, OfToml}
use Rattle.tera_data.proofs.Tables.{MembersInto, members_more, members_none, members_refused, says}
use Rattle.tera_data.proofs.toml_tables.context_of.Goals as goal

pub returns-in_err-value : goal.returns-in_err-value
returns-in_err-value c =
    let l = c.loop-name in
    let f = c.args.floats in
    let all : Members = members_view c.args.members.now.entries in
    let given : c.from_residual.result ≡ Err c.in_err-value.field-0.0 = search rules in
    let refused : (fault : Fault) → OfToml f (view c.in-Some.member.now) (Err fault) → OfTable f all (Err fault) =
    λ fault h. l.invariant (Err fault) (subst (λ (es : List Entry). MembersInto f (λ vs. put_all vs l.all) (members_view es) (Err fault)) (sym c.in-Some.ensures.steps)
    (members_refused f (λ vs. put_all vs l.all) (string_bytes c.in-Some.name.now) (view c.in-Some.member.now) (members_view c.next.new.self) fault h)) in
    rw given (says c.in_err-value.field-0.0 _ _ refused c.in_err-value.ensures)

pub loop-name-preserved : goal.loop-name-preserved
loop-name-preserved c =
    let l = c.loop-name in
    let f = c.args.floats in
    let name = string_bytes c.in-Some.name.now in
    let rest : Members = members_view c.next.new.self in
    let done : c.insert.new.self ≡ put name c.in_ok-value.value l.all = search rules in
    λ r h.
    let more = subst (λ (es : Named Val). MembersInto f (λ vs. put_all vs es) rest r) done h in
    l.invariant r (subst (λ (es : List Entry). MembersInto f (λ vs. put_all vs l.all) (members_view es) r) (sym c.in-Some.ensures.steps)
    (members_more f (λ vs. put_all vs l.all) name (view c.in-Some.member.now) rest c.in_ok-value.value c.in_ok-value.ensures r more))

pub returns : goal.returns
returns c =
    let l = c.loop-name in
    let f = c.args.floats in
    l.invariant (Ok l.all) (subst (λ (es : List Entry). MembersInto f (λ vs. put_all vs l.all) (members_view es) (Ok l.all)) (sym c.in-None.ensures.steps.0) (members_none f (λ vs. put_all vs l.all)))
