use Rattle.std.proofs.Common.{◌≡◌, get_or, [], Ok, None, Some, map, take, sym, ap, ◌∙◌, rules}
use Rattle.tera_values.specs.Named.{at_name, put, with_names}
use Rattle.tera_values.proofs.Contexts.{named_ascend}
use Rattle.tera_values.proofs.Kept.{with_none, with_absent, with_found, next_text, all_texts}
use Rattle.tera_values.proofs.context.Context.try_clone_with.Goals as goal
use Rattle.tera_values.proofs.context.Context.try_clone_with.Goals.{in-Some+in_ok-try_clone+in_ok-insert, in_default}

pub loop-name-preserved : goal.loop-name-preserved
loop-name-preserved c =
    let whole = c.args.self.now in
    let all = c.args.names.now in
    let i = c.loop-name.name-index in
    let done = map (λ n. n.now) (take i all) in
    let text = get_or all i (record { ref_ptr = (0, 0); now = [] }) in
    let more = ap (λ names. with_names names whole) (sym (next_text all i _ c.loop-name-test.true)) in
    let up = named_ascend c.self.inside.names.entries whole c.self.view_is in
    elim c.match-get.branch [
      | in-Some+in_ok-try_clone+in_ok-insert w ↦
          let stands : at_name text.now whole ≡ Some w.in_ok-try_clone.field-0 = search rules in
          w.copy-is
          ∙ w.in_ok-insert.ensures.ok
          ∙ ap (put text.now w.in_ok-try_clone.field-0) c.loop-name.invariant
          ∙ sym (with_found done text.now w.in_ok-try_clone.field-0 whole up stands)
          ∙ more
      | in_default w ↦
          let none : at_name text.now whole ≡ None = search rules in
          w.copy-is ∙ c.loop-name.invariant ∙ sym (with_absent done text.now whole up none) ∙ more
    ]

pub loop-name-init : goal.loop-name-init
loop-name-init c =
    let made : c.new-copy.result ≡ [] = search rules in
    made ∙ sym (with_none c.args.self.now)

pub returns : goal.returns
returns c =
    ap Ok (sym (c.loop-name.invariant ∙ ap (λ names. with_names names c.args.self.now) (all_texts c.args.names.now c.loop-name.name-index (search rules))))
