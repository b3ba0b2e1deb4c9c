use Rattle.std.proofs.Common.{◌≡◌, ◌||◌, [], true, false, map, ap, sym, ◌∙◌}
use Rattle.std.specs.Option.{is_some}
use Rattle.std.specs.Prelude.{string_bytes}
use Rattle.std.specs.Str.{bytes_eq}
use Rattle.std.specs.BTreeMap.{get_by}
use Rattle.std.specs.Cmp.Lexicographic.{slice_cmp}
use Rattle.std.specs.Ordering.{nat_cmp}
use Rattle.std.proofs.lemmas.Map.Text.{btree_map_updates_str}
use Rattle.std.proofs.Math.ListN.{get_or}
use Rattle.tera.specs.Site.{Text}
use Rattle.tera_job.specs.Paths.{output_path, stays_inside}
use Rattle.tera_job.proofs.Places.{out_at, met_at, placed_at, known_at, path_at, paths_within, is_some_update, told}
use Rattle.tera_job.proofs.page.check_paths.Goals as goal

pub returns-then-not-stays_inside-clause-err : goal.returns-then-not-stays_inside-clause-err
returns-then-not-stays_inside-clause-err c =
    let names = c.args.names.now in
    let i = c.loop-name.name-index in
    let p : Text = c.output_path-path.result.now in
    let ps = map output_path (map string_bytes names) in
    let found = path_at names i c.name-item.result c.loop-name-test.true in
    let at : get_or ps i [] ≡ p = cc in
    let out : stays_inside p ≡ false = cc in
    told c.message_from.result _ c.message_from.ensures (out_at ps i p (paths_within names i c.loop-name-test.true) at out)

pub returns-in-Some-clause-err : goal.returns-in-Some-clause-err
returns-in-Some-clause-err c =
    let names = c.args.names.now in
    let i = c.loop-name.name-index in
    let p : Text = c.output_path-path.result.now in
    let ps = map output_path (map string_bytes names) in
    let found = path_at names i c.name-item.result c.loop-name-test.true in
    let at : get_or ps i [] ≡ p = cc in
    let there : is_some (get_by (λ k. slice_cmp nat_cmp p k.now) c.loop-name.makers) ≡ true = ap is_some (sym c.in_ok-other.ensures.old ∙ c.in-Some.is) in
    told c.message_from-in-Some.result _ c.message_from-in-Some.ensures (met_at ps i p (paths_within names i c.loop-name-test.true) at (sym (c.loop-name.invariant.known p) ∙ there))

pub loop-name-preserved : goal.loop-name-preserved
loop-name-preserved c =
    let names = c.args.names.now in
    let i = c.loop-name.name-index in
    let p : Text = c.output_path-path.result.now in
    let ps = map output_path (map string_bytes names) in
    let found = path_at names i c.name-item.result c.loop-name-test.true in
    let at : get_or ps i [] ≡ p = cc in
    let inside : stays_inside p ≡ true = cc in
    let within = paths_within names i c.loop-name-test.true in
    let none : is_some (get_by (λ k. slice_cmp nat_cmp p k.now) c.loop-name.makers) ≡ false = ap is_some (sym c.in_ok-other.ensures.old ∙ c.in_default.is) in
    record {
      placed = placed_at ps i p within at c.loop-name.invariant.placed inside (sym (c.loop-name.invariant.known p) ∙ none);
      known = λ q.
          ap is_some (btree_map_updates_str p c.loop-name.makers c.insert.new.self _ c.in_ok-other.ensures.updates q)
          ∙ is_some_update (bytes_eq p q) _ _ ∙ ap (λ b. bytes_eq p q || b) (c.loop-name.invariant.known q)
          ∙ sym (known_at ps i p q within at);
    }
