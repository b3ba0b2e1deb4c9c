use Rattle.std.proofs.Common.{rules, ◌≡◌, ◌++◌, string_bytes, ℕ, ◌+◌, ◌-◌, ◌<◌, length, drop, take, List, [], ◌∷◌, codes, sym, ap, ◌∙◌, arith}
use Rattle.tera_value_types.specs.Val.{map, entries}
use Rattle.tera_value_types.specs.View.{key_view, entry_views}
use Rattle.tera_value_types.specs.Printed.{inside, key_text}
use Rattle.tera_value_types.proofs.Sizes.{array_deeper, map_deeper}
use Rattle.tera_value_types.proofs.Stretches.{keeps_on}
use Rattle.tera_value_types.specs.declared.value.Entry.{Entry}
use Rattle.tera_value_types.proofs.Listed.{listed, listed_more, listed_end, first_and_rest, four_more, closed, on_ok}
use Rattle.tera_value_types.proofs.+printing.Goals as goal

pub value::Value::append_inside-append_items-requires : goal.value::Value::append_inside-append_items-requires
value::Value::append_inside-append_items-requires t c = (omega (arith, array_deeper c.in-Array.items.now c.args.self.now c.in-Array.ensures, c.decreases), tt)

pub value::Value::append_inside-append_entries-requires : goal.value::Value::append_inside-append_entries-requires
value::Value::append_inside-append_entries-requires t c =
    let whole : map (entries (entry_views c.entries.result.now)) ≡ c.args.self.now = ap (λ es. map (entries es)) c.entries.ensures ∙ c.in-Map.ensures in
    (omega (arith, map_deeper c.entries.result.now c.args.self.now whole, c.decreases), tt)

pub print::append_entries-loop-entry-preserved : goal.print::append_entries-loop-entry-preserved
print::append_entries-loop-entry-preserved t c =
    let all = c.args.all.now in
    let rest = take (length all - 1) (drop 1 all) in
    let i = c.loop-entry.entry-index in
    let e = c.entry-item.result in
    let h : i < length rest = search rules in
    let after : List ℕ = listed (drop (i + 1) rest) in
    let more = four_more (string_bytes c.loop-entry.out) (codes ", ") (key_text (key_view e.key)) (codes ": ") (inside e.value) after (string_bytes c.append-in-loop-entry.new.out) (string_bytes c.append_key-in-loop-entry.new.out) (string_bytes c.append-in-loop-entry-2.new.out) (string_bytes c.append_inside-in-loop-entry.new.out) c.in_ok-append-in-len1-up-3.ensures.ok c.in_ok-append_key-in-len1-up-2.ensures.ok c.in_ok-append-in-len1-up-4.ensures.ok c.in_ok-append_inside-in-len1-up-2.ensures.ok in
    let k1 = keeps_on (string_bytes c.args.out.now) (string_bytes c.loop-entry.out) (string_bytes c.append-in-loop-entry.new.out) c.loop-entry.invariant.keeps c.append-in-loop-entry.ensures.keeps in
    let k2 = keeps_on (string_bytes c.args.out.now) (string_bytes c.append-in-loop-entry.new.out) (string_bytes c.append_key-in-loop-entry.new.out) k1 c.append_key-in-loop-entry.ensures.keeps in
    let k3 = keeps_on (string_bytes c.args.out.now) (string_bytes c.append_key-in-loop-entry.new.out) (string_bytes c.append-in-loop-entry-2.new.out) k2 c.append-in-loop-entry-2.ensures.keeps in
    record {
      written = more ∙ ap (λ (x : List ℕ). string_bytes c.loop-entry.out ++ x) (sym (listed_more rest i e h c.entry-item.is)) ∙ c.loop-entry.invariant.written;
      keeps = keeps_on (string_bytes c.args.out.now) (string_bytes c.append-in-loop-entry-2.new.out) (string_bytes c.append_inside-in-loop-entry.new.out) k3 c.append_inside-in-loop-entry.ensures.keeps;
    }

pub print::append_entries-returns-after-loop-entry-clause-ok : goal.print::append_entries-returns-after-loop-entry-clause-ok
print::append_entries-returns-after-loop-entry-clause-ok t c =
    let all = c.args.all.now in
    let rest = take (length all - 1) (drop 1 all) in
    let e = c.first-item.result in
    let first = four_more (string_bytes c.args.out.now) (codes "{") (key_text (key_view e.key)) (codes ": ") (inside e.value) [] (string_bytes c.append-in-len1-up.new.out) (string_bytes c.append_key.new.out) (string_bytes c.append-in-len1-up-2.new.out) (string_bytes c.append_inside.new.out) c.in_ok-append-in-len1-up.ensures.ok c.in_ok-append_key-in-len1-up.ensures.ok c.in_ok-append-in-len1-up-2.ensures.ok c.in_ok-append_inside-in-len1-up.ensures.ok in
    let done : string_bytes c.loop-entry.out ++ [] ≡ string_bytes c.append_inside.new.out ++ listed rest = ap (λ (x : List ℕ). string_bytes c.loop-entry.out ++ x) (sym (listed_end rest c.loop-entry.entry-index c.loop-entry-test.false)) ∙ c.loop-entry.invariant.written in
    let whole : all ≡ e ∷ rest = first_and_rest all e c.in-len1-up.len_at_least c.first-item.is in
    on_ok c.append-in-len1-up-3.result
    (λ (last : string_bytes c.append-in-len1-up-3.new.out ≡ string_bytes c.loop-entry.out ++ codes "}"). closed (string_bytes c.args.out.now) (codes "{") (key_text (key_view e.key)) (codes ": ") (inside e.value) (listed rest) (codes "}") (string_bytes c.append_inside.new.out) (string_bytes c.loop-entry.out) (string_bytes c.append-in-len1-up-3.new.out) first done last ∙ ap (λ (l : List Entry). string_bytes c.args.out.now ++ inside (map (entries (entry_views l)))) (sym whole))
    c.append-in-len1-up-3.ensures.ok
