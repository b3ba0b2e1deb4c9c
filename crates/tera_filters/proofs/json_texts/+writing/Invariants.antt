use Rattle.std.proofs.Common.{◌≡◌, drop}
use Rattle.tera_values.specs.Val.{array, map, vals, entries}
use Rattle.tera_filters.specs.JsonTexts.{tokens_of, item_tokens, member_tokens}
use Rattle.tera_filters.specs.Sheets.{page_of, with_all}
use Rattle.tera_filters.proofs.json_texts.+writing.Given as goal

abbrev pub invariant-put_items-loop-item : goal.invariant-put_items-loop-item
invariant-put_items-loop-item l =
    with_all (page_of l.out) (item_tokens (vals (drop l.item-index l.items))) ≡ with_all (page_of l.fn.out) (tokens_of (array (vals l.items)))

abbrev pub invariant-put_members-loop-position : goal.invariant-put_members-loop-position
invariant-put_members-loop-position l =
    with_all (page_of l.out) (member_tokens (entries (drop l.position l.all))) ≡ with_all (page_of l.fn.out) (tokens_of (map (entries l.all)))
