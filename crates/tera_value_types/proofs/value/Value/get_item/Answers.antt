use Rattle.std.proofs.Common.{◌≡◌, List, Result, Ok, IsOk, IsOkAnd, sym, ap, ◌∙◌, subst, length, rules}
use Rattle.tera_errors.specs.Fault.{Fault}
use Rattle.tera_errors.specs.Answer.{Gives}
use Rattle.tera_value_types.specs.Val.{Val, array, vals}
use Rattle.tera_value_types.specs.Access.{IsScalar, key_of}
use Rattle.tera_value_types.specs.Items.{get_item, found_at, item_at, position_of}
use Rattle.tera_value_types.proofs.Pairs.{pairs_entries}
use Rattle.tera_value_types.proofs.Counts.{list_vals}
use Rattle.tera_value_types.proofs.value.Value.get_item.Goals as goal

pub returns-in-Map : goal.returns-in-Map
returns-in-Map c =
    let index = c.args.index.now in
    let meant : found_at (key_of index) c.in-Map.all.now ≡ get_item c.args.self.now index =
    ap (found_at (key_of index)) (sym (pairs_entries c.in-Map.all.now)) ∙ ap (λ (v : Val). get_item v index) c.in-Map.ensures in
    record {
      value = subst (λ (m : Result Val Fault). Gives (λ (x : Val). x) c.entry_in.result m) meant c.entry_in.ensures.value;
      ready = subst (λ (m : Result Val Fault). IsOkAnd m IsScalar → IsOk c.entry_in.result) meant c.entry_in.ensures.ready;
    }

pub returns-in-Int : goal.returns-in-Int
returns-in-Int c =
    let xs = c.in-Array.items.now in
    let at : List Val → Result Val Fault = λ (l : List Val). Ok (item_at (position_of c.in-Int.n (length l)) l) in
    let meant : at xs ≡ get_item c.args.self.now c.args.index.now =
    ap at (sym (list_vals xs)) ∙ ap (get_item (array (vals xs))) c.in-Int.ensures ∙ ap (λ (v : Val). get_item v c.args.index.now) c.in-Array.ensures in
    let value : Gives {X = Val} {Y = Val} (λ (x : Val). x) c.item_in.result (at xs) = search rules in
    let ready : IsOkAnd (at xs) IsScalar → IsOk c.item_in.result = search rules in
    record {
      value = subst (λ (m : Result Val Fault). Gives (λ (x : Val). x) c.item_in.result m) meant value;
      ready = subst (λ (m : Result Val Fault). IsOkAnd m IsScalar → IsOk c.item_in.result) meant ready;
    }
