use Rattle.std.proofs.Common.{◌≡◌, ℕ, ◌+◌, ◌≤◌, pos, ◌^◌, ◌++◌, ◌∷◌, [], List, length, map, Some, None, sym, ap, ◌∙◌, arith, rules}
use Rattle.std.proofs.lemmas.List.{length-map, map-append}
use Rattle.tera_values.specs.Val.{Val, KeyVal, int}
use Rattle.tera_values.specs.Access.{find, insert_pair}
use Rattle.tera_values.specs.View.{key_view}
use Rattle.tera_built_ins.specs.Gathering.{group_view, numbered, put_in, position_in}
use Rattle.tera_built_ins.specs.declared.groups.Group as declared
use Rattle.tera_built_ins.proofs.Placed.{IsPlaced, position-found, position-new, put_in-set}
use Rattle.tera_built_ins.proofs.groups.put_in.Goals as goal

found : (k : KeyVal) (positions : List (KeyVal × Val)) (xs : List declared.Group) (p : ℕ) → positions ≡ numbered 0 (map group_view xs) → position_in (find k positions) ≡ Some p → IsPlaced k 0 (map group_view xs) p
found k positions xs p is e = position-found k 0 (map group_view xs) p (ap (λ l. position_in (find k l)) (sym is) ∙ e)

pub index_mut-requires : goal.index_mut-requires
index_mut-requires c =
    let at = found (key_view c.args.key) c.args.positions.now c.args.gathered.now.items c.in-Some.position c.requires (sym c.position_of.ensures ∙ c.in-Some.is) in
    omega (arith, at.is, at.there, length-map c.args.gathered.now.items group_view, c.args.gathered.now.ok)

pub returns-in_ok-push-in-Some-clause-positions : goal.returns-in_ok-push-in-Some-clause-positions
returns-in_ok-push-in-Some-clause-positions c =
    let at = found (key_view c.args.key) c.args.positions.now c.args.gathered.now.items c.in-Some.position c.requires (sym c.position_of.ensures ∙ c.in-Some.is) in
    let r = c.index_mut.result.now in
    c.requires ∙ sym (at.stays c.args.item) ∙ ap (numbered 0) (sym (put_in-set (key_view c.args.key) group_view c.args.gathered.now.items c.in-Some.position at _ r c.args.item (ap (λ l. (key_view r.key, l)) c.in_ok-push-in-Some.ensures.items ∙ ap (λ g. (key_view g.key, g.items.items ++ c.args.item ∷ [])) c.index_mut.ensures.value)))

pub returns-in_ok-push-in-Some-clause-groups : goal.returns-in_ok-push-in-Some-clause-groups
returns-in_ok-push-in-Some-clause-groups c =
    let at = found (key_view c.args.key) c.args.positions.now c.args.gathered.now.items c.in-Some.position c.requires (sym c.position_of.ensures ∙ c.in-Some.is) in
    let r = c.index_mut.result.now in
    put_in-set (key_view c.args.key) group_view c.args.gathered.now.items c.in-Some.position at _ r c.args.item (ap (λ l. (key_view r.key, l)) c.in_ok-push-in-Some.ensures.items ∙ ap (λ g. (key_view g.key, g.items.items ++ c.args.item ∷ [])) c.index_mut.ensures.value)

absent : (k : KeyVal) (positions : List (KeyVal × Val)) (xs : List declared.Group) (v : Val) → positions ≡ numbered 0 (map group_view xs) → position_in (find k positions) ≡ None → length xs ≤ 2 ^ 64
    → (insert_pair positions k (int (pos (length xs))) ≡ numbered 0 (map group_view xs ++ (k, v ∷ []) ∷ [])) × (put_in k v (map group_view xs) ≡ map group_view xs ++ (k, v ∷ []) ∷ [])
absent k positions xs v is e h =
    let many : 0 + length (map group_view xs) ≡ length xs = omega (arith, length-map xs group_view) in
    let new = position-new k 0 (map group_view xs) v (ap (λ l. position_in (find k l)) (sym is) ∙ e) (omega (arith, h, many)) in
    (ap (λ l. insert_pair l k (int (pos (length xs)))) is ∙ ap (λ n. insert_pair (numbered 0 (map group_view xs)) k (int (pos n))) (sym many) ∙ new.0, new.1)

grown : (xs ys : List declared.Group) (g : declared.Group) (k : KeyVal) (v : Val) → ys ≡ xs ++ g ∷ [] → group_view g ≡ (k, v ∷ []) → map group_view ys ≡ map group_view xs ++ (k, v ∷ []) ∷ []
grown xs ys g k v is one = ap (map group_view) is ∙ map-append group_view xs (g ∷ []) ∙ ap (λ (t : KeyVal × List Val). map group_view xs ++ t ∷ []) one

pub returns-in_ok-push-in-None-clause-positions : goal.returns-in_ok-push-in-None-clause-positions
returns-in_ok-push-in-None-clause-positions c =
    let xs = c.args.gathered.now.items in
    let new = absent (key_view c.args.key) c.args.positions.now xs c.args.item c.requires (sym c.position_of.ensures ∙ c.in-None.is) (omega (arith, c.args.gathered.now.ok, c.args.gathered.now.small)) in
    let placed : c.insert.new.self ≡ insert_pair c.args.positions.now (key_view c.args.key) (int (pos (length c.args.gathered.now.items))) = search rules in
    placed ∙ new.0 ∙ ap (numbered 0) (sym (grown xs _ c.in_ok-group_of_one-in-None.field-0 (key_view c.args.key) c.args.item c.in_ok-push-in-None.ensures.items (search rules)))

pub returns-in_ok-push-in-None-clause-groups : goal.returns-in_ok-push-in-None-clause-groups
returns-in_ok-push-in-None-clause-groups c =
    let xs = c.args.gathered.now.items in
    let new = absent (key_view c.args.key) c.args.positions.now xs c.args.item c.requires (sym c.position_of.ensures ∙ c.in-None.is) (omega (arith, c.args.gathered.now.ok, c.args.gathered.now.small)) in
    grown xs _ c.in_ok-group_of_one-in-None.field-0 (key_view c.args.key) c.args.item c.in_ok-push-in-None.ensures.items (search rules) ∙ sym new.1
