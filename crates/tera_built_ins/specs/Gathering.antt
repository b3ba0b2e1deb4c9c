-- Groups while they are gathered.
use Rattle.std.specs.Prelude.{◌≡◌, false, ℕ, ◌+◌, ◌^◌, pos, if◌then◌else◌, List, [], ◌∷◌, ◌++◌, Option, Some, None, Result, Ok, Err}
use Rattle.std.specs.List.{list_any}
use Rattle.tera_errors.specs.Fault.{Fault}
use Rattle.tera_values.specs.Val.{Val, KeyVal, int}
use Rattle.tera_values.specs.Access.{key_eq}
use Rattle.tera_values.specs.View.{key_view}
use Rattle.tera_built_ins.specs.Arguments.{as_natural}
use Rattle.tera_built_ins.specs.declared.groups.Keyed as keyed
use Rattle.tera_built_ins.specs.declared.groups.Group as group

abbrev pub keyed_view : keyed.Keyed → KeyVal × Val
keyed_view e = (key_view e.key, e.item.now)

abbrev pub group_view : group.Group → KeyVal × List Val
group_view g = (key_view g.key, g.items.items)

-- no two of them are the same
abbrev pub AllOther : List KeyVal → Type 0
AllOther [] = Unit {0}
AllOther (k ∷ ks) = (list_any (key_eq k) ks ≡ false) × AllOther ks

-- each group's key with the position of the group, counted from n
abbrev pub numbered : {A : Type 0} → ℕ → List (KeyVal × A) → List (KeyVal × Val)
numbered n [] = []
numbered n (g ∷ gs) = (g.0, int (pos n)) ∷ numbered (n + 1) gs

-- behind those of its key, or in a group of its own
abbrev pub put_in : {A : Type 0} → KeyVal → A → List (KeyVal × List A) → List (KeyVal × List A)
put_in k a [] = (k, a ∷ []) ∷ []
put_in k a (g ∷ gs) = if key_eq k g.0 then (g.0, g.1 ++ a ∷ []) ∷ gs else g ∷ put_in k a gs

abbrev pub ok_of : {A : Type 0} → Result A Fault → Option A
ok_of (Ok a) = Some a
ok_of (Err fault) = None

-- the position that a value says
abbrev pub position_in : Option Val → Option ℕ
position_in None = None
position_in (Some v) = ok_of (as_natural (2 ^ 64) v)
