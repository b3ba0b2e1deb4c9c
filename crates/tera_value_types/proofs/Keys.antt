-- The laws of the order of keys.
use Rattle.std.proofs.Common.{◌≡◌, true, false, refl, sym, ap, ◌∙◌, Ordering, Less, Equal, Greater, is_eq}
use Rattle.std.specs.Cmp.{IsTotalOrder, bool_cmp_total}
use Rattle.std.specs.Ordering.{ordering_then, ordering_reverse}
use Rattle.std.proofs.lemmas.Cmp.{nat_cmp_total, int_cmp_total, nat_list_cmp_total, on_total, then_total, tied_itself, int_ranked}
use Rattle.std.proofs.lemmas.Map.Lookups.{exact_bytes}
use Rattle.tera_value_types.specs.Val.{KeyVal, kbool, kint, ktext}
use Rattle.tera_value_types.specs.Keys.{key_cmp, key_rank, key_bool, key_number, key_bytes}

pub keys_total : IsTotalOrder key_cmp
keys_total = then_total (on_total key_rank nat_cmp_total) (then_total (on_total key_bool bool_cmp_total) (then_total (on_total key_number int_cmp_total) (on_total key_bytes nat_list_cmp_total)))

pub then_left : (o p : Ordering) → ordering_then o p ≡ Equal → o ≡ Equal
then_left Less p h = h
then_left Equal p h = refl
then_left Greater p h = h

-- keys that tie are one key
pub key_exact : (a b : KeyVal) → key_cmp a b ≡ Equal → a ≡ b
key_exact (kbool false) (kbool false) h = refl
key_exact (kbool true) (kbool true) h = refl
key_exact (kbool false) (kbool true) h = cc
key_exact (kbool true) (kbool false) h = cc
key_exact (kint a) (kint b) h = ap kint (int_ranked a b Equal (sym (then_left _ _ h)))
key_exact (ktext a) (ktext b) h = ap ktext (exact_bytes a b h)
key_exact a b h = cc

pub key_tied : (k : KeyVal) → key_cmp k k ≡ Equal
key_tied k = tied_itself keys_total k

pub flip_Less : (a b : KeyVal) → key_cmp a b ≡ Less → key_cmp b a ≡ Greater
flip_Less a b h = keys_total.antisymm b a ∙ ap ordering_reverse h

pub flip_Greater : (a b : KeyVal) → key_cmp a b ≡ Greater → key_cmp b a ≡ Less
flip_Greater a b h = keys_total.antisymm b a ∙ ap ordering_reverse h

pub is_eq_true : (o : Ordering) → is_eq o ≡ true → o ≡ Equal
is_eq_true Less h = cc
is_eq_true Equal h = refl
is_eq_true Greater h = cc
