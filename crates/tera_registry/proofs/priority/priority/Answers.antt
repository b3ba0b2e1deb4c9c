use Rattle.std.proofs.Common.{◌≡◌, ◌<◌, ℕ, Bool, List, [], length, map, String, Global, string_bytes, nat_eq, true, false, get_or, sym, arith, below_more}
use Rattle.std.specs.List.{starts_with}
use Rattle.std.proofs.lemmas.Option.{get_or_from_slice_get}
use Rattle.tera_registry.proofs.Resolved.{prefix-at, length-texts}
use Rattle.tera_registry.proofs.Priorities.{first-fit-at, first-fit-none}
use Rattle.tera_registry.proofs.priority.priority.Goals as goal

-- whether the prefix at a position begins the name is asked of their bytes
begins : (prefixes : List (String Global)) (position : ℕ) (prefix : String Global) (name text front : List ℕ) (b : Bool) → position < length prefixes → prefix ≡ get_or prefixes position prefix → text ≡ name → front ≡ string_bytes prefix → b ≡ starts_with nat_eq text front → starts_with nat_eq name (get_or (map string_bytes prefixes) position []) ≡ b
begins prefixes position prefix name text front b lt is text_is front_is e =
    let at : get_or (map string_bytes prefixes) position [] ≡ string_bytes prefix = get_or_from_slice_get (map string_bytes prefixes) _ _ [] (prefix-at prefixes position prefix lt is) in
    rw (at, ← text_is, ← front_is) (sym e)

pub returns-then-starts_with : goal.returns-then-starts_with
returns-then-starts_with c =
    let ps = map string_bytes c.args.prefixes.now in
    sym (first-fit-at ps c.args.name.now c.loop-position.position (omega (arith, length-texts c.args.prefixes.now, c.loop-position-test.true)) c.loop-position.invariant (begins _ _ _ _ _ _ true c.loop-position-test.true c.index-prefixes-position.is c.as_bytes.ensures.value c.as_bytes-in-loop-position.ensures.value c.if-starts_with.ensures.value))

pub loop-position-preserved : goal.loop-position-preserved
loop-position-preserved c =
    let ps = map string_bytes c.args.prefixes.now in
    below_more (λ k. starts_with nat_eq c.args.name.now (get_or ps k []) ≡ false) _ c.loop-position.invariant (begins _ _ _ _ _ _ false c.loop-position-test.true c.index-prefixes-position.is c.as_bytes.ensures.value c.as_bytes-in-loop-position.ensures.value c.if-starts_with.ensures.value)

pub returns : goal.returns
returns c =
    let ps = map string_bytes c.args.prefixes.now in
    sym (first-fit-none ps c.args.name.now (λ k lt. c.loop-position.invariant k (omega (arith, length-texts c.args.prefixes.now))))
