use Rattle.std.proofs.Common.{◌≡◌, ◌++◌, string_bytes, map, Some, sym, ap, ◌∙◌, arith}
use Rattle.std.specs.Option.{option_or}
use Rattle.tera_meaning.specs.Resolve.{entry_at, first_there}
use Rattle.tera_registry.specs.Kept.{entries_of}
use Rattle.tera_registry.proofs.Element.{element}
use Rattle.tera_registry.proofs.Resolved.{first-there-none, first-there-at, none-more, prefix-at, length-texts}
use Rattle.tera_registry.proofs.resolve.resolve.Goals as goal

pub returns-in-Ok-find : goal.returns-in-Ok-find
returns-in-Ok-find c =
    let i = c.loop-prefix.invariant in
    let es = entries_of c.args.templates.now in
    let e = element es c.in-Ok-find.position c.in-Ok-find.ensures.1 in
    let position = prefix-at c.args.prefixes.now c.loop-prefix.prefix-index c.prefix-item.result c.loop-prefix-test.true c.prefix-item.is in
    let at : entry_at (string_bytes c.prefix-item.result ++ c.args.name.now) es ≡ Some e.0 = rw (← c.as_str.ensures.value) (c.in-Ok-find.ensures.0 ∙ e.1) in (
      ap (λ o. option_or o (first_there es (map (λ p. p ++ c.args.name.now) (map string_bytes c.args.prefixes.now)))) i.exact_none ∙ first-there-at es c.args.name.now _ c.loop-prefix.prefix-index _ e.0 i.none position at ∙ sym e.1,
      c.in-Ok-find.ensures.1,
    )

pub loop-prefix-preserved : goal.loop-prefix-preserved
loop-prefix-preserved c =
    let i = c.loop-prefix.invariant in
    let es = entries_of c.args.templates.now in
    let position = prefix-at c.args.prefixes.now c.loop-prefix.prefix-index c.prefix-item.result c.loop-prefix-test.true c.prefix-item.is in
    record {
      exact_none = i.exact_none;
      none = none-more es c.args.name.now _ c.loop-prefix.prefix-index _ i.none position (rw (← c.as_str.ensures.value) c.in_default-find.ensures.0);
    }

pub returns : goal.returns
returns c =
    let i = c.loop-prefix.invariant in
    let es = entries_of c.args.templates.now in
    ap (λ o. option_or o (first_there es (map (λ p. p ++ c.args.name.now) (map string_bytes c.args.prefixes.now)))) i.exact_none ∙ first-there-none es c.args.name.now _ (λ k p lt is. i.none k p (omega (arith, length-texts c.args.prefixes.now)) is)
