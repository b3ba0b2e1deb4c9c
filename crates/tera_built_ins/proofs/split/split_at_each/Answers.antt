use Rattle.std.proofs.Common.{◌≡◌, ◌++◌, ◌∷◌, [], false, List, Ok, ap, sym, ◌∙◌, append_assoc, rules}
use Rattle.tera_values.specs.Alphabet.{plain}
use Rattle.tera_values.specs.Val.{Val, text}
use Rattle.tera_built_ins.specs.Pieces.{pieces}
use Rattle.tera_built_ins.specs.Split.{made_texts}
use Rattle.tera_built_ins.proofs.Splitting.{split-found, split-none}
use Rattle.tera_built_ins.proofs.split.split_at_each.Goals as goal

pub loop-piece-preserved : goal.loop-piece-preserved
loop-piece-preserved c =
    let pattern = c.args.pattern.now in
    let old : List Val = c.loop-piece.pieces.items in
    let rest : List Val = made_texts plain (pieces plain.code pattern c.in-Some.after.now) in
    let found = split-found pattern c.loop-piece.rest.now c.in-Some.piece.now c.in-Some.after.now c.requires c.in-Some.ensures.cases in
    let piece : c.in_ok-string.field-0 ≡ text c.in-Some.piece.now false = cc c.in_ok-string.ensures in
    let pushed : c.push.new.self.items ≡ old ++ text c.in-Some.piece.now false ∷ [] = cc c.in_ok-push.ensures.items in
    record {
      is_text = search rules;
      cut = ap (λ l. l ++ rest) pushed ∙ append_assoc old (text c.in-Some.piece.now false ∷ []) rest ∙ ap (λ ts. old ++ made_texts plain ts) (sym found) ∙ c.loop-piece.invariant.cut;
    }

pub returns : goal.returns
returns c =
    let pattern = c.args.pattern.now in
    let old : List Val = c.loop-piece.pieces.items in
    let last = split-none pattern c.loop-piece.rest.now c.requires c.in_default.ensures.cases in
    let piece : c.in_ok-string-2.field-0 ≡ text c.loop-piece.rest.now false = cc c.in_ok-string-2.ensures in
    let pushed : c.push-2.new.self.items ≡ old ++ text c.loop-piece.rest.now false ∷ [] = cc c.in_ok-push-2.ensures.items in
    ap Ok (sym c.loop-piece.invariant.cut ∙ ap (λ ts. old ++ made_texts plain ts) last ∙ sym pushed)
