use Rattle.std.proofs.Common.{◌≡◌, ℕ, List, ◌++◌, ◌∷◌, [], false, Ok, ap, sym, ◌∙◌, map}
use Rattle.std.specs.Char.{encode_utf8}
use Rattle.std.specs.Str.{chars}
use Rattle.std.proofs.lemmas.Iterator.{YieldsList-from_chars}
use Rattle.std.proofs.lemmas.Iterator.Consumers.{YieldsList-end}
use Rattle.std.proofs.lemmas.List.{map-id, map-append}
use Rattle.tera_values.specs.Alphabet.{plain}
use Rattle.tera_values.specs.Val.{text}
use Rattle.tera_built_ins.specs.Split.{made_texts}
use Rattle.tera_built_ins.proofs.Letters.{letters-are}
use Rattle.tera_built_ins.proofs.split.letters.Goals as goal

pub returns : goal.returns
returns c =
    let t = YieldsList-end (YieldsList-from_chars c.args.content.now c.utf8.content cc) c.loop-letter.yielded _ c.loop-letter.yielded_by _ _ c.in-None.is c.next.ensures.steps in
    let all : c.loop-letter.yielded ≡ chars c.args.content.now = sym (map-id c.loop-letter.yielded) ∙ t.0 in
    let spelled = λ (cs : List ℕ). text [] false ∷ made_texts plain (map encode_utf8 cs) in
    let empty : c.in_ok-string-3.field-0 ≡ text [] false = cc c.in_ok-string-3.ensures in
    let pushed : c.push-2.new.self.items ≡ c.loop-letter.letters.items ++ text [] false ∷ [] = c.in_ok-push-3.ensures.items ∙ ap (λ v. c.loop-letter.letters.items ++ v ∷ []) empty in
    let are = letters-are c.args.content.now c.utf8.content in
    let parts = map-append (λ (t : List ℕ). text t false) (map encode_utf8 (chars c.args.content.now)) ([] ∷ []) in
    let ours : spelled (chars c.args.content.now) ≡ c.loop-letter.letters.items = sym (c.loop-letter.invariant ∙ ap spelled all) in
    ap Ok (ap (made_texts plain) are ∙ ap (λ vs. text [] false ∷ vs) parts ∙ ap (λ vs. vs ++ text [] false ∷ []) ours ∙ sym pushed)
