-- The text of the block that is wanted.
use Rattle.std.proofs.Common.{◌≡◌, Bool, true, false, List, [], ◌∷◌, ◌++◌, Option, None, Some, Ok, Err, refl, sym, ap, ap₂, ◌∙◌, subst}
use Rattle.std.specs.Prelude.{unwrap_or, if◌then◌else◌, bytes_eq}
use Rattle.tera_errors.specs.Site.{Name, Text}
use Rattle.tera_errors.specs.Answer.{SeenError, Says}
use Rattle.tera_meaning.specs.Run.{Signal, Answer, Failed, Gave}
use Rattle.tera_meaning.specs.Rendering.{last_text, block_of}
use Rattle.tera_machine.specs.Config.{Config}
use Rattle.tera_machine.specs.Subject.{Means}
use Rattle.tera_machine.specs.declared.wanted_block.WantedBlock.{WantedBlock}
use Rattle.tera_machine.specs.WantedBlock.{is_wanted, noted_name, last_of, text_kept, Noted}

last_then : (wanted : Option Name) (before : Option Text) (xs ys : List (Name × Text)) → last_of wanted before (xs ++ ys) ≡ last_of wanted (last_of wanted before xs) ys
last_then wanted before [] ys = refl
last_then wanted before (x ∷ xs) ys = last_then wanted (if is_wanted wanted x.0 then Some x.1 else before) xs ys

-- no block is wanted, so none is kept
none_wanted : (o : Option Text) (bs : List (Name × Text)) → last_of None o bs ≡ o
none_wanted o [] = refl
none_wanted o (b ∷ bs) = none_wanted o bs

pub noted_none : (w : WantedBlock) → Noted w [] w
noted_none w = record { name = refl; notes = refl; last = refl }

pub noted_then : {w0 w1 w2 : WantedBlock} (xs ys : List (Name × Text)) → Noted w0 xs w1 → Noted w1 ys w2 → Noted w0 (xs ++ ys) w2
noted_then {w0} {w1} {w2} xs ys s t = record {
  name = t.name ∙ s.name;
  notes = t.notes ∙ s.notes;
  last = t.last ∙ ap₂ (λ n o. last_of n o ys) (ap₂ (λ b n. if b then n else None) s.notes s.name) s.last ∙ sym (last_then (noted_name w0) (text_kept w0) xs ys);
}

-- while nothing is noted, the text stays what it was
pub noted_apart : {w0 w1 w3 w4 : WantedBlock} {notes : Bool} (since : List (Name × Text)) → w1 ≡ record w0 { notes = false } → Noted w1 since w3 → w4 ≡ record w3 { notes = notes } → notes ≡ w0.notes → Noted w0 [] w4
noted_apart {w0} {w3 = w3} {notes = notes} since e n f same =
    let k : Noted (record w0 { notes = false }) since w3 = subst (λ w. Noted w since w3) e n in
    subst (λ w. Noted w0 [] w) (sym f) (record {
      name = k.name;
      notes = same;
      last = k.last ∙ none_wanted (text_kept w0) since;
    })

pub noted_from : {w0 w1 w2 : WantedBlock} (xs : List (Name × Text)) → w1 ≡ w0 → Noted w1 xs w2 → Noted w0 xs w2
noted_from {w2 = w2} xs e s = subst (λ w. Noted w xs w2) e s

one_more : (b : Bool) (text : Text) (before : Option Text) → unwrap_or (if b then Some text else before) [] ≡ (if b then text else unwrap_or before [])
one_more true text before = refl
one_more false text before = refl

last_is : (block : Name) (before : Option Text) (bs : List (Name × Text)) → unwrap_or (last_of (Some block) before bs) [] ≡ last_text block (unwrap_or before []) bs
last_is block before [] = refl
last_is block before (b ∷ bs) =
    last_is block (if bytes_eq block b.0 then Some b.1 else before) bs
    ∙ ap (λ o. last_text block o bs) (one_more (bytes_eq block b.0) b.1 before)

-- what was kept is the text of the last block of this name
pub kept_is : (block : Name) {w0 w1 : WantedBlock} (since blocks : List (Name × Text)) → noted_name w0 ≡ Some block → text_kept w0 ≡ None → blocks ≡ since → Noted w0 since w1 → unwrap_or (text_kept w1) [] ≡ last_text block [] blocks
kept_is block since blocks name none e noted =
    ap (λ o. unwrap_or o []) (noted.last ∙ ap₂ (λ n o. last_of n o since) name none)
    ∙ last_is block None since
    ∙ ap (last_text block []) (sym e)

-- what is meant of a block, where the run gave what is meant
pub gives_block : (block : Name) (x : Answer Signal) (before after : Config) (text : Text) → Means x before (Ok tt) after → text ≡ last_text block [] after.run.blocks → block_of block x ≡ Ok text
gives_block block (Failed fault n) before after text means e = absurd means
gives_block block (Gave signal run n) before after text means e =
    ap Ok (ap (λ (c : Config). last_text block [] c.run.blocks) (sym means) ∙ sym e)

pub fails_block : (block : Name) (x : Answer Signal) (before after : Config) (r : SeenError) → Means x before (Err r) after → Says r (block_of block x)
fails_block block (Failed fault n) before after None means = tt
fails_block block (Failed fault n) before after (Some told) means = ap Err (sym means)
fails_block block (Gave signal run n) before after None means = tt
fails_block block (Gave signal run n) before after (Some told) means = absurd means
