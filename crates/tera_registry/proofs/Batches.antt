-- A batch, text by text.
use Rattle.std.proofs.Common.{◌≡◌, ℕ, suc, ◌+◌, ◌<◌, ◌≤◌, List, [], ◌∷◌, length, drop, get_or, Some, None, Result, Ok, Err, IfOk, IfErr, option_map, refl, sym, ap, ◌∙◌, slice_get, Bor}
use Rattle.std.proofs.lemmas.List.{drop_all}
use Rattle.std.proofs.lemmas.Option.{slice_get-get_or, slice_get-map}
use Rattle.tera_errors.specs.Site.{Name, Text}
use Rattle.tera_errors.specs.Fault.{Fault}
use Rattle.tera_errors.specs.Answer.{SeenError, Lacks, SaysOneOf, GivesOneOf}
use Rattle.tera_syntax_tree.specs.Delimiters.{Delims}
use Rattle.tera_syntax_tree.specs.Tree.{Tree}
use Rattle.tera_values.specs.Named.{Named, put}
use Rattle.tera_syntax.specs.Reads.{Reads}
use Rattle.tera_meaning.specs.Registry.{Template, Entry}
use Rattle.tera_meaning.specs.Resolve.{onto}
use Rattle.tera_registry.specs.Batch.{ReadsBatch, none, stops, more, pairs_of}
use Rattle.tera_registry.proofs.Rows.{drop-at}
use Rattle.tera_registry.specs.Put.{made_of, Makes, put_among, Puts}

-- One text.

pub makes : {X : Type 0} (view : X → Entry) (d : Delims) (name : Name) (text : Text) (tree : Tree) (result : Result X SeenError) → Reads name d text (Ok tree) → IfOk result (λ x. view x ≡ (name, record { text = text; tree = tree })) → IfErr result Lacks → GivesOneOf view result (Makes d name text)
makes view d name text tree (Ok x) read ok lacks = record { reading = Ok tree; read = read; is = ap Ok ok }
makes view d name text tree (Err None) read ok lacks = tt
makes view d name text tree (Err (Some f)) read ok lacks = (let q : Some f ≡ None = lacks in cc)

pub makes-none : (d : Delims) (name : Name) (text : Text) (e : SeenError) → SaysOneOf e (Reads name d text) → SaysOneOf e (Makes d name text)
makes-none d name text None says = tt
makes-none d name text (Some f) says = record { reading = Err f; read = says; is = refl }

-- How far a batch has come: what the rest of it makes of the templates so far is what all of it makes of the old ones.
pub record Goes (d : Delims) (old : Named Template) (batch : List (Name × Text)) (new : Named Template) (reading : Result (Named Template) Fault) : Type 0 where
  pub whole : Result (Named Template) Fault
  pub read : ReadsBatch d batch whole
  pub is : put_among old whole ≡ put_among new reading

pub record Putting (d : Delims) (old : Named Template) (batch : List (Name × Text)) (new : Named Template) (i : ℕ) : Type 0 where
  pub goes : (reading : Result (Named Template) Fault) → ReadsBatch d (drop i batch) reading → Goes d old batch new reading

pub putting-begins : (d : Delims) (old : Named Template) (batch : List (Name × Text)) → Putting d old batch old 0
putting-begins d old batch = record { goes = λ reading read. record { whole = reading; read = read; is = refl } }

put-first : (e : Entry) (new : Named Template) (reading : Result (Named Template) Fault) → put_among new (onto e reading) ≡ put_among (put e.0 e.1 new) reading
put-first e new (Ok es) = refl
put-first e new (Err f) = refl

pub putting-on : (d : Delims) (old new : Named Template) (batch : List (Name × Text)) (i : ℕ) (p : Name × Text) (made : Entry) → Putting d old batch new i → slice_get batch i ≡ Some p → Makes d p.0 p.1 (Ok made) → Putting d old batch (put made.0 made.1 new) (i + 1)
putting-on d old new batch i p made u at m =
    by_reading m.reading m.read m.is
  where
    by_reading : (reading : Result Tree Fault) → Reads p.0 d p.1 reading → Ok made ≡ made_of p.0 p.1 reading → Putting d old batch (put made.0 made.1 new) (i + 1)
    by_reading (Ok tree) read is = record {
      goes = λ rest h.
          (let e : Entry = (p.0, record { text = p.1; tree = tree }) in
          let same : made ≡ e = (let q : Ok made ≡ Ok e = is in cc) in
          let all : ReadsBatch d (drop i batch) (onto e rest) = rw (drop-at batch i p at) (more p.0 p.1 (drop (i + 1) batch) tree rest read h) in
          let g = u.goes (onto e rest) all in
          record { whole = g.whole; read = g.read; is = g.is ∙ put-first e new rest ∙ ap (λ (x : Entry). put_among (put x.0 x.1 new) rest) (sym same) });
    }
    by_reading (Err f) read is = (let q : Ok made ≡ Err f = is in cc)

pub putting-stops : (e : SeenError) (d : Delims) (old new : Named Template) (batch : List (Name × Text)) (i : ℕ) (p : Name × Text) → Putting d old batch new i → slice_get batch i ≡ Some p → SaysOneOf e (Makes d p.0 p.1) → SaysOneOf e (Puts d old batch)
putting-stops None d old new batch i p u at m = tt
putting-stops (Some f) d old new batch i p u at m = by_reading m.reading m.read m.is
  where
    by_reading : (reading : Result Tree Fault) → Reads p.0 d p.1 reading → Err f ≡ made_of p.0 p.1 reading → Puts d old batch (Err f)
    by_reading (Ok tree) read is =
        (let e : Entry = (p.0, record { text = p.1; tree = tree }) in let q : Err f ≡ Ok e = is in cc)
    by_reading (Err g) read is =
        (let same : f ≡ g = (let q : Err f ≡ Err g = is in cc) in
        let all : ReadsBatch d (drop i batch) (Err g) = rw (drop-at batch i p at) (stops p.0 p.1 (drop (i + 1) batch) g read) in
        let w = u.goes (Err g) all in
        record { reading = w.whole; read = w.read; is = ap Err same ∙ sym w.is })

pub putting-ends : (d : Delims) (old new : Named Template) (batch : List (Name × Text)) (i : ℕ) → Putting d old batch new i → length batch ≤ i → Puts d old batch (Ok new)
putting-ends d old new batch i u over =
    let all : ReadsBatch d (drop i batch) (Ok []) = rw (drop_all i batch over) none in
    let g = u.goes (Ok []) all in
    record { reading = g.whole; read = g.read; is = sym g.is }

pub pair-at : (batch : List (Bor (List ℕ) × Bor (List ℕ))) (i : ℕ) (d : Bor (List ℕ) × Bor (List ℕ)) → i < length batch → slice_get (pairs_of batch) i ≡ Some ((get_or batch i d).0.now, (get_or batch i d).1.now)
pair-at batch i d lt =
    slice_get-map (λ (q : Bor (List ℕ) × Bor (List ℕ)). (q.0.now, q.1.now)) batch i ∙ ap (option_map (λ (q : Bor (List ℕ) × Bor (List ℕ)). (q.0.now, q.1.now))) (slice_get-get_or batch i d lt)

pub length-pairs : (batch : List (Bor (List ℕ) × Bor (List ℕ))) → length (pairs_of batch) ≡ length batch
length-pairs [] = refl
length-pairs (p ∷ batch) = ap suc (length-pairs batch)
