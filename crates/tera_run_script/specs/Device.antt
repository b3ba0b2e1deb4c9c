-- What went through a stream, beside what its device gave or took, where that is known.
use Rattle.std.specs.Prelude.{◌≡◌, ℕ, List, ◌++◌, Option, Result}
use Rattle.std.specs.Global.{Vec}
use Rattle.std.specs.Io.KnownBytes.{Consumes, Appends, IsAtEnd}
use Rattle.tera_run_script.specs.Passage.{Passage, Puts, ReadsAll}
use Rattle.tera_run_script.specs.declared.reading.ReadError.{ReadError}
use Rattle.tera_run_script.specs.declared.stream.Failure.{Failure}

-- the bytes that went through a stream, and how what is known of its device changed with them
pub record Through {S : Type 0} (Moves : Option (List ℕ) → Option (List ℕ) → List ℕ → Type 0)
    (passed : S → Passage) (device : S → Option (List ℕ))
    (old new : S) : Type 0 where
  pub bytes : List ℕ
  pub through : (passed new).bytes ≡ (passed old).bytes ++ bytes
  pub moved : Moves (device old) (device new) bytes

-- the bytes that went through it are those that its device gave
abbrev pub FromDevice : {R : Type 0} → (R → Passage) → (R → Option (List ℕ)) → R → R → Type 0
FromDevice passed remaining old new = Through Consumes passed remaining old new

-- the bytes that went through it are those that its device took
abbrev pub ToDevice : {W : Type 0} → (W → Passage) → (W → Option (List ℕ)) → W → W → Type 0
ToDevice passed contents old new = Through Appends passed contents old new

-- it has told that there is no more, and so it is
abbrev pub HasEnded : {R : Type 0} → (R → Type 0) → (R → Option (List ℕ)) → R → Type 0
HasEnded ended remaining input = ended input × IsAtEnd (remaining input)

-- reads to the end
pub record Reads {R : Type 0} (passed : R → Passage) (ended : R → Type 0)
    (remaining : R → Option (List ℕ))
    (old new : R) (result : Result (Vec ℕ) ReadError) : Type 0 where
  pub read : ReadsAll (passed old) (passed new) (HasEnded ended remaining new) result
  pub device : FromDevice passed remaining old new

-- writes of a whole text
pub record Writes {W : Type 0} (passed : W → Passage) (contents : W → Option (List ℕ))
    (old new : W) (text : List ℕ) (result : Result (Unit {0}) Failure) : Type 0 where
  pub put : Puts (passed old) (passed new) text result
  pub device : ToDevice passed contents old new
