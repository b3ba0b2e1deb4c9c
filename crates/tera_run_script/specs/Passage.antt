-- What contracts see of a stream.
use Rattle.std.specs.Prelude.{◌≡◌, ℕ, ◌<◌, ◌≤◌, List, [], ◌++◌, length, take, Result, Ok, Err}
use Rattle.std.specs.Global.{Vec}
use Rattle.tera_run_script.specs.declared.reading.ReadError.{ReadError}
use Rattle.tera_run_script.specs.declared.reading.ReadError.TheVariants.{Device, NoMemory}
use Rattle.tera_run_script.specs.declared.stream.Failure.{Failure}

-- the bytes that went through it so far, and how often it failed
pub record Passage : Type 0 where
  pub bytes : List ℕ
  pub failures : ℕ

-- nothing went through it yet
abbrev pub unused : Passage
unused = record { bytes = []; failures = 0 }

-- a read or a write of a piece: as many bytes as it answers went through, or it failed and none did
abbrev pub Passes : Passage → Passage → List ℕ → Result ℕ Failure → Type 0
Passes old new piece (Ok n) =
    (n ≤ length piece) × (new.bytes ≡ old.bytes ++ take n piece) × (new.failures ≡ old.failures)
Passes old new piece (Err failure) = (new.bytes ≡ old.bytes) × (old.failures < new.failures)

abbrev pub Flushes : Passage → Passage → Result (Unit {0}) Failure → Type 0
Flushes old new (Ok done) = new ≡ old
Flushes old new (Err failure) = (new.bytes ≡ old.bytes) × (old.failures < new.failures)

-- all of the text went through
pub record PassesAll (old new : Passage) (text : List ℕ) : Type 0 where
  pub bytes : new.bytes ≡ old.bytes ++ text
  pub failures : new.failures ≡ old.failures

-- a beginning of the text went through, and then the stream failed
pub record PassesPart (old new : Passage) (text : List ℕ) : Type 0 where
  pub front : List ℕ
  pub rest : List ℕ
  pub whole : text ≡ front ++ rest
  pub bytes : new.bytes ≡ old.bytes ++ front
  pub failures : old.failures < new.failures

abbrev pub Puts : Passage → Passage → List ℕ → Result (Unit {0}) Failure → Type 0
Puts old new text (Ok done) = PassesAll old new text
Puts old new text (Err failure) = PassesPart old new text

-- a whole input was read, or a read failed, or the bytes found no room
abbrev pub ReadsAll : Passage → Passage → Type 0 → Result (Vec ℕ) ReadError → Type 0
ReadsAll old new ended (Ok bytes) = PassesAll old new bytes.items × ended
ReadsAll old new ended (Err Device) = old.failures < new.failures
ReadsAll old new ended (Err NoMemory) = Unit {0}
