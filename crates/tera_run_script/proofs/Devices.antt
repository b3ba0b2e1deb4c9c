-- What devices give and take, part by part.
use Rattle.std.proofs.Common.{◌≡◌, ℕ, List, [], ◌++◌, Option, None, Some, Result, Ok, Err, sym, ap, ◌∙◌, append_assoc, append-nil, take}
use Rattle.std.specs.Io.KnownBytes.{Keeps, Consumes, Appends, ReadConsumes, WriteAppends}
use Rattle.std.proofs.KnownBytes.{Consumes-nil, Appends-nil, Consumes-trans, Appends-trans}
use Rattle.tera_run_script.specs.Device.{Through, FromDevice, ToDevice}
use Rattle.tera_run_script.specs.Passage.{Passage, Passes, Flushes}
use Rattle.tera_run_script.specs.declared.stream.Failure.{Failure}

pub Consumes-none : (a b : Option (List ℕ)) → Keeps a b → Consumes a b []
Consumes-none None b k = tt
Consumes-none (Some x) None k = k
Consumes-none (Some x) (Some y) k = sym k

pub Appends-none : (a b : Option (List ℕ)) → Keeps a b → Appends a b []
Appends-none None b k = tt
Appends-none (Some x) None k = k
Appends-none (Some x) (Some y) k = k ∙ sym (append-nil x)

-- a read or a write behind others that moved nothing
pub Consumes-kept_before : (a b c : Option (List ℕ)) (bytes : List ℕ) → Keeps a b → Consumes b c bytes → Consumes a c bytes
Consumes-kept_before a b c bytes k g = Consumes-trans a b c [] bytes (Consumes-none a b k) g

pub Appends-kept_before : (a b c : Option (List ℕ)) (bytes : List ℕ) → Keeps a b → Appends b c bytes → Appends a c bytes
Appends-kept_before a b c bytes k t = Appends-trans a b c [] bytes (Appends-none a b k) t

-- how what is known of a device may change: it stays where no bytes go through, and texts go one behind the other
pub record Way (Moves : Option (List ℕ) → Option (List ℕ) → List ℕ → Type 0) : Type 0 where
  pub same : (a : Option (List ℕ)) → Moves a a []
  pub kept : (a b : Option (List ℕ)) → Keeps a b → Moves a b []
  pub both : (a b c : Option (List ℕ)) (first second : List ℕ) → Moves a b first → Moves b c second → Moves a c (first ++ second)

pub giving : Way Consumes
giving = record { same = Consumes-nil; kept = Consumes-none; both = Consumes-trans }

pub taking : Way Appends
taking = record { same = Appends-nil; kept = Appends-none; both = Appends-trans }

module _ {S : Type 0} (Moves : Option (List ℕ) → Option (List ℕ) → List ℕ → Type 0) (way : Way Moves) (passed : S → Passage) (device : S → Option (List ℕ)) where
  pub through_none : (s : S) → Through Moves passed device s s
  through_none s = record { bytes = []; through = sym (append-nil (passed s).bytes); moved = way.same (device s) }

  pub through_then : (a b c : S) → Through Moves passed device a b → Through Moves passed device b c → Through Moves passed device a c
  through_then a b c x y = record {
    bytes = x.bytes ++ y.bytes;
    through = y.through ∙ ap (λ bytes. bytes ++ y.bytes) x.through ∙ append_assoc (passed a).bytes x.bytes y.bytes;
    moved = way.both (device a) (device b) (device c) x.bytes y.bytes x.moved y.moved;
  }

  -- what failed, or handed on what it held back, moved nothing
  through_kept : (old new : S) → (passed new).bytes ≡ (passed old).bytes → Keeps (device old) (device new) → Through Moves passed device old new
  through_kept old new same k = record {
    bytes = [];
    through = same ∙ sym (append-nil (passed old).bytes);
    moved = way.kept (device old) (device new) k;
  }

pub from_read : {R : Type 0} (passed : R → Passage) (remaining : R → Option (List ℕ)) (old new : R) (buffer : List ℕ) (result : Result ℕ Failure) → Passes (passed old) (passed new) buffer result → ReadConsumes (remaining old) (remaining new) result buffer → FromDevice passed remaining old new
from_read passed remaining old new buffer (Ok n) p r = record { bytes = take n buffer; through = p.1; moved = r.0 }
from_read passed remaining old new buffer (Err failure) p r = through_kept Consumes giving passed remaining old new p.0 r

module _ {W : Type 0} (passed : W → Passage) (contents : W → Option (List ℕ)) where
  pub to_write : (old new : W) (piece : List ℕ) (result : Result ℕ Failure) → Passes (passed old) (passed new) piece result → WriteAppends (contents old) (contents new) result piece → ToDevice passed contents old new
  to_write old new piece (Ok n) p w = record { bytes = take n piece; through = p.1; moved = w }
  to_write old new piece (Err failure) p w = through_kept Appends taking passed contents old new p.0 w

  pub to_flush : (old new : W) (result : Result (Unit {0}) Failure) → Flushes (passed old) (passed new) result → Keeps (contents old) (contents new) → ToDevice passed contents old new
  to_flush old new (Ok done) p k = through_kept Appends taking passed contents old new (ap (λ p. p.bytes) p) k
  to_flush old new (Err failure) p k = through_kept Appends taking passed contents old new p.0 k
