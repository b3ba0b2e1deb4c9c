-- What the errors on files tell, but for their words.
use Rattle.std.specs.Prelude.{◌≡◌, ◌≢◌, ℕ, List, ⊤, string_bytes}
use Rattle.std.specs.declared.io.Error.{Error}
use Rattle.std.specs.declared.io.ErrorKind.TheVariants.{OutOfMemory}
use Rattle.std.specs.IoError.{error_kind}
use Rattle.tera_folders.specs.declared.error.FileError.{FileError}
use Rattle.tera_folders.specs.declared.error.FileError.TheVariants.{System, Unfit, NoMemory}

-- the path that the error names is this one; where memory was refused, it names none
abbrev pub IsAt : List ℕ → FileError → Type 0
IsAt path (System p _) = string_bytes p ≡ path
IsAt path (Unfit p _) = string_bytes p ≡ path
IsAt path NoMemory = ⊤

-- the system's own error with this path; or that memory was refused
abbrev pub IsSystemError : List ℕ → Error → FileError → Type 0
IsSystemError path error (System p e) =
    (string_bytes p ≡ path) × (e ≡ error) × (error_kind error ≢ OutOfMemory)
IsSystemError path error (Unfit _ _) = ⊥
IsSystemError path error NoMemory = ⊤

-- that the file at this path is not what is wanted; or that memory was refused
abbrev pub IsUnfitError : List ℕ → FileError → Type 0
IsUnfitError path (System _ _) = ⊥
IsUnfitError path (Unfit p _) = string_bytes p ≡ path
IsUnfitError path NoMemory = ⊤
