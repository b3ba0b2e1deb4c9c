-- The exit status of the program.
use Rattle.std.specs.Prelude.{ℕ, Some, None}
use Rattle.tera_folders.specs.declared.error.FileError.TheVariants as file
use Rattle.tera_render.specs.declared.errors.RunError.{RunError}
use Rattle.tera_render.specs.declared.errors.RunError.TheVariants as run

-- 1 for templates, 2 for the command line, 3 for files, 4 for want of memory, 5 for data
abbrev pub status_of : RunError → ℕ
status_of (run.Help words) = 0
status_of (run.CommandLine words) = 2
status_of (run.Usage words) = 2
status_of (run.File file.NoMemory) = 4
status_of (run.File other) = 3
status_of (run.Template None) = 4
status_of (run.Template (Some fault)) = 1
status_of (run.Syntax errors) = 1
status_of (run.Data name error) = 5
status_of run.NoMemory = 4
