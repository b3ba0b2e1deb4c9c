-- Loops whose body puts out texts and items alone.
use Rattle.std.specs.Prelude.{ℕ, zero, suc, ◌+◌, ◌&&◌, ◌||◌, Bool, false, cond, List, Option, Some, None, is_some, option_map, option_and_then, slice_get, unwrap_or, bytes_eq}
use Rattle.tera_errors.specs.declared.span.Span.{Span}
use Rattle.tera_errors.specs.Site as site
use Rattle.tera_values.specs.Naming.{counter_of}
use Rattle.tera_code.specs.declared.instruction.Instruction.{Instruction}
use Rattle.tera_code.specs.InstructionParts.{written_text, written_name, started_loop, ended_loop, is_next_turn}

-- whether it is this name
abbrev pub is_named : site.Name → Option (site.Name × Span) → Bool
is_named name None = false
is_named name (Some (written, span)) = bytes_eq written name

-- whether it puts out a text, or what this name stands for
abbrev pub puts : site.Name → Instruction → Bool
puts name i = is_some (written_text i) || is_named name (written_name i)

-- the position behind so many instructions from this one on, if each of them does so
abbrev pub puts_up_to : site.Name → List Instruction → ℕ → ℕ → Option ℕ
puts_up_to name code zero at = Some at
puts_up_to name code (suc count) at =
    cond (unwrap_or (option_map (puts name) (slice_get code at)) false)
    (puts_up_to name code count (at + 1)) None

-- whether a turn ends at a position, and the loop behind it
abbrev pub closes_at : List Instruction → ℕ → Bool
closes_at code at =
    unwrap_or (option_map is_next_turn (slice_get code at)) false
    && is_some (option_and_then ended_loop (slice_get code (at + 1)))

-- the size of the body of a loop that opens at a position, if each part of the body puts out a text
-- or the item, which has no key beside it and is not called as a counter is
abbrev pub printing : List Instruction → ℕ → Option site.Name × site.Name × Bool × ℕ → Option ℕ
printing code at (Some key, name, counts, size) = None
printing code at (None, name, counts, size) =
    cond (is_some (counter_of name)) None
    (option_and_then (λ end. cond (closes_at code end) (Some size) None)
    (puts_up_to name code size (at + 1)))

abbrev pub printing_loop_at : List Instruction → ℕ → Option ℕ
printing_loop_at code at =
    option_and_then (printing code at) (option_and_then started_loop (slice_get code at))
