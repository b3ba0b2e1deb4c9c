-- Instructions that name by number what they need.
use Rattle.std.specs.Prelude.{◌≡◌, ℕ, ◌-◌, ◌<◌, ◌≤◌, Bool, List, [], ◌++◌, length, take, drop, map, get_or, Option, None, string_bytes}
use Rattle.std.specs.Str.{IsCharBoundary}
use Rattle.tera_errors.specs.Site.{Text}
use Rattle.tera_errors.specs.declared.span.Span.{Span}
use Rattle.tera_values.specs.Val.{Val}
use Rattle.tera_values.specs.Val as val
use Rattle.tera_syntax_tree.specs.Tree.{Key}
use Rattle.tera_syntax_tree.specs.View.{keys_of}
use Rattle.tera_code.specs.Constant.{small_integer}
use Rattle.tera_code.specs.declared.instruction.Instruction.{Instruction}
use Rattle.tera_code.specs.declared.instruction.Instruction.TheVariants as instruction
use Rattle.tera_code.specs.declared.packed.Packed.{Packed}
use Rattle.tera_code.specs.declared.packed.Packed.TheVariants as packed
use Rattle.tera_code.specs.declared.packed.LoopNames.{LoopNames}
use Rattle.tera_code.specs.declared.packed.Tables.{Tables}

-- what instructions name by number
pub record TableContents : Type 0 where
  pub pool : Text
  pub names : List Text
  pub constants : List Val
  pub spreads : List Bool
  pub keys : List (List (Option Key))
  pub spans : List Span
  pub loops : List LoopNames
  -- the name that is called, and the names of the arguments
  pub calls : List (Text × List Text)
  -- the names of what is taken and stands elsewhere
  pub targets : List Text

abbrev pub tables_of : Tables → TableContents
tables_of t =
    record {
      pool = string_bytes t.pool;
      names = t.names.items;
      constants = t.constants.items;
      spreads = t.spreads.items;
      keys = map (λ v. keys_of v.items) t.keys.items;
      spans = t.spans.items;
      loops = t.loops.items;
      calls = map (λ c. (c.name, c.arguments.items)) t.calls.items;
      targets = t.targets.items;
    }

abbrev pub span_at : TableContents → ℕ → Span
span_at s i = get_or s.spans i (record { start = 0; end = 0 })

abbrev pub name_at : TableContents → ℕ → Text
name_at s i = get_or s.names i []

abbrev pub loop_at : TableContents → ℕ → LoopNames
loop_at s i = get_or s.loops i (record { key = None; name = [] })

abbrev pub call_at : TableContents → ℕ → Text × List Text
call_at s i = get_or s.calls i ([], [])

abbrev pub target_at : TableContents → ℕ → Text
target_at s i = get_or s.targets i []

-- the constant that it loads, where it loads one
abbrev pub constant_of : TableContents → Packed → Val
constant_of s (packed.LoadBool flag span) = val.bool flag
constant_of s (packed.LoadInt span number) = val.int number
constant_of s (packed.LoadConst constant span) = get_or s.constants constant val.none
constant_of s other = val.none

-- the instruction that is meant
abbrev pub unpacked : TableContents → Packed → Instruction
unpacked s (packed.WriteText start end) =
    instruction.WriteText (take (end - start) (drop start s.pool))
unpacked s packed.WriteTop = instruction.WriteTop
unpacked s (packed.LoadNone span) = instruction.LoadConst val.none (span_at s span)
unpacked s (packed.LoadBool flag span) = instruction.LoadConst (val.bool flag) (span_at s span)
unpacked s (packed.LoadInt span number) = instruction.LoadConst (val.int number) (span_at s span)
unpacked s (packed.LoadConst constant span) =
    instruction.LoadConst (get_or s.constants constant val.none) (span_at s span)
unpacked s (packed.WriteName name span) = instruction.WriteName (name_at s name) (span_at s span)
unpacked s (packed.LoadName reads_on name span) =
    instruction.LoadName (name_at s name) (span_at s span)
unpacked s (packed.LoadContext span) = instruction.LoadContext (span_at s span)
unpacked s (packed.LoadAttribute name optional span) =
    instruction.LoadAttribute (name_at s name) optional (span_at s span)
unpacked s (packed.LoadItem optional span) = instruction.LoadItem optional (span_at s span)
unpacked s (packed.Slice optional span) = instruction.Slice optional (span_at s span)
unpacked s packed.Not = instruction.Not
unpacked s packed.Negate = instruction.Negate
unpacked s (packed.Binary operator span) = instruction.Binary operator (span_at s span)
unpacked s (packed.MakeArray start end span) =
    instruction.MakeArray (take (end - start) (drop start s.spreads)) (span_at s span)
unpacked s (packed.MakeMap keys span) = instruction.MakeMap (get_or s.keys keys []) (span_at s span)
unpacked s (packed.Store name is_global) = instruction.Store (name_at s name) is_global
unpacked s (packed.StartLoop counts prints names size) =
    instruction.StartLoop (loop_at s names).key (loop_at s names).name counts size
unpacked s packed.NextTurn = instruction.NextTurn
unpacked s (packed.EndLoop skip) = instruction.EndLoop skip
unpacked s packed.Keep = instruction.Keep
unpacked s (packed.EndComprehension span) = instruction.EndComprehension (span_at s span)
unpacked s packed.StartCapture = instruction.StartCapture
unpacked s (packed.EndCapture span) = instruction.EndCapture (span_at s span)
unpacked s (packed.LeaveLoop drops) = instruction.LeaveLoop drops
unpacked s (packed.LeaveTurn drops) = instruction.LeaveTurn drops
unpacked s (packed.Jump skip) = instruction.Jump skip
unpacked s (packed.PopJumpIfFalse skip) = instruction.PopJumpIfFalse skip
unpacked s (packed.JumpIfFalseOrPop skip) = instruction.JumpIfFalseOrPop skip
unpacked s (packed.JumpIfTrueOrPop skip) = instruction.JumpIfTrueOrPop skip
unpacked s (packed.TakeBlock name span) = instruction.TakeBlock (name_at s name) (span_at s span)
unpacked s (packed.TakeInclude target span) =
    instruction.TakeInclude (target_at s target) (span_at s span)
unpacked s (packed.TakeComponent has_body target keys span) =
    instruction.TakeComponent (target_at s target) (get_or s.keys keys []) has_body
    (span_at s span)
unpacked s (packed.TakeSuper span arguments) = instruction.TakeSuper arguments (span_at s span)
unpacked s (packed.ApplyFilter call span) =
    instruction.ApplyFilter (call_at s call).0 (call_at s call).1 (span_at s span)
unpacked s (packed.ApplyTest call span) =
    instruction.ApplyTest (call_at s call).0 (call_at s call).1 (span_at s span)
unpacked s (packed.CallFunction call span) =
    instruction.CallFunction (call_at s call).0 (call_at s call).1 (span_at s span)

-- what it names is there
abbrev pub Within : TableContents → Packed → Type 0
Within s (packed.WriteText start end) =
    (start ≤ end) × (IsCharBoundary s.pool start × IsCharBoundary s.pool end)
Within s packed.WriteTop = Unit {0}
Within s (packed.LoadNone span) = span < length s.spans
Within s (packed.LoadBool flag span) = span < length s.spans
Within s (packed.LoadInt span number) = span < length s.spans
-- a small integer stands in the instruction itself
Within s (packed.LoadConst constant span) =
    (constant < length s.constants) × (span < length s.spans)
    × (small_integer (get_or s.constants constant val.none) ≡ None)
Within s (packed.WriteName name span) = (name < length s.names) × (span < length s.spans)
Within s (packed.LoadName reads_on name span) = (name < length s.names) × (span < length s.spans)
Within s (packed.LoadContext span) = span < length s.spans
Within s (packed.LoadAttribute name optional span) =
    (name < length s.names) × (span < length s.spans)
Within s (packed.LoadItem optional span) = span < length s.spans
Within s (packed.Slice optional span) = span < length s.spans
Within s packed.Not = Unit {0}
Within s packed.Negate = Unit {0}
Within s (packed.Binary operator span) = span < length s.spans
Within s (packed.MakeArray start end span) =
    (start ≤ end) × (end ≤ length s.spreads) × (span < length s.spans)
Within s (packed.MakeMap keys span) = (keys < length s.keys) × (span < length s.spans)
Within s (packed.Store name is_global) = name < length s.names
Within s (packed.StartLoop counts prints names size) = names < length s.loops
Within s packed.NextTurn = Unit {0}
Within s (packed.EndLoop skip) = Unit {0}
Within s packed.Keep = Unit {0}
Within s (packed.EndComprehension span) = span < length s.spans
Within s packed.StartCapture = Unit {0}
Within s (packed.EndCapture span) = span < length s.spans
Within s (packed.LeaveLoop drops) = Unit {0}
Within s (packed.LeaveTurn drops) = Unit {0}
Within s (packed.Jump skip) = Unit {0}
Within s (packed.PopJumpIfFalse skip) = Unit {0}
Within s (packed.JumpIfFalseOrPop skip) = Unit {0}
Within s (packed.JumpIfTrueOrPop skip) = Unit {0}
Within s (packed.TakeBlock name span) = (name < length s.names) × (span < length s.spans)
Within s (packed.TakeInclude target span) = (target < length s.targets) × (span < length s.spans)
Within s (packed.TakeComponent has_body target keys span) =
    (target < length s.targets) × (keys < length s.keys) × (span < length s.spans)
Within s (packed.TakeSuper span arguments) = span < length s.spans
Within s (packed.ApplyFilter call span) = (call < length s.calls) × (span < length s.spans)
Within s (packed.ApplyTest call span) = (call < length s.calls) × (span < length s.spans)
Within s (packed.CallFunction call span) = (call < length s.calls) × (span < length s.spans)

-- these, and then others
abbrev pub Longer : {X : Type 0} → List X → List X → Type 0
Longer xs ys = ys ≡ xs ++ drop (length xs) ys

-- nothing that was named by number is lost
abbrev pub Grows : TableContents → TableContents → Type 0
Grows s t =
    Longer s.pool t.pool
    × (Longer s.names t.names
    × (Longer s.constants t.constants
    × (Longer s.spreads t.spreads
    × (Longer s.keys t.keys
    × (Longer s.spans t.spans
    × (Longer s.loops t.loops
    × (Longer s.calls t.calls × Longer s.targets t.targets)))))))

-- this element stands there
abbrev pub IsAt : {X : Type 0} → List X → ℕ → X → Type 0
IsAt xs i x = (i < length xs) × (get_or xs i x ≡ x)

-- this is meant, and all that is named is there
abbrev pub Packs : TableContents → Packed → Instruction → Type 0
Packs s p i = Within s p × (unpacked s p ≡ i)
