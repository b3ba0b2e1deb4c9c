-- What code calls.
use Rattle.std.specs.Prelude.{◌≡◌, ℕ, List, filter_map, Option, Some, None}
use Rattle.tera_syntax_tree.specs.Tree.{Nodes}
use Rattle.tera_syntax_tree.specs.Calls.{Callee, AFilter, ATest, AFunction, AComponent, ATemplate, calls}
use Rattle.tera_code.specs.declared.callee.Callee as declared
use Rattle.tera_code.specs.declared.callee.Callee.TheVariants as callee
use Rattle.tera_code.specs.declared.instruction.Instruction.{Instruction}
use Rattle.tera_code.specs.declared.instruction.Instruction.TheVariants as instruction
use Rattle.tera_code.specs.Code.{Code, nodes_code}

abbrev pub callee_of : declared.Callee → Callee
callee_of (callee.Filter name) = AFilter name.now
callee_of (callee.Test name) = ATest name.now
callee_of (callee.Function name) = AFunction name.now
callee_of (callee.Component name) = AComponent name.now
callee_of (callee.Template name) = ATemplate name.now

abbrev pub called_by : Instruction → Option Callee
called_by (instruction.ApplyFilter name arguments span) = Some (AFilter name)
called_by (instruction.ApplyTest name arguments span) = Some (ATest name)
called_by (instruction.CallFunction name arguments span) = Some (AFunction name)
called_by (instruction.TakeComponent name keys has_body span) = Some (AComponent name)
called_by (instruction.TakeInclude name span) = Some (ATemplate name)
called_by other = None

abbrev pub callees : Code → List Callee
callees = filter_map called_by

-- the code of nodes calls what these call, in this order
abbrev pub CodeCallsTheSame : Type 0
CodeCallsTheSame = (nodes : Nodes) (drops : ℕ) → callees (nodes_code nodes drops) ≡ calls nodes
