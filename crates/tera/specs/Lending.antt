-- What an engine lends to be written to.
use Rattle.std.specs.Borrow.{Lends, MutBor, Fml, RattleType}
use Rattle.tera_values.specs.Val.{Val}
use Rattle.tera_values.specs.Named.{Named}
use Rattle.tera_values.specs.contracts.context.Context.{the_row as context_row}
use Rattle.tera.specs.declared.engine.TeraOver.{TeraOver}
use Rattle.tera.specs.contracts.engine.TeraOver.{the_row}

-- the engine with another global context
abbrev pub with_global : {O : Type 0} → TeraOver O → Named Val → TeraOver O
with_global t context = record t { global_context = context }

-- what is left behind the reference is the engine's global context, whatever its objects are
abbrev pub LendsGlobal : (R : RattleType) → MutBor (TeraOver R.Denot) → MutBor (Named Val) → Fml
LendsGlobal R t context = Lends (the_row R) context_row t context (with_global t.now)
