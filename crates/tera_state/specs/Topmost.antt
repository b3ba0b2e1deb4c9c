-- What a stack ends as, once its topmost value was lent to be changed.
use Rattle.std.specs.Prelude.{List, [], ◌∷◌}
use Rattle.std.specs.Borrow.{Lends, Fml, RattleType, MutBor}
use Rattle.tera_state.specs.contracts.stack.Stack.{the_row}

-- another value in place of the topmost one
abbrev pub with_top : {X : Type 0} → List X → X → List X
with_top [] value = []
with_top (top ∷ below) value = value ∷ below

-- what is left behind the reference is the stack's topmost value
abbrev pub LendsTop : (T : RattleType) → MutBor (List T.Denot) → MutBor T.Denot → Fml
LendsTop T stack top = Lends (the_row T) T stack top (with_top stack.now)
