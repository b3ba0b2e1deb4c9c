-- How far a run has come.
use Rattle.std.specs.Prelude.{ℕ, ◌-◌, ◌≤◌}
use Rattle.tera_meaning.specs.Whole.{World, Place}
use Rattle.tera_code.specs.Code.{Code}
use Rattle.tera_machine.specs.Config.{Config}
use Rattle.tera_meaning.specs.Run.{Request}
use Rattle.tera_machine.specs.Flow.{Use}
use Rattle.tera_machine.specs.Exec.{End, IsOver, Within, after, exec, body_by, Ends, EndsWithin}

-- what the machine does from the later position, it does from the earlier one, by k more instructions
pub record Leads (w : World) (p : Place) (code : Code) (ip : ℕ) (c : Config) (k : ℕ) (ip' : ℕ)
    (c' : Config) : Type 0 where
  pub by : (o : End) → IsOver o → Ends w p code ip' c' o → Ends w p code ip c (after k o)

-- from the start at the count n0 to this position at the count n, where the count may rise to most
pub record Advance (most : ℕ) (w : World) (p : Place) (code : Code) (c0 : Config) (n0 : ℕ) (ip : ℕ)
    (c : Config) (n : ℕ) : Type 0 where
  pub counted : n0 ≤ n
  pub bounded : n0 ≤ most → n ≤ most
  pub within : EndsWithin w p code ip c (most - n)
  pub leads : Leads w p code 0 c0 (n - n0) ip c

-- a request's body ends by itself, after at most m instructions
pub record BodyWithin (w : World) (p : Place) (q : Request) (u : Use) (c : Config)
    (m : ℕ) : Type 0 where
  pub depth : ℕ
  pub within : Within m (body_by w (exec w depth) p q u c)
