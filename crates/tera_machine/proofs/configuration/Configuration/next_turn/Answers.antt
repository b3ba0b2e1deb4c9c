use Rattle.std.proofs.Common.{◌∷◌, ap₂}
use Rattle.tera_machine.specs.Config.{config_of}
use Rattle.tera_machine.proofs.Looping.{goes_past, goes_round, beneath_turned}
use Rattle.tera_machine.proofs.configuration.Configuration.next_turn.Goals as goal

pub returns-then-not-next_turn : goal.returns-then-not-next_turn
returns-then-not-next_turn c =
    (goes_past (config_of c.args.self.now) _ _ _ _ _ c.requires c.if-not-next_turn.ensures.turn, (c.next_turn.ensures.stays, ap₂ (λ tss outer. tss ∷ outer) (beneath_turned (config_of c.args.self.now) _ _ _ _ _ _ c.requires c.next_turn.ensures.turn) c.next_turn.ensures.outer))

pub returns : goal.returns
returns c =
    (goes_round (config_of c.args.self.now) _ _ _ _ _ c.top.result.now c.requires c.if-not-next_turn.ensures.turn c.top.ensures, (c.next_turn.ensures.stays, ap₂ (λ tss outer. tss ∷ outer) (beneath_turned (config_of c.args.self.now) _ _ _ _ _ _ c.requires c.next_turn.ensures.turn) c.next_turn.ensures.outer))
