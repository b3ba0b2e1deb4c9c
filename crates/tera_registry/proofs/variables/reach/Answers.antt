use Rattle.tera_registry.proofs.Reaching.{reached-already, reached-new}
use Rattle.tera_registry.proofs.variables.reach.Goals as goal

pub returns-then-marks-position : goal.returns-then-marks-position
returns-then-marks-position c = λ es t a at. reached-already es t _ _ c.args.position c.if-marks-position.true a at

pub returns : goal.returns
returns c = λ es t a at.
    rw c.in_ok-push.ensures.items (reached-new es t _ _ c.args.position c.if-marks-position.false c.requires a at)
