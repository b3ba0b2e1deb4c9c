use Rattle.std.proofs.Common.{◌≡◌, take}
use Rattle.tera_components.proofs.info.ComponentInfo.new.Given as goal

abbrev pub invariant-loop-argument : goal.invariant-loop-argument
invariant-loop-argument l = l.args.items ≡ take l.argument-index l.arguments
