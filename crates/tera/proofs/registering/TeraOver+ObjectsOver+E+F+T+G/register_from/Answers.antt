use Rattle.tera.proofs.Registered.{takes-from}
use Rattle.tera.proofs.registering.TeraOver+ObjectsOver+E+F+T+G.register_from.Goals as goal

pub returns : goal.returns
returns g c = λ m.
    takes-from c.args.self.now c.register_from.new.self m
    c.args.other.objects c.replace-objects.result c.register_from.result c.replace-objects.ensures.value c.register_from.ensures.ok c.register_from.ensures.part c.register_from.ensures.lacks
