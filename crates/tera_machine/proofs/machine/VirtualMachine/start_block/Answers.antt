use Rattle.std.proofs.Common.{Ok, refl, subst}
use Rattle.tera_code.specs.Listing.{Listing}
use Rattle.tera_machine.specs.declared.block_bodies.BodyEnd.TheVariants as back
use Rattle.tera_registry.specs.HandedOut.{code_of}
use Rattle.tera_machine.specs.Bodies.{Enters}
use Rattle.tera_machine.proofs.Waiting.{keeps_asked}
use Rattle.tera_machine.proofs.machine.VirtualMachine.start_block.Goals as goal

pub returns : goal.returns
returns g c =
    let m = c.args.self.now in
    let inside = c.in-Ok.inside in
    let entry = subst (λ (l : Listing). Enters g.M.Limit.world m l.file c.args.asked c.args.blocks.now c.args.configuration.now (Ok inside) c.enter.new.blocks c.enter.new.configuration) c.chunk.ensures c.in-Ok.ensures.enters in
    record {
      waits = record { body = c.args.here; at = c.args.next; above = inside.above; outer = inside.outer; back = back.Block c.args.asked };
      is = c.in_ok-push.ensures.ok;
      machine = refl;
      around = refl;
      at = refl;
      enters = entry.0;
      keeps = keeps_asked g.M.Limit.world m (code_of c.args.here).file c.args.asked c.args.blocks.now c.args.configuration.now entry c.args.here c.args.next;
      linked = c.requires.linked;
      belong = c.in-Ok.ensures.belong;
      objects = refl;
    }
