use Rattle.std.proofs.Common.{◌≡◌, string_bytes, map}
use Rattle.tera_built_ins.proofs.Indenting.{begun, made}
use Rattle.tera_built_ins.proofs.indent.indent_lines.Given as goal

abbrev pub invariant-loop-line : goal.invariant-loop-line
invariant-loop-line l = record {
  bytes : string_bytes l.out ≡ made l.padding l.first l.blank (map (λ x. x.now) l.yielded);
  begins : l.begun ≡ begun l.yielded;
}
