use Rattle.std.proofs.Common.{◌≡◌, Ok, map, string_bytes, codes, Global, String, sym, ap, ◌∙◌}
use Rattle.tera.specs.Registry.{registry_of}
use Rattle.tera.specs.Site.{Name, Text}
use Rattle.tera_run_script.specs.Preview.{shown}
use Rattle.tera_run_script.proofs.Joining.{join_by-map, join_by-same}
use Rattle.tera_run_script.proofs.preview.preview.Goals as goal

pub returns : goal.returns
returns g c =
    let told : Name → Text = shown (registry_of g.O.Objects.engine c.args.engine.now) c.args.context.now c.args.autoescape in
    let by_name : String Global → Text = λ n. told (string_bytes n) in
    let names = c.in_ok-names.names.items in
    let each : map string_bytes c.in_ok-texts.texts.items ≡ map by_name c.as_slice.result.now = c.in_ok-texts.ensures.ok in
    let all : map string_bytes c.deref.result.now ≡ map by_name names =
    ap (map string_bytes) c.deref.ensures.value ∙ each ∙ ap (map by_name) c.as_slice.ensures.value in
    record {
      names = map string_bytes names;
      are = c.in_ok-names.ensures.names;
      is = ap Ok (c.in_ok-join.ensures.ok ∙ join_by-same string_bytes by_name (codes "\n") c.deref.result.now names all ∙ sym (join_by-map told string_bytes (codes "\n") names));
    }
