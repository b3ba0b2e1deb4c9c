use Rattle.std.proofs.Common.{rules, map, ap, ◌∙◌}
use Rattle.std.specs.Prelude.{string_bytes}
use Rattle.std.proofs.lemmas.List.Elements.{filter_from_retain}
use Rattle.tera_job.specs.Paths.{is_page}
use Rattle.tera_job.proofs.Making.{filter_bytes}
use Rattle.tera_job.proofs.page.keep_pages.Goals as goal

pub returns : goal.returns
returns c =
    ap (map string_bytes) (filter_from_retain _ (λ name. is_page (string_bytes name)) (λ p x b q h. search rules) _ c.args.names.now.items c.retain.new.self.items c.retain.ensures.filtered)
    ∙ filter_bytes is_page c.args.names.now.items
