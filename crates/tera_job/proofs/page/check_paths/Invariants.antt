use Rattle.std.proofs.Common.{◌≡◌, ℕ, List, take, map, true}
use Rattle.std.specs.BTreeMap.{get_by}
use Rattle.std.specs.Cmp.Lexicographic.{slice_cmp}
use Rattle.std.specs.Ordering.{nat_cmp}
use Rattle.std.specs.Option.{is_some}
use Rattle.std.specs.Prelude.{string_bytes}
use Rattle.tera_job.specs.Paths.{output_path}
use Rattle.tera.specs.Named.{is_one_of}
use Rattle.tera_job.specs.Pages.{have_places}
use Rattle.tera_job.proofs.page.check_paths.Given as goal

abbrev pub invariant-loop-name : goal.invariant-loop-name
invariant-loop-name l = record {
  placed : have_places (take l.name-index (map output_path (map string_bytes l.names))) ≡ true;
  known : (q : List ℕ) → is_some (get_by (λ k. slice_cmp nat_cmp q k.now) l.makers)
      ≡ is_one_of (take l.name-index (map output_path (map string_bytes l.names))) q;
}
