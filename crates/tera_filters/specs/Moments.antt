-- What a moment that was read stands for.
use Rattle.std.specs.Prelude.{Result}
use Rattle.std.specs.Result.{result_map_both}
use Rattle.jiff_core.specs.DateTime.{civil_nanos}
use Rattle.jiff_core.specs.declared.error.Error.{Error}
use Rattle.tera_filters.specs.Dates.{Moment, civil, placed}
use Rattle.tera_filters.specs.declared.moments.Moment as declared
use Rattle.tera_filters.specs.declared.moments.Moment.TheVariants.{Civil, Placed}

abbrev pub moment_view : declared.Moment → Moment
moment_view (Civil dt) = civil (civil_nanos dt)
moment_view (Placed t o) = placed t.nanosecond o.seconds

abbrev pub moment_result : Result declared.Moment Error → Result Moment Error
moment_result r = result_map_both moment_view (λ e. e) r
