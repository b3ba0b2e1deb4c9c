-- What a shape stands for.
use Rattle.tera_value_types.specs.Val.{Val, undefined, none, bool, int, text, bytes, array, map, vals, entries}
use Rattle.tera_value_types.specs.declared.shape.Shape.{Shape}
use Rattle.tera_value_types.specs.declared.shape.Shape.TheVariants as shape

abbrev pub shape_view : Shape → Val
shape_view shape.Undefined = undefined
shape_view shape.None = none
shape_view (shape.Bool b) = bool b
shape_view (shape.Int z) = int z
shape_view (shape.Text t safe) = text t.now safe
shape_view (shape.Bytes b) = bytes b.now
shape_view (shape.Array vs) = array (vals vs.now)
shape_view (shape.Map m) = map (entries m.now)
