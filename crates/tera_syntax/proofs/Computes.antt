-- The tree of a text computes whatever forms are in it: a definition that the reader is made of and that `tree_read` left shut would stop it here.
use Rattle.std.proofs.Common.{◌≡◌, Bool, true, ◌&&◌, List, [], ◌∷◌, is_some, codes, refl}
use Rattle.tera_errors.specs.Site.{Text}
use Rattle.tera_syntax_tree.specs.Delimiters.{standard}
use Rattle.tera_syntax.specs.TreeRead.{tree_read}

-- each form of the language is in one of these
abbrev samples : List Text
samples =
    codes "{% set a = [1, ...b, -c ** 2, 'x\\n'][0:1:-1] %}{% set m = {\"k\": x.y?.z, 1: true, ...n}?[\"k\"] %}{{ [x * 2 for k, x in m if not x == 2] }}{{ [] }}{{ {} }}"
    ∷ codes "{% set_global t | trim %} {{- f(a=none) | g(b=false) if (a and b) or c not in d else h ~ e is not odd -}} {% endset %}{% filter replace(from='o', to='') | upper %}{{ x }}{% endfilter %}"
    ∷ codes "{% for k, v in m %}{{ loop.index }}{% if v is defined %}{% break %}{% elif v %}{% continue %}{% else %}{% endif %}{% else %}{% endfor %}{% include \"i\" %}{# c #}{% raw %}{{ x }}{% endraw %}"
    ∷ codes " {# c #}{% extends 'p' %}{% block t %}{{ super() }}{% endblock t %}{% component Q(a: String, b = {\"x\": [1, -2]}, ...rest) %}{{ rest }}{% endcomponent Q %}"
    ∷ codes "{% <Q a=\"1\" b={1} {...c}> %}b{% </Q> %}{{ <Q a='t'/> }}"
    ∷ []

abbrev all_read : List Text → Bool
all_read [] = true
all_read (t ∷ ts) = is_some (tree_read standard t) && all_read ts

pub computes : all_read samples ≡ true
unfolding tree_read
computes = refl
