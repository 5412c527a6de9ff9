-- What the sets of a pass say of what repeats.
use Rattle.std.proofs.Common.{◌≡◌, refl, ℕ, List}
use Rattle.py_scopes.specs.declared.rules.Listed.{Listed}
use Rattle.py_scopes.specs.declared.survey.Site.{Site}
use Rattle.py_scopes.specs.declared.survey.What.{What}
use Rattle.py_scopes.specs.declared.survey.What.TheVariants as what
use Rattle.py_scopes.specs.Rules.{repeats}
use Rattle.py_scopes.specs.Passes.{Holds, is_listed}

pub listed_is : (listed : Listed) (sites : List Site) (h : Holds listed sites) (scope : ℕ) (w : What) → is_listed listed scope w ≡ repeats sites scope w
listed_is listed sites h scope (what.Parameter x) = h.parameters scope x
listed_is listed sites h scope (what.Keyword start x) = h.keywords start x
listed_is listed sites h scope (what.Binds x) = refl
listed_is listed sites h scope (what.Uses x) = refl
listed_is listed sites h scope (what.Global x) = refl
listed_is listed sites h scope (what.Nonlocal x) = refl
listed_is listed sites h scope (what.Attribute x) = refl
listed_is listed sites h scope what.Arguments = refl
listed_is listed sites h scope what.Break = refl
listed_is listed sites h scope what.Return = refl
listed_is listed sites h scope what.Yield = refl
listed_is listed sites h scope what.Reraise = refl
listed_is listed sites h scope what.Misplaced = refl
