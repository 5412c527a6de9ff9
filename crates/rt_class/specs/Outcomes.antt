-- What a row does that changes no object.
use Rattle.std.specs.Prelude.{List}
use Rattle.nu_value.specs.declared.object.Object.{Object}
use Rattle.op_forms.specs.Doing.{Doing, ends, makes}
use Rattle.rt_class.specs.declared.outcome.Outcome.{Outcome}
use Rattle.rt_class.specs.declared.outcome.Outcome.TheVariants as outcome

abbrev pub doing_of : List Object → Outcome → Doing
doing_of h (outcome.Ends e) = ends e
doing_of h (outcome.Makes o) = makes h o
