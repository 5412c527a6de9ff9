use Rattle.std.proofs.lemmas.Int.{to_z-of_z}
use Rattle.std.specs.Int.{w128}
use Rattle.op_rules.proofs.Division.{quotient_from}
use Rattle.op_rules.proofs.arithmetic.floor_div.Goals as goal

pub returns : goal.returns
returns c =
    quotient_from c.args.a c.args.b _ _ _ (to_z-of_z w128 c.args.a c.ranges.a) (to_z-of_z w128 c.args.b c.ranges.b) c.quotient.ensures
