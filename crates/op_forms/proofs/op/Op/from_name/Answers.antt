use Rattle.std.proofs.Common.{◌∙◌}
use Rattle.op_forms.specs.Names.{ops}
use Rattle.op_forms.proofs.Names.{named, found_by}
use Rattle.op_forms.proofs.op.Op.from_name.Goals as goal

pub returns-clause-named : goal.returns-clause-named
returns-clause-named c = rw c.op_among.ensures (named ops c.args.name.now)

pub returns-clause-only : goal.returns-clause-only
returns-clause-only c = λ o is. c.op_among.ensures ∙ found_by c.args.name.now o is
