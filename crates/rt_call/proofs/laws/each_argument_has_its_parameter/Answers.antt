use Rattle.rt_call.proofs.Ready.{each_argument}
use Rattle.rt_call.proofs.laws.each_argument_has_its_parameter.Goals as goal

pub returns : goal.returns
returns c = each_argument
