use Rattle.rt_dict.proofs.Arguments.{two}
use Rattle.rt_dict.proofs.apply.modulo.Goals as goal

pub returns-in-len2 : goal.returns-in-len2
returns-in-len2 c =
    rw (two c.args.args.now c.a-item.result c.b-item.result c.in-len2.len_at_least c.in-len2.len_below c.a-item.is c.b-item.is) c.mod_pair.ensures
