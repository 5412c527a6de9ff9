use Rattle.node_reader.proofs.Codes.{no_kind}
use Rattle.node_reader.proofs.code.kind.Goals as goal

pub returns-in_err-rest-clause-none : goal.returns-in_err-rest-clause-none
returns-in_err-rest-clause-none c = rw c.from_residual.ensures (no_kind c.args.text.now c.in_default.ensures.none c.in_err-rest.ensures.none)
