use Rattle.nuit_lib.proofs.OneKind as kinds
use Rattle.nuit_lib.proofs.laws.one_kind.Goals as goal

pub returns : goal.returns
returns c = kinds.one_kind
