use Rattle.carries_base.proofs.Codes.{plain_carried}
use Rattle.carries_base.proofs.plain_codes_are_carried.Goals as goal

pub returns : goal.returns
returns c = plain_carried
