use Rattle.carried_codes.proofs.Statements.{block_carried}
use Rattle.carried_codes.proofs.laws.blocks_are_carried.Goals as goal

pub returns : goal.returns
returns w = λ c r h caught again t b k q st l. block_carried c h r caught again t b k q st l
