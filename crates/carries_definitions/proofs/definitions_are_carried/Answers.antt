use Rattle.carries_definitions.proofs.Decorated.{define_carried}
use Rattle.carries_definitions.proofs.Classes.{class_carried}
use Rattle.carries_definitions.proofs.definitions_are_carried.Goals as goal

pub returns : goal.returns
returns c = record { define = define_carried; class = class_carried }
