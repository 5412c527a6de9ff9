use Rattle.carries_values.proofs.Choices.{junction_carried, conditional_carried}
use Rattle.carries_values.proofs.Comparisons.{comparison_carried}
use Rattle.carries_values.proofs.choices_are_carried.Goals as goal

pub returns : goal.returns
returns c = record { junction = junction_carried; conditional = conditional_carried; comparison = comparison_carried }
