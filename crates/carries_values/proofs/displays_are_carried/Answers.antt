use Rattle.carries_values.proofs.Displays.{list_carried, tuple_carried, dict_carried}
use Rattle.carries_values.proofs.displays_are_carried.Goals as goal

pub returns : goal.returns
returns c = record { list = list_carried; tuple = tuple_carried; dict = dict_carried }
