use Rattle.rt_dict.proofs.Members.{given_by, there_by}
use Rattle.rt_dict.proofs.laws.members_are_keys.Goals as goal

pub returns : goal.returns
returns c = record { given = given_by; there = there_by }
