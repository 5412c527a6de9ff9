use Rattle.rt_text.proofs.Encoded.{all_counted}
use Rattle.rt_text.proofs.Ordered.{all_ordered}
use Rattle.rt_text.proofs.laws.texts_are_characters.Goals as goal

pub returns : goal.returns
returns c = record { counted = all_counted; ordered = all_ordered }
