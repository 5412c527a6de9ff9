use Rattle.rt_text.proofs.Splitting.{joins_again, replaced_by_itself, finds_first, finds_none}
use Rattle.rt_text.proofs.laws.cut_texts_join_again.Goals as goal

pub returns : goal.returns
returns c = record { joins = joins_again; stays = replaced_by_itself; finds = finds_first; lacks = finds_none }
