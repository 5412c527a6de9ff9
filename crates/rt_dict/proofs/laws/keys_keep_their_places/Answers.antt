use Rattle.rt_dict.proofs.Places.{key_stays, key_comes, key_maps, key_others}
use Rattle.rt_dict.proofs.laws.keys_keep_their_places.Goals as goal

pub returns : goal.returns
returns c = record { stays = key_stays; comes = key_comes; maps = key_maps; others = key_others }
