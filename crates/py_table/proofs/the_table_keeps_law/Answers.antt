use Rattle.py_table.proofs.Table.{table_law}
use Rattle.py_table.proofs.the_table_keeps_law.Goals as goal

pub returns : goal.returns
returns c = table_law c.doings_keep_sound.ensures c.finishing_keeps_sound.ensures c.the_start_is_sound.ensures
