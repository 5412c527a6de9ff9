-- Blocks with the next temporary, as the laws read them.
use Rattle.node_tree.specs.Tree.{block}
use Rattle.carried_codes.specs.Parts as parts
use Rattle.reform_functions.specs.declared.turns.Made.{Made}

abbrev pub made_of : Made → parts.Made
made_of m = parts.made (block m.block) m.next
