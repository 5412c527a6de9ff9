use Rattle.std.proofs.Common.{rules}
use Rattle.py_meaning.specs.Scopes.{is_free}
use Rattle.reform_homes.proofs.Gaining.{gain_texts, gain_no_texts}
use Rattle.reform_homes.proofs.frees.gain_free_at.Goals as goal

pub returns-in_ok-gain_free : goal.returns-in_ok-gain_free
returns-in_ok-gain_free c = gain_texts is_free c.args.lists.now.items c.args.this c.index_mut.result.now _ c.args.more.now (search rules) c.index_mut.ensures.value c.in_ok-gain_free.ensures

pub returns-else-this-len : goal.returns-else-this-len
returns-else-this-len c = gain_no_texts is_free c.args.lists.now.items c.args.this c.args.more.now (search rules)
