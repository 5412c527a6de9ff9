use Rattle.std.proofs.Common.{arith}
use Rattle.std.proofs.lemmas.Str.Pattern.{strip_prefix_char}
use Rattle.py_scopes.proofs.Underscore.{after_underscore-from}
use Rattle.py_scopes.proofs.names.after_underscore.Goals as goal

pub returns : goal.returns
returns c = after_underscore-from c.args.text.now c.strip_prefix.result (strip_prefix_char 95 c.args.text.now c.strip_prefix.result c.strip_prefix.ensures.cases (omega arith))
