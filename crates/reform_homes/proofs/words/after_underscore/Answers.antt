use Rattle.std.proofs.Common.{arith}
use Rattle.std.proofs.lemmas.Str.Pattern.{strip_prefix_char}
use Rattle.reform_homes.proofs.Underscore.{after_underscore-from}
use Rattle.reform_homes.proofs.words.after_underscore.Goals as goal

pub returns : goal.returns
returns c = after_underscore-from c.args.text.now c.strip_prefix.result (strip_prefix_char 95 c.args.text.now c.strip_prefix.result c.strip_prefix.ensures.cases (omega arith))
