use Rattle.c_reader.proofs.NoStrings.{no_string}
use Rattle.c_reader.proofs.spelling.quoted.Goals as goal

pub returns-in_default-after-clause-none : goal.returns-in_default-after-clause-none
returns-in_default-after-clause-none c = no_string c.args.text.now c.loop-byte.rest.now c.loop-byte.bytes.items c.loop-byte.invariant.spelled c.in_default-spelled_byte.ensures.none c.in_default-after.ensures.none
