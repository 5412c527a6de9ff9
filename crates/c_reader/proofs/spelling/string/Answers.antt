use Rattle.c_reader.proofs.NoStrings.{quoted_of, no_text}
use Rattle.c_reader.proofs.spelling.string.Goals as goal

pub returns-in_default-clause-none : goal.returns-in_default-clause-none
returns-in_default-clause-none c = λ bytes rest s. (rw c.in_default.is at c.in_ok-bytes.ensures.none) bytes rest (quoted_of c.args.text.now bytes rest s)

pub returns-in_default-from_utf8-clause-none : goal.returns-in_default-from_utf8-clause-none
returns-in_default-from_utf8-clause-none c =
    no_text c.args.text.now c.in-Some.bytes.items c.in-Some.rest.now c.deref.result.now (rw c.in-Some.is at c.in_ok-bytes.ensures.some) c.deref.ensures.value c.in_default-from_utf8.ensures.cases.0
