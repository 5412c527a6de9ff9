use Rattle.std.proofs.Common.{Ok, Err, subst}
use Rattle.py_statements.specs.Script.{Answers}
use Rattle.nuit_lib.proofs.Ways.{no_tree, is_script}
use Rattle.nuit_lib.proofs.reading.read.Goals as goal

pub returns-in-Err-parse : goal.returns-in-Err-parse
returns-in-Err-parse c =
    rw c.of_parser.ensures
    (no_tree _ c.in-Ok.tokens.items c.in-Err-parse.end c.in-Ok.ensures (subst (λ l. Answers l (Err c.in-Err-parse.end)) c.deref.ensures.value c.in-Err-parse.ensures))

pub returns-in-Ok-resolve : goal.returns-in-Ok-resolve
returns-in-Ok-resolve c =
    is_script _ c.in-Ok.tokens.items c.in-Ok-parse.script c.in-Ok-resolve.scoped c.in-Ok.ensures
    (subst (λ l. Answers l (Ok c.in-Ok-parse.script)) c.deref.ensures.value c.in-Ok-parse.ensures) c.in-Ok-resolve.ensures
