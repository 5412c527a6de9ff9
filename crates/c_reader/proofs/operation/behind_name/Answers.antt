use Rattle.std.proofs.Common.{ap, ◌∙◌, ◌++◌}
use Rattle.c_reader.proofs.Names.{no_frame}
use Rattle.c_reader.proofs.operation.behind_name.Goals as goal

pub returns-clause-none : goal.returns-clause-none
returns-clause-none c =
    no_frame c.args.text.now c.in_ok-behind.behind.now c.args.op c.after-2.result (c.in_ok-behind.ensures.some ∙ ap (λ l. l ++ c.in_ok-behind.behind.now) (c.as_bytes.ensures.value ∙ c.name.ensures)) c.after-2.ensures.none
