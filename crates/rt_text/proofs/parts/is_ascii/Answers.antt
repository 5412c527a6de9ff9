use Rattle.rt_text.proofs.Ascii.{ascii_test}
use Rattle.rt_text.proofs.parts.is_ascii.Goals as goal

pub returns-clause-test : goal.returns-clause-test
returns-clause-test c = ascii_test c.is_ascii.result c.args.text.now c.is_ascii.ensures.cases
