use Rattle.std.proofs.Common.{ap, sym, ◌∙◌}
use Rattle.op_forms.specs.declared.end.How.TheVariants as how
use Rattle.nu_calls.specs.Ends as ends
use Rattle.c_ends.specs.Outcomes.{in_world}
use Rattle.c_ends.proofs.Ended.{none_is, sent_some}
use Rattle.c_ends.proofs.generators.send_fresh.Goals as goal

pub returns-then-none : goal.returns-then-none
returns-then-none c = λ scripts input frames is.
    ap (λ v. ends.fresh_resumed scripts (in_world c.args.world.now input frames) c.args.generator c.args.parts.0 c.args.parts.1 c.args.parts.2 (how.Send v)) (none_is c.args.value (sym c.if-none.ensures))
    ∙ c.start.ensures scripts input frames is

pub returns : goal.returns
returns c = λ scripts input frames is.
    sent_some scripts (in_world c.args.world.now input frames) c.args.generator c.args.parts.0 c.args.parts.1 c.args.parts.2 c.args.value (sym c.if-none.ensures)
    ∙ ap ends.over (c.in_ok-raises_text.ensures input frames)
