use Rattle.std.proofs.Common.{rules, ◌∙◌, sym}
use Rattle.py_scopes.proofs.Outward.{step}
use Rattle.py_scopes.proofs.homes.outer_home.Goals as goal

pub returns-in-Some : goal.returns-in-Some
returns-in-Some c = sym (c.loop-turn.invariant ∙ step c.args.survey.now c.args.name.now _ c.loop-turn._turn c.loop-turn.at (search rules) (search rules) ∙ (search rules))

pub loop-turn-preserved : goal.loop-turn-preserved
loop-turn-preserved c = c.loop-turn.invariant ∙ step c.args.survey.now c.args.name.now _ c.loop-turn._turn c.loop-turn.at (search rules) (search rules) ∙ (search rules)
