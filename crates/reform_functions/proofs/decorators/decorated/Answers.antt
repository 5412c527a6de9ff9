use Rattle.std.proofs.Common.{◌∙◌, rules}
use Rattle.reform_values.specs.Values.{valued_of}
use Rattle.reform_functions.proofs.Dressed.{next_decorated, last_decorated}
use Rattle.reform_functions.proofs.decorators.decorated.Goals as goal

pub loop-mark-preserved : goal.loop-mark-preserved
loop-mark-preserved c =
    next_decorated (valued_of c.loop-mark.done) (valued_of c.in_ok-done.done) c.loop-mark.left.items c.pop.new.self.items c.in-Some.mark c.in-Some.ensures.items c.in_ok-done.ensures ∙ c.loop-mark.invariant

pub returns : goal.returns
returns c = last_decorated (valued_of c.loop-mark.done) _ c.loop-mark.left.items (search rules) c.loop-mark.invariant
