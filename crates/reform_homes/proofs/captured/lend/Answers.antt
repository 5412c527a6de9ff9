use Rattle.std.proofs.Common.{rules, ◌==◌, cond, [], ◌∷◌}
use Rattle.reform_homes.specs.Gaining.{lent}
use Rattle.reform_homes.proofs.Gaining.{gain_same, gain_none}
use Rattle.reform_homes.proofs.Standing.{lent_one, lent_none}
use Rattle.reform_homes.proofs.captured.lend.Goals as goal

pub returns-in_ok-gain_at : goal.returns-in_ok-gain_at
returns-in_ok-gain_at c =
    gain_same c.args.lists.now.items c.gain_at.new.lists.items (λ a. cond (c.args.name.now.home == a) (c.args.name.now.name ∷ []) []) (λ a. lent a c.args.scope (c.args.name.now ∷ []))
    (lent_one c.args.scope c.args.name.now (search rules)) c.in_ok-gain_at.ensures

pub returns-else-name-scope : goal.returns-else-name-scope
returns-else-name-scope c = gain_none c.args.lists.now.items (λ a. lent a c.args.scope (c.args.name.now ∷ [])) (lent_none c.args.scope c.args.name.now (search rules))
