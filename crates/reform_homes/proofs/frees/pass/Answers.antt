use Rattle.std.proofs.Common.{rules}
use Rattle.reform_homes.proofs.Gaining.{gain_same, gain_none}
use Rattle.reform_homes.proofs.Standing.{passed_own, passed_other}
use Rattle.reform_homes.proofs.frees.pass.Goals as goal

pub returns-in_ok-gain_free_at : goal.returns-in_ok-gain_free_at
returns-in_ok-gain_free_at c = gain_same _ _ _ _ (passed_other c.args.scope c.args.names.now c.args.this (search rules)) c.in_ok-gain_free_at.ensures

pub returns-else-this-scope : goal.returns-else-this-scope
returns-else-this-scope c = gain_none _ _ (passed_own c.args.scope c.args.names.now c.args.this (search rules))
