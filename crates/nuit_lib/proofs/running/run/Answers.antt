use Rattle.std.proofs.Common.{refl}
use Rattle.nuit_lib.proofs.RunEnds.{not_c_ends, nothing_ran}
use Rattle.nuit_lib.proofs.running.run.Goals as goal

pub returns-in-Err-NotC-clause-writes : goal.returns-in-Err-NotC-clause-writes
returns-in-Err-NotC-clause-writes g c =
    not_c_ends _ _ _ _ _ c.in-Err-NotC.line _ refl (record { held = refl; faults = refl }) c.requires (rw c.in-Err-NotC.field-0-is at c.in-Err-NotC.ensures.not_c) c.say_not_c.ensures

pub returns-in-Err-Memory-clause-writes : goal.returns-in-Err-Memory-clause-writes
returns-in-Err-Memory-clause-writes g c = nothing_ran _ _ _ _ _ (record { held = refl; faults = refl }) (record { held = refl; faults = refl })

pub returns-in_default-clause-writes : goal.returns-in_default-clause-writes
returns-in_default-clause-writes g c = nothing_ran _ _ _ _ _ (record { held = refl; faults = refl }) (record { held = refl; faults = refl })

pub returns-clause-few : goal.returns-clause-few
returns-clause-few g c = c.finish-status.ensures.few c.args.text.now c.in-Ok.program c.in-Ok.ensures.ok c.in-Ok-start.ensures
