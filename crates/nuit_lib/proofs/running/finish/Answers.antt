use Rattle.std.proofs.Common.{◌≡◌, refl, sym, ◌∙◌, ap, Err}
use Rattle.nu_run.specs.Runs.{Ended}
use Rattle.nuit_lib.specs.declared.status.Status.TheVariants as status
use Rattle.nuit_lib.proofs.RunEnds.{end_late, ended_ends, fault_ends, memory_ends, more_ends, read_ends, said_late}
use Rattle.nuit_lib.proofs.Drawn.{few_of, halted, input_of, ran_over}
use Rattle.nuit_lib.proofs.Clauses.{some_is}
use Rattle.nuit_lib.proofs.running.finish.Goals as goal

pub returns-in-Ok-More-clause-writes : goal.returns-in-Ok-More-clause-writes
returns-in-Ok-More-clause-writes g c = λ bytes p short text fresh.
    let ran = c.in-Ok-More.ensures.ran fresh.works in
    let input = input_of _ _ _ _ _ _ _ _ _ _ _ fresh ran in
    let runs = rw c.in-Ok-More.field-0-is at (ran_over _ _ _ _ _ _ _ _ _ _ _ fresh ran) in
    more_ends bytes input.left c.args.steps _ _ _ p short text input.given c.in-Ok-More.ensures.input_count _ runs.0 runs.1 runs.3 c.in-Ok-More.ensures.count c.say.ensures

pub returns-in-Ok-More-clause-late : goal.returns-in-Ok-More-clause-late
returns-in-Ok-More-clause-late g c = said_late _ _ status.Steps _ refl c.say.ensures

pub returns-in-Ok-More-clause-few : goal.returns-in-Ok-More-clause-few
returns-in-Ok-More-clause-few g c = λ bytes p text fresh. few_of _ _ _ _ _ _ _ _ _ _ _ fresh (c.in-Ok-More.ensures.ran fresh.works) bytes text

pub returns-in-Some-clause-writes : goal.returns-in-Some-clause-writes
returns-in-Some-clause-writes g c = λ bytes p short text fresh.
    let ran = c.in-Ok-Ended.ensures.ran fresh.works in
    let input = input_of _ _ _ _ _ _ _ _ _ _ _ fresh ran in
    let runs = rw c.in-Ok-Ended.field-0-is at (ran_over _ _ _ _ _ _ _ _ _ _ _ fresh ran) in
    let same : runs.1 ≡ c.in-Some.end.now = some_is _ _ (sym runs.3 ∙ sym c.in-Some.ensures) in
    ended_ends bytes input.left c.args.steps _ _ _ p short text input.given c.in-Ok-Ended.ensures.input_count _ runs.0 c.in-Some.end.now (runs.2 ∙ ap (λ x. Ended runs.0 x) same) runs.4 c.in-Ok-Ended.ensures.count c.say_end.ensures

pub returns-in-Some-clause-late : goal.returns-in-Some-clause-late
returns-in-Some-clause-late g c = said_late _ _ _ _ (end_late c.in-Some.end.now) c.say_end.ensures

pub returns-in-Some-clause-few : goal.returns-in-Some-clause-few
returns-in-Some-clause-few g c = λ bytes p text fresh. few_of _ _ _ _ _ _ _ _ _ _ _ fresh (c.in-Ok-Ended.ensures.ran fresh.works) bytes text

pub returns-in-Err-WriteFault-clause-writes : goal.returns-in-Err-WriteFault-clause-writes
returns-in-Err-WriteFault-clause-writes g c = λ bytes p short text fresh.
    let ran = c.in-Err-WriteFault.ensures.ran fresh.works in
    let input = input_of _ _ _ _ _ _ _ _ _ _ _ fresh ran in
    let runs = rw c.in-Err-WriteFault.field-0-is at (ran_over _ _ _ _ _ _ _ _ _ _ _ fresh ran) in
    fault_ends bytes input.left c.args.steps _ _ _ p short text input.given (rw c.in-Err-WriteFault.field-0-is at c.in-Err-WriteFault.ensures.input_count) _ refl runs (rw c.in-Err-WriteFault.field-0-is at c.in-Err-WriteFault.ensures.count) (record { held = refl; faults = refl })

pub returns-in-Err-WriteFault-clause-few : goal.returns-in-Err-WriteFault-clause-few
returns-in-Err-WriteFault-clause-few g c = λ bytes p text fresh. few_of _ _ _ _ _ _ _ _ _ _ _ fresh (c.in-Err-WriteFault.ensures.ran fresh.works) bytes text

pub returns-in-Err-ReadFault-clause-writes : goal.returns-in-Err-ReadFault-clause-writes
returns-in-Err-ReadFault-clause-writes g c = λ bytes p short text fresh.
    let ran = c.in-Err-ReadFault.ensures.ran fresh.works in
    let input = input_of _ _ _ _ _ _ _ _ _ _ _ fresh ran in
    let runs = rw c.in-Err-ReadFault.field-0-is at (ran_over _ _ _ _ _ _ _ _ _ _ _ fresh ran) in
    let stopped = halted _ _ _ _ _ _ _ _ _ _ _ fresh ran (ap Err c.in-Err-ReadFault.field-0-is) in
    read_ends bytes input.left c.args.steps _ _ _ p short text input.given _ stopped.printed stopped.front input.rest input.is_left stopped.last (rw c.in-Err-ReadFault.field-0-is at c.in-Err-ReadFault.ensures.input_count) stopped.adds runs (rw c.in-Err-ReadFault.field-0-is at c.in-Err-ReadFault.ensures.count) c.say-in-Err-ReadFault.ensures

pub returns-in-Err-ReadFault-clause-late : goal.returns-in-Err-ReadFault-clause-late
returns-in-Err-ReadFault-clause-late g c = said_late _ _ status.ReadFault _ refl c.say-in-Err-ReadFault.ensures

pub returns-in-Err-ReadFault-clause-few : goal.returns-in-Err-ReadFault-clause-few
returns-in-Err-ReadFault-clause-few g c = λ bytes p text fresh. few_of _ _ _ _ _ _ _ _ _ _ _ fresh (c.in-Err-ReadFault.ensures.ran fresh.works) bytes text

pub returns-in-Err-Memory-clause-writes : goal.returns-in-Err-Memory-clause-writes
returns-in-Err-Memory-clause-writes g c = λ bytes p short text fresh.
    let ran = c.in-Err-Memory.ensures.ran fresh.works in
    let input = input_of _ _ _ _ _ _ _ _ _ _ _ fresh ran in
    let runs = rw c.in-Err-Memory.field-0-is at (ran_over _ _ _ _ _ _ _ _ _ _ _ fresh ran) in
    memory_ends bytes input.left c.args.steps _ _ _ p short text input.given _ refl runs (rw c.in-Err-Memory.field-0-is at c.in-Err-Memory.ensures.count) (record { held = refl; faults = refl })

pub returns-in-Err-Memory-clause-few : goal.returns-in-Err-Memory-clause-few
returns-in-Err-Memory-clause-few g c = λ bytes p text fresh. few_of _ _ _ _ _ _ _ _ _ _ _ fresh (c.in-Err-Memory.ensures.ran fresh.works) bytes text
