use Rattle.std.proofs.Common.{refl, sym, subst, inl, []}
use Rattle.nuit_lib.specs.declared.refusal.Kind.TheVariants as kind
use Rattle.nuit_lib.specs.declared.status.Status.TheVariants as status
use Rattle.nuit_lib.specs.Compiled.{IsCompiled}
use Rattle.nuit_lib.proofs.Built.{built, accepted, unbuilt}
use Rattle.nuit_lib.proofs.Ending.{said_writes, got_nothing}
use Rattle.nuit_lib.proofs.building.build.Goals as goal

pub returns-in-Err-Refused : goal.returns-in-Err-Refused
returns-in-Err-Refused g c =
    said_writes _ _ _ _ _ status.Refused _ (λ w. w) (record { held = refl; faults = refl }) refl
    (c.requires, c.in-Err-Refused.kind, c.in-Err-Refused.line, rw c.in-Err-Refused.field-0-is at c.in-Err-Refused.ensures, record { silent = refl; said = refl })
    c.refuse.ensures

pub returns-in-Err-Unbuilt : goal.returns-in-Err-Unbuilt
returns-in-Err-Unbuilt g c =
    said_writes _ _ _ _ _ status.Refused _ (λ w. w) (record { held = refl; faults = refl }) refl
    (c.requires, kind.Unbuilt, c.in-Err-Unbuilt.line, unbuilt _ c.in-Ok.script _ c.in-Ok.ensures (rw c.in-Err-Unbuilt.field-0-is at c.in-Err-Unbuilt.ensures), record { silent = refl; said = refl })
    c.refuse-in-Err-Unbuilt.ensures

pub returns-in-Ok-put : goal.returns-in-Ok-put
returns-in-Ok-put g c =
    let x = c.in-Ok.ensures in
    let k = subst (IsCompiled c.args.name.now c.in-Ok.script) (sym c.deref.ensures.value) c.in-Ok-compile.ensures in
    record {
      text = c.deref.result.now;
      message = [];
      is_due = (accepted _ _ _ _ c.requires x k, built _ _ _ _ x k, refl);
      got = record { held = c.in-Ok-put.ensures.bytes; faults = c.in-Ok-put.ensures.count };
      told = got_nothing _ (record { held = refl; faults = refl });
    }

pub returns-in-Err-Failed : goal.returns-in-Err-Failed
returns-in-Err-Failed g c =
    let x = c.in-Ok.ensures in
    let k = subst (IsCompiled c.args.name.now c.in-Ok.script) (sym c.deref.ensures.value) c.in-Ok-compile.ensures in
    record {
      answer = status.Done;
      text = c.deref.result.now;
      message = [];
      is_due = (accepted _ _ _ _ c.requires x k, built _ _ _ _ x k, refl);
      which = inl (
        record {
          held = rw c.in-Err-Failed.field-0-is at c.in-Err-Failed.ensures.bytes;
          faults = rw c.in-Err-Failed.field-0-is at c.in-Err-Failed.ensures.count;
        },
        record { held = refl; faults = refl },
      );
    }
