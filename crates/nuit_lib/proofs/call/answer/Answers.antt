use Rattle.std.proofs.Common.{◌≡◌, ◌++◌, ◌<◌, inl, length, refl, sym, ◌∙◌, ap, subst, Some, IfSome, IsSomeAnd}
use Rattle.nu_base.specs.Outside.{told_file}
use Rattle.nuit_lib.specs.declared.status.Status.TheVariants as status
use Rattle.nuit_lib.specs.Asked.{asked}
use Rattle.nuit_lib.proofs.Ending.{said_writes, nothing_part, file_asked, unknown, absent, long, performed_ends}
use Rattle.nuit_lib.proofs.call.answer.Goals as goal

pub returns-in_default-clause-ends : goal.returns-in_default-clause-ends
returns-in_default-clause-ends g c =
    said_writes _ _ _ _ _ status.Usage _ (λ w. w) (record { held = refl; faults = refl }) (nothing_part _ _) (unknown _ (sym c.in_default.ensures) refl refl) c.say.ensures

pub returns-in-Ok-Whole-clause-ends : goal.returns-in-Ok-Whole-clause-ends
returns-in-Ok-Whole-clause-ends g c =
    let got = rw c.in-Ok-Whole.field-0-is at c.in-Ok-Whole.ensures.bytes in
    let same : c.deref.result.now ≡ got.0 = c.deref.ensures.value ∙ got.1 ∙ ap (λ l. l ++ got.0) c.new-bytes.ensures.items in
    performed_ends _ c.in-Some.name.now c.deref.result.now
    (subst (λ b. IfSome (told_file (g.F.Files.told c.args.files.now) c.in-Some.name.now) (λ file. file ≡ Some b)) (sym same) got.3)
    c.in-Ok-Whole.ensures.count c.in-Some.verb _ (sym c.in-Some.ensures) c.perform.ensures.writes

pub returns-in-Ok-Longer-clause-ends : goal.returns-in-Ok-Longer-clause-ends
returns-in-Ok-Longer-clause-ends g c =
    let told = (rw c.in-Ok-Longer.field-0-is at c.in-Ok-Longer.ensures.bytes).1 in
    said_writes _ _ _ _ _ status.TooLarge _ (λ w. w) (record { held = refl; faults = refl }) (nothing_part _ _)
    (long _ c.in-Some.verb c.in-Some.name.now (sym c.in-Some.ensures)
    (subst (λ n. IfSome (told_file (g.F.Files.told c.args.files.now) c.in-Some.name.now) (λ file. IsSomeAnd file (λ bytes. n < length bytes))) c.longest.ensures told)
    c.in-Ok-Longer.ensures.count refl)
    c.say-in-Ok-Longer.ensures

pub returns-in-Ok-Absent-clause-ends : goal.returns-in-Ok-Absent-clause-ends
returns-in-Ok-Absent-clause-ends g c =
    let told = (rw c.in-Ok-Absent.field-0-is at c.in-Ok-Absent.ensures.bytes).1 in
    said_writes _ _ _ _ _ status.Missing _ (λ w. w) (record { held = refl; faults = refl }) (nothing_part _ _)
    (absent _ _ _ (sym c.in-Some.ensures)
    (subst (λ n. IfSome (told_file (g.F.Files.told c.args.files.now) n) (λ file. file ≡ Rattle.std.proofs.Common.None)) (sym (file_asked c.in-Some.verb c.in-Some.name.now)) told)
    (record { silent = refl; said = refl }) c.in-Ok-Absent.ensures.count refl)
    c.say-in-Ok-Absent.ensures

pub returns-in-Err-Failed-clause-ends : goal.returns-in-Err-Failed-clause-ends
returns-in-Err-Failed-clause-ends g c =
    said_writes _ _ _ _ _ status.ReadFault _ (λ w. w) (record { held = refl; faults = refl }) (nothing_part _ _)
    (inl (record {
      command = asked c.in-Some.verb c.in-Some.name.now;
      is = sym c.in-Some.ensures;
      says = record { silent = refl; said = refl };
      faults = rw c.in-Err-Failed.field-0-is at c.in-Err-Failed.ensures.count;
      input_stays = record { held = refl; faults = refl };
    }))
    c.say-in-Err-Failed.ensures
