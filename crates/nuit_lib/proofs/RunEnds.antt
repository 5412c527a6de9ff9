-- How running a program ends, from how its machine does.
use Rattle.std.proofs.Common.{◌≡◌, ℕ, ◌≤◌, inl, inr, List, [], length, refl, sym, ◌∙◌, ap, subst, Some, IfSome, true, false}
use Rattle.nu_base.specs.Outside.{Faulted, Adds, AddsFront}
use Rattle.nu_run.specs.declared.End.{End}
use Rattle.nu_run.specs.declared.End.TheVariants as end
use Rattle.nu_run.specs.Runs.{Run, Going, Ended, printed_by}
use Rattle.nu_run.proofs.Runs.{prefix_refl}
use Rattle.c_meaning.specs.declared.program.CProgram as program
use Rattle.c_meaning.specs.Written.{IsText}
use Rattle.op_rules.specs.TableRules.{table_rules}
use Rattle.c_meaning.specs.Run.{c_run}
use Rattle.nuit_lib.specs.declared.status.Status.{Status}
use Rattle.nuit_lib.specs.declared.status.Status.TheVariants as status
use Rattle.nuit_lib.specs.Asking.{AsksLast}
use Rattle.nuit_lib.specs.Replies.{RunPart, IsRun, Ran, not_c_text, read_fault_text, steps_text, status_at, message_at, status_of, message_of}
use Rattle.nuit_lib.specs.Ends.{Stream, Stays, Got, RunDue, RunEnds, Said, Writes, Wrote, is_before_run}
use Rattle.nuit_lib.proofs.Ending.{got_nothing, said_behind, said_writes, some_input}

-- nothing was run, since memory was wanting
pub nothing_ran : (bytes : List ℕ) (steps : ℕ) (input out err : Stream) → Stays out → Stays err → RunEnds bytes steps input out err status.Memory
nothing_ran bytes steps input out err o e = record {
  left = (some_input input.before).0;
  given = (some_input input.before).1;
  writes = record { text = []; is_part = inl refl; got = got_nothing out o; err_stays = e };
}

-- the bytes are no text
pub not_c_ends : (bytes : List ℕ) (steps : ℕ) (input out err : Stream) (line : ℕ) (answer : Status) → input.faults_after ≡ input.faults → Stays out → length bytes ≤ 1073741824 → ((p : program.CProgram) → IsText bytes p → ⊥)
    → Said err (not_c_text line) status.NotC answer → RunEnds bytes steps input out err answer
not_c_ends bytes steps input out err line answer heard o short none said = record {
  left = (some_input input.before).0;
  given = (some_input input.before).1;
  writes = said_writes (RunDue bytes (some_input input.before).0 steps input) (RunPart bytes (some_input input.before).0 steps) out err (not_c_text line) status.NotC answer (λ w. w) o (inl refl)
      ((none, short, line, record { silent = refl; said = refl }), heard) said;
}

-- a message that belongs to a status that isn't an early one
pub said_late : (err : Stream) (message : List ℕ) (wanted answer : Status) → is_before_run wanted ≡ false → Said err message wanted answer → is_before_run answer ≡ false
said_late err message wanted answer late (inl s) = ap is_before_run s.0 ∙ late
said_late err message wanted answer late (inr (inl s)) = ap is_before_run s.0
said_late err message wanted answer late (inr (inr s)) = ap is_before_run s.0

pub end_late : (x : End) → is_before_run (status_at x) ≡ false
end_late end.Done = refl
end_late (end.Uncaught text) = refl
end_late (end.Stopped kind) = refl
end_late (end.Undefined function statement) = refl

pub not_early : {A : Type 0} (answer : Status) → is_before_run answer ≡ false → is_before_run answer ≡ true → A
not_early answer late early = absurd (let e : true ≡ false = sym early ∙ late in cc)

module _ (bytes left : List ℕ) (steps : ℕ) (input out err : Stream) (p : program.CProgram) (short : length bytes ≤ 1073741824) (is_text : IsText bytes p) (given : IfSome input.before (λ told. told ≡ left)) where
  abbrev Written : Status → Type 0
  Written answer = Writes (RunDue bytes left steps input) (RunPart bytes left steps) out err answer

  ended : (answer : Status) → Written answer → RunEnds bytes steps input out err answer
  ended answer w = record { left = left; given = given; writes = w }

  is_run : (r : Run) → r ≡ c_run table_rules p left steps → IsRun bytes left steps r
  is_run r e = record { program = p; is_text = is_text; is = e }

  ran : (r : Run) → r ≡ c_run table_rules p left steps → Ran bytes left steps (status_of r) (printed_by r) (message_of r)
  ran r e = record { short = short; run = r; is_run = is_run r e; status = refl; printed = refl; message = refl }

  whole : (r : Run) → r ≡ c_run table_rules p left steps → RunPart bytes left steps (printed_by r)
  whole r e = inr (record { run = r; is_run = is_run r e; front = prefix_refl (printed_by r) })

  module _ (heard : input.faults_after ≡ input.faults) where
    ran_due : (r : Run) → r ≡ c_run table_rules p left steps → RunDue bytes left steps input (status_of r) (printed_by r) (message_of r)
    ran_due (Going printed) e = (ran (Going printed) e, heard)
    ran_due (Ended printed end.Done) e = (ran (Ended printed end.Done) e, heard)
    ran_due (Ended printed (end.Uncaught text)) e = (ran (Ended printed (end.Uncaught text)) e, heard)
    ran_due (Ended printed (end.Stopped kind)) e = (ran (Ended printed (end.Stopped kind)) e, heard)
    ran_due (Ended printed (end.Undefined function statement)) e = (ran (Ended printed (end.Undefined function statement)) e, heard)

    said_run : (r : Run) (wanted answer : Status) → (Wrote (RunDue bytes left steps input) out err wanted → Written wanted) → r ≡ c_run table_rules p left steps → status_of r ≡ wanted → Adds out.before out.after (printed_by r) → out.faults_after ≡ out.faults
        → Said err (message_of r) wanted answer → RunEnds bytes steps input out err answer
    said_run r wanted answer k e is held faults said =
        ended answer (said_behind (RunDue bytes left steps input) (RunPart bytes left steps) out err (printed_by r) (message_of r) wanted answer k (record { held = held; faults = faults }) (whole r e)
        (subst (λ a. RunDue bytes left steps input a (printed_by r) (message_of r)) is (ran_due r e)) said)

    -- no end within the steps
    pub more_ends : (answer : Status) (printed : List ℕ) → c_run table_rules p left steps ≡ Going printed → Adds out.before out.after printed → out.faults_after ≡ out.faults → Said err steps_text status.Steps answer → RunEnds bytes steps input out err answer
    more_ends answer printed e held faults said = said_run (Going printed) status.Steps answer (λ w. w) (sym e) refl held faults said

    -- an end
    pub ended_ends : (answer : Status) (printed : List ℕ) (x : End) → c_run table_rules p left steps ≡ Ended printed x → Adds out.before out.after printed → out.faults_after ≡ out.faults → Said err (message_at x) (status_at x) answer → RunEnds bytes steps input out err answer
    ended_ends answer printed end.Done e held faults said = said_run (Ended printed end.Done) status.Done answer (λ w. w) (sym e) refl held faults said
    ended_ends answer printed (end.Uncaught text) e held faults said = said_run (Ended printed (end.Uncaught text)) status.Uncaught answer (λ w. w) (sym e) refl held faults said
    ended_ends answer printed (end.Stopped kind) e held faults said = said_run (Ended printed (end.Stopped kind)) status.Stopped answer (λ w. w) (sym e) refl held faults said
    ended_ends answer printed (end.Undefined function statement) e held faults said = said_run (Ended printed (end.Undefined function statement)) status.Undefined answer (λ w. w) (sym e) refl held faults said

    -- the output failed
    pub fault_ends : (r : Run) → r ≡ c_run table_rules p left steps → AddsFront out.before out.after (printed_by r) → Faulted out.faults out.faults_after → Stays err → RunEnds bytes steps input out err status.WriteFault
    fault_ends r e front faults stays =
        ended status.WriteFault (record { answer = status_of r; text = printed_by r; message = message_of r; is_due = ran_due r e; which = inl (record { held = front; faults = faults }, stays) })

  -- memory was wanting
  wanted : (r : Run) → r ≡ c_run table_rules p left steps → AddsFront out.before out.after (printed_by r) → out.faults_after ≡ out.faults → Stays err → Written status.Memory
  wanted r e front faults stays = record {
    text = front.0;
    is_part = inr (record { run = r; is_run = is_run r e; front = record { rest = front.1; is = front.2 } });
    got = record { held = front.3; faults = faults };
    err_stays = stays;
  }

  pub memory_ends : (r : Run) → r ≡ c_run table_rules p left steps → AddsFront out.before out.after (printed_by r) → out.faults_after ≡ out.faults → Stays err → RunEnds bytes steps input out err status.Memory
  memory_ends r e front faults stays = ended status.Memory (wanted r e front faults stays)

  -- the input failed
  pub read_ends : (answer : Status) (printed front rest : List ℕ) → IfSome input.before (λ told. input.after ≡ Some rest) → AsksLast p left steps printed front [] rest → Faulted input.faults input.faults_after → Adds out.before out.after printed
      → AddsFront out.before out.after (printed_by (c_run table_rules p left steps)) → out.faults_after ≡ out.faults → Said err read_fault_text status.ReadFault answer → RunEnds bytes steps input out err answer
  read_ends answer printed front rest is_left last rose held some faults said = ended answer (go said)
    where
      due : RunDue bytes left steps input status.ReadFault printed read_fault_text
      due = record { short = short; program = p; is_text = is_text; front = front; rest = rest; is_left = is_left; last = last; says = refl; faults = rose }

      got : Got out printed
      got = record { held = held; faults = faults }

      go : Said err read_fault_text status.ReadFault answer → Written answer
      go (inl s) = subst Written (sym s.0) (record { text = printed; message = read_fault_text; is_due = due; got = got; told = s.1 })
      go (inr (inl s)) = subst Written (sym s.0) (record { answer = status.ReadFault; text = printed; message = read_fault_text; is_due = due; which = inr (got, s.1) })
      go (inr (inr s)) = subst Written (sym s.0) (wanted (c_run table_rules p left steps) refl some faults s.1)
