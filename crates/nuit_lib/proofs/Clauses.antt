-- The clauses of a command, from how a call ended, where no count of faults rose.
use Rattle.std.proofs.Common.{◌≡◌, ℕ, ◌≤◌, ◌⊎◌, inl, inr, List, refl, sym, ◌∙◌, ap, subst, arith, Option, Some, None, IfSome, IsSome, unwrap_or, is_some, true, false}
use Rattle.nu_run.specs.declared.End.TheVariants as end
use Rattle.nu_run.specs.Runs.{Run, Going, Ended, printed_by}
use Rattle.nu_base.specs.Outside.{Adds}
use Rattle.op_rules.specs.TableRules.{table_rules}
use Rattle.c_meaning.specs.Run.{c_run}
use Rattle.c_reader.proofs.Programs.{one_program}
use Rattle.nuit_lib.specs.declared.status.Status.{Status}
use Rattle.nuit_lib.specs.declared.status.Status.TheVariants as status
use Rattle.nuit_lib.specs.Words.{Command, BuildFile, RunFile, file_of, command_of}
use Rattle.nuit_lib.specs.Replies.{Reply, BuildReply, RunReply, Ran, status_of, message_of}
use Rattle.nuit_lib.specs.Ends.{Stream, Call, Stays, Got, Broke, CountsInput, told_of, Replied, Unread, Unheard, Ends, IsQuiet, AsksForFile, Names, Builds, Runs}
use Rattle.nuit_lib.specs.Refusals.{OneKind}
use Rattle.nuit_lib.proofs.Ending.{other}
use Rattle.nuit_lib.proofs.OneKind.{one_kind}

pub some_is : {A : Type 0} (a b : A) → Some a ≡ Some b → a ≡ b
some_is a b e = ap (λ o. unwrap_or o a) e

some_none : {A : Type 0} (a : A) → Some a ≡ None → ⊥
some_none a e = let h : true ≡ false = ap is_some e in grind (arith, h)

-- what was written
record Replies (c : Call) (answer : Status) : Type 0 where
  text : List ℕ
  message : List ℕ
  is : Replied c answer text message
  got : Got c.out text
  told : Got c.err message

abbrev Quiet : Call → Status → Type 0
Quiet c answer = IsQuiet c.faults c.faults_after c.input.faults c.input.faults_after c.out.faults c.out.faults_after c.err.faults c.err.faults_after answer

replies : (c : Call) (answer : Status) → Ends c answer → Quiet c answer → Replies c answer
replies c status.WriteFault w q = cases w.which
  where
    cases : (Broke c.out w.text × Stays c.err) ⊎ (Got c.out w.text × Broke c.err w.message) → Replies c status.WriteFault
    cases (inl b) = absurd (q.out b.0.faults.1)
    cases (inr b) = absurd (q.err b.1.faults.1)
replies c status.Memory w q = absurd (q.memory refl)
replies c status.ReadFault w q = cases w.is_due
  where
    cases : Unread c w.text w.message ⊎ Unheard c w.text w.message → Replies c status.ReadFault
    cases (inl u) = absurd (q.files u.faults.1)
    cases (inr u) = absurd (q.input u.broken.faults.1)
replies c a w q = record { text = w.text; message = w.message; is = w.is_due; got = w.got; told = w.told }

-- the statuses that a run has
abbrev IsRanStatus : Status → Type 0
IsRanStatus status.Done = Unit {0}
IsRanStatus status.Uncaught = Unit {0}
IsRanStatus status.Stopped = Unit {0}
IsRanStatus status.Steps = Unit {0}
IsRanStatus status.Undefined = Unit {0}
IsRanStatus a = ⊥

ran_status : (r : Run) → IsRanStatus (status_of r)
ran_status (Going printed) = tt
ran_status (Ended printed end.Done) = tt
ran_status (Ended printed (end.Uncaught text)) = tt
ran_status (Ended printed (end.Stopped kind)) = tt
ran_status (Ended printed (end.Undefined function statement)) = tt

ran_is : (bytes input : List ℕ) (steps : ℕ) (answer : Status) (t m : List ℕ) → Ran bytes input steps answer t m → IsRanStatus answer
ran_is bytes input steps answer t m r = subst IsRanStatus (sym r.status) (ran_status r.run)

-- a reply on the bytes of a file is neither Usage nor Missing
abbrev IsOnFile : Status → Type 0
IsOnFile status.Usage = ⊥
IsOnFile status.Missing = ⊥
IsOnFile a = Unit {0}

on_file : (command : Command) (bytes input : List ℕ) (answer : Status) (t m : List ℕ) → Reply (Some command) (Some bytes) input answer t m → IsOnFile answer
on_file (BuildFile name) bytes input status.Usage t m r = absurd r
on_file (BuildFile name) bytes input status.Missing t m r = absurd r
on_file (BuildFile name) bytes input a t m r = tt
on_file (RunFile name steps) bytes input status.Usage t m r = absurd (ran_is bytes input steps status.Usage t m r)
on_file (RunFile name steps) bytes input status.Missing t m r = absurd (ran_is bytes input steps status.Missing t m r)
on_file (RunFile name steps) bytes input a t m r = tt

-- a reply is Usage exactly where there is no command
usage_reply : (o : Option Command) (file : Option (List ℕ)) (input : List ℕ) (answer : Status) (t m : List ℕ) → Reply o file input answer t m → (answer ≡ status.Usage → o ≡ None) × (o ≡ None → answer ≡ status.Usage)
usage_reply None file input status.Usage t m r = (λ e. refl, λ e. refl)
usage_reply None file input a t m r = absurd r
usage_reply (Some command) None input status.Missing t m r = (λ e. absurd (other _ _ (λ h. omega (arith, h)) e), λ e. absurd (some_none command e))
usage_reply (Some command) None input a t m r = absurd r
usage_reply (Some command) (Some bytes) input answer t m r = (λ e. absurd (subst IsOnFile e (on_file command bytes input answer t m r)), λ e. absurd (some_none command e))

pub usage_of : (c : Call) (answer : Status) → Ends c answer → Quiet c answer → (answer ≡ status.Usage → command_of c.words ≡ None) × (command_of c.words ≡ None → answer ≡ status.Usage)
usage_of c answer w q = let r = replies c answer w q in usage_reply (command_of c.words) r.is.file r.is.input answer r.text r.message r.is.reply

-- a reply is Missing only to a command
missing_asks : (o : Option Command) (file : Option (List ℕ)) (input t m : List ℕ) → Reply o file input status.Missing t m → IsSome o
missing_asks None file input t m r = absurd r
missing_asks (Some command) file input t m r = refl

pub asks_of : (c : Call) (answer : Status) → Ends c answer → AsksForFile (command_of c.words) answer
asks_of c status.ReadFault w = cases w.is_due
  where
    cases : Unread c w.text w.message ⊎ Unheard c w.text w.message → IsSome (command_of c.words)
    cases (inl u) = ap is_some u.is
    cases (inr u) = ap is_some u.is
asks_of c status.Missing w = missing_asks (command_of c.words) w.is_due.file w.is_due.input w.text w.message w.is_due.reply
asks_of c a w = tt

-- the count of the input's faults
pub counts_of : (c : Call) (answer : Status) → Ends c answer → c.input.faults ≤ c.input.faults_after → CountsInput c.input.faults c.input.faults_after answer
counts_of c status.ReadFault w le = cases w.is_due
  where
    cases : Unread c w.text w.message ⊎ Unheard c w.text w.message → CountsInput c.input.faults c.input.faults_after status.ReadFault
    cases (inl u) = inl u.input_stays.faults
    cases (inr u) = inr u.broken.faults
counts_of c status.WriteFault w le = le
counts_of c status.Memory w le = le
counts_of c a w le = w.is_due.input_faults

-- a reply on a file is Missing exactly where there is none
missing_reply : (command : Command) (file : Option (List ℕ)) (input : List ℕ) (answer : Status) (t m : List ℕ) → Reply (Some command) file input answer t m → (answer ≡ status.Missing → file ≡ None) × (file ≡ None → answer ≡ status.Missing)
missing_reply command None input status.Missing t m r = (λ e. refl, λ e. refl)
missing_reply command None input a t m r = absurd r
missing_reply command (Some bytes) input answer t m r = (λ e. absurd (subst IsOnFile e (on_file command bytes input answer t m r)), λ e. absurd (some_none bytes e))

module _ (c : Call) (command : Command) (told : List ℕ → Option (List ℕ)) (w : command_of c.words ≡ Some command) (t : c.told ≡ Some told) where
  -- the reply to a command on what the files tell
  told_reply : (answer : Status) (text message : List ℕ) → (r : Replied c answer text message) → Reply (Some command) (told (file_of command)) r.input answer text message
  told_reply answer text message r =
      let h : IfSome (told_of (Some told) (Some command)) (λ f. f ≡ r.file) = subst (λ x. IfSome (told_of x (Some command)) (λ f. f ≡ r.file)) t (subst (λ o. IfSome (told_of c.told o) (λ f. f ≡ r.file)) w r.is) in
      subst (λ f. Reply (Some command) f r.input answer text message) (sym h) (subst (λ o. Reply o r.file r.input answer text message) w r.reply)

  pub missing_of : (answer : Status) → Ends c answer → Quiet c answer → (answer ≡ status.Missing → told (file_of command) ≡ None) × (told (file_of command) ≡ None → answer ≡ status.Missing)
  missing_of answer e q = let r = replies c answer e q in missing_reply command (told (file_of command)) r.is.input answer r.text r.message (told_reply answer r.text r.message r.is)

pub builds_of : (c : Call) (name : List ℕ) (told : List ℕ → Option (List ℕ)) → command_of c.words ≡ Some (BuildFile name) → c.told ≡ Some told → (bytes : List ℕ) (answer : Status) → told name ≡ Some bytes → Ends c answer → Quiet c answer → Builds name bytes c.out.before c.out.after c.err.before c.err.after answer
builds_of c name told w t bytes answer b e q =
    let r = replies c answer e q in
    go answer r.text r.message (subst (λ f. Reply (Some (BuildFile name)) f r.is.input answer r.text r.message) b (told_reply c (BuildFile name) told w t answer r.text r.message r.is)) r.got r.told
  where
    laws : OneKind bytes
    laws = one_kind bytes

    go : (answer : Status) (text message : List ℕ) → BuildReply name bytes answer text message → Got c.out text → Got c.err message → Builds name bytes c.out.before c.out.after c.err.before c.err.after answer
    go status.Done text message d got said = record {
      too_large = (λ e. absurd (other _ _ (λ h. omega (arith, h)) e), λ long. absurd (let short = d.0.short in omega (arith, long, short)));
      done = (λ e. d.0, λ a. refl);
      refused = (λ e. absurd (other _ _ (λ h. omega (arith, h)) e), λ r. absurd (laws.none d.0 r.1.0 r.1.1 r.1.2));
      kind = λ kind line short r. absurd (laws.none d.0 kind line r);
      text = λ e. (text, got.held, d.1);
    }
    go status.Refused text message d got said = record {
      too_large = (λ e. absurd (other _ _ (λ h. omega (arith, h)) e), λ long. absurd (let short = d.0 in omega (arith, long, short)));
      done = (λ e. absurd (other _ _ (λ h. omega (arith, h)) e), λ a. absurd (laws.none a d.1 d.2 d.3));
      refused = (λ e. (d.0, (d.1, d.2, d.3)), λ r. refl);
      kind = λ kind line short r.
          let one : d.1 ≡ kind = laws.one d.1 kind d.2 line d.3 r in
          subst (λ k. Names k bytes c.err.before c.err.after) one (record { line = d.2; refused = d.3; message = subst (Adds c.err.before c.err.after) d.4.said said.held });
      text = λ e. absurd (other _ _ (λ h. omega (arith, h)) e);
    }
    go status.TooLarge text message d got said = record {
      too_large = (λ e. d.0, λ h. refl);
      done = (λ e. absurd (other _ _ (λ h. omega (arith, h)) e), λ a. absurd (let short = a.short in let long = d.0 in omega (arith, long, short)));
      refused = (λ e. absurd (other _ _ (λ h. omega (arith, h)) e), λ r. absurd (let short = r.0 in let long = d.0 in omega (arith, long, short)));
      kind = λ kind line short r. absurd (let long = d.0 in omega (arith, long, short));
      text = λ e. absurd (other _ _ (λ h. omega (arith, h)) e);
    }
    go a text message d got said = absurd d

-- what a run wrote is its program's
ran_of : (bytes input : List ℕ) (steps : ℕ) (out err : Stream) (answer : Status) (text message : List ℕ) → Ran bytes input steps answer text message → Got out text → Got err message → Runs bytes input steps out.before out.after err.before err.after answer
ran_of bytes input steps out err answer text message d got told = record {
  too_large = (λ e. absurd (subst IsRanStatus e (ran_is bytes input steps answer text message d)), λ long. absurd (let short = d.short in omega (arith, long, short)));
  not_c = (λ e. absurd (subst IsRanStatus e (ran_is bytes input steps answer text message d)), λ r. absurd (r.1 d.is_run.program d.is_run.is_text));
  ran = λ p short is_text.
      let same : d.run ≡ c_run table_rules p input steps = d.is_run.is ∙ ap (λ x. c_run table_rules x input steps) (one_program bytes d.is_run.program p d.is_run.is_text is_text) in (
        d.status ∙ ap status_of same,
        subst (Adds out.before out.after) (d.printed ∙ ap printed_by same) got.held,
        subst (Adds err.before err.after) (d.message ∙ ap message_of same) told.held,
      );
}

pub runs_of : (c : Call) (name : List ℕ) (steps : ℕ) (told : List ℕ → Option (List ℕ)) → command_of c.words ≡ Some (RunFile name steps) → c.told ≡ Some told → (bytes input : List ℕ) (answer : Status) → told name ≡ Some bytes → c.input.before ≡ Some input → Ends c answer → Quiet c answer → Runs bytes input steps c.out.before c.out.after c.err.before c.err.after answer
runs_of c name steps told w t bytes input answer b i e q =
    let r = replies c answer e q in
    let given : r.is.input ≡ input = sym (subst (λ o. IfSome o (λ left. left ≡ r.is.input)) i r.is.given) in
    let reply = subst (λ f. Reply (Some (RunFile name steps)) f r.is.input answer r.text r.message) b (told_reply c (RunFile name steps) told w t answer r.text r.message r.is) in
    go answer r.text r.message (subst (λ x. RunReply bytes x steps answer r.text r.message) given reply) r.got r.told
  where
    go : (answer : Status) (text message : List ℕ) → RunReply bytes input steps answer text message → Got c.out text → Got c.err message → Runs bytes input steps c.out.before c.out.after c.err.before c.err.after answer
    go status.NotC text message d got told = record {
      too_large = (λ e. absurd (other _ _ (λ h. omega (arith, h)) e), λ long. absurd (let short = d.1 in omega (arith, long, short)));
      not_c = (λ e. (d.1, d.0), λ r. refl);
      ran = λ p short is_text. absurd (d.0 p is_text);
    }
    go status.TooLarge text message d got told = record {
      too_large = (λ e. d.0, λ long. refl);
      not_c = (λ e. absurd (other _ _ (λ h. omega (arith, h)) e), λ r. absurd (let short = r.0 in let long = d.0 in omega (arith, long, short)));
      ran = λ p short is_text. absurd (let long = d.0 in omega (arith, long, short));
    }
    go a text message d got told = ran_of bytes input steps c.out c.err a text message d got told
