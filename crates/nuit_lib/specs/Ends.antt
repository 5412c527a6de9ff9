-- How a call ends, and what it leaves.
use Rattle.std.specs.Prelude.{◌≡◌, ◌≢◌, ℕ, ◌<◌, ◌≤◌, ◌⊎◌, ◌↔◌, List, [], length, Option, Some, None, IfSome, IsSome, Bool, true, false, ⊤}
use Rattle.nu_base.specs.Outside.{Rose, Faulted, told_file, Adds, AddsFront}
use Rattle.c_input.specs.Lines.{Drains}
use Rattle.nuit_lib.specs.declared.status.Status.{Status}
use Rattle.nuit_lib.specs.declared.status.Status.TheVariants as status
use Rattle.nu_run.specs.Runs.{printed_by}
use Rattle.c_meaning.specs.declared.program.CProgram as program
use Rattle.c_meaning.specs.Written.{IsText}
use Rattle.op_rules.specs.TableRules.{table_rules}
use Rattle.c_meaning.specs.Run.{c_run}
use Rattle.nuit_lib.specs.declared.words.Verb.{Verb}
use Rattle.nuit_lib.specs.declared.words.Verb.TheVariants as verb
use Rattle.nuit_lib.specs.Words.{Command, BuildFile, RunFile, file_of, command_of}
use Rattle.nuit_lib.specs.declared.refusal.Kind.{Kind}
use Rattle.nuit_lib.specs.Scripts.{Accepted}
use Rattle.nuit_lib.specs.Refusals.{IsRefused, HasKind}
use Rattle.nuit_lib.specs.Asking.{AsksLast, TakesFew}
use Rattle.nuit_lib.specs.Replies.{Reply, RunFront, RunPart, BuildReply, RunReply, Says, IsBuilt, read_fault_text, refused_text, status_of, message_of}

-- an input or output before and after a call: what is left of it or what it holds, where it tells that, and its count of faults
pub record Stream : Type 0 where
  pub before : Option (List ℕ)
  pub after : Option (List ℕ)
  pub faults : ℕ
  pub faults_after : ℕ

-- all that a call was given and left: the words, the told files, their count of faults before and after, the input, and both outputs
pub record Call : Type 0 where
  pub words : List (List ℕ)
  pub told : Option (List ℕ → Option (List ℕ))
  pub faults : ℕ
  pub faults_after : ℕ
  pub input : Stream
  pub out : Stream
  pub err : Stream

-- an output that stays as it was
pub record Stays (s : Stream) : Type 0 where
  pub held : s.after ≡ s.before
  pub faults : s.faults_after ≡ s.faults

-- an output that got a text
pub record Got (s : Stream) (text : List ℕ) : Type 0 where
  pub held : Adds s.before s.after text
  pub faults : s.faults_after ≡ s.faults

-- an output that failed, and got a front of a text
pub record Broke (s : Stream) (text : List ℕ) : Type 0 where
  pub held : AddsFront s.before s.after text
  pub faults : Faulted s.faults s.faults_after

-- what is told of the file of a command: nothing, that there is none, or its bytes
abbrev pub told_of : Option (List ℕ → Option (List ℕ)) → Option Command → Option (Option (List ℕ))
told_of told None = None
told_of told (Some command) = told_file told (file_of command)

-- a reply to a command on the file and the input that are told
pub record Replied (c : Call) (answer : Status) (out err : List ℕ) : Type 0 where
  pub file : Option (List ℕ)
  pub is : IfSome (told_of c.told (command_of c.words)) (λ told. told ≡ file)
  pub input : List ℕ
  pub given : IfSome c.input.before (λ left. left ≡ input)
  pub reply : Reply (command_of c.words) file input answer out err
  pub faults : c.faults_after ≡ c.faults
  pub input_faults : c.input.faults_after ≡ c.input.faults

-- the file of a command, which can't be read
pub record Unread (c : Call) (out err : List ℕ) : Type 0 where
  pub command : Command
  pub is : command_of c.words ≡ Some command
  pub says : Says read_fault_text out err
  pub faults : Faulted c.faults c.faults_after
  pub input_stays : Stays c.input

-- a run over this input that was broken off where the input failed: it has printed this where it asks for a line that what was taken
-- doesn't complete
pub record BrokenOff (bytes left : List ℕ) (steps : ℕ) (input : Stream) (out err : List ℕ) : Type 0 where
  pub short : length bytes ≤ 1073741824
  pub program : program.CProgram
  pub is_text : IsText bytes program
  pub front : List ℕ
  pub rest : List ℕ
  pub is_left : IfSome input.before (λ told. input.after ≡ Some rest)
  pub last : AsksLast program left steps out front [] rest
  pub says : err ≡ read_fault_text
  pub faults : Faulted input.faults input.faults_after

-- the input of a command that runs its file, which can't be read
pub record Unheard (c : Call) (out err : List ℕ) : Type 0 where
  pub name : List ℕ
  pub steps : ℕ
  pub is : command_of c.words ≡ Some (RunFile name steps)
  pub bytes : List ℕ
  pub file : IfSome (told_file c.told name) (λ told. told ≡ Some bytes)
  pub left : List ℕ
  pub given : IfSome c.input.before (λ told. told ≡ left)
  pub broken : BrokenOff bytes left steps c.input out err
  pub faults : c.faults_after ≡ c.faults

-- what a call was to write, with its status
abbrev pub Due : Call → Status → List ℕ → List ℕ → Type 0
Due c status.ReadFault out err = Unread c out err ⊎ Unheard c out err
Due c answer out err = Replied c answer out err

-- all that was due was written
pub record Wrote (due : Status → List ℕ → List ℕ → Type 0) (out err : Stream) (answer : Status) : Type 0 where
  pub text : List ℕ
  pub message : List ℕ
  pub is_due : due answer text message
  pub got : Got out text
  pub told : Got err message

-- the output failed, or else the error output did
pub record Failed (due : Status → List ℕ → List ℕ → Type 0) (out err : Stream) : Type 0 where
  pub answer : Status
  pub text : List ℕ
  pub message : List ℕ
  pub is_due : due answer text message
  pub which : (Broke out text × Stays err) ⊎ (Got out text × Broke err message)

-- memory was wanting: what may be written then was, and no message
pub record Wanted (part : List ℕ → Type 0) (out err : Stream) : Type 0 where
  pub text : List ℕ
  pub is_part : part text
  pub got : Got out text
  pub err_stays : Stays err

-- why a call ends so, and what it leaves, where this is due, and this may be written where memory is wanting
abbrev pub Writes : (Status → List ℕ → List ℕ → Type 0) → (List ℕ → Type 0) → Stream → Stream → Status → Type 0
Writes due part out err status.WriteFault = Failed due out err
Writes due part out err status.Memory = Wanted part out err
Writes due part out err answer = Wrote due out err answer

-- nothing
abbrev pub Nothing : List ℕ → Type 0
Nothing text = text ≡ []

-- what running the told file over the told input may have written where memory was wanting
pub record Partly (c : Call) (steps : ℕ) (text : List ℕ) : Type 0 where
  pub bytes : List ℕ
  pub is : IfSome (told_of c.told (command_of c.words)) (λ told. told ≡ Some bytes)
  pub input : List ℕ
  pub given : IfSome c.input.before (λ left. left ≡ input)
  pub front : RunFront bytes input steps text

-- what a command may have written where memory was wanting
abbrev pub Part : Call → Option Command → List ℕ → Type 0
Part c None = Nothing
Part c (Some (BuildFile file)) = Nothing
Part c (Some (RunFile file steps)) = λ text. Nothing text ⊎ Partly c steps text

abbrev pub Ends : Call → Status → Type 0
Ends c = Writes (Due c) (Part c (command_of c.words)) c.out c.err

-- how many bytes a command takes at most
abbrev pub limit_of : Verb → ℕ
limit_of verb.Build = 262144
limit_of (verb.Run steps) = 1073741824

-- what a run over this input was to write, with its status
abbrev pub RunDue : List ℕ → List ℕ → ℕ → Stream → Status → List ℕ → List ℕ → Type 0
RunDue bytes left steps input status.ReadFault out err = BrokenOff bytes left steps input out err
RunDue bytes left steps input answer out err = RunReply bytes left steps answer out err × (input.faults_after ≡ input.faults)

-- how running a file of these bytes ends, over the input that is told, or some input
pub record RunEnds (bytes : List ℕ) (steps : ℕ) (input out err : Stream) (answer : Status) : Type 0 where
  pub left : List ℕ
  pub given : IfSome input.before (λ told. told ≡ left)
  pub writes : Writes (RunDue bytes left steps input) (RunPart bytes left steps) out err answer

-- how a command ends on a file of this name and these bytes
abbrev pub Performs : Verb → List ℕ → List ℕ → Stream → Stream → Stream → Status → Type 0
Performs verb.Build name bytes input out err answer = Writes (BuildReply name bytes) Nothing out err answer × Stays input
Performs (verb.Run steps) name bytes input out err answer = RunEnds bytes steps input out err answer

-- a message was written, or why it was not is the answer
abbrev pub Said : Stream → List ℕ → Status → Status → Type 0
Said err message wanted answer =
    ((answer ≡ wanted) × Got err message) ⊎ (((answer ≡ status.WriteFault) × Broke err message) ⊎ ((answer ≡ status.Memory) × Stays err))

abbrev pub stream : Option (List ℕ) → Option (List ℕ) → ℕ → ℕ → Stream
stream before after faults faults_after = record { before = before; after = after; faults = faults; faults_after = faults_after }

abbrev pub call_of : List (List ℕ) → Option (List ℕ → Option (List ℕ)) → ℕ → ℕ → Stream → Stream → Stream → Call
call_of words told faults faults_after input out err =
    record { words = words; told = told; faults = faults; faults_after = faults_after; input = input; out = out; err = err }

-- no count of faults rose, and memory was there
pub record IsQuiet (f f' i i' o o' e e' : ℕ) (answer : Status) : Type 0 where
  pub files : Rose f f' → ⊥
  pub input : Rose i i' → ⊥
  pub out : Rose o o' → ⊥
  pub err : Rose e e' → ⊥
  pub memory : answer ≢ status.Memory

-- a file was missing, or couldn't be read, only where the words have a command with a file
abbrev pub AsksForFile : Option Command → Status → Type 0
AsksForFile command status.ReadFault = IsSome command
AsksForFile command status.Missing = IsSome command
AsksForFile command answer = ⊤

-- what is left of an input is a rest of what was told
abbrev pub TakesFront : Option (List ℕ) → Option (List ℕ) → Type 0
TakesFront before after = (taken : List ℕ) × Drains before after taken

-- What the run of a file of these bytes takes of a told input.
abbrev pub RunTakes : {A : Type 0} → List ℕ → ℕ → A → A → Option (List ℕ) → Option (List ℕ) → Type 0
RunTakes bytes steps old new before after = (left : List ℕ) (p : program.CProgram) → before ≡ Some left → IsText bytes p → TakesFew p left steps old new after

abbrev pub VerbTakes : {A : Type 0} → Verb → List ℕ → A → A → Option (List ℕ) → Option (List ℕ) → Type 0
VerbTakes verb.Build bytes old new before after = ⊤
VerbTakes (verb.Run steps) bytes old new before after = RunTakes bytes steps old new before after

-- the commands that take input
abbrev pub takes_input : Option Command → Bool
takes_input (Some (RunFile file steps)) = true
takes_input other = false

-- the statuses that come before a run begins
abbrev pub is_before_run : Status → Bool
is_before_run status.Usage = true
is_before_run status.Refused = true
is_before_run status.NotC = true
is_before_run status.TooLarge = true
is_before_run status.Missing = true
is_before_run other = false

-- the count of the input's faults after a call: it never falls, and rises only where the input failed
abbrev pub CountsInput : ℕ → ℕ → Status → Type 0
CountsInput old new status.ReadFault = (new ≡ old) ⊎ Faulted old new
CountsInput old new status.WriteFault = old ≤ new
CountsInput old new status.Memory = old ≤ new
CountsInput old new answer = new ≡ old

-- a script of this kind is refused with a message that names it, with a line that belongs to it
pub record Names (kind : Kind) (bytes : List ℕ) (before after : Option (List ℕ)) : Type 0 where
  pub line : ℕ
  pub refused : IsRefused bytes kind line
  pub message : Adds before after (refused_text kind line)

-- The clause of `build FILE`, for the bytes of the file, and what the outputs held before and after.
pub record Builds (name bytes : List ℕ) (before after err_before err_after : Option (List ℕ)) (answer : Status) : Type 0 where
  pub too_large : (answer ≡ status.TooLarge) ↔ (262144 < length bytes)
  pub done : (answer ≡ status.Done) ↔ Accepted bytes
  pub refused : (answer ≡ status.Refused) ↔ ((length bytes ≤ 262144) × HasKind bytes)
  pub kind : (kind : Kind) (line : ℕ) → length bytes ≤ 262144 → IsRefused bytes kind line → Names kind bytes err_before err_after
  pub text : answer ≡ status.Done → (text : List ℕ) × Adds before after text × IsBuilt name bytes text

-- The clause of `run FILE STEPS`, for the bytes of the file and of the input, and what the outputs held before and after.
pub record Runs (bytes input : List ℕ) (steps : ℕ) (before after err_before err_after : Option (List ℕ)) (answer : Status) : Type 0 where
  pub too_large : (answer ≡ status.TooLarge) ↔ (1073741824 < length bytes)
  pub not_c : (answer ≡ status.NotC) ↔ ((length bytes ≤ 1073741824) × ((p : program.CProgram) → IsText bytes p → ⊥))
  pub ran : (p : program.CProgram) → length bytes ≤ 1073741824 → IsText bytes p
      → (answer ≡ status_of (c_run table_rules p input steps)) × Adds before after (printed_by (c_run table_rules p input steps)) × Adds err_before err_after (message_of (c_run table_rules p input steps))
