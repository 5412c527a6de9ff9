-- What a call owes its caller: the status, and what it writes to the output and to the error output.
use Rattle.std.specs.Prelude.{◌≡◌, ℕ, ◌<◌, ◌≤◌, ◌⊎◌, List, [], ◌++◌, length, Option, Some, None, codes, decimal}
use Rattle.nu_run.specs.declared.StopKind.{StopKind}
use Rattle.nu_run.specs.declared.StopKind.TheVariants as stop
use Rattle.nu_run.specs.declared.End.{End}
use Rattle.nu_run.specs.declared.End.TheVariants as end
use Rattle.nu_run.specs.Runs.{Run, Going, Ended, printed_by, IsPrefix}
use Rattle.py_ast.specs.declared.scoped.Scoped.{Scoped}
use Rattle.c_meaning.specs.declared.program.CProgram as program
use Rattle.c_meaning.specs.Written.{IsText}
use Rattle.op_rules.specs.TableRules.{table_rules}
use Rattle.c_meaning.specs.Run.{c_run}
use Rattle.nuit_lib.specs.declared.status.Status.{Status}
use Rattle.nuit_lib.specs.declared.status.Status.TheVariants as status
use Rattle.nuit_lib.specs.Words.{Command, BuildFile, RunFile}
use Rattle.nuit_lib.specs.declared.refusal.Kind.{Kind}
use Rattle.nuit_lib.specs.declared.refusal.Kind.TheVariants as kind
use Rattle.nuit_lib.specs.Compiled.{IsProgramOf}
use Rattle.nuit_lib.specs.Scripts.{IsScript, Accepted}
use Rattle.nuit_lib.specs.Refusals.{IsRefused}

abbrev pub usage_text : List ℕ
usage_text = codes "nuit: usage: tree FILE, build FILE, run FILE [STEPS], sample N\n"

abbrev pub missing_text : List ℕ
missing_text = codes "nuit: no such file\n"

abbrev pub too_large_text : List ℕ
too_large_text = codes "nuit: too large\n"

abbrev pub read_fault_text : List ℕ
read_fault_text = codes "nuit: read fault\n"

abbrev pub not_c_text : ℕ → List ℕ
not_c_text line = codes "nuit: not C, line " ++ (decimal line ++ codes "\n")

abbrev pub steps_text : List ℕ
steps_text = codes "nuit: steps\n"

abbrev pub stop_name : StopKind → List ℕ
stop_name stop.Int = codes "Int"
stop_name stop.Float = codes "Float"
stop_name stop.Unbuilt = codes "Unbuilt"
stop_name stop.Depth = codes "Depth"
stop_name stop.Size = codes "Size"
stop_name stop.Line = codes "Line"

abbrev pub stop_text : StopKind → List ℕ
stop_text kind = codes "nuit: stop: " ++ (stop_name kind ++ codes "\n")

abbrev pub undefined_text : ℕ → ℕ → List ℕ
undefined_text function statement = codes "nuit: undefined: function " ++ (decimal function ++ (codes ", statement " ++ (decimal statement ++ codes "\n")))

abbrev pub kind_name : Kind → List ℕ
kind_name kind.Utf8 = codes "Utf8"
kind_name kind.Token = codes "Token"
kind_name kind.Indent = codes "Indent"
kind_name kind.Number = codes "Number"
kind_name kind.Depth = codes "Depth"
kind_name kind.Grammar = codes "Grammar"
kind_name kind.Target = codes "Target"
kind_name kind.Loop = codes "Loop"
kind_name kind.Function = codes "Function"
kind_name kind.Declare = codes "Declare"
kind_name kind.Name = codes "Name"
kind_name kind.Raise = codes "Raise"
kind_name kind.Repeat = codes "Repeat"
kind_name kind.Unbuilt = codes "Unbuilt"

abbrev pub refused_text : Kind → ℕ → List ℕ
refused_text kind line = codes "nuit: refused: " ++ (kind_name kind ++ (codes ", line " ++ (decimal line ++ codes "\n")))

-- the text is that of a program that does, over every input, what a script of this name and these bytes does
pub record IsBuilt (name bytes text : List ℕ) : Type 0 where
  pub program : program.CProgram
  pub is_text : IsText text program
  pub is : (s : Scoped) → IsScript bytes s → IsProgramOf name s program

-- nothing is written to the output, and this to the error output
pub record Says (message out err : List ℕ) : Type 0 where
  pub silent : out ≡ []
  pub said : err ≡ message

-- building a file of this name and these bytes
abbrev pub BuildReply : List ℕ → List ℕ → Status → List ℕ → List ℕ → Type 0
BuildReply name bytes status.Done out err = Accepted bytes × IsBuilt name bytes out × (err ≡ [])
BuildReply name bytes status.Refused out err = (length bytes ≤ 262144) × (kind : Kind) × (line : ℕ) × IsRefused bytes kind line × Says (refused_text kind line) out err
BuildReply name bytes status.TooLarge out err = (262144 < length bytes) × Says too_large_text out err
BuildReply name bytes other out err = ⊥

-- the status and the message of an end
abbrev pub status_at : End → Status
status_at end.Done = status.Done
status_at (end.Uncaught text) = status.Uncaught
status_at (end.Stopped kind) = status.Stopped
status_at (end.Undefined function statement) = status.Undefined

abbrev pub message_at : End → List ℕ
message_at end.Done = []
message_at (end.Uncaught text) = text
message_at (end.Stopped kind) = stop_text kind
message_at (end.Undefined function statement) = undefined_text function statement

-- the status and the message of a run, as far as it came
abbrev pub status_of : Run → Status
status_of (Going printed) = status.Steps
status_of (Ended printed e) = status_at e

abbrev pub message_of : Run → List ℕ
message_of (Going printed) = steps_text
message_of (Ended printed e) = message_at e

-- the bytes are the text of a program, and this is its run over an input within so many steps
pub record IsRun (bytes input : List ℕ) (steps : ℕ) (r : Run) : Type 0 where
  pub program : program.CProgram
  pub is_text : IsText bytes program
  pub is : r ≡ c_run table_rules program input steps

-- all that a run printed, with its status and message
pub record Ran (bytes input : List ℕ) (steps : ℕ) (answer : Status) (out err : List ℕ) : Type 0 where
  pub short : length bytes ≤ 1073741824
  pub run : Run
  pub is_run : IsRun bytes input steps run
  pub status : answer ≡ status_of run
  pub printed : out ≡ printed_by run
  pub message : err ≡ message_of run

-- a front of what a run printed, possibly nothing
pub record RunFront (bytes input : List ℕ) (steps : ℕ) (text : List ℕ) : Type 0 where
  pub run : Run
  pub is_run : IsRun bytes input steps run
  pub front : IsPrefix text (printed_by run)

-- what running may have written where memory was wanting: nothing, or such a front
abbrev pub RunPart : List ℕ → List ℕ → ℕ → List ℕ → Type 0
RunPart bytes input steps text = (text ≡ []) ⊎ RunFront bytes input steps text

-- running a file of these bytes over an input
abbrev pub RunReply : List ℕ → List ℕ → ℕ → Status → List ℕ → List ℕ → Type 0
RunReply bytes input steps status.NotC out err = ((p : program.CProgram) → IsText bytes p → ⊥) × (length bytes ≤ 1073741824) × (line : ℕ) × Says (not_c_text line) out err
RunReply bytes input steps status.TooLarge out err = (1073741824 < length bytes) × Says too_large_text out err
RunReply bytes input steps answer out err = Ran bytes input steps answer out err

abbrev pub UsageReply : Status → List ℕ → List ℕ → Type 0
UsageReply status.Usage out err = Says usage_text out err
UsageReply other out err = ⊥

abbrev pub MissingReply : Status → List ℕ → List ℕ → Type 0
MissingReply status.Missing out err = Says missing_text out err
MissingReply other out err = ⊥

-- a command, where the words have one, on its file, where there is one, and on the input
abbrev pub Reply : Option Command → Option (List ℕ) → List ℕ → Status → List ℕ → List ℕ → Type 0
Reply None file input = UsageReply
Reply (Some command) None input = MissingReply
Reply (Some (BuildFile name)) (Some bytes) input = BuildReply name bytes
Reply (Some (RunFile name steps)) (Some bytes) input = RunReply bytes input steps
