-- Runs of scripts: the built-in text as a module, then the script, and the text of what nothing caught.
use Rattle.std.specs.Prelude.{ℕ, zero, List, [], ◌∷◌, ◌++◌, Option, Some, None, false, nat_lt, length, if◌then◌else◌, codes, slice_get}
use Rattle.nu_run.specs.declared.End as run_end
use Rattle.nu_run.specs.declared.End.TheVariants as end
use Rattle.nu_run.specs.Runs.{Run}
use Rattle.nu_value.specs.declared.header.Header.{Header}
use Rattle.nu_value.specs.declared.object.Object.{Object}
use Rattle.nu_value.specs.declared.object.Object.TheVariants as object
use Rattle.nu_value.specs.declared.value.Value.{Value}
use Rattle.nu_value.specs.declared.value.Value.TheVariants as value
use Rattle.op_forms.specs.declared.end.After.TheVariants as after
use Rattle.nu_value.specs.Names.{value_at}
use Rattle.op_forms.specs.declared.world.World.{World}
use Rattle.op_forms.specs.Answers.{names_of}
use Rattle.nu_rows.specs.Rows.{End, Next, Raised, Return, Stopped, Undefined, Effect, Row, Act, Then, Sub, Entry, Instead}
use Rattle.nu_rows.specs.Words.{ends_with, on_next, quiet}
use Rattle.nu_rows.specs.Driver.{main_run}
use Rattle.nu_calls.specs.Surroundings.{scene, with_scene, with_frames}
use Rattle.nu_calls.specs.Ends.{Begun, Over, Calls, Began, begun_by}
use Rattle.nu_calls.specs.Calls.{State, state_of, in_scene, Language, end_of, unsaid, given_back, enters, calls}
use Rattle.nu_calls.specs.Traceback.{head_text, tail_text}

-- the built-in function that gives the text of an exception, if there is one
abbrev pub report_function : World → Option Value
report_function w = value_at (names_of (slice_get w.heap w.builtins)) (codes "_nu_report")

-- it is called, if it can be; it is no generator
abbrev pub report_entry : {F I : Type 0} → Language F I → State F → Begun → Entry (State F) I
report_entry l s (Over out r) = Instead (record { out = out; state = s; end = end_of r })
report_entry l s (Calls code given cells after) = calls l s code after (l.frame false code given cells)
report_entry l s other = Instead (unsaid s)

abbrev pub report_began : {F I : Type 0} → Language F I → State F → Began → Entry (State F) I
report_began l s b = report_entry l (in_scene s b.scene) b.begun

-- this object, which the name is bound to, is asked if it is a function
abbrev pub asks_function : {F I : Type 0} → Language F I → State F → ℕ → ℕ → Option Object → Entry (State F) I
asks_function l s e f (Some (object.Function code defaults keywords cells)) =
    report_began l s (begun_by l.scripts (scene s.around) (l.rules.bind s.around.world f (value.Obj e ∷ []) after.Plain))
asks_function l s e f other = Instead (quiet s)

abbrev pub asks_report : {F I : Type 0} → Language F I → State F → ℕ → Option Value → Entry (State F) I
asks_report l s e (Some (value.Obj f)) = asks_function l s e f (slice_get s.around.world.heap f)
asks_report l s e other = Instead (quiet s)

-- the text of an exception is what that function gives of it, and nothing where it gives no text
abbrev pub report : {F I : Type 0} → Language F I → ℕ → State F → Entry (State F) I
report l e s = asks_report l s e (report_function s.around.world)

abbrev pub whole_text : List ℕ → List ℕ → End
whole_text head text = Return (value.Str (head ++ tail_text text))

-- the run ends by a Return of the whole text
abbrev pub reported : List ℕ → End → End
reported head (Next (value.Str text)) = whole_text head text
reported head (Next v) = whole_text head []
reported head (Raised e) = whole_text head []
reported head (Stopped kind) = Stopped kind
reported head other = Undefined

-- nothing caught an exception: its entries are fixed once no frame is live
abbrev pub fixes : {F : Type 0} → List ℕ → ℕ → State F → Effect (State F)
fixes file e s = record { out = []; state = in_scene s (with_frames (scene s.around) 0); end = Next (value.Str (head_text file s.around.world.heap e)) }

abbrev pub reports : {F I : Type 0} → Language F I → ℕ → End → Row (State F) I
reports l e (Next (value.Str head)) = Then (Sub (report l e)) (λ x. ends_with (reported head x))
reports l e other = ends_with Undefined

abbrev pub uncaught : {F I : Type 0} → Language F I → List ℕ → ℕ → Row (State F) I
uncaught l file e = Then (Act (fixes file e)) (reports l e)

-- a program: its language, the rows of its items and of the bodies of its codes, a frame before all codes, and the
-- headers of the codes, of which the first is the script's module
pub record Program (F I : Type 0) : Type 0 where
  pub language : Language F I
  pub rows : I → Row (State F) I
  pub body : ℕ → Row (State F) I
  pub blank : F
  pub headers : List Header

-- a module's code begins, without values
abbrev pub module_begun : {F I : Type 0} → Language F I → ℕ → State F → Option F → Effect (State F)
module_begun l code s (Some f) = quiet (enters l (with_scene s.around (with_frames (scene s.around) 0)) code f)
module_begun l code s None = unsaid s

abbrev pub module_ended : {F I : Type 0} → Language F I → List ℕ → Row (State F) I → End → Row (State F) I
module_ended l file next (Next v) = next
module_ended l file next (Return v) = next
module_ended l file next (Raised e) = uncaught l file e
module_ended l file next (Stopped kind) = ends_with (Stopped kind)
module_ended l file next other = ends_with Undefined

-- the code of a module, and what follows it
abbrev pub module_row : {F I : Type 0} → Program F I → List ℕ → ℕ → Row (State F) I → Row (State F) I
module_row p file code next =
    Then (Then (Act (λ s. module_begun p.language code s (p.language.frame false code [] []))) (on_next (λ v. p.body code))) (λ e. module_ended p.language file next (given_back e))

-- the script is code 0; the module of the built-in text, if there is one, stands behind the script's codes, and runs first
abbrev pub script_row : {F I : Type 0} → Program F I → List ℕ → Row (State F) I
script_row p file = module_row p file 0 (ends_with (Next value.None))

abbrev pub main_row : {F I : Type 0} → Program F I → List ℕ → Row (State F) I
main_row p file =
    if nat_lt 0 p.language.scripts then (if nat_lt p.language.scripts (length p.headers) then module_row p file p.language.scripts (script_row p file) else script_row p file) else ends_with Undefined

-- how a run shows the end of the main row
abbrev pub shows : {F : Type 0} → End → State F → run_end.End
shows (Next v) s = end.Done
shows (Return (value.Str text)) s = end.Uncaught text
shows (Stopped kind) s = end.Stopped kind
shows other s = end.Undefined zero zero

-- the start, over an input
abbrev pub start_state : {F I : Type 0} → Program F I → List ℕ → State F
start_state p input = state_of p.blank (record { world = p.language.rules.start p.headers; kept = []; input = input; frames = 0 })

-- the run of a program of this file name over an input
abbrev pub program_run : {F I : Type 0} → Program F I → List ℕ → List ℕ → ℕ → Run
program_run p file input = main_run p.rows shows (main_row p file) (start_state p input)
