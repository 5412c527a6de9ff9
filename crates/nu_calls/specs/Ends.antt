-- What the end of an operation does, in every meaning: at once, or by a body that it begins. And what the code that began
-- a body has of how it ended (reference, sections 6.2.9.1 and 6.3.4; PEP 380, PEP 479).
use Rattle.std.specs.Prelude.{ℕ, ◌+◌, ◌-◌, List, [], ◌∷◌, Option, Some, None, Bool, true, false, ◌&&◌, nat_le, nat_lt, if◌then◌else◌, slice_get, slice_set, codes}
use Rattle.nu_run.specs.declared.StopKind.{StopKind}
use Rattle.nu_run.specs.declared.StopKind.TheVariants as stop
use Rattle.nu_value.specs.declared.header.Header.{Header}
use Rattle.nu_value.specs.declared.natives.Native.TheVariants as native
use Rattle.nu_value.specs.declared.object.GenState.{GenState}
use Rattle.nu_value.specs.declared.object.GenState.TheVariants as gen
use Rattle.nu_value.specs.declared.object.Object.{Object}
use Rattle.nu_value.specs.declared.object.Object.TheVariants as object
use Rattle.nu_value.specs.declared.value.Value.{Value}
use Rattle.nu_value.specs.declared.value.Value.TheVariants as value
use Rattle.op_forms.specs.declared.end.After.{After}
use Rattle.op_forms.specs.declared.end.How as op_how
use Rattle.op_forms.specs.declared.end.How.TheVariants as how
use Rattle.op_forms.specs.declared.end.OpEnd.{OpEnd}
use Rattle.op_forms.specs.declared.end.OpEnd.TheVariants as opend
use Rattle.op_forms.specs.declared.world.World.{World}
use Rattle.nu_rows.specs.Rows.{End, Next, Leave, Raised, Return, Stopped, Undefined, How, Send, Throw}
use Rattle.op_forms.specs.Answers.{Answer}
use Rattle.op_forms.specs.Rules.{Rules}
use Rattle.nu_calls.specs.Surroundings.{Scene, with_world, with_heap, with_input, with_frames}
use Rattle.nu_calls.specs.Exceptions.{Thrown, class_number, exception_made, with_entry, is_kind}
use Rattle.nu_calls.specs.Lines.{NextLine, ALine, NoLine, BadLine, line_of}

-- the classes that are spoken of here
abbrev pub generator_exit : ℕ
generator_exit = class_number native.GeneratorExit

abbrev pub runtime_error : ℕ
runtime_error = class_number native.RuntimeError

abbrev pub stop_iteration : ℕ
stop_iteration = class_number native.StopIteration

abbrev pub type_error : ℕ
type_error = class_number native.TypeError

abbrev pub value_error : ℕ
value_error = class_number native.ValueError

-- how an operation ends for its code: with a value, an exception or a stop, or nothing is said
pub data Result : Type 0 where
  Gives : (v : Value) → Result
  Raises : (exception : ℕ) → Result
  Stops : (kind : StopKind) → Result
  Unsaid : Result

-- with the scene then
pub record Ending : Type 0 where
  pub scene : Scene
  pub result : Result

-- what an operation begins: nothing more; the body of a code, called with values for its parameters and free cells; a
-- generator of a code that hasn't begun, or a paused one. `closing` says whether it is being closed
pub data Begun : Type 0 where
  Over : (out : List ℕ) (result : Result) → Begun
  Calls : (code : ℕ) (given cells : List Value) (after : After) → Begun
  Starts : (generator code : ℕ) (given cells : List Value) → Begun
  Wakes : (generator : ℕ) (how : How) (closing : Bool) → Begun

pub record Began : Type 0 where
  pub scene : Scene
  pub begun : Begun

abbrev pub ending : Scene → Result → Ending
ending a r = record { scene = a; result = r }

abbrev pub over : Ending → Began
over x = record { scene = x.scene; begun = Over [] x.result }

abbrev pub raised : Scene → Thrown → Ending
raised a made = ending (with_heap a made.heap) (Raises made.exception)

-- a new exception is raised, or one that is there
abbrev pub raises : Scene → ℕ → List Value → Ending
raises a class args = raised a (exception_made class args a.world.heap)

abbrev pub raises_text : Scene → ℕ → List ℕ → Ending
raises_text a class text = raises a class (value.Str text ∷ [])

-- 1,000 frames are live
abbrev pub is_full : Scene → Bool
is_full a = nat_le 1000 a.frames

-- a body begins, unless 1,000 frames are live
abbrev pub begins : Scene → Began → Began
begins a b = if is_full a then over (ending a (Stops stop.Depth)) else b

-- a generator's state is another
abbrev pub state_set : List Object → ℕ → GenState → Option Object → List Object
state_set h g state (Some (object.Generator code old given cells)) = slice_set h g (object.Generator code state given cells)
state_set h g state other = h

abbrev pub with_state : Scene → ℕ → GenState → Scene
with_state a g state = with_heap a (state_set a.world.heap g state (slice_get a.world.heap g))

-- a StopIteration with the value that a generator returned, or without argument for None
abbrev pub returned : Scene → Value → Ending
returned a value.None = raises a stop_iteration []
returned a v = raises a stop_iteration (v ∷ [])

-- an exception leaves a generator's body
abbrev pub left_body : Scene → Bool → ℕ → Ending
left_body a closing e =
    if is_kind a.world.heap e stop_iteration then raises_text a runtime_error (codes "generator raised StopIteration")
    else if closing && is_kind a.world.heap e generator_exit then ending a (Gives value.None)
    else ending a (Raises e)

-- what the code that resumed a generator has of its value, where it is over
abbrev pub generator_gave : Scene → Bool → Value → Ending
generator_gave a true v = ending a (Gives value.None)
generator_gave a false v = returned a v

-- a generator's body ended so
abbrev pub ended_body : Scene → Bool → End → Ending
ended_body a closing (Next v) = generator_gave a closing value.None
ended_body a closing (Return v) = generator_gave a closing v
ended_body a closing (Raised e) = left_body a closing e
ended_body a closing (Stopped kind) = ending a (Stops kind)
ended_body a closing (Leave n) = ending a Unsaid
ended_body a closing Undefined = ending a Unsaid

abbrev pub generator_ended : Scene → ℕ → Bool → End → Ending
generator_ended a g closing e = ended_body (with_state a g gen.Over) closing e

-- a generator's body paused with a value
abbrev pub paused_with : Scene → Bool → Value → Ending
paused_with a true v = raises_text a runtime_error (codes "generator ignored GeneratorExit")
paused_with a false v = ending a (Gives v)

abbrev pub generator_paused : Scene → ℕ → Bool → Value → Ending
generator_paused a g closing v = paused_with (with_state a g gen.Paused) closing v

-- an end that an operation reaches at once
abbrev pub at_once : Scene → OpEnd → Ending
at_once a (opend.Give v) = ending a (Gives v)
at_once a (opend.Raise n args) = raises a n args
at_once a (opend.Stop kind) = ending a (Stops kind)
at_once a other = ending a Unsaid

abbrev pub answered : Scene → Answer → Ending
answered a x = at_once (with_heap a x.heap) x.end

-- a called body ended; what the code that called it has of that
abbrev pub call_ended : Rules → After → Scene → End → Ending
call_ended rules after a (Next v) = answered a (rules.finish after a.world value.None)
call_ended rules after a (Return v) = answered a (rules.finish after a.world v)
call_ended rules after a (Raised e) = ending a (Raises e)
call_ended rules after a (Stopped kind) = ending a (Stops kind)
call_ended rules after a (Leave n) = ending a Unsaid
call_ended rules after a Undefined = ending a Unsaid

-- the names that the scopes of a code look up: those of the script's module for the first codes, else the built-in ones
abbrev pub module_of : Rules → ℕ → World → ℕ → ℕ
module_of rules scripts w code = if nat_lt code scripts then (rules.start w.codes).«module» else w.builtins

abbrev pub world_of : Rules → ℕ → World → ℕ → World
world_of rules scripts w code = record { heap = w.heap; «module» = module_of rules scripts w code; builtins = w.builtins; codes = w.codes }

-- the scene of a body of a code that begins: one more frame is live, and the names are those of its module
abbrev pub inside : Rules → ℕ → Scene → ℕ → Scene
inside rules scripts a code = with_frames (with_world a (world_of rules scripts a.world code)) (a.frames + 1)

-- and of the code that began it, once it has stopped
abbrev pub outside : Rules → ℕ → Scene → ℕ → Scene
outside rules scripts a code = with_frames (with_world a (world_of rules scripts a.world code)) (a.frames - 1)

abbrev pub in_scope : Bool → Scene → Option Header → ℕ → ℕ → Scene
in_scope built_in a (Some header) line e = with_heap a (with_entry built_in line header.scope e a.world.heap)
in_scope built_in a None line e = a

-- an entry of this line in a code's scope in front of an exception's; codes of the built-in text put none
abbrev pub at_line : ℕ → Scene → ℕ → ℕ → ℕ → Scene
at_line scripts a code line e = in_scope (nat_le scripts code) a (slice_get a.world.codes code) line e

abbrev pub first_line : Option Header → ℕ
first_line (Some header) = header.line
first_line None = 0

-- an exception that is thrown into a generator that hasn't begun leaves its body on its first line
abbrev pub thrown_fresh : ℕ → Scene → ℕ → ℕ → ℕ → Ending
thrown_fresh scripts a g code e =
    generator_ended (at_line scripts a code (first_line (slice_get a.world.codes code)) e) g false (Raised e)

-- a generator that hasn't begun is resumed
abbrev pub fresh_resumed : ℕ → Scene → ℕ → ℕ → List Value → List Value → op_how.How → Began
fresh_resumed scripts a g code given cells (how.Send value.None) =
    begins a (record { scene = with_state a g gen.Running; begun = Starts g code given cells })
fresh_resumed scripts a g code given cells (how.Send v) =
    over (raises_text a type_error (codes "can't send non-None value to a just-started generator"))
fresh_resumed scripts a g code given cells (how.Throw e) = begins a (over (thrown_fresh scripts a g code e))
fresh_resumed scripts a g code given cells how.Close = over (ending (with_state a g gen.Over) (Gives value.None))

-- a paused generator goes on
abbrev pub wakes : Scene → ℕ → How → Bool → Began
wakes a g h closing = record { scene = with_state a g gen.Running; begun = Wakes g h closing }

abbrev pub closes : Scene → ℕ → Thrown → Began
closes a g made = wakes (with_heap a made.heap) g (Throw made.exception) true

abbrev pub paused_resumed : Scene → ℕ → op_how.How → Began
paused_resumed a g (how.Send v) = begins a (wakes a g (Send v) false)
paused_resumed a g (how.Throw e) = begins a (wakes a g (Throw e) false)
paused_resumed a g how.Close = begins a (closes a g (exception_made generator_exit [] a.world.heap))

abbrev pub over_resumed : Scene → op_how.How → Ending
over_resumed a (how.Send v) = raises a stop_iteration []
over_resumed a (how.Throw e) = ending a (Raises e)
over_resumed a how.Close = ending a (Gives value.None)

-- a generator is resumed
abbrev pub resumed : ℕ → Scene → ℕ → Option Object → op_how.How → Began
resumed scripts a g (Some (object.Generator code gen.Running given cells)) h =
    over (raises_text a value_error (codes "generator already executing"))
resumed scripts a g (Some (object.Generator code gen.Fresh given cells)) h = fresh_resumed scripts a g code given cells h
resumed scripts a g (Some (object.Generator code gen.Paused given cells)) h = paused_resumed a g h
resumed scripts a g (Some (object.Generator code gen.Over given cells)) h = over (over_resumed a h)
resumed scripts a g other h = over (ending a Unsaid)

-- a function is asked that is bound already
abbrev pub asked : Scene → Option Object → List Value → After → Began
asked a (Some (object.Function code defaults keywords cells)) given after =
    begins a (record { scene = a; begun = Calls code given cells after })
asked a other given after = over (ending a Unsaid)

abbrev pub line_read : Scene → NextLine → Ending
line_read a (ALine text rest) = ending (with_input a rest) (Gives (value.Str text))
line_read a NoLine = ending a (Gives value.None)
line_read a BadLine = ending a (Stops stop.Line)

-- an end of an operation, with the scene then
abbrev pub begun : ℕ → Scene → OpEnd → Began
begun scripts a (opend.Put text) = record { scene = a; begun = Over text (Gives value.None) }
begun scripts a opend.Line = over (line_read a (line_of a.input))
begun scripts a (opend.Ask f given names after) = asked a (slice_get a.world.heap f) given after
begun scripts a (opend.Resume g h) = resumed scripts a g (slice_get a.world.heap g) h
begun scripts a other = over (at_once a other)

abbrev pub begun_by : ℕ → Scene → Answer → Began
begun_by scripts a x = begun scripts (with_heap a x.heap) x.end
