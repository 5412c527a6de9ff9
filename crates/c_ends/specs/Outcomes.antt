-- How the types of this crate show what the meaning says of ends.
use Rattle.std.specs.Prelude.{◌≡◌, ℕ, List, [], ◌∷◌, Option, Some, None, Bool, true, false, nat_le}
use Rattle.nu_value.specs.declared.entries.Entry.{Entry}
use Rattle.nu_value.specs.declared.object.GenState.{GenState}
use Rattle.nu_value.specs.declared.object.Object.{Object}
use Rattle.nu_value.specs.declared.object.Object.TheVariants as object
use Rattle.nu_value.specs.declared.value.Value.{Value}
use Rattle.nu_value.specs.declared.value.Value.TheVariants as value
use Rattle.op_forms.specs.declared.end.After.{After}
use Rattle.op_forms.specs.declared.end.After.TheVariants as after
use Rattle.op_forms.specs.declared.end.OpEnd.{OpEnd}
use Rattle.op_forms.specs.declared.end.OpEnd.TheVariants as opend
use Rattle.op_forms.specs.declared.world.World.{World}
use Rattle.nu_rows.specs.Rows.{End, Raised, Return, How, Send, Throw}
use Rattle.nu_calls.specs.Surroundings.{Scene}
use Rattle.nu_calls.specs.Ends as ends
use Rattle.c_meaning.specs.declared.state.Told.{Told}
use Rattle.c_meaning.specs.declared.state.Told.TheVariants as told
use Rattle.c_ends.specs.declared.outcome.Begun.{Begun}
use Rattle.c_ends.specs.declared.outcome.Begun.TheVariants as begun
use Rattle.c_ends.specs.declared.outcome.BodyEnd.{BodyEnd}
use Rattle.c_ends.specs.declared.outcome.BodyEnd.TheVariants as body
use Rattle.c_ends.specs.declared.outcome.Outcome.{Outcome}
use Rattle.c_ends.specs.declared.outcome.Outcome.TheVariants as outcome

-- WHAT A STATEMENT HAS OF ITS OPERATION

abbrev pub result_of : Outcome → ends.Result
result_of (outcome.Gives v) = ends.Gives v
result_of (outcome.Raises e) = ends.Raises e
result_of (outcome.Stops kind) = ends.Stops kind
result_of outcome.Unsaid = ends.Unsaid

abbrev pub is_raising : Outcome → Bool
is_raising (outcome.Raises e) = true
is_raising other = false

abbrev pub end_of : BodyEnd → End
end_of (body.Return v) = Return v
end_of (body.Raise e) = Raised e

abbrev pub is_return : BodyEnd → Bool
is_return (body.Return v) = true
is_return (body.Raise e) = false

abbrev pub way_of : Told → How
way_of (told.Sent v) = Send v
way_of (told.Thrown e) = Throw e

abbrev pub begun_of : Begun → ends.Begun
begun_of (begun.Over o) = ends.Over [] (result_of o)
begun_of (begun.Calls f given cells after) = ends.Calls f given cells after
begun_of (begun.Starts g f given cells) = ends.Starts g f given cells
begun_of (begun.Wakes g what closing) = ends.Wakes g (way_of what) closing

-- what operations see of this world, whatever input is left and however many frames are live
abbrev pub in_world : World → List ℕ → ℕ → Scene
in_world w input frames = record { world = w; input = input; frames = frames }

-- it ended so, and left this world
abbrev pub EndsAs : (Scene → ends.Ending) → World → World → Outcome → Type 0
EndsAs f old new o = (input : List ℕ) (frames : ℕ) → f (in_world old input frames) ≡ ends.ending (in_world new input frames) (result_of o)

-- it began this, and left this world; `full` says whether 1,000 frames are live
abbrev pub BeginsAs : (Scene → ends.Began) → Bool → World → World → Begun → Type 0
BeginsAs f full old new b =
    (input : List ℕ) (frames : ℕ) → nat_le 1000 frames ≡ full → f (in_world old input frames) ≡ record { scene = in_world new input frames; begun = begun_of b }

-- an end that neither prints nor reads a line
abbrev pub is_quiet : OpEnd → Bool
is_quiet (opend.Put text) = false
is_quiet opend.Line = false
is_quiet other = true

-- a value that goes on as it is
abbrev pub is_plain : After → Bool
is_plain after.Plain = true
is_plain other = false

-- PARTS OF VALUES AND OBJECTS

abbrev pub is_none : Value → Bool
is_none value.None = true
is_none other = false

abbrev pub function_parts : Option Object → Option (ℕ × List Value)
function_parts (Some (object.Function code defaults keywords cells)) = Some (code, cells)
function_parts other = None

abbrev pub state_in : Option Object → Option GenState
state_in (Some (object.Generator code state given cells)) = Some state
state_in other = None

abbrev pub generator_parts : Option Object → Option (ℕ × List Value × List Value)
generator_parts (Some (object.Generator code state given cells)) = Some (code, given, cells)
generator_parts other = None

abbrev pub in_state : GenState → Object → Object
in_state new (object.Generator code state given cells) = object.Generator code new given cells
in_state new other = other

-- an object with an entry more, if it is an exception
abbrev pub entry_in : Entry → Object → Object
entry_in entry (object.Exception class args entries fields cause) = object.Exception class args (entry ∷ entries) fields cause
entry_in entry other = other
