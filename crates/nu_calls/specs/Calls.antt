-- Operations, calls, asks and resumes as rows.
use Rattle.std.specs.Prelude.{ℕ, List, [], Option, Some, None, Bool, true, false, if◌then◌else◌}
use Rattle.nu_value.specs.declared.value.Value.{Value}
use Rattle.nu_value.specs.declared.value.Value.TheVariants as value
use Rattle.op_forms.specs.declared.end.After.{After}
use Rattle.op_forms.specs.declared.op.Op.{Op}
use Rattle.nu_rows.specs.Rows.{End, Next, Raised, Return, Stopped, Undefined, Step, How, Begin, Back, Effect, Row, Act, Yld, Then, Sub, Left, AtPause, AtEnd, Entry, Into, Instead}
use Rattle.nu_rows.specs.Words.{on_raised}
use Rattle.op_forms.specs.Rules.{Rules}
use Rattle.nu_calls.specs.Surroundings.{Surroundings, Scene, scene, with_scene, kept_at, with_kept}
use Rattle.nu_calls.specs.Ends.{Result, Gives, Raises, Stops, Unsaid, Ending, Begun, Over, Calls, Starts, Wakes, Began, begun_by, generator_paused, generator_ended, call_ended, inside, outside, at_line}

-- what a paused generator keeps: its code, the frame and the place of its pause
pub record Pause (F : Type 0) : Type 0 where
  pub code : ℕ
  pub frame : F
  pub place : List Step

-- a frame and what stands around it
pub record State (F : Type 0) : Type 0 where
  pub frame : F
  pub around : Surroundings (Pause F)

abbrev pub state_of : {F : Type 0} → F → Surroundings (Pause F) → State F
state_of f a = record { frame = f; around = a }

abbrev pub in_scene : {F : Type 0} → State F → Scene → State F
in_scene s a = state_of s.frame (with_scene s.around a)

-- whether a code is of a kind: that of a generator, or another
abbrev pub of_kind : Bool → Bool → Bool
of_kind true b = b
of_kind false true = false
of_kind false false = true

-- a language whose bodies are run by calls and resumes: the rules of its operations, how many of its codes belong to the
-- script, the item of a code's body, the frame with which a code begins, of values for its parameters and free cells,
-- and the code that a frame belongs to
pub record Language (F I : Type 0) : Type 0 where
  pub rules : Rules
  pub scripts : ℕ
  pub body : ℕ → I
  pub frame : Bool → ℕ → List Value → List Value → Option F
  pub code : F → ℕ

-- how a row ends, where an operation ends so
abbrev pub end_of : Result → End
end_of (Gives v) = Next v
end_of (Raises e) = Raised e
end_of (Stops kind) = Stopped kind
end_of Unsaid = Undefined

abbrev pub effect_of : {F : Type 0} → State F → List ℕ → Ending → Effect (State F)
effect_of s out x = record { out = out; state = in_scene s x.scene; end = end_of x.result }

-- nothing is said
abbrev pub unsaid : {F : Type 0} → State F → Effect (State F)
unsaid s = record { out = []; state = s; end = Undefined }

-- the scene of a frame's code, once a body that it began has stopped
abbrev pub back_in : {F I : Type 0} → Language F I → F → Surroundings (Pause F) → Scene
back_in l f a = outside l.rules l.scripts (scene a) (l.code f)

-- how a body ended, for what began it: nothing is said of one that gives back Unset
abbrev pub given_back : End → End
given_back (Return value.Unset) = Undefined
given_back e = e

-- a called body stopped; a pause of it means nothing
abbrev pub leave_call : {F I : Type 0} → Language F I → F → After → Left (State F) → Effect (State F)
leave_call l f after (AtPause s v place) = unsaid s
leave_call l f after (AtEnd s e) = effect_of (state_of f s.around) [] (call_ended l.rules after (back_in l f s.around) (given_back e))

-- a resumed generator stopped
abbrev pub leave_generator : {F I : Type 0} → Language F I → F → ℕ → ℕ → Bool → Left (State F) → Effect (State F)
leave_generator l f g code closing (AtPause s v place) =
    effect_of (state_of f (with_kept s.around g (Some (record { code = code; frame = s.frame; place = place })))) [] (generator_paused (back_in l f s.around) g closing v)
leave_generator l f g code closing (AtEnd s e) =
    effect_of (state_of f s.around) [] (generator_ended (back_in l f s.around) g closing (given_back e))

-- the state in which a body of a code begins or goes on
abbrev pub enters : {F I : Type 0} → Language F I → Surroundings (Pause F) → ℕ → F → State F
enters l a code f = state_of f (with_scene a (inside l.rules l.scripts (scene a) code))

-- a body begins with this frame, if it can
abbrev pub calls : {F I : Type 0} → Language F I → State F → ℕ → After → Option F → Entry (State F) I
calls l s code after None = Instead (unsaid s)
calls l s code after (Some f) = Into (l.body code) Begin (enters l s.around code f) (leave_call l s.frame after)

abbrev pub starts : {F I : Type 0} → Language F I → State F → ℕ → ℕ → Option F → Entry (State F) I
starts l s g code None = Instead (unsaid s)
starts l s g code (Some f) = Into (l.body code) Begin (enters l s.around code f) (leave_generator l s.frame g code false)

-- a generator goes on with what it kept, if it is paused
abbrev pub goes_on : {F I : Type 0} → Language F I → State F → ℕ → How → Bool → Option (Pause F) → Entry (State F) I
goes_on l s g h closing None = Instead (unsaid s)
goes_on l s g h closing (Some k) =
    Into (l.body k.code) (Back k.place h) (enters l (with_kept s.around g None) k.code k.frame) (leave_generator l s.frame g k.code closing)

-- what an operation of a frame's code begins
abbrev pub entry : {F I : Type 0} → Language F I → State F → Begun → Entry (State F) I
entry l s (Over out r) = Instead (record { out = out; state = s; end = end_of r })
entry l s (Calls code given cells after) = calls l s code after (l.frame false code given cells)
entry l s (Starts g code given cells) = starts l s g code (l.frame true code given cells)
entry l s (Wakes g h closing) = goes_on l s g h closing (kept_at s.around.kept g)

abbrev pub began : {F I : Type 0} → Language F I → State F → Began → Entry (State F) I
began l s b = entry l (in_scene s b.scene) b.begun

-- what an operation on values begins in a state; nothing is said where they don't fit
abbrev pub operates : {F I : Type 0} → Language F I → Op → List Value → State F → Entry (State F) I
operates l o args s =
    if l.rules.fits o s.around.world args then began l s (begun_by l.scripts (scene s.around) (l.rules.apply o s.around.world args)) else Instead (unsaid s)

abbrev pub operation : {F I : Type 0} → Language F I → Op → List Value → Row (State F) I
operation l o args = Sub (operates l o args)

-- an exception gets an entry of a line
abbrev pub enlisted : {F I : Type 0} → Language F I → ℕ → ℕ → State F → State F
enlisted l line e s = in_scene s (at_line l.scripts (scene s.around) (l.code s.frame) line e)

-- an exception that a row raises gets an entry of this line
abbrev pub on_line : {F I : Type 0} → Language F I → ℕ → Row (State F) I → Row (State F) I
on_line l line r = Then r (on_raised (λ e. Act (λ s. record { out = []; state = enlisted l line e s; end = Raised e })))

-- an operation of a line
abbrev pub operate : {F I : Type 0} → Language F I → ℕ → Op → List Value → Row (State F) I
operate l line o args = on_line l line (operation l o args)

-- a yield of a line: what is thrown there gets an entry
abbrev pub yields : {F I : Type 0} → Language F I → ℕ → Value → Row (State F) I
yields l line v = on_line l line (Yld v)
