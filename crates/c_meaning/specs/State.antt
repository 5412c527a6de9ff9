-- Where a run of a program stands, and the small changes that statements make.
use Rattle.std.specs.Prelude.{ℕ, ◌+◌, List, ◌++◌, Option, Some, None, slice_set, replicate}
use Rattle.nu_run.specs.declared.End as run_end
use Rattle.nu_run.specs.declared.End.TheVariants as end
use Rattle.nu_run.specs.Steps.{Stepped, More, Halt}
use Rattle.nu_value.specs.declared.value.Value.{Value}
use Rattle.nu_calls.specs.Surroundings.{Surroundings, Scene, with_scene, with_kept}
use Rattle.c_meaning.specs.declared.state.Activation.{Activation}
use Rattle.c_meaning.specs.declared.state.Kept.{Kept}
use Rattle.c_meaning.specs.declared.state.Purpose.{Purpose}
use Rattle.c_meaning.specs.declared.state.Uncaught.{Uncaught}
use Rattle.c_meaning.specs.declared.code.Body.{Body}

pub record State : Type 0 where
  -- the function that runs, and those that wait, the one that waits for it first
  pub running : Activation
  pub below : List Activation
  -- the world of operations, what generators keep, the input that is left, and the number of live frames
  pub around : Surroundings Kept
  -- an exception that nothing caught, while its text is asked for
  pub uncaught : Option Uncaught
  pub printed : List ℕ

abbrev pub printed_in : State → List ℕ
printed_in s = s.printed

abbrev pub halted : State → run_end.End → Stepped State
halted s e = Halt s.printed e

-- nothing is said of this statement
abbrev pub undefined : State → Stepped State
undefined s = halted s (end.Undefined s.running.function s.running.place)

abbrev pub with_running : State → Activation → State
with_running s a = record { running = a; below = s.below; around = s.around; uncaught = s.uncaught; printed = s.printed }

abbrev pub with_around : State → Surroundings Kept → State
with_around s a = record { running = s.running; below = s.below; around = a; uncaught = s.uncaught; printed = s.printed }

abbrev pub in_scene : State → Scene → State
in_scene s a = with_around s (with_scene s.around a)

-- a generator keeps something else
abbrev pub keeping : State → ℕ → Option Kept → State
keeping s g k = with_around s (with_kept s.around g k)

abbrev pub printing : State → List ℕ → State
printing s text = record { running = s.running; below = s.below; around = s.around; uncaught = s.uncaught; printed = s.printed ++ text }

abbrev pub place_set : Activation → ℕ → Activation
place_set a n = record {
  function = a.function;
  place = n;
  registers = a.registers;
  slots = a.slots;
  arguments = a.arguments;
  cells = a.cells;
  pending = a.pending;
  purpose = a.purpose;
}

abbrev pub register_set : Activation → ℕ → Value → Activation
register_set a to v = record {
  function = a.function;
  place = a.place;
  registers = slice_set a.registers to (Some v);
  slots = a.slots;
  arguments = a.arguments;
  cells = a.cells;
  pending = a.pending;
  purpose = a.purpose;
}

abbrev pub pending_set : Activation → Option ℕ → Activation
pending_set a e = record {
  function = a.function;
  place = a.place;
  registers = a.registers;
  slots = a.slots;
  arguments = a.arguments;
  cells = a.cells;
  pending = e;
  purpose = a.purpose;
}

abbrev pub slot_set : Activation → ℕ → Value → Activation
slot_set a slot v = record {
  function = a.function;
  place = a.place;
  registers = a.registers;
  slots = slice_set a.slots slot (Some v);
  arguments = a.arguments;
  cells = a.cells;
  pending = a.pending;
  purpose = a.purpose;
}

-- a register has a value
abbrev pub put : State → ℕ → Value → State
put s to v = with_running s (register_set s.running to v)

abbrev pub pend : State → Option ℕ → State
pend s e = with_running s (pending_set s.running e)

-- the run goes on at the next statement
abbrev pub next : State → Stepped State
next s = More (with_running s (place_set s.running (s.running.place + 1)))

-- the run goes on where a label leads
abbrev pub jumps : State → Option ℕ → Stepped State
jumps s None = undefined s
jumps s (Some n) = More (with_running s (place_set s.running n))

-- a function that begins, with these slots: no register has a value
abbrev pub fresh : ℕ → Body → List Value → List Value → List (Option Value) → Purpose → Activation
fresh number body arguments cells slots purpose = record {
  function = number;
  place = 0;
  registers = replicate body.registers None;
  slots = slots;
  arguments = arguments;
  cells = cells;
  pending = None;
  purpose = purpose;
}
