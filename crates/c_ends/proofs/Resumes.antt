-- Generators that are resumed.
use Rattle.std.proofs.Common.{◌≡◌, ℕ, zero, suc, ◌+◌, ◌-◌, ◌<◌, ◌≤◌, arith, length, slice_get, List, Option, Some, None, true, false, refl, ap}
use Rattle.std.specs.Prelude.{codes, nat_eq, ◌||◌}
use Rattle.nu_value.specs.Classes.{base_of, is_among, is_under, outward}
use Rattle.nu_value.specs.declared.object.GenState.TheVariants as gen
use Rattle.nu_value.specs.declared.object.Object.{Object}
use Rattle.nu_value.specs.declared.object.Object.TheVariants as object
use Rattle.nu_value.specs.declared.value.Value.{Value}
use Rattle.nu_run.specs.declared.StopKind.TheVariants as stop
use Rattle.op_forms.specs.declared.end.How.{How}
use Rattle.op_forms.specs.declared.end.How.TheVariants as how
use Rattle.nu_calls.specs.Surroundings.{Scene}
use Rattle.nu_calls.specs.Ends.{Began, Stops, begins, ending, fresh_resumed, is_full, over, over_resumed, paused_resumed, raises_text, resumed, value_error, Unsaid}
use Rattle.c_meaning.specs.declared.state.Told.{Told}
use Rattle.c_meaning.specs.declared.state.Told.TheVariants as told
use Rattle.c_meaning.specs.Step.{told_of}
use Rattle.c_ends.specs.Outcomes.{generator_parts, state_in, way_of}

-- where 1,000 frames are live, nothing begins
pub begins_full : (a : Scene) (b : Began) → is_full a ≡ true → begins a b ≡ over (ending a (Stops stop.Depth))
begins_full a b h = rw h refl

pub begins_room : (a : Scene) (b : Began) → is_full a ≡ false → begins a b ≡ b
begins_room a b h = rw h refl

-- a paused generator, however it is resumed
pub paused_full : (a : Scene) (g : ℕ) (h : How) → is_full a ≡ true → paused_resumed a g h ≡ over (ending a (Stops stop.Depth))
paused_full a g (how.Send v) e = begins_full a _ e
paused_full a g (how.Throw x) e = begins_full a _ e
paused_full a g how.Close e = begins_full a _ e

pub told_back : (t : Told) → told_of (way_of t) ≡ t
told_back (told.Sent v) = refl
told_back (told.Thrown e) = refl

-- by how far the generator is
pub running_is : (scripts : ℕ) (a : Scene) (g : ℕ) (o : Option Object) (h : How) → state_in o ≡ Some gen.Running
    → resumed scripts a g o h ≡ over (raises_text a value_error (codes "generator already executing"))
running_is scripts a g (Some (object.Generator code gen.Running given cells)) h e = refl
running_is scripts a g (Some (object.Generator code gen.Fresh given cells)) h e = absurd (cc)
running_is scripts a g (Some (object.Generator code gen.Paused given cells)) h e = absurd (cc)
running_is scripts a g (Some (object.Generator code gen.Over given cells)) h e = absurd (cc)
running_is scripts a g other h e = absurd (cc)

pub fresh_is : (scripts : ℕ) (a : Scene) (g : ℕ) (o : Option Object) (h : How) (parts : ℕ × List Value × List Value) → state_in o ≡ Some gen.Fresh → Some parts ≡ generator_parts o
    → resumed scripts a g o h ≡ fresh_resumed scripts a g parts.0 parts.1 parts.2 h
fresh_is scripts a g (Some (object.Generator code gen.Running given cells)) h parts e p = absurd (cc)
fresh_is scripts a g (Some (object.Generator code gen.Fresh given cells)) h parts e p =
    let is : parts ≡ (code, given, cells) = cc in rw is refl
fresh_is scripts a g (Some (object.Generator code gen.Paused given cells)) h parts e p = absurd (cc)
fresh_is scripts a g (Some (object.Generator code gen.Over given cells)) h parts e p = absurd (cc)
fresh_is scripts a g other h parts e p = absurd (cc)

pub paused_is : (scripts : ℕ) (a : Scene) (g : ℕ) (o : Option Object) (h : How) → state_in o ≡ Some gen.Paused → resumed scripts a g o h ≡ paused_resumed a g h
paused_is scripts a g (Some (object.Generator code gen.Running given cells)) h e = absurd (cc)
paused_is scripts a g (Some (object.Generator code gen.Fresh given cells)) h e = absurd (cc)
paused_is scripts a g (Some (object.Generator code gen.Paused given cells)) h e = refl
paused_is scripts a g (Some (object.Generator code gen.Over given cells)) h e = absurd (cc)
paused_is scripts a g other h e = absurd (cc)

pub over_is : (scripts : ℕ) (a : Scene) (g : ℕ) (o : Option Object) (h : How) → state_in o ≡ Some gen.Over → resumed scripts a g o h ≡ over (over_resumed a h)
over_is scripts a g (Some (object.Generator code gen.Running given cells)) h e = absurd (cc)
over_is scripts a g (Some (object.Generator code gen.Fresh given cells)) h e = absurd (cc)
over_is scripts a g (Some (object.Generator code gen.Paused given cells)) h e = absurd (cc)
over_is scripts a g (Some (object.Generator code gen.Over given cells)) h e = refl
over_is scripts a g other h e = absurd (cc)

pub none_is : (scripts : ℕ) (a : Scene) (g : ℕ) (o : Option Object) (h : How) → state_in o ≡ None → resumed scripts a g o h ≡ over (ending a Unsaid)
none_is scripts a g (Some (object.Generator code state given cells)) h e = absurd (cc)
none_is scripts a g other h e = refl

-- ---- classes outward

pub under_step : (room step class : ℕ) (heap : List Object) (number : ℕ) → step < room
    → is_among (outward (room - step) heap (Some number)) class ≡ (nat_eq number class || is_among (outward (room - (step + 1)) heap (base_of (slice_get heap number))) class)
under_step room step class heap number h =
    let one : room - step ≡ suc (room - (step + 1)) = omega (arith, h) in
    ap (λ n. is_among (outward n heap (Some number)) class) one

pub under_none : (room class : ℕ) (heap : List Object) → is_among (outward room heap None) class ≡ false
under_none zero class heap = refl
under_none (suc room) class heap = refl

pub under_over : (room step class : ℕ) (heap : List Object) (c : Option ℕ) → room ≤ step → is_among (outward (room - step) heap c) class ≡ false
under_over room step class heap c h = let none : room - step ≡ 0 = omega (arith, h) in ap (λ n. is_among (outward n heap c) class) none

pub under_all : (heap : List Object) (c : Option ℕ) (class : ℕ) → is_under heap c class ≡ is_among (outward (length heap + 1) heap c) class
under_all heap c class = let one : suc (length heap) ≡ length heap + 1 = omega arith in ap (λ n. is_among (outward n heap c) class) one
