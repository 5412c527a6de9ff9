-- Branches and saves.
use Rattle.std.proofs.Common.{◌≡◌, ℕ, Option, Some, None, Bool, true, false, refl, length, ◌≤◌, arith, nat_lt}
use Rattle.std.proofs.lemmas.Bool.Decides.{nat_tests}
use Rattle.std.specs.Prelude.{if◌then◌else◌}
use Rattle.nu_run.specs.Steps.{Stepped}
use Rattle.nu_value.specs.declared.value.Value.{Value}
use Rattle.nu_value.specs.declared.value.Value.TheVariants as value
use Rattle.c_meaning.specs.State.{State, undefined, next, jumps, slot_set, with_running}
use Rattle.c_meaning.specs.Step.{branches, saves}
use Rattle.c_stack.specs.Values.{bool_of}

abbrev branched : State → Option ℕ → Option Bool → Stepped State
branched s goal (Some true) = jumps s goal
branched s goal (Some false) = next s
branched s goal None = undefined s

pub branches_by : (s : State) (goal : Option ℕ) (o : Option Value) → branches s goal o ≡ branched s goal (bool_of o)
branches_by s goal None = refl
branches_by s goal (Some (value.Bool true)) = refl
branches_by s goal (Some (value.Bool false)) = refl
branches_by s goal (Some value.Unset) = refl
branches_by s goal (Some value.None) = refl
branches_by s goal (Some (value.Int z)) = refl
branches_by s goal (Some (value.Str text)) = refl
branches_by s goal (Some (value.Obj n)) = refl

-- there is no such slot
pub saves_nowhere : (s : State) (slot : ℕ) (v : Option Value) → length s.running.slots ≤ slot → saves s slot v ≡ undefined s
saves_nowhere s slot None h = refl
saves_nowhere s slot (Some v) h = go (nat_lt slot (length s.running.slots)) (grind (arith, nat_tests, h))
  where
    go : (b : Bool) → b ≡ false → (if b then next (with_running s (slot_set s.running slot v)) else undefined s) ≡ undefined s
    go true e = cc
    go false e = refl
