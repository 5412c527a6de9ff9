-- Exceptions that are raised.
use Rattle.std.proofs.Common.{◌≡◌, ℕ, ◌+◌, List, Some, ap, ◌∙◌, length}
use Rattle.nu_run.specs.Steps.{Stepped}
use Rattle.nu_value.specs.declared.value.Value.TheVariants as value
use Rattle.op_rules.specs.TableRules.{table_rules}
use Rattle.op_forms.specs.declared.world.World.{World}
use Rattle.nu_calls.specs.Ends.{at_line}
use Rattle.c_meaning.specs.declared.code.Code.{Code}
use Rattle.c_meaning.specs.State.{State, in_scene, jumps, pend, pending_set, put, register_set}
use Rattle.c_meaning.specs.Step.{Site, raised}
use Rattle.c_stack.specs.declared.execution.Execution.{Execution}
use Rattle.c_ends.specs.Outcomes.{in_world}
use Rattle.c_stack.specs.Standing.{Outside, state_of}

-- an entry comes first, then the exception is pending and the register is Unset
pub raised_at : (c : Code) (x : Execution) (v : World) (w : Outside) (at : Site) (e : ℕ) (to : Stepped State)
    → ((input : List ℕ) (frames : ℕ) → at_line c.scripts (in_world x.world input frames) x.running.function at.line e ≡ in_world v input frames)
    → jumps (state_of (record x { running = pending_set (register_set x.running at.to value.Unset) (Some e); world = v }) w) at.goal ≡ to
    → raised table_rules c (state_of x w) at e ≡ to
raised_at c x v w at e to h go =
    ap (λ a. jumps (pend (put (in_scene (state_of x w) a) at.to value.Unset) (Some e)) at.goal) (h w.input (length x.below + 1)) ∙ go
