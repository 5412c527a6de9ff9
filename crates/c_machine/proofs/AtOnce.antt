-- Operations that are done at once.
use Rattle.std.proofs.Common.{◌≡◌, List, Option, Some, None, refl, sym, ap, append-nil, false}
use Rattle.nu_value.specs.declared.value.Value.{Value}
use Rattle.op_forms.specs.declared.end.OpEnd.TheVariants as opend
use Rattle.op_forms.specs.declared.op.Op.{Op}
use Rattle.op_forms.specs.declared.world.World.{World}
use Rattle.op_forms.specs.Answers.{Answer, after}
use Rattle.op_rules.specs.Table.{row}
use Rattle.op_rules.specs.TableRules.{table_rules}
use Rattle.nu_calls.specs.Surroundings.{scene}
use Rattle.nu_calls.specs.Ends.{begun_by}
use Rattle.c_meaning.specs.declared.code.Code.{Code}
use Rattle.c_meaning.specs.State.{next, put}
use Rattle.c_meaning.specs.Step.{began, operates, stores}
use Rattle.c_stack.specs.declared.execution.Execution.{Execution}
use Rattle.c_stack.specs.declared.frames.Site.{Site}
use Rattle.c_stack.specs.Frames.{site}
use Rattle.c_stack.specs.Standing.{Outside, state_of}
use Rattle.c_machine.specs.Effects.{answered}
use Rattle.c_machine.specs.Inputs.{answers_line, is_line}
use Rattle.c_machine.specs.Quick.{Gives, LeadsTo}

-- an answer that gives a value
led_by : (c : Code) (x : Execution) (at : Site) (w : Outside) (a : Answer) (v : Value) (new : World) → a.end ≡ opend.Give v → new ≡ after x.world a
    → began table_rules c (state_of x w) (site at) (begun_by c.scripts (scene (state_of x w).around) a) ≡ stores (state_of (record x { world = new }) w) at.to (Some v)
led_by c x at w a v new e h =
    rw (e, h) (ap (λ l. next (put (state_of (record x { world = after x.world a }) (record { printed = l; input = w.input })) at.to v)) (append-nil w.printed))

-- what the table gives is stored
pub led : (c : Code) (x : Execution) (at : Site) (w : Outside) (o : Op) (args : Option (List Value)) (v : Value) (new : World) → LeadsTo o x.world args v new
    → operates table_rules c (state_of x w) (site at) o args ≡ stores (state_of (record x { world = new }) w) at.to (Some v)
led c x at w o None v new h = absurd h
led c x at w o (Some args) v new h = rw h.0 (led_by c x at w (row o x.world args) v new h.1 h.2)

-- what changes nothing leads to the same world
pub gives_leads : (o : Op) (w : World) (args : Option (List Value)) (v : Value) → Gives o w args v → LeadsTo o w args v w
gives_leads o w None v h = h
gives_leads o w (Some args) v h = (h.0, ap (λ a. a.end) h.1, ap (after w) (sym h.1))

gives_no_line : (a : Answer) (v : Value) → a.end ≡ opend.Give v → false ≡ is_line a.end
gives_no_line a v e = rw e refl

-- what gives a value asks for no line
pub led_line : (o : Op) (w : World) (args : Option (List Value)) (v : Value) (new : World) → LeadsTo o w args v new → false ≡ answers_line (answered w o args)
led_line o w None v new h = absurd h
led_line o w (Some args) v new h = rw h.0 (gives_no_line (row o w args) v h.1)
