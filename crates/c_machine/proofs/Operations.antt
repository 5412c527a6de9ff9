-- Operations by the answers of the table.
use Rattle.std.proofs.Common.{◌≡◌, List, Option, Some, None, Bool, true, false, refl, ap}
use Rattle.std.specs.Prelude.{if◌then◌else◌}
use Rattle.std.specs.Option.{option_map}
use Rattle.nu_value.specs.declared.value.Value.{Value}
use Rattle.op_forms.specs.declared.end.OpEnd.{OpEnd}
use Rattle.op_forms.specs.declared.op.Op.{Op}
use Rattle.op_forms.specs.Fits.{fits}
use Rattle.op_forms.specs.Answers.{Answer}
use Rattle.op_rules.specs.Table.{row}
use Rattle.op_rules.specs.TableRules.{table_rules}
use Rattle.nu_calls.specs.Surroundings.{scene}
use Rattle.nu_calls.specs.Ends.{begun, begun_by}
use Rattle.c_meaning.specs.declared.code.Code.{Code}
use Rattle.c_meaning.specs.State.{undefined}
use Rattle.c_meaning.specs.Step.{began, operates}
use Rattle.c_stack.specs.declared.execution.Execution.{Execution}
use Rattle.c_stack.specs.declared.frames.Site.{Site}
use Rattle.op_forms.specs.declared.end.OpEnd.TheVariants as opend
use Rattle.c_meaning.specs.declared.program.Statement.{Statement}
use Rattle.c_meaning.specs.declared.program.Statement.TheVariants as statement
use Rattle.c_meaning.specs.declared.program.Stored.{Stored}
use Rattle.c_meaning.specs.declared.program.Stored.TheVariants as stored
use Rattle.c_ends.specs.Outcomes.{is_quiet}
use Rattle.c_machine.specs.Effects.{answered, after_answer}
use Rattle.c_machine.specs.Inputs.{answers_line, is_line, statement_asks, store_asks}
use Rattle.c_machine.specs.Values.{is_operated, is_operation}
use Rattle.c_stack.specs.Frames.{site}
use Rattle.c_stack.specs.Standing.{Outside, state_of}

abbrev end_of : Answer → OpEnd
end_of a = a.end

prepared_by : (c : Code) (x y : Execution) (at : Site) (w : Outside) (b : Bool) (a : Answer) (e : OpEnd)
    → y ≡ record x { world = after_answer x.world (if b then Some a else None) } → Some e ≡ option_map end_of (if b then Some a else None)
    → began table_rules c (state_of y w) (site at) (begun c.scripts (scene (state_of y w).around) e)
    ≡ (if b then began table_rules c (state_of x w) (site at) (begun_by c.scripts (scene (state_of x w).around) a) else undefined (state_of x w))
prepared_by c x y at w false a e h k = cc
prepared_by c x y at w true a e h k = let i : e ≡ a.end = cc in rw (h, i) refl

-- after the table's answer, its end is left to do
pub prepared : (c : Code) (x y : Execution) (at : Site) (w : Outside) (o : Op) (args : Option (List Value)) (e : OpEnd)
    → y ≡ record x { world = after_answer x.world (answered x.world o args) } → Some e ≡ option_map end_of (answered x.world o args)
    → began table_rules c (state_of y w) (site at) (begun c.scripts (scene (state_of y w).around) e) ≡ operates table_rules c (state_of x w) (site at) o args
prepared c x y at w o None e h k = cc
prepared c x y at w o (Some args) e h k = prepared_by c x y at w (fits o x.world args) (row o x.world args) e h k

unprepared_by : (c : Code) (x y : Execution) (at : Site) (w : Outside) (b : Bool) (a : Answer)
    → y ≡ record x { world = after_answer x.world (if b then Some a else None) } → None ≡ option_map end_of (if b then Some a else None)
    → undefined (state_of y w)
    ≡ (if b then began table_rules c (state_of x w) (site at) (begun_by c.scripts (scene (state_of x w).around) a) else undefined (state_of x w))
unprepared_by c x y at w true a h k = cc
unprepared_by c x y at w false a h k = rw h refl

-- without an answer, nothing is said
pub unprepared : (c : Code) (x y : Execution) (at : Site) (w : Outside) (o : Op) (args : Option (List Value))
    → y ≡ record x { world = after_answer x.world (answered x.world o args) } → None ≡ option_map end_of (answered x.world o args)
    → undefined (state_of y w) ≡ operates table_rules c (state_of x w) (site at) o args
unprepared c x y at w o None h k = rw h refl
unprepared c x y at w o (Some args) h k = unprepared_by c x y at w (fits o x.world args) (row o x.world args) h k

-- whether it asks for a line
pub prepared_line : (e : OpEnd) (o : Option Answer) → Some e ≡ option_map end_of o → is_line e ≡ answers_line o
prepared_line e None h = cc
prepared_line e (Some a) h = let i : e ≡ a.end = cc in ap is_line i

pub unprepared_line : (o : Option Answer) → None ≡ option_map end_of o → answers_line o ≡ false
unprepared_line None h = refl
unprepared_line (Some a) h = cc

store_other : (x : Execution) (what : Stored) → is_operated what ≡ false → store_asks x what ≡ false
store_other x (stored.Operation o at arguments fail) h = absurd (cc)
store_other x other h = refl

-- what is no operation asks for none
pub other_asks : (x : Execution) (s : Statement) → is_operation s ≡ false → statement_asks x s ≡ false
other_asks x (statement.Store to what) h = store_other x what h
other_asks x other h = refl

pub quiet_line : (e : OpEnd) → is_quiet e ≡ true → is_line e ≡ false
quiet_line opend.Line h = absurd (cc)
quiet_line other h = refl

-- every end but the question for a line asks for none
pub other_line : (e : OpEnd) → (e ≡ opend.Line → ⊥) → false ≡ is_line e
other_line opend.Line h = absurd (h refl)
other_line other h = refl
