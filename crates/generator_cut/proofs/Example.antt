-- A generator that pauses thrice, is told a value and an exception, and is over: both runs, computed.
use Rattle.std.specs.Prelude.{◌≡◌, refl, ℕ, List, [], ◌∷◌, Bool, true, false, None, codes}
use Rattle.nu_run.specs.declared.End.TheVariants as end
use Rattle.nu_run.specs.Runs.{Ended}
use Rattle.nu_value.specs.declared.object.GenState.TheVariants as gen
use Rattle.nu_value.specs.declared.object.Object.TheVariants as object
use Rattle.nu_value.specs.declared.value.Value.{Value}
use Rattle.nu_value.specs.declared.value.Value.TheVariants as value
use Rattle.op_forms.specs.declared.constant.Const.TheVariants as const
use Rattle.op_forms.specs.declared.end.How.TheVariants as how
use Rattle.op_forms.specs.declared.end.OpEnd.TheVariants as opend
use Rattle.op_forms.specs.declared.op.Op.{Op}
use Rattle.op_forms.specs.declared.op.Op.TheVariants as op
use Rattle.op_forms.specs.declared.world.World.{World}
use Rattle.op_forms.specs.Answers.{Answer}
use Rattle.op_forms.specs.Rules.{Rules}
use Rattle.flow_code.specs.declared.function.FlatFunction.{FlatFunction}
use Rattle.flow_code.specs.declared.function.FlatScript.{FlatScript}
use Rattle.code_forms.specs.declared.operand.Argument.TheVariants as argument
use Rattle.flow_code.specs.declared.statement.Line.{Line}
use Rattle.flow_code.specs.declared.statement.Line.TheVariants as line
use Rattle.code_forms.specs.declared.operand.Operand.TheVariants as operand
use Rattle.flow_code.specs.declared.statement.Statement.TheVariants as flat
use Rattle.flow_code.specs.Run.{flat_run}
use Rattle.c_meaning.specs.Run.{c_run}
use Rattle.generator_cut.specs.Cut.{all_saved, program_of}

-- rules of an example: one operation makes a generator and an exception, two resume the generator, one prints
abbrev does : Op → World → List Value → Answer
does op.Tuple w args = record { end = opend.Give (value.Obj 0); heap = object.Generator 1 gen.Fresh [] [] ∷ object.Exception 35 [] [] [] None ∷ [] }
does op.Pos w args = record { end = opend.Resume 0 (how.Send value.None); heap = w.heap }
does op.Neg w args = record { end = opend.Resume 0 (how.Throw 1); heap = w.heap }
does op.Inv w (value.Str text ∷ args) = record { end = opend.Put text; heap = w.heap }
does other w args = record { end = opend.Give value.None; heap = w.heap }

abbrev rules : Rules
rules = record {
  fits = λ o w args. true;
  apply = does;
  bind = λ w f args after. record { end = opend.Give value.None; heap = w.heap };
  finish = λ after w v. record { end = opend.Give v; heap = w.heap };
  start = λ headers. record { heap = []; «module» = 0; builtins = 0; codes = headers };
}

abbrev calls : ℕ → Op → ℕ → Line
calls to o from = line.Do (flat.Do to 1 o (argument.Value (operand.Temp from) ∷ []) 0)

abbrev function_of : Bool → List Line → FlatFunction
function_of generator body = record { header = record { scope = codes "f"; params = []; generator = generator; line = 1 }; labels = 2; registers = 2; body = body }

abbrev main : List Line
main =
    line.Do (flat.Do 0 1 op.Tuple [] 0) ∷ calls 1 op.Pos 0 ∷ calls 1 op.Inv 1 ∷ calls 1 op.Pos 0 ∷ calls 1 op.Inv 1 ∷ calls 1 op.Neg 0 ∷ calls 1 op.Inv 1 ∷ line.Do flat.End
    ∷ line.Label 0 ∷ line.Do flat.Fail ∷ []

abbrev generator : List Line
generator =
    line.Do (flat.Store 0 (operand.Const (const.Str (codes "a")))) ∷ line.Do (flat.Yield 1 3 (operand.Temp 0) 0) ∷ line.Do (flat.Yield 1 4 (operand.Temp 0) 1) ∷ line.Label 0 ∷ line.Do flat.Fail
    ∷ line.Label 1 ∷ line.Do (flat.Caught 1) ∷ line.Do (flat.Store 0 (operand.Const (const.Str (codes "c")))) ∷ line.Do (flat.Yield 1 5 (operand.Temp 0) 0) ∷ line.Do flat.End ∷ []

abbrev script : FlatScript
script = record { name = codes "t.py"; scripts = 2; functions = function_of false main ∷ function_of true generator ∷ [] }

flat_runs : flat_run rules script [] 30 ≡ Ended (codes "aac") end.Done
flat_runs = refl

c_runs : c_run rules (program_of all_saved script) [] 60 ≡ Ended (codes "aac") end.Done
c_runs = refl
