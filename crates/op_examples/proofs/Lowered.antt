-- Runs of small trees and of their flat code, computed.
use Rattle.std.proofs.Common.{◌≡◌, ℕ, ◌+◌, List, [], ◌∷◌, ◌++◌, Bool, true, false, map, length, nat_eq, if◌then◌else◌, refl}
use Rattle.std.specs.Prelude.{codes}
use Rattle.nu_run.specs.declared.End.TheVariants as end
use Rattle.nu_run.specs.Runs.{Run, Ended}
use Rattle.op_forms.specs.declared.constant.Const.TheVariants as const
use Rattle.op_forms.specs.declared.end.How.TheVariants as how
use Rattle.op_forms.specs.declared.end.OpEnd.TheVariants as opend
use Rattle.op_forms.specs.declared.op.Op.{Op}
use Rattle.op_forms.specs.declared.op.Op.TheVariants as op
use Rattle.op_forms.specs.declared.world.World.{World}
use Rattle.op_forms.specs.Answers.{Answer}
use Rattle.op_rules.specs.Table.{row}
use Rattle.nu_value.specs.declared.object.GenState.TheVariants as gen
use Rattle.nu_value.specs.declared.object.Object.TheVariants as object
use Rattle.nu_value.specs.declared.value.Value.{Value}
use Rattle.nu_value.specs.declared.value.Value.TheVariants as value
use Rattle.op_forms.specs.Rules.{Rules}
use Rattle.op_rules.specs.TableRules.{table_rules}
use Rattle.nu_calls.specs.Scripts.{program_run}
use Rattle.code_forms.specs.declared.operand.Argument as argument
use Rattle.code_forms.specs.declared.operand.Argument.TheVariants as to_argument
use Rattle.code_forms.specs.declared.operand.Operand as operand_type
use Rattle.code_forms.specs.declared.operand.Operand.TheVariants as operand
use Rattle.node_tree.specs.declared.script.NodeCode.{NodeCode}
use Rattle.node_tree.specs.declared.script.NodeScript.{NodeScript}
use Rattle.node_tree.specs.Blocks.{Block, Stop, Follow, Do, Call, Yield, If, Loop, Leave, Catch, Return, Raise, Unset}
use Rattle.node_tree.specs.Nodes.{L, block_row, item_row}
use Rattle.node_tree.specs.Run as node
use Rattle.flow_code.specs.declared.function.FlatFunction.{FlatFunction}
use Rattle.flow_code.specs.declared.function.FlatScript.{FlatScript}
use Rattle.flow_code.specs.Registers.{registers, above}
use Rattle.flow_code.specs.Run.{flat_run}
use Rattle.flow_lower.specs.Lower.{labels, function_lines}

abbrev code : List ℕ → Bool → NodeCode
code scope generator = record { header = record { scope = scope; params = []; generator = generator; line = 1 }; free = 0; body = [] }

-- a module and a generator
abbrev script : NodeScript
script = record { name = codes "a.py"; scripts = 2; codes = code (codes "<module>") false ∷ code (codes "g") true ∷ [] }

abbrev language : Rules → L
language rules = node.language rules script

abbrev block_at : Block → Block → ℕ → Block
block_at main generator c = if nat_eq c 0 then main else generator

-- the run of a script of two blocks
abbrev node_run_of : Rules → Block → Block → Run
node_run_of rules main generator =
    program_run (record { language = language rules; rows = item_row (language rules) (block_at main generator); body = λ c. block_row (language rules) (block_at main generator c); blank = node.blank; headers = map node.header script.codes }) script.name [] 9

-- the run of its flat code
abbrev function_of : NodeCode → Block → FlatFunction
function_of c b = record { header = c.header; labels = 1 + labels b; registers = above (registers (function_lines 0 0 b)); body = function_lines 0 0 b }

abbrev flat_of : Block → Block → FlatScript
flat_of main generator = record { name = script.name; scripts = 2; functions = function_of (code (codes "<module>") false) main ∷ function_of (code (codes "g") true) generator ∷ [] }

abbrev flat_run_of : Rules → Block → Block → Run
flat_run_of rules main generator = flat_run rules (flat_of main generator) [] 100

abbrev node_run : Block → Run
node_run b = node_run_of table_rules b Stop

abbrev flat : Block → Run
flat b = flat_run_of table_rules b Stop

abbrev prints : List ℕ → Block → Block
prints text rest =
    Follow (Do 0 1 op.Global (to_argument.Name (codes "print") ∷ [])) (Follow (Call 0 1 (operand.Temp 0) (operand.Const (const.Str text) ∷ [])) rest)

-- a name that no scope has
abbrev raises : Block → Block
raises rest = Follow (Do 0 2 op.Global (to_argument.Name (codes "x") ∷ [])) rest

-- the handler of the inner guarded body raises again what it caught, to the outer handler
abbrev handlers : Block
handlers = Follow (Catch 1 (Follow (Catch 2 (raises (prints (codes "no") Stop)) (prints (codes "inner") (Follow (Raise (operand.Temp 2)) Stop))) (prints (codes "no") Stop)) (prints (codes "outer") Stop)) (prints (codes "end") Stop)

handlers_node : node_run handlers ≡ Ended (codes "inner\nouter\nend\n") end.Done
handlers_node = refl

handlers_flat : flat handlers ≡ Ended (codes "inner\nouter\nend\n") end.Done
handlers_flat = refl

-- two loops are left out of a guarded body
abbrev leaves : Block
leaves = Follow (Loop (prints (codes "turn") (Follow (Loop (Follow (Catch 1 (Follow (Leave 2) Stop) (prints (codes "no") Stop)) Stop)) (prints (codes "no") Stop)))) (prints (codes "end") Stop)

leaves_node : node_run leaves ≡ Ended (codes "turn\nend\n") end.Done
leaves_node = refl

leaves_flat : flat leaves ≡ Ended (codes "turn\nend\n") end.Done
leaves_flat = refl

-- either branch
abbrev branches : Block
branches = Follow (If (operand.Const (const.Bool false)) (prints (codes "no") Stop) (prints (codes "yes") Stop)) (Follow (If (operand.Const (const.Bool true)) (prints (codes "and yes") Stop) (prints (codes "no") Stop)) Stop)

branches_node : node_run branches ≡ Ended (codes "yes\nand yes\n") end.Done
branches_node = refl

branches_flat : flat branches ≡ Ended (codes "yes\nand yes\n") end.Done
branches_flat = refl

-- nothing is said of a body that gives back Unset
abbrev gives_unset : Block
gives_unset = Follow (Unset 0) (Follow (Return (operand.Temp 0)) Stop)

unset_node : node_run gives_unset ≡ Ended [] (end.Undefined 0 0)
unset_node = refl

unset_flat : flat gives_unset ≡ Ended [] (end.Undefined 0 0)
unset_flat = refl

-- the flat code of no statements
empty_flat : flat Stop ≡ Ended [] end.Done
empty_flat = refl

-- rules of which some are not those of the table: `iter` makes a generator, `next` resumes it, `manager` throws into it, and
-- `push` prints
abbrev toy_row : Op → World → List Value → Answer
toy_row op.Iter w args = record { end = opend.Give (value.Obj (length w.heap)); heap = w.heap ++ object.Generator 1 gen.Fresh [] [] ∷ [] }
toy_row op.Next w (value.Obj g ∷ []) = record { end = opend.Resume g (how.Send value.None); heap = w.heap }
toy_row op.Manager w (value.Obj g ∷ value.Obj e ∷ []) = record { end = opend.Resume g (how.Throw e); heap = w.heap }
toy_row op.Push w (value.Str text ∷ []) = record { end = opend.Put text; heap = w.heap }
toy_row op.Global w args = row op.Global w args
toy_row other w args = record { end = opend.Give value.None; heap = w.heap }

abbrev toy_rules : Rules
toy_rules = record { fits = λ o w args. true; apply = toy_row; bind = table_rules.bind; finish = table_rules.finish; start = table_rules.start }

abbrev temp : ℕ → argument.Argument
temp t = to_argument.Value (operand.Temp t)

abbrev text : List ℕ → operand_type.Operand
text t = operand.Const (const.Str t)

abbrev shows : ℕ → Block → Block
shows t rest = Follow (Do 9 1 op.Push (temp t ∷ [])) rest

abbrev next_shown : Block → Block
next_shown rest = Follow (Do 1 1 op.Next (temp 5 ∷ [])) (shows 1 rest)

-- pauses in a guarded body, into which an exception is thrown, in its handler, in a loop and in a branch; then the end
abbrev pauses : Block
pauses = Follow (Catch 1 (Follow (Yield 0 1 (text (codes "a"))) Stop) (Follow (Yield 0 2 (text (codes "b"))) Stop)) (Follow (Loop (Follow (Yield 0 3 (text (codes "c"))) (Follow (Leave 1) Stop))) (Follow (If (operand.Const (const.Bool true)) (Follow (Yield 0 4 (text (codes "d"))) Stop) Stop) Stop))

abbrev resumes : Block
resumes = Follow (Do 5 1 op.Iter []) (next_shown (Follow (Catch 2 (raises Stop) (Follow (Do 1 1 op.Manager (temp 5 ∷ temp 2 ∷ [])) (shows 1 Stop))) (next_shown (next_shown (Follow (Catch 3 (next_shown Stop) (Follow (Do 9 1 op.Push (to_argument.Value (text (codes "e")) ∷ [])) Stop)) Stop)))))

pauses_node : node_run_of toy_rules resumes pauses ≡ Ended (codes "abcde") end.Done
pauses_node = refl

pauses_flat : flat_run_of toy_rules resumes pauses ≡ Ended (codes "abcde") end.Done
pauses_flat = refl
