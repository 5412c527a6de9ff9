-- Runs of small scripts, computed.
use Rattle.std.specs.Prelude.{◌≡◌, refl, ℕ, pos, List, [], ◌∷◌, ◌++◌, true, false, codes}
use Rattle.nu_run.specs.declared.End.TheVariants as end
use Rattle.nu_run.specs.Runs.{Run, Going, Ended}
use Rattle.nu_value.specs.declared.value.Value.TheVariants as value
use Rattle.op_forms.specs.declared.op.Op.{Op}
use Rattle.op_forms.specs.declared.op.Op.TheVariants as op
use Rattle.op_rules.specs.TableRules.{table_rules}
use Rattle.nu_calls.specs.Traceback.{entries_text}
use Rattle.py_meaning.specs.Syntax.{Module, Expression, Constant, Name, Operation, Junction, Comparison, Link, LastLink, NoMore, More, Block, Done, Then, Statement, Evaluate, Assign, Augment, Delete, AlsoTo, NoTarget, ToName, If, While, Finally, Continue, Break, Code, Statements}
use Rattle.py_meaning.specs.Bodies.{codes_run}

abbrev script : Block → List Code
script body = record { header = record { scope = codes "<module>"; params = []; generator = false; line = 1 }; locals = 0; owns = []; frees = 0; body = Statements body } ∷ []

abbrev run : ℕ → Block → Run
run n body = codes_run table_rules (codes "t.py") 1 (script body) [] n

abbrev int : ℕ → Expression
int n = Constant (value.Int (pos n))

abbrev name : ℕ → List ℕ → Expression
name line x = Name line (Module x)

abbrev two : ℕ → Op → Expression → Expression → Expression
two line o x y = Operation line o (More x (More y NoMore))

abbrev set : ℕ → List ℕ → Expression → Statement
set line x v = Assign (AlsoTo (ToName line (Module x)) NoTarget) v

abbrev text : List ℕ → Expression
text x = Constant (value.Str x)

-- `print` of a text, as an expression that gives None
abbrev says : List ℕ → Expression
says x = Operation 1 op.Call (More (name 1 (codes "print")) (More (text x) NoMore))

abbrev does : List Statement → Block
does [] = Done
does (s ∷ ss) = Then s (does ss)

abbrev traceback : ℕ → List ℕ → List ℕ
traceback line class =
    codes "Traceback (most recent call last):\n" ++ entries_text (codes "t.py") (record { line = line; scope = codes "<module>" } ∷ []) ++ class ++ codes "\n"

-- print("a") is print("b")
left_to_right : run 1 (does (Evaluate (two 1 op.Is (says (codes "a")) (says (codes "b"))) ∷ [])) ≡ Ended (codes "a\nb\n") end.Done
left_to_right = refl

-- 2 < 1 < print("a"): no operand behind a comparison that is false
chains : run 1 (does (Evaluate (Comparison 1 (int 2) (Link op.Lt false (int 1) (LastLink op.Lt false (says (codes "a"))))) ∷ [])) ≡ Ended [] end.Done
chains = refl

-- print("a") or print("b") and print("c")
decides : run 1 (does (Evaluate (Junction 1 true (says (codes "a")) (Junction 1 false (says (codes "b")) (says (codes "c")))) ∷ [])) ≡ Ended (codes "a\nb\n") end.Done
decides = refl

-- i = 0
-- while i < 3:
--     i += 1
--     if i == 2: continue
--     print("turn")
-- else: print("else")
-- while True: break
-- else: print("no")
loops : run 10 (does (set 1 (codes "i") (int 0)
    ∷ While 2 (two 2 op.Lt (name 2 (codes "i")) (int 3))
    (does (Augment 3 op.IAdd (ToName 3 (Module (codes "i"))) (int 1) ∷ If 4 (two 4 op.Eq (name 4 (codes "i")) (int 2)) (does (Continue ∷ [])) Done
    ∷ Evaluate (says (codes "turn")) ∷ []))
    (does (Evaluate (says (codes "else")) ∷ []))
    ∷ While 9 (Constant (value.Bool true)) (does (Break ∷ [])) (does (Evaluate (says (codes "no")) ∷ [])) ∷ []))
    ≡ Ended (codes "turn\nturn\nelse\n") end.Done
loops = refl

-- within a bound of one, one turn and its continuation are not reached
spent : run 1 (does (While 1 (Constant (value.Bool true)) (does (Evaluate (says (codes "a")) ∷ [])) Done ∷ [])) ≡ Going (codes "a\na\n")
spent = refl

-- try: 1 // 0
-- finally: print("a")
finishes : run 1 (does (Finally (does (Evaluate (two 2 op.FloorDiv (int 1) (int 0)) ∷ [])) (does (Evaluate (says (codes "a")) ∷ [])) ∷ []))
    ≡ Ended (codes "a\n") (end.Uncaught (traceback 2 (codes "ZeroDivisionError")))
finishes = refl

-- while True:
--     try: 1 // 0
--     finally: break
-- print("a")
discards : run 1 (does (While 1 (Constant (value.Bool true)) (does (Finally (does (Evaluate (two 2 op.FloorDiv (int 1) (int 0)) ∷ [])) (does (Break ∷ [])) ∷ [])) Done
    ∷ Evaluate (says (codes "a")) ∷ [])) ≡ Ended (codes "a\n") end.Done
discards = refl

-- x = 1; del x; x
deletes : run 1 (does (set 1 (codes "x") (int 1) ∷ Delete (ToName 1 (Module (codes "x"))) ∷ Evaluate (name 2 (codes "x")) ∷ []))
    ≡ Ended [] (end.Uncaught (traceback 2 (codes "NameError")))
deletes = refl
