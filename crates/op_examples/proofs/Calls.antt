-- Runs with calls, closures and generators, computed under a few rules of operations that stand here.
use Rattle.std.specs.Prelude.{◌≡◌, refl, ℕ, zero, pos, List, [], ◌∷◌, ◌++◌, Option, Some, None, Bool, true, false, if◌then◌else◌, nat_lt, codes, length, map, slice_get, slice_set}
use Rattle.std.specs.Str.{bytes_eq}
use Rattle.nu_run.specs.declared.End.TheVariants as end
use Rattle.nu_run.specs.Runs.{Run, Ended}
use Rattle.nu_value.specs.declared.header.Header.{Header}
use Rattle.nu_value.specs.declared.header.ParamKind.TheVariants as param
use Rattle.nu_value.specs.declared.object.GenState.TheVariants as gen
use Rattle.nu_value.specs.declared.object.Object.{Object}
use Rattle.nu_value.specs.declared.object.Object.TheVariants as object
use Rattle.nu_value.specs.declared.value.Value.{Value}
use Rattle.nu_value.specs.declared.value.Value.TheVariants as value
use Rattle.op_forms.specs.declared.end.After.TheVariants as after
use Rattle.op_forms.specs.declared.end.How.TheVariants as how
use Rattle.op_forms.specs.declared.end.OpEnd.TheVariants as opend
use Rattle.op_forms.specs.declared.op.Op.{Op}
use Rattle.op_forms.specs.declared.op.Op.TheVariants as op
use Rattle.op_forms.specs.declared.world.World.{World}
use Rattle.op_forms.specs.Answers.{Answer, keeps, later}
use Rattle.op_rules.specs.Start.{start_world}
use Rattle.op_rules.specs.Table.{row}
use Rattle.nu_calls.specs.Exceptions.{exception_made, is_kind}
use Rattle.op_forms.specs.Rules.{Rules}
use Rattle.nu_calls.specs.Traceback.{entries_text}
use Rattle.py_meaning.specs.Syntax as syntax
use Rattle.py_meaning.specs.Bodies.{codes_run}

-- Rules: those of the table, and beside them functions without defaults, generators with `send` and `throw`, lists, and a few classes

-- a new object
abbrev makes : List Object → Object → Answer
makes h o = record { end = opend.Give (value.Obj (length h)); heap = h ++ o ∷ [] }

abbrev is_generator : Option Header → Bool
is_generator (Some header) = header.generator
is_generator None = false

abbrev count : Option Header → ℕ
count (Some header) = length header.params
count None = 0

abbrev items_of : Option Object → List Value
items_of (Some (object.Tuple items)) = items
items_of (Some (object.List items)) = items
items_of other = []

-- the arguments, with the defaults where they are too few
abbrev bound : ℕ → List Value → List Value → List Value
bound n args defaults = if nat_lt (length args) n then args ++ defaults else args

abbrev method : World → ℕ → ℕ → List Value → Answer
method w g zero (v ∷ vs) = keeps w.heap (opend.Resume g (how.Send v))
method w g n (value.Obj e ∷ vs) = keeps w.heap (opend.Resume g (how.Throw e))
method w g n vs = later w.heap

abbrev begins : World → ℕ → ℕ → List Value → List Value → Bool → Answer
begins w f code args cells true = makes w.heap (object.Generator code gen.Fresh args cells)
begins w f code args cells false = keeps w.heap (opend.Ask f args [] after.Plain)

abbrev called : World → ℕ → List Value → Option Object → Answer
called w f args (Some (object.Function code defaults keywords cells)) =
    begins w f code (bound (count (slice_get w.codes code)) args defaults) cells (is_generator (slice_get w.codes code))
called w f args (Some (object.Method (value.Obj g) which)) = method w g which args
called w f args other = row op.Call w (value.Obj f ∷ args)

abbrev attribute : World → ℕ → List ℕ → Option Object → Answer
attribute w o name (Some (object.Generator code state given cells)) = makes w.heap (object.Method (value.Obj o) (if bytes_eq name (codes "send") then 0 else 1))
attribute w o name (Some (object.Exception class (v ∷ args) entries fields cause)) = keeps w.heap (opend.Give v)
attribute w o name other = keeps w.heap (opend.Give value.None)

abbrev class_number : List ℕ → ℕ
class_number name = if bytes_eq name (codes "StopIteration") then 34 else if bytes_eq name (codes "GeneratorExit") then 21 else 36

abbrev apply : Op → World → List Value → Answer
apply op.Tuple w args = makes w.heap (object.Tuple args)
apply op.Dict w [] = makes w.heap (object.Dict [])
apply op.List w args = makes w.heap (object.List args)
apply op.Func w (value.Int (pos code) ∷ value.Obj defaults ∷ keywords ∷ cells) = makes w.heap (object.Function code (items_of (slice_get w.heap defaults)) [] cells)
apply op.Call w (value.Obj f ∷ args) = called w f args (slice_get w.heap f)
apply op.Iter w (v ∷ []) = keeps w.heap (opend.Give v)
apply op.Next w (value.Obj g ∷ []) = keeps w.heap (opend.Resume g (how.Send value.None))
apply op.Push w (value.Obj l ∷ v ∷ []) = record { end = opend.Give value.None; heap = slice_set w.heap l (object.List (items_of (slice_get w.heap l) ++ v ∷ [])) }
apply op.Attr w (value.Obj o ∷ value.Str name ∷ []) = attribute w o name (slice_get w.heap o)
apply op.Native w (value.Str name ∷ []) = keeps w.heap (opend.Give (value.Obj (class_number name)))
apply op.Match w (value.Obj x ∷ value.Obj c ∷ []) = keeps w.heap (opend.Give (value.Bool (is_kind w.heap x c)))
apply op.Exc w (value.Obj c ∷ []) = record { end = opend.Give (value.Obj (exception_made c [] w.heap).exception); heap = (exception_made c [] w.heap).heap }
apply op.Raise w (value.Obj x ∷ []) = keeps w.heap (opend.Raise x [])
apply o w args = row o w args

abbrev few_rules : Rules
few_rules = record {
  fits = λ o w args. true;
  apply = apply;
  bind = λ w f args after. later w.heap;
  finish = λ after w v. keeps w.heap (opend.Give v);
  start = start_world;
}

-- Codes

abbrev does : List syntax.Statement → syntax.Block
does [] = syntax.Done
does (s ∷ ss) = syntax.Then s (does ss)

abbrev run : ℕ → List syntax.Code → Run
run n cs = codes_run few_rules (codes "t.py") (length cs) cs [] n

abbrev code : List ℕ → ℕ → List (List ℕ) → Bool → ℕ → List (Option ℕ) → ℕ → List syntax.Statement → syntax.Code
code name line params generator locals owns frees body = record {
  header = record { scope = name; params = map (λ x. (param.Plain, x)) params; generator = generator; line = line };
  locals = locals;
  owns = owns;
  frees = frees;
  body = syntax.Statements (does body);
}

abbrev script : List syntax.Statement → syntax.Code
script body = code (codes "<module>") 1 [] false 0 [] 0 body

abbrev int : ℕ → syntax.Expression
int n = syntax.Constant (value.Int (pos n))

abbrev listed : List syntax.Expression → syntax.Expressions
listed [] = syntax.NoMore
listed (x ∷ xs) = syntax.More x (listed xs)

abbrev operation : ℕ → Op → List syntax.Expression → syntax.Expression
operation line o xs = syntax.Operation line o (listed xs)

abbrev global : ℕ → List ℕ → syntax.Expression
global line x = syntax.Name line (syntax.Module x)

abbrev says : List ℕ → syntax.Expression
says x = operation 9 op.Call (global 9 (codes "print") ∷ syntax.Constant (value.Str x) ∷ [])

abbrev set : ℕ → syntax.Home → syntax.Expression → syntax.Statement
set line home v = syntax.Assign (syntax.AlsoTo (syntax.ToName line home) syntax.NoTarget) v

abbrev text : List ℕ → syntax.Expression
text x = syntax.Constant (value.Str x)

abbrev sends : ℕ → List ℕ → syntax.Expression → List ℕ → syntax.Expression
sends line name x g = operation line op.Call (operation line op.Attr (global line g ∷ text name ∷ []) ∷ x ∷ [])

-- if x == n: print(text)
abbrev prints_if : syntax.Expression → ℕ → List ℕ → syntax.Statement
prints_if x n said = syntax.If 9 (operation 9 op.Eq (x ∷ int n ∷ [])) (does (syntax.Evaluate (says said) ∷ [])) syntax.Done

abbrev defines : ℕ → List ℕ → ℕ → syntax.Statement
defines line name number = syntax.Define line [] (syntax.Function line number syntax.NoMore syntax.NoKeyword []) (syntax.Module name)

-- 1 def counter():
-- 2     n = 0
-- 3     def add(by=2):
-- 4         nonlocal n
-- 5         n += by
-- 6         return n
-- 7     return add
-- 8 a = counter(); a(3)
-- 9 if a() == 5: print("five")
closures : run 4 (script (defines 1 (codes "counter") 1 ∷ set 8 (syntax.Module (codes "a")) (operation 8 op.Call (global 8 (codes "counter") ∷ [])) ∷ syntax.Evaluate (operation 8 op.Call (global 8 (codes "a") ∷ int 3 ∷ [])) ∷ prints_if (operation 9 op.Call (global 9 (codes "a") ∷ [])) 5 (codes "five") ∷ [])
    ∷ code (codes "counter") 1 [] false 1 (None ∷ []) 0 (set 2 (syntax.Own 0 (codes "n")) (int 0)
    ∷ syntax.Define 3 [] (syntax.Function 3 2 (listed (int 2 ∷ [])) syntax.NoKeyword (syntax.OwnCell 0 ∷ [])) (syntax.Local 0 (codes "add"))
    ∷ syntax.Return (syntax.Name 7 (syntax.Local 0 (codes "add"))) ∷ [])
    ∷ code (codes "add") 3 (codes "by" ∷ []) false 1 [] 1 (syntax.Augment 5 op.IAdd (syntax.ToName 5 (syntax.Free 0 (codes "n"))) (syntax.Name 5 (syntax.Local 0 (codes "by")))
    ∷ syntax.Return (syntax.Name 6 (syntax.Free 0 (codes "n"))) ∷ []) ∷ []) ≡ Ended (codes "five\n") end.Done
closures = refl

-- 1 def g():
-- 2     x = 1 + (yield 2)
-- 3     if x == 6: print("six")
-- 4     yield x
-- 5 i = g()
-- 6 next(i)
-- 7 i.send(5)
pauses_in_a_sum : run 4 (script (defines 1 (codes "g") 1 ∷ set 5 (syntax.Module (codes "i")) (operation 5 op.Call (global 5 (codes "g") ∷ [])) ∷ syntax.Evaluate (operation 6 op.Next (global 6 (codes "i") ∷ [])) ∷ syntax.Evaluate (sends 7 (codes "send") (int 5) (codes "i")) ∷ [])
    ∷ code (codes "g") 1 [] true 1 [] 0 (set 2 (syntax.Local 0 (codes "x")) (operation 2 op.Add (int 1 ∷ syntax.Yield 2 (int 2) ∷ []))
    ∷ prints_if (syntax.Name 3 (syntax.Local 0 (codes "x"))) 6 (codes "six") ∷ syntax.Evaluate (syntax.Yield 4 (syntax.Name 4 (syntax.Local 0 (codes "x")))) ∷ []) ∷ []) ≡ Ended (codes "six\n") end.Done
pauses_in_a_sum = refl

-- 1 def g(): yield 1
-- 2 i = g()
-- 3 i.throw(ValueError)
thrown_into_a_fresh_one : run 4 (script (defines 1 (codes "g") 1 ∷ set 2 (syntax.Module (codes "i")) (operation 2 op.Call (global 2 (codes "g") ∷ [])) ∷ syntax.Evaluate (sends 3 (codes "throw") (operation 3 op.Exc (operation 3 op.Native (text (codes "ValueError") ∷ []) ∷ [])) (codes "i")) ∷ [])
    ∷ code (codes "g") 1 [] true 0 [] 0 (syntax.Evaluate (syntax.Yield 1 (int 1)) ∷ []) ∷ [])
    ≡ Ended [] (end.Uncaught (codes "Traceback (most recent call last):\n" ++ entries_text (codes "t.py") (record { line = 3; scope = codes "<module>" } ∷ record { line = 1; scope = codes "g" } ∷ []) ++ codes "ValueError" ++ codes "\n"))
thrown_into_a_fresh_one = refl

-- 1 def f():
-- 2     try: return 1
-- 3     finally: print("last")
-- 4 if f() == 1: print("one")
finally_with_return : run 4 (script (defines 1 (codes "f") 1 ∷ prints_if (operation 4 op.Call (global 4 (codes "f") ∷ [])) 1 (codes "one") ∷ [])
    ∷ code (codes "f") 1 [] false 0 [] 0 (syntax.Finally (does (syntax.Return (int 1) ∷ [])) (does (syntax.Evaluate (says (codes "last")) ∷ [])) ∷ []) ∷ []) ≡ Ended (codes "last\none\n") end.Done
finally_with_return = refl

-- 1 def g():
-- 2     yield 1
-- 3     yield 2
-- 4 [print("x") for i in g()]
comprehension : run 9 (script (defines 1 (codes "g") 1 ∷ syntax.Evaluate (syntax.Comprehension 4 2 (operation 4 op.Call (global 4 (codes "g") ∷ [])) []) ∷ [])
    ∷ code (codes "g") 1 [] true 0 [] 0 (syntax.Evaluate (syntax.Yield 2 (int 1)) ∷ syntax.Evaluate (syntax.Yield 3 (int 2)) ∷ [])
    ∷ record { header = record { scope = codes "<listcomp>"; params = (param.Only, codes ".0") ∷ []; generator = false; line = 4 }; locals = 2; owns = []; frees = 0; body = syntax.Collect 4 (Some op.List) (syntax.ToName 4 (syntax.Local 1 (codes "i"))) (syntax.Push (says (codes "x"))) } ∷ [])
    ≡ Ended (codes "x\nx\n") end.Done
comprehension = refl

-- 1 def inner():
-- 2     return (yield 1)
-- 3 def outer():
-- 4     if (yield from inner()) == 7: print("seven")
-- 5 i = outer()
-- 6 next(i)
-- 7 i.send(7)
yields_from : run 9 (script (defines 1 (codes "inner") 1 ∷ defines 3 (codes "outer") 2 ∷ set 5 (syntax.Module (codes "i")) (operation 5 op.Call (global 5 (codes "outer") ∷ [])) ∷ syntax.Evaluate (operation 6 op.Next (global 6 (codes "i") ∷ [])) ∷ syntax.Evaluate (sends 7 (codes "send") (int 7) (codes "i")) ∷ [])
    ∷ code (codes "inner") 1 [] true 0 [] 0 (syntax.Return (syntax.Yield 2 (int 1)) ∷ [])
    ∷ code (codes "outer") 3 [] true 0 [] 0 (prints_if (syntax.YieldFrom 4 (operation 4 op.Call (global 4 (codes "inner") ∷ []))) 7 (codes "seven") ∷ []) ∷ [])
    ≡ Ended (codes "seven\n") (end.Uncaught (codes "Traceback (most recent call last):\n" ++ entries_text (codes "t.py") (record { line = 7; scope = codes "<module>" } ∷ []) ++ codes "StopIteration" ++ codes "\n"))
yields_from = refl
