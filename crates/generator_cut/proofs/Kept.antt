-- What a program keeps of flat code: headers, operations, constants and pauses.
use Rattle.std.proofs.Common.{◌≡◌, ℕ, ◌+◌, ◌-◌, ◌≤◌, List, [], ◌∷◌, Bool, true, false, map, length, refl, ap, ◌∙◌, arith}
use Rattle.op_forms.specs.declared.constant.Const.{Const}
use Rattle.op_forms.specs.declared.op.Op.{Op}
use Rattle.flow_code.specs.declared.function.FlatFunction.{FlatFunction}
use Rattle.flow_code.specs.declared.function.FlatScript.{FlatScript}
use Rattle.flow_code.specs.declared.statement.Line as flat_line
use Rattle.flow_code.specs.declared.statement.Line.TheVariants.{Label, Do}
use Rattle.flow_code.specs.declared.statement.Statement as flat_statement
use Rattle.flow_code.specs.declared.statement.Statement.TheVariants as flat
use Rattle.flow_code.specs.Contents as cut
use Rattle.flow_code.specs.Run.{header}
use Rattle.code_forms.specs.declared.operand.Argument.{Argument}
use Rattle.c_meaning.specs.declared.program.Line.{Line}
use Rattle.code_forms.specs.declared.operand.Operand.TheVariants as read
use Rattle.c_meaning.specs.declared.program.Statement.{Statement}
use Rattle.c_meaning.specs.declared.program.Statement.TheVariants as statement
use Rattle.c_meaning.specs.declared.program.Stored.TheVariants as stored
use Rattle.c_meaning.specs.Run.{header_of}
use Rattle.generator_cut.specs.Contents as c
use Rattle.generator_cut.specs.Correct.{HasHeads, KeepsEach}
use Rattle.generator_cut.specs.Cut.{Plan, saves, loads, clears, becomes, behind, lines, base_of, body_lines, body_of_kind, function_of, program_of, all_saved}

-- the statement that stands for one of flat code; a pause, with its number, stands for a yield statement
abbrev one : ℕ → flat_statement.Statement → Statement
one n (flat.Store to a) = statement.Store to (stored.Value a)
one n (flat.Unset to) = statement.Store to stored.Unset
one n (flat.Parameter to i) = statement.Store to (stored.Parameter i)
one n (flat.Free to i) = statement.Store to (stored.Free i)
one n (flat.Do to at o args fail) = statement.Store to (stored.Operation o at args fail)
one n (flat.Goto l) = statement.Goto l
one n (flat.Branch a l) = statement.Branch a l
one n (flat.Caught to) = statement.Store to stored.Caught
one n (flat.Again a l) = statement.Again a l
one n (flat.Give a) = statement.Give a
one n flat.End = statement.End
one n flat.Fail = statement.Fail
one n (flat.Yield to at a fail) = statement.Pause n a

-- counts that find nothing in what a pause adds
record Counts (count : Statement → ℕ) (counted : flat_statement.Statement → ℕ) : Type 0 where
  save : (slot r : ℕ) → count (statement.Save slot (read.Temp r)) ≡ 0
  load : (to slot : ℕ) → count (statement.Store to (stored.Load slot)) ≡ 0
  unset : (to : ℕ) → count (statement.Store to stored.Unset) ≡ 0
  sent : (to at fail : ℕ) → count (statement.Store to (stored.Sent at fail)) ≡ 0
  switch : (labels : List ℕ) → count (statement.Switch labels) ≡ 0
  each : (n : ℕ) (x : flat_statement.Statement) → count (one n x) ≡ counted x

sum_is : {a b k n : ℕ} → a ≡ b → k ≡ n → a + k ≡ b + n
sum_is e f = omega (arith, e, f)

nothing_more : {a k n : ℕ} → a ≡ 0 → k ≡ n → a + k ≡ n
nothing_more e f = omega (arith, e, f)

module _ (count : Statement → ℕ) (counted : flat_statement.Statement → ℕ) (known : Counts count counted) where
  total_saves : (n : ℕ) (rs : List ℕ) (rest : List Line) → c.total count (saves n rs rest) ≡ c.total count rest
  total_saves n [] rest = refl
  total_saves n (r ∷ rs) rest = nothing_more (known.save n r) (total_saves (n + 1) rs rest)

  total_loads : (n : ℕ) (rs : List ℕ) (rest : List Line) → c.total count (loads n rs rest) ≡ c.total count rest
  total_loads n [] rest = refl
  total_loads n (r ∷ rs) rest = nothing_more (known.load r n) (total_loads (n + 1) rs rest)

  total_clears : (rs : List ℕ) (rest : List Line) → c.total count (clears rs rest) ≡ c.total count rest
  total_clears [] rest = refl
  total_clears (r ∷ rs) rest = nothing_more (known.unset r) (total_clears rs rest)

  total_becomes : (base i : ℕ) (rs : List ℕ) (x : flat_statement.Statement) (rest : List Line) → c.total count (becomes base rs i x rest) ≡ counted x + c.total count rest
  total_becomes base i rs (flat.Store to a) rest = sum_is (known.each 0 (flat.Store to a)) refl
  total_becomes base i rs (flat.Unset to) rest = sum_is (known.each 0 (flat.Unset to)) refl
  total_becomes base i rs (flat.Parameter to n) rest = sum_is (known.each 0 (flat.Parameter to n)) refl
  total_becomes base i rs (flat.Free to n) rest = sum_is (known.each 0 (flat.Free to n)) refl
  total_becomes base i rs (flat.Do to at o args fail) rest = sum_is (known.each 0 (flat.Do to at o args fail)) refl
  total_becomes base i rs (flat.Goto l) rest = sum_is (known.each 0 (flat.Goto l)) refl
  total_becomes base i rs (flat.Branch a l) rest = sum_is (known.each 0 (flat.Branch a l)) refl
  total_becomes base i rs (flat.Caught to) rest = sum_is (known.each 0 (flat.Caught to)) refl
  total_becomes base i rs (flat.Again a l) rest = sum_is (known.each 0 (flat.Again a l)) refl
  total_becomes base i rs (flat.Give a) rest = sum_is (known.each 0 (flat.Give a)) refl
  total_becomes base i rs flat.End rest = sum_is (known.each 0 flat.End) refl
  total_becomes base i rs flat.Fail rest = sum_is (known.each 0 flat.Fail) refl
  total_becomes base i rs (flat.Yield to at a fail) rest =
      total_saves 0 rs _ ∙ sum_is (known.each (i + 1) (flat.Yield to at a fail)) (total_loads 0 rs _ ∙ nothing_more (known.sent to at fail) refl)

  total_lines : (base : ℕ) (saved : flat_statement.Statement → List flat_line.Line → List ℕ) (i : ℕ) (left : List flat_line.Line) → c.total count (lines base saved i left) ≡ cut.total counted left
  total_lines base saved i [] = refl
  total_lines base saved i (Label l ∷ left) = total_lines base saved i left
  total_lines base saved i (Do x ∷ left) = total_becomes base i (saved x left) x _ ∙ ap (λ n. counted x + n) (total_lines base saved (behind i x) left)

  total_body : (b : Bool) (p : Plan) (f : FlatFunction) → c.total count (body_of_kind b p f) ≡ cut.total counted f.body
  total_body true p f = nothing_more (known.switch _) (total_clears p.cleared (body_lines p f) ∙ total_lines (base_of f) p.saved 0 f.body)
  total_body false p f = total_lines (base_of f) p.saved 0 f.body

operations_in : (test : Op → List Argument → Bool) (n : ℕ) (x : flat_statement.Statement) → c.statement_operations test (one n x) ≡ cut.statement_operations test x
operations_in test n (flat.Store to a) = refl
operations_in test n (flat.Unset to) = refl
operations_in test n (flat.Parameter to i) = refl
operations_in test n (flat.Free to i) = refl
operations_in test n (flat.Do to at o args fail) = refl
operations_in test n (flat.Goto l) = refl
operations_in test n (flat.Branch a l) = refl
operations_in test n (flat.Caught to) = refl
operations_in test n (flat.Again a l) = refl
operations_in test n (flat.Give a) = refl
operations_in test n flat.End = refl
operations_in test n flat.Fail = refl
operations_in test n (flat.Yield to at a fail) = refl

constants_in : (test : Const → Bool) (n : ℕ) (x : flat_statement.Statement) → c.statement_constants test (one n x) ≡ cut.statement_constants test x
constants_in test n (flat.Store to a) = refl
constants_in test n (flat.Unset to) = refl
constants_in test n (flat.Parameter to i) = refl
constants_in test n (flat.Free to i) = refl
constants_in test n (flat.Do to at o args fail) = refl
constants_in test n (flat.Goto l) = refl
constants_in test n (flat.Branch a l) = refl
constants_in test n (flat.Caught to) = refl
constants_in test n (flat.Again a l) = refl
constants_in test n (flat.Give a) = refl
constants_in test n flat.End = refl
constants_in test n flat.Fail = refl
constants_in test n (flat.Yield to at a fail) = refl

pauses_in : (n : ℕ) (x : flat_statement.Statement) → c.statement_pauses (one n x) ≡ cut.statement_yields x
pauses_in n (flat.Store to a) = refl
pauses_in n (flat.Unset to) = refl
pauses_in n (flat.Parameter to i) = refl
pauses_in n (flat.Free to i) = refl
pauses_in n (flat.Do to at o args fail) = refl
pauses_in n (flat.Goto l) = refl
pauses_in n (flat.Branch a l) = refl
pauses_in n (flat.Caught to) = refl
pauses_in n (flat.Again a l) = refl
pauses_in n (flat.Give a) = refl
pauses_in n flat.End = refl
pauses_in n flat.Fail = refl
pauses_in n (flat.Yield to at a fail) = refl

operations_counted : (test : Op → List Argument → Bool) → Counts (c.statement_operations test) (cut.statement_operations test)
operations_counted test = record { save = λ slot r. refl; load = λ to slot. refl; unset = λ to. refl; sent = λ to at fail. refl; switch = λ labels. refl; each = operations_in test }

constants_counted : (test : Const → Bool) → Counts (c.statement_constants test) (cut.statement_constants test)
constants_counted test = record { save = λ slot r. refl; load = λ to slot. refl; unset = λ to. refl; sent = λ to at fail. refl; switch = λ labels. refl; each = constants_in test }

pauses_counted : Counts c.statement_pauses cut.statement_yields
pauses_counted = record { save = λ slot r. refl; load = λ to slot. refl; unset = λ to. refl; sent = λ to at fail. refl; switch = λ labels. refl; each = pauses_in }

pub keeps_each : (fs : List FlatFunction) → KeepsEach fs (map (λ f. function_of (all_saved f) f) fs)
keeps_each [] = tt
keeps_each (f ∷ fs) = (
  record {
    registers = refl;
    operations = λ test. total_body _ _ (operations_counted test) f.header.generator (all_saved f) f;
    constants = λ test. total_body _ _ (constants_counted test) f.header.generator (all_saved f) f;
    pauses = total_body _ _ pauses_counted f.header.generator (all_saved f) f;
  },
  keeps_each fs,
)

headers_are : (fs : List FlatFunction) → map header_of (map (λ f. function_of (all_saved f) f) fs) ≡ map header fs
headers_are [] = refl
headers_are (f ∷ fs) = ap (λ hs. header f ∷ hs) (headers_are fs)

pub all_counted : (scripts all : ℕ) → scripts ≤ all → scripts + (all - scripts) ≡ all
all_counted scripts all h = omega (arith, h)

pub heads_are : (script : FlatScript) → script.scripts ≤ length script.functions → HasHeads script (program_of all_saved script)
heads_are script h = record { name = refl; scripts = refl; all = all_counted script.scripts (length script.functions) h; headers = headers_are script.functions }
