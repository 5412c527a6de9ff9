-- The program of flat code has a text.
use Rattle.std.proofs.Common.{◌≡◌, ℕ, ◌+◌, ◌<◌, ◌≤◌, ◌^◌, List, [], ◌∷◌, ◌++◌, Bool, true, false, not, nat_eq, if◌then◌else◌, map, length, refl, sym, ap, ◌∙◌, subst, arith}
use Rattle.std.specs.Prelude.{◌||◌}
use Rattle.std.proofs.lemmas.List.{length-map}
use Rattle.std.specs.List.{AllByRecursion, flat_map}
use Rattle.nu_value.specs.declared.header.Header.{Header}
use Rattle.nu_value.specs.declared.header.ParamKind.{ParamKind}
use Rattle.flow_code.specs.declared.function.FlatFunction.{FlatFunction}
use Rattle.flow_code.specs.declared.function.FlatScript.{FlatScript}
use Rattle.code_forms.specs.declared.operand.Argument.{Argument}
use Rattle.code_forms.specs.declared.operand.Argument.TheVariants as argument
use Rattle.flow_code.specs.declared.statement.Line as flat_line
use Rattle.flow_code.specs.declared.statement.Line.TheVariants.{Label, Do}
use Rattle.code_forms.specs.declared.operand.Operand.{Operand}
use Rattle.code_forms.specs.declared.operand.Operand.TheVariants as operand
use Rattle.flow_code.specs.declared.statement.Statement as flat_statement
use Rattle.flow_code.specs.declared.statement.Statement.TheVariants as flat
use Rattle.flow_code.specs.Contents.{statement_operations, statement_yields, yields}
use Rattle.flow_code.specs.Labels.{stands, LabelsOnce}
use Rattle.flow_code.specs.Registers.{operand_reads, argument_reads, arguments_read, reads, writes, line_registers, registers}
use Rattle.flow_code.specs.Run.{header}
use Rattle.flow_code.specs.WellFormed.{WellFormed, HasRoom}
use Rattle.c_meaning.specs.declared.program.Line.{Line}
use Rattle.c_meaning.specs.Written.{IsNumber, IsOperand, IsArgument, IsBodyLine, Once, has, label_of, IsParam, IsHeader, IsFunction, IsProgram}
use Rattle.generator_cut.specs.Cut.{Plan, saves, loads, clears, becomes, behind, lines, counted, base_of, body_lines, body_of_kind, slots_of_kind, function_of, program_of, all_saved}
use Rattle.code_forms.specs.Fits.{OperandFits, ArgumentFits, ParamFits, HeaderFits}
use Rattle.code_forms.specs.Taking.{is_taken}
use Rattle.generator_cut.specs.Fits.{StatementFits, LineFits, FunctionFits, ScriptFits}
use Rattle.generator_cut.specs.Writable.{IsCounted, IsNamed, IsHeading, refused}
use Rattle.generator_cut.proofs.AllSaved.{counted_all, counted_length}
use Rattle.generator_cut.proofs.Emitted.{yields_more}
use Rattle.generator_cut.proofs.Kept.{all_counted}
use Rattle.generator_cut.proofs.Places.{all_front, all_back, same_other, equal_self, not_equal, Low, low, low_more}

-- numbers below so many
abbrev Below : ℕ → List ℕ → Type 0
Below n = AllByRecursion (λ r. r < n)

operand_is : (n : ℕ) (a : Operand) → OperandFits a → Below n (operand_reads a) → IsOperand n a
operand_is n (operand.Temp r) fit below = below.0
operand_is n (operand.Const c) fit below = fit

argument_is : (n : ℕ) (a : Argument) → ArgumentFits a → Below n (argument_reads a) → IsArgument n a
argument_is n (argument.Value a) fit below = operand_is n a fit below
argument_is n (argument.Name name) fit below = fit

arguments_are : (n : ℕ) (args : List Argument) → AllByRecursion ArgumentFits args → Below n (arguments_read args) → AllByRecursion (IsArgument n) args
arguments_are n [] fit below = tt
arguments_are n (a ∷ args) fit below = (
  argument_is n a fit.0 (all_front (λ r. r < n) (argument_reads a) (arguments_read args) below),
  arguments_are n args fit.1 (all_back (λ r. r < n) (argument_reads a) (arguments_read args) below),
)

-- operations that no test refuses
abbrev Zero : ℕ → Type 0
Zero n = n ≡ 0

not_refused : (b : Bool) → Zero (if not b then 1 else 0) → b ≡ true
not_refused true e = refl
not_refused false e = absurd (omega (arith, e))

none_left : (a n : ℕ) → a + n ≡ 0 → (a ≡ 0) × (n ≡ 0)
none_left a n e = (omega (arith, e), omega (arith, e))

abbrev Untaken : flat_statement.Statement → Type 0
Untaken x = statement_operations (λ o args. not (is_taken o args)) x ≡ 0

-- Lines

abbrev Lines : ℕ → List Line → Type 0
Lines n = AllByRecursion (IsBodyLine n)

saves_are : (n slot : ℕ) (rs : List ℕ) (rest : List Line) → Below n rs → slot + length rs ≤ 2 ^ 64 → Lines n rest → Lines n (saves slot rs rest)
saves_are n slot [] rest below room h = h
saves_are n slot (r ∷ rs) rest below room h = ((omega (arith, room), below.0), saves_are n (slot + 1) rs rest below.1 (omega (arith, room)) h)

loads_are : (n slot : ℕ) (rs : List ℕ) (rest : List Line) → Below n rs → slot + length rs ≤ 2 ^ 64 → Lines n rest → Lines n (loads slot rs rest)
loads_are n slot [] rest below room h = h
loads_are n slot (r ∷ rs) rest below room h = ((below.0, omega (arith, room)), loads_are n (slot + 1) rs rest below.1 (omega (arith, room)) h)

clears_are : (n : ℕ) (rs : List ℕ) (rest : List Line) → Below n rs → Lines n rest → Lines n (clears rs rest)
clears_are n [] rest below h = h
clears_are n (r ∷ rs) rest below h = ((below.0, tt), clears_are n rs rest below.1 h)

module _ (n base : ℕ) where
  becomes_is : (i : ℕ) (rs : List ℕ) (x : flat_statement.Statement) (rest : List Line) → Below n rs → 0 + length rs ≤ 2 ^ 64 → StatementFits x → Below n (writes x ++ reads x) → Untaken x → base + i + statement_yields x < 2 ^ 64 → Lines n rest
      → Lines n (becomes base rs i x rest)
  becomes_is i rs (flat.Store to a) rest small long fit below taken room h = ((below.0, operand_is n a fit below.1), h)
  becomes_is i rs (flat.Unset to) rest small long fit below taken room h = ((below.0, tt), h)
  becomes_is i rs (flat.Parameter to k) rest small long fit below taken room h = ((below.0, fit), h)
  becomes_is i rs (flat.Free to k) rest small long fit below taken room h = ((below.0, fit), h)
  becomes_is i rs (flat.Do to at o args fail) rest small long fit below taken room h =
      ((below.0, record { line = fit.0; each = arguments_are n args fit.1 below.1; taken = not_refused (is_taken o args) taken; label = fit.2 }), h)
  becomes_is i rs (flat.Goto l) rest small long fit below taken room h = (fit, h)
  becomes_is i rs (flat.Branch a l) rest small long fit below taken room h = ((operand_is n a fit.0 below, fit.1), h)
  becomes_is i rs (flat.Caught to) rest small long fit below taken room h = ((below.0, tt), h)
  becomes_is i rs (flat.Again a l) rest small long fit below taken room h = ((operand_is n a fit.0 below, fit.1), h)
  becomes_is i rs (flat.Give a) rest small long fit below taken room h = (operand_is n a fit below, h)
  becomes_is i rs flat.End rest small long fit below taken room h = (tt, h)
  becomes_is i rs flat.Fail rest small long fit below taken room h = (tt, h)
  becomes_is i rs (flat.Yield to at a fail) rest small long fit below taken room h =
      saves_are n 0 rs _ small long ((omega (arith, room), operand_is n a fit.1 below.1), (omega (arith, room), loads_are n 0 rs _ small long ((below.0, (fit.0, fit.2)), h)))

  module _ (saved : flat_statement.Statement → List flat_line.Line → List ℕ) (small : (x : flat_statement.Statement) (left : List flat_line.Line) → Below n (saved x left)) (long : (x : flat_statement.Statement) (left : List flat_line.Line) → 0 + length (saved x left) ≤ 2 ^ 64) where
    lines_are : (i : ℕ) (left : List flat_line.Line) → AllByRecursion LineFits left → Below n (registers left) → refused left ≡ 0 → base + i + yields left < 2 ^ 64 → Lines n (lines base saved i left)
    lines_are i [] fit below taken room = tt
    lines_are i (Label l ∷ left) fit below taken room = (fit.0, lines_are i left fit.1 below taken room)
    lines_are i (Do x ∷ left) fit below taken room =
        let t = none_left (statement_operations (λ o args. not (is_taken o args)) x) (refused left) taken in
        let more = yields_more i (Do x) left in
        becomes_is i (saved x left) x _ (small x left) (long x left) fit.0 (all_front (λ r. r < n) (line_registers (Do x)) (registers left) below) t.0 (omega (arith, room))
        (lines_are (behind i x) left fit.1 (all_back (λ r. r < n) (line_registers (Do x)) (registers left) below) t.1 (omega (arith, room, more)))

-- Labels that stand once

abbrev labels_of : List Line → List ℕ
labels_of code = flat_map label_of code

labels_saves : (slot : ℕ) (rs : List ℕ) (rest : List Line) → labels_of (saves slot rs rest) ≡ labels_of rest
labels_saves slot [] rest = refl
labels_saves slot (r ∷ rs) rest = labels_saves (slot + 1) rs rest

labels_loads : (slot : ℕ) (rs : List ℕ) (rest : List Line) → labels_of (loads slot rs rest) ≡ labels_of rest
labels_loads slot [] rest = refl
labels_loads slot (r ∷ rs) rest = labels_loads (slot + 1) rs rest

labels_clears : (rs : List ℕ) (rest : List Line) → labels_of (clears rs rest) ≡ labels_of rest
labels_clears [] rest = refl
labels_clears (r ∷ rs) rest = labels_clears rs rest

-- the label that a pause adds
abbrev mark_of : ℕ → flat_statement.Statement → List ℕ
mark_of l (flat.Yield to at a fail) = l ∷ []
mark_of l other = []

labels_becomes : (base i : ℕ) (rs : List ℕ) (x : flat_statement.Statement) (rest : List Line) → labels_of (becomes base rs i x rest) ≡ mark_of (base + i) x ++ labels_of rest
labels_becomes base i rs (flat.Yield to at a fail) rest = labels_saves 0 rs _ ∙ ap (λ ls. (base + i) ∷ ls) (labels_loads 0 rs _)
labels_becomes base i rs other rest = refl

no_mark : (x : flat_statement.Statement) (l k : ℕ) (ls : List ℕ) → l < k → has ls l ≡ false → has (mark_of k x ++ ls) l ≡ false
no_mark (flat.Yield to at a fail) l k ls lt h = ap (λ b. b || has ls l) (not_equal k l (λ e. omega (arith, e, lt))) ∙ h
no_mark other l k ls lt h = h

behind_more : (x : flat_statement.Statement) (i : ℕ) → i ≤ behind i x
behind_more (flat.Yield to at a fail) i = omega arith
behind_more other i = omega arith

no_one : (b : Bool) (n : ℕ) → b ≡ false → n ≡ 0 → (if b then 1 else 0) + n ≡ 0
no_one true n e f = cc
no_one false n e f = omega (arith, f)

none_low : (base l : ℕ) (left : List flat_line.Line) → Low base left → base ≤ l → stands l left ≡ 0
none_low base l [] h le = refl
none_low base l (Label k ∷ left) h le = no_one (nat_eq l k) (stands l left) (not_equal l k (λ e. omega (arith, e, h.0, le))) (none_low base l left h.1 le)
none_low base l (Do x ∷ left) h le = none_low base l left h le

itself : (b : Bool) (n : ℕ) → b ≡ true → (if b then 1 else 0) + n ≤ 1 → n ≡ 0
itself true n e h = omega (arith, h)
itself false n e h = cc

fewer : (a n : ℕ) → a + n ≤ 1 → n ≤ 1
fewer a n h = omega (arith, h)

module _ (base : ℕ) (saved : flat_statement.Statement → List flat_line.Line → List ℕ) where
  not_among : (i l : ℕ) (left : List flat_line.Line) → stands l left ≡ 0 → l < base + i → has (labels_of (lines base saved i left)) l ≡ false
  not_among i l [] e lt = refl
  not_among i l (Label k ∷ left) e lt = go (nat_eq l k) refl e (λ f. not_among i l left f lt)
    where
      go : (b : Bool) → nat_eq l k ≡ b → Zero ((if b then 1 else 0) + stands l left) → (stands l left ≡ 0 → has (labels_of (lines base saved i left)) l ≡ false) → (nat_eq k l || has (labels_of (lines base saved i left)) l) ≡ false
      go true s e others = absurd (omega (arith, e))
      go false s e others = ap (λ b. b || has (labels_of (lines base saved i left)) l) (sym (same_other l k) ∙ s) ∙ others (omega (arith, e))
  not_among i l (Do x ∷ left) e lt =
      let more = behind_more x i in
      ap (λ ls. has ls l) (labels_becomes base i (saved x left) x _) ∙ no_mark x l (base + i) _ lt (not_among (behind i x) l left e (omega (arith, lt, more)))

  once_do : (i : ℕ) (x : flat_statement.Statement) (left : List flat_line.Line) → Low base left → Once (labels_of (lines base saved (behind i x) left)) → Once (mark_of (base + i) x ++ labels_of (lines base saved (behind i x) left))
  once_do i (flat.Yield to at a fail) left low h = (not_among (i + 1) (base + i) left (none_low base (base + i) left low (omega arith)) (omega arith), h)
  once_do i other left low h = h

  once_lines : (i : ℕ) (left : List flat_line.Line) → LabelsOnce left → Low base left → Once (labels_of (lines base saved i left))
  once_lines i [] h low = tt
  once_lines i (Label k ∷ left) h low = (not_among i k left (itself (nat_eq k k) (stands k left) (equal_self k) (h k)) (omega (arith, low.0)), once_lines i left (λ l. fewer (if nat_eq l k then 1 else 0) (stands l left) (h l)) low.1)
  once_lines i (Do x ∷ left) h low = subst Once (sym (labels_becomes base i (saved x left) x _)) (once_do i x left low (once_lines (behind i x) left h low))

-- Functions

params_are : (params : List (ParamKind × List ℕ)) → AllByRecursion IsNamed params → AllByRecursion ParamFits params → AllByRecursion IsParam params
params_are [] named fit = tt
params_are (p ∷ params) named fit = (record { some = named.0.some; no_space = named.0.no_space; utf8 = fit.0 }, params_are params named.1 fit.1)

header_is : (h : Header) → IsHeading h → HeaderFits h → IsHeader h
header_is h heading fit = record { scope = fit.scope; params = params_are h.params heading.params fit.params; order = heading.order; from_one = heading.from_one; line = fit.line }

-- a plan's registers are the function's, and it has no more than its slots
record IsSmall (p : Plan) (f : FlatFunction) : Type 0 where
  saved : (x : flat_statement.Statement) (left : List flat_line.Line) → Below f.registers (p.saved x left)
  long : (x : flat_statement.Statement) (left : List flat_line.Line) → 0 + length (p.saved x left) ≤ 2 ^ 64
  cleared : Below f.registers p.cleared
  slots : IsNumber p.slots

all_small : (f : FlatFunction) → IsNumber f.registers → IsSmall (all_saved f) f
all_small f fit =
    let all : Below f.registers (counted f.registers 0) = counted_all (λ r. r < f.registers) f.registers 0 (λ r lt. omega (arith, lt)) in
    let many = counted_length f.registers 0 in
    record { saved = λ x left. all; long = λ x left. omega (arith, many, fit); cleared = all; slots = fit }

module _ (p : Plan) (f : FlatFunction) (small : IsSmall p f) (formed : WellFormed f) (room : HasRoom f) (fit : FunctionFits f) (taken : refused f.body ≡ 0) where
  lines_fit : Lines f.registers (body_lines p f)
  lines_fit = lines_are f.registers (base_of f) p.saved small.saved small.long 0 f.body fit.each formed.declared taken (omega (arith, room))

  body_is : (b : Bool) → Lines f.registers (body_of_kind b p f)
  body_is true =
      let many = counted_length (yields f.body) (base_of f) in (
        record { some = omega arith; few = omega (arith, many, room); each = (omega (arith, room), counted_all IsNumber (yields f.body) (base_of f) (λ r lt. omega (arith, lt, room))) },
        (omega (arith, room), clears_are f.registers p.cleared (body_lines p f) small.cleared lines_fit),
      )
  body_is false = lines_fit

  low_labels : Low f.labels f.body
  low_labels = low f.labels f.body formed.numbered

  once_left : Once (labels_of (body_lines p f))
  once_left = once_lines (base_of f) p.saved 0 f.body formed.once (low_more f.labels (base_of f) f.body (omega arith) low_labels)

  once_body : (b : Bool) → Once (labels_of (body_of_kind b p f))
  once_body true = (
    ap (λ ls. has ls f.labels) (labels_clears p.cleared (body_lines p f)) ∙ not_among (base_of f) p.saved 0 f.labels f.body (none_low f.labels f.labels f.body low_labels (omega arith)) (omega arith),
    subst Once (sym (labels_clears p.cleared (body_lines p f))) once_left,
  )
  once_body false = once_left

  slots_are : (b : Bool) → IsNumber (slots_of_kind b p)
  slots_are true = small.slots
  slots_are false = omega arith

  function_is : IsHeading (header f) → IsFunction (function_of p f)
  function_is heading = record { header = header_is (header f) heading fit.heading; slots = slots_are f.header.generator; registers = fit.registers; each = body_is f.header.generator; once = once_body f.header.generator }

functions_are : (fs : List FlatFunction) → AllByRecursion IsHeading (map header fs) → AllByRecursion (λ f. refused f.body ≡ 0) fs → AllByRecursion WellFormed fs → AllByRecursion HasRoom fs → AllByRecursion FunctionFits fs
    → AllByRecursion IsFunction (map (λ f. function_of (all_saved f) f) fs)
functions_are [] headings taken formed room fit = tt
functions_are (f ∷ fs) headings taken formed room fit =
    (function_is (all_saved f) f (all_small f fit.0.registers) formed.0 room.0 fit.0 taken.0 headings.0, functions_are fs headings.1 taken.1 formed.1 room.1 fit.1)

pub is_program : (script : FlatScript) → IsCounted script → AllByRecursion IsHeading (map header script.functions) → AllByRecursion (λ f. refused f.body ≡ 0) script.functions → AllByRecursion WellFormed script.functions → AllByRecursion HasRoom script.functions → ScriptFits script
    → IsProgram (program_of all_saved script)
is_program script known headings taken formed room fit =
    let all = all_counted script.scripts (length script.functions) known.within in
    record {
      name = fit.name;
      scripts = known.some;
      few = subst (λ n. n ≤ 65535) (sym all) known.few;
      all = length-map script.functions (λ f. function_of (all_saved f) f) ∙ sym all;
      each = functions_are script.functions headings taken formed room fit.each;
    }
