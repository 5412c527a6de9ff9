-- What bodies do: those of modules, functions and classes, of lambdas and of comprehensions; and the language that they make up.
use Rattle.std.specs.Prelude.{ℕ, Bool, List, [], ◌∷◌, ◌++◌, map, length, replicate, ◌-◌, Option, Some, None, nat_le, ◌&&◌, if◌then◌else◌, slice_get, take}
use Rattle.nu_run.specs.Runs.{Run}
use Rattle.nu_value.specs.declared.value.Value.{Value}
use Rattle.nu_value.specs.declared.value.Value.TheVariants as value
use Rattle.op_forms.specs.declared.op.Op.{Op}
use Rattle.op_forms.specs.declared.op.Op.TheVariants as op
use Rattle.nu_rows.specs.Rows.{Leave, Undefined, Loop}
use Rattle.nu_rows.specs.Words.{then_value, ends_with, choose}
use Rattle.nu_calls.specs.Calls.{of_kind, operate, yields}
use Rattle.op_forms.specs.Rules.{Rules}
use Rattle.nu_calls.specs.Scripts.{Program, program_run}
use Rattle.py_meaning.specs.Syntax as syntax
use Rattle.py_meaning.specs.Frames.{Frame, Item, OfCode, WhileTurn, ForTurn, CollectTurn, DelegateTurn, R, L, at, reads, uses, changes, with_own}
use Rattle.py_meaning.specs.Expressions.{gives, truth, unless_stopped, next, expression, delegate_loop}
use Rattle.py_meaning.specs.Statements.{assign, returns, block, while_turn, for_turn}

-- Comprehensions (reference, section 6.2.4)

abbrev pub collect_turn : L → ℕ → Value → syntax.Target → R → R
collect_turn l line iterator target inner =
    unless_stopped l line (next l line iterator) (λ v. then_value (assign l v target) (λ w. inner)) (λ x. ends_with (Leave 0))

abbrev pub turns : L → ℕ → Value → syntax.Turns → R
turns l line into (syntax.Push x) = then_value (expression l x) (λ v. operate l line op.Push (into ∷ v ∷ []))
turns l line into (syntax.Put x y) = then_value (expression l x) (λ key. then_value (expression l y) (λ v. operate l line op.Put (into ∷ key ∷ v ∷ [])))
turns l line into (syntax.Emit x) = then_value (expression l x) (λ v. uses v (yields l line))
turns l line into (syntax.Ranging target over inner) =
    then_value (expression l over) (λ v. then_value (operate l line op.Iter (v ∷ [])) (λ iterator.
    Loop (collect_turn l line iterator target (turns l line into inner)) (CollectTurn line into iterator target inner)))
turns l line into (syntax.Filter test inner) =
    then_value (expression l test) (λ v. then_value (truth l line v) (λ b. choose b (turns l line into inner) (gives value.None)))

-- the first loop ranges over the iterator that the scope is handed
abbrev pub ranges : L → ℕ → Value → syntax.Target → syntax.Turns → R
ranges l line into target inner =
    then_value (reads (λ f. at f.locals 0)) (λ iterator. Loop (collect_turn l line iterator target (turns l line into inner)) (CollectTurn line into iterator target inner))

abbrev pub collects : L → ℕ → Option Op → syntax.Target → syntax.Turns → R
collects l line None target inner = ranges l line value.None target inner
collects l line (Some o) target inner =
    then_value (operate l line o []) (λ made. then_value (ranges l line made target inner) (λ v. returns made))

-- Codes

abbrev pub body_row : L → syntax.Body → R
body_row l (syntax.Statements body) = block l None body
body_row l (syntax.Value' x) = then_value (expression l x) returns
body_row l (syntax.Collect line into target inner) = collects l line into target inner

-- a cell of the frame is made, and holds a parameter, if it is one's
abbrev pub cell_filled : L → ℕ → Value → Option ℕ → R
cell_filled l line c None = gives value.None
cell_filled l line c (Some place) = then_value (reads (λ f. at f.locals place)) (λ v. operate l line op.CellSet (c ∷ v ∷ []))

-- the cells of the frame are made in their order, and then the body runs
abbrev pub with_cells : L → ℕ → List (Option ℕ) → R → R
with_cells l line [] body = body
with_cells l line (own ∷ owns) body =
    then_value (operate l line op.Cell []) (λ c. then_value (changes (with_own c)) (λ v. then_value (cell_filled l line c own) (λ w. with_cells l line owns body)))

abbrev pub code_row : L → Option syntax.Code → R
code_row l (Some code) = with_cells l code.header.line code.owns (body_row l code.body)
code_row l None = ends_with Undefined

-- the rows of items
abbrev pub item_row : L → List syntax.Code → Item → R
item_row l codes (OfCode code) = code_row l (slice_get codes code)
item_row l codes (WhileTurn line test body handled) =
    Loop (while_turn l line (expression l test) (block l handled body)) (WhileTurn line test body handled)
item_row l codes (ForTurn line iterator target body handled) =
    Loop (for_turn l line iterator target (block l handled body)) (ForTurn line iterator target body handled)
item_row l codes (CollectTurn line into iterator target inner) =
    Loop (collect_turn l line iterator target (turns l line into inner)) (CollectTurn line into iterator target inner)
item_row l codes (DelegateTurn line iterator) = delegate_loop l line iterator

-- a code of the kind that is asked for begins where there is a value for each of its parameters, and a cell for each that it has of
-- enclosing functions; its other local variables are Unset
abbrev pub begun_frame : Bool → ℕ → List Value → List Value → Option syntax.Code → Option Frame
begun_frame kind code given cells None = None
begun_frame kind code given cells (Some c) =
    if of_kind kind c.header.generator && (nat_le (length c.header.params) (length given) && nat_le c.frees (length cells))
    then Some (record { code = code; locals = take (length c.header.params) given ++ replicate (c.locals - length c.header.params) value.Unset; owns = []; frees = take c.frees cells; carried = value.None })
    else None

abbrev pub language : Rules → ℕ → List syntax.Code → L
language rules scripts codes = record {
  rules = rules;
  scripts = scripts;
  body = OfCode;
  frame = λ kind code given cells. begun_frame kind code given cells (slice_get codes code);
  code = λ f. f.code;
}

abbrev pub blank : Frame
blank = record { code = 0; locals = []; owns = []; frees = []; carried = value.None }

abbrev pub program : Rules → ℕ → List syntax.Code → Program Frame Item
program rules scripts codes = record {
  language = language rules scripts codes;
  rows = item_row (language rules scripts codes) codes;
  body = λ code. code_row (language rules scripts codes) (slice_get codes code);
  blank = blank;
  headers = map (λ code. code.header) codes;
}

-- the run of codes, of which so many are the script's, over an input
abbrev pub codes_run : Rules → List ℕ → ℕ → List syntax.Code → List ℕ → ℕ → Run
codes_run rules name scripts codes input = program_run (program rules scripts codes) name input
