use Rattle.std.proofs.Common.{arith, ℕ, List, ◌+◌}
use Rattle.c_meaning.specs.declared.program.Function.{Function}
use Rattle.c_meaning.specs.declared.program.CProgram.{CProgram}
use Rattle.c_meaning.specs.Text.{numbered, function_text}
use Rattle.c_meaning.specs.Written.{IsText}
use Rattle.c_reader.specs.Programs.{HeadingStands, FunctionsStand}
use Rattle.c_reader.proofs.Passed.{passed}
use Rattle.c_reader.proofs.Programs.{text_heading, text_functions, text_of}
use Rattle.c_reader.proofs.reader.program.Goals as goal

pub returns-in_err-name-clause-not_c : goal.returns-in_err-name-clause-not_c
returns-in_err-name-clause-not_c c =
    let text = c.args.text.now in
    passed c.from_residual.result c.in_err-name.field-0.0 ((name : List ℕ) (scripts builtins : ℕ) (rest : List ℕ) → HeadingStands text name scripts builtins rest → ⊥) ((p : CProgram) → IsText text p → ⊥) c.from_residual.ensures.1
    (λ none p t. none p.name p.scripts p.builtins (numbered function_text 0 p.functions) (text_heading text p t)) c.in_err-name.ensures.not_c

pub returns-in_err-functions-clause-not_c : goal.returns-in_err-functions-clause-not_c
returns-in_err-functions-clause-not_c c =
    let text = c.args.text.now in
    let rest = c.in_ok-name.behind.now in
    let count = c.from.result + c.from-2.result in
    passed c.from_residual-in_err-functions.result c.in_err-functions.field-0.0 ((found : List Function) → FunctionsStand count rest found → ⊥) ((p : CProgram) → IsText text p → ⊥) c.from_residual-in_err-functions.ensures.1
    (λ none p t. none p.functions (text_functions text c.in_ok-name.name c.in_ok-name.scripts c.in_ok-name.builtins count rest p (omega (arith, c.from.ensures, c.from-2.ensures)) c.in_ok-name.ensures.ok t)) c.in_err-functions.ensures.not_c

pub returns-clause-ok : goal.returns-clause-ok
returns-clause-ok c =
    text_of c.args.text.now c.in_ok-name.name c.in_ok-name.scripts c.in_ok-name.builtins (c.from.result + c.from-2.result) c.in_ok-name.behind.now c.in_ok-functions.functions (omega (arith, c.from.ensures, c.from-2.ensures)) c.in_ok-name.ensures.ok c.in_ok-functions.ensures.ok
