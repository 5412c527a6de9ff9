use Rattle.std.proofs.Common.{ℕ, List}
use Rattle.nu_value.specs.declared.header.Header.{Header}
use Rattle.c_meaning.specs.declared.program.Line.{Line}
use Rattle.c_meaning.specs.declared.program.Function.{Function}
use Rattle.c_reader.specs.Functions.{HeaderStands, BodyStands, FunctionStands}
use Rattle.c_reader.proofs.Heads.{body_text, function_header, function_body, function_of}
use Rattle.c_reader.proofs.Passed.{passed}
use Rattle.c_reader.proofs.function.function.Goals as goal

pub returns-in_err-header-clause-not_c : goal.returns-in_err-header-clause-not_c
returns-in_err-header-clause-not_c c =
    let text = c.args.text.now in
    let n = c.args.value in
    passed c.from_residual.result c.in_err-header.field-0.0 ((h : Header) (slots registers : ℕ) (rest : List ℕ) → HeaderStands n text h slots registers rest → ⊥) ((f : Function) (rest : List ℕ) → FunctionStands n text f rest → ⊥) c.from_residual.ensures.1
    (λ none f rest s. none f.header f.slots f.registers (body_text f rest) (function_header n text f rest s)) c.in_err-header.ensures.not_c

pub returns-in_err-body-clause-not_c : goal.returns-in_err-body-clause-not_c
returns-in_err-body-clause-not_c c =
    let text = c.args.text.now in
    let n = c.args.value in
    let behind = c.in_ok-header.behind.now in
    passed c.from_residual-in_err-body.result c.in_err-body.field-0.0 ((lines : List Line) (rest : List ℕ) → BodyStands c.in_ok-header.registers behind lines rest → ⊥) ((f : Function) (rest : List ℕ) → FunctionStands n text f rest → ⊥) c.from_residual-in_err-body.ensures.1
    (λ none f rest s. none f.body rest (function_body n text behind c.in_ok-header.header c.in_ok-header.slots c.in_ok-header.registers f rest c.in_ok-header.ensures.ok s)) c.in_err-body.ensures.not_c

pub returns-clause-ok : goal.returns-clause-ok
returns-clause-ok c =
    function_of c.args.value c.args.text.now c.in_ok-header.behind.now c.in_ok-header.header c.in_ok-header.slots c.in_ok-header.registers c.in_ok-body.body c.in_ok-body.rest.now c.in_ok-header.ensures.ok c.in_ok-body.ensures.ok
