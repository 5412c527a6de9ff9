use Rattle.std.proofs.Common.{◌<◌, ◌∙◌, sym, subst, arith, length}
use Rattle.std.proofs.lemmas.Result.{err_from_is_err_and}
use Rattle.py_lexer.specs.LogicalLines.{listed}
use Rattle.py_lexer.specs.Pieces.{pieces, end_line}
use Rattle.py_lexer.specs.Seen.{state, piece, Refused, Gives}
use Rattle.py_lexer.proofs.LineEnds.{most_front}
use Rattle.py_lexer.proofs.Passing.{pass_on, end_on, pass_stops, bad_after, bad_before, whole, pass_ends, is_there, refused_as}
use Rattle.py_lexer.proofs.script.tokens_of.Goals as goal

pub overflow_add-line : goal.overflow_add-line
overflow_add-line c = omega (arith, c.in-Ok.ensures.lines, c.in-Ok.ensures.within, most_front c.in-Ok.found.length c.cut.rest.now, c.cut.invariant)

pub cut-preserved : goal.cut-preserved
cut-preserved c =
    let there : 0 < length c.cut.rest.now = is_there (length c.cut.rest.now) (sym c.is_empty.ensures ∙ c.cut-test.true) in
    let end_ = end_line 1 (pieces 1 0 c.args.text.now) in
    record {
      left = rw (c.in-Ok.ensures.lines, c.split_at.ensures.back)
          (sym (pass_on end_ c.cut.line c.in-Ok.found.length c.cut.rest.now (piece c.in-Ok.found.piece) (state c.cut.layout) (state c.accept.new.self) there c.in-Ok.ensures.within.0 c.in-Ok.ensures.value c.in_ok-accept-in-Ok.ensures) ∙ c.cut.invariant.left);
      end_ = rw (c.in-Ok.ensures.lines, c.split_at.ensures.back)
          (sym (end_on c.cut.line c.in-Ok.found.length c.cut.rest.now (piece c.in-Ok.found.piece) there c.in-Ok.ensures.within.0 c.in-Ok.ensures.value) ∙ c.cut.invariant.end_);
      shorter = omega (arith, c.split_at.ensures.back_len, c.cut.invariant.shorter);
      lines = omega (arith, c.split_at.ensures.back_len, c.in-Ok.ensures.lines, c.in-Ok.ensures.within, most_front c.in-Ok.found.length c.cut.rest.now, c.cut.invariant.lines);
    }

pub returns : goal.returns
returns c =
    let end_ = end_line 1 (pieces 1 0 c.args.text.now) in
    let e = sym (pass_ends end_ c.cut.line c.cut.rest.now (state c.cut.layout) (sym c.is_empty.ensures ∙ c.cut-test.false) c.cut.invariant.end_)
    ∙ whole c.cut.line c.cut.rest.now c.args.text.now (state c.cut.layout) c.cut.invariant.left in
    subst (Gives (λ v. v.items) c.finish.result) e c.finish.ensures

pub returns-in_err-accept-in-Ok : goal.returns-in_err-accept-in-Ok
returns-in_err-accept-in-Ok c =
    let there : 0 < length c.cut.rest.now = is_there (length c.cut.rest.now) (sym c.is_empty.ensures ∙ c.cut-test.true) in
    let p = err_from_is_err_and c.from_residual.result c.from_residual.ensures.1 in
    rw (p.1, p.2) (subst (Refused c.in_err-accept-in-Ok.field-0.0)
    (whole c.cut.line c.cut.rest.now c.args.text.now (state c.cut.layout) c.cut.invariant.left)
    (pass_stops (end_line 1 (pieces 1 0 c.args.text.now)) c.cut.line c.in-Ok.found.length c.cut.rest.now (piece c.in-Ok.found.piece) (state c.cut.layout) c.in_err-accept-in-Ok.field-0.0 there c.in-Ok.ensures.within.0 c.in-Ok.ensures.value c.in_err-accept-in-Ok.ensures))

pub returns-in_err-begin-in-Err-Fault : goal.returns-in_err-begin-in-Err-Fault
returns-in_err-begin-in-Err-Fault c =
    let there : 0 < length c.cut.rest.now = is_there (length c.cut.rest.now) (sym c.is_empty.ensures ∙ c.cut-test.true) in
    let p = err_from_is_err_and c.from_residual-in_err-begin-in-Err-Fault.result c.from_residual-in_err-begin-in-Err-Fault.ensures.1 in
    rw (p.1, p.2) (subst (Refused c.in_err-begin-in-Err-Fault.field-0.0)
    (whole c.cut.line c.cut.rest.now c.args.text.now (state c.cut.layout) c.cut.invariant.left)
    (bad_before (end_line 1 (pieces 1 0 c.args.text.now)) c.cut.line c.in-Err-Fault.below c.cut.rest.now c.in-Err-Fault.fault (state c.cut.layout) c.in_err-begin-in-Err-Fault.field-0.0 there (rw c.in-Err-Fault.field-0-is at c.in-Err-Fault.ensures.value) c.in_err-begin-in-Err-Fault.ensures.value))

pub returns-in-Err-Fault : goal.returns-in-Err-Fault
returns-in-Err-Fault c =
    let there : 0 < length c.cut.rest.now = is_there (length c.cut.rest.now) (sym c.is_empty.ensures ∙ c.cut-test.true) in
    refused_as c.at.result _ c.in-Err-Fault.fault _ c.in-Err-Fault.below c.cut.line (listed (pieces 1 0 c.args.text.now)) c.in-Err-Fault.fault-is c.in-Err-Fault.below-is c.at.ensures
    (sym (whole c.cut.line c.cut.rest.now c.args.text.now (state c.cut.layout) c.cut.invariant.left)
    ∙ bad_after (end_line 1 (pieces 1 0 c.args.text.now)) c.cut.line c.in-Err-Fault.below c.cut.rest.now c.in-Err-Fault.fault (state c.cut.layout) (state c.begin.new.self) there (rw c.in-Err-Fault.field-0-is at c.in-Err-Fault.ensures.value) c.in_ok-begin-in-Err-Fault.ensures.value)
