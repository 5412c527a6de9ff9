use Rattle.std.proofs.Common.{◌≡◌, None, refl, sym}
use Rattle.py_statements.specs.Nesting.{too_deep}
use Rattle.py_statements.proofs.Nesting.{not_deep, deep_first}
use Rattle.py_statements.proofs.Top.{is_tree, answers_err}
use Rattle.py_parser.proofs.parser.parse.Goals as goal

pub returns-in-Some : goal.returns-in-Some
returns-in-Some c = deep_first c.args.tokens.now c.in-Some.line (sym c.in-Some.ensures)

pub returns-in-Ok : goal.returns-in-Ok
returns-in-Ok c =
    let shallow : too_deep 0 c.args.tokens.now ≡ None = first_of (cc, cc (c.in_default.ensures)) in
    (not_deep c.args.tokens.now shallow, is_tree c.args.tokens.now c.in-Ok.found _ _ refl (rw c.new-cursor.ensures at c.in-Ok.ensures))

pub returns-in-Err : goal.returns-in-Err
returns-in-Err c =
    let shallow : too_deep 0 c.args.tokens.now ≡ None = first_of (cc, cc (c.in_default.ensures)) in
    answers_err c.args.tokens.now c.in-Err.end shallow (rw c.new-cursor.ensures at c.in-Err.ensures)
