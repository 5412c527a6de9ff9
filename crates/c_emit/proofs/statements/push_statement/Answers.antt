use Rattle.c_emit.proofs.statements.push_statement.Goals as goal

pub returns-in-Branch : goal.returns-in-Branch
returns-in-Branch c = rw c.in-Branch.is c.push_jump.ensures

pub returns-in-Again : goal.returns-in-Again
returns-in-Again c = rw c.in-Again.is c.push_jump-in-Again.ensures

pub returns-in-Fail : goal.returns-in-Fail
returns-in-Fail c = rw c.in-Fail.is c.push_form-in-Fail.ensures

pub returns-in-Save : goal.returns-in-Save
returns-in-Save c = rw c.in-Save.is c.push_kept.ensures
