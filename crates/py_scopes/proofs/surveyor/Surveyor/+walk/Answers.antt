use Rattle.std.proofs.Common.{rules}
use Rattle.py_scopes.proofs.Lambdas.{lambda_walked}
use Rattle.py_scopes.proofs.surveyor.Surveyor.+walk.Goals as goal

pub expr-returns-in_ok-params-in-Lambda : goal.expr-returns-in_ok-params-in-Lambda
expr-returns-in_ok-params-in-Lambda t c =
    lambda_walked c.expr-in-Lambda.result c.in-Lambda.line c.in-Lambda.params c.in-Lambda.body c.args.x.now c.args.role c.args.place
    c.in_ok-own-in-Lambda.own c.is_misplaced.result c.line.result
    c.args.self.now.survey c.misplaced_if.new.self.survey c.begin-in-Lambda.new.self.survey c.params.new.self.survey c.expr-in-Lambda.new.self.survey
    c.in-Lambda.is c.is_misplaced.ensures c.line.ensures (search rules) (search rules) (search rules) (search rules) (search rules)
