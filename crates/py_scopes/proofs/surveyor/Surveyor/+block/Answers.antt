use Rattle.std.proofs.Common.{rules, ◌≡◌, ◌∙◌, ap, sym, subst}
use Rattle.std.specs.Prelude.{OnOk}
use Rattle.py_scopes.specs.Survey as spec
use Rattle.py_scopes.proofs.Lambdas.{def_adds}
use Rattle.py_scopes.proofs.surveyor.Surveyor.+block.Goals as goal

pub stmt-returns-in_ok-params-in-Def : goal.stmt-returns-in_ok-params-in-Def
stmt-returns-in_ok-params-in-Def t c =
    subst (λ f. OnOk c.stmts-in-Def.result (c.stmts-in-Def.new.self.survey ≡ f c.args.place c.args.self.now.survey))
    (sym (ap spec.stmt c.in-Def.is ∙ def_adds c.in-Def.line c.in-Def.decorators c.in-Def.name c.in-Def.params c.in-Def.body))
    (search rules)
