use Rattle.std.proofs.Common.{◌∙◌, ap, sym, subst}
use Rattle.py_ast.specs.declared.expr.Expr.TheVariants as expr
use Rattle.reform_all.specs.Built as built
use Rattle.reform_all.specs.Expressions.{IsExpressed}
use Rattle.reform_all.proofs.ExpressionsCarried.{grown, other_name, name_expressed}
use Rattle.reform_all.proofs.expressions.named.Goals as goal

pub returns-then-is_other : goal.returns-then-is_other
returns-then-is_other c = λ names holds.
    other_name names c.args.line c.args.word.now (ap (λ x. built.is_other names x) (sym c.as_str.ensures) ∙ sym (c.is_other.ensures names holds) ∙ c.if-is_other.true)

pub returns : goal.returns
returns c = λ names holds.
    subst (λ word. IsExpressed names (expr.Name c.args.line word) c.args.temps.now c.name.new.temps c.in_ok-part.part) c.in_ok-share.ensures
    (name_expressed names c.args.line c.in_ok-share.field-0 _ _ _
    (ap (λ x. built.is_other names x) (c.in_ok-share.ensures ∙ sym c.as_str.ensures) ∙ sym (c.is_other.ensures names holds) ∙ c.if-is_other.false)
    (grown _ _ c.in_ok-part.ensures.drawn) c.in_ok-part.ensures.carries c.in_ok-part.ensures.contents)
