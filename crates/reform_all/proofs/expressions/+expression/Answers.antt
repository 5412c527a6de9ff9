use Rattle.std.proofs.Common.{rules, ◌≡◌, ◌∙◌, ap, sym, subst, true, false, length, arith, [], ◌∷◌}
use Rattle.op_forms.specs.declared.constant.Const.TheVariants as const
use Rattle.nu_value.specs.declared.value.Value.TheVariants as value
use Rattle.node_tree.specs.Blocks as tree
use Rattle.py_meaning.specs.Resolved as meaning
use Rattle.reform_expr.specs.Arguments.{arguments}
use Rattle.reform_all.specs.Built as built
use Rattle.reform_all.specs.Expressions.{Does, names_print}
use Rattle.reform_all.proofs.ExpressionsCarried.{none_row, true_row, false_row, number_row, text_row, constant_expressed, unary_expressed, not_expressed, binary_expressed, binary_fails, compared_in, compared_many, compared_first, compared_second, compared_expressed, called_fails, called_expressed, failed, one_item}
use Rattle.reform_all.proofs.expressions.+expression.Goals as goal
use Rattle.reform_all.proofs.expressions.+expression.Goals.{in_default-via-then-as_slice-lt1, in_default-via-else-as_slice-lt1+else-this-lt2}

pub returns-in-None : goal.returns-in-None
returns-in-None t c = λ names holds.
    constant_expressed names c.args.x.now c.args.temps.now const.None c.constant.result
    (ap built.expr c.in-None.is ∙ none_row built.Expression built.expr_row c.in-None.field-0)
    (ap meaning.expr c.in-None.is ∙ none_row meaning.Part meaning.expr_part c.in-None.field-0)
    c.constant.ensures.block c.constant.ensures.value

pub returns-in-True : goal.returns-in-True
returns-in-True t c = λ names holds.
    constant_expressed names c.args.x.now c.args.temps.now (const.Bool true) c.constant-in-True.result
    (ap built.expr c.in-True.is ∙ true_row built.Expression built.expr_row c.in-True.field-0)
    (ap meaning.expr c.in-True.is ∙ true_row meaning.Part meaning.expr_part c.in-True.field-0)
    c.constant-in-True.ensures.block c.constant-in-True.ensures.value

pub returns-in-False : goal.returns-in-False
returns-in-False t c = λ names holds.
    constant_expressed names c.args.x.now c.args.temps.now (const.Bool false) c.constant-in-False.result
    (ap built.expr c.in-False.is ∙ false_row built.Expression built.expr_row c.in-False.field-0)
    (ap meaning.expr c.in-False.is ∙ false_row meaning.Part meaning.expr_part c.in-False.field-0)
    c.constant-in-False.ensures.block c.constant-in-False.ensures.value

pub returns-in-Number : goal.returns-in-Number
returns-in-Number t c = λ names holds.
    constant_expressed names c.args.x.now c.args.temps.now (const.Int c.in-Number.value) c.constant-in-Number.result
    (ap built.expr c.in-Number.is ∙ number_row built.Expression built.expr_row c.in-Number.field-0 c.in-Number.value)
    (ap meaning.expr c.in-Number.is ∙ number_row meaning.Part meaning.expr_part c.in-Number.field-0 c.in-Number.value)
    c.constant-in-Number.ensures.block (search (rules, c.constant-in-Number.ensures.value))

pub returns-in_ok-share-in-Text : goal.returns-in_ok-share-in-Text
returns-in_ok-share-in-Text t c = λ names holds.
    constant_expressed names c.args.x.now c.args.temps.now (const.Str c.in_ok-share-in-Text.field-0) c.constant-in-Text.result
    (ap built.expr c.in-Text.is ∙ text_row built.Expression built.expr_row c.in-Text.field-0 c.in-Text.text)
    (ap meaning.expr c.in-Text.is ∙ text_row meaning.Part meaning.expr_part c.in-Text.field-0 c.in-Text.text ∙ ap (λ w. meaning.constant (value.Str w)) (sym c.in_ok-share-in-Text.ensures))
    c.constant-in-Text.ensures.block c.constant-in-Text.ensures.value

pub returns-in_ok-part-in-Unary : goal.returns-in_ok-part-in-Unary
returns-in_ok-part-in-Unary t c = λ names holds.
    unary_expressed names c.args.x.now c.in-Unary.line c.in-Unary.sign _ _ _ _ _ _ _ c.in-Unary.is c.get.ensures (c.in_ok-x-in-Unary.ensures names holds)
    (subst (λ o. Does c.in-Unary.line o (tree.Do c.expression.new.temps c.in-Unary.line o (arguments o (c.in_ok-x-in-Unary.x ∷ []))) c.expression.new.temps c.on_one.new.temps (c.in_ok-x-in-Unary.x ∷ []) c.in_ok-part-in-Unary.part) c.unary_op.ensures c.in_ok-part-in-Unary.ensures)

pub returns-in_ok-part-in-Not : goal.returns-in_ok-part-in-Not
returns-in_ok-part-in-Not t c = λ names holds.
    not_expressed names c.args.x.now c.in-Not.line _ _ _ _ _ _ _ _ _ c.in-Not.is c.get-in-Not.ensures (c.in_ok-x-in-Not.ensures names holds) c.in_ok-truth-in-Not.ensures c.in_ok-part-in-Not.ensures

pub returns-in_ok-part-in-Binary : goal.returns-in_ok-part-in-Binary
returns-in_ok-part-in-Binary t c = λ names holds.
    binary_expressed names c.args.x.now c.in-Binary.line c.in-Binary.operator _ _ _ _ _ _ _ _ _ _ _ c.in-Binary.is c.get-in-Binary.ensures c.get-in-Binary-2.ensures (c.in_ok-x-in-Binary.ensures names holds) (c.in_ok-y-in-Binary.ensures names holds)
    (subst (λ o. Does c.in-Binary.line o (tree.Do c.expression-in-Binary-2.new.temps c.in-Binary.line o (arguments o (c.in_ok-x-in-Binary.x ∷ c.in_ok-y-in-Binary.y ∷ []))) c.expression-in-Binary-2.new.temps c.on_two.new.temps (c.in_ok-x-in-Binary.x ∷ c.in_ok-y-in-Binary.y ∷ []) c.in_ok-part-in-Binary.part) c.binary_op.ensures c.in_ok-part-in-Binary.ensures)

pub returns-in_err-y-in-Binary : goal.returns-in_err-y-in-Binary
returns-in_err-y-in-Binary t c = λ names holds.
    failed names c.args.x.now _ _ c.from_residual-in_err-y-in-Binary.result c.in_err-y-in-Binary.field-0.0 c.from_residual-in_err-y-in-Binary.ensures.1
    (binary_fails names c.args.x.now c.in-Binary.line c.in-Binary.operator _ _ _ _ _ _ _ c.in_err-y-in-Binary.field-0.0 c.in-Binary.is c.get-in-Binary.ensures c.get-in-Binary-2.ensures (c.in_ok-x-in-Binary.ensures names holds) (c.in_err-y-in-Binary.ensures names holds))

pub returns-in_default : goal.returns-in_default
returns-in_default t c = λ names holds.
    compared_many names c.args.x.now c.in-Compare.line c.in-Compare.x c.in-Compare.links c.in-Compare.is
    (λ one. let same : length c.as_slice.result.now ≡ 1 = ap (λ xs. length xs) c.as_slice.ensures ∙ one in
    absurd (elim c.in_default.branch [ in_default-via-then-as_slice-lt1 w ↦ grind (arith, same) | in_default-via-else-as_slice-lt1+else-this-lt2 w ↦ grind (arith, same) ]))

pub returns-then-is_in : goal.returns-then-is_in
returns-then-is_in t c = λ names holds.
    compared_in names c.args.x.now c.in-Compare.line c.in-Compare.x c.in-Compare.links c.link-item.result c.in-Compare.is (one_item c.as_slice.result.now c.in-Compare.links c.link-item.result c.as_slice.ensures c.in-len1.len_at_least c.in-len1.len_below c.link-item.is) (sym c.is_in.ensures ∙ c.if-is_in.true)

pub returns-in_err-x-in-Compare : goal.returns-in_err-x-in-Compare
returns-in_err-x-in-Compare t c = λ names holds.
    failed names c.args.x.now _ _ c.from_residual-in_err-x-in-Compare.result c.in_err-x-in-Compare.field-0.0 c.from_residual-in_err-x-in-Compare.ensures.1
    (compared_first names c.args.x.now c.in-Compare.line _ _ c.in-Compare.links c.link-item.result c.in_err-x-in-Compare.field-0.0 c.in-Compare.is c.get-in-Compare.ensures
    (one_item c.as_slice.result.now c.in-Compare.links c.link-item.result c.as_slice.ensures c.in-len1.len_at_least c.in-len1.len_below c.link-item.is) (sym c.is_in.ensures ∙ c.if-is_in.false) (c.in_err-x-in-Compare.ensures names holds))

pub returns-in_err-y-in-Compare : goal.returns-in_err-y-in-Compare
returns-in_err-y-in-Compare t c = λ names holds.
    failed names c.args.x.now _ _ c.from_residual-in_err-y-in-Compare.result c.in_err-y-in-Compare.field-0.0 c.from_residual-in_err-y-in-Compare.ensures.1
    (compared_second names c.args.x.now c.in-Compare.line _ _ c.in-Compare.links c.link-item.result _ _ _ c.in_err-y-in-Compare.field-0.0 c.in-Compare.is c.get-in-Compare.ensures
    (one_item c.as_slice.result.now c.in-Compare.links c.link-item.result c.as_slice.ensures c.in-len1.len_at_least c.in-len1.len_below c.link-item.is) (sym c.is_in.ensures ∙ c.if-is_in.false) (c.in_ok-x-in-Compare.ensures names holds) (c.in_err-y-in-Compare.ensures names holds))

pub returns-in_ok-part-in-Compare : goal.returns-in_ok-part-in-Compare
returns-in_ok-part-in-Compare t c = λ names holds.
    compared_expressed names c.args.x.now c.in-Compare.line _ _ c.in-Compare.links c.link-item.result _ _ _ _ _ _ _ c.in-Compare.is c.get-in-Compare.ensures
    (one_item c.as_slice.result.now c.in-Compare.links c.link-item.result c.as_slice.ensures c.in-len1.len_at_least c.in-len1.len_below c.link-item.is) (sym c.is_in.ensures ∙ c.if-is_in.false) (c.in_ok-x-in-Compare.ensures names holds) (c.in_ok-y-in-Compare.ensures names holds)
    (subst (λ o. Does c.in-Compare.line o (tree.Do c.expression-in-Compare-2.new.temps c.in-Compare.line o (arguments o (c.in_ok-x-in-Compare.x ∷ c.in_ok-y-in-Compare.y ∷ []))) c.expression-in-Compare-2.new.temps c.on_two-in-Compare.new.temps (c.in_ok-x-in-Compare.x ∷ c.in_ok-y-in-Compare.y ∷ []) c.in_ok-part-in-Compare.part) c.comparison_op.ensures c.in_ok-part-in-Compare.ensures)

pub returns-in_err-x-in-Call : goal.returns-in_err-x-in-Call
returns-in_err-x-in-Call t c = λ names holds.
    failed names c.args.x.now _ _ c.from_residual-in_err-x-in-Call.result c.in_err-x-in-Call.field-0.0 c.from_residual-in_err-x-in-Call.ensures.1
    (called_fails names c.args.x.now c.in-Call.line _ _ c.in-Call.args c.in-Plain.x c.in_err-x-in-Call.field-0.0 c.in-Call.is c.get-in-Call-2.ensures
    (one_item c.as_slice-in-Call.result.now c.in-Call.args c.argument-item.result c.as_slice-in-Call.ensures c.in-len1-as_slice.len_at_least c.in-len1-as_slice.len_below c.argument-item.is ∙ ap (λ a. a ∷ []) c.in-Plain.is)
    (ap (λ g. names_print (built.expr g).name) (c.get-in-Call-2.ensures ∙ sym c.get-in-Call.ensures) ∙ sym c.is_print.ensures ∙ c.if-not-is_print.false) (c.in_err-x-in-Call.ensures names holds))

pub returns-in_ok-part-in-Call : goal.returns-in_ok-part-in-Call
returns-in_ok-part-in-Call t c = λ names holds.
    called_expressed names c.args.x.now c.in-Call.line _ _ c.in-Call.args c.in-Plain.x _ _ _ _ _ _ _ c.in-Call.is c.get-in-Call-2.ensures
    (one_item c.as_slice-in-Call.result.now c.in-Call.args c.argument-item.result c.as_slice-in-Call.ensures c.in-len1-as_slice.len_at_least c.in-len1-as_slice.len_below c.argument-item.is ∙ ap (λ a. a ∷ []) c.in-Plain.is)
    (ap (λ g. names_print (built.expr g).name) (c.get-in-Call-2.ensures ∙ sym c.get-in-Call.ensures) ∙ sym c.is_print.ensures ∙ c.if-not-is_print.false) (c.in_ok-f-in-Call.ensures names holds) (c.in_ok-x-in-Call.ensures names holds) c.in_ok-part-in-Call.ensures
