use Rattle.std.proofs.Common.{rules, ◌≡◌, map, OnOk, IfOk, sym, subst, ap, ◌∙◌, Some, None}
use Rattle.op_forms.specs.declared.op.Op.TheVariants as op
use Rattle.py_scopes.specs.Parts.{clauses_of, param_of}
use Rattle.walk_laws.specs.Expressions as spec
use Rattle.reform_blocks.specs.Parts.{carrier}
use Rattle.reform_targets.specs.Places.{place_of}
use Rattle.node_tree.specs.Tree.{block}
use Rattle.reform_walk.specs.Made.{defaults_of}
use Rattle.reform_walk.specs.States.{state_of}
use Rattle.reform_walk.proofs.Layers.{tuple_is, list_is, dict_is, list_comprehension_is, dict_comprehension_is, generator_is, call_is, lambda_is, aimed_is}
use Rattle.reform_walk.proofs.Enclosed.{collected, functional, shape_same}
use Rattle.reform_walk.proofs.state.Walk.+walk.Goals as goal

pub target-returns-in_ok-aims-in-Tuple-clause-is : goal.target-returns-in_ok-aims-in-Tuple-clause-is
target-returns-in_ok-aims-in-Tuple-clause-is g t c =
    subst (λ w. IfOk c.assembled.result (λ p. place_of p ≡ w.is))
    (sym (aimed_is c.args.x.now c.in-Tuple.line c.in-Tuple.xs (g.H.Here.context c.args.here.now) (state_of c.args.self.now) c.in-Tuple.is)) (search rules)

pub value-returns-in_ok-items-in-Tuple-clause-is : goal.value-returns-in_ok-items-in-Tuple-clause-is
value-returns-in_ok-items-in-Tuple-clause-is g t c =
    subst (λ q. IfOk c.displayed.result (λ p. carrier p ≡ (q.value (g.H.Here.context c.args.here.now) (state_of c.args.self.now)).is))
    (sym (tuple_is c.args.x.now c.in-Tuple.line c.in-Tuple.xs c.in-Tuple.is)) (search rules)

pub value-returns-in_ok-items-in-List-clause-is : goal.value-returns-in_ok-items-in-List-clause-is
value-returns-in_ok-items-in-List-clause-is g t c =
    subst (λ q. IfOk c.displayed-in-List.result (λ p. carrier p ≡ (q.value (g.H.Here.context c.args.here.now) (state_of c.args.self.now)).is))
    (sym (list_is c.args.x.now c.in-List.line c.in-List.xs c.in-List.is)) (search rules)

pub value-returns-in_ok-entries-in-Dict-clause-is : goal.value-returns-in_ok-entries-in-Dict-clause-is
value-returns-in_ok-entries-in-Dict-clause-is g t c =
    subst (λ q. IfOk c.dict.result (λ p. carrier p ≡ (q.value (g.H.Here.context c.args.here.now) (state_of c.args.self.now)).is))
    (sym (dict_is c.args.x.now c.in-Dict.line c.in-Dict.entries c.in-Dict.is)) (search rules)

pub value-returns-in_ok-passed-in-Call-clause-is : goal.value-returns-in_ok-passed-in-Call-clause-is
value-returns-in_ok-passed-in-Call-clause-is g t c =
    subst (λ q. IfOk c.passed.result (λ p. carrier p ≡ (q.value (g.H.Here.context c.args.here.now) (state_of c.args.self.now)).is))
    (sym (call_is c.args.x.now c.in-Call.line c.in-Call.function c.in-Call.args c.in-Call.is)) (search rules)

pub value-returns-in_ok-items-in-Tuple-clause-state : goal.value-returns-in_ok-items-in-Tuple-clause-state
value-returns-in_ok-items-in-Tuple-clause-state g t c =
    subst (λ q. OnOk c.displayed.result (state_of c.displayed.new.self ≡ (q.value (g.H.Here.context c.args.here.now) (state_of c.args.self.now)).state))
    (sym (tuple_is c.args.x.now c.in-Tuple.line c.in-Tuple.xs c.in-Tuple.is)) (search rules)

pub value-returns-in_ok-items-in-List-clause-state : goal.value-returns-in_ok-items-in-List-clause-state
value-returns-in_ok-items-in-List-clause-state g t c =
    subst (λ q. OnOk c.displayed-in-List.result (state_of c.displayed-in-List.new.self ≡ (q.value (g.H.Here.context c.args.here.now) (state_of c.args.self.now)).state))
    (sym (list_is c.args.x.now c.in-List.line c.in-List.xs c.in-List.is)) (search rules)

pub value-returns-in_ok-entries-in-Dict-clause-state : goal.value-returns-in_ok-entries-in-Dict-clause-state
value-returns-in_ok-entries-in-Dict-clause-state g t c =
    subst (λ q. OnOk c.dict.result (state_of c.dict.new.self ≡ (q.value (g.H.Here.context c.args.here.now) (state_of c.args.self.now)).state))
    (sym (dict_is c.args.x.now c.in-Dict.line c.in-Dict.entries c.in-Dict.is)) (search rules)

pub value-returns-in_ok-passed-in-Call-clause-state : goal.value-returns-in_ok-passed-in-Call-clause-state
value-returns-in_ok-passed-in-Call-clause-state g t c =
    subst (λ q. OnOk c.passed.result (state_of c.passed.new.self ≡ (q.value (g.H.Here.context c.args.here.now) (state_of c.args.self.now)).state))
    (sym (call_is c.args.x.now c.in-Call.line c.in-Call.function c.in-Call.args c.in-Call.is)) (search rules)

pub value-returns-in_ok-element-in-ListComprehension-clause-state : goal.value-returns-in_ok-element-in-ListComprehension-clause-state
value-returns-in_ok-element-in-ListComprehension-clause-state g t c =
    subst (λ q. OnOk c.closed.result (state_of c.closed.new.self ≡ (q.value (g.H.Here.context c.args.here.now) (state_of c.args.self.now)).state))
    (sym (list_comprehension_is c.args.x.now c.in-ListComprehension.line c.in-ListComprehension.x c.in-ListComprehension.clauses c.in-ListComprehension.is))
    (subst (λ w. OnOk c.closed.result (state_of c.closed.new.self ≡ w.state))
    (collected (g.H.Here.context c.args.here.now) (g.H.Here.context c.in_ok-inner-in-ListComprehension.inner.here) c.in-ListComprehension.line c.in_ok-inner-in-ListComprehension.inner.first (Some op.List) (spec.pushed c.in-ListComprehension.line (spec.expr c.in-ListComprehension.x)) (clauses_of spec.expr c.in-ListComprehension.clauses) (state_of c.args.self.now) (state_of c.pushed.new.self) (block c.in_ok-element-in-ListComprehension.element)
    (search rules) (search rules) (search rules) (search rules))
    (search rules))

pub value-returns-in_ok-element-in-Generator-clause-state : goal.value-returns-in_ok-element-in-Generator-clause-state
value-returns-in_ok-element-in-Generator-clause-state g t c =
    subst (λ q. OnOk c.closed-in-Generator.result (state_of c.closed-in-Generator.new.self ≡ (q.value (g.H.Here.context c.args.here.now) (state_of c.args.self.now)).state))
    (sym (generator_is c.args.x.now c.in-Generator.line c.in-Generator.x c.in-Generator.clauses c.in-Generator.is))
    (subst (λ w. OnOk c.closed-in-Generator.result (state_of c.closed-in-Generator.new.self ≡ w.state))
    (collected (g.H.Here.context c.args.here.now) (g.H.Here.context c.in_ok-inner-in-Generator.inner.here) c.in-Generator.line c.in_ok-inner-in-Generator.inner.first None (spec.emitted c.in-Generator.line (spec.expr c.in-Generator.x)) (clauses_of spec.expr c.in-Generator.clauses) (state_of c.args.self.now) (state_of c.emitted.new.self) (block c.in_ok-element-in-Generator.element)
    (search rules) (search rules) (search rules) (search rules))
    (search rules))

pub value-returns-in_ok-element-in-DictComprehension-clause-is : goal.value-returns-in_ok-element-in-DictComprehension-clause-is
value-returns-in_ok-element-in-DictComprehension-clause-is g t c =
    subst (λ q. IfOk c.closed-in-DictComprehension.result (λ p. carrier p ≡ (q.value (g.H.Here.context c.args.here.now) (state_of c.args.self.now)).is))
    (sym (dict_comprehension_is c.args.x.now c.in-DictComprehension.line c.in-DictComprehension.x c.in-DictComprehension.y c.in-DictComprehension.clauses c.in-DictComprehension.is))
    (subst (λ w. IfOk c.closed-in-DictComprehension.result (λ p. carrier p ≡ w.is))
    (collected (g.H.Here.context c.args.here.now) (g.H.Here.context c.in_ok-inner-in-DictComprehension.inner.here) c.in-DictComprehension.line c.in_ok-inner-in-DictComprehension.inner.first (Some op.Dict) (spec.put c.in-DictComprehension.line (spec.expr c.in-DictComprehension.x) (spec.expr c.in-DictComprehension.y)) (clauses_of spec.expr c.in-DictComprehension.clauses) (state_of c.args.self.now) (state_of c.put.new.self) (block c.in_ok-element-in-DictComprehension.element)
    (search rules) (search rules) (search rules) (search rules))
    (search rules))

pub value-returns-in_ok-body-in-Lambda-clause-is : goal.value-returns-in_ok-body-in-Lambda-clause-is
value-returns-in_ok-body-in-Lambda-clause-is g t c =
    subst (λ q. IfOk c.function_ends.result (λ p. carrier p ≡ (q.value (g.H.Here.context c.args.here.now) (state_of c.args.self.now)).is))
    (sym (lambda_is c.args.x.now c.in-Lambda.line c.in-Lambda.params c.in-Lambda.x c.in-Lambda.is))
    (subst (λ w. IfOk c.function_ends.result (λ p. carrier p ≡ w.is))
    (functional (g.H.Here.context c.args.here.now) (g.H.Here.context c.in_ok-function-in-Lambda.function.here) c.in-Lambda.line c.in_ok-function-in-Lambda.function.outside (map (param_of spec.expr) c.in-Lambda.params) (state_of c.args.self.now) (state_of c.in_ok-function-in-Lambda.function.walk) (state_of c.value-in-Lambda.new.self) c.in_ok-function-in-Lambda.function.params (defaults_of c.in_ok-function-in-Lambda.function.defaults) (block c.in_ok-body-in-Lambda.body) (spec.returned (spec.expr c.in-Lambda.x))
    (search rules) ((search rules) ∙ sym (shape_same spec.expr (g.H.Here.context c.args.here.now) c.in-Lambda.params)) (search rules) (search rules) (search rules) (search rules) (search rules))
    (search rules))

pub value-returns-in_ok-element-in-DictComprehension-clause-state : goal.value-returns-in_ok-element-in-DictComprehension-clause-state
value-returns-in_ok-element-in-DictComprehension-clause-state g t c =
    subst (λ q. OnOk c.closed-in-DictComprehension.result (state_of c.closed-in-DictComprehension.new.self ≡ (q.value (g.H.Here.context c.args.here.now) (state_of c.args.self.now)).state))
    (sym (dict_comprehension_is c.args.x.now c.in-DictComprehension.line c.in-DictComprehension.x c.in-DictComprehension.y c.in-DictComprehension.clauses c.in-DictComprehension.is))
    (subst (λ w. OnOk c.closed-in-DictComprehension.result (state_of c.closed-in-DictComprehension.new.self ≡ w.state))
    (collected (g.H.Here.context c.args.here.now) (g.H.Here.context c.in_ok-inner-in-DictComprehension.inner.here) c.in-DictComprehension.line c.in_ok-inner-in-DictComprehension.inner.first (Some op.Dict) (spec.put c.in-DictComprehension.line (spec.expr c.in-DictComprehension.x) (spec.expr c.in-DictComprehension.y)) (clauses_of spec.expr c.in-DictComprehension.clauses) (state_of c.args.self.now) (state_of c.put.new.self) (block c.in_ok-element-in-DictComprehension.element)
    (search rules) (search rules) (search rules) (search rules))
    (search rules))

pub value-returns-in_ok-body-in-Lambda-clause-state : goal.value-returns-in_ok-body-in-Lambda-clause-state
value-returns-in_ok-body-in-Lambda-clause-state g t c =
    subst (λ q. OnOk c.function_ends.result (state_of c.function_ends.new.self ≡ (q.value (g.H.Here.context c.args.here.now) (state_of c.args.self.now)).state))
    (sym (lambda_is c.args.x.now c.in-Lambda.line c.in-Lambda.params c.in-Lambda.x c.in-Lambda.is))
    (subst (λ w. OnOk c.function_ends.result (state_of c.function_ends.new.self ≡ w.state))
    (functional (g.H.Here.context c.args.here.now) (g.H.Here.context c.in_ok-function-in-Lambda.function.here) c.in-Lambda.line c.in_ok-function-in-Lambda.function.outside (map (param_of spec.expr) c.in-Lambda.params) (state_of c.args.self.now) (state_of c.in_ok-function-in-Lambda.function.walk) (state_of c.value-in-Lambda.new.self) c.in_ok-function-in-Lambda.function.params (defaults_of c.in_ok-function-in-Lambda.function.defaults) (block c.in_ok-body-in-Lambda.body) (spec.returned (spec.expr c.in-Lambda.x))
    (search rules) ((search rules) ∙ sym (shape_same spec.expr (g.H.Here.context c.args.here.now) c.in-Lambda.params)) (search rules) (search rules) (search rules) (search rules) (search rules))
    (search rules))
