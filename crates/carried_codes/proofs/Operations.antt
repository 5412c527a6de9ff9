-- Operations, on operands as code gives them.
use Rattle.std.proofs.Common.{◌≡◌, ℕ, ◌+◌, ◌≤◌, map, Bool, true, false, if◌then◌else◌, List, [], ◌∷◌, refl, sym, ap, ◌∙◌, subst, arith}
use Rattle.nu_value.specs.declared.value.Value.{Value}
use Rattle.op_forms.specs.declared.constant.Const.TheVariants as const
use Rattle.op_forms.specs.declared.op.Op.{Op}
use Rattle.op_forms.specs.declared.op.Op.TheVariants as op
use Rattle.op_forms.specs.declared.signature.ArgumentKind.{ArgumentKind}
use Rattle.op_forms.specs.Signature as signature
use Rattle.nu_calls.specs.Calls.{operate}
use Rattle.code_forms.specs.declared.operand.Argument.{Argument}
use Rattle.code_forms.specs.declared.operand.Argument.TheVariants as argument
use Rattle.code_forms.specs.declared.operand.Operand.{Operand}
use Rattle.code_forms.specs.declared.operand.Operand.TheVariants as operand
use Rattle.node_tree.specs.Blocks.{alone}
use Rattle.node_tree.specs.Blocks as tree
use Rattle.node_tree.specs.Nodes as nodes
use Rattle.py_meaning.specs.Syntax as syntax
use Rattle.carries_base.specs.Frames.{Homes, behind, Holds, Facts}
use Rattle.carries_base.specs.Carries.{source, target, Carried, Carrier, CarriesExpression, CarriesAll, joined}
use Rattle.carries_base.proofs.Facts.{outside_off}
use Rattle.carries_base.proofs.Sequence.{weaken, one_carried}
use Rattle.carries_base.proofs.Operations.{operate_carried}
use Rattle.carries_names.proofs.Functions.{known_values, all_grow, each_to}
use Rattle.carried_codes.specs.Operations.{is_name, argument_of, given, is_call, called, does}

-- what carriers hold, as arguments
abbrev arguments : List Carrier → List Argument
arguments ps = map (λ p. argument.Value p.value) ps

abbrev operands : List Carrier → List Operand
operands ps = map (λ p. p.value) ps

-- a statement that does an operation on what expressions give
operated : (h : Homes) (low high line : ℕ) (o : Op) (xs : syntax.Expressions) (ps : List Carrier) (args : List Argument) (x : tree.Form)
    → ((g : nodes.Frame) → nodes.values g args ≡ nodes.values g (arguments ps)) → ((l : nodes.L) → nodes.form_row l x ≡ nodes.do_row l high line o args)
    → CarriesAll h low high xs ps → CarriesExpression h low (high + 1) (syntax.Operation line o xs) (joined ps (alone x)) (operand.Temp high)
operated h low high line o xs ps args x same is c =
    let st : behind h ≤ low = (all_grow h low high xs ps c).0 in
    let le : low ≤ high = (all_grow h low high xs ps c).1 in
    let above : behind h ≤ high = omega arith in
    record {
      starts = st;
      grows = omega arith;
      within = (le, omega arith);
      carries = λ z fs out.
          let k : Value → Facts = λ v. Holds (operand.Temp high) v ∷ fs in
          each_to z h 0 k low high (high + 1) xs ps fs _ _ c (omega arith) out
          (λ vs gs more know out₁. one_carried z h 0 k gs _ _
          (weaken z h 0 (λ u. Holds (operand.Temp high) u ∷ gs) k gs _ _ (λ u c g y. (y.0, more c g y.1))
          (subst (λ r. Carried z h 0 (λ u. Holds (operand.Temp high) u ∷ gs) gs (operate (source z) line o vs) r) (sym (is (target z)))
          (operate_carried z h 0 gs line o vs high args above (outside_off h high (high + 1) high gs (omega arith) (omega arith) out₁) (λ c g y. same g ∙ known_values gs ps vs c g know y)))));
    }

argument_same : (g : nodes.Frame) (named : Bool) (v : Operand) → nodes.argument_value g (argument_of named v) ≡ nodes.operand_value g v
argument_same g false v = refl
argument_same g true (operand.Temp t) = refl
argument_same g true (operand.Const const.None) = refl
argument_same g true (operand.Const (const.Bool b)) = refl
argument_same g true (operand.Const (const.Int i)) = refl
argument_same g true (operand.Const (const.Str s)) = refl

-- bare names are what their constants are
given_same : (g : nodes.Frame) (kinds : List ArgumentKind) (ps : List Carrier) → nodes.values g (given kinds (operands ps)) ≡ nodes.values g (arguments ps)
given_same g kinds [] = refl
given_same g [] (p ∷ ps) = ap (λ u. nodes.both (nodes.operand_value g p.value) u) (given_same g [] ps)
given_same g (k ∷ kinds) (p ∷ ps) =
    ap (λ u. nodes.both u (nodes.values g (given kinds (operands ps)))) (argument_same g (is_name k) p.value)
    ∙ ap (λ u. nodes.both (nodes.operand_value g p.value) u) (given_same g kinds ps)

values_same : (g : nodes.Frame) (ps : List Carrier) → nodes.values g (map argument.Value (operands ps)) ≡ nodes.values g (arguments ps)
values_same g [] = refl
values_same g (p ∷ ps) = ap (λ u. nodes.both (nodes.operand_value g p.value) u) (values_same g ps)

is_op_call : (o : Op) → is_call o ≡ true → o ≡ op.Call
is_op_call op.Call e = refl
is_op_call other e = cc

module _ (h : Homes) (low high line : ℕ) where
  call_does : (xs : syntax.Expressions) (ps : List Carrier) → CarriesAll h low high xs ps → CarriesExpression h low (high + 1) (syntax.Operation line op.Call xs) (joined ps (alone (called high line (operands ps)))) (operand.Temp high)
  call_does xs [] c = operated h low high line op.Call xs [] [] (tree.Do high line op.Call []) (λ g. refl) (λ l. refl) c
  call_does xs (f ∷ ps) c =
      operated h low high line op.Call xs (f ∷ ps) (argument.Value f.value ∷ map argument.Value (operands ps)) (tree.Call high line f.value (operands ps))
      (λ g. ap (λ u. nodes.both (nodes.operand_value g f.value) u) (values_same g ps)) (λ l. refl) c

  -- by whether it is a call
  does_by : (o : Op) (xs : syntax.Expressions) (ps : List Carrier) (b : Bool) → is_call o ≡ b → CarriesAll h low high xs ps
      → CarriesExpression h low (high + 1) (syntax.Operation line o xs) (joined ps (alone (does high line o (operands ps)))) (operand.Temp high)
  does_by o xs ps true e c =
      subst (λ o. CarriesExpression h low (high + 1) (syntax.Operation line o xs) (joined ps (alone (does high line o (operands ps)))) (operand.Temp high)) (sym (is_op_call o e)) (call_does xs ps c)
  does_by o xs ps false e c =
      subst (λ b. CarriesExpression h low (high + 1) (syntax.Operation line o xs) (joined ps (alone (if b then called high line (operands ps) else tree.Do high line o (given (signature.arguments o) (operands ps))))) (operand.Temp high)) (sym e)
      (operated h low high line o xs ps (given (signature.arguments o) (operands ps)) (tree.Do high line o (given (signature.arguments o) (operands ps))) (λ g. given_same g _ ps) (λ l. refl) c)

  pub does_carried : (o : Op) (xs : syntax.Expressions) (ps : List Carrier) → CarriesAll h low high xs ps
      → CarriesExpression h low (high + 1) (syntax.Operation line o xs) (joined ps (alone (does high line o (map (λ p. p.value) ps)))) (operand.Temp high)
  does_carried o xs ps c = does_by o xs ps (is_call o) refl c
