-- Functions without defaults, and `class`, where its parts are carried.
use Rattle.std.proofs.Common.{◌≡◌, inl, ℕ, ◌+◌, ◌<◌, ◌≤◌, length, List, [], ◌∷◌, Option, Some, refl, sym, ap, ◌∙◌, subst, arith}
use Rattle.nu_value.specs.declared.value.Value.{Value}
use Rattle.op_forms.specs.declared.op.Op.{Op}
use Rattle.op_forms.specs.declared.op.Op.TheVariants as op
use Rattle.nu_rows.specs.Words.{then_value}
use Rattle.nu_calls.specs.Calls.{operate}
use Rattle.code_forms.specs.declared.operand.Argument.{Argument}
use Rattle.code_forms.specs.declared.operand.Argument.TheVariants as argument
use Rattle.code_forms.specs.declared.operand.Operand.{Operand}
use Rattle.code_forms.specs.declared.operand.Operand.TheVariants as operand
use Rattle.node_tree.specs.Blocks.{alone, of_temp}
use Rattle.node_tree.specs.Blocks as tree
use Rattle.node_tree.specs.Nodes as nodes
use Rattle.py_meaning.specs.Syntax as syntax
use Rattle.py_meaning.specs.Frames as python
use Rattle.py_meaning.specs.Expressions.{bare_function}
use Rattle.py_meaning.specs.Statements.{class_made, statement}
use Rattle.carries_base.specs.Frames.{Homes, HaveRoom, behind, Holds, Facts, Fits, IsOff, Outside}
use Rattle.carries_base.specs.Carries.{Setting, source, target, EndsAs, CarriedTo, Carried, Knows, Carrier, CarriesExpression, CarriesTarget, CarriesStatement, joined}
use Rattle.carries_base.specs.Laws.{Within}
use Rattle.carries_base.proofs.Facts.{Off, outside_off, outside_less, within_below}
use Rattle.carries_base.proofs.Carry.{AllEnds}
use Rattle.carries_base.proofs.Sequence.{Passes, lessen, passes, seq_to, unvalued, one_by}
use Rattle.carries_base.proofs.Operations.{operate_carried}
use Rattle.carries_names.specs.Functions.{HasCells}
use Rattle.carries_names.proofs.Functions.{Extends, function_carried}
use Rattle.carries_control.proofs.Steps.{passed, passing, value_then, do_then}
use Rattle.carries_definitions.specs.Decorated.{CarriesDecorators, decorated_at, decorated_block, bare_block, class_made_block, class_block}
use Rattle.carries_definitions.proofs.Decorated.{append_again, joined_append, decorators_grow, decorators_to, decorators_more, decorated_to, bound_by}

module _ (z : Setting) (h : Homes) (n : ℕ) (fs : Facts) (to : ℕ) where
  -- the ends of what leaves its value in this temporary
  abbrev pub Leaving : AllEnds
  Leaving = EndsAs z h n (λ v. Holds (operand.Temp to) v ∷ fs) fs

  -- an operation at the end of that
  pub do_value : (gs : Facts) (line : ℕ) (o : Op) (vs : List Value) (args : List Argument) → Extends gs fs → behind h ≤ to → Off to gs → ((c : Value) (g : nodes.Frame) → Fits gs c g → nodes.values g args ≡ Some vs) → CarriedTo z h Leaving gs (operate (source z) line o vs) (nodes.block_row (target z) (alone (tree.Do to line o args)))
  do_value gs line o vs args more above off known =
      let k : Value → Facts = λ v. Holds (operand.Temp to) v ∷ fs in
      one_by z h n _ Leaving _ _ (unvalued z h n k fs)
      (lessen z h n (λ u. Holds (operand.Temp to) u ∷ gs) k fs gs _ _ (λ u c g y. (y.0, more c g y.1)) more (operate_carried z h n gs line o vs to args above off known))

-- a function without defaults, and what follows
pub bare_then : (z : Setting) (h : Homes) (fs : Facts) (Q : AllEnds) → Passes z h 0 (λ v. fs) fs Q → (gs : Facts) (t line code : ℕ) (cells : List syntax.CellPlace) (K : Value → python.R) (rest : tree.Block) → Extends gs fs → HaveRoom h → HasCells h cells → behind h ≤ t → Outside h t (t + 3) gs → ((v : Value) → CarriedTo z h Q (Holds (operand.Temp (t + 2)) v ∷ gs) (K v) (nodes.block_row (target z) rest)) → CarriedTo z h Q gs (then_value (bare_function (source z) line code cells) K) (nodes.block_row (target z) (tree.append (bare_block h t line code cells) rest))
bare_then z h fs Q pass gs t line code cells K rest more room has st out next =
    value_then z h fs Q pass gs t (t + 2 + 1) (syntax.Function line code syntax.NoMore syntax.NoKeyword cells) (bare_block h t line code cells) (operand.Temp (t + 2)) K rest more
    (function_carried h t t t line code syntax.NoMore syntax.NoKeyword cells [] [] room has (st, omega arith) (st, omega arith)) (outside_less h t (t + 3) t (t + 2 + 1) gs (omega arith) (omega arith) out) next

pub class_made_carried : (z : Setting) (h : Homes) (fs : Facts) (t line code : ℕ) (name : List ℕ) (cells : List syntax.CellPlace) (base : Value) (o : Operand) → HaveRoom h → HasCells h cells → behind h ≤ t → Knows fs o base → Outside h t (t + 6) fs → Carried z h 0 (λ v. Holds (operand.Temp (t + 5)) v ∷ fs) fs (class_made (source z) line name code cells base) (nodes.block_row (target z) (class_made_block h t line name code cells o))
class_made_carried z h fs t line code name cells base o room has st known out =
    let Q : AllEnds = Leaving z h 0 fs (t + 5) in
    let pass = passes z h 0 (λ v. fs) (λ v. Holds (operand.Temp (t + 5)) v ∷ fs) fs in
    let off : (d : ℕ) → t ≤ d → d < t + 6 → Off d fs = (λ d a b. outside_off h t (t + 6) d fs a b out) in
    do_then z h fs Q pass fs line t op.Space [] [] _ _ (λ c g y. y) st (off t (omega arith) (omega arith)) (λ c g y. refl)
    (λ names. let f₁ : Facts = Holds (operand.Temp t) names ∷ fs in
    bare_then z h fs Q pass f₁ (t + 1) line code cells _ (tree.Follow (tree.Do (t + 4) line op.Call (of_temp (t + 1 + 2) ∷ of_temp t ∷ [])) (alone (tree.Do (t + 5) line op.Class (argument.Name name ∷ argument.Value o ∷ of_temp t ∷ [])))) (λ c g y. y.1) room has (omega arith) ((st, inl (omega arith)), outside_less h t (t + 6) (t + 1) (t + 1 + 3) fs (omega arith) (omega arith) out)
    (λ body. let f₂ : Facts = Holds (operand.Temp (t + 1 + 2)) body ∷ f₁ in
    do_then z h fs Q pass f₂ line (t + 4) op.Call (body ∷ names ∷ []) (of_temp (t + 1 + 2) ∷ of_temp t ∷ []) _ _ (λ c g y. y.1.1) (omega arith)
    (λ e. let e₁ : t + 1 + 2 ≡ t + 4 = e in omega arith, (λ e. let e₁ : t ≡ t + 4 = e in omega arith, off (t + 4) (omega arith) (omega arith)))
    (λ c g y. ap (λ u. nodes.both u (nodes.both (g.temps t) (Some []))) y.0 ∙ ap (λ u. nodes.both (Some body) (nodes.both u (Some []))) y.1.0)
    (λ v. let f₃ : Facts = Holds (operand.Temp (t + 4)) v ∷ f₂ in
    do_value z h 0 fs (t + 5) f₃ line op.Class (python.text name ∷ base ∷ names ∷ []) (argument.Name name ∷ argument.Value o ∷ of_temp t ∷ []) (λ c g y. y.1.1.1) (omega arith)
    (λ e. let e₁ : t + 4 ≡ t + 5 = e in omega arith, (λ e. let e₁ : t + 1 + 2 ≡ t + 5 = e in omega arith, (λ e. let e₁ : t ≡ t + 5 = e in omega arith, off (t + 5) (omega arith) (omega arith))))
    (λ c g y.
    ap (λ u. nodes.both (Some (python.text name)) (nodes.both u (nodes.both (g.temps t) (Some [])))) (known c g y.1.1.1)
    ∙ ap (λ u. nodes.both (Some (python.text name)) (nodes.both (Some base) (nodes.both u (Some [])))) y.1.1.0))))

pub class_carried : (h : Homes) (low mid high sl sh top line code : ℕ) (caught : Option ℕ) (ds : List syntax.Decorator) (name : List ℕ) (base : syntax.Expression) (cells : List syntax.CellPlace) (home : syntax.Home) (ps : List Carrier) (bb sb : tree.Block) (o : Operand) → HaveRoom h → HasCells h cells → CarriesDecorators h low mid ds ps → CarriesExpression h mid high base bb o → high + 6 + length ds ≤ top → Within low top sl sh → IsOff h sl sh (decorated_at (high + 6) ds (operand.Temp (high + 5))) → CarriesTarget h sl sh (decorated_at (high + 6) ds (operand.Temp (high + 5))) (syntax.ToName line home) sb → CarriesStatement h low top caught (syntax.Class line ds name base code cells home) (tree.append (class_block h high line ds ps name bb o code cells) sb)
class_carried h low mid high sl sh top line code caught ds name base cells home ps bb sb o room has cd cb le within off cs =
    let g₁ = decorators_grow h low mid ds ps cd in
    let st = g₁.0 in
    let l₁ = g₁.1 in
    let l₂ = cb.grows in
    record {
      starts = st;
      grows = omega arith;
      carries = λ z fs handled out hd.
          let Q : AllEnds = EndsAs z h 2 (λ v. fs) fs in
          let pass = passing z h 2 fs in
          let made : Operand = operand.Temp (high + 5) in
          let made_block : tree.Block = class_made_block h high line name code cells o in
          let called : tree.Block = decorated_block (high + 6) ds ps made in
          subst (λ u. CarriedTo z h Q fs (statement (source z) handled (syntax.Class line ds name base code cells home)) (nodes.block_row (target z) u))
          (sym (joined_append ps (tree.append bb (tree.append made_block called)) sb ∙ ap (λ u. joined ps u) (append_again bb (tree.append made_block called) sb ∙ ap (λ u. tree.append bb u) (append_again made_block called sb))))
          (decorators_to z h fs Q pass low mid top ds ps fs _ _ (λ c g y. y) cd (omega arith) out
          (λ vs gs more know out₁.
          value_then z h fs Q pass gs mid high base bb o _ _ more cb (outside_less h mid top mid high gs (omega arith) (omega arith) out₁)
          (λ b. let f₁ : Facts = Holds o b ∷ gs in
          let out₂ : Outside h high top f₁ = (within_below h mid high top o cb.starts cb.within, outside_less h mid top high top gs (omega arith) (omega arith) out₁) in
          seq_to z h 0 (λ v. Holds made v ∷ f₁) f₁ Q _ _ (class_made_block h high line name code cells o) _ (passed z h fs Q pass (λ v. Holds made v ∷ f₁) f₁ (λ c g y. more c g y.1))
          (class_made_carried z h f₁ high line code name cells b o room has (omega arith) (λ c g y. y.0) (outside_less h high top high (high + 6) f₁ (omega arith) (omega arith) out₂))
          (λ class. let f₂ : Facts = Holds made class ∷ f₁ in
          decorated_to z h fs Q pass (high + 6) top ds ps vs made class f₂ _ sb (omega arith) le (λ c g y. more c g y.1.1) (decorators_more gs f₂ ds ps vs (λ c g y. y.1.1) know) (λ c g y. y.0)
          ((omega arith, inl (omega arith)), outside_less h high top (high + 6) top f₁ (omega arith) (omega arith) out₂)
          (λ w gs₂ more₂ known out₃. bound_by z h low top sl sh line home (decorated_at (high + 6) ds made) sb w fs gs₂ within off cs out (λ c g y. more c g (more₂ c g y).1.1) known)))));
    }
