-- Decorators, the calls of their values, and `def`, where their parts are carried.
use Rattle.std.proofs.Common.{◌≡◌, inl, ℕ, ◌+◌, ◌≤◌, length, List, [], ◌∷◌, Option, Some, refl, sym, ap, ◌∙◌, subst, arith}
use Rattle.nu_value.specs.declared.value.Value.{Value}
use Rattle.op_forms.specs.declared.op.Op.TheVariants as op
use Rattle.nu_rows.specs.Words.{then_value}
use Rattle.nu_calls.specs.Calls.{operate}
use Rattle.code_forms.specs.declared.operand.Argument.TheVariants as argument
use Rattle.code_forms.specs.declared.operand.Operand.{Operand}
use Rattle.code_forms.specs.declared.operand.Operand.TheVariants as operand
use Rattle.node_tree.specs.Blocks.{alone}
use Rattle.node_tree.specs.Blocks as tree
use Rattle.node_tree.specs.Nodes as nodes
use Rattle.py_meaning.specs.Syntax as syntax
use Rattle.py_meaning.specs.Frames as python
use Rattle.py_meaning.specs.Statements.{decorators, decorated, statement}
use Rattle.carries_base.specs.Frames.{Homes, behind, Holds, Facts, IsOff, Outside}
use Rattle.carries_base.specs.Carries.{Setting, source, target, EndsAs, CarriedTo, Knows, Carrier, CarriesExpression, CarriesTarget, CarriesStatement, joined}
use Rattle.carries_base.specs.Laws.{Within}
use Rattle.carries_base.proofs.Facts.{outside_off, outside_less, within_below}
use Rattle.carries_base.proofs.Carry.{AllEnds}
use Rattle.carries_base.proofs.Sequence.{Passes, strengthen, lessen, more_leaves}
use Rattle.carries_names.proofs.Functions.{Extends}
use Rattle.carries_control.proofs.Steps.{passing, value_then, do_then}
use Rattle.carries_definitions.specs.Decorated.{CarriesDecorators, decorated_at, decorated_block, definition_block}

-- blocks one after another
pub append_again : (a b c : tree.Block) → tree.append (tree.append a b) c ≡ tree.append a (tree.append b c)
append_again tree.Stop b c = refl
append_again (tree.Follow x r) b c = ap (λ u. tree.Follow x u) (append_again r b c)

pub joined_append : (ps : List Carrier) (b c : tree.Block) → tree.append (joined ps b) c ≡ joined ps (tree.append b c)
joined_append [] b c = refl
joined_append (p ∷ ps) b c = append_again p.block (joined ps b) c ∙ ap (λ u. tree.append p.block u) (joined_append ps b c)

pub decorators_grow : (h : Homes) (low high : ℕ) (ds : List syntax.Decorator) (ps : List Carrier) → CarriesDecorators h low high ds ps → (behind h ≤ low) × (low ≤ high)
decorators_grow h low high [] [] c = c
decorators_grow h low high [] (p ∷ ps) c = absurd c
decorators_grow h low high (d ∷ ds) [] c = absurd c
decorators_grow h low high (d ∷ ds) (p ∷ ps) c =
    let a : low ≤ c.0 = c.1.grows in
    let b : c.0 ≤ high = (decorators_grow h c.0 high ds ps c.2).1 in
    (c.1.starts, omega arith)

-- the values of decorators, with their lines
abbrev pub KnowsDecorators : Facts → List syntax.Decorator → List Carrier → List (ℕ × Value) → Type 0
KnowsDecorators fs [] [] [] = Unit {0}
KnowsDecorators fs (d ∷ ds) (p ∷ ps) (v ∷ vs) = (v.0 ≡ d.line) × Knows fs p.value v.1 × KnowsDecorators fs ds ps vs
KnowsDecorators fs ds ps vs = ⊥

pub decorators_more : (fs gs : Facts) (ds : List syntax.Decorator) (ps : List Carrier) (vs : List (ℕ × Value)) → Extends gs fs → KnowsDecorators fs ds ps vs → KnowsDecorators gs ds ps vs
decorators_more fs gs [] [] [] more know = tt
decorators_more fs gs (d ∷ ds) (p ∷ ps) (v ∷ vs) more know = (know.0, λ c g y. know.1 c g (more c g y), decorators_more fs gs ds ps vs more know.2)
decorators_more fs gs ds ps vs more know = absurd know

module _ (z : Setting) (h : Homes) (fs : Facts) (Q : AllEnds) (pass : Passes z h 0 (λ v. fs) fs Q) where
  -- decorators one after another, and what follows where their values are known
  pub decorators_to : (low high top : ℕ) (ds : List syntax.Decorator) (ps : List Carrier) (gs : Facts) (K : List (ℕ × Value) → python.R) (last : tree.Block) → Extends gs fs → CarriesDecorators h low high ds ps → high ≤ top → Outside h low top gs → ((vs : List (ℕ × Value)) (gs' : Facts) → Extends gs' gs → KnowsDecorators gs' ds ps vs → Outside h high top gs' → CarriedTo z h Q gs' (K vs) (nodes.block_row (target z) last)) → CarriedTo z h Q gs (decorators (source z) ds K) (nodes.block_row (target z) (joined ps last))
  decorators_to low high top [] [] gs K last more c le out next = next [] gs (λ c g y. y) tt (outside_less h low top high top gs c.1 (omega arith) out)
  decorators_to low high top [] (p ∷ ps) gs K last more c le out next = absurd c
  decorators_to low high top (d ∷ ds) [] gs K last more c le out next = absurd c
  decorators_to low high top (d ∷ ds) (p ∷ ps) gs K last more c le out next =
      let mid = c.0 in
      let a : low ≤ mid = c.1.grows in
      let b : mid ≤ high = (decorators_grow h mid high ds ps c.2).1 in
      value_then z h fs Q pass gs low mid d.is p.block p.value _ (joined ps last) more c.1 (outside_less h low top low mid gs (omega arith) (omega arith) out)
      (λ v. decorators_to mid high top ds ps (Holds p.value v ∷ gs) (λ vs. K ((d.line, v) ∷ vs)) last (λ c g y. more c g y.1) c.2 le
      (within_below h low mid top p.value c.1.starts c.1.within, outside_less h low top mid top gs a (omega arith) out)
      (λ vs gs' more' know out'. next ((d.line, v) ∷ vs) gs' (λ c g y. (more' c g y).1) (refl, λ c g y. (more' c g y).0, know) out'))

  -- their calls, the last of them first, and what follows where the result is known
  pub decorated_to : (t top : ℕ) (ds : List syntax.Decorator) (ps : List Carrier) (vs : List (ℕ × Value)) (o : Operand) (v : Value) (gs : Facts) (K : Value → python.R) (last : tree.Block) → behind h ≤ t → t + length ds ≤ top → Extends gs fs → KnowsDecorators gs ds ps vs → Knows gs o v → Outside h t top gs → ((w : Value) (gs' : Facts) → Extends gs' gs → Knows gs' (decorated_at t ds o) w → Outside h (t + length ds) top gs' → CarriedTo z h Q gs' (K w) (nodes.block_row (target z) last)) → CarriedTo z h Q gs (decorated (source z) vs v K) (nodes.block_row (target z) (tree.append (decorated_block t ds ps o) last))
  decorated_to t top [] [] [] o v gs K last st le more know knows out next = next v gs (λ c g y. y) knows (outside_less h t top (t + 0) top gs (omega arith) (omega arith) out)
  decorated_to t top (d ∷ ds) (p ∷ ps) (q ∷ vs) o v gs K last st le more know knows out next =
      let to : ℕ = t + length ds in
      let call : tree.Form = tree.Do to d.line op.Call (argument.Value p.value ∷ argument.Value (decorated_at t ds o) ∷ []) in
      subst (λ b. CarriedTo z h Q gs (decorated (source z) vs v (λ w. then_value (operate (source z) q.0 op.Call (q.1 ∷ w ∷ [])) K)) (nodes.block_row (target z) b)) (sym (append_again (decorated_block t ds ps o) (alone call) last))
      (decorated_to t top ds ps vs o v gs (λ w. then_value (operate (source z) q.0 op.Call (q.1 ∷ w ∷ [])) K) (tree.Follow call last) st (omega arith) more know.2 knows out
      (λ w gs' more' known out'.
      subst (λ n. CarriedTo z h Q gs' (then_value (operate (source z) n op.Call (q.1 ∷ w ∷ [])) K) (nodes.block_row (target z) (tree.Follow call last))) (sym know.0)
      (do_then z h fs Q pass gs' d.line to op.Call (q.1 ∷ w ∷ []) (argument.Value p.value ∷ argument.Value (decorated_at t ds o) ∷ []) K (nodes.block_row (target z) last) (λ c g y. more c g (more' c g y)) (omega arith) (outside_off h to top to gs' (omega arith) (omega arith) out')
      (λ c g y. ap (λ u. nodes.both u (nodes.both (nodes.operand_value g (decorated_at t ds o)) (Some []))) (know.1 c g (more' c g y)) ∙ ap (λ u. nodes.both (Some q.1) (nodes.both u (Some []))) (known c g y))
      (λ u. next u (Holds (operand.Temp to) u ∷ gs') (λ c g y. more' c g y.1) (λ c g y. y.0)
      ((omega arith, inl (omega arith)), outside_less h to top (t + length (d ∷ ds)) top gs' (omega arith) (omega arith) out')))))
  decorated_to t top ds ps vs o v gs K last st le more know knows out next = absurd know

-- the name of what is defined is bound
pub bound_by : (z : Setting) (h : Homes) (low top sl sh line : ℕ) (home : syntax.Home) (o : Operand) (sb : tree.Block) (w : Value) (fs gs : Facts) → Within low top sl sh → IsOff h sl sh o → CarriesTarget h sl sh o (syntax.ToName line home) sb → Outside h low top fs → Extends gs fs → Knows gs o w → CarriedTo z h (EndsAs z h 2 (λ v. fs) fs) gs (python.store (source z) line home w) (nodes.block_row (target z) sb)
bound_by z h low top sl sh line home o sb w fs gs within off ct out more known =
    let ks : Facts = Holds o w ∷ fs in
    strengthen z h 2 ks gs (EndsAs z h 2 (λ v. fs) fs) _ _ (λ c g y. (known c g y, more c g y))
    (lessen z h 2 (λ v. ks) (λ v. fs) fs ks _ _ (λ v c g y. y.1) (λ c g y. y.1)
    (more_leaves z h 0 2 (λ v. ks) ks _ _ (omega arith) (ct.carries z ks w (off, outside_less h low top sl sh fs within.0 within.1 out) (λ c g y. y.0))))

pub define_carried : (h : Homes) (low mid high sl sh top line : ℕ) (caught : Option ℕ) (ds : List syntax.Decorator) (function : syntax.Expression) (home : syntax.Home) (ps : List Carrier) (fb sb : tree.Block) (o : Operand) → CarriesDecorators h low mid ds ps → CarriesExpression h mid high function fb o → high + length ds ≤ top → Within low top sl sh → IsOff h sl sh (decorated_at high ds o) → CarriesTarget h sl sh (decorated_at high ds o) (syntax.ToName line home) sb → CarriesStatement h low top caught (syntax.Define line ds function home) (tree.append (definition_block high ds ps fb o) sb)
define_carried h low mid high sl sh top line caught ds function home ps fb sb o cd cf le within off cs =
    let g₁ = decorators_grow h low mid ds ps cd in
    let st = g₁.0 in
    let l₁ = g₁.1 in
    let l₂ = cf.grows in
    record {
      starts = st;
      grows = omega arith;
      carries = λ z fs handled out hd.
          let Q : AllEnds = EndsAs z h 2 (λ v. fs) fs in
          let pass = passing z h 2 fs in
          subst (λ b. CarriedTo z h Q fs (statement (source z) handled (syntax.Define line ds function home)) (nodes.block_row (target z) b)) (sym (joined_append ps (tree.append fb (decorated_block high ds ps o)) sb ∙ ap (λ u. joined ps u) (append_again fb (decorated_block high ds ps o) sb)))
          (decorators_to z h fs Q pass low mid top ds ps fs _ _ (λ c g y. y) cd (omega arith) out
          (λ vs gs more know out₁.
          value_then z h fs Q pass gs mid high function fb o _ _ more cf (outside_less h mid top mid high gs (omega arith) (omega arith) out₁)
          (λ f. decorated_to z h fs Q pass high top ds ps vs o f (Holds o f ∷ gs) _ sb (omega arith) le (λ c g y. more c g y.1) (decorators_more gs (Holds o f ∷ gs) ds ps vs (λ c g y. y.1) know) (λ c g y. y.0)
          (within_below h mid high top o cf.starts cf.within, outside_less h mid top high top gs (omega arith) (omega arith) out₁)
          (λ w gs₂ more₂ known out₂. bound_by z h low top sl sh line home (decorated_at high ds o) sb w fs gs₂ within off cs out (λ c g y. more c g (more₂ c g y).1) known))));
    }
