-- Simple statements, and the expressions in other ones, as they are made and as they are walked.
use Rattle.std.proofs.Common.{ℕ, ◌+◌, List, [], ◌∷◌, map, Option, Some, None, refl, ap}
use Rattle.std.specs.Prelude.{codes}
use Rattle.op_forms.specs.declared.constant.Const.TheVariants as const
use Rattle.op_forms.specs.declared.op.Op.TheVariants as op
use Rattle.code_forms.specs.declared.operand.Operand.TheVariants as operand
use Rattle.py_ast.specs.Lines.{line_of}
use Rattle.py_ast.specs.declared.expr.Binary.{Binary}
use Rattle.py_ast.specs.declared.expr.Expr.{Expr}
use Rattle.node_tree.specs.Blocks as tree
use Rattle.py_meaning.specs.Syntax as syntax
use Rattle.py_meaning.specs.Resolved as meaning
use Rattle.py_meaning.specs.Resolved.{Context, Making}
use Rattle.carries_base.specs.Carries.{Carrier}
use Rattle.carried_codes.specs.Parts.{Decorator}
use Rattle.carried_codes.specs.Parts as parts
use Rattle.carried_codes.specs.Places as places
use Rattle.carried_codes.specs.Statements as statements
use Rattle.carried_codes.specs.Nodes as nodes
use Rattle.walk_laws.specs.States.{Walking, walked, at}
use Rattle.walk_laws.specs.Contexts.{homes_in}
use Rattle.walk_laws.specs.Expressions.{expr}
use Rattle.walk_laws.specs.Statements as walk
use Rattle.walk_laws.specs.Composed.{Out, As, value_at, place_at, statement_at, ExpressionsAreWalked}
use Rattle.walk_laws.proofs.Threads.{out, block_out, parts_out, nothing, alone, one, two}
use Rattle.walk_laws.proofs.Lists.{values_at}

abbrev pub places_at : Context → ℕ → syntax.Targets → Out places.Places
places_at c t xs = let ps = nodes.all_places (homes_in c) t xs in out ps.all ps.next

abbrev pub decorators_at : Context → ℕ → List syntax.Decorator → Out (List Decorator)
decorators_at c t ds = parts_out (nodes.decorators (homes_in c) t ds)

abbrev decorator : Expr → syntax.Expression → List syntax.Decorator → List syntax.Decorator
decorator x v ds = (record { line = line_of x; is = v }) ∷ ds

abbrev decorated : Expr → Carrier → List Decorator → List Decorator
decorated x p ds = (record { line = line_of x; part = p }) ∷ ds

module _ (known : ExpressionsAreWalked) (c : Context) where
  pub value_walked : (x : Expr) → As (value_at c) ((meaning.expr x).value c) ((expr x).value c)
  value_walked x = (known x).value c

  pub target_walked : (x : Expr) → As (place_at c) ((meaning.expr x).target c) ((expr x).target c)
  target_walked x = (known x).target c

  pub targets_walked : (xs : List Expr) → As (places_at c) (meaning.targets c (map meaning.expr xs)) (walk.targets c xs)
  targets_walked [] = nothing syntax.NoTarget places.NoPlace (λ t. refl)
  targets_walked (x ∷ xs) = two syntax.AlsoTo (λ p ps t. out (places.Also p ps) t) (λ t x y. refl) (target_walked x) (targets_walked xs)

  pub target_of_walked : (x : Option Expr) → As (places_at c) (meaning.target_of c x) (walk.target_of c x)
  target_of_walked None = nothing syntax.NoTarget places.NoPlace (λ t. refl)
  target_of_walked (Some x) = targets_walked (x ∷ [])

  value_of_walked : (x : Option Expr) → As (value_at c) (meaning.value_of c x) (walk.value_of c x)
  value_of_walked None = nothing meaning.none (parts.part tree.Stop (operand.Const const.None)) (λ t. refl)
  value_of_walked (Some x) = value_walked x

  texts_walked : (x : Option Expr) → As (values_at c) (meaning.texts c x) (walk.texts c x)
  texts_walked None = nothing syntax.NoMore [] (λ t. refl)
  texts_walked (Some x) = two {fb = values_at c} syntax.More (λ p ps t. out (p ∷ ps) t) (λ t x y. refl) (value_walked x) (nothing syntax.NoMore [] (λ t. refl))

  pub decorators_walked : (xs : List Expr) → As (decorators_at c) (meaning.decorators c xs) (walk.decorators c xs)
  decorators_walked [] = nothing [] [] (λ t. refl)
  decorators_walked (x ∷ xs) = two (decorator x) (λ p ds t. out (decorated x p ds) t) (λ t x y. refl) (value_walked x) (decorators_walked xs)

  pub base_walked : (line : ℕ) (x : Option Expr) → As (value_at c) (meaning.base_of c line x) (walk.base_of c line x)
  base_walked line None = alone (syntax.Operation line op.Native (syntax.More (meaning.text (codes "object")) syntax.NoMore))
  base_walked line (Some x) = value_walked x

  -- what the temporary that comes next gets goes to a target, if there is one: with that temporary
  abbrev pub bound_all_at : ℕ → syntax.Targets → Out (ℕ × tree.Block)
  bound_all_at t xs = let m = nodes.bind_all (homes_in c) t xs in out (t, m.block) m.next

  abbrev pub bound_all : Option Expr → Walking (ℕ × tree.Block)
  bound_all x s = let b = walk.bind_any c x s in walked (s.temp, b.is) b.state

  pub bound_all_walked : (x : Option Expr) → As bound_all_at (meaning.target_of c x) (bound_all x)
  bound_all_walked x = record {
    same = λ s. ap (λ r. let m = places.assign_all r.state.temp (operand.Temp s.temp) r.is in walked (s.temp, m.block) (at m.next r.state)) ((target_of_walked x).same (at (s.temp + 1) s));
  }

  -- Statements

  module _ (caught : Option ℕ) where
    pub evaluated_walked : (x : Expr) → As (statement_at c caught) (meaning.made syntax.Evaluate ((meaning.expr x).value c)) (walk.evaluated c x)
    evaluated_walked x = one syntax.Evaluate (λ p t. out p.block t) (λ t x. refl) (value_walked x)

    pub assign_walked : (xs : List Expr) (x : Expr)
        → As (statement_at c caught) (meaning.and_then (meaning.targets c (map meaning.expr xs)) (λ ts. meaning.made (syntax.Assign ts) ((meaning.expr x).value c))) (walk.assign c xs x)
    assign_walked xs x = two syntax.Assign (λ ps v t. block_out (walk.assigned ps v t)) (λ t x y. refl) (targets_walked xs) (value_walked x)

    pub augment_walked : (line : ℕ) (to : Expr) (sign : Binary) (x : Expr)
        → As (statement_at c caught) (meaning.and_then ((meaning.expr to).target c) (λ t. meaning.made (syntax.Augment line (meaning.augmented_op sign) t) ((meaning.expr x).value c))) (walk.augment c line sign to x)
    augment_walked line to sign x =
        two (syntax.Augment line (meaning.augmented_op sign)) (λ p v t. block_out (places.augment t line (meaning.augmented_op sign) p v)) (λ t x y. refl) (target_walked to) (value_walked x)

    pub delete_walked : (x : Expr) → As (statement_at c caught) (meaning.made syntax.Delete ((meaning.expr x).target c)) (walk.delete c x)
    delete_walked x = one syntax.Delete (λ p t. block_out (places.delete t p)) (λ t x. refl) (target_walked x)

    pub returned_walked : (x : Option Expr) → As (statement_at c caught) (meaning.made syntax.Return (meaning.value_of c x)) (walk.returned c x)
    returned_walked x = one syntax.Return (λ v t. block_out (statements.return_value v t)) (λ t x. refl) (value_of_walked x)

    pub raised_walked : (line : ℕ) (x : Expr) → As (statement_at c caught) (meaning.made (syntax.Raise line) ((meaning.expr x).value c)) (walk.raised c line x)
    raised_walked line x = one (syntax.Raise line) (λ v t. block_out (statements.raise_value line v t)) (λ t x. refl) (value_walked x)

    pub asserted_walked : (line : ℕ) (x : Expr) (y : Option Expr)
        → As (statement_at c caught) (meaning.and_then ((meaning.expr x).value c) (λ t. meaning.made (syntax.Assert line t) (meaning.texts c y))) (walk.asserted c line x y)
    asserted_walked line x y = two (syntax.Assert line) (λ v ts t. block_out (statements.assert_that line v ts t)) (λ t x y. refl) (value_walked x) (texts_walked y)
