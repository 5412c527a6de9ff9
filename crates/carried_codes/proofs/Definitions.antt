-- Definitions of functions and classes, decorated, whose value goes to a name.
use Rattle.std.proofs.Common.{◌≡◌, ℕ, ◌+◌, ◌≤◌, length, inl, List, [], ◌∷◌, Option, refl, subst, arith}
use Rattle.code_forms.specs.declared.operand.Operand.{Operand}
use Rattle.code_forms.specs.declared.operand.Operand.TheVariants as operand
use Rattle.node_tree.specs.Blocks.{alone}
use Rattle.node_tree.specs.Blocks as tree
use Rattle.py_meaning.specs.Syntax as syntax
use Rattle.carries_base.specs.Frames.{Homes, HaveRoom, behind, IsOff}
use Rattle.carries_base.specs.Carries.{Carrier, CarriesExpression, CarriesStatement, joined}
use Rattle.carries_names.specs.Names.{HasPlace}
use Rattle.carries_names.specs.Functions.{HasCells}
use Rattle.carries_targets.proofs.Parts.{off_behind}
use Rattle.carries_definitions.specs.Decorated.{CarriesDecorators}
use Rattle.carries_definitions.specs.Decorated as defined
use Rattle.carries_definitions.proofs.Decorated.{define_carried, decorators_grow}
use Rattle.carries_definitions.proofs.Classes.{class_carried}
use Rattle.carried_codes.specs.Seats.{seat, stores}
use Rattle.carried_codes.specs.Parts.{Decorator}
use Rattle.carried_codes.specs.Expressions.{decorated_at, decorated_block, class_block}
use Rattle.carried_codes.specs.Nodes.{cells_at}
use Rattle.carried_codes.specs.Targets.{SameLines}
use Rattle.carried_codes.proofs.Seats.{store_seat}
use Rattle.carried_codes.proofs.Functions.{decorating, lines_count, decorated_is, decorators_are, class_is}

-- what is decorated lies in front of what is drawn behind it
decorated_off : (h : Homes) (t l r : ℕ) (ds : List syntax.Decorator) (o : Operand) → behind h ≤ t → l ≡ t + length ds → IsOff h l r o → IsOff h l r (defined.decorated_at t ds o)
decorated_off h t l r [] o st e off = off
decorated_off h t l r (d ∷ ds) o st e off = (omega arith, inl (omega (arith, e)))

module _ (h : Homes) (room : HaveRoom h) (caught : Option ℕ) (line low mid t : ℕ) (ds : List syntax.Decorator) (ps : List Decorator) (home : syntax.Home) (p : Carrier) (has : HasPlace h home) (cd : CarriesDecorators h low mid ds (decorating ps)) (same : SameLines ds ps) where
  pub define_made : (function : syntax.Expression) → CarriesExpression h mid t function p.block p.value
      → CarriesStatement h low (t + length ps + 1) caught (syntax.Define line ds function home)
      (tree.append (joined (decorating ps) (tree.append p.block (decorated_block t ps p.value))) (alone (stores (t + length ps) line (seat h home) (decorated_at t ps p.value))))
  define_made function c =
      let D : List Carrier = decorating ps in let o : Operand = p.value in let top : ℕ = t + length ds in
      let l₀ = (decorators_grow h low mid ds D cd).0 in let l₁ = (decorators_grow h low mid ds D cd).1 in let l₂ = c.grows in let l₃ = c.starts in
      subst (λ n. CarriesStatement h low (t + n + 1) caught (syntax.Define line ds function home) (tree.append (joined D (tree.append p.block (decorated_block t ps o))) (alone (stores (t + n) line (seat h home) (decorated_at t ps o))))) (lines_count ds ps same)
      (subst (λ a. CarriesStatement h low (top + 1) caught (syntax.Define line ds function home) (tree.append (joined D (tree.append p.block (decorated_block t ps o))) (alone (stores top line (seat h home) a)))) (decorated_is t ds ps o same)
      (subst (λ b. CarriesStatement h low (top + 1) caught (syntax.Define line ds function home) (tree.append (joined D (tree.append p.block b)) (alone (stores top line (seat h home) (defined.decorated_at t ds o))))) (decorators_are t ds ps o same)
      (define_carried h low mid t top (top + 1) (top + 1) line caught ds function home D p.block (alone (stores top line (seat h home) (defined.decorated_at t ds o))) o cd c (omega arith) (omega arith, omega arith)
      (decorated_off h t top (top + 1) ds o (omega arith) refl (off_behind h mid t top (top + 1) o l₃ (omega arith) c.within))
      (store_seat h top line top home room has (omega arith) (omega arith) (defined.decorated_at t ds o)))))

  pub class_made : (name : List ℕ) (base : syntax.Expression) (code : ℕ) (cells : List syntax.CellPlace) → HasCells h cells → CarriesExpression h mid t base p.block p.value
      → CarriesStatement h low (t + 6 + length ps + 1) caught (syntax.Class line ds name base code cells home)
      (tree.append (joined (decorating ps) (tree.append p.block (tree.append (class_block line code name (cells_at h cells) p.value t) (decorated_block (t + 6) ps (operand.Temp (t + 5))))))
      (alone (stores (t + 6 + length ps) line (seat h home) (decorated_at (t + 6) ps (operand.Temp (t + 5))))))
  class_made name base code cells has_cells c =
      let D : List Carrier = decorating ps in let o : Operand = operand.Temp (t + 5) in let top : ℕ = t + 6 + length ds in
      let l₀ = (decorators_grow h low mid ds D cd).0 in let l₁ = (decorators_grow h low mid ds D cd).1 in let l₂ = c.grows in let l₃ = c.starts in
      let made : tree.Block = class_block line code name (cells_at h cells) p.value t in
      subst (λ n. CarriesStatement h low (t + 6 + n + 1) caught (syntax.Class line ds name base code cells home)
      (tree.append (joined D (tree.append p.block (tree.append made (decorated_block (t + 6) ps o)))) (alone (stores (t + 6 + n) line (seat h home) (decorated_at (t + 6) ps o))))) (lines_count ds ps same)
      (subst (λ a. CarriesStatement h low (top + 1) caught (syntax.Class line ds name base code cells home)
      (tree.append (joined D (tree.append p.block (tree.append made (decorated_block (t + 6) ps o)))) (alone (stores top line (seat h home) a)))) (decorated_is (t + 6) ds ps o same)
      (subst (λ b. CarriesStatement h low (top + 1) caught (syntax.Class line ds name base code cells home)
      (tree.append (joined D (tree.append p.block (tree.append made b))) (alone (stores top line (seat h home) (defined.decorated_at (t + 6) ds o))))) (decorators_are (t + 6) ds ps o same)
      (subst (λ b. CarriesStatement h low (top + 1) caught (syntax.Class line ds name base code cells home)
      (tree.append (joined D (tree.append p.block (tree.append b (defined.decorated_block (t + 6) ds D o)))) (alone (stores top line (seat h home) (defined.decorated_at (t + 6) ds o))))) (class_is h t line name code cells p.value)
      (class_carried h low mid t top (top + 1) (top + 1) line code caught ds name base cells home D p.block (alone (stores top line (seat h home) (defined.decorated_at (t + 6) ds o))) p.value room has_cells cd c (omega arith) (omega arith, omega arith)
      (decorated_off h (t + 6) top (top + 1) ds o (omega arith) refl (omega arith, inl (omega arith)))
      (store_seat h top line top home room has (omega arith) (omega arith) (defined.decorated_at (t + 6) ds o))))))
