-- Functions, comprehensions and classes, and what is decorated, as code gives them.
use Rattle.std.proofs.Common.{◌≡◌, ℕ, suc, ◌+◌, map, length, pos, List, [], ◌∷◌, refl, ap, ◌∙◌, subst, arith}
use Rattle.op_forms.specs.declared.constant.Const.TheVariants as const
use Rattle.op_forms.specs.declared.op.Op.TheVariants as op
use Rattle.code_forms.specs.declared.operand.Argument.{Argument}
use Rattle.code_forms.specs.declared.operand.Argument.TheVariants as argument
use Rattle.code_forms.specs.declared.operand.Operand.{Operand}
use Rattle.code_forms.specs.declared.operand.Operand.TheVariants as operand
use Rattle.node_tree.specs.Blocks.{alone, of_temp}
use Rattle.node_tree.specs.Blocks as tree
use Rattle.py_meaning.specs.Syntax as syntax
use Rattle.carries_base.specs.Frames.{Homes, HaveRoom}
use Rattle.carries_base.specs.Carries.{Carrier, CarriesExpression, CarriesAll, joined}
use Rattle.carries_names.specs.Functions.{HasCells, cell_at, CarriesNamed, put_block, put_end}
use Rattle.carries_names.specs.Functions as homes
use Rattle.carries_names.proofs.Functions as carried
use Rattle.carries_definitions.proofs.Collected.{comprehension_carried}
use Rattle.carries_definitions.specs.Decorated as defined
use Rattle.carried_codes.specs.Parts.{Named, Decorator}
use Rattle.carried_codes.specs.Expressions.{puts, function_block, decorated_at, decorated_block, class_block}
use Rattle.carried_codes.specs.Targets.{SameNames, SameLines}
use Rattle.carried_codes.specs.Nodes.{cells_at}

abbrev pub parts_of : List Named → List Carrier
parts_of ns = map (λ n. n.part) ns

pub put_end_is : (to : ℕ) (ks : syntax.Keywords) (ns : List Named) → SameNames ks ns → put_end to ks ≡ to + length ns
put_end_is to syntax.NoKeyword [] s = omega arith
put_end_is to syntax.NoKeyword (n ∷ ns) s = absurd s
put_end_is to (syntax.Default name x ks) [] s = absurd s
put_end_is to (syntax.Default name x ks) (n ∷ ns) s = let e : put_end (to + 1) ks ≡ to + 1 + length ns = put_end_is (to + 1) ks ns s.1 in omega (arith, e)

abbrev put_form : ℕ → ℕ → ℕ → List ℕ → Carrier → tree.Form
put_form line dict to name p = tree.Do to line op.Put (of_temp dict ∷ argument.Value (operand.Const (const.Str name)) ∷ argument.Value p.value ∷ [])

put_is : (line dict to : ℕ) (ks : syntax.Keywords) (ns : List Named) (last : ℕ → tree.Block) → SameNames ks ns → put_block line dict to ks (parts_of ns) last ≡ tree.append (puts line dict to ns) (last (put_end to ks))
put_is line dict to syntax.NoKeyword [] last s = refl
put_is line dict to syntax.NoKeyword (n ∷ ns) last s = absurd s
put_is line dict to (syntax.Default name x ks) [] last s = absurd s
put_is line dict to (syntax.Default name x ks) (n ∷ ns) last s =
    ap (λ b. tree.Follow (put_form line dict to name n.part) b) (put_is line dict (to + 1) ks ns last s.1)
    ∙ ap (λ m. tree.Follow (put_form line dict to m n.part) (tree.append (puts line dict (to + 1) ns) (last (put_end (to + 1) ks)))) s.0

pub cells_are : (h : Homes) (cells : List syntax.CellPlace) → map (λ c. of_temp (cell_at h c)) cells ≡ map of_temp (cells_at h cells)
cells_are h [] = refl
cells_are h (c ∷ cells) = ap (λ l. of_temp (cell_at h c) ∷ l) (cells_are h cells)

abbrev func : ℕ → ℕ → ℕ → ℕ → ℕ → List Argument → tree.Form
func to line code defaults keywords cells = tree.Do to line op.Func (argument.Value (operand.Const (const.Int (pos code))) ∷ of_temp defaults ∷ of_temp keywords ∷ cells)

module _ (h : Homes) (t line code : ℕ) (cells : List syntax.CellPlace) where
  abbrev wholes : List Carrier → List Named → tree.Block → tree.Block
  wholes ps ns b = joined ps (joined (parts_of ns) (tree.Follow (tree.Do t line op.Tuple (map (λ p. argument.Value p.value) ps)) (tree.Follow (tree.Do (t + 1) line op.Dict []) b)))

  pub function_is : (ps : List Carrier) (ks : syntax.Keywords) (ns : List Named) → SameNames ks ns
      → homes.function_block h t line code ps ks (parts_of ns) cells ≡ joined ps (joined (parts_of ns) (function_block line code ps ns (cells_at h cells) t))
  function_is ps ks ns s =
      ap (wholes ps ns) (put_is line (t + 1) (t + 2) ks ns (λ to. alone (homes.function_form h to line code t (t + 1) cells)) s)
      ∙ ap (λ to. wholes ps ns (tree.append (puts line (t + 1) (t + 2) ns) (alone (homes.function_form h to line code t (t + 1) cells)))) (put_end_is (t + 2) ks ns s)
      ∙ ap (λ l. wholes ps ns (tree.append (puts line (t + 1) (t + 2) ns) (alone (func (t + 2 + length ns) line code t (t + 1) l)))) (cells_are h cells)

  pub bare_is : defined.bare_block h t line code cells ≡ function_block line code [] [] (cells_at h cells) t
  bare_is = function_is [] syntax.NoKeyword [] tt

pub function_made : (h : Homes) (low mid t line code : ℕ) (defaults : syntax.Expressions) (keywords : syntax.Keywords) (cells : List syntax.CellPlace) (ps : List Carrier) (ns : List Named) → HaveRoom h → HasCells h cells → CarriesAll h low mid defaults ps → CarriesNamed h mid t keywords (parts_of ns) → SameNames keywords ns
    → CarriesExpression h low (t + 2 + length ns + 1) (syntax.Function line code defaults keywords cells) (joined ps (joined (parts_of ns) (function_block line code ps ns (cells_at h cells) t))) (operand.Temp (t + 2 + length ns))
function_made h low mid t line code defaults keywords cells ps ns room has ca cn s =
    subst (λ b. CarriesExpression h low (t + 2 + length ns + 1) (syntax.Function line code defaults keywords cells) b (operand.Temp (t + 2 + length ns))) (function_is h t line code cells ps keywords ns s)
    (subst (λ to. CarriesExpression h low (to + 1) (syntax.Function line code defaults keywords cells) (homes.function_block h t line code ps keywords (parts_of ns) cells) (operand.Temp to)) (put_end_is (t + 2) keywords ns s)
    (carried.function_carried h low mid t line code defaults keywords cells ps (parts_of ns) room has ca cn))

pub comprehension_made : (h : Homes) (low t line code : ℕ) (x : syntax.Expression) (cells : List syntax.CellPlace) (p : Carrier) → HaveRoom h → HasCells h cells → CarriesExpression h low t x p.block p.value
    → CarriesExpression h low (t + 5) (syntax.Comprehension line code x cells)
    (tree.append p.block (tree.Follow (tree.Do t line op.Iter (argument.Value p.value ∷ [])) (tree.append (function_block line code [] [] (cells_at h cells) (t + 1)) (alone (tree.Do (t + 4) line op.Call (of_temp (t + 1 + 2) ∷ of_temp t ∷ []))))))
    (operand.Temp (t + 4))
comprehension_made h low t line code x cells p room has c =
    subst (λ b. CarriesExpression h low (t + 5) (syntax.Comprehension line code x cells)
    (tree.append p.block (tree.Follow (tree.Do t line op.Iter (argument.Value p.value ∷ [])) (tree.append b (alone (tree.Do (t + 4) line op.Call (of_temp (t + 1 + 2) ∷ of_temp t ∷ [])))))) (operand.Temp (t + 4)))
    (bare_is h (t + 1) line code cells) (comprehension_carried h low t line code x cells p.block p.value room has c)

-- Decorators

abbrev pub decorating : List Decorator → List Carrier
decorating ps = map (λ d. d.part) ps

pub lines_count : (ds : List syntax.Decorator) (ps : List Decorator) → SameLines ds ps → length ds ≡ length ps
lines_count [] [] s = refl
lines_count [] (p ∷ ps) s = absurd s
lines_count (d ∷ ds) [] s = absurd s
lines_count (d ∷ ds) (p ∷ ps) s = ap (λ n. suc n) (lines_count ds ps s.1)

pub decorated_is : (t : ℕ) (ds : List syntax.Decorator) (ps : List Decorator) (o : Operand) → SameLines ds ps → defined.decorated_at t ds o ≡ decorated_at t ps o
decorated_is t [] [] o s = refl
decorated_is t [] (p ∷ ps) o s = absurd s
decorated_is t (d ∷ ds) [] o s = absurd s
decorated_is t (d ∷ ds) (p ∷ ps) o s = ap (λ n. operand.Temp (t + n)) (lines_count ds ps s.1)

abbrev calls : ℕ → ℕ → Carrier → Operand → tree.Block
calls to line p o = alone (tree.Do to line op.Call (argument.Value p.value ∷ argument.Value o ∷ []))

pub decorators_are : (t : ℕ) (ds : List syntax.Decorator) (ps : List Decorator) (o : Operand) → SameLines ds ps → defined.decorated_block t ds (decorating ps) o ≡ decorated_block t ps o
decorators_are t [] [] o s = refl
decorators_are t [] (p ∷ ps) o s = absurd s
decorators_are t (d ∷ ds) [] o s = absurd s
decorators_are t (d ∷ ds) (p ∷ ps) o s =
    ap (λ b. tree.append b (calls (t + length ds) d.line p.part (defined.decorated_at t ds o))) (decorators_are t ds ps o s.1)
    ∙ ap (λ n. tree.append (decorated_block t ps o) (calls (t + n) d.line p.part (defined.decorated_at t ds o))) (lines_count ds ps s.1)
    ∙ ap (λ n. tree.append (decorated_block t ps o) (calls (t + length ps) n p.part (defined.decorated_at t ds o))) s.0
    ∙ ap (λ a. tree.append (decorated_block t ps o) (calls (t + length ps) p.line p.part a)) (decorated_is t ds ps o s.1)

pub class_is : (h : Homes) (t line : ℕ) (name : List ℕ) (code : ℕ) (cells : List syntax.CellPlace) (base : Operand) → defined.class_made_block h t line name code cells base ≡ class_block line code name (cells_at h cells) base t
class_is h t line name code cells base =
    ap (λ b. tree.Follow (tree.Do t line op.Space []) (tree.append b (tree.Follow (tree.Do (t + 4) line op.Call (of_temp (t + 1 + 2) ∷ of_temp t ∷ []))
    (alone (tree.Do (t + 5) line op.Class (argument.Name name ∷ argument.Value base ∷ of_temp t ∷ [])))))) (bare_is h (t + 1) line code cells)
