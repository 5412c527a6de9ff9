-- Scopes in expressions, from what is made around them.
use Rattle.std.proofs.Common.{rules, ◌≡◌, refl, ap, ◌∙◌, sym, subst, ℕ, ◌+◌, Bool, true, false, if◌then◌else◌, List, [], ◌∷◌, map, Option, Some, None}
use Rattle.std.specs.List.{list_any}
use Rattle.nu_value.specs.declared.header.ParamKind.{ParamKind}
use Rattle.nu_value.specs.declared.header.ParamKind.TheVariants as kind
use Rattle.op_forms.specs.declared.op.Op.{Op}
use Rattle.code_forms.specs.declared.operand.Operand.{Operand}
use Rattle.py_ast.specs.declared.expr.Param.{Param}
use Rattle.py_ast.specs.declared.expr.Param.TheVariants as param
use Rattle.py_ast.specs.declared.expr.Clauses.{Clauses}
use Rattle.py_ast.specs.declared.expr.Expr.{Expr}
use Rattle.py_scopes.specs.Parts.{param_of}
use Rattle.node_tree.specs.Blocks as tree
use Rattle.py_meaning.specs.Resolved as meaning
use Rattle.py_meaning.specs.Resolved.{Context, kinds, shape, is_slash, inside, handed}
use Rattle.carries_base.specs.Carries.{Carrier}
use Rattle.carries_base.specs.Frames.{behind}
use Rattle.carried_codes.specs.Expressions as expressions
use Rattle.carried_codes.specs.Statements as statements
use Rattle.walk_laws.specs.Contexts.{homes_in, cells_in}
use Rattle.walk_laws.specs.Expressions as walk
use Rattle.walk_laws.specs.States.{State, Walked, Walking, walked, at, done}
use Rattle.reform_walk.specs.Gathering.{behind_element}

-- the element of a comprehension is made inside, and then its clauses around it
pub collected : (c d : Context) (line first : ℕ) (o : Option Op) (element : Context → Operand → Walking tree.Block) (cs : Clauses walk.Part) (s u : State) (e : tree.Block)
    → d ≡ inside c s.scope handed c.class → first ≡ behind (homes_in d)
    → e ≡ (element d (walk.into o first) (at (walk.into_drawn o first) (walk.begun s))).is
    → u ≡ (element d (walk.into o first) (at (walk.into_drawn o first) (walk.begun s))).state
    → behind_element c d line o first cs e s u ≡ walk.comprehension c line o element cs s
collected c d line first o element cs s u e place from is state =
    let k = λ (d' : Context) (t : ℕ). element d' (walk.into o t) (at (walk.into_drawn o t) (walk.begun s)) in
    ap (λ b. behind_element c d line o first cs b s u) is
    ∙ ap (λ w. behind_element c d line o first cs (k d first).is s w) state
    ∙ ap (λ t. behind_element c d line o t cs (k d t).is s (k d t).state) from
    ∙ ap (λ d'. let t = behind (homes_in d') in behind_element c d' line o t cs (k d' t).is s (k d' t).state) place

abbrev whole : Context → ℕ → State → List (ParamKind × List ℕ) → Context → walk.Defaults → ℕ → tree.Block → State → Walked Carrier
whole c line s params d ds out b w =
    let v = expressions.function line (c.first + s.scope) ds.positional ds.named (cells_in c s.scope) out in
    walked v.part (walk.ended s d params b w v.next)

module _ (f : Expr → walk.Part) where
  kinds_same : (k : ParamKind) (ps : List (Param Expr)) → kinds k (map (param_of f) ps) ≡ kinds k ps
  kinds_same k [] = refl
  kinds_same k (param.Named line name default ∷ ps) = ap (λ r. (k, name) ∷ r) (kinds_same k ps)
  kinds_same k (param.Slash line ∷ ps) = kinds_same kind.Plain ps
  kinds_same k (param.Star line (Some name) ∷ ps) = ap (λ r. (kind.Star, name) ∷ r) (kinds_same kind.Key ps)
  kinds_same k (param.Star line None ∷ ps) = kinds_same kind.Key ps
  kinds_same k (param.DoubleStar line name ∷ ps) = ap (λ r. (kind.Double, name) ∷ r) (kinds_same k ps)

  slash_same : (ps : List (Param Expr)) → list_any is_slash (map (param_of f) ps) ≡ list_any is_slash ps
  slash_same [] = refl
  slash_same (param.Named line name default ∷ ps) = slash_same ps
  slash_same (param.Slash line ∷ ps) = refl
  slash_same (param.Star line name ∷ ps) = slash_same ps
  slash_same (param.DoubleStar line name ∷ ps) = slash_same ps

  pub shape_same : (c : Context) (ps : List (Param Expr)) → shape c (map (param_of f) ps) ≡ shape c ps
  shape_same c ps =
      ap (λ b. map (λ p. (p.0, meaning.name_in c p.1)) (kinds (if b then kind.Only else kind.Plain) (map (param_of f) ps))) (slash_same ps)
      ∙ ap (map (λ p. (p.0, meaning.name_in c p.1))) (kinds_same (if list_any is_slash ps then kind.Only else kind.Plain) ps)

-- a function whose parameters and defaults are made, and its body inside
module _ (c d : Context) (line out : ℕ) (ps : List (Param walk.Part)) (s u w : State) (params : List (ParamKind × List ℕ)) (ds : walk.Defaults) (b : tree.Block) (body : Context → Walking tree.Block) where
  pub functional : d ≡ inside c s.scope params c.class → params ≡ shape c ps
      → ds ≡ (walk.defaults c false ps (walk.begun s)).is
      → out ≡ (walk.defaults c false ps (walk.begun s)).state.temp
      → u ≡ walk.entered d (walk.defaults c false ps (walk.begun s)).state
      → b ≡ (body d u).is → w ≡ (body d u).state
      → whole c line s params d ds out b w ≡ walk.function c line ps body s
  functional place params_are defaults_are outside state is ends =
      let a = walk.defaults c false ps (walk.begun s) in
      ap (λ x. whole c line s params d ds out x w) is
      ∙ ap (λ x. whole c line s params d ds out (body d u).is x) ends
      ∙ ap (λ x. whole c line s params d ds out (body d x).is (body d x).state) state
      ∙ ap (λ x. whole c line s params x ds out (body x (walk.entered x a.state)).is (body x (walk.entered x a.state)).state) place
      ∙ ap (λ x. let d' = inside c s.scope x c.class in whole c line s x d' ds out (body d' (walk.entered d' a.state)).is (body d' (walk.entered d' a.state)).state) params_are
      ∙ ap (λ x. let d' = inside c s.scope (shape c ps) c.class in whole c line s (shape c ps) d' x out (body d' (walk.entered d' a.state)).is (body d' (walk.entered d' a.state)).state) defaults_are
      ∙ ap (λ x. let d' = inside c s.scope (shape c ps) c.class in whole c line s (shape c ps) d' a.is x (body d' (walk.entered d' a.state)).is (body d' (walk.entered d' a.state)).state) outside
