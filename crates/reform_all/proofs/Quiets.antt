-- Nodes in which each operation takes what it is given, and no pause stands.
use Rattle.std.proofs.Common.{◌≡◌, ℕ, ◌+◌, Bool, true, not, if◌then◌else◌, List, [], ◌∷◌, ◌++◌, refl, ap, ◌∙◌, arith}
use Rattle.py_ast.specs.declared.expr.Binary.{Binary}
use Rattle.py_ast.specs.declared.expr.Binary.TheVariants as binary
use Rattle.op_forms.specs.declared.op.Op.{Op}
use Rattle.code_forms.specs.declared.operand.Argument.{Argument}
use Rattle.code_forms.specs.declared.operand.Argument.TheVariants as argument
use Rattle.node_tree.specs.declared.node.Node.{Node}
use Rattle.code_forms.specs.declared.operand.Operand.{Operand}
use Rattle.node_tree.specs.Blocks as tree
use Rattle.node_tree.specs.Contents.{total, form_operations, operations, form_yields, yields}
use Rattle.node_tree.specs.Tree.{block}
use Rattle.node_tree.proofs.Direct.{block_append, total_append}
use Rattle.py_meaning.specs.Resolved.{augmented_op}
use Rattle.reform_expr.specs.declared.home.Home.TheVariants as home
use Rattle.reform_loops.specs.Kept.{asks}
use Rattle.reform_unpack.specs.declared.place.Place.{Place}
use Rattle.reform_unpack.specs.declared.place.Place.TheVariants as place
use Rattle.reform_unpack.specs.Places.{reads, stores}
use Rattle.reform_all.specs.Quiet.{Quiet}
use Rattle.code_forms.specs.Taking.{is_taken}

-- what counts as refused
abbrev pub refuses : Op → List Argument → Bool
refuses o args = not (is_taken o args)

none_appended : (count : tree.Form → ℕ) (xs ys : List Node) → total count (block xs) ≡ 0 → total count (block ys) ≡ 0 → total count (block (xs ++ ys)) ≡ 0
none_appended count xs ys ex ey =
    let e : total count (tree.append (block xs) (block ys)) ≡ total count (block xs) + total count (block ys) = total_append count (block xs) (block ys) in
    let goal : total count (tree.append (block xs) (block ys)) ≡ 0 = omega arith in
    ap (λ b. total count b) (block_append xs ys) ∙ goal

pub quiet_append : (xs ys : List Node) → Quiet xs → Quiet ys → Quiet (xs ++ ys)
quiet_append xs ys x y = record {
  taken = none_appended (form_operations refuses) xs ys x.taken y.taken;
  yields = none_appended form_yields xs ys x.yields y.yields;
}

pub quiet_nil : Quiet []
quiet_nil = record { taken = refl; yields = refl }

-- a statement that reads or stores a name
stores_taken : (to : ℕ) (o : Operand) (at : Place) → form_operations refuses (stores to o at) ≡ 0
stores_taken to o (place.Name (home.Module name) line) = refl

stores_yields : (to : ℕ) (o : Operand) (at : Place) → form_yields (stores to o at) ≡ 0
stores_yields to o (place.Name (home.Module name) line) = refl

reads_taken : (to : ℕ) (at : Place) → form_operations refuses (reads to at) ≡ 0
reads_taken to (place.Name (home.Module name) line) = refl

reads_yields : (to : ℕ) (at : Place) → form_yields (reads to at) ≡ 0
reads_yields to (place.Name (home.Module name) line) = refl

pub stores_quiet : (to : ℕ) (o : Operand) (at : Place) (nodes : List Node) → ((count : tree.Form → ℕ) → total count (block nodes) ≡ count (stores to o at)) → Quiet nodes
stores_quiet to o at nodes e = record {
  taken = e (form_operations refuses) ∙ stores_taken to o at;
  yields = e form_yields ∙ stores_yields to o at;
}

augmented_taken : (operator : Binary) (a b : Operand) → is_taken (augmented_op operator) (argument.Value a ∷ argument.Value b ∷ []) ≡ true
augmented_taken binary.BitOr a b = refl
augmented_taken binary.BitXor a b = refl
augmented_taken binary.BitAnd a b = refl
augmented_taken binary.LeftShift a b = refl
augmented_taken binary.RightShift a b = refl
augmented_taken binary.Add a b = refl
augmented_taken binary.Subtract a b = refl
augmented_taken binary.Multiply a b = refl
augmented_taken binary.FloorDivide a b = refl
augmented_taken binary.Remainder a b = refl
augmented_taken binary.Power a b = refl

pub augment_quiet : (t u v line : ℕ) (operator : Binary) (o : Op) (at : Place) (a b : Operand) (w : Operand) (right nodes : List Node) → o ≡ augmented_op operator → ((count : tree.Form → ℕ) → total count (block nodes) ≡ count (reads t at) + total count (block right) + count (tree.Do u line o (argument.Value a ∷ argument.Value b ∷ [])) + count (stores v w at)) → Quiet right → Quiet nodes
augment_quiet t u v line operator o at a b w right nodes eo e q =
    let r₁ = reads_taken t at in
    let s₁ = stores_taken v w at in
    let d : form_operations refuses (tree.Do u line o (argument.Value a ∷ argument.Value b ∷ [])) ≡ 0 =
    ap (λ p. form_operations refuses (tree.Do u line p (argument.Value a ∷ argument.Value b ∷ []))) eo ∙ ap (λ k. if not k then 1 else 0) (augmented_taken operator a b) in
    let r₂ = reads_yields t at in
    let s₂ = stores_yields v w at in
    let q₁ : total (form_operations refuses) (block right) ≡ 0 = q.taken in
    let q₂ : total form_yields (block right) ≡ 0 = q.yields in
    let e₁ = e (form_operations refuses) in
    let e₂ : total form_yields (block nodes) ≡ form_yields (reads t at) + total form_yields (block right) + 0 + form_yields (stores v w at) = e form_yields in
    record { taken = omega (arith, e₁, d, q₁, r₁, s₁); yields = omega (arith, e₂, q₂, r₂, s₂) }

-- a branch or a loop
pub parts_quiet : (o : Operand) (test body other nodes : List Node) → ((counts : Op → List Argument → Bool) → operations counts (block nodes) ≡ operations counts (block test) + operations counts (block body) + operations counts (block other) + asks counts o) → yields (block nodes) ≡ yields (block test) + yields (block body) + yields (block other) → Quiet test → Quiet body → Quiet other → Quiet nodes
parts_quiet o test body other nodes f e x y z =
    let x₁ : operations refuses (block test) ≡ 0 = x.taken in
    let y₁ : operations refuses (block body) ≡ 0 = y.taken in
    let z₁ : operations refuses (block other) ≡ 0 = z.taken in
    let f₁ : operations refuses (block nodes) ≡ operations refuses (block test) + operations refuses (block body) + operations refuses (block other) + 0 = f refuses in
    let x₂ = x.yields in
    let y₂ = y.yields in
    let z₂ = z.yields in
    record { taken = omega (arith, f₁, x₁, y₁, z₁); yields = omega (arith, e, x₂, y₂, z₂) }
