-- A list of nodes is known by its block.
use Rattle.std.proofs.Common.{◌≡◌, List, [], ◌∷◌, map, refl, sym, ◌∙◌, ap, subst}
use Rattle.node_tree.specs.declared.node.Node.{Node, map-Node, roll-Node, ind-Node}
use Rattle.node_tree.specs.declared.node.Node.TheOpen.{Node-F}
use Rattle.node_tree.specs.declared.node.Node.TheVariants.{Constant, Copy, Do, Call, Yield, If, Loop, Leave, Catch, Return, Raise, Unset, rolls-Constant, rolls-Copy, rolls-Do, rolls-Call, rolls-Yield, rolls-If, rolls-Loop, rolls-Leave, rolls-Catch, rolls-Return, rolls-Raise, rolls-Unset}
use Rattle.node_tree.specs.Blocks as tree
use Rattle.node_tree.specs.Tree.{form, block}
use Rattle.node_tree.proofs.Forms.{form_loop, form_if, form_catch}

abbrev mutual
  node : tree.Form → Node
  node (tree.Constant to c) = Constant to c
  node (tree.Copy to from) = Copy to from
  node (tree.Do to line o args) = Do to line o args
  node (tree.Call to line function args) = Call to line function args
  node (tree.Yield to line a) = Yield to line a
  node (tree.If test y n) = If test (nodes y) (nodes n)
  node (tree.Loop body) = Loop (nodes body)
  node (tree.Leave levels) = Leave levels
  node (tree.Catch to body handler) = Catch to (nodes body) (nodes handler)
  node (tree.Return a) = Return a
  node (tree.Raise a) = Raise a
  node (tree.Unset to) = Unset to

  nodes : tree.Block → List Node
  nodes tree.Stop = []
  nodes (tree.Follow x r) = node x ∷ nodes r

abbrev Known : Node → Type 0
Known n = node (form n) ≡ n

abbrev Sure : Type 0
Sure = (n : Node) × Known n

all_known : (es : List Sure) → nodes (block (map (λ e. e.0) es)) ≡ map (λ e. e.0) es
all_known [] = refl
all_known (e ∷ es) = ap (λ n. n ∷ nodes (block (map (λ e. e.0) es))) e.1 ∙ ap (λ l. e.0 ∷ l) (all_known es)

abbrev only : Node-F Sure → Node-F Node
only y = map-Node Sure Node (λ e. e.0) y

layer_known : (y : Node-F Sure) → Known (roll-Node (only y))
layer_known (Node-F.Constant to c) = subst Known (sym (rolls-Constant to c)) refl
layer_known (Node-F.Copy to from) = subst Known (sym (rolls-Copy to from)) refl
layer_known (Node-F.Do to line o args) = subst Known (sym (rolls-Do to line o args)) refl
layer_known (Node-F.Call to line a args) = subst Known (sym (rolls-Call to line a args)) refl
layer_known (Node-F.Yield to line a) = subst Known (sym (rolls-Yield to line a)) refl
layer_known (Node-F.If test ys ns) =
    let ys' = map (λ (e : Sure). e.0) ys in
    let ns' = map (λ (e : Sure). e.0) ns in
    subst Known (sym (rolls-If test ys' ns')) (ap node (form_if test ys' ns') ∙ ap (λ l. If test l (nodes (block ns'))) (all_known ys) ∙ ap (If test ys') (all_known ns))
layer_known (Node-F.Loop body) =
    let body' = map (λ (e : Sure). e.0) body in
    subst Known (sym (rolls-Loop body')) (ap node (form_loop body') ∙ ap Loop (all_known body))
layer_known (Node-F.Leave levels) = subst Known (sym (rolls-Leave levels)) refl
layer_known (Node-F.Catch to body handler) =
    let body' = map (λ (e : Sure). e.0) body in
    let handler' = map (λ (e : Sure). e.0) handler in
    subst Known (sym (rolls-Catch to body' handler')) (ap node (form_catch to body' handler') ∙ ap (λ l. Catch to l (nodes (block handler'))) (all_known body) ∙ ap (Catch to body') (all_known handler))
layer_known (Node-F.Return a) = subst Known (sym (rolls-Return a)) refl
layer_known (Node-F.Raise a) = subst Known (sym (rolls-Raise a)) refl
layer_known (Node-F.Unset to) = subst Known (sym (rolls-Unset to)) refl

known : (n : Node) → Known n
known = ind-Node Known (λ x y is. subst (λ w. Known (roll-Node w)) is (layer_known y))

nodes_known : (xs : List Node) → nodes (block xs) ≡ xs
nodes_known [] = refl
nodes_known (x ∷ xs) = ap (λ n. n ∷ nodes (block xs)) (known x) ∙ ap (λ l. x ∷ l) (nodes_known xs)

pub block_same : (xs ys : List Node) → block xs ≡ block ys → xs ≡ ys
block_same xs ys e = sym (nodes_known xs) ∙ ap nodes e ∙ nodes_known ys
