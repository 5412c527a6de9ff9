-- What the lists of nodes that are built here are as blocks.
use Rattle.std.proofs.Common.{◌≡◌, ℕ, true, false, List, [], ◌∷◌, ◌++◌, refl, sym, ap, ◌∙◌, subst}
use Rattle.op_forms.specs.declared.constant.Const.TheVariants as const
use Rattle.op_forms.specs.declared.op.Op.TheVariants as op
use Rattle.code_forms.specs.declared.operand.Argument.{Argument}
use Rattle.code_forms.specs.declared.operand.Argument.TheVariants as argument
use Rattle.code_forms.specs.declared.operand.Operand.{Operand}
use Rattle.code_forms.specs.declared.operand.Operand.TheVariants as operand
use Rattle.node_tree.specs.declared.node.Node.{Node, Constant, Do, If, Loop, Leave}
use Rattle.node_tree.specs.Blocks.{alone}
use Rattle.node_tree.specs.Blocks as tree
use Rattle.node_tree.specs.Tree.{form, block}
use Rattle.node_tree.proofs.Direct.{block_append}
use Rattle.node_tree.proofs.Forms.{form_if, form_loop}
use Rattle.carries_base.specs.Laws.{if_block, turn_block, while_block}

appended : (x : tree.Block) (f : tree.Form) (y : tree.Block) → tree.append (tree.append x (alone f)) y ≡ tree.append x (tree.Follow f y)
appended tree.Stop f y = refl
appended (tree.Follow g x) f y = ap (λ r. tree.Follow g r) (appended x f y)

-- a test and a branch
pub branch_is : (line t : ℕ) (tb ys ns asked b : List Node) (args : List Argument) (o : Operand) → args ≡ argument.Value o ∷ [] → asked ≡ tb ++ Do t line op.Truth args ∷ [] → b ≡ asked ++ If (operand.Temp t) ys ns ∷ [] → block b ≡ if_block line t (block tb) o (block ys) (block ns)
branch_is line t tb ys ns asked b args o eg ea eb =
    ap block eb
    ∙ block_append asked (If (operand.Temp t) ys ns ∷ [])
    ∙ ap (λ x. tree.append x (tree.Follow (form (If (operand.Temp t) ys ns)) tree.Stop)) (ap block ea ∙ block_append tb (Do t line op.Truth args ∷ []))
    ∙ ap (λ x. tree.append (tree.append (block tb) (alone (tree.Do t line op.Truth args))) (alone x)) (form_if (operand.Temp t) ys ns)
    ∙ appended (block tb) (tree.Do t line op.Truth args) (alone (tree.If (operand.Temp t) (block ys) (block ns)))
    ∙ ap (λ xs. tree.append (block tb) (tree.Follow (tree.Do t line op.Truth xs) (alone (tree.If (operand.Temp t) (block ys) (block ns))))) eg

-- a turn
pub turn_is : (line over t : ℕ) (tb body inner again fails leaves : List Node) (o : Operand) (w : tree.Block) → inner ≡ body ++ Leave 1 ∷ [] → again ≡ Loop inner ∷ [] → fails ≡ Constant over (const.Bool true) ∷ [] → leaves ≡ fails ++ Leave 1 ∷ [] → w ≡ if_block line t (block tb) o (block again) (block leaves) → w ≡ turn_block line over t (block tb) o (block body)
turn_is line over t tb body inner again fails leaves o w ei ea ef el ew =
    ew
    ∙ ap (λ x. if_block line t (block tb) o x (block leaves)) (ap block ea ∙ ap alone (form_loop inner ∙ ap tree.Loop (ap block ei ∙ block_append body (Leave 1 ∷ []))))
    ∙ ap (λ x. if_block line t (block tb) o (alone (tree.Loop (tree.append (block body) (alone (tree.Leave 1))))) x) (ap block (el ∙ ap (λ l. l ++ Leave 1 ∷ []) ef))

-- the whole loop
pub while_is : (line over t : ℕ) (tb body other begins looped turn b nothing : List Node) (o : Operand) → begins ≡ Constant over (const.Bool false) ∷ [] → looped ≡ begins ++ Loop turn ∷ [] → nothing ≡ [] → b ≡ looped ++ If (operand.Temp over) other nothing ∷ [] → block turn ≡ turn_block line over t (block tb) o (block body) → block b ≡ while_block line over t (block tb) o (block body) (block other)
while_is line over t tb body other begins looped turn b nothing o eb el en e et =
    ap block (e ∙ ap (λ l. l ++ If (operand.Temp over) other nothing ∷ []) (el ∙ ap (λ l. l ++ Loop turn ∷ []) eb))
    ∙ ap (λ x. tree.Follow (tree.Constant over (const.Bool false)) (tree.Follow x (alone (form (If (operand.Temp over) other nothing))))) (form_loop turn ∙ ap tree.Loop et)
    ∙ ap (λ x. tree.Follow (tree.Constant over (const.Bool false)) (tree.Follow (tree.Loop (turn_block line over t (block tb) o (block body))) (alone x))) (form_if (operand.Temp over) other nothing ∙ ap (λ x. tree.If (operand.Temp over) (block other) (block x)) en)
