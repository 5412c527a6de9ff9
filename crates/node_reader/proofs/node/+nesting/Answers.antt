use Rattle.std.proofs.Common.{◌≡◌, ◌∙◌, ◌∷◌, [], ℕ, List, ap, sym, subst}
use Rattle.std.specs.Prelude.{codes}
use Rattle.node_tree.specs.Blocks as tree
use Rattle.node_tree.specs.Tree.{form, block}
use Rattle.node_tree.proofs.Direct.{block_append}
use Rattle.node_tree.proofs.Forms.{form_if, form_loop, form_catch}
use Rattle.node_text.specs.Text.{inner}
use Rattle.node_text.specs.Written.{IsBlock}
use Rattle.node_reader.specs.Nodes.{NodeStands, BlockStands, ClosedStands, TwoStand}
use Rattle.node_reader.proofs.Nodes.{no_block, next_node, append_is, no_closed, closed_behind, closed_word, two_second, if_of, if_two, loop_of, catch_of, catch_two}
use Rattle.node_reader.proofs.Passed.{passed}
use Rattle.node_reader.proofs.node.+nesting.Goals as goal

pub block-returns-in_err-one-clause-not_nodes : goal.block-returns-in_err-one-clause-not_nodes
block-returns-in_err-one-clause-not_nodes t c =
    let indent = c.args.indent.now in
    let text = c.args.text.now in
    let behind = c.in-Some.behind.now in
    passed c.from_residual.result c.in_err-one.field-0.0 ((x : tree.Form) (rest : List ℕ) → NodeStands indent behind x rest → ⊥) ((b : tree.Block) (rest : List ℕ) → BlockStands indent text b rest → ⊥) c.from_residual.ensures.1
    (no_block indent text c.loop-behind.left.now behind (block c.loop-behind.nodes) c.loop-behind.invariant.spelled c.loop-behind.invariant.is c.in-Some.ensures.some) c.in_err-one.ensures.not_nodes

pub block-loop-behind-preserved : goal.block-loop-behind-preserved
block-loop-behind-preserved t c =
    let read = c.loop-behind.nodes in
    let one = c.in_ok-one.one in
    let stands = c.in_ok-one.ensures.ok in
    let grown : block c.push.new.self ≡ tree.append (block read) (tree.alone (form one)) = ap block c.in_ok-push.ensures.ok ∙ block_append read (one ∷ []) in
    record {
      spelled = next_node c.args.indent.now c.args.text.now c.loop-behind.left.now c.in-Some.behind.now c.in_ok-one.rest.now (block read) (block c.push.new.self) (form one) c.loop-behind.invariant.spelled c.in-Some.ensures.some stands grown;
      is = subst IsBlock (sym grown) (append_is (block read) (form one) c.loop-behind.invariant.is stands.head stands.tail);
    }

pub closed-returns-in_err-nodes-clause-not_nodes : goal.closed-returns-in_err-nodes-clause-not_nodes
closed-returns-in_err-nodes-clause-not_nodes t c =
    let indent = c.args.indent.now in
    let word = c.args.word.now in
    let text = c.args.text.now in
    let within : c.deref.result.now ≡ inner indent = c.deref.ensures.value ∙ c.in_ok-within.ensures in
    passed c.from_residual-in_err-nodes.result c.in_err-nodes.field-0.0 ((b : tree.Block) (rest : List ℕ) → BlockStands c.deref.result.now text b rest → ⊥) ((b : tree.Block) (rest : List ℕ) → ClosedStands indent word text b rest → ⊥) c.from_residual-in_err-nodes.ensures.1
    (λ none. no_closed indent word text c.requires (subst (λ i. (b : tree.Block) (rest : List ℕ) → BlockStands i text b rest → ⊥) within none)) c.in_err-nodes.ensures.not_nodes

pub closed-returns-in_default-clause-not_nodes : goal.closed-returns-in_default-clause-not_nodes
closed-returns-in_default-clause-not_nodes t c = λ b rest s.
    let text = c.args.text.now in
    let behind = c.in_ok-nodes.behind.now in
    let within : c.deref.result.now ≡ inner c.args.indent.now = c.deref.ensures.value ∙ c.in_ok-within.ensures in
    c.in_default.ensures.none _
    (closed_behind c.args.indent.now c.args.word.now text behind (block c.in_ok-nodes.nodes) b rest c.requires (subst (λ i. BlockStands i text (block c.in_ok-nodes.nodes) behind) within c.in_ok-nodes.ensures.ok) s).1

pub closed-returns-in_default-after-clause-not_nodes : goal.closed-returns-in_default-after-clause-not_nodes
closed-returns-in_default-after-clause-not_nodes t c = λ b rest s.
    let text = c.args.text.now in
    let behind = c.in_ok-nodes.behind.now in
    let within : c.deref.result.now ≡ inner c.args.indent.now = c.deref.ensures.value ∙ c.in_ok-within.ensures in
    c.in_default-after.ensures.none rest
    (closed_word c.args.indent.now c.args.word.now text behind c.in-Some.closing.now (block c.in_ok-nodes.nodes) b rest c.requires (subst (λ i. BlockStands i text (block c.in_ok-nodes.nodes) behind) within c.in_ok-nodes.ensures.ok) c.in-Some.ensures.some s).1

pub two-returns-in_err-second-clause-not_nodes : goal.two-returns-in_err-second-clause-not_nodes
two-returns-in_err-second-clause-not_nodes t c =
    let indent = c.args.indent.now in
    let word = c.args.word.now in
    let text = c.args.text.now in
    let behind = c.in_ok-first.behind.now in
    passed c.from_residual-in_err-second.result c.in_err-second.field-0.0 ((b : tree.Block) (rest : List ℕ) → ClosedStands indent (codes "end\n") behind b rest → ⊥) ((a b : tree.Block) (rest : List ℕ) → TwoStand indent word text a b rest → ⊥) c.from_residual-in_err-second.ensures.1
    (λ none a b rest s. none b rest (two_second indent word text behind (block c.in_ok-first.first) a b rest c.requires c.in_ok-first.ensures.ok s).1) c.in_err-second.ensures.not_nodes

pub node-returns-in_err-yes-clause-not_nodes : goal.node-returns-in_err-yes-clause-not_nodes
node-returns-in_err-yes-clause-not_nodes t c =
    let indent = c.args.indent.now in
    let text = c.args.text.now in
    let behind = c.in-Some-2.behind.now in
    passed c.from_residual-in_err-yes.result c.in_err-yes.field-0.0 ((a b : tree.Block) (rest : List ℕ) → TwoStand indent (codes "else\n") behind a b rest → ⊥) ((x : tree.Form) (rest : List ℕ) → NodeStands indent text x rest → ⊥) c.from_residual-in_err-yes.ensures.1
    (if_two indent text behind c.in-Some-2.test (rw c.in-Some-2.is at c.in_ok-test.ensures.some)) c.in_err-yes.ensures.not_nodes

pub node-returns-in-Some-2-clause-ok : goal.node-returns-in-Some-2-clause-ok
node-returns-in-Some-2-clause-ok t c =
    let indent = c.args.indent.now in
    let text = c.args.text.now in
    let rest = c.in_ok-yes.rest.now in
    subst (λ x. NodeStands indent text x rest) (sym (form_if c.in-Some-2.test c.in_ok-yes.yes c.in_ok-yes.no))
    (if_of indent text c.in-Some-2.behind.now c.in-Some-2.test (block c.in_ok-yes.yes) (block c.in_ok-yes.no) rest (rw c.in-Some-2.is at c.in_ok-test.ensures.some) c.in_ok-yes.ensures.ok)

pub node-returns-in-Some-after-clause-ok : goal.node-returns-in-Some-after-clause-ok
node-returns-in-Some-after-clause-ok t c =
    let indent = c.args.indent.now in
    let text = c.args.text.now in
    let rest = c.in_ok-body.rest.now in
    subst (λ x. NodeStands indent text x rest) (sym (form_loop c.in_ok-body.body)) (loop_of indent text c.in-Some-after.behind.now (block c.in_ok-body.body) rest c.in-Some-after.ensures.some c.in_ok-body.ensures.ok)

pub node-returns-in_err-body-2-clause-not_nodes : goal.node-returns-in_err-body-2-clause-not_nodes
node-returns-in_err-body-2-clause-not_nodes t c =
    let indent = c.args.indent.now in
    let text = c.args.text.now in
    let behind = c.in-Some-field.behind.now in
    passed c.from_residual-in_err-body-2.result c.in_err-body-2.field-0.0 ((a b : tree.Block) (rest : List ℕ) → TwoStand indent (codes "handler\n") behind a b rest → ⊥) ((x : tree.Form) (rest : List ℕ) → NodeStands indent text x rest → ⊥) c.from_residual-in_err-body-2.ensures.1
    (catch_two indent text behind c.in-Some-field.to c.in-Some-field.ensures.some) c.in_err-body-2.ensures.not_nodes

pub node-returns-in-Some-field-clause-ok : goal.node-returns-in-Some-field-clause-ok
node-returns-in-Some-field-clause-ok t c =
    let indent = c.args.indent.now in
    let text = c.args.text.now in
    let rest = c.in_ok-body-2.rest.now in
    subst (λ x. NodeStands indent text x rest) (sym (form_catch c.in-Some-field.to c.in_ok-body-2.body c.in_ok-body-2.handler))
    (catch_of indent text c.in-Some-field.behind.now c.in-Some-field.to (block c.in_ok-body-2.body) (block c.in_ok-body-2.handler) rest c.in-Some-field.ensures.some c.in_ok-body-2.ensures.ok)
