use Rattle.std.proofs.Common.{ℕ, List}
use Rattle.std.specs.Prelude.{codes}
use Rattle.node_tree.specs.Blocks as tree
use Rattle.node_tree.specs.Tree.{block}
use Rattle.node_tree.specs.declared.script.NodeCode.{NodeCode}
use Rattle.node_reader.specs.Nodes.{BlockStands}
use Rattle.node_reader.specs.Codes.{CodeStands}
use Rattle.node_reader.proofs.Codes.{no_header, code_body, code_of}
use Rattle.node_reader.proofs.Passed.{passed}
use Rattle.node_reader.proofs.code.code.Goals as goal

pub returns-in_default-clause-not_nodes : goal.returns-in_default-clause-not_nodes
returns-in_default-clause-not_nodes c = no_header c.args.value c.args.text.now (rw c.in_default.is at c.in_ok-header.ensures.none)

pub returns-in_err-body-clause-not_nodes : goal.returns-in_err-body-clause-not_nodes
returns-in_err-body-clause-not_nodes c =
    let text = c.args.text.now in
    let behind = c.in-Some.behind.now in
    passed c.from_residual-in_err-body.result c.in_err-body.field-0.0 ((b : tree.Block) (rest : List ℕ) → BlockStands (codes "  ") behind b rest → ⊥) ((d : NodeCode) (rest : List ℕ) → CodeStands c.args.value text d rest → ⊥) c.from_residual-in_err-body.ensures.1
    (λ none d rest s. none (block d.body) rest (code_body c.args.value text behind c.in-Some.header c.in-Some.free d rest (rw c.in-Some.is at c.in_ok-header.ensures.some) s).2) c.in_err-body.ensures.not_nodes

pub returns-clause-ok : goal.returns-clause-ok
returns-clause-ok c = code_of c.args.value c.args.text.now c.in-Some.behind.now _ c.in_ok-body.rest.now (rw c.in-Some.is at c.in_ok-header.ensures.some) c.in_ok-body.ensures.ok
