use Rattle.std.proofs.Common.{arith, ℕ, List, ◌+◌}
use Rattle.c_meaning.specs.Text.{numbered}
use Rattle.node_tree.specs.declared.script.NodeCode.{NodeCode}
use Rattle.node_tree.specs.declared.script.NodeScript.{NodeScript}
use Rattle.node_text.specs.Text.{code_text, builtins}
use Rattle.node_text.specs.Written.{IsNodeText}
use Rattle.node_reader.specs.Codes.{HeadingStands, CodesStand}
use Rattle.node_reader.proofs.Passed.{passed}
use Rattle.node_reader.proofs.Scripts.{text_heading, text_codes, text_of}
use Rattle.node_reader.proofs.reader.script.Goals as goal

pub returns-in_err-name-clause-not_nodes : goal.returns-in_err-name-clause-not_nodes
returns-in_err-name-clause-not_nodes c =
    let text = c.args.text.now in
    passed c.from_residual.result c.in_err-name.field-0.0 ((name : List ℕ) (scripts builtins : ℕ) (rest : List ℕ) → HeadingStands text name scripts builtins rest → ⊥) ((s : NodeScript) → IsNodeText text s → ⊥) c.from_residual.ensures.1
    (λ none s t. none s.name s.scripts (builtins s) (numbered code_text 0 s.codes) (text_heading text s t)) c.in_err-name.ensures.not_nodes

pub returns-in_err-codes-clause-not_nodes : goal.returns-in_err-codes-clause-not_nodes
returns-in_err-codes-clause-not_nodes c =
    let text = c.args.text.now in
    let rest = c.in_ok-name.behind.now in
    let count = c.from.result + c.from-2.result in
    passed c.from_residual-in_err-codes.result c.in_err-codes.field-0.0 ((found : List NodeCode) → CodesStand count rest found → ⊥) ((s : NodeScript) → IsNodeText text s → ⊥) c.from_residual-in_err-codes.ensures.1
    (λ none s t. none s.codes (text_codes text c.in_ok-name.name c.in_ok-name.scripts c.in_ok-name.builtins count rest s (omega (arith, c.from.ensures, c.from-2.ensures)) c.in_ok-name.ensures.ok t)) c.in_err-codes.ensures.not_nodes

pub returns-clause-ok : goal.returns-clause-ok
returns-clause-ok c =
    text_of c.args.text.now c.in_ok-name.name c.in_ok-name.scripts c.in_ok-name.builtins (c.from.result + c.from-2.result) c.in_ok-name.behind.now c.in_ok-codes.codes (omega (arith, c.from.ensures, c.from-2.ensures)) c.in_ok-name.ensures.ok c.in_ok-codes.ensures.ok
