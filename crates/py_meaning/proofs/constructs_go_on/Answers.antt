use Rattle.nu_rows.proofs.Direct.{Direct}
use Rattle.nu_rows.proofs.Places.{from_begin, from_place}
use Rattle.py_meaning.specs.Frames.{R}
use Rattle.py_meaning.specs.Laws.{GoesOn}
use Rattle.py_meaning.proofs.DirectExpressions.{expression_direct}
use Rattle.py_meaning.proofs.DirectStatements.{block_direct, code_direct}
use Rattle.py_meaning.proofs.constructs_go_on.Goals as goal

goes_on : (r : R) → Direct r → GoesOn r
goes_on r h = record {
  begin = λ rows p g s n. from_begin rows n r p g s;
  back = λ rows p q how s n. from_place rows n r p q (h.at p) how s;
}

pub returns : goal.returns
returns c = record {
  expressions = λ l x. goes_on _ (expression_direct l x);
  blocks = λ l handled b. goes_on _ (block_direct l handled b);
  codes = λ l code. goes_on _ (code_direct l code);
}
