-- How many operations in a block don't take what they are given.
use Rattle.std.specs.Prelude.{ℕ, not}
use Rattle.code_forms.specs.Taking.{is_taken}
use Rattle.node_tree.specs.Blocks.{Block}
use Rattle.node_tree.specs.Contents.{operations}

abbrev pub refused : Block → ℕ
refused b = operations (λ o args. not (is_taken o args)) b
