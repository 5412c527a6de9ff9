-- Statements and blocks at the front of a text, each with the rest behind it.
use Rattle.std.specs.Prelude.{◌≡◌, ℕ, List, [], ◌∷◌, ◌++◌, Bool, false, not, nat_eq, codes}
use Rattle.nu_text.specs.Pieces.{before}
use Rattle.c_reader.specs.Statements.{IsNotFront}
use Rattle.node_tree.specs.Blocks as tree
use Rattle.node_text.specs.Text.{head_pieces, inner, tail_pieces, block_text}
use Rattle.node_text.specs.Written.{IsHead, IsTail, IsBlock}

-- a statement of one line
abbrev pub IsSimple : tree.Form → Type 0
IsSimple (tree.If test y n) = ⊥
IsSimple (tree.Loop body) = ⊥
IsSimple (tree.Catch to body handler) = ⊥
IsSimple other = Unit {0}

-- a statement, behind the indentation of its first line
pub record NodeStands (indent text : List ℕ) (x : tree.Form) (rest : List ℕ) : Type 0 where
  pub head : IsHead x
  pub tail : IsTail x
  pub spelled : text ≡ before (head_pieces x) (before (tail_pieces indent x) rest)

-- a block, behind which no line of its indentation follows
pub record BlockStands (indent text : List ℕ) (b : tree.Block) (rest : List ℕ) : Type 0 where
  pub is : IsBlock b
  pub spelled : text ≡ block_text indent b ++ rest
  pub all : IsNotFront indent rest

-- a block within lines of an indentation, and the line of the closing word
pub record ClosedStands (indent word text : List ℕ) (b : tree.Block) (rest : List ℕ) : Type 0 where
  pub is : IsBlock b
  pub spelled : text ≡ before (block_text (inner indent) b ∷ indent ∷ word ∷ []) rest

-- two blocks with a word between them
pub record TwoStand (indent word text : List ℕ) (b c : tree.Block) (rest : List ℕ) : Type 0 where
  pub first : IsBlock b
  pub second : IsBlock c
  pub spelled : text ≡ before (block_text (inner indent) b ∷ indent ∷ word ∷ block_text (inner indent) c ∷ indent ∷ codes "end\n" ∷ []) rest

-- whether a word begins with a byte that is no space
abbrev pub begins_word : List ℕ → Bool
begins_word [] = false
begins_word (byte ∷ word) = not (nat_eq byte 32)
