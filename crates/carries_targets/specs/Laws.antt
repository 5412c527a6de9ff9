-- What blocks carry of targets that aren't names alone. Parts may write any temporaries in front of those that are drawn, apart from
-- operands that are kept over them.
use Rattle.std.specs.Prelude.{ℕ, ◌+◌, ◌≤◌, List, Option}
use Rattle.nu_value.specs.declared.value.Value.{Value}
use Rattle.op_forms.specs.declared.op.Op.{Op}
use Rattle.code_forms.specs.declared.operand.Operand.{Operand}
use Rattle.node_tree.specs.Blocks as tree
use Rattle.py_meaning.specs.Syntax as syntax
use Rattle.py_meaning.specs.Frames as python
use Rattle.py_meaning.specs.Statements.{count}
use Rattle.carries_base.specs.Frames.{Homes, HaveRoom, behind, IsOff}
use Rattle.carries_base.specs.Carries.{CarriesExpression, CarriesGiven, CarriesStatement}
use Rattle.carries_base.specs.Laws.{Within}
use Rattle.carries_names.specs.Names.{HasPlace, CarriesDeletion, CarriesDeletions}
use Rattle.carries_targets.specs.Places.{CarriesDrawn, CarriesPlace, CarriesPlaces, Taker, CarriesItem, CarriesItems}
use Rattle.carries_targets.specs.Targets.{attribute_block, index_block, each_block, starred_block}
use Rattle.carries_targets.specs.Augments.{name_augmented, attribute_augmented, index_augmented}
use Rattle.carries_targets.specs.Deletions.{attribute_deleted, index_deleted}

-- attributes and indices that are assigned to, and other targets beside them
pub record CarriesStores : Type 0 where
  -- as names are, a target without parts
  pub bare : (h : Homes) (low high from to : ℕ) (o : Operand) (r : python.L → Value → python.R) (b : tree.Block) → behind h ≤ low → low ≤ high → high ≤ from → CarriesGiven h from to o r b → CarriesDrawn h low high from to o r b
  -- where nothing is kept between parts and drawn temporaries
  pub whole : (h : Homes) (low high from to : ℕ) (o : Operand) (r : python.L → Value → python.R) (b : tree.Block) → CarriesDrawn h low high from to o r b → CarriesGiven h low to o r b
  -- that writes fewer temporaries than it may
  pub wider : (h : Homes) (low high from to l r first last : ℕ) (o : Operand) (row : python.L → Value → python.R) (b : tree.Block) → behind h ≤ low → high ≤ from → Within low high l r → Within from to first last → CarriesDrawn h l r first last o row b → CarriesDrawn h low high from to o row b
  pub attribute : (h : Homes) (low high to line : ℕ) (o : Operand) (x : syntax.Expression) (name : List ℕ) (xb : tree.Block) (a : Operand) → high ≤ to → CarriesExpression h low high x xb a → CarriesPlace h low high to (to + 1) o (syntax.ToAttribute line x name) (attribute_block line to xb a name o)
  pub index : (h : Homes) (low high xl xh yl yh to line : ℕ) (o : Operand) (x y : syntax.Expression) (xb yb : tree.Block) (a i : Operand) → behind h ≤ low → high ≤ to → Within low high xl xh → Within low high yl yh → IsOff h yl yh a → CarriesExpression h xl xh x xb a → CarriesExpression h yl yh y yb i → CarriesPlace h low high to (to + 1) o (syntax.ToIndex line x y) (index_block line to xb a yb i o)

-- a value is unpacked: the list of its items is in the first of the drawn temporaries
pub record CarriesUnpacking : Type 0 where
  pub each : (h : Homes) (low high list to line : ℕ) (o : Operand) (xs : syntax.Targets) (ps : List Taker) → behind h ≤ low → low ≤ high → high ≤ list → list + 1 ≤ to → CarriesItems h low high (list + 1) to xs ps → CarriesPlace h low high list to o (syntax.ToEach line xs) (each_block line list (count xs) o ps)
  pub starred : (h : Homes) (low high list to line : ℕ) (o : Operand) (xs ys : syntax.Targets) (star : syntax.Target) (ps qs : List Taker) (p : Taker) → behind h ≤ low → low ≤ high → high ≤ list → list + 1 ≤ to → CarriesItems h low high (list + 1) to xs ps → CarriesItem h low high (list + 1) to star p → CarriesItems h low high (list + 1) to ys qs → CarriesPlace h low high list to o (syntax.ToStarred line xs star ys) (starred_block line list (count xs) (count ys) o ps p qs)

-- several targets, from left to right, and the statement, whose right side comes first
pub record CarriesTargetLists : Type 0 where
  pub none : (h : Homes) (low high from to : ℕ) (o : Operand) → behind h ≤ low → low ≤ high → high ≤ from → from ≤ to → CarriesPlaces h low high from to o syntax.NoTarget tree.Stop
  pub also : (h : Homes) (low high from to : ℕ) (o : Operand) (x : syntax.Target) (xs : syntax.Targets) (a b : tree.Block) → CarriesPlace h low high from to o x a → CarriesPlaces h low high from to o xs b → CarriesPlaces h low high from to o (syntax.AlsoTo x xs) (tree.append a b)
  -- the value is apart from all that the targets write
  pub assign : (h : Homes) (low xl xh l r from to : ℕ) (caught : Option ℕ) (x : syntax.Expression) (xs : syntax.Targets) (xb b : tree.Block) (a : Operand) → behind h ≤ low → low ≤ l → Within low from xl xh → IsOff h l r a → CarriesExpression h xl xh x xb a → CarriesPlaces h l r from to a xs b → CarriesStatement h low to caught (syntax.Assign xs x) (tree.append xb b)

-- the target's parts are evaluated once; three temporaries are drawn
pub record CarriesAugments : Type 0 where
  pub name : (h : Homes) (low high wl wh at line : ℕ) (caught : Option ℕ) (o : Op) (home : syntax.Home) (w : syntax.Expression) (wb : tree.Block) (b : Operand) → HaveRoom h → HasPlace h home → behind h ≤ low → Within low high wl wh → CarriesExpression h wl wh w wb b → CarriesStatement h low (high + 3) caught (syntax.Augment line o (syntax.ToName at home) w) (name_augmented h at line high o home wb b)
  pub attribute : (h : Homes) (low high xl xh wl wh at line : ℕ) (caught : Option ℕ) (o : Op) (x w : syntax.Expression) (name : List ℕ) (xb wb : tree.Block) (a b : Operand) → behind h ≤ low → Within low high xl xh → Within low high wl wh → IsOff h wl wh a → CarriesExpression h xl xh x xb a → CarriesExpression h wl wh w wb b → CarriesStatement h low (high + 3) caught (syntax.Augment line o (syntax.ToAttribute at x name) w) (attribute_augmented at line high o xb a name wb b)
  pub index : (h : Homes) (low high xl xh yl yh wl wh at line : ℕ) (caught : Option ℕ) (o : Op) (x y w : syntax.Expression) (xb yb wb : tree.Block) (a i b : Operand) → behind h ≤ low → Within low high xl xh → Within low high yl yh → Within low high wl wh → IsOff h yl yh a → IsOff h wl wh a → IsOff h wl wh i → CarriesExpression h xl xh x xb a → CarriesExpression h yl yh y yb i → CarriesExpression h wl wh w wb b → CarriesStatement h low (high + 3) caught (syntax.Augment line o (syntax.ToIndex at x y) w) (index_augmented at line high o xb a yb i wb b)

-- attributes, indices, and several targets
pub record CarriesDeletes : Type 0 where
  pub attribute : (h : Homes) (low high xl xh line : ℕ) (x : syntax.Expression) (name : List ℕ) (xb : tree.Block) (a : Operand) → behind h ≤ low → Within low high xl xh → CarriesExpression h xl xh x xb a → CarriesDeletion h low (high + 1) (syntax.ToAttribute line x name) (attribute_deleted line high xb a name)
  pub index : (h : Homes) (low high xl xh yl yh line : ℕ) (x y : syntax.Expression) (xb yb : tree.Block) (a i : Operand) → behind h ≤ low → Within low high xl xh → Within low high yl yh → IsOff h yl yh a → CarriesExpression h xl xh x xb a → CarriesExpression h yl yh y yb i → CarriesDeletion h low (high + 1) (syntax.ToIndex line x y) (index_deleted line high xb a yb i)
  -- several targets, whose temporaries need not lie apart
  pub also : (h : Homes) (low high al ah bl bh : ℕ) (x : syntax.Target) (xs : syntax.Targets) (a b : tree.Block) → behind h ≤ low → Within low high al ah → Within low high bl bh → CarriesDeletion h al ah x a → CarriesDeletions h bl bh xs b → CarriesDeletions h low high (syntax.AlsoTo x xs) (tree.append a b)
