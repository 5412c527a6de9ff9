-- The laws of scripts' meanings.
use Rattle.std.specs.Prelude.{◌≡◌, ℕ, List, ◌++◌, Option}
use Rattle.nu_run.specs.Runs.{IsMonotone}
use Rattle.nu_rows.specs.Rows.{Step, How, Begin, Back, does}
use Rattle.nu_rows.specs.Places.{part_at, rest_of, IsFirstPart}
use Rattle.nu_calls.specs.Calls.{State}
use Rattle.op_forms.specs.Rules.{Rules}
use Rattle.py_ast.specs.declared.scoped.Scoped.{Scoped}
use Rattle.py_meaning.specs.Syntax.{Expression, Block, Code}
use Rattle.py_meaning.specs.Frames.{Frame, Item, R, L}
use Rattle.py_meaning.specs.Expressions.{expression}
use Rattle.py_meaning.specs.Statements.{block}
use Rattle.py_meaning.specs.Bodies.{code_row}
use Rattle.py_meaning.specs.Script.{py_run}

-- a larger bound prints no less, and an end stays
abbrev pub RunsAreMonotone : Type 0
RunsAreMonotone = (rules : Rules) (name : List ℕ) (script : Scoped) (text : Option Scoped) (input : List ℕ) → IsMonotone (py_run rules name script text input)

-- the outcome of what a row does, from its beginning and from any place in it, is what it makes of the outcome of the part there
pub record GoesOn (r : R) : Type 0 where
  pub begin : (rows : Item → R) (p : List Step) → IsFirstPart r p → (s : State Frame) (n : ℕ) → does rows r Begin s n ≡ rest_of rows n r p (does rows (part_at r p) Begin s n)
  pub back : (rows : Item → R) (p q : List Step) (how : How) (s : State Frame) (n : ℕ) → does rows r (Back (p ++ q) how) s n ≡ rest_of rows n r p (does rows (part_at r p) (Back q how) s n)

-- expressions, blocks and the bodies of codes do
pub record ConstructsGoOn : Type 0 where
  pub expressions : (l : L) (x : Expression) → GoesOn (expression l x)
  pub blocks : (l : L) (handled : Option ℕ) (b : Block) → GoesOn (block l handled b)
  pub codes : (l : L) (code : Option Code) → GoesOn (code_row l code)
