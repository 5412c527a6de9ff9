-- The laws of the text relation.
use Rattle.std.specs.Prelude.{◌≡◌, ℕ, List}
use Rattle.c_meaning.specs.declared.program.CProgram as program
use Rattle.c_meaning.specs.Written.{IsText}

-- a text is that of one program at most
abbrev pub OneProgram : Type 0
OneProgram = (text : List ℕ) (p q : program.CProgram) → IsText text p → IsText text q → p ≡ q

-- a program has one text at most
abbrev pub OneText : Type 0
OneText = (text other : List ℕ) (p : program.CProgram) → IsText text p → IsText other p → text ≡ other
