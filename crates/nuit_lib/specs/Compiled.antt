-- What compiling a script answers: from its scopes to C text.
use Rattle.std.specs.Prelude.{◌≡◌, ℕ, List, map, length, Some, None}
use Rattle.nu_run.specs.Runs.{Same}
use Rattle.op_rules.specs.TableRules.{table_rules}
use Rattle.py_ast.specs.declared.scoped.Scoped.{Scoped}
use Rattle.py_meaning.specs.Script.{py_run, all_codes}
use Rattle.reform_all.specs.declared.ending.ReformEnd.{ReformEnd}
use Rattle.reform_all.specs.declared.ending.ReformEnd.TheVariants as end
use Rattle.reform_all.specs.Built.{first_unbuilt}
use Rattle.c_meaning.specs.declared.program.CProgram.{CProgram}
use Rattle.c_meaning.specs.Run.{c_run, header_of}
use Rattle.c_meaning.specs.Written.{IsText}

-- the program does what the script of this name does, over every input; it has that name, and one function for each scope, by its number, with
-- its name, parameters, kind and first line, and no others, since there is no built-in text yet
pub record IsProgramOf (name : List ℕ) (s : Scoped) (program : CProgram) : Type 0 where
  pub file : program.name ≡ name
  pub builtins : program.builtins ≡ 0
  pub scripts : program.scripts ≡ length s.scopes
  pub headers : map header_of program.functions ≡ map (λ code. code.header) (all_codes s None)
  pub same : (input : List ℕ) → Same (py_run table_rules name s None input) (c_run table_rules program input)

-- everything in the script is built, and the text is that of such a program
pub record IsCompiled (name : List ℕ) (s : Scoped) (text : List ℕ) : Type 0 where
  pub built : first_unbuilt s.script.statements ≡ None
  pub program : CProgram
  pub is_text : IsText text program
  pub is : IsProgramOf name s program

-- the first thing that is not built stands in this line; want of memory says nothing
abbrev pub IsUncompiled : Scoped → ReformEnd → Type 0
IsUncompiled s (end.Unbuilt line) = first_unbuilt s.script.statements ≡ Some line
IsUncompiled s end.Memory = Unit {0}
