-- The first lines of a text, and all its functions.
use Rattle.std.specs.Prelude.{◌≡◌, ℕ, ◌+◌, ◌<◌, ◌≤◌, List, [], ◌∷◌, length, codes, decimal, IsUtf8}
use Rattle.std.specs.List.{AllByRecursion}
use Rattle.nu_text.specs.Pieces.{before}
use Rattle.nu_text.specs.Strings.{string_text}
use Rattle.c_meaning.specs.declared.program.Function as function
use Rattle.c_meaning.specs.Text.{numbered, function_text}
use Rattle.c_meaning.specs.Written.{IsFunction}

-- the numbers of functions
pub record CountsStand (text : List ℕ) (scripts builtins : ℕ) (rest : List ℕ) : Type 0 where
  pub some : 0 < scripts
  pub few : scripts + builtins ≤ 65535
  pub spelled : text ≡ before (decimal scripts ∷ codes ", " ∷ decimal builtins ∷ codes ")\n" ∷ []) rest

-- the third line
pub record ScriptStands (text name : List ℕ) (scripts builtins : ℕ) (rest : List ℕ) : Type 0 where
  pub utf8 : IsUtf8 name
  pub some : 0 < scripts
  pub few : scripts + builtins ≤ 65535
  pub spelled : text ≡ before (codes "NU_SCRIPT(" ∷ string_text name ∷ codes ", " ∷ decimal scripts ∷ codes ", " ∷ decimal builtins ∷ codes ")\n" ∷ []) rest

-- the first three lines
pub record HeadingStands (text name : List ℕ) (scripts builtins : ℕ) (rest : List ℕ) : Type 0 where
  pub utf8 : IsUtf8 name
  pub some : 0 < scripts
  pub few : scripts + builtins ≤ 65535
  pub spelled : text ≡ before (
      codes "/* nuit C 1 */\n" ∷ codes "#include \"nuit1.h\"\n" ∷ codes "NU_SCRIPT(" ∷ string_text name ∷ codes ", " ∷ decimal scripts ∷ codes ", " ∷ decimal builtins ∷ codes ")\n" ∷ []) rest

-- all functions, so many, to the end of the text
pub record FunctionsStand (count : ℕ) (text : List ℕ) (functions : List function.Function) : Type 0 where
  pub all : length functions ≡ count
  pub each : AllByRecursion IsFunction functions
  pub spelled : text ≡ numbered function_text 0 functions
