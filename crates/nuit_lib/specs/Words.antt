-- The words of the command line.
use Rattle.std.specs.Prelude.{ℕ, ◌^◌, List, [], ◌∷◌, Option, Some, None, ◌&&◌, nat_lt, if◌then◌else◌, codes, decimal}
use Rattle.std.specs.Option.{option_map}
use Rattle.std.specs.Str.{bytes_eq}
use Rattle.std.specs.Str.Parse.{digits_value}

-- what the words ask for
pub data Command : Type 0 where
  BuildFile : (file : List ℕ) → Command
  RunFile : (file : List ℕ) (steps : ℕ) → Command

abbrev pub file_of : Command → List ℕ
file_of (BuildFile file) = file
file_of (RunFile file steps) = file

-- the number below 2^64 whose decimal digits the word is, without a leading zero
abbrev pub steps_of : List ℕ → Option ℕ
steps_of word = if bytes_eq (decimal (digits_value 10 word)) word && nat_lt (digits_value 10 word) (2 ^ 64) then Some (digits_value 10 word) else None

-- the steps that a run takes at most where the words don't say
abbrev pub usual_steps : ℕ
usual_steps = 100000000

abbrev pub command_on : List ℕ → List ℕ → Option Command
command_on word file = if bytes_eq word (codes "build") then Some (BuildFile file) else (if bytes_eq word (codes "run") then Some (RunFile file usual_steps) else None)

-- the command of the words, where they have one of the forms
abbrev pub command_of : List (List ℕ) → Option Command
command_of [] = None
command_of (word ∷ []) = None
command_of (word ∷ file ∷ []) = command_on word file
command_of (word ∷ file ∷ steps ∷ []) = if bytes_eq word (codes "run") then option_map (RunFile file) (steps_of steps) else None
command_of (word ∷ file ∷ steps ∷ more ∷ words) = None
