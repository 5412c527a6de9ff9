-- The command that the program reads off the words.
use Rattle.std.specs.Prelude.{ℕ, List, Option, Some, None, if◌then◌else◌, codes}
use Rattle.std.specs.Str.{bytes_eq}
use Rattle.nuit_lib.specs.declared.words.Verb.{Verb}
use Rattle.nuit_lib.specs.declared.words.Verb.TheVariants as verb
use Rattle.nuit_lib.specs.Words.{Command, BuildFile, RunFile, usual_steps}

abbrev pub asked : Verb → List ℕ → Command
asked verb.Build file = BuildFile file
asked (verb.Run steps) file = RunFile file steps

-- the verb of a command without a number of steps
abbrev pub verb_on : List ℕ → Option Verb
verb_on word = if bytes_eq word (codes "build") then Some verb.Build else (if bytes_eq word (codes "run") then Some (verb.Run usual_steps) else None)
