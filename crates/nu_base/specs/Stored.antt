-- What objects in memory keep.
use Rattle.std.specs.Prelude.{ℕ, List, ◌∷◌, Option, find}
use Rattle.std.specs.Option.{option_map}
use Rattle.std.specs.Str.{bytes_eq}
use Rattle.nu_base.specs.Calls.{Calls}

-- a file
pub record Stored : Type 0 where
  pub name : List ℕ
  pub bytes : List ℕ

-- the bytes of the first file of a name
abbrev pub file_of : List Stored → List ℕ → Option (List ℕ)
file_of files name = option_map (λ file. file.bytes) (find (λ file. bytes_eq file.name name) files)

-- a file in front of the others, so in place of one of its name
abbrev pub with_file : List Stored → List ℕ → List ℕ → List Stored
with_file files name bytes = record { name = name; bytes = bytes } ∷ files

-- files, and the calls that fetched them
pub record FilesWithCalls : Type 0 where
  pub files : List Stored
  pub calls : Calls

-- bytes that are left or held, and the calls that took or put them
pub record BytesWithCalls : Type 0 where
  pub bytes : List ℕ
  pub calls : Calls
