-- The input of a machine: what was taken of it.
use Rattle.std.specs.Prelude.{◌≡◌, ◌≤◌, ◌⊎◌, ℕ, List, [], ◌++◌, Option, Some, None, Bool, true, false, ◌||◌, ◌&&◌, not, nat_le, nat_lt, length, Result, Ok, Err, ⊤}
use Rattle.std.specs.Str.{is_utf8}
use Rattle.nu_base.specs.Outside.{Faulted}
use Rattle.nu_calls.specs.Lines.{NoLine, ALine, BadLine, before_lf, line_of}
use Rattle.c_input.specs.declared.input.Short.{Short}
use Rattle.c_input.specs.declared.input.Short.TheVariants as short
use Rattle.c_input.specs.declared.input.Buffer.{Buffer}
use Rattle.c_input.specs.declared.input.Line.{Line}
use Rattle.c_input.specs.declared.input.Line.TheVariants as line

-- these bytes were taken, and the others are left, where that is told
abbrev pub Drains : Option (List ℕ) → Option (List ℕ) → List ℕ → Type 0
Drains None new taken = ⊤
Drains (Some bytes) new taken = (rest : List ℕ) × (bytes ≡ taken ++ rest) × (new ≡ Some rest)

-- nothing is left, where that is told
abbrev pub IsEmpty : Option (List ℕ) → Type 0
IsEmpty None = ⊤
IsEmpty (Some bytes) = bytes ≡ []

-- nothing is left any longer, where it was told what was
abbrev pub Empties : Option (List ℕ) → Option (List ℕ) → Type 0
Empties None new = ⊤
Empties (Some bytes) new = new ≡ Some []

abbrev pub has_lf : List ℕ → Bool
has_lf bytes = nat_lt (length (before_lf bytes)) (length bytes)

-- what follows these bytes doesn't change what their first line is
abbrev pub is_whole : List ℕ → Bool
is_whole bytes = nat_le 1048576 (length bytes) || has_lf bytes

-- at most one take stands behind bytes whose first line isn't whole
abbrev pub IsFew : List ℕ → Type 0
IsFew bytes = (front : List ℕ) × (chunk : List ℕ) × (bytes ≡ front ++ chunk) × (is_whole front ≡ false) × (length chunk ≤ 4096)

-- these bytes were taken; where the end was seen nothing is left, and behind it nothing is taken
pub record Drained (left left' : Option (List ℕ)) (old new : Buffer) (taken : List ℕ) : Type 0 where
  pub drains : Drains left left' taken
  pub ended : new.ended ≡ true → (old.ended ≡ true → IsEmpty left) → Empties left left'
  pub beyond : old.ended ≡ true → (taken ≡ []) × (new.ended ≡ true)

-- the input is as it was, or the last take stands behind bytes whose first line isn't whole
pub record Took {A : Type 0} (input input' : A) (left left' : Option (List ℕ)) (old new : Buffer) : Type 0 where
  pub taken : List ℕ
  pub drained : Drained left left' old new taken
  pub few : ((input' ≡ input) × (taken ≡ [])) ⊎ IsFew (old.left ++ taken)

-- where what was taken stands after a call: behind what the buffer had; after a fault the line isn't whole
abbrev pub Grows : Buffer → Buffer → List ℕ → Result Unit Short → Type 0
Grows old new taken (Ok answer) = new.left ≡ old.left ++ taken
Grows old new taken (Err short.Memory) = ⊤
Grows old new taken (Err short.Failed) = (new.left ≡ old.left ++ taken) × (is_whole new.left ≡ false)

abbrev pub Fills : {A : Type 0} → A → A → Option (List ℕ) → Option (List ℕ) → Buffer → Buffer → Result Unit Short → Type 0
Fills input input' left left' old new result = (took : Took input input' left left' old new) × Grows old new took.taken result

-- the count of the input's faults after a call
abbrev pub CountsIn : {A : Type 0} → ℕ → ℕ → Result A Short → Type 0
CountsIn old new (Ok answer) = new ≡ old
CountsIn old new (Err short.Memory) = new ≡ old
CountsIn old new (Err short.Failed) = Faulted old new

-- bytes that can be a line
abbrev pub is_good : List ℕ → Bool
is_good bytes = not (nat_le 1048576 (length bytes)) && is_utf8 bytes

-- the next line of an input, and what is left of it then
abbrev pub IsNext : Line → List ℕ → List ℕ → Type 0
IsNext line.None input left = (line_of input ≡ NoLine) × (left ≡ input)
IsNext (line.Text text) input left = line_of input ≡ ALine text left
IsNext line.Bad input left = (line_of input ≡ BadLine) × (left ≡ input)
