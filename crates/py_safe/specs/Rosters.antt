-- What is known of the codes of a program before it runs.
use Rattle.std.specs.Prelude.{◌≡◌, ℕ, List, [], ◌∷◌, Option, Some, None, map, slice_get, false}
use Rattle.nu_value.specs.declared.header.Header.{Header}
use Rattle.nu_value.specs.declared.header.ParamKind.TheVariants as param
use Rattle.py_meaning.specs.Syntax as syntax

-- what a code is run as: a module; a function, lambda or comprehension; or the block of a class
pub data Role : Type 0 where
  OfModule : Role
  OfFunction : Role
  OfClass : Role

-- of each code its header, how many cells of enclosing functions it gets, and what it is run as
pub record Roster : Type 0 where
  pub headers : List Header
  pub frees : ℕ → ℕ
  pub role : ℕ → Role

abbrev pub frees_in : Option syntax.Code → ℕ
frees_in (Some code) = code.frees
frees_in None = 0

abbrev pub roster_of : (ℕ → Role) → List syntax.Code → Roster
roster_of role codes = record { headers = map (λ code. code.header) codes; frees = λ n. frees_in (slice_get codes n); role = role }

-- a code is there, and is run so
pub record IsCode (c : Roster) (code : ℕ) (role : Role) : Type 0 where
  pub header : Header
  pub at : slice_get c.headers code ≡ Some header
  pub is : c.role code ≡ role

-- the block of a class takes one value, its names, and is no generator's
abbrev pub IsBlock : Header → Type 0
IsBlock header = (map (λ p. p.0) header.params ≡ param.Only ∷ []) × (header.generator ≡ false)

abbrev pub HasBlocks : Roster → Type 0
HasBlocks c = (code : ℕ) (header : Header) → c.role code ≡ OfClass → slice_get c.headers code ≡ Some header → IsBlock header
