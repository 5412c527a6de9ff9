-- Classes from one outward (reference, sections 3.3.3 and 6.3.1): what stands under what, and what a name is on a class.
use Rattle.std.specs.Prelude.{ℕ, zero, suc, List, [], ◌∷◌, Option, Some, None, Bool, false, ◌||◌, nat_eq, length, slice_get}
use Rattle.nu_value.specs.declared.object.Object.{Object}
use Rattle.nu_value.specs.declared.object.Object.TheVariants as object
use Rattle.nu_value.specs.declared.value.Value.{Value}
use Rattle.nu_value.specs.Names.{NameList, value_at}

-- the class that a class stands under
abbrev pub base_of : Option Object → Option ℕ
base_of (Some (object.Class name base own native)) = base
base_of other = None

-- the names of a class
abbrev pub own_of : Option Object → NameList
own_of (Some (object.Class name base own native)) = own
own_of other = []

-- the class, the class that it stands under, and so on, so many at most
abbrev pub outward : ℕ → List Object → Option ℕ → List ℕ
outward zero h c = []
outward (suc room) h None = []
outward (suc room) h (Some c) = c ∷ outward room h (base_of (slice_get h c))

-- The classes from a class outward: no class stands under itself, so there are no more than objects.
abbrev pub classes_from : List Object → Option ℕ → List ℕ
classes_from h c = outward (suc (length h)) h c

abbrev pub is_among : List ℕ → ℕ → Bool
is_among [] class = false
is_among (c ∷ cs) class = nat_eq c class || is_among cs class

-- a class is the one of this number, or stands under it
abbrev pub is_under : List Object → Option ℕ → ℕ → Bool
is_under h c class = is_among (classes_from h c) class

abbrev pub first_of : Option Value → Option Value → Option Value
first_of None other = other
first_of (Some v) other = Some v

-- what a name is on the first of these classes that has it
abbrev pub first_named : List Object → List ℕ → List ℕ → Option Value
first_named h [] name = None
first_named h (c ∷ cs) name = first_of (value_at (own_of (slice_get h c)) name) (first_named h cs name)

-- what a name is on a class: on itself, or on the nearest class outward
abbrev pub found_in : List Object → ℕ → List ℕ → Option Value
found_in h c name = first_named h (classes_from h (Some c)) name
