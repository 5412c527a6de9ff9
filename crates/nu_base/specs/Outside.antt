-- What calls on files, inputs and outputs do.
use Rattle.std.specs.Prelude.{◌≡◌, ℕ, ◌-◌, ◌^◌, ◌<◌, ◌≤◌, ◌⊎◌, List, [], ◌++◌, length, take, drop, Bool, true, false, Option, Some, None, Result, Ok, Err, IfSome, IsSomeAnd, ⊤}
use Rattle.nu_base.specs.declared.ending.Fetched.{Fetched}
use Rattle.nu_base.specs.declared.ending.Fetched.TheVariants.{Whole, Longer, Absent}
use Rattle.nu_base.specs.declared.ending.FetchTrouble.{FetchTrouble}
use Rattle.nu_base.specs.declared.ending.FetchTrouble.TheVariants as fetch
use Rattle.nu_base.specs.declared.ending.PutTrouble.{PutTrouble}
use Rattle.nu_base.specs.declared.ending.PutTrouble.TheVariants as put
use Rattle.nu_base.specs.declared.ending.Failed.{Failed}

-- a count of faults rose, or stands at the last value of a counter of 64 bits
abbrev pub Rose : ℕ → ℕ → Type 0
Rose old new = (old < new) ⊎ (new ≡ 2 ^ 64 - 1)

-- after a fault: the count rose, and it never falls
abbrev pub Faulted : ℕ → ℕ → Type 0
Faulted old new = (old ≤ new) × Rose old new

-- FETCHES

-- the count of faults after a fetch
abbrev pub CountsFetch : ℕ → ℕ → Result Fetched FetchTrouble → Type 0
CountsFetch old new (Ok found) = new ≡ old
CountsFetch old new (Err fetch.Failed) = Faulted old new
CountsFetch old new (Err fetch.Memory) = new ≡ old

-- whether a fetch failed
abbrev pub fetch_failed : Result Fetched FetchTrouble → Bool
fetch_failed (Ok found) = false
fetch_failed (Err fetch.Failed) = true
fetch_failed (Err fetch.Memory) = false

-- what is told of the file of a name: nothing, that there is none, or its bytes
abbrev pub told_file : Option (List ℕ → Option (List ℕ)) → List ℕ → Option (Option (List ℕ))
told_file None name = None
told_file (Some files) name = Some (files name)

-- what a fetch makes of the bytes that stood there before, at a file of which this is told
abbrev pub Fetches : Option (Option (List ℕ)) → ℕ → List ℕ → List ℕ → Result Fetched FetchTrouble → Type 0
Fetches file limit old new (Ok Whole) = (bytes : List ℕ) × (new ≡ old ++ bytes) × (length bytes ≤ limit) × IfSome file (λ told. told ≡ Some bytes)
Fetches file limit old new (Ok Longer) = (new ≡ old) × IfSome file (λ told. IsSomeAnd told (λ bytes. limit < length bytes))
Fetches file limit old new (Ok Absent) = (new ≡ old) × IfSome file (λ told. told ≡ None)
Fetches file limit old new (Err e) = new ≡ old

-- TAKES

-- the count of faults after a take
abbrev pub CountsTake : ℕ → ℕ → Result ℕ Failed → Type 0
CountsTake old new (Ok n) = new ≡ old
CountsTake old new (Err e) = Faulted old new

-- whether a take failed
abbrev pub take_failed : Result ℕ Failed → Bool
take_failed (Ok n) = false
take_failed (Err e) = true

-- of the bytes that were left, the first n stand in the buffer, and the others are left; none only at the end or for an empty buffer
abbrev pub TakesSome : List ℕ → Option (List ℕ) → List ℕ → ℕ → Type 0
TakesSome bytes new buffer n =
    (n ≤ length bytes) × (new ≡ Some (drop n bytes)) × (take n buffer ≡ take n bytes) × (n ≡ 0 → 0 < length buffer → bytes ≡ [])

-- what a take leaves, and what it puts into the buffer
abbrev pub Takes : Option (List ℕ) → Option (List ℕ) → List ℕ → Result ℕ Failed → Type 0
Takes old new buffer (Ok n) = (n ≤ length buffer) × IfSome old (λ bytes. TakesSome bytes new buffer n)
Takes old new buffer (Err e) = new ≡ old

-- PUTS

-- the count of faults after a put
abbrev pub CountsPut : ℕ → ℕ → Result Unit PutTrouble → Type 0
CountsPut old new (Ok u) = new ≡ old
CountsPut old new (Err put.Failed) = Faulted old new
CountsPut old new (Err put.Memory) = new ≡ old

-- whether a put failed
abbrev pub put_failed : Result Unit PutTrouble → Bool
put_failed (Ok u) = false
put_failed (Err put.Failed) = true
put_failed (Err put.Memory) = false

-- what is held grows by a piece, where it is told
abbrev pub Adds : Option (List ℕ) → Option (List ℕ) → List ℕ → Type 0
Adds None new piece = ⊤
Adds (Some bytes) new piece = new ≡ Some (bytes ++ piece)

-- what is held grows by a front of a piece, possibly by nothing
abbrev pub AddsFront : Option (List ℕ) → Option (List ℕ) → List ℕ → Type 0
AddsFront old new piece = (front : List ℕ) × (rest : List ℕ) × (piece ≡ front ++ rest) × Adds old new front

-- what is held after a put
abbrev pub Puts : Option (List ℕ) → Option (List ℕ) → List ℕ → Result Unit PutTrouble → Type 0
Puts old new piece (Ok u) = Adds old new piece
Puts old new piece (Err put.Failed) = AddsFront old new piece
Puts old new piece (Err put.Memory) = new ≡ old
