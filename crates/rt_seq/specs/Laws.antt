-- Sequences by their places.
use Rattle.std.specs.Prelude.{◌≡◌, ◌≢◌, ℕ, ◌<◌, ◌^◌, ℤ, List, [], ◌∷◌, Option, Some, Bool, true, false, length, slice_get}
use Rattle.std.specs.List.Sorted.{IsPermutation}
use Rattle.nu_value.specs.declared.object.Object.{Object}
use Rattle.nu_value.specs.declared.object.Object.TheVariants as object
use Rattle.nu_value.specs.declared.value.Value.{Value}
use Rattle.nu_value.specs.declared.value.Value.TheVariants as value
use Rattle.nu_value.specs.Ranges.{range_count}
use Rattle.nu_value.specs.Same.{number_of}
use Rattle.op_forms.specs.declared.end.OpEnd.TheVariants as opend
use Rattle.op_forms.specs.Doing.{heap_after}
use Rattle.op_rules.specs.Items.{number_at, place_in, index_row, setindex_row}
use Rattle.op_rules.specs.Order.{before, places_from, order_of}
use Rattle.op_rules.specs.Slices.{item_from, first_place, end_place, sliced}

-- how many places a slice has
abbrev pub slice_count : ℕ → Option ℤ → Option ℤ → ℤ → ℕ
slice_count count start stop step = range_count (first_place count step start) (end_place count step stop) step

-- the place of each item of a slice
abbrev pub slice_place : ℕ → Option ℤ → ℤ → ℕ → ℤ
slice_place count start step k = number_at (first_place count step start) step k

-- a slice has an item for each of its places, in their order: the item that stands there
pub record SlicesAreItems : Type 0 where
  pub lengths : (items : List Value) (start stop : Option ℤ) (step : ℤ) → length (sliced items start stop step) ≡ slice_count (length items) start stop step
  pub places : (items : List Value) (start stop : Option ℤ) (step : ℤ) (k : ℕ) → k < slice_count (length items) start stop step → slice_get (sliced items start stop step) k ≡ item_from items (slice_place (length items) start step k)

-- an index that is a place of a list
pub record IsIndexOf (items : List Value) (i : Value) (place : ℕ) : Type 0 where
  pub number : ℤ
  pub is : number_of i ≡ Some number
  pub at : place_in (length items) number ≡ Some place

-- what is written at an index of a list is read there; at other places all stays
pub record WritesAreRead : Type 0 where
  pub written : (h : List Object) (n : ℕ) (items : List Value) (i v : Value) (place : ℕ) → slice_get h n ≡ Some (object.List items) → IsIndexOf items i place
      → index_row (heap_after h (setindex_row h (value.Obj n) i v)) (value.Obj n) i ≡ opend.Give v
  pub others : (h : List Object) (n : ℕ) (items : List Value) (i v j : Value) (place other : ℕ) → slice_get h n ≡ Some (object.List items) → IsIndexOf items i place → IsIndexOf items j other → other ≢ place
      → index_row (heap_after h (setindex_row h (value.Obj n) i v)) (value.Obj n) j ≡ index_row h (value.Obj n) j

-- ---- sorting

abbrev pub EachOf : (ℕ → Type 0) → List ℕ → Type 0
EachOf P [] = Unit {0}
EachOf P (x ∷ xs) = P x × EachOf P xs

-- each one with each that comes behind it
abbrev pub EachPair : (ℕ → ℕ → Type 0) → List ℕ → Type 0
EachPair R [] = Unit {0}
EachPair R (x ∷ xs) = EachOf (R x) xs × EachPair R xs

-- a test orders the places below a number, some of them alike
pub record IsOrder (lt : ℕ → ℕ → Bool) (count : ℕ) : Type 0 where
  pub asymmetric : (i j : ℕ) → i < count → j < count → lt i j ≡ true → lt j i ≡ false
  pub transitive : (i j k : ℕ) → i < count → j < count → k < count → lt j i ≡ false → lt k j ≡ false → lt k i ≡ false

-- one of two places comes first: it isn't greater, and of two that are alike it is the lower
pub record ComesFirst (lt : ℕ → ℕ → Bool) (i j : ℕ) : Type 0 where
  pub sorted : lt j i ≡ false
  pub stable : lt i j ≡ false → i < j

-- each place once, in stable order
pub record IsInOrder (lt : ℕ → ℕ → Bool) (count : ℕ) (places : List ℕ) : Type 0 where
  pub permutation : IsPermutation (places_from 0 count) places
  pub order : EachPair (ComesFirst lt) places

-- where `<` orders the items of a list, their order is stable, and each item stands in it once
abbrev pub SortingIsStable : Type 0
SortingIsStable =
    (h : List Object) (items : List Value) (falling : Bool) → length items < 2 ^ 64 → IsOrder (before h items falling) (length items)
    → IsInOrder (before h items falling) (length items) (order_of h items falling)
