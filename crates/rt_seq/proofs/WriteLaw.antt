-- What is written at an index of a list is read there.
use Rattle.std.proofs.Common.{◌≡◌, ◌≢◌, ℕ, zero, suc, ◌+◌, ◌-◌, ◌<◌, ℤ, pos, negsuc, Bool, true, false, List, [], ◌∷◌, Some, None, length, refl, sym, ap, ◌∙◌, arith, length-set}
use Rattle.std.specs.Prelude.{nat_lt, slice_get, slice_set, if◌then◌else◌}
use Rattle.std.proofs.lemmas.Bool.Decides.{nat_tests}
use Rattle.std.proofs.lemmas.Option.{slice_get_within}
use Rattle.nu_value.specs.declared.object.Object.{Object}
use Rattle.nu_value.specs.declared.object.Object.TheVariants as object
use Rattle.nu_value.specs.declared.value.Value.{Value}
use Rattle.nu_value.specs.declared.value.Value.TheVariants as value
use Rattle.op_forms.specs.declared.end.OpEnd.TheVariants as opend
use Rattle.op_forms.specs.Doing.{heap_after}
use Rattle.op_rules.specs.Items.{place_in, index_row, setindex_row}
use Rattle.rt_seq.specs.Laws.{IsIndexOf, WritesAreRead}

set_at : {A : Type 0} (xs : List A) (i : ℕ) (y : A) → i < length xs → slice_get (slice_set xs i y) i ≡ Some y
set_at [] i y h = absurd (omega arith)
set_at (x ∷ xs) zero y h = refl
set_at (x ∷ xs) (suc i) y h = set_at xs i y (omega arith)

set_apart : {A : Type 0} (xs : List A) (i k : ℕ) (y : A) → k ≢ i → slice_get (slice_set xs i y) k ≡ slice_get xs k
set_apart [] i k y h = refl
set_apart (x ∷ xs) zero zero y h = absurd (h refl)
set_apart (x ∷ xs) zero (suc k) y h = refl
set_apart (x ∷ xs) (suc i) zero y h = refl
set_apart (x ∷ xs) (suc i) (suc k) y h = set_apart xs i k y (λ e. h (ap suc e))

-- a place that an index means lies in the list
within_if : (b : Bool) (count m place : ℕ) → nat_lt m count ≡ b → (if b then Some m else None) ≡ Some place → place < count
within_if true count m place e h = grind (arith, nat_tests)
within_if false count m place e h = absurd (cc)

within_from_end : (b : Bool) (count m place : ℕ) → nat_lt m count ≡ b → (if b then Some (count - (m + 1)) else None) ≡ Some place → place < count
within_from_end true count m place e h = grind (arith, nat_tests)
within_from_end false count m place e h = absurd (cc)

within : (count : ℕ) (z : ℤ) (place : ℕ) → place_in count z ≡ Some place → place < count
within count (pos m) place h = within_if (nat_lt m count) count m place refl h
within count (negsuc m) place h = within_from_end (nat_lt m count) count m place refl h

-- the objects then
written_heap : (h : List Object) (n : ℕ) (items : List Value) (i v : Value) (place : ℕ) → slice_get h n ≡ Some (object.List items) → IsIndexOf items i place → heap_after h (setindex_row h (value.Obj n) i v) ≡ slice_set h n (object.List (slice_set items place v))
written_heap h n items i v place e x = rw (e, x.is, x.at, e) refl

index_there : (h : List Object) (n : ℕ) (items : List Value) (i : Value) (place : ℕ) (v : Value) → slice_get h n ≡ Some (object.List items) → IsIndexOf items i place → slice_get items place ≡ Some v → index_row h (value.Obj n) i ≡ opend.Give v
index_there h n items i place v e x g = rw (e, x.is, x.at, g) refl

-- an index means the same place in a list as long
as_long : (items : List Value) (i v : Value) (at place : ℕ) → IsIndexOf items i place → IsIndexOf (slice_set items at v) i place
as_long items i v at place x = record { number = x.number; is = x.is; at = rw (length-set items at v) x.at }

got : (items : List Value) (place : ℕ) → place < length items → (v : Value) × (slice_get items place ≡ Some v)
got [] place h = absurd (omega arith)
got (x ∷ items) zero h = (x, refl)
got (x ∷ items) (suc place) h = got items place (omega arith)

written_is : (h : List Object) (n : ℕ) (items : List Value) (i v : Value) (place : ℕ) → slice_get h n ≡ Some (object.List items) → IsIndexOf items i place → index_row (heap_after h (setindex_row h (value.Obj n) i v)) (value.Obj n) i ≡ opend.Give v
written_is h n items i v place e x =
    rw (written_heap h n items i v place e x)
    (index_there (slice_set h n (object.List (slice_set items place v))) n (slice_set items place v) i place v
    (set_at h n (object.List (slice_set items place v)) (slice_get_within h n (object.List items) e)) (as_long items i v place place x)
    (set_at items place v (within (length items) x.number place x.at)))

others_are : (h : List Object) (n : ℕ) (items : List Value) (i v j : Value) (place other : ℕ) → slice_get h n ≡ Some (object.List items) → IsIndexOf items i place → IsIndexOf items j other → other ≢ place → index_row (heap_after h (setindex_row h (value.Obj n) i v)) (value.Obj n) j ≡ index_row h (value.Obj n) j
others_are h n items i v j place other e x y apart =
    let g = got items other (within (length items) y.number other y.at) in
    rw (written_heap h n items i v place e x)
    (index_there (slice_set h n (object.List (slice_set items place v))) n (slice_set items place v) j other g.0
    (set_at h n (object.List (slice_set items place v)) (slice_get_within h n (object.List items) e)) (as_long items j v place other y)
    (set_apart items place other v apart ∙ g.1)
    ∙ sym (index_there h n items j other g.0 e y g.1))

pub writes : WritesAreRead
writes = record { written = written_is; others = others_are }
