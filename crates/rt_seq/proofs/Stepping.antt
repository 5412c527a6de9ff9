-- An iterator does what follows from what it finds.
use Rattle.std.proofs.Common.{◌≡◌, ℕ, ◌<◌, List, Option, Some, None, Bool, true, false, length, nat_lt, refl, arith}
use Rattle.std.specs.Prelude.{ℤ, pos, nat_eq, slice_get, if◌then◌else◌}
use Rattle.std.proofs.lemmas.Bool.Decides.{nat_tests}
use Rattle.nu_value.specs.declared.key.Atom.{Atom}
use Rattle.nu_value.specs.declared.object.Object.{Object}
use Rattle.nu_value.specs.declared.object.Object.TheVariants as object
use Rattle.nu_value.specs.declared.object.ViewKind.{ViewKind}
use Rattle.nu_value.specs.declared.object.ViewKind.TheVariants as view
use Rattle.nu_value.specs.declared.value.Value.{Value}
use Rattle.nu_value.specs.declared.value.Value.TheVariants as value
use Rattle.nu_value.specs.Pairs.{PairList}
use Rattle.nu_value.specs.Ranges.{range_count}
use Rattle.op_forms.specs.Doing.{Doing, ends}
use Rattle.op_rules.specs.Iteration.{number_within, pair_from, passes, size_changed, while_sized, next_shown, next_viewed, next_in, next_over, next_on}
use Rattle.op_rules.specs.Items.{number_at}
use Rattle.op_rules.specs.Slices.{item_from}
use Rattle.op_rules.specs.TextItems.{text_item}
use Rattle.rt_seq.specs.declared.steps.Found.{Found}
use Rattle.rt_seq.specs.declared.steps.Found.TheVariants as found
use Rattle.rt_seq.specs.Steps.{one_of, shown_at, shown_by, shown_in, viewed, found_in, found_over, steps}

one_is : (h : List Object) (n : ℕ) (place : ℤ) (size : ℕ) (v : Option Value) → passes n place size v ≡ steps h n place size (one_of v)
one_is h n place size None = refl
one_is h n place size (Some v) = refl

shown_at_is : (h : List Object) (n : ℕ) (place : ℤ) (size : ℕ) (kind : ViewKind) (pairs : PairList) (p : Option (List Atom × Value × Value)) → pair_from pairs place ≡ p → next_shown h n place size kind pairs ≡ steps h n place size (shown_at kind p)
shown_at_is h n place size view.Keys pairs None e = rw e refl
shown_at_is h n place size view.Values pairs None e = rw e refl
shown_at_is h n place size view.Both pairs None e = rw e refl
shown_at_is h n place size view.Keys pairs (Some p) e = rw e refl
shown_at_is h n place size view.Values pairs (Some p) e = rw e refl
shown_at_is h n place size view.Both pairs (Some p) e = rw e refl

shown_is : (h : List Object) (n : ℕ) (place : ℤ) (size : ℕ) (kind : ViewKind) (pairs : PairList) → next_shown h n place size kind pairs ≡ steps h n place size (shown_by kind pairs place)
shown_is h n place size kind pairs = shown_at_is h n place size kind pairs (pair_from pairs place) refl

if_is : (h : List Object) (n : ℕ) (place : ℤ) (size : ℕ) (b : Bool) (d : Doing) (f : Found) → d ≡ steps h n place size f → (if b then d else ends size_changed) ≡ steps h n place size (if b then f else found.Changed)
if_is h n place size true d f e = e
if_is h n place size false d f e = refl

sized_is : (h : List Object) (n : ℕ) (place : ℤ) (size : ℕ) (kind : ViewKind) (pairs : PairList) → while_sized size pairs (next_shown h n place size kind pairs) ≡ steps h n place size (shown_in kind pairs place size)
sized_is h n place size kind pairs =
    if_is h n place size (nat_eq size (length pairs)) (next_shown h n place size kind pairs) (shown_by kind pairs place) (shown_is h n place size kind pairs)

viewed_is : (h : List Object) (n : ℕ) (place : ℤ) (size : ℕ) (kind : ViewKind) (o : Option Object) → next_viewed h n place size kind o ≡ steps h n place size (viewed kind o place size)
viewed_is h n place size kind (Some (object.Dict pairs)) = sized_is h n place size kind pairs
viewed_is h n place size kind o = refl

in_is : (h : List Object) (n : ℕ) (place : ℤ) (size : ℕ) (o : Option Object) → next_in h n place size o ≡ steps h n place size (found_in h o place size)
in_is h n place size (Some (object.List items)) = one_is h n place size (item_from items place)
in_is h n place size (Some (object.Tuple items)) = one_is h n place size (item_from items place)
in_is h n place size (Some (object.Range start stop step)) = one_is h n place size (number_within (range_count start stop step) start step place)
in_is h n place size (Some (object.Dict pairs)) = sized_is h n place size view.Keys pairs
in_is h n place size (Some (object.View dict kind)) = viewed_is h n place size kind (slice_get h dict)
in_is h n place size o = refl

pub over_is : (h : List Object) (n : ℕ) (place : ℤ) (size : ℕ) (x : Value) → next_over h n place size x ≡ steps h n place size (found_over h x place size)
over_is h n place size (value.Str text) = one_is h n place size (text_item text place)
over_is h n place size (value.Obj m) = in_is h n place size (slice_get h m)
over_is h n place size x = refl

-- an iterator that isn't over
pub next_is : (h : List Object) (n : ℕ) (place : ℤ) (size : ℕ) (over : Value) (o : Option Object) (f : Found) → o ≡ Some (object.Iterator over place size false) → f ≡ found_over h over place size → next_on h n o ≡ steps h n place size f
next_is h n place size over o f e g = rw (e, g) (over_is h n place size over)

-- a number that is there
pub number_there : (count n : ℕ) (start step : ℤ) → n < count → number_within count start step (pos n) ≡ Some (value.Int (number_at start step n))
number_there count n start step h = let b : nat_lt n count ≡ true = grind (arith, nat_tests) in rw b refl

pub one_back : (o : Option Value) (v : Value) → found.One v ≡ one_of o → o ≡ Some v
one_back None v h = absurd (cc)
one_back (Some x) v h = cc
