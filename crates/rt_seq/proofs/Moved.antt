-- A change of an object leaves the number of objects.
use Rattle.std.proofs.Common.{◌≡◌, ℕ, List, Option, Some, None, length, refl, length-set}
use Rattle.std.specs.Prelude.{slice_get}
use Rattle.nu_value.specs.declared.object.Object.{Object}
use Rattle.nu_value.specs.declared.value.Value.{Value}
use Rattle.op_forms.specs.Doing.{Change, Fill, changed_by, put_at, set_in}
use Rattle.rt_seq.specs.declared.edits.Edit.TheVariants as edits
use Rattle.rt_seq.specs.Edits.{edited_at}

put_length : (h : List Object) (n : ℕ) (c : Change) (o : Option Object) → length (put_at h n c o) ≡ length h
put_length h n c None = refl
put_length h n c (Some o) = length-set h n (changed_by c o)

pub moved_length : (h : List Object) (n : ℕ) (c : Change) → length (set_in h (Some (n, c))) ≡ length h
moved_length h n c = put_length h n c (slice_get h n)

-- other items of a list, where one is
pub filled_is : (h : List Object) (n : ℕ) (items : List Value) (o : Option Object) → edited_at h n (edits.Fill items) o ≡ put_at h n (Fill items) o
filled_is h n items None = refl
filled_is h n items (Some o) = refl
