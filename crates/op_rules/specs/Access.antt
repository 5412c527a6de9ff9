-- What items and iteration come to where a value has none, or a function of the built-in text decides (reference, sections 3.3.7
-- and 6.3.2).
use Rattle.std.specs.Prelude.{List, [], ◌∷◌, ◌++◌, Option, Some, codes, slice_get}
use Rattle.nu_value.specs.declared.object.Object.{Object}
use Rattle.nu_value.specs.declared.object.Object.TheVariants as object
use Rattle.nu_value.specs.declared.value.Value.{Value}
use Rattle.nu_value.specs.declared.value.Value.TheVariants as value
use Rattle.op_forms.specs.declared.end.After.TheVariants as behind
use Rattle.op_forms.specs.declared.end.How.TheVariants as how
use Rattle.op_forms.specs.declared.end.OpEnd.{OpEnd}
use Rattle.op_forms.specs.declared.end.OpEnd.TheVariants as opend
use Rattle.op_forms.specs.declared.op.Op.{Op}
use Rattle.op_forms.specs.declared.op.Op.TheVariants as op
use Rattle.op_forms.specs.Answers.{unbuilt}
use Rattle.op_rules.specs.Asking.{asks}
use Rattle.op_rules.specs.IntRows.{int_row}
use Rattle.op_rules.specs.Kinds.{kind_name, type_error}

abbrev pub not_subscriptable : List Object → Value → OpEnd
not_subscriptable h x = type_error (codes "'" ++ kind_name h x ++ codes "' object is not subscriptable")

abbrev pub no_item_changes : List Object → Value → OpEnd
no_item_changes h x = type_error (codes "'" ++ kind_name h x ++ codes "' object does not support item changes")

abbrev pub no_iterator : List Object → Value → OpEnd
no_iterator h x = type_error (codes "'" ++ kind_name h x ++ codes "' object is not an iterator")

abbrev pub asks_iterator : List Object → Value → OpEnd
asks_iterator h x = asks h (codes "_nu_iterof") (x ∷ []) [] behind.Plain

abbrev pub asks_in : List Object → Value → Value → OpEnd
asks_in h v c = asks h (codes "_nu_in") (v ∷ c ∷ []) [] behind.Truth

-- a generator is its own iterator
abbrev pub other_iter : List Object → Value → Option Object → OpEnd
other_iter h x (Some (object.Generator code state given cells)) = opend.Give x
other_iter h x o = asks_iterator h x

abbrev pub iter_of : List Object → Value → OpEnd
iter_of h (value.Obj n) = other_iter h (value.Obj n) (slice_get h n)
iter_of h x = asks_iterator h x

-- and goes on where it paused
abbrev pub other_next : List Object → Value → Option Object → OpEnd
other_next h (value.Obj n) (Some (object.Generator code state given cells)) = opend.Resume n (how.Send value.None)
other_next h x o = no_iterator h x

abbrev pub next_of : List Object → Value → OpEnd
next_of h (value.Obj n) = other_next h (value.Obj n) (slice_get h n)
next_of h x = no_iterator h x

-- the rows on values that have no items: numbers, functions, methods, generators and the like
abbrev pub other_row : Op → List Object → List Value → OpEnd
other_row op.Index h (x ∷ i ∷ []) = not_subscriptable h x
other_row op.SetIndex h (x ∷ i ∷ v ∷ []) = no_item_changes h x
other_row op.DelIndex h (x ∷ i ∷ []) = no_item_changes h x
other_row op.Slice h (x ∷ a ∷ b ∷ c ∷ []) = not_subscriptable h x
other_row op.Iter h (x ∷ []) = iter_of h x
other_row op.Next h (x ∷ []) = next_of h x
other_row op.In h (v ∷ c ∷ []) = asks_in h v c
other_row op.Index h args = unbuilt
other_row op.SetIndex h args = unbuilt
other_row op.DelIndex h args = unbuilt
other_row op.Slice h args = unbuilt
other_row op.Iter h args = unbuilt
other_row op.Next h args = unbuilt
other_row op.In h args = unbuilt
other_row o h args = int_row o h args
