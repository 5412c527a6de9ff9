-- The order of two values (reference, section 6.10.1): of numbers, texts, and lists and tuples of these.
use Rattle.std.specs.Prelude.{ℕ, zero, suc, List, ◌∷◌, Option, Some, length}
use Rattle.std.specs.Ordering.{int_cmp, nat_cmp}
use Rattle.nu_run.specs.declared.StopKind.TheVariants as stop
use Rattle.nu_value.specs.declared.object.Object.{Object}
use Rattle.nu_value.specs.declared.object.Object.TheVariants as object
use Rattle.nu_value.specs.declared.same.Sameness.{Sameness}
use Rattle.nu_value.specs.declared.same.Sameness.TheVariants as same
use Rattle.nu_value.specs.declared.value.Value.{Value}
use Rattle.nu_value.specs.Same.{eq_at, number_of, object_of}
use Rattle.op_forms.specs.declared.end.OpEnd.{OpEnd}
use Rattle.op_forms.specs.declared.end.OpEnd.TheVariants as opend
use Rattle.op_forms.specs.declared.op.Op.{Op}
use Rattle.op_forms.specs.Answers.{unbuilt}
use Rattle.op_forms.specs.Signs.{sign_of}
use Rattle.op_rules.specs.Comparisons.{give_bool, holds, text_cmp}
use Rattle.op_rules.specs.IntRows.{on_numbers}
use Rattle.op_rules.specs.Kinds.{no_order}
use Rattle.op_rules.specs.TextRows.{on_texts}

-- two items that are equal leave the order to those that follow, others decide it
abbrev pub decided_by : Sameness → OpEnd → OpEnd → OpEnd
decided_by same.Equal here more = more
decided_by same.Different here more = here
decided_by same.Depth here more = opend.Stop stop.Depth
decided_by same.Unbuilt here more = unbuilt

-- the first place whose items aren't equal, or else the lengths
abbrev pub items_order : Op → (Value → Value → Sameness) → (Value → Value → OpEnd) → List Value → List Value → OpEnd
items_order o equal order (x ∷ xs) (y ∷ ys) = decided_by (equal x y) (order x y) (items_order o equal order xs ys)
items_order o equal order xs ys = give_bool (holds o (nat_cmp (length xs) (length ys)))

-- a view has no order that is built
abbrev pub objects_order : OpEnd → (List Value → List Value → OpEnd) → Option Object → Option Object → OpEnd
objects_order other inside (Some (object.List xs)) (Some (object.List ys)) = inside xs ys
objects_order other inside (Some (object.Tuple xs)) (Some (object.Tuple ys)) = inside xs ys
objects_order other inside (Some (object.View dict kind)) y = unbuilt
objects_order other inside x (Some (object.View dict kind)) = unbuilt
objects_order other inside x y = other

-- two values, by the order of the items of containers
abbrev pub order_by : (List Value → List Value → OpEnd) → Op → List Object → Value → Value → OpEnd
order_by inside o h a b =
    on_numbers (λ x y. give_bool (holds o (int_cmp x y)))
    (on_texts (λ s t. give_bool (holds o (text_cmp s t))) (objects_order (no_order (sign_of o) h a b) inside (object_of h a) (object_of h b)) a b)
    (number_of a)
    (number_of b)

-- the items of two containers, below which so many containers may be looked into
unfoldable pub inside_order : ℕ → Op → List Object → List Value → List Value → OpEnd
inside_order zero o h xs ys = opend.Stop stop.Depth
inside_order (suc room) o h xs ys = items_order o (eq_at room h) (order_by (inside_order room o h) o h) xs ys

-- two values, in which containers may be looked into so deep
abbrev pub order_at : ℕ → Op → List Object → Value → Value → OpEnd
order_at room o h = order_by (inside_order room o h) o h

-- The order of two values: containers lie at depth 1 to 1,000.
abbrev pub order_row : Op → List Object → Value → Value → OpEnd
order_row = order_at 1000
