-- A value is put at a place of a list.
use Rattle.std.proofs.Common.{◌≡◌, ℕ, List, [], ◌∷◌, Option, Some, None, refl, sym, ap, ◌∙◌, length}
use Rattle.std.specs.Prelude.{ℤ, slice_get, slice_set}
use Rattle.nu_value.specs.declared.object.Object.{Object}
use Rattle.nu_value.specs.declared.object.Object.TheVariants as object
use Rattle.nu_value.specs.declared.value.Value.{Value}
use Rattle.nu_value.specs.declared.value.Value.TheVariants as value
use Rattle.op_forms.specs.declared.op.Op.TheVariants as op
use Rattle.op_forms.specs.declared.world.World.{World}
use Rattle.op_forms.specs.Doing.{Fill, answer, given, put_at}
use Rattle.op_rules.specs.Binding.{bound}
use Rattle.op_rules.specs.Families.{object_family}
use Rattle.op_rules.specs.Items.{item_set, place_in, setindex_on}
use Rattle.op_rules.specs.Table.{family_row, row}
use Rattle.rt_seq.specs.declared.edits.Edit.TheVariants as edit
use Rattle.rt_seq.specs.Edits.{edited_at, list_place}

set_by : (w : World) (n place : ℕ) (i : ℤ) (v : Value) (h : List Object) (o : Option Object) → slice_get w.heap n ≡ o → list_place o i ≡ Some place → h ≡ edited_at w.heap n (edit.Set place v) o
    → row op.SetIndex w (value.Obj n ∷ value.Int i ∷ v ∷ []) ≡ given h value.None
set_by w n place i v h (Some (object.List items)) s p e =
    ap (λ o. bound w (answer w (family_row (object_family o) op.SetIndex w.heap (value.Obj n ∷ value.Int i ∷ v ∷ [])))) s
    ∙ ap (λ o. bound w (answer w (setindex_on w.heap n (value.Int i) v o))) s
    ∙ ap (λ q. bound w (answer w (item_set n items v q))) p
    ∙ ap (λ o. given (put_at w.heap n (Fill (slice_set items place v)) o) value.None) s
    ∙ ap (λ l. given l value.None) (sym e)
set_by w n place i v h other s p e = absurd (cc)

pub set_row : (w : World) (n place : ℕ) (i : ℤ) (v : Value) (h : List Object) → list_place (slice_get w.heap n) i ≡ Some place → h ≡ edited_at w.heap n (edit.Set place v) (slice_get w.heap n)
    → row op.SetIndex w (value.Obj n ∷ value.Int i ∷ v ∷ []) ≡ given h value.None
set_row w n place i v h p e = set_by w n place i v h (slice_get w.heap n) refl p e
