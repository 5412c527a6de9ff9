-- A key of a dict maps to a value.
use Rattle.std.proofs.Common.{◌≡◌, ℕ, List, [], ◌∷◌, Option, Some, None, Bool, true, refl, sym, ap, ◌∙◌}
use Rattle.std.specs.Prelude.{Ok, slice_get, slice_set}
use Rattle.std.proofs.lemmas.List.{set-get_or}
use Rattle.std.proofs.lemmas.Option.{get_or_from_slice_get}
use Rattle.nu_value.specs.declared.key.Atom.{Atom}
use Rattle.nu_value.specs.declared.object.Object.{Object}
use Rattle.nu_value.specs.declared.object.Object.TheVariants as object
use Rattle.nu_value.specs.declared.value.Value.{Value}
use Rattle.nu_value.specs.declared.value.Value.TheVariants as value
use Rattle.op_forms.specs.declared.op.Op.TheVariants as op
use Rattle.op_forms.specs.declared.world.World.{World}
use Rattle.op_forms.specs.Doing.{Put, answer, given, put_at}
use Rattle.op_forms.specs.Fits.{is_dict}
use Rattle.op_rules.specs.Binding.{bound}
use Rattle.op_rules.specs.Dicts.{put_keyed, setindex_on}
use Rattle.op_rules.specs.Families.{object_family}
use Rattle.op_rules.specs.Keys.{key_or_end}
use Rattle.op_rules.specs.Table.{family_row, row}

pub set_same : {A : Type 0} (xs : List A) (n : ℕ) (x : A) → slice_get xs n ≡ Some x → slice_set xs n x ≡ xs
set_same xs n x h = ap (λ y. slice_set xs n y) (sym (get_or_from_slice_get xs n x x h)) ∙ set-get_or xs n x

put_by : (w : World) (n : ℕ) (i v : Value) (k : List Atom) (h : List Object) (o : Option Object) → slice_get w.heap n ≡ o → is_dict o ≡ true → key_or_end w.heap i ≡ Ok k → h ≡ put_at w.heap n (Put k i v) (slice_get w.heap n)
    → row op.SetIndex w (value.Obj n ∷ i ∷ v ∷ []) ≡ given h value.None
put_by w n i v k h (Some (object.Dict pairs)) s d p e =
    ap (λ o. bound w (answer w (family_row (object_family o) op.SetIndex w.heap (value.Obj n ∷ i ∷ v ∷ [])))) s
    ∙ ap (λ o. bound w (answer w (setindex_on w.heap n i v o))) s
    ∙ ap (λ q. bound w (answer w (put_keyed n i v q))) p
    ∙ ap (λ l. given l value.None) (sym e)
put_by w n i v k h other s d p e = absurd (cc)

pub put_row : (w : World) (n : ℕ) (i v : Value) (k : List Atom) (h : List Object) → is_dict (slice_get w.heap n) ≡ true → key_or_end w.heap i ≡ Ok k → h ≡ put_at w.heap n (Put k i v) (slice_get w.heap n)
    → row op.SetIndex w (value.Obj n ∷ i ∷ v ∷ []) ≡ given h value.None
put_row w n i v k h d p e = put_by w n i v k h (slice_get w.heap n) refl d p e
