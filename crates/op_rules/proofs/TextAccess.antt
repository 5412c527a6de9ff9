-- The rows on texts use only what they are given, what they find there and what they make.
use Rattle.std.proofs.Common.{ℕ, List, [], ◌∷◌, lit<}
use Rattle.std.specs.Prelude.{pos}
use Rattle.nu_value.specs.declared.object.Object.TheVariants as object
use Rattle.nu_value.specs.declared.value.Value.{Value}
use Rattle.nu_value.specs.declared.value.Value.TheVariants as value
use Rattle.nu_value.specs.Same.{number_of}
use Rattle.op_forms.specs.declared.op.Op.{Op}
use Rattle.op_forms.specs.declared.op.Op.TheVariants as op
use Rattle.op_forms.specs.declared.world.World.{World}
use Rattle.op_forms.specs.Right.{Claim, Closed, Given, Right}
use Rattle.op_rules.specs.TextAccess.{text_iterator, index_row, slice_row, in_row, setindex_row, delindex_row, next_row, iter_row, text_doing}
use Rattle.op_rules.proofs.Plain.{IsPlain, plain_right, text_plain}
use Rattle.op_rules.proofs.TextPlain.{index_plain, slice_plain, in_plain}
use Rattle.op_rules.proofs.Usual.{idle, made_right}

module _ (c : Claim) (w : World) (k : Closed c w) where
  iterator_right : (text : List ℕ) → Right c w (text_iterator w.heap text)
  iterator_right text = made_right c w k (object.Iterator (value.Str text) (pos 0) 0 _) (k.plain (value.Str text) tt, tt, tt)

  index_args : (args : List Value) → IsPlain (index_row args)
  index_args (value.Str text ∷ i ∷ []) = index_plain text (number_of i)
  index_args args = tt

  slice_args : (args : List Value) → IsPlain (slice_row args)
  slice_args (value.Str text ∷ start ∷ stop ∷ step ∷ []) = slice_plain text start stop step
  slice_args args = tt

  in_args : (args : List Value) → IsPlain (in_row args)
  in_args (v ∷ value.Str text ∷ []) = in_plain v text
  in_args args = tt

  setindex_args : (args : List Value) → IsPlain (setindex_row w.heap args)
  setindex_args (x ∷ i ∷ v ∷ []) = (lit< tt, tt)
  setindex_args args = tt

  delindex_args : (args : List Value) → IsPlain (delindex_row w.heap args)
  delindex_args (x ∷ i ∷ []) = (lit< tt, tt)
  delindex_args args = tt

  next_args : (args : List Value) → IsPlain (next_row w.heap args)
  next_args (x ∷ []) = (lit< tt, tt)
  next_args args = tt

  iter_right : (args : List Value) → Right c w (iter_row w.heap args)
  iter_right (value.Str text ∷ []) = iterator_right text
  iter_right args = idle c w k

  pub text_right : (o : Op) (args : List Value) → Given c o args → Right c w (text_doing o w.heap args)
  text_right op.Index args q = plain_right c w k _ (index_args args)
  text_right op.Slice args q = plain_right c w k _ (slice_args args)
  text_right op.In args q = plain_right c w k _ (in_args args)
  text_right op.SetIndex args q = plain_right c w k _ (setindex_args args)
  text_right op.DelIndex args q = plain_right c w k _ (delindex_args args)
  text_right op.Next args q = plain_right c w k _ (next_args args)
  text_right op.Iter args q = iter_right args
  text_right o args q = plain_right c w k _ (text_plain o w.heap args)
