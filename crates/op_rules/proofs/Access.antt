-- The rows on values without items use only what they are given.
use Rattle.std.proofs.Common.{ℕ, List, [], ◌∷◌, Option, Some, lit<}
use Rattle.std.specs.Prelude.{slice_get}
use Rattle.nu_value.specs.declared.object.Object.{Object}
use Rattle.nu_value.specs.declared.object.Object.TheVariants as object
use Rattle.nu_value.specs.declared.value.Value.{Value}
use Rattle.nu_value.specs.declared.value.Value.TheVariants as value
use Rattle.op_forms.specs.declared.op.Op.{Op}
use Rattle.op_forms.specs.declared.op.Op.TheVariants as op
use Rattle.op_forms.specs.declared.world.World.{World}
use Rattle.op_forms.specs.Doing.{ends}
use Rattle.op_forms.specs.Right.{Claim, Known, Closed, Given, EndOf, Right}
use Rattle.op_rules.specs.Access.{other_iter, iter_of, other_next, next_of, asks_iterator, other_row}
use Rattle.op_rules.proofs.Asks.{asks_right}
use Rattle.op_rules.proofs.Plain.{plain_right, int_plain}
use Rattle.op_rules.proofs.Usual.{ended, fails, failed, idle}

module _ (c : Claim) (w : World) (k : Closed c w) where
  iterator_end : (x : Value) → c.of x → EndOf c w (asks_iterator w.heap x)
  iterator_end x p = asks_right c w k _ (x ∷ []) [] _ (p, tt) tt tt tt

  other_iter_end : (x : Value) (o : Option Object) → c.of x → EndOf c w (other_iter w.heap x o)
  other_iter_end x (Some (object.Generator code state given cells)) p = p
  other_iter_end x o p = iterator_end x p

  iter_end : (x : Value) → c.of x → EndOf c w (iter_of w.heap x)
  iter_end (value.Obj n) p = other_iter_end (value.Obj n) (slice_get w.heap n) p
  iter_end x p = iterator_end x p

  other_next_end : (n : ℕ) (o : Option Object) → Known c w n o → EndOf c w (other_next w.heap (value.Obj n) o)
  other_next_end n (Some (object.Generator code state given cells)) p = (p.sort, k.plain value.None tt)
  other_next_end n o p = fails c w k 35 _ (lit< tt)

  next_end : (x : Value) → EndOf c w (next_of w.heap x)
  next_end (value.Obj n) = other_next_end n (slice_get w.heap n) (k.objects n)
  next_end x = fails c w k 35 _ (lit< tt)

  pub other_right : (o : Op) (args : List Value) → Given c o args → Right c w (ends (other_row o w.heap args))
  other_right op.Index (x ∷ i ∷ []) q = failed c w k 35 _ (lit< tt)
  other_right op.SetIndex (x ∷ i ∷ v ∷ []) q = failed c w k 35 _ (lit< tt)
  other_right op.DelIndex (x ∷ i ∷ []) q = failed c w k 35 _ (lit< tt)
  other_right op.Slice (x ∷ a ∷ b ∷ d ∷ []) q = failed c w k 35 _ (lit< tt)
  other_right op.Iter (x ∷ []) q = ended c w k _ (iter_end x q.0)
  other_right op.Next (x ∷ []) q = ended c w k _ (next_end x)
  other_right op.In (v ∷ x ∷ []) q = ended c w k _ (asks_right c w k _ (v ∷ x ∷ []) [] _ (q.0, (q.1.0, tt)) tt tt tt)
  other_right op.Index args q = idle c w k
  other_right op.SetIndex args q = idle c w k
  other_right op.DelIndex args q = idle c w k
  other_right op.Slice args q = idle c w k
  other_right op.Iter args q = idle c w k
  other_right op.Next args q = idle c w k
  other_right op.In args q = idle c w k
  other_right o args q = plain_right c w k _ (int_plain o w.heap args)
