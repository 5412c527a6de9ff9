-- A call whose work an operation does is that operation.
use Rattle.std.proofs.Common.{◌≡◌, List, [], ◌∷◌, Bool, true, ap, sym, subst, ◌∙◌}
use Rattle.nu_value.specs.Same.{object_of}
use Rattle.nu_value.specs.declared.value.Value.{Value}
use Rattle.op_forms.specs.declared.op.Op.{Op}
use Rattle.op_forms.specs.declared.op.Op.TheVariants as op
use Rattle.op_forms.specs.declared.world.World.{World}
use Rattle.op_rules.specs.declared.callees.Route.TheVariants.{Operation}
use Rattle.op_rules.specs.Calls.{items_at}
use Rattle.op_rules.specs.Routes.{value_route, is_empty_dict}
use Rattle.op_rules.specs.Table.{group, row_of, routed, calling}

pub call_operates : (w : World) (f : Value) (args : List Value) (p : Op) → value_route w.heap f true args ≡ Operation p → calling op.Call w (f ∷ args) ≡ row_of (group p) p w args
call_operates w f args p e = ap (λ r. routed r op.Call w (f ∷ args)) e

pub callx_operates : (w : World) (f list dict : Value) (p : Op) (items : List Value) (plain : Bool) → items ≡ items_at (object_of w.heap list) → plain ≡ is_empty_dict (object_of w.heap dict)
    → value_route w.heap f plain items ≡ Operation p → calling op.CallX w (f ∷ list ∷ dict ∷ []) ≡ row_of (group p) p w items
callx_operates w f list dict p items plain d e q =
    let r : value_route w.heap f (is_empty_dict (object_of w.heap dict)) (items_at (object_of w.heap list)) ≡ Operation p =
    subst (λ xs. value_route w.heap f (is_empty_dict (object_of w.heap dict)) xs ≡ Operation p) d (subst (λ b. value_route w.heap f b items ≡ Operation p) e q) in
    ap (λ r. routed r op.CallX w (f ∷ list ∷ dict ∷ [])) r ∙ ap (λ xs. row_of (group p) p w xs) (sym d)
