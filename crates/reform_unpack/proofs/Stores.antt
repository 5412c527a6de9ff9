-- A value that goes to a name.
use Rattle.std.proofs.Common.{◌≡◌, ℕ, ◌+◌, ◌<◌, ◌≤◌, List, [], ◌∷◌, Option, Some, None, refl, ap, ◌∙◌, arith}
use Rattle.nu_value.specs.declared.value.Value.{Value}
use Rattle.op_forms.specs.declared.op.Op.TheVariants as op
use Rattle.code_forms.specs.declared.operand.Argument.TheVariants as argument
use Rattle.code_forms.specs.declared.operand.Operand.{Operand}
use Rattle.code_forms.specs.declared.operand.Operand.TheVariants as operand
use Rattle.node_tree.specs.Nodes as nodes
use Rattle.py_meaning.specs.Syntax as syntax
use Rattle.py_meaning.specs.Frames as python
use Rattle.node_tree.specs.Blocks.{alone}
use Rattle.node_tree.specs.Blocks as tree
use Rattle.carries_base.specs.Frames.{Homes, behind, Fact, Holds, Facts}
use Rattle.carries_base.specs.Carries.{CarriesTarget}
use Rattle.carries_base.proofs.Facts.{outside_off}
use Rattle.carries_base.proofs.Sequence.{weaken, one_carried}
use Rattle.carries_base.proofs.Operations.{operate_carried}
use Rattle.reform_expr.specs.declared.home.Home.{Home}
use Rattle.reform_expr.specs.declared.home.Home.TheVariants as home
use Rattle.reform_expr.specs.Homes as homes
use Rattle.reform_unpack.specs.declared.place.Place.{Place}
use Rattle.reform_unpack.specs.declared.place.Place.TheVariants as place
use Rattle.reform_unpack.specs.Places.{line_of, home_in, value_of, target_of, reads, stores}

pub place_stored : (h : Homes) (low to : ℕ) (o : Operand) (at : Place) → behind h ≤ low → low ≤ to → CarriesTarget h low (to + 1) o (target_of at) (alone (stores to o at))
place_stored h low to o (place.Name (home.Module name) line) st le =
    let above : behind h ≤ to = omega arith in
    record {
      starts = st;
      grows = omega arith;
      carries = λ z fs v off knows. one_carried z h 0 (λ w. fs) fs _ _
          (weaken z h 0 (λ u. Holds (operand.Temp to) u ∷ fs) (λ w. fs) fs _ _ (λ u c g y. y.1)
          (operate_carried z h 0 fs line op.SetGlobal (python.text name ∷ v ∷ []) to (argument.Name name ∷ argument.Value o ∷ []) above (outside_off h low (to + 1) to fs le (omega arith) off)
          (λ c g y. ap (λ u. nodes.both (Some (python.text name)) (nodes.both u (Some []))) (knows c g y))));
    }

-- a target is its name, read
value_is : (at : Place) → syntax.Name (line_of at) (homes.home_of (home_in at)) ≡ value_of at
value_is (place.Name home line) = refl

reads_is : (to : ℕ) (at : Place) → homes.reads to (line_of at) (home_in at) ≡ reads to at
reads_is to (place.Name home line) = refl

pub value_by : (at : Place) (line : ℕ) (name : Home) → line ≡ line_of at → name ≡ home_in at → syntax.Name line (homes.home_of name) ≡ value_of at
value_by at line name el en = ap (λ l. syntax.Name l (homes.home_of name)) el ∙ ap (λ n. syntax.Name (line_of at) (homes.home_of n)) en ∙ value_is at

pub reads_by : (to : ℕ) (at : Place) (line : ℕ) (name : Home) → line ≡ line_of at → name ≡ home_in at → homes.reads to line name ≡ reads to at
reads_by to at line name el en = ap (λ l. homes.reads to l name) el ∙ ap (λ n. homes.reads to (line_of at) n) en ∙ reads_is to at
