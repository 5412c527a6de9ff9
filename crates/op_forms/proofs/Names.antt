-- An operation is found by its name alone.
use Rattle.std.proofs.Common.{◌≡◌, ℕ, List, [], ◌∷◌, Option, Some, Bool, true, false, refl, sym, ap, ◌∙◌}
use Rattle.std.specs.Prelude.{IfSome, if◌then◌else◌}
use Rattle.std.specs.Str.{bytes_eq}
use Rattle.std.proofs.lemmas.Slice.Eq.{bytes_eq-Decides}
use Rattle.op_forms.specs.declared.op.Op.{Op}
use Rattle.op_forms.specs.declared.op.Op.TheVariants as op
use Rattle.op_forms.specs.Names.{op_name, ops, op_among}

named_or : (b : Bool) (o : Op) (r : Option Op) (name : List ℕ) → (b ≡ true → op_name o ≡ name) → IfSome r (λ o. op_name o ≡ name) → IfSome (if b then Some o else r) (λ o. op_name o ≡ name)
named_or true o r name is more = is refl
named_or false o r name is more = more

pub named : (os : List Op) (name : List ℕ) → IfSome (op_among os name) (λ o. op_name o ≡ name)
named [] name = tt
named (o ∷ os) name = named_or (bytes_eq (op_name o) name) o (op_among os name) name (bytes_eq-Decides (op_name o) name).0 (named os name)

found : (o : Op) → op_among ops (op_name o) ≡ Some o
found op.Global = refl
found op.SetGlobal = refl
found op.DelGlobal = refl
found op.Local = refl
found op.Cell = refl
found op.CellSet = refl
found op.CellGet = refl
found op.CellDel = refl
found op.FreeGet = refl
found op.FreeDel = refl
found op.Space = refl
found op.SpaceGet = refl
found op.SpaceSet = refl
found op.SpaceDel = refl
found op.Native = refl
found op.Func = refl
found op.Class = refl
found op.Tuple = refl
found op.List = refl
found op.Dict = refl
found op.Push = refl
found op.Extend = refl
found op.Put = refl
found op.Merge = refl
found op.KeyPut = refl
found op.KeyMerge = refl
found op.Add = refl
found op.Sub = refl
found op.Mul = refl
found op.FloorDiv = refl
found op.Mod = refl
found op.Pow = refl
found op.LShift = refl
found op.RShift = refl
found op.And = refl
found op.Or = refl
found op.Xor = refl
found op.Neg = refl
found op.Pos = refl
found op.Inv = refl
found op.IAdd = refl
found op.IMul = refl
found op.Eq = refl
found op.Ne = refl
found op.Lt = refl
found op.Le = refl
found op.Gt = refl
found op.Ge = refl
found op.Is = refl
found op.IsNot = refl
found op.In = refl
found op.Not = refl
found op.Truth = refl
found op.Index = refl
found op.SetIndex = refl
found op.DelIndex = refl
found op.Slice = refl
found op.Iter = refl
found op.Next = refl
found op.Unpack = refl
found op.UnpackStar = refl
found op.Attr = refl
found op.SetAttr = refl
found op.DelAttr = refl
found op.Find = refl
found op.Manager = refl
found op.Call = refl
found op.CallX = refl
found op.Exc = refl
found op.Raise = refl
found op.Match = refl
found op.ClassOf = refl
found op.Trace = refl

pub found_by : (name : List ℕ) (o : Op) → op_name o ≡ name → op_among ops name ≡ Some o
found_by name o is = ap (op_among ops) (sym is) ∙ found o
