-- Operations on constants, done before the program runs.
use Rattle.std.specs.Prelude.{List, [], map, Option, Some, None, Bool, true, false, ◌&&◌, if◌then◌else◌}
use Rattle.nu_value.specs.declared.value.Value.TheVariants as value
use Rattle.op_forms.specs.declared.constant.Const.{Const}
use Rattle.op_forms.specs.declared.constant.Const.TheVariants as const
use Rattle.op_forms.specs.declared.end.OpEnd.{OpEnd}
use Rattle.op_forms.specs.declared.end.OpEnd.TheVariants as opend
use Rattle.op_forms.specs.declared.op.Op.{Op}
use Rattle.op_forms.specs.declared.op.Op.TheVariants as op
use Rattle.op_forms.specs.declared.world.World.{World}
use Rattle.op_forms.specs.Constants.{value_of}
use Rattle.op_forms.specs.Fits.{fits}
use Rattle.op_rules.specs.Table.{doing}

abbrev pub is_foldable : Op → Bool
is_foldable op.Truth = true
is_foldable op.Not = true
is_foldable op.Is = true
is_foldable op.IsNot = true
is_foldable op.Eq = true
is_foldable op.Ne = true
is_foldable op.Lt = true
is_foldable op.Le = true
is_foldable op.Gt = true
is_foldable op.Ge = true
is_foldable op.Add = true
is_foldable op.Sub = true
is_foldable op.Mul = true
is_foldable op.FloorDiv = true
is_foldable op.Mod = true
is_foldable op.LShift = true
is_foldable op.RShift = true
is_foldable op.And = true
is_foldable op.Or = true
is_foldable op.Xor = true
is_foldable op.Neg = true
is_foldable op.Pos = true
is_foldable op.Inv = true
is_foldable op.IAdd = true
is_foldable op.IMul = true
is_foldable other = false

-- an integer or a bool
abbrev pub given : OpEnd → Option Const
given (opend.Give (value.Int z)) = Some (const.Int z)
given (opend.Give (value.Bool b)) = Some (const.Bool b)
given other = None

-- constants name no object
abbrev pub no_world : World
no_world = record { heap = []; «module» = 0; builtins = 0; codes = [] }

-- what a foldable row gives for constants that fit it
abbrev pub folded : Op → List Const → Option Const
folded o args =
    if is_foldable o && fits o no_world (map value_of args) then given (doing o no_world (map value_of args)).end else None
