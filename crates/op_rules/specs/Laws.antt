-- Laws of the table of operations.
use Rattle.std.specs.Prelude.{◌≡◌, List, true}
use Rattle.nu_value.specs.declared.header.Header.{Header}
use Rattle.nu_value.specs.declared.value.Value.{Value}
use Rattle.op_forms.specs.declared.end.After.{After}
use Rattle.op_forms.specs.declared.op.Op.{Op}
use Rattle.op_forms.specs.declared.world.World.{World}
use Rattle.op_rules.specs.Finish.{finished}
use Rattle.op_forms.specs.Fits.{fits}
use Rattle.op_forms.specs.Answers.{after}
use Rattle.op_rules.specs.Table.{row}
use Rattle.op_rules.specs.Start.{start_world}
use Rattle.op_forms.specs.Sound.{Sound, IsIn, EndIn, AfterIn}

-- a sound world stays sound, and what an operation ends with names only objects of it
abbrev pub RowsKeepSound : Type 0
RowsKeepSound =
    (o : Op) (w : World) (args : List Value) → Sound w → fits o w args ≡ true
    → Sound (after w (row o w args)) × EndIn (row o w args).heap (row o w args).end

-- so does what becomes of the value of an asked function
abbrev pub FinishingKeepsSound : Type 0
FinishingKeepsSound =
    (a : After) (w : World) (v : Value) → Sound w → AfterIn w.heap a → IsIn w.heap v
    → Sound (after w (finished a w v)) × EndIn (finished a w v).heap (finished a w v).end

abbrev pub TheStartIsSound : Type 0
TheStartIsSound = (headers : List Header) → Sound (start_world headers)
