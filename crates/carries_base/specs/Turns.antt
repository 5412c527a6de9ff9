-- How the turns of two loops have to correspond, where a loop may leave in one way and the other in another.
use Rattle.std.specs.Prelude.{zero, suc, Option, Some, None}
use Rattle.nu_value.specs.declared.value.Value.TheVariants as value
use Rattle.nu_rows.specs.Rows.{End, Next, Leave, Raised, Return, Stopped, Undefined}
use Rattle.nu_rows.specs.Sim.{Ends}

-- how a loop ends, where a turn of it ends so; None where the next turn follows
abbrev pub loop_end : End → Option End
loop_end (Next v) = None
loop_end (Leave zero) = Some (Next value.None)
loop_end (Leave (suc n)) = Some (Leave n)
loop_end (Raised x) = Some (Raised x)
loop_end (Return v) = Some (Return v)
loop_end (Stopped kind) = Some (Stopped kind)
loop_end Undefined = Some Undefined

-- both turns lead to the next, or the loops end correspondingly
abbrev pub Turned : {S T : Type 0} → (S → T → Type 0) → Ends S T → Option End → S → Option End → T → Type 0
Turned Inv Q None s None t = Inv s t
Turned Inv Q None s (Some e') t = ⊥
Turned Inv Q (Some e) s None t = ⊥
Turned Inv Q (Some e) s (Some e') t = Q e s e' t

abbrev pub TurnedEnds : {S T : Type 0} → (S → T → Type 0) → Ends S T → Ends S T
TurnedEnds Inv Q e s e' t = Turned Inv Q (loop_end e) s (loop_end e') t
