-- Ends that pass, and what ends at once.
use Rattle.std.proofs.Common.{ℕ, Option, Bool, true, false, Some, None}
use Rattle.nu_value.specs.declared.value.Value.TheVariants as value
use Rattle.nu_rows.specs.Rows.{End, Next, Leave, Raised, Return, Stopped, Undefined}
use Rattle.nu_rows.specs.Words.{ends_with}
use Rattle.py_meaning.specs.Expressions.{gives}
use Rattle.py_safe.specs.Heaps.{View, Grows, IsThrown}
use Rattle.py_safe.specs.Constructs.{Room}
use Rattle.py_safe.proofs.Right.{Program, EndIs, Anything, RightBy}
use Rattle.py_safe.proofs.Growth.{there_more, thrown_more}
use Rattle.py_safe.proofs.Rows.{ends_right}

-- an end stays one in a greater view
pub stays : (n : ℕ) (g more : View) (e : End) → Grows g more → EndIs n Anything g e → EndIs n Anything more e
stays n g more (Next v) w y = tt
stays n g more (Leave i) w y = y
stays n g more (Raised x) w y = thrown_more g more w x y
stays n g more (Return v) w y = there_more g more w v y
stays n g more (Stopped kind) w y = tt
stays n g more Undefined w y = y

-- the exception of the `except` clause around a construct, if there is one
abbrev pub Handled : Bool → Option ℕ → View → Type 0
Handled true (Some x) v = IsThrown v x
Handled true None v = ⊥
Handled false handled v = Unit {0}

pub handled_more : (b : Bool) (handled : Option ℕ) (v more : View) → Grows v more → Handled b handled v → Handled b handled more
handled_more true (Some x) v more g p = thrown_more v more g x p
handled_more true None v more g p = p
handled_more false handled v more g p = tt

pub keeps : (r : Room) (handled : Option ℕ) (v more : View) → Grows v more → Handled r.handler handled v → Handled r.handler handled more
keeps r handled v more g k = handled_more r.handler handled v more g k

-- inside an `except` clause, or outside, nothing else is another
abbrev pub clause : Bool → Room → Room
clause b r = record r { handler = b }

module _ (z : Program) (r : Room) where
  pub done_right : (n : ℕ) (v : View) → RightBy z r r n Anything v (gives value.None)
  done_right n v = ends_right z r n Anything v (Next value.None) (λ more g. tt)

  pub pass_right : (n : ℕ) (g : View) (e : End) → EndIs n Anything g e → RightBy z r r n Anything g (ends_with e)
  pass_right n g e y = ends_right z r n Anything g e (λ more w. stays n g more e w y)
