-- The words that rows are made of.
use Rattle.std.specs.Prelude.{ℕ, [], true, false}
use Rattle.nu_value.specs.declared.value.Value.{Value}
use Rattle.nu_value.specs.declared.value.Value.TheVariants as value
use Rattle.nu_rows.specs.Rows.{End, Next, Leave, Raised, Return, Stopped, Undefined, Effect, Row, Act, Then}

-- an act that prints nothing, changes nothing and ends so
abbrev pub ends_with : {S I : Type 0} → End → Row S I
ends_with e = Act (λ s. record { out = []; state = s; end = e })

-- what follows a value; any other end passes
abbrev pub on_next : {S I : Type 0} → (Value → Row S I) → End → Row S I
on_next k (Next v) = k v
on_next k (Leave n) = ends_with (Leave n)
on_next k (Raised e) = ends_with (Raised e)
on_next k (Return v) = ends_with (Return v)
on_next k (Stopped kind) = ends_with (Stopped kind)
on_next k Undefined = ends_with Undefined

-- a row, and what its value leads to
abbrev pub then_value : {S I : Type 0} → Row S I → (Value → Row S I) → Row S I
then_value r k = Then r (on_next k)

-- what follows an exception; any other end passes
abbrev pub on_raised : {S I : Type 0} → (ℕ → Row S I) → End → Row S I
on_raised k (Raised e) = k e
on_raised k (Next v) = ends_with (Next v)
on_raised k (Leave n) = ends_with (Leave n)
on_raised k (Return v) = ends_with (Return v)
on_raised k (Stopped kind) = ends_with (Stopped kind)
on_raised k Undefined = ends_with Undefined

-- one row or another, by a truth value; nothing is said of other values
abbrev pub choose : {S I : Type 0} → Value → Row S I → Row S I → Row S I
choose (value.Bool true) r q = r
choose (value.Bool false) r q = q
choose v r q = ends_with Undefined

-- a quiet act that leaves a state
abbrev pub quiet : {S : Type 0} → S → Effect S
quiet s = record { out = []; state = s; end = Next value.None }
