-- Rows whose places lead through no item.
use Rattle.std.proofs.Common.{ℕ, List, [], ◌∷◌, true, false}
use Rattle.nu_value.specs.declared.value.Value.{Value}
use Rattle.nu_value.specs.declared.value.Value.TheVariants as value
use Rattle.nu_rows.specs.Rows.{End, Next, Leave, Raised, Return, Stopped, Undefined, Step, First, Second, Effect, Row, Act, Yld, Then, Loop, Sub, Entry}
use Rattle.nu_rows.specs.Words.{on_next, on_raised, choose}
use Rattle.nu_rows.specs.Places.{IsDirect}

pub record Direct {S I : Type 0} (r : Row S I) : Type 0 where
  pub at : (p : List Step) → IsDirect r p

act_at : (S I : Type 0) (f : S → Effect S) (p : List Step) → IsDirect {S = S} {I = I} (Act f) p
act_at S I f [] = tt
act_at S I f (x ∷ p) = tt

pub act_direct : {S I : Type 0} (f : S → Effect S) → Direct {S = S} {I = I} (Act f)
act_direct f = record { at = act_at _ _ f }

yield_at : (S I : Type 0) (v : Value) (p : List Step) → IsDirect {S = S} {I = I} (Yld v) p
yield_at S I v [] = tt
yield_at S I v (x ∷ p) = tt

pub yield_direct : {S I : Type 0} (v : Value) → Direct {S = S} {I = I} (Yld v)
yield_direct v = record { at = yield_at _ _ v }

sub_at : (S I : Type 0) (f : S → Entry S I) (p : List Step) → IsDirect (Sub f) p
sub_at S I f [] = tt
sub_at S I f (x ∷ p) = tt

pub sub_direct : {S I : Type 0} (f : S → Entry S I) → Direct (Sub f)
sub_direct f = record { at = sub_at _ _ f }

loop_at : (S I : Type 0) (r : Row S I) (i : I) → Direct r → (p : List Step) → IsDirect (Loop r i) p
loop_at S I r i h [] = tt
loop_at S I r i h (x ∷ p) = h.at (x ∷ p)

pub loop_direct : {S I : Type 0} (r : Row S I) (i : I) → Direct r → Direct (Loop r i)
loop_direct r i h = record { at = loop_at _ _ r i h }

then_at : (S I : Type 0) (r : Row S I) (k : End → Row S I) → Direct r → ((e : End) → Direct (k e)) → (p : List Step) → IsDirect (Then r k) p
then_at S I r k h g [] = tt
then_at S I r k h g (First ∷ p) = h.at p
then_at S I r k h g (Second e ∷ p) = (g e).at p

pub then_direct : {S I : Type 0} (r : Row S I) (k : End → Row S I) → Direct r → ((e : End) → Direct (k e)) → Direct (Then r k)
then_direct r k h g = record { at = then_at _ _ r k h g }

pub next_direct : {S I : Type 0} (k : Value → Row S I) → ((v : Value) → Direct (k v)) → (e : End) → Direct (on_next k e)
next_direct k h (Next v) = h v
next_direct k h (Leave n) = act_direct _
next_direct k h (Raised x) = act_direct _
next_direct k h (Return v) = act_direct _
next_direct k h (Stopped kind) = act_direct _
next_direct k h Undefined = act_direct _

pub value_direct : {S I : Type 0} (r : Row S I) (k : Value → Row S I) → Direct r → ((v : Value) → Direct (k v)) → Direct (Then r (on_next k))
value_direct r k h g = then_direct r (on_next k) h (next_direct k g)

pub raised_direct : {S I : Type 0} (k : ℕ → Row S I) → ((x : ℕ) → Direct (k x)) → (e : End) → Direct (on_raised k e)
raised_direct k h (Next v) = act_direct _
raised_direct k h (Leave n) = act_direct _
raised_direct k h (Raised x) = h x
raised_direct k h (Return v) = act_direct _
raised_direct k h (Stopped kind) = act_direct _
raised_direct k h Undefined = act_direct _

pub choose_direct : {S I : Type 0} (v : Value) (r q : Row S I) → Direct r → Direct q → Direct (choose v r q)
choose_direct (value.Bool true) r q h g = h
choose_direct (value.Bool false) r q h g = g
choose_direct value.Unset r q h g = act_direct _
choose_direct value.None r q h g = act_direct _
choose_direct (value.Int z) r q h g = act_direct _
choose_direct (value.Str text) r q h g = act_direct _
choose_direct (value.Obj n) r q h g = act_direct _

-- a row whose exceptions get an entry
pub line_direct : {S I : Type 0} (r : Row S I) (k : ℕ → Row S I) → Direct r → ((x : ℕ) → Direct (k x)) → Direct (Then r (on_raised k))
line_direct r k h g = then_direct r (on_raised k) h (raised_direct k g)
