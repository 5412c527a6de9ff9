-- The language in which meanings are written: rows, and what a row does within a bound.
use Rattle.std.specs.Prelude.{ℕ, zero, suc, List, [], ◌∷◌, ◌++◌}
use Rattle.nu_run.specs.declared.StopKind.{StopKind}
use Rattle.nu_value.specs.declared.value.Value.{Value}
use Rattle.nu_value.specs.declared.value.Value.TheVariants as value

-- how a construct ends, apart from a pause: with a value; out of so many loops more than the one around it; with the
-- exception of this number; with a value that the body returns; with a stop; or the meaning says nothing
pub data End : Type 0 where
  Next : (v : Value) → End
  Leave : (loops : ℕ) → End
  Raised : (exception : ℕ) → End
  Return : (v : Value) → End
  Stopped : (kind : StopKind) → End
  Undefined : End

-- a step of a place: in a row, or in what follows it, which keeps how the row ended
pub data Step : Type 0 where
  First : Step
  Second : (kept : End) → Step

-- how a pause is ended from outside: a value is sent, or an exception is thrown
pub data How : Type 0 where
  Send : (v : Value) → How
  Throw : (exception : ℕ) → How

-- where a run of a row starts: at its beginning, or at the place of a pause
pub data Start : Type 0 where
  Begin : Start
  Back : (place : List Step) (how : How) → Start

-- what a run within a bound gives: what it printed and, unless the bound ran out, the state and the pause or the end
pub data Res (S : Type 0) : Type 0 where
  Spent : (out : List ℕ) → Res S
  Paused : (out : List ℕ) (s : S) (v : Value) (place : List Step) → Res S
  Ended : (out : List ℕ) (s : S) (e : End) → Res S

-- what one act does: it prints, leaves a state, and ends
pub record Effect (S : Type 0) : Type 0 where
  pub out : List ℕ
  pub state : S
  pub end : End

-- how a body that was run over a state of its own stopped
pub data Left (S : Type 0) : Type 0 where
  AtPause : (s : S) (v : Value) (place : List Step) → Left S
  AtEnd : (s : S) (e : End) → Left S

-- a body to be run over a state of its own, and what is made of how it stopped; or an act instead
pub data Entry (S I : Type 0) : Type 0 where
  Into : (item : I) (start : Start) (s : S) (leave : Left S → Effect S) → Entry S I
  Instead : (effect : Effect S) → Entry S I

-- a row over states S and items I, which have rows in a table: an act; a pause that yields a value; the row of an item,
-- within a bound that is one less; a row and what follows each of its ends; a turn of a loop, whose further turns are
-- those of an item; a body
pub data Row (S I : Type 0) : Type 0 where
  Act : (f : S → Effect S) → Row S I
  Yld : (v : Value) → Row S I
  Part : (item : I) → Row S I
  Then : (r : Row S I) (k : End → Row S I) → Row S I
  Loop : (r : Row S I) (again : I) → Row S I
  Sub : (enter : S → Entry S I) → Row S I

-- an outcome, with what was printed before in front, and a step in front of its place
abbrev pub shift : {S : Type 0} → List ℕ → Step → Res S → Res S
shift o x (Spent p) = Spent (o ++ p)
shift o x (Paused p s v place) = Paused (o ++ p) s v (x ∷ place)
shift o x (Ended p s e) = Ended (o ++ p) s e

-- an outcome, and what follows its end
abbrev pub after : {S : Type 0} → Res S → (End → S → Res S) → Res S
after (Spent o) g = Spent o
after (Paused o s v place) g = Paused o s v (First ∷ place)
after (Ended o s e) g = shift o (Second e) (g e s)

-- an outcome, with what was printed before in front
abbrev pub before : {S : Type 0} → List ℕ → Res S → Res S
before o (Spent p) = Spent (o ++ p)
before o (Paused p s v place) = Paused (o ++ p) s v place
before o (Ended p s e) = Ended (o ++ p) s e

-- a turn of a loop: a value leads to the next turn, the nearest leave out of the loop
abbrev pub turned : {S : Type 0} → Res S → (S → Res S) → Res S
turned (Spent o) g = Spent o
turned (Paused o s v place) g = Paused o s v place
turned (Ended o s (Next v)) g = before o (g s)
turned (Ended o s (Leave zero)) g = Ended o s (Next value.None)
turned (Ended o s (Leave (suc n))) g = Ended o s (Leave n)
turned (Ended o s (Raised e)) g = Ended o s (Raised e)
turned (Ended o s (Return v)) g = Ended o s (Return v)
turned (Ended o s (Stopped k)) g = Ended o s (Stopped k)
turned (Ended o s Undefined) g = Ended o s Undefined

-- an effect, after what a body printed
abbrev pub gone : {S : Type 0} → List ℕ → Effect S → Res S
gone o f = Ended (o ++ f.out) f.state f.end

-- what the caller has of a body's outcome: the body's pause is no pause of the caller
abbrev pub left_by : {S : Type 0} → Res S → (Left S → Effect S) → Res S
left_by (Spent o) leave = Spent o
left_by (Paused o s v place) leave = gone o (leave (AtPause s v place))
left_by (Ended o s e) leave = gone o (leave (AtEnd s e))

abbrev pub entered : {S I : Type 0} → (I → Start → S → Res S) → Entry S I → Res S
entered rec (Into item start s leave) = left_by (rec item start s) leave
entered rec (Instead f) = gone [] f

-- what a pause is to the construct around it, once it is ended
abbrev pub sent : How → End
sent (Send v) = Next v
sent (Throw e) = Raised e

-- what a row does, where `rec` says what items do. At a place that is none of the row's it says nothing
abbrev pub interp : {S I : Type 0} → (I → Start → S → Res S) → Row S I → Start → S → Res S
interp rec (Act f) Begin s = Ended (f s).out (f s).state (f s).end
interp rec (Act f) (Back place how) s = Ended [] s Undefined
interp rec (Yld v) Begin s = Paused [] s v []
interp rec (Yld v) (Back [] how) s = Ended [] s (sent how)
interp rec (Yld v) (Back (x ∷ place) how) s = Ended [] s Undefined
interp rec (Part item) start s = rec item start s
interp rec (Then r k) Begin s = after (interp rec r Begin s) (λ e t. interp rec (k e) Begin t)
interp rec (Then r k) (Back [] how) s = Ended [] s Undefined
interp rec (Then r k) (Back (First ∷ place) how) s = after (interp rec r (Back place how) s) (λ e t. interp rec (k e) Begin t)
interp rec (Then r k) (Back (Second e ∷ place) how) s = shift [] (Second e) (interp rec (k e) (Back place how) s)
interp rec (Loop r again) start s = turned (interp rec r start s) (λ t. rec again Begin t)
interp rec (Sub enter) Begin s = entered rec (enter s)
interp rec (Sub enter) (Back place how) s = Ended [] s Undefined

-- an item within a bound, by the rows of a table
abbrev pub run : {S I : Type 0} → (I → Row S I) → ℕ → I → Start → S → Res S
run rows zero item start s = Spent []
run rows (suc n) item start s = interp (run rows n) (rows item) start s

-- a row within a bound
abbrev pub does : {S I : Type 0} → (I → Row S I) → Row S I → Start → S → ℕ → Res S
does rows r start s n = interp (run rows n) r start s
