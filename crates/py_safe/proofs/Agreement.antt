-- The bodies of a program's codes agree: within each bound all go right, since within the bound that is one less all do.
use Rattle.std.proofs.Common.{◌≡◌, ℕ, zero, suc, ◌≤◌, Option, Some, None, refl, sym, subst, arith}
use Rattle.std.specs.Prelude.{slice_get}
use Rattle.nu_rows.specs.Rows.{Start, Begin, Back, Part, run, does}
use Rattle.py_meaning.specs.Syntax as syntax
use Rattle.py_meaning.specs.Frames.{Item, OfCode}
use Rattle.py_meaning.specs.Bodies.{code_row}
use Rattle.py_safe.specs.Heaps.{View}
use Rattle.py_safe.specs.Constructs.{Room}
use Rattle.py_safe.proofs.Right.{S, Program, source, rows, nothing, Table, Tables, nowhere, room_at, begun_at, Done, Body, Agree}
use Rattle.py_safe.proofs.Frames.{lawful_code}
use Rattle.py_safe.proofs.Codes.{code_right}

-- the places of a body
pub places : (z : Program) (n : ℕ) (o : Option syntax.Code) → slice_get z.codes n ≡ o → Table
places z n None e = nowhere
places z n (Some c) e = (code_right z n c e (lawful_code z n c e)).table

abbrev pub tables : Program → Tables
tables z n = places z n (slice_get z.codes n) refl

-- nothing is done within a bound of nothing
spent : (z : Program) (R : Room) (T : Table) (v : View) (i : Item) (start : Start) (s : S) (m : ℕ) → m ≤ 0 → Done z (tables z) R T v (run (rows z) m i start s)
spent z R T v i start s zero le = tt
spent z R T v i start s (suc m) le = absurd (omega (arith, le))

-- a body costs one of the bound
module _ (z : Program) (M n : ℕ) (c : syntax.Code) (e : slice_get z.codes n ≡ Some c) (R : Room) (T : Table) (v : View) (start : Start) (s : S) where
  within : ((m : ℕ) → m ≤ M → Done z (tables z) R T v (does (rows z) (code_row (source z) (Some c)) start s m)) → (m : ℕ) → m ≤ suc M → Done z (tables z) R T v (run (rows z) m (OfCode n) start s)
  within f zero le = tt
  within f (suc m) le = subst (λ o. Done z (tables z) R T v (does (rows z) (code_row (source z) o) start s m)) (sym e) (f m (omega (arith, le)))

body_of : (z : Program) (M : ℕ) → Agree z (tables z) M → (n : ℕ) (o : Option syntax.Code) (e : slice_get z.codes n ≡ o) (c : syntax.Code) → o ≡ Some c → Body z (tables z) (suc M) (begun_at z n) (room_at z n) (places z n o e) nothing (Part (OfCode n))
unfolding places
body_of z M agree n None e c is = absurd (cc)
body_of z M agree n (Some d) e c is =
    let b = (code_right z n d e (lawful_code z n d e)).body (tables z) M agree in
    record {
      begins = λ marks s law g m le. within z M n d e (room_at z n) (places z n (Some d) e) _ Begin s (λ k less. b.begins marks s law g k less) m le;
      goes_on = λ p u at g how marks s law w y m le. within z M n d e (room_at z n) (places z n (Some d) e) _ (Back p how) s (λ k less. b.goes_on p u at g how marks s law w y k less) m le;
    }

pub agree : (z : Program) (M : ℕ) → Agree z (tables z) M
agree z zero = record {
  bodies = λ code c e. record {
    begins = λ marks s law g m le. spent z (room_at z code) (tables z code) _ (OfCode code) Begin s m le;
    goes_on = λ p u at g how marks s law w y m le. spent z (room_at z code) (tables z code) _ (OfCode code) (Back p how) s m le;
  };
}
agree z (suc M) = record { bodies = λ code c e. body_of z M (agree z M) code (slice_get z.codes code) refl c e }
