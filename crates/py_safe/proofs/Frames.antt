-- The frames with which bodies begin.
use Rattle.std.proofs.Common.{◌≡◌, ℕ, zero, suc, ◌<◌, ◌-◌, List, [], ◌∷◌, ◌++◌, Option, Some, None, Bool, true, false, if◌then◌else◌, refl, sym, ap, subst, ◌∙◌, arith, length, length-append, map, replicate, take}
use Rattle.std.specs.Prelude.{IsTrue, ◌&&◌, nat_le, slice_get}
use Rattle.std.proofs.lemmas.Bool.Decides.{nat_tests}
use Rattle.std.proofs.lemmas.List.{take_all, length-replicate}
use Rattle.nu_value.specs.declared.header.Header.{Header}
use Rattle.nu_value.specs.declared.object.Object.{Object}
use Rattle.nu_value.specs.declared.object.Object.TheVariants as object
use Rattle.nu_value.specs.declared.value.Value.{Value}
use Rattle.nu_value.specs.declared.value.Value.TheVariants as value
use Rattle.op_forms.specs.Sound.{ASpace as SpaceSort, sort_of, AreCells}
use Rattle.nu_calls.specs.Calls.{of_kind}
use Rattle.py_meaning.specs.Syntax as syntax
use Rattle.py_meaning.specs.Frames.{Frame, at}
use Rattle.py_meaning.specs.Bodies.{begun_frame}
use Rattle.py_safe.specs.Rosters.{Role, OfModule, OfFunction, OfClass, IsBlock, HasBlocks}
use Rattle.py_safe.specs.Heaps.{View, ASpace, nature_of, AllOpen, Takes, IsThere, AllThere}
use Rattle.py_safe.specs.Rules.{IsOf, GivenAs}
use Rattle.py_safe.specs.Constructs.{is_class, RunAs, LawfulCode}
use Rattle.py_safe.proofs.Right.{Program, roster, AllMaybe, FrameLaw, room_in, room_at, begun_room, params_in, begun_at}

-- ---- codes

-- a code of the program that takes these values, and is a generator's or not
pub record CodeIs (z : Program) (code : ℕ) (generator : Bool) (given : List Value) : Type 0 where
  pub is : syntax.Code
  pub at : slice_get z.codes code ≡ Some is
  pub count : length given ≡ length is.header.params
  pub kind : is.header.generator ≡ generator

pub record HeaderOf (codes : List syntax.Code) (n : ℕ) (header : Header) : Type 0 where
  pub is : syntax.Code
  pub at : slice_get codes n ≡ Some is
  pub same : is.header ≡ header

pub header_of : (codes : List syntax.Code) (n : ℕ) (header : Header) → slice_get (map (λ code. code.header) codes) n ≡ Some header → HeaderOf codes n header
header_of [] n header e = absurd (cc)
header_of (c ∷ codes) zero header e = record { is = c; at = refl; same = cc }
header_of (c ∷ codes) (suc n) header e = let x = header_of codes n header e in record { is = x.is; at = x.at; same = x.same }

pub code_is : (z : Program) (code : ℕ) (generator : Bool) (given : List Value) → Takes (roster z) code generator given → CodeIs z code generator given
code_is z code generator given t =
    let x = header_of z.codes code t.header t.at in
    record {
      is = x.is;
      at = x.at;
      count = t.count ∙ ap (λ header. length header.params) (sym x.same);
      kind = ap (λ header. header.generator) x.same ∙ t.kind;
    }

pub lawful_code : (z : Program) (code : ℕ) (c : syntax.Code) → slice_get z.codes code ≡ Some c → LawfulCode (roster z) (z.role code) c
lawful_code z code c e = z.lawful.each code c e

block_as : (role : Role) (code : syntax.Code) → RunAs role code → role ≡ OfClass → IsBlock code.header
block_as role code r e = subst (λ i. RunAs i code) e r

-- the blocks of classes take their names alone
pub has_blocks : (z : Program) → HasBlocks (roster z)
has_blocks z code header is at =
    let x = header_of z.codes code header at in
    subst (λ h. IsBlock h) x.same (block_as (z.role code) x.is (lawful_code z code x.is x.at).run is)

-- a generator's code may pause, and no other
pub yields_as : (z : Program) (code : ℕ) (c : syntax.Code) → slice_get z.codes code ≡ Some c → (room_at z code).yields ≡ c.header.generator
yields_as z code c e = ap (λ o. (room_in (z.role code) o).yields) e

-- ---- lists

pub all_maybe : (v : View) (xs : List Value) → AllThere v xs → AllMaybe v xs
all_maybe v [] p = tt
all_maybe v (value.Unset ∷ xs) p = absurd p.0.0
all_maybe v (value.None ∷ xs) p = (p.0, all_maybe v xs p.1)
all_maybe v (value.Bool b ∷ xs) p = (p.0, all_maybe v xs p.1)
all_maybe v (value.Int i ∷ xs) p = (p.0, all_maybe v xs p.1)
all_maybe v (value.Str text ∷ xs) p = (p.0, all_maybe v xs p.1)
all_maybe v (value.Obj n ∷ xs) p = (p.0, all_maybe v xs p.1)

unset_maybe : (v : View) (n : ℕ) → AllMaybe v (replicate n value.Unset)
unset_maybe v zero = tt
unset_maybe v (suc n) = (tt, unset_maybe v n)

both_maybe : (v : View) (xs ys : List Value) → AllMaybe v xs → AllMaybe v ys → AllMaybe v (xs ++ ys)
both_maybe v [] ys p q = q
both_maybe v (x ∷ xs) ys p q = (p.0, both_maybe v xs ys p.1 q)

there_at : (v : View) (xs ys : List Value) (place : ℕ) → AllThere v xs → place < length xs → IsThere v (at (xs ++ ys) place)
there_at v [] ys place p le = absurd (omega arith)
there_at v (x ∷ xs) ys zero p le = p.0
there_at v (x ∷ xs) ys (suc place) p le = there_at v xs ys place p.1 (omega arith)

-- ---- the frame

abbrev pub begun_of : ℕ → List Value → List Value → syntax.Code → Frame
begun_of code given cells c = record {
  code = code;
  locals = given ++ replicate (c.locals - length c.header.params) value.Unset;
  owns = [];
  frees = cells;
  carried = value.None;
}

abbrev frame_if : ℕ → syntax.Code → Bool → Bool → Bool → List Value → List Value → Option Frame
frame_if code c is enough more given cells =
    if is && (enough && more)
    then Some (record { code = code; locals = given ++ replicate (c.locals - length c.header.params) value.Unset; owns = []; frees = cells; carried = value.None })
    else None

own_kind : (kind : Bool) → of_kind kind kind ≡ true
own_kind true = refl
own_kind false = refl

pub begun_is : (kind : Bool) (code : ℕ) (given cells : List Value) (c : syntax.Code) → c.header.generator ≡ kind → length given ≡ length c.header.params → length cells ≡ c.frees → begun_frame kind code given cells (Some c) ≡ Some (begun_of code given cells c)
begun_is kind code given cells c generator count frees =
    let enough : nat_le (length c.header.params) (length given) ≡ true = grind (arith, nat_tests) in
    let more : nat_le c.frees (length cells) ≡ true = grind (arith, nat_tests) in
    let all : take (length c.header.params) given ≡ given = take_all (length c.header.params) given (omega (arith, count)) in
    let each : take c.frees cells ≡ cells = take_all c.frees cells (omega (arith, frees)) in
    ap (λ b. frame_if code c b (nat_le (length c.header.params) (length given)) (nat_le c.frees (length cells)) (take (length c.header.params) given) (take c.frees cells)) (ap (of_kind kind) generator ∙ own_kind kind)
    ∙ (ap (λ b. frame_if code c true b (nat_le c.frees (length cells)) (take (length c.header.params) given) (take c.frees cells)) enough
    ∙ (ap (λ b. frame_if code c true true b (take (length c.header.params) given) (take c.frees cells)) more
    ∙ (ap (λ xs. frame_if code c true true true xs (take c.frees cells)) all
    ∙ ap (λ xs. frame_if code c true true true given xs) each)))

space_nature : (o : Option Object) → sort_of o ≡ SpaceSort → nature_of o ≡ ASpace
space_nature (Some (object.Space names)) e = refl
space_nature other e = absurd (cc)

names_at : (v : View) (role : Role) (given rest : List Value) → GivenAs v role given → IsTrue (is_class role) → IsOf v.heap ASpace (at (given ++ rest) 0)
names_at v OfClass (value.Obj n ∷ []) rest g e = space_nature (slice_get v.heap n) g.sort
names_at v OfModule given rest g e = absurd g
names_at v OfFunction given rest g e = absurd (cc)
names_at v role given rest g e = absurd g

-- what a body of a code is begun with
pub record Begins (z : Program) (v : View) (code : ℕ) (c : syntax.Code) (given cells : List Value) : Type 0 where
  pub coded : slice_get z.codes code ≡ Some c
  pub count : length given ≡ length c.header.params
  pub there : AllThere v given
  pub frees : length cells ≡ c.frees
  pub all : AreCells v.heap cells × AllOpen v.marks cells
  pub names : IsTrue (is_class (z.role code)) → IsOf v.heap ASpace (at (given ++ replicate (c.locals - length c.header.params) value.Unset) 0)

pub begun_law : (z : Program) (v : View) (code : ℕ) (c : syntax.Code) (given cells : List Value) → Begins z v code c given cells → FrameLaw (begun_at z code) v (begun_of code given cells c)
begun_law z v code c given cells b =
    let p = (lawful_code z code c b.coded).params in
    subst (λ o. FrameLaw (begun_room (params_in o) (room_in (z.role code) o)) v (begun_of code given cells c)) (sym b.coded)
    (record {
      locals = both_maybe v given (replicate (c.locals - length c.header.params) value.Unset) (all_maybe v given b.there) (unset_maybe v (c.locals - length c.header.params));
      count = omega (arith, b.count, p, length-append given (replicate (c.locals - length c.header.params) value.Unset), length-replicate (c.locals - length c.header.params) value.Unset);
      bound = λ place less. there_at v given (replicate (c.locals - length c.header.params) value.Unset) place b.there (omega (arith, b.count, less));
      names = b.names;
      owns = (tt, tt);
      made = refl;
      frees = b.all;
      given = b.frees;
      carried = (tt, tt);
    })

pub begun_frame_is : (z : Program) (v : View) (kind : Bool) (code : ℕ) (c : syntax.Code) (given cells : List Value) → c.header.generator ≡ kind → Begins z v code c given cells → begun_frame kind code given cells (slice_get z.codes code) ≡ Some (begun_of code given cells c)
begun_frame_is z v kind code c given cells e b = ap (λ o. begun_frame kind code given cells o) b.coded ∙ begun_is kind code given cells c e b.count b.frees

-- of a function that is asked, its role allows what it is given
pub names_given : (z : Program) (v : View) (code : ℕ) (c : syntax.Code) (given : List Value) → GivenAs v (z.role code) given → IsTrue (is_class (z.role code)) → IsOf v.heap ASpace (at (given ++ replicate (c.locals - length c.header.params) value.Unset) 0)
names_given z v code c given g = names_at v (z.role code) given (replicate (c.locals - length c.header.params) value.Unset) g
