-- Rows that go right: from every lawful state, and from every place at which they paused, they end or pause in a lawful state, and not
-- Undefined.
use Rattle.std.proofs.Common.{◌≡◌, ℕ, ◌<◌, ◌≤◌, List, [], ◌∷◌, Option, Some, None, false, length}
use Rattle.std.specs.Prelude.{IsTrue, slice_get}
use Rattle.nu_value.specs.declared.object.GenState.TheVariants as gen
use Rattle.nu_value.specs.declared.object.Object.{Object}
use Rattle.nu_value.specs.declared.object.Object.TheVariants as object
use Rattle.nu_value.specs.declared.value.Value.{Value}
use Rattle.nu_value.specs.declared.value.Value.TheVariants as value
use Rattle.op_forms.specs.Sound.{AreCells}
use Rattle.nu_rows.specs.Rows.{End, Next, Leave, Raised, Return, Stopped, Undefined, Step, How, Send, Throw, Begin, Back, Res, Spent, Paused, Ended, Part, does}
use Rattle.nu_calls.specs.Calls.{State, Pause}
use Rattle.op_forms.specs.Rules.{Rules}
use Rattle.nu_calls.specs.Surroundings.{kept_at}
use Rattle.py_meaning.specs.Syntax as syntax
use Rattle.py_meaning.specs.Frames.{Frame, Item, OfCode, R as Rw, L, at}
use Rattle.py_meaning.specs.Bodies.{language, item_row}
use Rattle.py_safe.specs.Rosters.{Role, Roster, roster_of}
use Rattle.py_safe.specs.Heaps.{Mark, Open, View, view, ASpace, Grows, AllOpen, IsThere, IsThrown}
use Rattle.py_safe.specs.Rules.{IsOf, WorldLaw, KeepsLaw}
use Rattle.py_safe.specs.Constructs.{Room, room_of, LawfulCodes}

abbrev pub S : Type 0
S = State Frame

abbrev pub heap_of : S → List Object
heap_of s = s.around.world.heap

-- a program of lawful codes, under rules that keep law
pub record Program : Type 0 where
  pub rules : Rules
  pub law : KeepsLaw rules
  pub role : ℕ → Role
  pub scripts : ℕ
  pub codes : List syntax.Code
  pub lawful : LawfulCodes role scripts codes

abbrev pub roster : Program → Roster
roster z = roster_of z.role z.codes

abbrev pub source : Program → L
source z = language z.rules z.scripts z.codes

abbrev pub rows : Program → Item → Rw
rows z = item_row (source z) z.codes

-- the objects of a state, with their marks
abbrev pub seen : (ℕ → Mark) → S → View
seen marks s = view (heap_of s) marks

-- before any object is
abbrev pub nothing : View
nothing = view [] (λ n. Open)

-- ---- frames

-- a value is Unset, or there
abbrev pub MayBeThere : View → Value → Type 0
MayBeThere v value.Unset = Unit {0}
MayBeThere v x = IsThere v x

abbrev pub AllMaybe : View → List Value → Type 0
AllMaybe v [] = Unit {0}
AllMaybe v (x ∷ xs) = MayBeThere v x × AllMaybe v xs

pub record FrameLaw (r : Room) (v : View) (f : Frame) : Type 0 where
  pub locals : AllMaybe v f.locals
  pub count : length f.locals ≡ r.locals
  pub bound : (place : ℕ) → place < r.bound → IsThere v (at f.locals place)
  pub names : IsTrue r.names → IsOf v.heap ASpace (at f.locals 0)
  pub owns : AreCells v.heap f.owns × AllOpen v.marks f.owns
  pub made : length f.owns ≡ r.owns
  pub frees : AreCells v.heap f.frees × AllOpen v.marks f.frees
  pub given : length f.frees ≡ r.frees
  pub carried : IsThere v f.carried

-- ---- places

-- at which places a row may have paused, with these objects then
abbrev pub Table : Type 1
Table = List Step → View → Type 0

-- and the bodies of codes
abbrev pub Tables : Type 1
Tables = ℕ → Table

abbrev pub nowhere : Table
nowhere p v = ⊥

-- the room of a code's frame, once its cells are made
abbrev pub room_in : Role → Option syntax.Code → Room
room_in role (Some code) = room_of role code
room_in role None = record { locals = 0; bound = 0; owns = 0; frees = 0; names = false; handler = false; yields = false }

abbrev pub room_at : Program → ℕ → Room
room_at z code = room_in (z.role code) (slice_get z.codes code)

-- what a paused generator keeps: a lawful frame of its code, and a place at which that paused with the objects of some time
pub record IsKept (z : Program) (tabs : Tables) (v : View) (code : ℕ) (k : Option (Pause Frame)) : Type 0 where
  pub pause : Pause Frame
  pub is : k ≡ Some pause
  pub same : pause.code ≡ code
  pub frame : FrameLaw (room_at z code) v pause.frame
  pub then : View
  pub since : Grows then v
  pub place : tabs code pause.place then

-- ---- states

-- each generator that is paused keeps what it goes on with
abbrev pub AllKept : Program → Tables → (ℕ → Mark) → S → Type 0
AllKept z tabs marks s =
    (n code : ℕ) (given cells : List Value) → slice_get (heap_of s) n ≡ Some (object.Generator code gen.Paused given cells) → IsKept z tabs (seen marks s) code (kept_at s.around.kept n)

pub record Lawful (z : Program) (tabs : Tables) (r : Room) (marks : ℕ → Mark) (s : S) : Type 0 where
  pub world : WorldLaw (roster z) s.around.world marks
  pub since : Grows (view (z.rules.start (roster z).headers).heap (λ n. Open)) (seen marks s)
  pub frame : FrameLaw r (seen marks s) s.frame
  pub kept : AllKept z tabs marks s

-- what is known of a value in a view
abbrev pub Kind : Type 1
Kind = View → Value → Type 0

-- what a construct ends with: it leaves fewer than so many loops
abbrev pub EndIs : ℕ → Kind → View → End → Type 0
EndIs n K v (Next x) = K v x
EndIs n K v (Leave i) = i < n
EndIs n K v (Raised x) = IsThrown v x
EndIs n K v (Return x) = IsThere v x
EndIs n K v (Stopped kind) = Unit {0}
EndIs n K v Undefined = ⊥

abbrev pub HowIs : View → How → Type 0
HowIs v (Send x) = IsThere v x
HowIs v (Throw x) = IsThrown v x

module _ (z : Program) (tabs : Tables) (r : Room) where
  pub record Goes (n : ℕ) (K : Kind) (v : View) (e : End) (s : S) : Type 0 where
    pub marks : ℕ → Mark
    pub lawful : Lawful z tabs r marks s
    pub grows : Grows v (seen marks s)
    pub end : EndIs n K (seen marks s) e

  -- only codes of generators pause
  pub record Pauses (T : Table) (v : View) (s : S) (x : Value) (p : List Step) : Type 0 where
    pub yields : IsTrue r.yields
    pub marks : ℕ → Mark
    pub lawful : Lawful z tabs r marks s
    pub grows : Grows v (seen marks s)
    pub value : IsThere (seen marks s) x
    pub place : T p (seen marks s)

  abbrev pub Met : ℕ → Kind → Table → View → Res S → Type 0
  Met n K T v (Spent o) = Unit {0}
  Met n K T v (Paused o s x p) = Pauses T v s x p
  Met n K T v (Ended o s e) = Goes n K v e s

-- a row goes right within each bound up to M, from the view v on: from a frame with room r to one with room R, and from the places of a
-- table. What it ends with grew from where it started
pub record Right (z : Program) (tabs : Tables) (M : ℕ) (r R : Room) (n : ℕ) (K : Kind) (T : Table) (v : View) (row : Rw) : Type 0 where
  pub begins : (marks : ℕ → Mark) (s : S) → Lawful z tabs r marks s → Grows v (seen marks s) → (m : ℕ) → m ≤ M → Met z tabs R n K T (seen marks s) (does (rows z) row Begin s m)
  pub goes_on : (p : List Step) (u : View) → T p u → Grows v u → (how : How) (marks : ℕ → Mark) (s : S) → Lawful z tabs R marks s → Grows u (seen marks s) → HowIs (seen marks s) how → (m : ℕ) → m ≤ M → Met z tabs R n K T (seen marks s) (does (rows z) row (Back p how) s m)

-- ---- bodies

-- what a body ends with is of no account, unless it is returned
abbrev pub Anything : Kind
Anything v x = Unit {0}

module _ (z : Program) (tabs : Tables) where
  -- a body is over: its frame is of no account
  pub record Finished (v : View) (e : End) (s : S) : Type 0 where
    pub marks : ℕ → Mark
    pub world : WorldLaw (roster z) s.around.world marks
    pub since : Grows (view (z.rules.start (roster z).headers).heap (λ n. Open)) (seen marks s)
    pub kept : AllKept z tabs marks s
    pub grows : Grows v (seen marks s)
    pub end : EndIs 0 Anything (seen marks s) e

  abbrev pub Done : Room → Table → View → Res S → Type 0
  Done R T v (Spent o) = Unit {0}
  Done R T v (Paused o s x p) = Pauses z tabs R T v s x p
  Done R T v (Ended o s e) = Finished v e s

-- a body goes right within each bound up to M, from the view v on: from a frame with room r, and from the places of a table with room R
pub record Body (z : Program) (tabs : Tables) (M : ℕ) (r R : Room) (T : Table) (v : View) (row : Rw) : Type 0 where
  pub begins : (marks : ℕ → Mark) (s : S) → Lawful z tabs r marks s → Grows v (seen marks s) → (m : ℕ) → m ≤ M → Done z tabs R T (seen marks s) (does (rows z) row Begin s m)
  pub goes_on : (p : List Step) (u : View) → T p u → Grows v u → (how : How) (marks : ℕ → Mark) (s : S) → Lawful z tabs R marks s → Grows u (seen marks s) → HowIs (seen marks s) how → (m : ℕ) → m ≤ M → Done z tabs R T (seen marks s) (does (rows z) row (Back p how) s m)

-- as each body of a code begins: it has its parameters, and no cells of its own yet
abbrev pub begun_room : ℕ → Room → Room
begun_room params r = record r { bound = params; owns = 0 }

abbrev pub params_in : Option syntax.Code → ℕ
params_in (Some code) = length code.header.params
params_in None = 0

abbrev pub begun_at : Program → ℕ → Room
begun_at z code = begun_room (params_in (slice_get z.codes code)) (room_at z code)

-- the bodies of the codes go right within each bound up to M
pub record Agree (z : Program) (tabs : Tables) (M : ℕ) : Type 0 where
  pub bodies : (code : ℕ) (c : syntax.Code) → slice_get z.codes code ≡ Some c → Body z tabs M (begun_at z code) (room_at z code) (tabs code) nothing (Part (OfCode code))

-- a row goes right, by some table of places, whatever the other codes, within each bound within which these do
pub record RightBy (z : Program) (r R : Room) (n : ℕ) (K : Kind) (v : View) (row : Rw) : Type 1 where
  pub table : Table
  pub right : (tabs : Tables) (M : ℕ) → Agree z tabs M → Right z tabs M r R n K table v row

-- so does a body
pub record BodyBy (z : Program) (r R : Room) (v : View) (row : Rw) : Type 1 where
  pub table : Table
  pub body : (tabs : Tables) (M : ℕ) → Agree z tabs M → Body z tabs M r R table v row
