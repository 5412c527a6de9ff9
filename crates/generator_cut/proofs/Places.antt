-- Where C code goes on: the lines that are left, and the number of a statement.
use Rattle.std.proofs.Common.{◌≡◌, ◌≢◌, ℕ, zero, suc, ◌+◌, ◌<◌, ◌≤◌, List, [], ◌∷◌, ◌++◌, Bool, true, false, nat_eq, if◌then◌else◌, Option, Some, None, slice_get, map, option_map, refl, sym, ap, ◌∙◌, subst, arith, append_assoc}
use Rattle.std.proofs.lemmas.Bool.Decides.{nat_tests}
use Rattle.std.specs.List.{AllByRecursion}
use Rattle.flow_code.specs.declared.function.FlatFunction.{FlatFunction}
use Rattle.flow_code.specs.declared.statement.Line.{Line as FlatLine}
use Rattle.flow_code.specs.declared.statement.Line.TheVariants as flat_line
use Rattle.flow_code.specs.declared.statement.Statement.{Statement as FlatStatement}
use Rattle.flow_code.specs.declared.statement.Statement.TheVariants as flat
use Rattle.flow_code.specs.Contents.{yields}
use Rattle.flow_code.specs.Labels.{stands, LabelsNumbered}
use Rattle.flow_code.specs.Registers.{line_registers, writes, reads, RegistersDeclared}
use Rattle.flow_code.specs.Run.{find, first}
use Rattle.c_meaning.specs.declared.program.Line.{Line}
use Rattle.c_meaning.specs.declared.program.Line.TheVariants.{Label, Do}
use Rattle.c_meaning.specs.declared.program.Statement.{Statement}
use Rattle.c_meaning.specs.Code.{statements_of, goal_in, placed}
use Rattle.generator_cut.specs.Cut.{Plan, saves, loads, clears, resumption, becomes, behind, lines, counted, base_of, body_lines, body_of_kind}
use Rattle.generator_cut.specs.Plan.{IsPart}

abbrev pub c_first : List Line → Option (Statement × List Line)
c_first [] = None
c_first (Label l ∷ code) = c_first code
c_first (Do s ∷ code) = Some (s, code)

abbrev pub c_find : ℕ → List Line → List Line
c_find l [] = []
c_find l (Label k ∷ code) = if nat_eq l k then code else c_find l code
c_find l (Do s ∷ code) = c_find l code

-- the lines from statement n on
abbrev pub from : List Line → ℕ → List Line
from [] n = []
from (Label l ∷ code) n = from code n
from (Do s ∷ code) zero = Do s ∷ code
from (Do s ∷ code) (suc n) = from code n

-- the lines that are left are those from statement n on, but for labels in front
abbrev pub Stands : List Line → List Line → ℕ → Type 0
Stands code left n = from left 0 ≡ from code n

pub first_is : (left : List Line) → c_first left ≡ c_first (from left 0)
first_is [] = refl
first_is (Label l ∷ left) = first_is left
first_is (Do s ∷ left) = refl

pub first_at : (code left : List Line) (n : ℕ) → Stands code left n → c_first left ≡ c_first (from code n)
first_at code left n s = first_is left ∙ ap c_first s

pub some_is : {A : Type 0} {x y : A} → Some x ≡ Some y → x ≡ y
some_is e = cc

-- behind a statement stands the next one
pub next_at : (code : List Line) (n : ℕ) (s : Statement) (left : List Line) → Stands code (Do s ∷ left) n → Stands code left (n + 1)
next_at code n s left h =
    let e : suc n ≡ n + 1 = omega arith in
    subst (Stands code left) e (go code n (sym (first_at code (Do s ∷ left) n h)))
  where
    go : (code : List Line) (n : ℕ) → c_first (from code n) ≡ Some (s, left) → Stands code left (suc n)
    go [] n e = cc
    go (Label l ∷ code) n e = go code n e
    go (Do y ∷ code) zero e = ap (λ q. from q.1 0) (sym (some_is e))
    go (Do y ∷ code) (suc n) e = go code n e

pub same_other : (l k : ℕ) → nat_eq l k ≡ nat_eq k l
same_other l k = go (nat_eq l k) refl
  where
    go : (b : Bool) → nat_eq l k ≡ b → nat_eq l k ≡ nat_eq k l
    go true e = let s : l ≡ k = grind (arith, nat_tests, e) in subst (λ n. nat_eq l n ≡ nat_eq n l) s refl
    go false e = grind (arith, nat_tests, e)

pub not_equal : (l k : ℕ) → l ≢ k → nat_eq l k ≡ false
not_equal l k ne = go (nat_eq l k) refl
  where
    go : (b : Bool) → nat_eq l k ≡ b → nat_eq l k ≡ false
    go true e = let s : l ≡ k = grind (arith, nat_tests, e) in absurd (ne s)
    go false e = e

pub equal_self : (l : ℕ) → nat_eq l l ≡ true
equal_self l = grind (arith, nat_tests)

record Found (code : List Line) (l k n : ℕ) : Type 0 where
  number : ℕ
  is : n ≡ k + number
  stands : Stands code (c_find l code) number

label_found : (b : Bool) (code : List Line) (l k n : ℕ) (goal : Option ℕ) → (if b then Some k else goal) ≡ Some n → (goal ≡ Some n → Found code l k n) → (number : ℕ) × (n ≡ k + number) × (from (if b then code else c_find l code) 0 ≡ from code number)
label_found true code l k n goal e found = let s : k ≡ n = cc in (0, omega (arith, s), refl)
label_found false code l k n goal e found = let f = found e in (f.number, f.is, f.stands)

goal_found : (code : List Line) (l k n : ℕ) → goal_in k code l ≡ Some n → Found code l k n
goal_found [] l k n e = cc
goal_found (Label m ∷ code) l k n e =
    let f = label_found (nat_eq m l) code l k n (goal_in k code l) e (goal_found code l k n) in
    record { number = f.0; is = f.1; stands = ap (λ b. from (if b then code else c_find l code) 0) (same_other l m) ∙ f.2 }
goal_found (Do s ∷ code) l k n e =
    let f = goal_found code l (k + 1) n e in
    record { number = suc f.number; is = omega (arith, f.is); stands = f.stands }

-- a label that stands leads behind itself
pub goal_at : (code : List Line) (l n : ℕ) → goal_in 0 code l ≡ Some n → Stands code (c_find l code) n
goal_at code l n e =
    let f = goal_found code l 0 n e in
    let s : f.number ≡ n = omega (arith, f.is) in
    subst (Stands code (c_find l code)) s f.stands

no_label : (b : Bool) (code : List Line) (l k : ℕ) (goal : Option ℕ) → (if b then Some k else goal) ≡ None → (goal ≡ None → c_find l code ≡ []) → (if b then code else c_find l code) ≡ []
no_label true code l k goal e none = cc
no_label false code l k goal e none = none e

nothing_found : (code : List Line) (l k : ℕ) → goal_in k code l ≡ None → c_find l code ≡ []
nothing_found [] l k e = refl
nothing_found (Label m ∷ code) l k e =
    ap (λ b. if b then code else c_find l code) (same_other l m) ∙ no_label (nat_eq m l) code l k (goal_in k code l) e (nothing_found code l k)
nothing_found (Do s ∷ code) l k e = nothing_found code l (k + 1) e

pub no_goal : (code : List Line) (l : ℕ) → goal_in 0 code l ≡ None → c_find l code ≡ []
no_goal code l e = nothing_found code l 0 e

-- the statement of a number
pub placed_is : (body code : List Line) (n : ℕ) → slice_get (map (placed body) (statements_of code)) n ≡ option_map (λ x. placed body x.0) (c_first (from code n))
placed_is body [] n = refl
placed_is body (Label l ∷ code) n = placed_is body code n
placed_is body (Do s ∷ code) zero = refl
placed_is body (Do s ∷ code) (suc n) = placed_is body code n

-- LABELS BEHIND WHAT IS PUT IN

pub find_saves : (l n : ℕ) (rs : List ℕ) (rest : List Line) → c_find l (saves n rs rest) ≡ c_find l rest
find_saves l n [] rest = refl
find_saves l n (r ∷ rs) rest = find_saves l (n + 1) rs rest

pub find_loads : (l n : ℕ) (rs : List ℕ) (rest : List Line) → c_find l (loads n rs rest) ≡ c_find l rest
find_loads l n [] rest = refl
find_loads l n (r ∷ rs) rest = find_loads l (n + 1) rs rest

pub find_clears : (l : ℕ) (rs : List ℕ) (rest : List Line) → c_find l (clears rs rest) ≡ c_find l rest
find_clears l [] rest = refl
find_clears l (r ∷ rs) rest = find_clears l rs rest

-- a label that isn't that of the pause stands behind what a statement becomes
pub find_becomes : (base i : ℕ) (rs : List ℕ) (x : FlatStatement) (rest : List Line) (l : ℕ) → l ≢ base + i → c_find l (becomes base rs i x rest) ≡ c_find l rest
find_becomes base i rs (flat.Store to a) rest l ne = refl
find_becomes base i rs (flat.Unset to) rest l ne = refl
find_becomes base i rs (flat.Parameter to n) rest l ne = refl
find_becomes base i rs (flat.Free to n) rest l ne = refl
find_becomes base i rs (flat.Do to at o args fail) rest l ne = refl
find_becomes base i rs (flat.Goto m) rest l ne = refl
find_becomes base i rs (flat.Branch test m) rest l ne = refl
find_becomes base i rs (flat.Caught to) rest l ne = refl
find_becomes base i rs (flat.Again a m) rest l ne = refl
find_becomes base i rs (flat.Give a) rest l ne = refl
find_becomes base i rs flat.End rest l ne = refl
find_becomes base i rs flat.Fail rest l ne = refl
find_becomes base i rs (flat.Yield to at a fail) rest l ne =
    find_saves l 0 rs _ ∙ ap (λ b. if b then resumption rs to at fail rest else c_find l (resumption rs to at fail rest)) (not_equal l (base + i) ne) ∙ find_loads l 0 rs _

pub saves_some : (n : ℕ) (rs : List ℕ) (s : Statement) (rest : List Line) → c_first (saves n rs (Do s ∷ rest)) ≡ None → ⊥
saves_some n [] s rest e = cc
saves_some n (r ∷ rs) s rest e = cc

pub loads_some : (n : ℕ) (rs : List ℕ) (s : Statement) (rest : List Line) → loads n rs (Do s ∷ rest) ≡ [] → ⊥
loads_some n [] s rest e = cc
loads_some n (r ∷ rs) s rest e = cc

becomes_some : (base i : ℕ) (rs : List ℕ) (x : FlatStatement) (rest : List Line) → c_first (becomes base rs i x rest) ≡ None → ⊥
becomes_some base i rs (flat.Store to a) rest e = cc
becomes_some base i rs (flat.Unset to) rest e = cc
becomes_some base i rs (flat.Parameter to n) rest e = cc
becomes_some base i rs (flat.Free to n) rest e = cc
becomes_some base i rs (flat.Do to at o args fail) rest e = cc
becomes_some base i rs (flat.Goto m) rest e = cc
becomes_some base i rs (flat.Branch test m) rest e = cc
becomes_some base i rs (flat.Caught to) rest e = cc
becomes_some base i rs (flat.Again a m) rest e = cc
becomes_some base i rs (flat.Give a) rest e = cc
becomes_some base i rs flat.End rest e = cc
becomes_some base i rs flat.Fail rest e = cc
becomes_some base i rs (flat.Yield to at a fail) rest e = saves_some 0 rs _ _ e

-- PARTS OF A BODY

pub part_next : (body left : List FlatLine) (x : FlatStatement) (more : List FlatLine) → first left ≡ Some (x, more) → IsPart body left → IsPart body more
part_next body [] x more e p = cc
part_next body (flat_line.Label l ∷ left) x more e p = part_next body left x more e (record { front = p.front ++ (flat_line.Label l ∷ []); is = p.is ∙ sym (append_assoc p.front (flat_line.Label l ∷ []) left) })
part_next body (flat_line.Do y ∷ left) x more e p =
    subst (IsPart body) (ap (λ q. q.1) (some_is e)) (record { front = p.front ++ (flat_line.Do y ∷ []); is = p.is ∙ sym (append_assoc p.front (flat_line.Do y ∷ []) left) })

choose_part : (body : List FlatLine) (b : Bool) (xs ys : List FlatLine) → IsPart body xs → IsPart body ys → IsPart body (if b then xs else ys)
choose_part body true xs ys p q = p
choose_part body false xs ys p q = q

pub part_find : (body left : List FlatLine) (l : ℕ) → IsPart body left → IsPart body (find l left)
part_find body [] l p = p
part_find body (flat_line.Label k ∷ left) l p =
    let q : IsPart body left = record { front = p.front ++ (flat_line.Label k ∷ []); is = p.is ∙ sym (append_assoc p.front (flat_line.Label k ∷ []) left) } in
    choose_part body (nat_eq l k) left (find l left) q (part_find body left l q)
part_find body (flat_line.Do y ∷ left) l p =
    part_find body left l (record { front = p.front ++ (flat_line.Do y ∷ []); is = p.is ∙ sym (append_assoc p.front (flat_line.Do y ∷ []) left) })

pub part_whole : (body : List FlatLine) → IsPart body body
part_whole body = record { front = []; is = refl }

pub all_front : {A : Type 0} (P : A → Type 0) (xs ys : List A) → AllByRecursion P (xs ++ ys) → AllByRecursion P xs
all_front P [] ys h = tt
all_front P (x ∷ xs) ys h = (h.0, all_front P xs ys h.1)

pub all_back : {A : Type 0} (P : A → Type 0) (xs ys : List A) → AllByRecursion P (xs ++ ys) → AllByRecursion P ys
all_back P [] ys h = h
all_back P (x ∷ xs) ys h = all_back P xs ys h.1

declared_behind : (n : ℕ) (front left : List FlatLine) → RegistersDeclared n (front ++ left) → RegistersDeclared n left
declared_behind n [] left h = h
declared_behind n (x ∷ front) left h = declared_behind n front left (all_back _ (line_registers x) _ h)

declared_first : (n : ℕ) (left : List FlatLine) (x : FlatStatement) (more : List FlatLine) → first left ≡ Some (x, more) → RegistersDeclared n left → AllByRecursion (λ r. r < n) (writes x ++ reads x)
declared_first n [] x more e h = cc
declared_first n (flat_line.Label l ∷ left) x more e h = declared_first n left x more e h
declared_first n (flat_line.Do y ∷ left) x more e h = subst (λ q. AllByRecursion (λ r. r < n) (writes q.0 ++ reads q.0)) (some_is e) (all_front _ (writes y ++ reads y) _ h)

pub written_at : (n : ℕ) (body left : List FlatLine) (x : FlatStatement) (more : List FlatLine) → first left ≡ Some (x, more) → IsPart body left → RegistersDeclared n body → AllByRecursion (λ r. r < n) (writes x)
written_at n body left x more e p h =
    all_front _ (writes x) (reads x) (declared_first n left x more e (declared_behind n p.front left (subst (RegistersDeclared n) p.is h)))

pub read_at : (n : ℕ) (body left : List FlatLine) (x : FlatStatement) (more : List FlatLine) → first left ≡ Some (x, more) → IsPart body left → RegistersDeclared n body → AllByRecursion (λ r. r < n) (reads x)
read_at n body left x more e p h =
    all_back _ (writes x) (reads x) (declared_first n left x more e (declared_behind n p.front left (subst (RegistersDeclared n) p.is h)))

-- each label is below a number
abbrev pub Low : ℕ → List FlatLine → Type 0
Low n [] = Unit {0}
Low n (flat_line.Label k ∷ left) = (k < n) × Low n left
Low n (flat_line.Do x ∷ left) = Low n left

self_stands : (k : ℕ) (left : List FlatLine) → 0 < stands k (flat_line.Label k ∷ left)
self_stands k left = go (nat_eq k k) (equal_self k)
  where
    go : (b : Bool) → b ≡ true → 0 < (if b then 1 else 0) + stands k left
    go true e = omega arith
    go false e = cc

more_stands : (b : Bool) (n : ℕ) → 0 < n → 0 < (if b then 1 else 0) + n
more_stands true n h = omega arith
more_stands false n h = omega (arith, h)

pub low : (n : ℕ) (left : List FlatLine) → LabelsNumbered n left → Low n left
low n [] h = tt
low n (flat_line.Label k ∷ left) h = (h k (self_stands k left), low n left (λ l s. h l (more_stands (nat_eq l k) (stands l left) s)))
low n (flat_line.Do x ∷ left) h = low n left h

-- a label past the number isn't found
choose_none : {A : Type 0} (b : Bool) (xs ys : List A) → b ≡ false → ys ≡ [] → (if b then xs else ys) ≡ []
choose_none b xs ys e f = ap (λ b. if b then xs else ys) e ∙ f

pub unfound : (n l : ℕ) (left : List FlatLine) → Low n left → n ≤ l → find l left ≡ []
unfound n l [] h le = refl
unfound n l (flat_line.Label k ∷ left) h le = choose_none (nat_eq l k) left (find l left) (not_equal l k (λ e. omega (arith, e, h.0, le))) (unfound n l left h.1 le)
unfound n l (flat_line.Do x ∷ left) h le = unfound n l left h le

-- PAUSES

module _ (code : List Line) (base total : ℕ) (saved : FlatStatement → List FlatLine → List ℕ) where
  -- the label of a pause leads to what stands behind it
  abbrev pub Paused : ℕ → FlatStatement → List FlatLine → Type 0
  Paused i (flat.Yield to at a fail) left =
      (c_find (base + i) code ≡ resumption (saved (flat.Yield to at a fail) left) to at fail (lines base saved (i + 1) left)) × (i < total)
  Paused i other left = Unit {0}

  abbrev pub Placed : ℕ → List FlatLine → Type 0
  Placed i [] = Unit {0}
  Placed i (flat_line.Label l ∷ left) = Placed i left
  Placed i (flat_line.Do x ∷ left) = Paused i x left × Placed (behind i x) left

  pub placed_first : (i : ℕ) (left : List FlatLine) (x : FlatStatement) (more : List FlatLine) → first left ≡ Some (x, more) → Placed i left → Paused i x more × Placed (behind i x) more
  placed_first i [] x more e p = cc
  placed_first i (flat_line.Label l ∷ left) x more e p = placed_first i left x more e p
  placed_first i (flat_line.Do y ∷ left) x more e p = subst (λ q. Paused i q.0 q.1 × Placed (behind i q.0) q.1) (some_is e) p

  pub front : (i : ℕ) (left : List FlatLine) (x : FlatStatement) (more : List FlatLine) → first left ≡ Some (x, more) → from (lines base saved i left) 0 ≡ from (becomes base (saved x more) i x (lines base saved (behind i x) more)) 0
  front i [] x more e = cc
  front i (flat_line.Label l ∷ left) x more e = front i left x more e
  front i (flat_line.Do y ∷ left) x more e = ap (λ q. from (becomes base (saved q.0 q.1) i q.0 (lines base saved (behind i q.0) q.1)) 0) (some_is e)

  pub first_none : (i : ℕ) (left : List FlatLine) → c_first (lines base saved i left) ≡ None → first left ≡ None
  first_none i [] e = refl
  first_none i (flat_line.Label l ∷ left) e = first_none i left e
  first_none i (flat_line.Do x ∷ left) e = absurd (becomes_some base i (saved x left) x _ e)

  pub record Jumped (i : ℕ) (left : List FlatLine) (l : ℕ) : Type 0 where
    pub pause : ℕ
    pub is : c_find l (lines base saved i left) ≡ lines base saved pause (find l left)
    pub placed : Placed pause (find l left)

  choose_jumped : (b : Bool) (i : ℕ) (left : List FlatLine) (l : ℕ) → Placed i left → Jumped i left l → (pause : ℕ) × ((if b then lines base saved i left else c_find l (lines base saved i left)) ≡ lines base saved pause (if b then left else find l left)) × Placed pause (if b then left else find l left)
  choose_jumped true i left l p j = (i, refl, p)
  choose_jumped false i left l p j = (j.pause, j.is, j.placed)

  -- a label of the flat code leads to the same lines
  pub jumped : (i : ℕ) (left : List FlatLine) (l : ℕ) → l < base → Placed i left → Jumped i left l
  jumped i [] l h p = record { pause = i; is = refl; placed = tt }
  jumped i (flat_line.Label k ∷ left) l h p =
      let c = choose_jumped (nat_eq l k) i left l p (jumped i left l h p) in
      record { pause = c.0; is = c.1; placed = c.2 }
  jumped i (flat_line.Do x ∷ left) l h p =
      let j = jumped (behind i x) left l h p.1 in
      record { pause = j.pause; is = find_becomes base i (saved x left) x _ l (λ e. omega (arith, e, h)) ∙ j.is; placed = j.placed }

  abbrev Later : ℕ → List FlatLine → Type 0
  Later i left = (l : ℕ) → base + i ≤ l → c_find l code ≡ c_find l (lines base saved i left)

  -- what holds in front of a statement holds behind it
  placing_do : (i : ℕ) (x : FlatStatement) (left : List FlatLine) → Later i (flat_line.Do x ∷ left) → i + yields (flat_line.Do x ∷ left) ≤ total → Paused i x left × Later (behind i x) left × (behind i x + yields left ≤ total)
  placing_do i (flat.Store to a) left h le = (tt, h, omega (arith, le))
  placing_do i (flat.Unset to) left h le = (tt, h, omega (arith, le))
  placing_do i (flat.Parameter to n) left h le = (tt, h, omega (arith, le))
  placing_do i (flat.Free to n) left h le = (tt, h, omega (arith, le))
  placing_do i (flat.Do to at o args fail) left h le = (tt, h, omega (arith, le))
  placing_do i (flat.Goto l) left h le = (tt, h, omega (arith, le))
  placing_do i (flat.Branch test l) left h le = (tt, h, omega (arith, le))
  placing_do i (flat.Caught to) left h le = (tt, h, omega (arith, le))
  placing_do i (flat.Again a l) left h le = (tt, h, omega (arith, le))
  placing_do i (flat.Give a) left h le = (tt, h, omega (arith, le))
  placing_do i flat.End left h le = (tt, h, omega (arith, le))
  placing_do i flat.Fail left h le = (tt, h, omega (arith, le))
  placing_do i (flat.Yield to at a fail) left h le =
      let rs = saved (flat.Yield to at a fail) left in
      let r = resumption rs to at fail (lines base saved (i + 1) left) in (
        (h (base + i) (omega arith) ∙ find_saves (base + i) 0 rs _ ∙ ap (λ b. if b then r else c_find (base + i) r) (equal_self (base + i)), omega (arith, le)),
        (λ l k. h l (omega (arith, k)) ∙ find_becomes base i rs (flat.Yield to at a fail) (lines base saved (i + 1) left) l (λ e. omega (arith, e, k))),
        omega (arith, le),
      )

  pub placing : (i : ℕ) (left : List FlatLine) → Low base left → Later i left → i + yields left ≤ total → Placed i left
  placing i [] low h le = tt
  placing i (flat_line.Label k ∷ left) low h le =
      placing i left low.1 (λ l m. h l m ∙ ap (λ b. if b then lines base saved i left else c_find l (lines base saved i left)) (not_equal l k (λ e. omega (arith, e, m, low.0)))) le
  placing i (flat_line.Do x ∷ left) low h le =
      let d = placing_do i x left h le in
      (d.0, placing (behind i x) left low d.1 d.2)

-- a label that isn't that of the beginning is found in a function's body as in its lines
pub body_find : (b : Bool) (p : Plan) (f : FlatFunction) (l : ℕ) → l ≢ f.labels → c_find l (body_of_kind b p f) ≡ c_find l (body_lines p f)
body_find true p f l ne = ap (λ b. if b then clears p.cleared (body_lines p f) else c_find l (clears p.cleared (body_lines p f))) (not_equal l f.labels ne) ∙ find_clears l p.cleared (body_lines p f)
body_find false p f l ne = refl

pub low_more : (n m : ℕ) (left : List FlatLine) → n ≤ m → Low n left → Low m left
low_more n m [] le h = tt
low_more n m (flat_line.Label k ∷ left) le h = (omega (arith, h.0, le), low_more n m left le h.1)
low_more n m (flat_line.Do x ∷ left) le h = low_more n m left le h

pub body_placed : (p : Plan) (f : FlatFunction) → LabelsNumbered f.labels f.body → Placed (body_of_kind f.header.generator p f) (base_of f) (yields f.body) p.saved 0 f.body
body_placed p f h =
    placing (body_of_kind f.header.generator p f) (base_of f) (yields f.body) p.saved 0 f.body (low_more f.labels (base_of f) f.body (omega arith) (low f.labels f.body h))
    (λ l le. body_find f.header.generator p f l (λ e. omega (arith, e, le))) (omega arith)

-- the label of a pause among those of the switch
pub counted_at : (k n i : ℕ) → i < k → slice_get (counted k n) i ≡ Some (n + i)
counted_at zero n i h = absurd (omega (arith, h))
counted_at (suc k) n zero h = let e : n ≡ n + 0 = omega arith in ap Some e
counted_at (suc k) n (suc i) h = let e : n + 1 + i ≡ n + suc i = omega arith in counted_at k (n + 1) i (omega (arith, h)) ∙ ap Some e
