-- The names of operations: no other stands where one does.
use Rattle.std.proofs.Common.{◌≡◌, ℕ, List, [], ◌∷◌, ◌++◌, drop, refl, sym, ◌∙◌, ap, subst, arith, Bool, true, false, cond, Option, Some, None, IfNone, Bor}
use Rattle.std.specs.Prelude.{codes, nat_le, ◌&&◌, unwrap_or}
use Rattle.std.specs.List.{AllByRecursion}
use Rattle.std.specs.Str.{bytes_eq}
use Rattle.op_forms.specs.declared.op.Op.{Op}
use Rattle.op_forms.specs.declared.op.Op.TheVariants as op
use Rattle.op_forms.specs.Names.{op_name, ops, op_among}
use Rattle.op_forms.proofs.Names.{found_by}
use Rattle.c_reader.specs.Statements.{NameStands}
use Rattle.c_reader.proofs.Numbers.{same_rest, mapped_none}

-- the operation that has a name
pub find : List ℕ → Option Op
find name = op_among ops name

-- each operation is found by its name
pub known : (o : Op) → find (op_name o) ≡ Some o
unfolding find
known o = found_by (op_name o) o refl

picked : (b : Bool) (o p : Op) (rest : Option Op) (P : Op → Type 0) → cond b (Some o) rest ≡ Some p → P o → (rest ≡ Some p → P p) → P p
picked true o p rest P e h more = subst P (ap (λ x. unwrap_or x o) e) h
picked false o p rest P e h more = more e

among : (table : List Op) (name : List ℕ) (o : Op) (P : Op → Type 0) → op_among table name ≡ Some o → AllByRecursion P table → P o
among [] name o P e all = absurd (none_some e)
  where
    none_some : {x : Op} → None ≡ Some x → ⊥
    none_some e = grind (arith, e)
among (p ∷ table) name o P e all = picked (bytes_eq (op_name p) name) p o (op_among table name) P e all.0 (λ rest. among table name o P rest all.1)

pub all_found : (P : Op → Type 0) → AllByRecursion P ops → (name : List ℕ) (o : Op) → find name ≡ Some o → P o
unfolding find
all_found P all name o e = among ops name o P e all

pub no_name : (text : List ℕ) (r : Option (Op × Bor (List ℕ))) → IfNone r (AllByRecursion (λ o. (rest : List ℕ) → NameStands text o rest → ⊥) ops) → IfNone r ((o : Op) (rest : List ℕ) → NameStands text o rest → ⊥)
no_name text r h =
    mapped_none r (AllByRecursion (λ o. (rest : List ℕ) → NameStands text o rest → ⊥) ops) ((o : Op) (rest : List ℕ) → NameStands text o rest → ⊥)
    (λ all o. all_found (λ o. (rest : List ℕ) → NameStands text o rest → ⊥) all (op_name o) o (known o)) h

pub no_frame : (text behind : List ℕ) (o : Op) (r : Option (Bor (List ℕ))) → text ≡ op_name o ++ behind → IfNone r ((rest : List ℕ) → behind ≡ codes "(fr, " ++ rest → ⊥) → IfNone r ((rest : List ℕ) → NameStands text o rest → ⊥)
no_frame text behind o r e h =
    mapped_none r ((rest : List ℕ) → behind ≡ codes "(fr, " ++ rest → ⊥) ((rest : List ℕ) → NameStands text o rest → ⊥)
    (λ none rest s. none rest (same_rest (op_name o) behind (codes "(fr, " ++ rest) (sym e ∙ s.spelled))) h

-- the lower-case letters at the front of a text
abbrev is_letter : ℕ → Bool
is_letter b = nat_le 97 b && nat_le b 122

abbrev pub word : List ℕ → List ℕ
word [] = []
word (b ∷ text) = cond (is_letter b) (b ∷ word text) []

pub word_is : (o : Op) (rest : List ℕ) → word (op_name o ++ (codes "(fr, " ++ rest)) ≡ op_name o
word_is op.Global rest = refl
word_is op.SetGlobal rest = refl
word_is op.DelGlobal rest = refl
word_is op.Local rest = refl
word_is op.Cell rest = refl
word_is op.CellSet rest = refl
word_is op.CellGet rest = refl
word_is op.CellDel rest = refl
word_is op.FreeGet rest = refl
word_is op.FreeDel rest = refl
word_is op.Space rest = refl
word_is op.SpaceGet rest = refl
word_is op.SpaceSet rest = refl
word_is op.SpaceDel rest = refl
word_is op.Native rest = refl
word_is op.Func rest = refl
word_is op.Class rest = refl
word_is op.Tuple rest = refl
word_is op.List rest = refl
word_is op.Dict rest = refl
word_is op.Push rest = refl
word_is op.Extend rest = refl
word_is op.Put rest = refl
word_is op.Merge rest = refl
word_is op.KeyPut rest = refl
word_is op.KeyMerge rest = refl
word_is op.Add rest = refl
word_is op.Sub rest = refl
word_is op.Mul rest = refl
word_is op.FloorDiv rest = refl
word_is op.Mod rest = refl
word_is op.Pow rest = refl
word_is op.LShift rest = refl
word_is op.RShift rest = refl
word_is op.And rest = refl
word_is op.Or rest = refl
word_is op.Xor rest = refl
word_is op.Neg rest = refl
word_is op.Pos rest = refl
word_is op.Inv rest = refl
word_is op.IAdd rest = refl
word_is op.IMul rest = refl
word_is op.Eq rest = refl
word_is op.Ne rest = refl
word_is op.Lt rest = refl
word_is op.Le rest = refl
word_is op.Gt rest = refl
word_is op.Ge rest = refl
word_is op.Is rest = refl
word_is op.IsNot rest = refl
word_is op.In rest = refl
word_is op.Not rest = refl
word_is op.Truth rest = refl
word_is op.Index rest = refl
word_is op.SetIndex rest = refl
word_is op.DelIndex rest = refl
word_is op.Slice rest = refl
word_is op.Iter rest = refl
word_is op.Next rest = refl
word_is op.Unpack rest = refl
word_is op.UnpackStar rest = refl
word_is op.Attr rest = refl
word_is op.SetAttr rest = refl
word_is op.DelAttr rest = refl
word_is op.Find rest = refl
word_is op.Manager rest = refl
word_is op.Call rest = refl
word_is op.CallX rest = refl
word_is op.Exc rest = refl
word_is op.Raise rest = refl
word_is op.Match rest = refl
word_is op.ClassOf rest = refl
word_is op.Trace rest = refl

pub name_both : (o p : Op) (x y : List ℕ) → op_name o ++ (codes "(fr, " ++ x) ≡ op_name p ++ (codes "(fr, " ++ y) → (o ≡ p) × (x ≡ y)
name_both o p x y e =
    let names : op_name o ≡ op_name p = sym (word_is o x) ∙ ap word e ∙ word_is p y in
    let some : Some o ≡ Some p = sym (known o) ∙ ap find names ∙ known p in
    let same : o ≡ p = ap (λ s. unwrap_or s o) some in
    (same, ap (drop 5) (same_rest (op_name o) (codes "(fr, " ++ x) (codes "(fr, " ++ y) (e ∙ ap (λ q. op_name q ++ (codes "(fr, " ++ y)) (sym same))))
