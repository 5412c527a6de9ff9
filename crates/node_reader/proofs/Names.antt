-- The names of operations: no other stands where one does.
use Rattle.std.proofs.Common.{◌≡◌, ℕ, List, [], ◌∷◌, ◌++◌, length, drop, refl, sym, ◌∙◌, ap, arith, Bool, true, false, cond, Option, Some, IfNone, Bor}
use Rattle.std.specs.Prelude.{codes, unwrap_or}
use Rattle.std.specs.List.{AllByRecursion}
use Rattle.nu_text.specs.Decimals.{starts_digit}
use Rattle.op_forms.specs.declared.op.Op.{Op}
use Rattle.op_forms.specs.Names.{op_name, ops}
use Rattle.c_reader.proofs.Names.{word, word_is, find, known, all_found}
use Rattle.c_reader.proofs.Numbers.{same_rest, mapped_none}
use Rattle.node_reader.specs.Lines.{is_letter, starts_letter, NameStands}
use Rattle.node_reader.proofs.Operands.{true≢false}

pub no_name : (text : List ℕ) (r : Option (Op × Bor (List ℕ))) → IfNone r (AllByRecursion (λ o. (rest : List ℕ) → NameStands text o rest → ⊥) ops) → IfNone r ((o : Op) (rest : List ℕ) → NameStands text o rest → ⊥)
no_name text r h =
    mapped_none r (AllByRecursion (λ o. (rest : List ℕ) → NameStands text o rest → ⊥) ops) ((o : Op) (rest : List ℕ) → NameStands text o rest → ⊥)
    (λ all o. all_found (λ o. (rest : List ℕ) → NameStands text o rest → ⊥) all (op_name o) o (known o)) h

-- a name that a letter or a digit follows
pub name_letter : (text behind : List ℕ) (o : Op) (b : Bool) → text ≡ op_name o ++ behind → b ≡ starts_letter behind → b ≡ true → (rest : List ℕ) → NameStands text o rest → ⊥
name_letter text behind o b e letter is rest s =
    true≢false (starts_letter behind) (sym letter ∙ is) (ap starts_letter (same_rest (op_name o) behind rest (sym e ∙ s.spelled)) ∙ s.letter)

pub name_digit : (text behind : List ℕ) (o : Op) (b : Bool) → text ≡ op_name o ++ behind → b ≡ starts_digit behind → b ≡ true → (rest : List ℕ) → NameStands text o rest → ⊥
name_digit text behind o b e digit is rest s =
    true≢false (starts_digit behind) (sym digit ∙ is) (ap starts_digit (same_rest (op_name o) behind rest (sym e ∙ s.spelled)) ∙ s.digit)

no_letter : (rest : List ℕ) → starts_letter rest ≡ false → word rest ≡ []
no_letter [] e = refl
no_letter (b ∷ rest) e = ap (λ q. cond q (b ∷ word rest) []) e

-- what is a word in front of a bracket is one in front of any text that begins with no letter
word_front : (name tail rest : List ℕ) → word (name ++ (40 ∷ tail)) ≡ name → word rest ≡ [] → word (name ++ rest) ≡ name
word_front [] tail rest h none = none
word_front (b ∷ name) tail rest h none = step (is_letter b) h (word_front name tail rest)
  where
    step : (q : Bool) → cond q (b ∷ word (name ++ (40 ∷ tail))) [] ≡ b ∷ name → (word (name ++ (40 ∷ tail)) ≡ name → word rest ≡ [] → word (name ++ rest) ≡ name) → cond q (b ∷ word (name ++ rest)) [] ≡ b ∷ name
    step true h more = ap (λ l. b ∷ l) (more (ap (drop 1) h) none)
    step false h more = let bad = ap length h in absurd (omega (arith, bad))

word_of : (o : Op) (rest : List ℕ) → starts_letter rest ≡ false → word (op_name o ++ rest) ≡ op_name o
word_of o rest e = word_front (op_name o) (codes "fr, ") rest (word_is o []) (no_letter rest e)

pub name_both : (o p : Op) (x y : List ℕ) → starts_letter x ≡ false → starts_letter y ≡ false → op_name o ++ x ≡ op_name p ++ y → (o ≡ p) × (x ≡ y)
name_both o p x y g h e =
    let names : op_name o ≡ op_name p = sym (word_of o x g) ∙ ap word e ∙ word_of p y h in
    let some : Some o ≡ Some p = sym (known o) ∙ ap find names ∙ known p in
    let same : o ≡ p = ap (λ s. unwrap_or s o) some in
    (same, same_rest (op_name o) x y (e ∙ ap (λ q. op_name q ++ y) (sym same)))
