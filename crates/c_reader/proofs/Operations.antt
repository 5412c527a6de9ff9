-- Operations: their names, their arguments, and that no other operation stands where one does.
use Rattle.std.proofs.Common.{◌≡◌, ℕ, ◌≤◌, ◌^◌, List, [], ◌∷◌, ◌++◌, get_or, drop, refl, sym, ◌∙◌, ap, append_assoc, arith, decimal, true, false}
use Rattle.std.specs.Prelude.{codes}
use Rattle.std.specs.List.{AllByRecursion, flat_map}
use Rattle.nu_text.specs.Pieces.{before}
use Rattle.nu_text.specs.Decimals.{starts_digit}
use Rattle.nu_text.proofs.Pieces.{before_is}
use Rattle.nu_text.proofs.Decimals.{decimal_both}
use Rattle.op_forms.specs.declared.op.Op.{Op}
use Rattle.op_forms.specs.Names.{op_name}
use Rattle.code_forms.specs.declared.operand.Argument.{Argument}
use Rattle.code_forms.specs.declared.operand.Argument.TheVariants as argument
use Rattle.c_meaning.specs.declared.program.Stored.TheVariants as stored
use Rattle.c_meaning.specs.Text.{argument_pieces, argument_text, fail_piece}
use Rattle.op_forms.specs.Signature.{arguments, further}
use Rattle.code_forms.specs.Taking.{all_taken}
use Rattle.c_meaning.specs.Written.{IsArgument}
use Rattle.c_reader.specs.Pieces.{BareStands, FieldStands}
use Rattle.c_reader.specs.Statements.{IsNotFront, ArgumentStands, ArgumentsStand, NameStands, HeadStands, StoredStands}
use Rattle.c_reader.proofs.Names.{name_both}
use Rattle.c_reader.proofs.Numbers.{wide, field_both}
use Rattle.c_reader.proofs.Operands.{argument_both, argument_ends_all}
use Rattle.c_reader.proofs.Sequences.{flat_is, none_left, lists_both}

-- an operation's line behind its name
pub head_line : (text behind after : List ℕ) (o p : Op) (at : ℕ) (rest : List ℕ) → text ≡ codes "nu_" ++ behind → NameStands behind o after → HeadStands text p at rest → BareStands (2 ^ 32) after at rest
head_line text behind after o p at rest e s h = record {
  fits = h.line;
  spelled = (name_both o p after (decimal at ++ rest) (sym s.spelled ∙ ap (drop 3) (sym e ∙ h.spelled))).1;
  ends = h.ends;
}

pub head_both : (text : List ℕ) (o p : Op) (m n : ℕ) (x y : List ℕ) → HeadStands text o m x → HeadStands text p n y → (o ≡ p) × (m ≡ n) × (x ≡ y)
head_both text o p m n x y s t =
    let name = name_both o p (decimal m ++ x) (decimal n ++ y) (ap (drop 3) (sym s.spelled ∙ t.spelled)) in
    let one = s.line in
    let two = t.line in
    let line = decimal_both m n x y (wide m (omega (arith, one))) (wide n (omega (arith, two))) s.ends t.ends name.1 in
    (name.0, line.0, line.1)

-- arguments, of which none is left
same_arguments : (registers n : ℕ) → registers ≤ 2 ^ 64 → (a b : Argument) (x y : List ℕ) → IsArgument registers a → IsArgument registers b → starts_digit x ≡ false → starts_digit y ≡ false → argument_text a ++ x ≡ argument_text b ++ y → (a ≡ b) × (x ≡ y)
same_arguments registers n small a b x y p q g h e =
    argument_both registers a b x y small p q (argument_ends_all a x g) (argument_ends_all b y h) (sym (before_is (argument_pieces a) x) ∙ e ∙ before_is (argument_pieces b) y)

comma_first : (a : Argument) (x : List ℕ) → (y : List ℕ) × (argument_text a ++ x ≡ codes ", " ++ y)
comma_first a x = (drop 2 (before (argument_pieces a) x), before_is (argument_pieces a) x ∙ go a)
  where
    go : (a : Argument) → before (argument_pieces a) x ≡ codes ", " ++ drop 2 (before (argument_pieces a) x)
    go (argument.Value a) = refl
    go (argument.Name name) = refl

no_digit_first : (a : Argument) (x : List ℕ) → starts_digit (argument_text a ++ x) ≡ false
no_digit_first a x = let c = comma_first a x in ap starts_digit c.1

comma_apart : (a : Argument) (x y : List ℕ) → IsNotFront (codes ", ") y → argument_text a ++ x ≡ y → ⊥
comma_apart a x y none e = let c = comma_first a x in none c.0 (sym e ∙ c.1)

pub arguments_both : (registers : ℕ) (text : List ℕ) (given other : List Argument) (x y : List ℕ) → registers ≤ 2 ^ 64 → ArgumentsStand registers text given x → ArgumentsStand registers text other y → (given ≡ other) × (x ≡ y)
arguments_both registers text given other x y small s t =
    lists_both (λ _. argument_text) (IsArgument registers) (λ l. starts_digit l ≡ false) (IsNotFront (codes ", ")) (λ n. same_arguments registers n small) (λ n a z _. no_digit_first a z) (λ n a z w _. comma_apart a z w) 0 given other x y s.each t.each s.ends t.ends s.all t.all
    (ap (λ l. l ++ x) (sym (flat_is argument_text 0 given)) ∙ sym s.spelled ∙ t.spelled ∙ ap (λ l. l ++ y) (flat_is argument_text 0 other))

pub no_argument : (registers : ℕ) (text left behind : List ℕ) (read : List Argument) → registers ≤ 2 ^ 64 → text ≡ flat_map argument_text read ++ left → AllByRecursion (IsArgument registers) read → starts_digit left ≡ false → left ≡ codes ", " ++ behind
    → ((a : Argument) (rest : List ℕ) → ArgumentStands registers (codes ", " ++ behind) a rest → ⊥) → (given : List Argument) (rest : List ℕ) → ArgumentsStand registers text given rest → ⊥
no_argument registers text left behind read small e each ends comma none given rest s =
    none_left (λ _. argument_text) (IsArgument registers) (λ l. starts_digit l ≡ false) (IsNotFront (codes ", ")) (λ n. same_arguments registers n small) (λ n a z _. no_digit_first a z) (λ n a z w _. comma_apart a z w) 0 read given left rest each s.each ends s.ends s.all
    (ap (λ l. l ++ left) (sym (flat_is argument_text 0 read)) ∙ sym e ∙ s.spelled ∙ ap (λ l. l ++ rest) (flat_is argument_text 0 given))
    (λ last. s.all behind (sym last ∙ comma)) (λ k a x _ is end stand. none a x (record { is = is; spelled = sym comma ∙ stand ∙ before_is (argument_pieces a) x; ends = end }))

-- an operation's parts
true≢false : true ≡ false → ⊥
true≢false e = grind (arith, e)

given_ends : (given : List Argument) (rest : List ℕ) → starts_digit rest ≡ false → starts_digit (flat_map argument_text given ++ rest) ≡ false
given_ends [] rest e = e
given_ends (a ∷ given) rest e = ap starts_digit (append_assoc (argument_text a) (flat_map argument_text given) rest) ∙ no_digit_first a (flat_map argument_text given ++ rest)

abbrev pub behind_given : ℕ → List ℕ → List ℕ
behind_given fail rest = before (fail_piece ∷ decimal fail ∷ codes ";\n" ∷ []) rest

pub operation_head : (registers : ℕ) (text : List ℕ) (o : Op) (at : ℕ) (given : List Argument) (fail : ℕ) (rest : List ℕ) → StoredStands registers text (stored.Operation o at given fail) rest → HeadStands text o at (flat_map argument_text given ++ behind_given fail rest)
operation_head registers text o at given fail rest s = record { line = s.is.line; spelled = s.spelled; ends = given_ends given (behind_given fail rest) refl }

no_comma : (fail : ℕ) (rest : List ℕ) → IsNotFront (codes ", ") (behind_given fail rest)
no_comma fail rest other e = let bad : 41 ≡ 44 = ap (λ l. get_or l 0 0) e in omega (arith, bad)

pub operation_given : (registers : ℕ) (text behind : List ℕ) (o p : Op) (m at : ℕ) (given : List Argument) (fail : ℕ) (rest : List ℕ) → HeadStands text p m behind → StoredStands registers text (stored.Operation o at given fail) rest
    → ArgumentsStand registers behind given (behind_given fail rest)
operation_given registers text behind o p m at given fail rest h s = record {
  each = s.is.each;
  spelled = (head_both text p o m at behind (flat_map argument_text given ++ behind_given fail rest) h (operation_head registers text o at given fail rest s)).2;
  ends = refl;
  all = no_comma fail rest;
}

pub operation_fail : (registers : ℕ) (text behind after : List ℕ) (o p : Op) (m at : ℕ) (read given : List Argument) (fail : ℕ) (rest : List ℕ) → registers ≤ 2 ^ 64 → HeadStands text p m behind → ArgumentsStand registers behind read after
    → StoredStands registers text (stored.Operation o at given fail) rest → FieldStands (2 ^ 64) fail_piece (codes ";\n") after fail rest
operation_fail registers text behind after o p m at read given fail rest small h g s = record {
  fits = s.is.label;
  spelled = (arguments_both registers behind read given after (behind_given fail rest) small g (operation_given registers text behind o p m at given fail rest h s)).1;
}

pub operation_same : (registers : ℕ) (text behind after : List ℕ) (o p : Op) (m at : ℕ) (read given : List Argument) (fail : ℕ) (rest : List ℕ) → registers ≤ 2 ^ 64 → HeadStands text p m behind → ArgumentsStand registers behind read after
    → StoredStands registers text (stored.Operation o at given fail) rest → (p ≡ o) × (read ≡ given)
operation_same registers text behind after o p m at read given fail rest small h g s = (
  (head_both text p o m at behind (flat_map argument_text given ++ behind_given fail rest) h (operation_head registers text o at given fail rest s)).0,
  (arguments_both registers behind read given after (behind_given fail rest) small g (operation_given registers text behind o p m at given fail rest h s)).0,
)

-- an operation that doesn't take its arguments
pub not_taken : (registers : ℕ) (text behind after : List ℕ) (p : Op) (m : ℕ) (read : List Argument) → registers ≤ 2 ^ 64 → HeadStands text p m behind → ArgumentsStand registers behind read after → all_taken (arguments p) (further p) read ≡ false
    → (o : Op) (at : ℕ) (given : List Argument) (fail : ℕ) (rest : List ℕ) → StoredStands registers text (stored.Operation o at given fail) rest → ⊥
not_taken registers text behind after p m read small h g e o at given fail rest s =
    let same = operation_same registers text behind after o p m at read given fail rest small h g s in
    let taken : all_taken (arguments p) (further p) read ≡ true = ap (λ q. all_taken (arguments q) (further q) read) same.0 ∙ ap (all_taken (arguments o) (further o)) same.1 ∙ s.is.taken in
    true≢false (sym taken ∙ e)

pub operation_of : (registers : ℕ) (text behind after : List ℕ) (o : Op) (at : ℕ) (given : List Argument) (fail : ℕ) (rest : List ℕ) → HeadStands text o at behind → ArgumentsStand registers behind given after → FieldStands (2 ^ 64) fail_piece (codes ";\n") after fail rest
    → all_taken (arguments o) (further o) given ≡ true → StoredStands registers text (stored.Operation o at given fail) rest
operation_of registers text behind after o at given fail rest h g f taken = record {
  is = record { line = h.line; each = g.each; taken = taken; label = f.fits };
  spelled = h.spelled ∙ ap (before (codes "nu_" ∷ op_name o ∷ codes "(fr, " ∷ decimal at ∷ [])) (g.spelled ∙ ap (λ l. flat_map argument_text given ++ l) f.spelled);
}

pub operation_both : (registers : ℕ) (text : List ℕ) (o p : Op) (m n : ℕ) (given other : List Argument) (k l : ℕ) (x y : List ℕ) → registers ≤ 2 ^ 64 → StoredStands registers text (stored.Operation o m given k) x → StoredStands registers text (stored.Operation p n other l) y
    → (stored.Operation o m given k ≡ stored.Operation p n other l) × (x ≡ y)
operation_both registers text o p m n given other k l x y small s t =
    let left = flat_map argument_text given ++ behind_given k x in
    let head = head_both text o p m n left (flat_map argument_text other ++ behind_given l y) (operation_head registers text o m given k x s) (operation_head registers text p n other l y t) in
    let mine = operation_given registers text left o o m m given k x (operation_head registers text o m given k x s) s in
    let its = operation_given registers text left p o m n other l y (operation_head registers text o m given k x s) t in
    let arguments = arguments_both registers left given other (behind_given k x) (behind_given l y) small mine its in
    let ends = field_both (2 ^ 64) fail_piece (codes ";\n") (behind_given k x) x y k l (omega arith) refl (record { fits = s.is.label; spelled = refl }) (record { fits = t.is.label; spelled = arguments.1 }) in
    (ap (λ q. stored.Operation q m given k) head.0 ∙ ap (λ q. stored.Operation p q given k) head.1 ∙ ap (λ q. stored.Operation p n q k) arguments.0 ∙ ap (stored.Operation p n other) ends.0, ends.1)
