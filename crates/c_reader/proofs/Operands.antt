-- Operands and arguments: no other stands where one does.
use Rattle.std.proofs.Common.{◌≡◌, ℕ, ◌≤◌, ◌^◌, List, [], ◌++◌, get_or, drop, refl, sym, ◌∙◌, ap, arith, decimal, Bool, true, false, cond}
use Rattle.std.specs.Prelude.{codes, nat_eq}
use Rattle.std.specs.Fmt.{signed_decimal}
use Rattle.nu_text.specs.Pieces.{before}
use Rattle.nu_text.specs.Decimals.{starts_digit, ends_decimal}
use Rattle.nu_text.proofs.Pieces.{before_is}
use Rattle.nu_text.proofs.Strings.{string_both}
use Rattle.nu_text.proofs.Decimals.{decimal_both, ends_there}
use Rattle.op_forms.specs.declared.constant.Const.{Const}
use Rattle.op_forms.specs.declared.constant.Const.TheVariants as const
use Rattle.code_forms.specs.declared.operand.Operand.{Operand}
use Rattle.code_forms.specs.declared.operand.Operand.TheVariants as operand
use Rattle.code_forms.specs.declared.operand.Argument.{Argument}
use Rattle.code_forms.specs.declared.operand.Argument.TheVariants as argument
use Rattle.code_forms.specs.Fits.{ConstFits}
use Rattle.c_meaning.specs.Text.{operand_pieces, operand_text, argument_pieces}
use Rattle.c_meaning.specs.Written.{IsOperand, IsArgument}
use Rattle.c_reader.specs.Pieces.{StringStands, NumberStands, FieldStands}
use Rattle.c_reader.specs.Statements.{IsNotFront, EndsOperand, OperandStands, EndsArgument, BareArgumentStands, ArgumentStands, ValuedStands, JumpStands, KeptStands}
use Rattle.c_reader.proofs.Numbers.{same_rest, int_both, number_both, field_both, wide}

-- a text constant without its closing piece
pub no_close : (registers : ℕ) (text behind bytes after : List ℕ) → text ≡ codes "nu_str(" ++ behind → StringStands behind bytes after → IsNotFront (codes ")") after → (b rest : List ℕ) → OperandStands registers text (operand.Const (const.Str b)) rest → ⊥
no_close registers text behind bytes after e s none b rest o =
    none rest (string_both bytes b after (codes ")" ++ rest) (sym s.spelled ∙ ap (drop 7) (sym e ∙ o.spelled))).1

-- whether an operand is a constant
abbrev pub operand_tag : Operand → ℕ
operand_tag (operand.Temp n) = 0
operand_tag (operand.Const c) = 1

abbrev pub operand_tag_of : List ℕ → ℕ
operand_tag_of text = cond (nat_eq (get_or text 0 0) 114) 0 1

operand_tag_is : (a : Operand) (rest : List ℕ) → operand_tag_of (before (operand_pieces a) rest) ≡ operand_tag a
operand_tag_is (operand.Temp n) rest = refl
operand_tag_is (operand.Const const.None) rest = refl
operand_tag_is (operand.Const (const.Bool true)) rest = refl
operand_tag_is (operand.Const (const.Bool false)) rest = refl
operand_tag_is (operand.Const (const.Int z)) rest = refl
operand_tag_is (operand.Const (const.Str text)) rest = refl

-- the form of a constant
abbrev constant_tag : Const → ℕ
constant_tag const.None = 0
constant_tag (const.Bool b) = 1
constant_tag (const.Int z) = 2
constant_tag (const.Str text) = 3

abbrev tag_of_letter : ℕ → ℕ
tag_of_letter l = cond (nat_eq l 110) 0 (cond (nat_eq l 105) 2 (cond (nat_eq l 115) 3 1))

abbrev constant_tag_of : List ℕ → ℕ
constant_tag_of text = tag_of_letter (get_or text 3 0)

constant_tag_is : (c : Const) (rest : List ℕ) → constant_tag_of (before (operand_pieces (operand.Const c)) rest) ≡ constant_tag c
constant_tag_is const.None rest = refl
constant_tag_is (const.Bool true) rest = refl
constant_tag_is (const.Bool false) rest = refl
constant_tag_is (const.Int z) rest = refl
constant_tag_is (const.Str text) rest = refl

bool_both : (a b : Bool) (x y : List ℕ) → before (operand_pieces (operand.Const (const.Bool a))) x ≡ before (operand_pieces (operand.Const (const.Bool b))) y → (operand.Const (const.Bool a) ≡ operand.Const (const.Bool b)) × (x ≡ y)
bool_both true true x y e = (refl, ap (drop 7) e)
bool_both false false x y e = (refl, ap (drop 8) e)
bool_both true false x y e = let t : 116 ≡ 102 = ap (λ l. get_or l 3 0) e in absurd (omega (arith, t))
bool_both false true x y e = let t : 102 ≡ 116 = ap (λ l. get_or l 3 0) e in absurd (omega (arith, t))

constant_both : (c d : Const) (x y : List ℕ) → ConstFits c → ConstFits d → before (operand_pieces (operand.Const c)) x ≡ before (operand_pieces (operand.Const d)) y → (operand.Const c ≡ operand.Const d) × (x ≡ y)
constant_both c d x y p q e = go c d p q e (sym (constant_tag_is c x) ∙ ap constant_tag_of e ∙ constant_tag_is d y)
  where
    go : (c d : Const) → ConstFits c → ConstFits d → before (operand_pieces (operand.Const c)) x ≡ before (operand_pieces (operand.Const d)) y → constant_tag c ≡ constant_tag d → (operand.Const c ≡ operand.Const d) × (x ≡ y)
    go const.None const.None p q e same = (refl, ap (drop 7) e)
    go (const.Bool a) (const.Bool b) p q e same = bool_both a b x y e
    go (const.Int m) (const.Int n) p q e same =
        let both = int_both (codes "\")") (signed_decimal m ++ (codes "\")" ++ x)) x y m n refl (record { fits = p; spelled = refl }) (record { fits = q; spelled = ap (drop 8) e }) in
        (ap (λ z. operand.Const (const.Int z)) both.0, both.1)
    go (const.Str s) (const.Str t) p q e same =
        let both = string_both s t (codes ")" ++ x) (codes ")" ++ y) (ap (drop 7) e) in
        (ap (λ t. operand.Const (const.Str t)) both.0, ap (drop 1) both.1)
    go c d p q e same = absurd (omega (arith, same))

pub operand_both : (registers : ℕ) (a b : Operand) (x y : List ℕ) → registers ≤ 2 ^ 64 → IsOperand registers a → IsOperand registers b → EndsOperand a x → EndsOperand b y → before (operand_pieces a) x ≡ before (operand_pieces b) y → (a ≡ b) × (x ≡ y)
operand_both registers a b x y small p q g h e = go a b p q g h e (sym (operand_tag_is a x) ∙ ap operand_tag_of e ∙ operand_tag_is b y)
  where
    go : (a b : Operand) → IsOperand registers a → IsOperand registers b → EndsOperand a x → EndsOperand b y → before (operand_pieces a) x ≡ before (operand_pieces b) y → operand_tag a ≡ operand_tag b → (a ≡ b) × (x ≡ y)
    go (operand.Temp m) (operand.Temp n) p q g h e same =
        let both = decimal_both m n x y (wide m (omega (arith, p, small))) (wide n (omega (arith, q, small))) g h (ap (drop 1) e) in
        (ap operand.Temp both.0, both.1)
    go (operand.Const c) (operand.Const d) p q g h e same = constant_both c d x y p q e
    go a b p q g h e same = absurd (omega (arith, same))

-- where no digit follows each operand ends
pub ends_all : (a : Operand) (rest : List ℕ) → starts_digit rest ≡ false → EndsOperand a rest
ends_all (operand.Temp n) rest e = e
ends_all (operand.Const c) rest e = tt

-- an operand that is read, against one that stands there
pub operand_cut : (registers : ℕ) (text : List ℕ) (a b : Operand) (x y : List ℕ) → registers ≤ 2 ^ 64 → OperandStands registers text a x → IsOperand registers b → starts_digit y ≡ false → text ≡ operand_text b ++ y → (a ≡ b) × (x ≡ y)
operand_cut registers text a b x y small s q h e =
    operand_both registers a b x y small s.is q s.ends (ends_all b y h) (sym s.spelled ∙ e ∙ before_is (operand_pieces b) y)

pub operand_there : (registers : ℕ) (text : List ℕ) (b : Operand) (y : List ℕ) → IsOperand registers b → starts_digit y ≡ false → text ≡ operand_text b ++ y → OperandStands registers text b y
operand_there registers text b y q h e = record { is = q; spelled = e ∙ before_is (operand_pieces b) y; ends = ends_all b y h }

true≢false : true ≡ false → ⊥
true≢false e = grind (arith, e)

-- two arguments
abbrev argument_tag : Argument → ℕ
argument_tag (argument.Value a) = 0
argument_tag (argument.Name name) = 1

abbrev argument_tag_of : List ℕ → ℕ
argument_tag_of text = cond (nat_eq (get_or text 2 0) 34) 1 0

argument_tag_is : (a : Argument) (rest : List ℕ) → argument_tag_of (before (argument_pieces a) rest) ≡ argument_tag a
argument_tag_is (argument.Name name) rest = refl
argument_tag_is (argument.Value (operand.Temp n)) rest = refl
argument_tag_is (argument.Value (operand.Const const.None)) rest = refl
argument_tag_is (argument.Value (operand.Const (const.Bool true))) rest = refl
argument_tag_is (argument.Value (operand.Const (const.Bool false))) rest = refl
argument_tag_is (argument.Value (operand.Const (const.Int z))) rest = refl
argument_tag_is (argument.Value (operand.Const (const.Str text))) rest = refl

pub argument_both : (registers : ℕ) (a b : Argument) (x y : List ℕ) → registers ≤ 2 ^ 64 → IsArgument registers a → IsArgument registers b → EndsArgument a x → EndsArgument b y → before (argument_pieces a) x ≡ before (argument_pieces b) y → (a ≡ b) × (x ≡ y)
argument_both registers a b x y small p q g h e = go a b p q g h e (sym (argument_tag_is a x) ∙ ap argument_tag_of e ∙ argument_tag_is b y)
  where
    go : (a b : Argument) → IsArgument registers a → IsArgument registers b → EndsArgument a x → EndsArgument b y → before (argument_pieces a) x ≡ before (argument_pieces b) y → argument_tag a ≡ argument_tag b → (a ≡ b) × (x ≡ y)
    go (argument.Value a) (argument.Value b) p q g h e same =
        let both = operand_both registers a b x y small p q g h (sym (before_is (operand_pieces a) x) ∙ ap (drop 2) e ∙ before_is (operand_pieces b) y) in
        (ap argument.Value both.0, both.1)
    go (argument.Name s) (argument.Name t) p q g h e same =
        let both = string_both s t x y (ap (drop 2) e) in
        (ap argument.Name both.0, both.1)
    go a b p q g h e same = absurd (omega (arith, same))

pub argument_ends_all : (a : Argument) (rest : List ℕ) → starts_digit rest ≡ false → EndsArgument a rest
argument_ends_all (argument.Value a) rest e = ends_all a rest e
argument_ends_all (argument.Name name) rest e = tt

-- no digit follows an argument that stands there
pub no_digit : (registers : ℕ) (text : List ℕ) (a : Argument) (x : List ℕ) (b : Bool) → registers ≤ 2 ^ 64 → BareArgumentStands registers text a x → b ≡ starts_digit x → b ≡ true → (c : Argument) (y : List ℕ) → ArgumentStands registers text c y → ⊥
no_digit registers text a x b small s is digit c y t =
    let both = argument_both registers a c x y small s.is t.is s.ends (argument_ends_all c y t.ends) (sym s.spelled ∙ t.spelled) in
    true≢false (sym digit ∙ is ∙ ap starts_digit both.1 ∙ t.ends)

-- an operand between two pieces
pub valued_there : (registers : ℕ) (opening closing text behind : List ℕ) (a : Operand) (rest : List ℕ) → ends_decimal closing ≡ true → text ≡ opening ++ behind → ValuedStands registers opening closing text a rest → OperandStands registers behind a (closing ++ rest)
valued_there registers opening closing text behind a rest ends e s =
    operand_there registers behind a (closing ++ rest) s.is (ends_there closing rest ends) (same_rest opening behind (operand_text a ++ (closing ++ rest)) (sym e ∙ s.spelled))

pub valued_rest : (registers : ℕ) (opening closing text behind after : List ℕ) (a b : Operand) (rest : List ℕ) → registers ≤ 2 ^ 64 → ends_decimal closing ≡ true → text ≡ opening ++ behind → OperandStands registers behind a after → ValuedStands registers opening closing text b rest
    → after ≡ closing ++ rest
valued_rest registers opening closing text behind after a b rest small ends e s v =
    let t = valued_there registers opening closing text behind b rest ends e v in
    (operand_both registers a b after (closing ++ rest) small s.is t.is s.ends t.ends (sym s.spelled ∙ t.spelled)).1

-- two operands between the same pieces
pub valued_both : (registers : ℕ) (opening closing text : List ℕ) (a b : Operand) (x y : List ℕ) → registers ≤ 2 ^ 64 → ends_decimal closing ≡ true → ValuedStands registers opening closing text a x → ValuedStands registers opening closing text b y → (a ≡ b) × (x ≡ y)
valued_both registers opening closing text a b x y small ends s t =
    let both = operand_cut registers (operand_text a ++ (closing ++ x)) a b (closing ++ x) (closing ++ y) small (operand_there registers (operand_text a ++ (closing ++ x)) a (closing ++ x) s.is (ends_there closing x ends) refl) t.is (ends_there closing y ends)
    (same_rest opening (operand_text a ++ (closing ++ x)) (operand_text b ++ (closing ++ y)) (sym s.spelled ∙ t.spelled)) in
    (both.0, same_rest closing x y both.1)

pub jump_label : (registers : ℕ) (opening closing text behind : List ℕ) (a b : Operand) (label : ℕ) (rest : List ℕ) → registers ≤ 2 ^ 64 → ends_decimal closing ≡ true → ValuedStands registers opening closing text a behind → JumpStands registers opening closing text b label rest
    → NumberStands (2 ^ 64) (codes ";\n") behind label rest
jump_label registers opening closing text behind a b label rest small ends s j =
    record { fits = j.label_is; spelled = (valued_both registers opening closing text a b behind (decimal label ++ (codes ";\n" ++ rest)) small ends s (record { is = j.is; spelled = j.spelled })).1 }

pub jump_both : (registers : ℕ) (opening closing text : List ℕ) (a b : Operand) (k l : ℕ) (x y : List ℕ) → registers ≤ 2 ^ 64 → ends_decimal closing ≡ true → JumpStands registers opening closing text a k x → JumpStands registers opening closing text b l y → (a ≡ b) × (k ≡ l) × (x ≡ y)
jump_both registers opening closing text a b k l x y small ends s t =
    let first : ValuedStands registers opening closing text a (decimal k ++ (codes ";\n" ++ x)) = record { is = s.is; spelled = s.spelled } in
    let both = valued_both registers opening closing text a b (decimal k ++ (codes ";\n" ++ x)) (decimal l ++ (codes ";\n" ++ y)) small ends first (record { is = t.is; spelled = t.spelled }) in
    let labels = number_both (2 ^ 64) (codes ";\n") (decimal k ++ (codes ";\n" ++ x)) x y k l (omega arith) refl (record { fits = s.label_is; spelled = refl }) (record { fits = t.label_is; spelled = both.1 }) in
    (both.0, labels.0, labels.1)

kept_field : (registers : ℕ) (opening text : List ℕ) (n : ℕ) (a : Operand) (rest : List ℕ) → KeptStands registers opening text n a rest → FieldStands (2 ^ 64) opening (codes ", ") text n (operand_text a ++ (codes ");\n" ++ rest))
kept_field registers opening text n a rest k = record { fits = k.number; spelled = k.spelled }

pub kept_value : (registers : ℕ) (opening text behind : List ℕ) (m n : ℕ) (a : Operand) (rest : List ℕ) → FieldStands (2 ^ 64) opening (codes ", ") text m behind → KeptStands registers opening text n a rest → ValuedStands registers [] (codes ");\n") behind a rest
kept_value registers opening text behind m n a rest f k =
    record { is = k.is; spelled = (field_both (2 ^ 64) opening (codes ", ") text behind (operand_text a ++ (codes ");\n" ++ rest)) m n (omega arith) refl f (kept_field registers opening text n a rest k)).1 }

pub kept_both : (registers : ℕ) (opening text : List ℕ) (m n : ℕ) (a b : Operand) (x y : List ℕ) → registers ≤ 2 ^ 64 → KeptStands registers opening text m a x → KeptStands registers opening text n b y → (m ≡ n) × (a ≡ b) × (x ≡ y)
kept_both registers opening text m n a b x y small s t =
    let first = field_both (2 ^ 64) opening (codes ", ") text (operand_text a ++ (codes ");\n" ++ x)) (operand_text b ++ (codes ");\n" ++ y)) m n (omega arith) refl (kept_field registers opening text m a x s) (kept_field registers opening text n b y t) in
    let value : ValuedStands registers [] (codes ");\n") (operand_text a ++ (codes ");\n" ++ x)) a x = record { is = s.is; spelled = refl } in
    let both = valued_both registers [] (codes ");\n") (operand_text a ++ (codes ");\n" ++ x)) a b x y small refl value (record { is = t.is; spelled = first.1 }) in
    (first.0, both.0, both.1)
