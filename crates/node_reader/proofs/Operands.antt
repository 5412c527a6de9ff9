-- Constants, operands and arguments: no other stands where one does.
use Rattle.std.proofs.Common.{◌≡◌, ℕ, suc, ◌+◌, ◌<◌, ◌≤◌, ◌^◌, List, ◌∷◌, ◌++◌, get_or, drop, refl, sym, ◌∙◌, ap, arith, Bool, true, false}
use Rattle.std.specs.Prelude.{ℤ, pos, negsuc, codes}
use Rattle.std.specs.Fmt.{signed_decimal}
use Rattle.nu_text.specs.Pieces.{before}
use Rattle.nu_text.specs.Strings.{string_text}
use Rattle.nu_text.specs.Decimals.{starts_digit, DecimalStands}
use Rattle.nu_text.proofs.Pieces.{before_is}
use Rattle.nu_text.proofs.Strings.{string_both}
use Rattle.nu_text.proofs.Decimals.{IsShort, decimal_both, signed_both, decimal_starts}
use Rattle.op_forms.specs.declared.constant.Const.{Const}
use Rattle.op_forms.specs.declared.constant.Const.TheVariants as const
use Rattle.code_forms.specs.declared.operand.Operand.{Operand}
use Rattle.code_forms.specs.declared.operand.Operand.TheVariants as operand
use Rattle.code_forms.specs.declared.operand.Argument.{Argument}
use Rattle.code_forms.specs.declared.operand.Argument.TheVariants as argument
use Rattle.code_forms.specs.Fits.{IsInt, ConstFits}
use Rattle.c_reader.specs.Pieces.{StringStands}
use Rattle.c_reader.proofs.Numbers.{same_rest, wide}
use Rattle.node_text.specs.Text.{constant_pieces, operand_pieces, operand_text, argument_text}
use Rattle.node_text.specs.Written.{IsOperand, IsArgument}
use Rattle.node_reader.specs.Lines.{WordStands, SizeStands, WholeStands, EndedStringStands, ConstantStands, OperandStands, ArgumentStands}

pub true≢false : (b : Bool) → b ≡ true → b ≡ false → ⊥
true≢false b e f = grind (arith, e, f)

-- a word that a digit follows
pub no_word : (word text behind : List ℕ) (b : Bool) → text ≡ word ++ behind → b ≡ starts_digit behind → b ≡ true → (rest : List ℕ) → WordStands word text rest → ⊥
no_word word text behind b e digit is rest s =
    true≢false (starts_digit behind) (sym digit ∙ is) (ap starts_digit (same_rest word behind rest (sym e ∙ s.spelled)) ∙ s.ends)

-- sizes
pub size_cut : (limit : ℕ) (text behind : List ℕ) (value : ℕ) (n : ℕ) (rest : List ℕ) → limit ≤ 2 ^ 128 → DecimalStands text value behind → SizeStands limit text n rest → (value ≡ n) × (behind ≡ rest)
size_cut limit text behind value n rest small d s =
    let fits = s.fits in
    let one = d.fits in
    decimal_both value n behind rest (wide value (omega (arith, one))) (wide n (omega (arith, fits, small))) d.ends s.ends (sym d.spelled ∙ s.spelled)

pub size_both : (limit : ℕ) (text x y : List ℕ) (m n : ℕ) → limit ≤ 2 ^ 128 → SizeStands limit text m x → SizeStands limit text n y → (m ≡ n) × (x ≡ y)
size_both limit text x y m n small s t =
    let one = s.fits in
    let two = t.fits in
    decimal_both m n x y (wide m (omega (arith, one, small))) (wide n (omega (arith, two, small))) s.ends t.ends (sym s.spelled ∙ t.spelled)

-- behind a minus stands the size of a negative number
pub minus_cut : (text digits rest : List ℕ) (z : ℤ) → text ≡ codes "-" ++ digits → WholeStands text z rest → (n : ℕ) × SizeStands (2 ^ 127 + 1) digits (suc n) rest
minus_cut text digits rest (pos n) e s = let small = s.fits in absurd (decimal_starts n 45 rest digits (omega (arith, small)) refl (sym s.spelled ∙ e))
minus_cut text digits rest (negsuc n) e s = let small = s.fits in (n, record { fits = omega (arith, small); spelled = ap (drop 1) (sym e ∙ s.spelled); ends = s.ends })

pub no_minus_zero : (digits x : List ℕ) (size : ℕ) → SizeStands (2 ^ 127 + 1) digits size x → size ≡ 0 → (text : List ℕ) → text ≡ codes "-" ++ digits → (z : ℤ) (rest : List ℕ) → WholeStands text z rest → ⊥
no_minus_zero digits x size s empty text e z rest stands =
    let cut = minus_cut text digits rest z e stands in
    let same = (size_both (2 ^ 127 + 1) digits x rest size (suc cut.0) (omega arith) s cut.1).0 in
    omega (arith, same, empty)

int_wide : (z : ℤ) → IsInt z → IsShort z
int_wide (pos n) h = omega (arith, h)
int_wide (negsuc n) h = omega (arith, h)

pub whole_both : (y z : ℤ) (a b : List ℕ) → IsInt y → IsInt z → starts_digit a ≡ false → starts_digit b ≡ false → signed_decimal y ++ a ≡ signed_decimal z ++ b → (y ≡ z) × (a ≡ b)
whole_both y z a b p q g h e = signed_both y z a b (int_wide y p) (int_wide z q) g h e

-- a string that a digit follows
pub no_ended_string : (text behind bytes : List ℕ) (b : Bool) → StringStands text bytes behind → b ≡ starts_digit behind → b ≡ true → (other rest : List ℕ) → EndedStringStands text other rest → ⊥
no_ended_string text behind bytes b s digit is other rest t =
    true≢false (starts_digit behind) (sym digit ∙ is) (ap starts_digit (string_both bytes other behind rest (sym s.spelled ∙ t.spelled)).1 ∙ t.ends)

pub string_of : (text bytes rest : List ℕ) → EndedStringStands text bytes rest → StringStands text bytes rest
string_of text bytes rest s = record { utf8 = s.utf8; spelled = s.spelled }

-- a constant begins with a letter that tells its form
abbrev constant_tag : Const → ℕ
constant_tag const.None = 110
constant_tag (const.Bool true) = 116
constant_tag (const.Bool false) = 102
constant_tag (const.Int z) = 105
constant_tag (const.Str text) = 115

constant_tag_is : (c : Const) (rest : List ℕ) → get_or (before (constant_pieces c) rest) 0 0 ≡ constant_tag c
constant_tag_is const.None rest = refl
constant_tag_is (const.Bool true) rest = refl
constant_tag_is (const.Bool false) rest = refl
constant_tag_is (const.Int z) rest = refl
constant_tag_is (const.Str text) rest = refl

pub constant_both : (c d : Const) (x y : List ℕ) → ConstFits c → ConstFits d → starts_digit x ≡ false → starts_digit y ≡ false → before (constant_pieces c) x ≡ before (constant_pieces d) y → (c ≡ d) × (x ≡ y)
constant_both c d x y p q g h e = go c d p q e (sym (constant_tag_is c x) ∙ ap (λ l. get_or l 0 0) e ∙ constant_tag_is d y)
  where
    go : (c d : Const) → ConstFits c → ConstFits d → before (constant_pieces c) x ≡ before (constant_pieces d) y → constant_tag c ≡ constant_tag d → (c ≡ d) × (x ≡ y)
    go const.None const.None p q e same = (refl, ap (drop 4) e)
    go (const.Bool true) (const.Bool true) p q e same = (refl, ap (drop 4) e)
    go (const.Bool false) (const.Bool false) p q e same = (refl, ap (drop 5) e)
    go (const.Int m) (const.Int n) p q e same = let both = whole_both m n x y p q g h (ap (drop 4) e) in (ap const.Int both.0, both.1)
    go (const.Str s) (const.Str t) p q e same = let both = string_both s t x y (ap (drop 4) e) in (ap const.Str both.0, both.1)
    go (const.Bool true) d p q e same = absurd (omega (arith, same))
    go (const.Bool false) d p q e same = absurd (omega (arith, same))
    go c (const.Bool true) p q e same = absurd (omega (arith, same))
    go c (const.Bool false) p q e same = absurd (omega (arith, same))
    go c d p q e same = absurd (omega (arith, same))

-- a temporary is no constant
temp_apart : (n : ℕ) (c : Const) (x y : List ℕ) → n < 2 ^ 64 → before (operand_pieces (operand.Temp n)) x ≡ before (constant_pieces c) y → ⊥
temp_apart n (const.Bool true) x y small e = decimal_starts n 114 x (codes "ue" ++ y) (omega (arith, small)) refl (ap (drop 1) e)
temp_apart n const.None x y small e = let bad : 116 ≡ 110 = ap (λ l. get_or l 0 0) e in omega (arith, bad)
temp_apart n (const.Bool false) x y small e = let bad : 116 ≡ 102 = ap (λ l. get_or l 0 0) e in omega (arith, bad)
temp_apart n (const.Int z) x y small e = let bad : 116 ≡ 105 = ap (λ l. get_or l 0 0) e in omega (arith, bad)
temp_apart n (const.Str s) x y small e = let bad : 116 ≡ 115 = ap (λ l. get_or l 0 0) e in omega (arith, bad)

pub operand_both : (a b : Operand) (x y : List ℕ) → IsOperand a → IsOperand b → starts_digit x ≡ false → starts_digit y ≡ false → before (operand_pieces a) x ≡ before (operand_pieces b) y → (a ≡ b) × (x ≡ y)
operand_both (operand.Temp m) (operand.Temp n) x y p q g h e =
    let both = decimal_both m n x y (wide m (omega (arith, p))) (wide n (omega (arith, q))) g h (ap (drop 1) e) in
    (ap operand.Temp both.0, both.1)
operand_both (operand.Temp m) (operand.Const d) x y p q g h e = absurd (temp_apart m d x y p e)
operand_both (operand.Const c) (operand.Temp n) x y p q g h e = absurd (temp_apart n c y x q (sym e))
operand_both (operand.Const c) (operand.Const d) x y p q g h e =
    let both = constant_both c d x y p q g h e in
    (ap operand.Const both.0, both.1)

-- an operand that is read, against one that stands there
pub operand_cut : (text : List ℕ) (a b : Operand) (x y : List ℕ) → OperandStands text a x → IsOperand b → starts_digit y ≡ false → text ≡ operand_text b ++ y → (a ≡ b) × (x ≡ y)
operand_cut text a b x y s q h e = operand_both a b x y s.is q s.ends h (sym s.spelled ∙ e ∙ before_is (operand_pieces b) y)

pub operand_there : (text : List ℕ) (b : Operand) (y : List ℕ) → IsOperand b → starts_digit y ≡ false → text ≡ operand_text b ++ y → OperandStands text b y
operand_there text b y q h e = record { is = q; spelled = e ∙ before_is (operand_pieces b) y; ends = h }

-- no operand begins with a quotation mark
operand_tag : Operand → ℕ
operand_tag (operand.Temp n) = 116
operand_tag (operand.Const c) = constant_tag c

no_quote : (b : Operand) (x y : List ℕ) → before (operand_pieces b) x ≡ 34 ∷ y → ⊥
no_quote (operand.Temp n) x y e = let bad : 116 ≡ 34 = ap (λ l. get_or l 0 0) e in omega (arith, bad)
no_quote (operand.Const const.None) x y e = let bad : 110 ≡ 34 = ap (λ l. get_or l 0 0) e in omega (arith, bad)
no_quote (operand.Const (const.Bool true)) x y e = let bad : 116 ≡ 34 = ap (λ l. get_or l 0 0) e in omega (arith, bad)
no_quote (operand.Const (const.Bool false)) x y e = let bad : 102 ≡ 34 = ap (λ l. get_or l 0 0) e in omega (arith, bad)
no_quote (operand.Const (const.Int z)) x y e = let bad : 105 ≡ 34 = ap (λ l. get_or l 0 0) e in omega (arith, bad)
no_quote (operand.Const (const.Str s)) x y e = let bad : 115 ≡ 34 = ap (λ l. get_or l 0 0) e in omega (arith, bad)

-- two arguments
pub argument_both : (a b : Argument) (x y : List ℕ) → IsArgument a → IsArgument b → starts_digit x ≡ false → starts_digit y ≡ false → argument_text a ++ x ≡ argument_text b ++ y → (a ≡ b) × (x ≡ y)
argument_both (argument.Value a) (argument.Value b) x y p q g h e =
    let both = operand_both a b x y p q g h (sym (before_is (operand_pieces a) x) ∙ ap (drop 1) e ∙ before_is (operand_pieces b) y) in
    (ap argument.Value both.0, both.1)
argument_both (argument.Name s) (argument.Name t) x y p q g h e = let both = string_both s t x y (ap (drop 1) e) in (ap argument.Name both.0, both.1)
argument_both (argument.Value a) (argument.Name t) x y p q g h e = absurd (no_quote a x (drop 1 (string_text t ++ y)) (sym (before_is (operand_pieces a) x) ∙ ap (drop 1) e))
argument_both (argument.Name s) (argument.Value b) x y p q g h e = absurd (no_quote b y (drop 1 (string_text s ++ x)) (sym (before_is (operand_pieces b) y) ∙ ap (drop 1) (sym e)))

-- an argument is a string or an operand
pub no_argument : (text : List ℕ) → ((bytes rest : List ℕ) → EndedStringStands text bytes rest → ⊥) → ((a : Operand) (rest : List ℕ) → OperandStands text a rest → ⊥) → (a : Argument) (rest : List ℕ) → ArgumentStands (codes " " ++ text) a rest → ⊥
no_argument text string operand (argument.Value a) rest s = operand a rest (operand_there text a rest s.is s.ends (ap (drop 1) s.spelled))
no_argument text string operand (argument.Name name) rest s = string name rest (record { utf8 = s.is; spelled = ap (drop 1) s.spelled; ends = s.ends })

pub named : (text name rest : List ℕ) → EndedStringStands text name rest → ArgumentStands (codes " " ++ text) (argument.Name name) rest
named text name rest s = record { is = s.utf8; spelled = ap (λ l. codes " " ++ l) s.spelled; ends = s.ends }

pub valued : (text : List ℕ) (a : Operand) (rest : List ℕ) → OperandStands text a rest → ArgumentStands (codes " " ++ text) (argument.Value a) rest
valued text a rest s = record { is = s.is; spelled = ap (λ l. codes " " ++ l) (s.spelled ∙ sym (before_is (operand_pieces a) rest)); ends = s.ends }

-- constants by their forms
pub no_constant : (text : List ℕ) → ((rest : List ℕ) → WordStands (codes "none") text rest → ⊥) → ((b : Bool) (rest : List ℕ) → ConstantStands text (const.Bool b) rest → ⊥) → ((z : ℤ) (rest : List ℕ) → ConstantStands text (const.Int z) rest → ⊥)
    → ((bytes rest : List ℕ) → ConstantStands text (const.Str bytes) rest → ⊥) → (c : Const) (rest : List ℕ) → ConstantStands text c rest → ⊥
no_constant text none bool int string const.None rest s = none rest (record { spelled = s.spelled; ends = s.ends })
no_constant text none bool int string (const.Bool b) rest s = bool b rest s
no_constant text none bool int string (const.Int z) rest s = int z rest s
no_constant text none bool int string (const.Str bytes) rest s = string bytes rest s

pub no_truth : (text : List ℕ) → ((rest : List ℕ) → WordStands (codes "true") text rest → ⊥) → ((rest : List ℕ) → WordStands (codes "false") text rest → ⊥) → (b : Bool) (rest : List ℕ) → ConstantStands text (const.Bool b) rest → ⊥
no_truth text one other true rest s = one rest (record { spelled = s.spelled; ends = s.ends })
no_truth text one other false rest s = other rest (record { spelled = s.spelled; ends = s.ends })

pub no_operand : (text : List ℕ) → ((n : ℕ) (rest : List ℕ) → OperandStands text (operand.Temp n) rest → ⊥) → ((c : Const) (rest : List ℕ) → ConstantStands text c rest → ⊥) → (a : Operand) (rest : List ℕ) → OperandStands text a rest → ⊥
no_operand text temp constant (operand.Temp n) rest s = temp n rest s
no_operand text temp constant (operand.Const c) rest s = constant c rest (record { is = s.is; spelled = s.spelled; ends = s.ends })
