-- Operands and arguments, one after another.
use Rattle.std.proofs.Common.{◌≡◌, ℕ, List, [], ◌∷◌, ◌++◌, drop, refl, sym, ◌∙◌, ap, false}
use Rattle.std.specs.Prelude.{codes}
use Rattle.std.specs.List.{AllByRecursion, flat_map}
use Rattle.nu_text.specs.Decimals.{starts_digit}
use Rattle.nu_text.proofs.Pieces.{before_is}
use Rattle.code_forms.specs.declared.operand.Operand.{Operand}
use Rattle.code_forms.specs.declared.operand.Argument.{Argument}
use Rattle.code_forms.specs.declared.operand.Argument.TheVariants as argument
use Rattle.c_reader.specs.Statements.{IsNotFront}
use Rattle.c_reader.proofs.Sequences.{flat_is, flat_more, none_left, lists_both}
use Rattle.node_text.specs.Text.{operand_pieces, operand_text, spaced_text, argument_text}
use Rattle.node_text.specs.Written.{IsOperand, IsArgument}
use Rattle.node_reader.specs.Lines.{OperandStands, ArgumentStands, OperandsStand, ArgumentsStand}
use Rattle.node_reader.proofs.Operands.{operand_both, operand_there, argument_both}

same_operand : (n : ℕ) (a b : Operand) (x y : List ℕ) → IsOperand a → IsOperand b → starts_digit x ≡ false → starts_digit y ≡ false → spaced_text a ++ x ≡ spaced_text b ++ y → (a ≡ b) × (x ≡ y)
same_operand n a b x y p q g h e = operand_both a b x y p q g h (sym (before_is (operand_pieces a) x) ∙ ap (drop 1) e ∙ before_is (operand_pieces b) y)

operand_apart : (a : Operand) (x y : List ℕ) → IsNotFront (codes " ") y → spaced_text a ++ x ≡ y → ⊥
operand_apart a x y none e = none (operand_text a ++ x) (sym e)

pub operands_both : (text : List ℕ) (given other : List Operand) (x y : List ℕ) → OperandsStand text given x → OperandsStand text other y → (given ≡ other) × (x ≡ y)
operands_both text given other x y s t =
    lists_both (λ _. spaced_text) IsOperand (λ l. starts_digit l ≡ false) (IsNotFront (codes " ")) same_operand (λ n a z _. refl) (λ n a z w _. operand_apart a z w) 0 given other x y s.each t.each s.ends t.ends s.all t.all
    (ap (λ l. l ++ x) (sym (flat_is spaced_text 0 given)) ∙ sym s.spelled ∙ t.spelled ∙ ap (λ l. l ++ y) (flat_is spaced_text 0 other))

pub no_operands : (text left behind : List ℕ) (read : List Operand) → text ≡ flat_map spaced_text read ++ left → AllByRecursion IsOperand read → starts_digit left ≡ false → left ≡ codes " " ++ behind
    → ((a : Operand) (rest : List ℕ) → OperandStands behind a rest → ⊥) → (given : List Operand) (rest : List ℕ) → OperandsStand text given rest → ⊥
no_operands text left behind read e each ends space none given rest s =
    none_left (λ _. spaced_text) IsOperand (λ l. starts_digit l ≡ false) (IsNotFront (codes " ")) same_operand (λ n a z _. refl) (λ n a z w _. operand_apart a z w) 0 read given left rest each s.each ends s.ends s.all
    (ap (λ l. l ++ left) (sym (flat_is spaced_text 0 read)) ∙ sym e ∙ s.spelled ∙ ap (λ l. l ++ rest) (flat_is spaced_text 0 given))
    (λ last. s.all behind (sym last ∙ space)) (λ k a x _ is end stand. none a x (operand_there behind a x is end (ap (drop 1) (sym space ∙ stand))))

pub next_operand : (text left behind after : List ℕ) (read new : List Operand) (one : Operand) → text ≡ flat_map spaced_text read ++ left → left ≡ codes " " ++ behind → OperandStands behind one after → new ≡ read ++ one ∷ [] → text ≡ flat_map spaced_text new ++ after
next_operand text left behind after read new one e space s more =
    e ∙ ap (λ l. flat_map spaced_text read ++ l) (space ∙ ap (λ l. codes " " ++ l) (s.spelled ∙ sym (before_is (operand_pieces one) after))) ∙ sym (flat_more spaced_text read one after) ∙ ap (λ l. flat_map spaced_text l ++ after) (sym more)

same_argument : (n : ℕ) (a b : Argument) (x y : List ℕ) → IsArgument a → IsArgument b → starts_digit x ≡ false → starts_digit y ≡ false → argument_text a ++ x ≡ argument_text b ++ y → (a ≡ b) × (x ≡ y)
same_argument n a b x y p q g h e = argument_both a b x y p q g h e

space_first : (a : Argument) (x : List ℕ) → (y : List ℕ) × (argument_text a ++ x ≡ codes " " ++ y)
space_first (argument.Value a) x = (drop 1 (argument_text (argument.Value a) ++ x), refl)
space_first (argument.Name name) x = (drop 1 (argument_text (argument.Name name) ++ x), refl)

no_digit_first : (a : Argument) (x : List ℕ) → starts_digit (argument_text a ++ x) ≡ false
no_digit_first (argument.Value a) x = refl
no_digit_first (argument.Name name) x = refl

argument_apart : (a : Argument) (x y : List ℕ) → IsNotFront (codes " ") y → argument_text a ++ x ≡ y → ⊥
argument_apart a x y none e = let s = space_first a x in none s.0 (sym e ∙ s.1)

pub arguments_both : (text : List ℕ) (given other : List Argument) (x y : List ℕ) → ArgumentsStand text given x → ArgumentsStand text other y → (given ≡ other) × (x ≡ y)
arguments_both text given other x y s t =
    lists_both (λ _. argument_text) IsArgument (λ l. starts_digit l ≡ false) (IsNotFront (codes " ")) same_argument (λ n a z _. no_digit_first a z) (λ n a z w _. argument_apart a z w) 0 given other x y s.each t.each s.ends t.ends s.all t.all
    (ap (λ l. l ++ x) (sym (flat_is argument_text 0 given)) ∙ sym s.spelled ∙ t.spelled ∙ ap (λ l. l ++ y) (flat_is argument_text 0 other))

pub no_arguments : (text left behind : List ℕ) (read : List Argument) → text ≡ flat_map argument_text read ++ left → AllByRecursion IsArgument read → starts_digit left ≡ false → left ≡ codes " " ++ behind
    → ((a : Argument) (rest : List ℕ) → ArgumentStands (codes " " ++ behind) a rest → ⊥) → (given : List Argument) (rest : List ℕ) → ArgumentsStand text given rest → ⊥
no_arguments text left behind read e each ends space none given rest s =
    none_left (λ _. argument_text) IsArgument (λ l. starts_digit l ≡ false) (IsNotFront (codes " ")) same_argument (λ n a z _. no_digit_first a z) (λ n a z w _. argument_apart a z w) 0 read given left rest each s.each ends s.ends s.all
    (ap (λ l. l ++ left) (sym (flat_is argument_text 0 read)) ∙ sym e ∙ s.spelled ∙ ap (λ l. l ++ rest) (flat_is argument_text 0 given))
    (λ last. s.all behind (sym last ∙ space)) (λ k a x _ is end stand. none a x (record { is = is; spelled = sym space ∙ stand; ends = end }))

pub next_argument : (text left behind after : List ℕ) (read new : List Argument) (one : Argument) → text ≡ flat_map argument_text read ++ left → left ≡ codes " " ++ behind → ArgumentStands (codes " " ++ behind) one after → new ≡ read ++ one ∷ [] → text ≡ flat_map argument_text new ++ after
next_argument text left behind after read new one e space s more =
    e ∙ ap (λ l. flat_map argument_text read ++ l) (space ∙ s.spelled) ∙ sym (flat_more argument_text read one after) ∙ ap (λ l. flat_map argument_text l ++ after) (sym more)
