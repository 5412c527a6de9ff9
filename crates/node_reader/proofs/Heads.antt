-- First lines of statements: no other stands where one does, but for the blocks behind it.
use Rattle.std.proofs.Common.{◌≡◌, ℕ, ◌+◌, ◌*◌, ◌<◌, ◌^◌, List, [], ◌∷◌, ◌++◌, get_or, drop, refl, sym, ◌∙◌, ap, arith, decimal, false}
use Rattle.std.specs.Prelude.{codes}
use Rattle.std.specs.List.{flat_map}
use Rattle.nu_text.specs.Pieces.{before}
use Rattle.nu_text.specs.Decimals.{starts_digit}
use Rattle.nu_text.proofs.Pieces.{before_is}
use Rattle.op_forms.specs.declared.constant.Const.{Const}
use Rattle.op_forms.specs.declared.op.Op.{Op}
use Rattle.op_forms.specs.Names.{op_name}
use Rattle.code_forms.specs.declared.operand.Operand.{Operand}
use Rattle.code_forms.specs.declared.operand.Argument.{Argument}
use Rattle.code_forms.specs.declared.operand.Argument.TheVariants as argument
use Rattle.c_reader.specs.Pieces.{NumberStands, FieldStands}
use Rattle.c_reader.specs.Statements.{IsNotFront}
use Rattle.c_reader.proofs.Numbers.{same_rest, number_both, field_both}
use Rattle.node_tree.specs.Blocks as tree
use Rattle.node_text.specs.Text.{constant_pieces, constant_text, operand_pieces, operand_text, spaced_text, argument_text, head_pieces}
use Rattle.node_reader.specs.Lines.{starts_letter, ConstantStands, OperandStands, OperandsStand, ArgumentsStand, NameStands, StampStands, ValuedStands, HeadStands}
use Rattle.node_reader.specs.Nodes.{IsSimple}
use Rattle.node_reader.proofs.Operands.{constant_both, operand_both, operand_there}
use Rattle.node_reader.proofs.Names.{name_both}
use Rattle.node_reader.proofs.Lists.{operands_both, arguments_both}

-- a word, a temporary and a line
stamp_field : (word text : List ℕ) (to line : ℕ) (rest : List ℕ) → StampStands word text to line rest → FieldStands (2 ^ 64) word (codes " ") text to (decimal line ++ (codes " " ++ rest))
stamp_field word text to line rest s = record { fits = s.to_is; spelled = s.spelled }

pub no_stamp : (word text : List ℕ) → ((n : ℕ) (rest : List ℕ) → FieldStands (2 ^ 64) word (codes " ") text n rest → ⊥) → (to line : ℕ) (rest : List ℕ) → StampStands word text to line rest → ⊥
no_stamp word text none to line rest s = none to (decimal line ++ (codes " " ++ rest)) (stamp_field word text to line rest s)

pub stamp_line : (word text behind : List ℕ) (m to line : ℕ) (rest : List ℕ) → FieldStands (2 ^ 64) word (codes " ") text m behind → StampStands word text to line rest → (m ≡ to) × NumberStands (2 ^ 32) (codes " ") behind line rest
stamp_line word text behind m to line rest f s =
    let both = field_both (2 ^ 64) word (codes " ") text behind (decimal line ++ (codes " " ++ rest)) m to (omega arith) refl f (stamp_field word text to line rest s) in
    (both.0, record { fits = s.line_is; spelled = both.1 })

pub stamp_of : (word text behind : List ℕ) (to line : ℕ) (rest : List ℕ) → FieldStands (2 ^ 64) word (codes " ") text to behind → NumberStands (2 ^ 32) (codes " ") behind line rest → StampStands word text to line rest
stamp_of word text behind to line rest f n = record { to_is = f.fits; line_is = n.fits; spelled = f.spelled ∙ ap (before (word ∷ decimal to ∷ codes " " ∷ [])) n.spelled }

pub stamp_both : (word text : List ℕ) (to line to' line' : ℕ) (x y : List ℕ) → StampStands word text to line x → StampStands word text to' line' y → (to ≡ to') × (line ≡ line') × (x ≡ y)
stamp_both word text to line to' line' x y s t =
    let first = stamp_line word text (decimal line ++ (codes " " ++ x)) to to' line' y (stamp_field word text to line x s) t in
    let both = number_both (2 ^ 32) (codes " ") (decimal line ++ (codes " " ++ x)) x y line line' (omega arith) refl (record { fits = s.line_is; spelled = refl }) first.1 in
    (first.0, both.0, both.1)

-- a word and an operand
pub valued_there : (word text behind : List ℕ) (a : Operand) (rest : List ℕ) → text ≡ word ++ behind → ValuedStands word text a rest → OperandStands behind a (codes "\n" ++ rest)
valued_there word text behind a rest e s = operand_there behind a (codes "\n" ++ rest) s.is refl (same_rest word behind (operand_text a ++ (codes "\n" ++ rest)) (sym e ∙ s.spelled))

pub valued_rest : (word text behind after : List ℕ) (a b : Operand) (rest : List ℕ) → text ≡ word ++ behind → OperandStands behind a after → ValuedStands word text b rest → (a ≡ b) × (after ≡ codes "\n" ++ rest)
valued_rest word text behind after a b rest e s v =
    let t = valued_there word text behind b rest e v in
    operand_both a b after (codes "\n" ++ rest) s.is t.is s.ends t.ends (sym s.spelled ∙ t.spelled)

pub valued_of : (word text behind : List ℕ) (a : Operand) (after rest : List ℕ) → text ≡ word ++ behind → OperandStands behind a after → after ≡ codes "\n" ++ rest → ValuedStands word text a rest
valued_of word text behind a after rest e s f = record { is = s.is; spelled = e ∙ ap (λ l. word ++ l) (s.spelled ∙ ap (before (operand_pieces a)) f ∙ sym (before_is (operand_pieces a) (codes "\n" ++ rest))) }

pub valued_both : (word text : List ℕ) (a b : Operand) (x y : List ℕ) → ValuedStands word text a x → ValuedStands word text b y → (a ≡ b) × (x ≡ y)
valued_both word text a b x y s t =
    let first = operand_there (operand_text a ++ (codes "\n" ++ x)) a (codes "\n" ++ x) s.is refl refl in
    let both = valued_rest word text (operand_text a ++ (codes "\n" ++ x)) (codes "\n" ++ x) a b y s.spelled first t in
    (both.0, ap (drop 1) both.1)

-- constants
abbrev ConstantField : List ℕ → ℕ → List ℕ → Type 0
ConstantField text to behind = FieldStands (2 ^ 64) (codes "const t") (codes " ") text to behind

constant_field : (text : List ℕ) (to : ℕ) (c : Const) (rest : List ℕ) → HeadStands text (tree.Constant to c) rest → ConstantField text to (constant_text c ++ (codes "\n" ++ rest))
constant_field text to c rest s = record { fits = s.is.0; spelled = s.spelled }

pub no_constant_field : (text : List ℕ) → ((n : ℕ) (rest : List ℕ) → ConstantField text n rest → ⊥) → (to : ℕ) (c : Const) (rest : List ℕ) → HeadStands text (tree.Constant to c) rest → ⊥
no_constant_field text none to c rest s = none to (constant_text c ++ (codes "\n" ++ rest)) (constant_field text to c rest s)

pub constant_there : (text behind : List ℕ) (m to : ℕ) (c : Const) (rest : List ℕ) → ConstantField text m behind → HeadStands text (tree.Constant to c) rest → (m ≡ to) × ConstantStands behind c (codes "\n" ++ rest)
constant_there text behind m to c rest f s =
    let both = field_both (2 ^ 64) (codes "const t") (codes " ") text behind (constant_text c ++ (codes "\n" ++ rest)) m to (omega arith) refl f (constant_field text to c rest s) in
    (both.0, record { is = s.is.1; spelled = both.1 ∙ before_is (constant_pieces c) (codes "\n" ++ rest); ends = refl })

pub constant_rest : (text behind after : List ℕ) (m to : ℕ) (c d : Const) (rest : List ℕ) → ConstantField text m behind → ConstantStands behind c after → HeadStands text (tree.Constant to d) rest → (m ≡ to) × (c ≡ d) × (after ≡ codes "\n" ++ rest)
constant_rest text behind after m to c d rest f k s =
    let there = constant_there text behind m to d rest f s in
    let t = there.1 in
    let both = constant_both c d after (codes "\n" ++ rest) k.is t.is k.ends t.ends (sym k.spelled ∙ t.spelled) in
    (there.0, both.0, both.1)

pub constant_of : (text behind after : List ℕ) (to : ℕ) (c : Const) (rest : List ℕ) → ConstantField text to behind → ConstantStands behind c after → after ≡ codes "\n" ++ rest → HeadStands text (tree.Constant to c) rest
constant_of text behind after to c rest f k e = record {
  is = (f.fits, k.is);
  spelled = f.spelled ∙ ap (before (codes "const t" ∷ decimal to ∷ codes " " ∷ [])) (k.spelled ∙ ap (before (constant_pieces c)) e ∙ sym (before_is (constant_pieces c) (codes "\n" ++ rest)));
}

-- copies
abbrev CopyField : List ℕ → ℕ → List ℕ → Type 0
CopyField text to behind = FieldStands (2 ^ 64) (codes "copy t") (codes " t") text to behind

copy_field : (text : List ℕ) (to from : ℕ) (rest : List ℕ) → HeadStands text (tree.Copy to from) rest → CopyField text to (decimal from ++ (codes "\n" ++ rest))
copy_field text to from rest s = record { fits = s.is.0; spelled = s.spelled }

pub no_copy_field : (text : List ℕ) → ((n : ℕ) (rest : List ℕ) → CopyField text n rest → ⊥) → (to from : ℕ) (rest : List ℕ) → HeadStands text (tree.Copy to from) rest → ⊥
no_copy_field text none to from rest s = none to (decimal from ++ (codes "\n" ++ rest)) (copy_field text to from rest s)

pub copy_from : (text behind : List ℕ) (m to from : ℕ) (rest : List ℕ) → CopyField text m behind → HeadStands text (tree.Copy to from) rest → (m ≡ to) × NumberStands (2 ^ 64) (codes "\n") behind from rest
copy_from text behind m to from rest f s =
    let both = field_both (2 ^ 64) (codes "copy t") (codes " t") text behind (decimal from ++ (codes "\n" ++ rest)) m to (omega arith) refl f (copy_field text to from rest s) in
    (both.0, record { fits = s.is.1; spelled = both.1 })

pub copy_of : (text behind : List ℕ) (to from : ℕ) (rest : List ℕ) → CopyField text to behind → NumberStands (2 ^ 64) (codes "\n") behind from rest → HeadStands text (tree.Copy to from) rest
copy_of text behind to from rest f n = record { is = (f.fits, n.fits); spelled = f.spelled ∙ ap (before (codes "copy t" ∷ decimal to ∷ codes " t" ∷ [])) n.spelled }

-- operations
abbrev pub given_text : List Argument → List ℕ → List ℕ
given_text given rest = flat_map argument_text given ++ (codes "\n" ++ rest)

given_letter : (given : List Argument) (rest : List ℕ) → starts_letter (given_text given rest) ≡ false
given_letter [] rest = refl
given_letter (argument.Value a ∷ given) rest = refl
given_letter (argument.Name name ∷ given) rest = refl

given_digit : (given : List Argument) (rest : List ℕ) → starts_digit (given_text given rest) ≡ false
given_digit [] rest = refl
given_digit (argument.Value a ∷ given) rest = refl
given_digit (argument.Name name ∷ given) rest = refl

line_end : (x : List ℕ) → IsNotFront (codes " ") (codes "\n" ++ x)
line_end x rest e = let bad : 10 ≡ 32 = ap (λ l. get_or l 0 0) e in omega (arith, bad)

do_stamp : (text : List ℕ) (to line : ℕ) (o : Op) (given : List Argument) (rest : List ℕ) → HeadStands text (tree.Do to line o given) rest → StampStands (codes "do t") text to line (op_name o ++ given_text given rest)
do_stamp text to line o given rest s = record { to_is = s.is.0; line_is = s.is.1; spelled = s.spelled }

pub no_do_stamp : (text : List ℕ) → ((to line : ℕ) (rest : List ℕ) → StampStands (codes "do t") text to line rest → ⊥) → (to line : ℕ) (o : Op) (given : List Argument) (rest : List ℕ) → HeadStands text (tree.Do to line o given) rest → ⊥
no_do_stamp text none to line o given rest s = none to line (op_name o ++ given_text given rest) (do_stamp text to line o given rest s)

pub do_name : (text behind : List ℕ) (m k to line : ℕ) (o : Op) (given : List Argument) (rest : List ℕ) → StampStands (codes "do t") text m k behind → HeadStands text (tree.Do to line o given) rest → (m ≡ to) × (k ≡ line) × NameStands behind o (given_text given rest)
do_name text behind m k to line o given rest f s =
    let both = stamp_both (codes "do t") text m k to line behind (op_name o ++ given_text given rest) f (do_stamp text to line o given rest s) in
    (both.0, both.1, record { spelled = both.2; letter = given_letter given rest; digit = given_digit given rest })

pub do_given : (text behind after : List ℕ) (m k to line : ℕ) (p o : Op) (given : List Argument) (rest : List ℕ) → StampStands (codes "do t") text m k behind → NameStands behind p after → HeadStands text (tree.Do to line o given) rest
    → (m ≡ to) × (k ≡ line) × (p ≡ o) × ArgumentsStand after given (codes "\n" ++ rest)
do_given text behind after m k to line p o given rest f n s =
    let there = do_name text behind m k to line o given rest f s in
    let both = name_both p o after (given_text given rest) n.letter (given_letter given rest) (sym n.spelled ∙ there.2.spelled) in
    (there.0, there.1, both.0, record { each = s.is.2; spelled = both.1; ends = refl; all = line_end rest })

pub do_rest : (text behind after last : List ℕ) (m k to line : ℕ) (p o : Op) (read given : List Argument) (rest : List ℕ) → StampStands (codes "do t") text m k behind → NameStands behind p after → ArgumentsStand after read last → HeadStands text (tree.Do to line o given) rest
    → (m ≡ to) × (k ≡ line) × (p ≡ o) × (read ≡ given) × (last ≡ codes "\n" ++ rest)
do_rest text behind after last m k to line p o read given rest f n r s =
    let there = do_given text behind after m k to line p o given rest f n s in
    let both = arguments_both after read given last (codes "\n" ++ rest) r there.3 in
    (there.0, there.1, there.2, both.0, both.1)

pub do_of : (text behind after last : List ℕ) (to line : ℕ) (o : Op) (given : List Argument) (rest : List ℕ) → StampStands (codes "do t") text to line behind → NameStands behind o after → ArgumentsStand after given last → last ≡ codes "\n" ++ rest → HeadStands text (tree.Do to line o given) rest
do_of text behind after last to line o given rest f n r e = record {
  is = (f.to_is, f.line_is, r.each);
  spelled = f.spelled ∙ ap (before (codes "do t" ∷ decimal to ∷ codes " " ∷ decimal line ∷ codes " " ∷ [])) (n.spelled ∙ ap (λ l. op_name o ++ l) (r.spelled ∙ ap (λ l. flat_map argument_text given ++ l) e));
}

-- calls
abbrev pub handed_text : List Operand → List ℕ → List ℕ
handed_text given rest = flat_map spaced_text given ++ (codes "\n" ++ rest)

handed_digit : (given : List Operand) (rest : List ℕ) → starts_digit (handed_text given rest) ≡ false
handed_digit [] rest = refl
handed_digit (a ∷ given) rest = refl

call_stamp : (text : List ℕ) (to line : ℕ) (a : Operand) (given : List Operand) (rest : List ℕ) → HeadStands text (tree.Call to line a given) rest → StampStands (codes "call t") text to line (operand_text a ++ handed_text given rest)
call_stamp text to line a given rest s = record { to_is = s.is.0; line_is = s.is.1; spelled = s.spelled }

pub no_call_stamp : (text : List ℕ) → ((to line : ℕ) (rest : List ℕ) → StampStands (codes "call t") text to line rest → ⊥) → (to line : ℕ) (a : Operand) (given : List Operand) (rest : List ℕ) → HeadStands text (tree.Call to line a given) rest → ⊥
no_call_stamp text none to line a given rest s = none to line (operand_text a ++ handed_text given rest) (call_stamp text to line a given rest s)

pub call_function : (text behind : List ℕ) (m k to line : ℕ) (a : Operand) (given : List Operand) (rest : List ℕ) → StampStands (codes "call t") text m k behind → HeadStands text (tree.Call to line a given) rest → (m ≡ to) × (k ≡ line) × OperandStands behind a (handed_text given rest)
call_function text behind m k to line a given rest f s =
    let both = stamp_both (codes "call t") text m k to line behind (operand_text a ++ handed_text given rest) f (call_stamp text to line a given rest s) in
    (both.0, both.1, operand_there behind a (handed_text given rest) s.is.2 (handed_digit given rest) both.2)

pub call_given : (text behind after : List ℕ) (m k to line : ℕ) (b a : Operand) (given : List Operand) (rest : List ℕ) → StampStands (codes "call t") text m k behind → OperandStands behind b after → HeadStands text (tree.Call to line a given) rest
    → (m ≡ to) × (k ≡ line) × (b ≡ a) × OperandsStand after given (codes "\n" ++ rest)
call_given text behind after m k to line b a given rest f n s =
    let there = call_function text behind m k to line a given rest f s in
    let t = there.2 in
    let both = operand_both b a after (handed_text given rest) n.is t.is n.ends t.ends (sym n.spelled ∙ t.spelled) in
    (there.0, there.1, both.0, record { each = s.is.3; spelled = both.1; ends = refl; all = line_end rest })

pub call_rest : (text behind after last : List ℕ) (m k to line : ℕ) (b a : Operand) (read given : List Operand) (rest : List ℕ) → StampStands (codes "call t") text m k behind → OperandStands behind b after → OperandsStand after read last → HeadStands text (tree.Call to line a given) rest
    → (m ≡ to) × (k ≡ line) × (b ≡ a) × (read ≡ given) × (last ≡ codes "\n" ++ rest)
call_rest text behind after last m k to line b a read given rest f n r s =
    let there = call_given text behind after m k to line b a given rest f n s in
    let both = operands_both after read given last (codes "\n" ++ rest) r there.3 in
    (there.0, there.1, there.2, both.0, both.1)

pub call_of : (text behind after last : List ℕ) (to line : ℕ) (a : Operand) (given : List Operand) (rest : List ℕ) → StampStands (codes "call t") text to line behind → OperandStands behind a after → OperandsStand after given last → last ≡ codes "\n" ++ rest → HeadStands text (tree.Call to line a given) rest
call_of text behind after last to line a given rest f n r e = record {
  is = (f.to_is, f.line_is, n.is, r.each);
  spelled = f.spelled ∙ ap (before (codes "call t" ∷ decimal to ∷ codes " " ∷ decimal line ∷ codes " " ∷ []))
      (n.spelled ∙ sym (before_is (operand_pieces a) after) ∙ ap (λ l. operand_text a ++ l) (r.spelled ∙ ap (λ l. flat_map spaced_text given ++ l) e));
}

-- pauses
yield_stamp : (text : List ℕ) (to line : ℕ) (a : Operand) (rest : List ℕ) → HeadStands text (tree.Yield to line a) rest → StampStands (codes "yield t") text to line (operand_text a ++ (codes "\n" ++ rest))
yield_stamp text to line a rest s = record { to_is = s.is.0; line_is = s.is.1; spelled = s.spelled }

pub no_yield_stamp : (text : List ℕ) → ((to line : ℕ) (rest : List ℕ) → StampStands (codes "yield t") text to line rest → ⊥) → (to line : ℕ) (a : Operand) (rest : List ℕ) → HeadStands text (tree.Yield to line a) rest → ⊥
no_yield_stamp text none to line a rest s = none to line (operand_text a ++ (codes "\n" ++ rest)) (yield_stamp text to line a rest s)

pub yield_value : (text behind : List ℕ) (m k to line : ℕ) (a : Operand) (rest : List ℕ) → StampStands (codes "yield t") text m k behind → HeadStands text (tree.Yield to line a) rest → (m ≡ to) × (k ≡ line) × ValuedStands [] behind a rest
yield_value text behind m k to line a rest f s =
    let both = stamp_both (codes "yield t") text m k to line behind (operand_text a ++ (codes "\n" ++ rest)) f (yield_stamp text to line a rest s) in
    (both.0, both.1, record { is = s.is.2; spelled = both.2 })

pub yield_of : (text behind : List ℕ) (to line : ℕ) (a : Operand) (rest : List ℕ) → StampStands (codes "yield t") text to line behind → ValuedStands [] behind a rest → HeadStands text (tree.Yield to line a) rest
yield_of text behind to line a rest f v = record {
  is = (f.to_is, f.line_is, v.is);
  spelled = f.spelled ∙ ap (before (codes "yield t" ∷ decimal to ∷ codes " " ∷ decimal line ∷ codes " " ∷ [])) v.spelled;
}

-- a `leave` of no loop
pub leave_none : (text behind : List ℕ) (n : ℕ) → FieldStands (2 ^ 64) (codes "leave ") (codes "\n") text n behind → n ≡ 0 → (levels : ℕ) (rest : List ℕ) → HeadStands text (tree.Leave levels) rest → ⊥
leave_none text behind n f zero levels rest s =
    let same = (field_both (2 ^ 64) (codes "leave ") (codes "\n") text behind rest n levels (omega arith) refl f (record { fits = s.is.1; spelled = s.spelled })).0 in
    let some = s.is.0 in
    omega (arith, same, zero, some)

-- statements of one line, by their forms
abbrev NoValued : List ℕ → List ℕ → Type 0
NoValued word text = (a : Operand) (rest : List ℕ) → ValuedStands word text a rest → ⊥

pub no_simple : (text : List ℕ) → ((to line : ℕ) (o : Op) (given : List Argument) (rest : List ℕ) → HeadStands text (tree.Do to line o given) rest → ⊥) → ((to line : ℕ) (a : Operand) (given : List Operand) (rest : List ℕ) → HeadStands text (tree.Call to line a given) rest → ⊥)
    → ((to : ℕ) (c : Const) (rest : List ℕ) → HeadStands text (tree.Constant to c) rest → ⊥) → ((to from : ℕ) (rest : List ℕ) → HeadStands text (tree.Copy to from) rest → ⊥) → ((to line : ℕ) (a : Operand) (rest : List ℕ) → HeadStands text (tree.Yield to line a) rest → ⊥)
    → ((levels : ℕ) (rest : List ℕ) → HeadStands text (tree.Leave levels) rest → ⊥) → NoValued (codes "return ") text → NoValued (codes "raise ") text → ((n : ℕ) (rest : List ℕ) → FieldStands (2 ^ 64) (codes "unset t") (codes "\n") text n rest → ⊥)
    → (x : tree.Form) (rest : List ℕ) → IsSimple x → HeadStands text x rest → ⊥
no_simple text operation call constant copy yield leave return raise unset x rest simple stands = go x simple stands
  where
    go : (x : tree.Form) → IsSimple x → HeadStands text x rest → ⊥
    go (tree.Constant to c) simple s = constant to c rest s
    go (tree.Copy to from) simple s = copy to from rest s
    go (tree.Do to line o given) simple s = operation to line o given rest s
    go (tree.Call to line a given) simple s = call to line a given rest s
    go (tree.Yield to line a) simple s = yield to line a rest s
    go (tree.If test y n) simple s = simple
    go (tree.Loop body) simple s = simple
    go (tree.Leave levels) simple s = leave levels rest s
    go (tree.Catch to body handler) simple s = simple
    go (tree.Return a) simple s = return a rest (record { is = s.is; spelled = s.spelled })
    go (tree.Raise a) simple s = raise a rest (record { is = s.is; spelled = s.spelled })
    go (tree.Unset to) simple s = unset to rest (record { fits = s.is; spelled = s.spelled })

-- a statement without its blocks
abbrev pub bare : tree.Form → tree.Form
bare (tree.If test y n) = tree.If test tree.Stop tree.Stop
bare (tree.Loop body) = tree.Loop tree.Stop
bare (tree.Catch to body handler) = tree.Catch to tree.Stop tree.Stop
bare other = other

-- the form of a statement, told by three bytes
abbrev pub head_tag : tree.Form → ℕ
head_tag (tree.Constant to c) = 99111110
head_tag (tree.Copy to from) = 99111112
head_tag (tree.Do to line o args) = 100111032
head_tag (tree.Call to line function args) = 99097108
head_tag (tree.Yield to line a) = 121105101
head_tag (tree.If test y n) = 105102032
head_tag (tree.Loop body) = 108111111
head_tag (tree.Leave levels) = 108101097
head_tag (tree.Catch to body handler) = 99097116
head_tag (tree.Return a) = 114101116
head_tag (tree.Raise a) = 114097105
head_tag (tree.Unset to) = 117110115

head_tag_of : List ℕ → ℕ
head_tag_of text = get_or text 0 0 * 1000000 + get_or text 1 0 * 1000 + get_or text 2 0

head_tag_is : (x : tree.Form) (rest : List ℕ) → head_tag_of (before (head_pieces x) rest) ≡ head_tag x
unfolding head_tag_of
head_tag_is (tree.Constant to c) rest = refl
head_tag_is (tree.Copy to from) rest = refl
head_tag_is (tree.Do to line o args) rest = refl
head_tag_is (tree.Call to line function args) rest = refl
head_tag_is (tree.Yield to line a) rest = refl
head_tag_is (tree.If test y n) rest = refl
head_tag_is (tree.Loop body) rest = refl
head_tag_is (tree.Leave levels) rest = refl
head_tag_is (tree.Catch to body handler) rest = refl
head_tag_is (tree.Return a) rest = refl
head_tag_is (tree.Raise a) rest = refl
head_tag_is (tree.Unset to) rest = refl

numbered_both : (word text : List ℕ) (m n : ℕ) (x y : List ℕ) → m < 2 ^ 64 → n < 2 ^ 64 → text ≡ before (word ∷ decimal m ∷ codes "\n" ∷ []) x → text ≡ before (word ∷ decimal n ∷ codes "\n" ∷ []) y → (m ≡ n) × (x ≡ y)
numbered_both word text m n x y p q d e = field_both (2 ^ 64) word (codes "\n") text x y m n (omega arith) refl (record { fits = p; spelled = d }) (record { fits = q; spelled = e })

pub head_both : (text : List ℕ) (x y : tree.Form) (a b : List ℕ) → HeadStands text x a → HeadStands text y b → (bare x ≡ bare y) × (a ≡ b)
head_both text x y a b s t = go x y s t (sym (head_tag_is x a) ∙ ap head_tag_of (sym s.spelled ∙ t.spelled) ∙ head_tag_is y b)
  where
    go : (x y : tree.Form) → HeadStands text x a → HeadStands text y b → head_tag x ≡ head_tag y → (bare x ≡ bare y) × (a ≡ b)
    go (tree.Constant m c) (tree.Constant n d) s t same =
        let f = constant_field text m c a s in
        let k : ConstantStands (constant_text c ++ (codes "\n" ++ a)) c (codes "\n" ++ a) = record { is = s.is.1; spelled = before_is (constant_pieces c) (codes "\n" ++ a); ends = refl } in
        let both = constant_rest text (constant_text c ++ (codes "\n" ++ a)) (codes "\n" ++ a) m n c d b f k t in
        (ap (λ m. tree.Constant m c) both.0 ∙ ap (tree.Constant n) both.1, ap (drop 1) both.2)
    go (tree.Copy m k) (tree.Copy n l) s t same =
        let first = copy_from text (decimal k ++ (codes "\n" ++ a)) m n l b (copy_field text m k a s) t in
        let both = number_both (2 ^ 64) (codes "\n") (decimal k ++ (codes "\n" ++ a)) a b k l (omega arith) refl (record { fits = s.is.1; spelled = refl }) first.1 in
        (ap (λ m. tree.Copy m k) first.0 ∙ ap (tree.Copy n) both.0, both.1)
    go (tree.Do m k o given) (tree.Do n l p other) s t same =
        let f = do_stamp text m k o given a s in
        let there = do_rest text (op_name o ++ given_text given a) (given_text given a) (codes "\n" ++ a) m k n l o p given other b f (record { spelled = refl; letter = given_letter given a; digit = given_digit given a })
        (record { each = s.is.2; spelled = refl; ends = refl; all = line_end a }) t in
        (ap (λ m. tree.Do m k o given) there.0 ∙ ap (λ k. tree.Do n k o given) there.1 ∙ ap (λ o. tree.Do n l o given) there.2 ∙ ap (tree.Do n l p) there.3, ap (drop 1) there.4)
    go (tree.Call m k f given) (tree.Call n l g other) s t same =
        let stamp = call_stamp text m k f given a s in
        let there = call_rest text (operand_text f ++ handed_text given a) (handed_text given a) (codes "\n" ++ a) m k n l f g given other b stamp (operand_there (operand_text f ++ handed_text given a) f (handed_text given a) s.is.2 (handed_digit given a) refl)
        (record { each = s.is.3; spelled = refl; ends = refl; all = line_end a }) t in
        (ap (λ m. tree.Call m k f given) there.0 ∙ ap (λ k. tree.Call n k f given) there.1 ∙ ap (λ f. tree.Call n l f given) there.2 ∙ ap (tree.Call n l g) there.3, ap (drop 1) there.4)
    go (tree.Yield m k v) (tree.Yield n l w) s t same =
        let first = yield_value text (operand_text v ++ (codes "\n" ++ a)) m k n l w b (yield_stamp text m k v a s) t in
        let both = valued_both [] (operand_text v ++ (codes "\n" ++ a)) v w a b (record { is = s.is.2; spelled = refl }) first.2 in
        (ap (λ m. tree.Yield m k v) first.0 ∙ ap (λ k. tree.Yield n k v) first.1 ∙ ap (tree.Yield n l) both.0, both.1)
    go (tree.If v y n) (tree.If w z o) s t same =
        let both = valued_both (codes "if ") text v w a b (record { is = s.is; spelled = s.spelled }) (record { is = t.is; spelled = t.spelled }) in
        (ap (λ v. tree.If v tree.Stop tree.Stop) both.0, both.1)
    go (tree.Loop y) (tree.Loop z) s t same = (refl, ap (drop 5) (sym s.spelled ∙ t.spelled))
    go (tree.Leave m) (tree.Leave n) s t same = let both = numbered_both (codes "leave ") text m n a b s.is.1 t.is.1 s.spelled t.spelled in (ap tree.Leave both.0, both.1)
    go (tree.Catch m y h) (tree.Catch n z i) s t same = let both = numbered_both (codes "catch t") text m n a b s.is t.is s.spelled t.spelled in (ap (λ m. tree.Catch m tree.Stop tree.Stop) both.0, both.1)
    go (tree.Return v) (tree.Return w) s t same =
        let both = valued_both (codes "return ") text v w a b (record { is = s.is; spelled = s.spelled }) (record { is = t.is; spelled = t.spelled }) in
        (ap tree.Return both.0, both.1)
    go (tree.Raise v) (tree.Raise w) s t same =
        let both = valued_both (codes "raise ") text v w a b (record { is = s.is; spelled = s.spelled }) (record { is = t.is; spelled = t.spelled }) in
        (ap tree.Raise both.0, both.1)
    go (tree.Unset m) (tree.Unset n) s t same = let both = numbered_both (codes "unset t") text m n a b s.is t.is s.spelled t.spelled in (ap tree.Unset both.0, both.1)
    go x y s t same = absurd (omega (arith, same))
