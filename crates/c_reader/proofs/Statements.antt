-- Statements and lines: no other stands where one does.
use Rattle.std.proofs.Common.{◌≡◌, ℕ, ◌+◌, ◌<◌, ◌≤◌, ◌^◌, List, [], ◌∷◌, ◌++◌, length, get_or, drop, refl, sym, ◌∙◌, ap, arith, decimal, Bool, true, false, cond, Option, IfNone, Bor, length-append}
use Rattle.std.specs.Prelude.{codes, nat_eq}
use Rattle.std.specs.List.{AllByRecursion, flat_map}
use Rattle.std.specs.Str.{bytes_eq}
use Rattle.nu_text.specs.Pieces.{before}
use Rattle.nu_text.specs.Decimals.{starts_digit, is_digit}
use Rattle.nu_text.proofs.Pieces.{before_is}
use Rattle.nu_text.proofs.Decimals.{decimal_starts, nonempty}
use Rattle.op_forms.specs.declared.op.Op.{Op}
use Rattle.op_forms.specs.declared.op.Op.TheVariants as op
use Rattle.op_forms.specs.Names.{op_name}
use Rattle.op_forms.specs.declared.constant.Const.TheVariants as const
use Rattle.code_forms.specs.declared.operand.Operand.{Operand}
use Rattle.code_forms.specs.declared.operand.Operand.TheVariants as operand
use Rattle.c_meaning.specs.declared.program.Stored.{Stored}
use Rattle.c_meaning.specs.declared.program.Stored.TheVariants as stored
use Rattle.c_meaning.specs.declared.program.Statement.{Statement}
use Rattle.c_meaning.specs.declared.program.Statement.TheVariants as statement
use Rattle.c_meaning.specs.declared.program.Line.{Line}
use Rattle.c_meaning.specs.declared.program.Line.TheVariants as line
use Rattle.c_meaning.specs.Text.{operand_text, argument_text, fail_piece, stored_pieces, stored_text, case_pieces, case_text, cases_text, statement_pieces, line_pieces, line_text}
use Rattle.c_meaning.specs.Written.{IsNumber, IsStatement, IsBodyLine}
use Rattle.c_reader.specs.Pieces.{NumberStands, FieldStands}
use Rattle.c_reader.specs.Statements.{IsNotFront, CaseStands, CasesStand, StoredStands, StatementStands}
use Rattle.c_reader.proofs.Numbers.{same_rest, mapped_none, wide, number_both, field_both}
use Rattle.c_reader.proofs.Operands.{valued_both, jump_both, kept_both}
use Rattle.c_reader.proofs.Names.{word, word_is}
use Rattle.c_reader.proofs.Operations.{operation_both}
use Rattle.c_reader.proofs.Sequences.{numbered_more, none_left, lists_both}

-- the form of what is stored, told by its word
abbrev stored_tag : Stored → ℕ
stored_tag (stored.Value a) = 0
stored_tag stored.Unset = 1
stored_tag (stored.Parameter n) = 2
stored_tag (stored.Free n) = 3
stored_tag (stored.Load slot) = 4
stored_tag stored.Caught = 5
stored_tag (stored.Sent at fail) = 6
stored_tag (stored.Operation o at given fail) = 7

abbrev one_of : List (List ℕ) → ℕ → (List ℕ → ℕ) → List ℕ → ℕ
one_of [] tag other text = other text
one_of (w ∷ words) tag other text = cond (bytes_eq w text) tag (one_of words tag other text)

word_tag : List ℕ → ℕ
word_tag = one_of (codes "none" ∷ codes "true" ∷ codes "false" ∷ codes "int" ∷ codes "str" ∷ []) 0 (one_of (codes "unset" ∷ []) 1 (one_of (codes "arg" ∷ []) 2 (one_of (codes "free" ∷ []) 3
    (one_of (codes "load" ∷ []) 4 (one_of (codes "caught" ∷ []) 5 (one_of (codes "sent" ∷ []) 6 (λ _. 7)))))))

op_tag : (o : Op) → word_tag (op_name o) ≡ 7
unfolding word_tag
op_tag op.Global = refl
op_tag op.SetGlobal = refl
op_tag op.DelGlobal = refl
op_tag op.Local = refl
op_tag op.Cell = refl
op_tag op.CellSet = refl
op_tag op.CellGet = refl
op_tag op.CellDel = refl
op_tag op.FreeGet = refl
op_tag op.FreeDel = refl
op_tag op.Space = refl
op_tag op.SpaceGet = refl
op_tag op.SpaceSet = refl
op_tag op.SpaceDel = refl
op_tag op.Native = refl
op_tag op.Func = refl
op_tag op.Class = refl
op_tag op.Tuple = refl
op_tag op.List = refl
op_tag op.Dict = refl
op_tag op.Push = refl
op_tag op.Extend = refl
op_tag op.Put = refl
op_tag op.Merge = refl
op_tag op.KeyPut = refl
op_tag op.KeyMerge = refl
op_tag op.Add = refl
op_tag op.Sub = refl
op_tag op.Mul = refl
op_tag op.FloorDiv = refl
op_tag op.Mod = refl
op_tag op.Pow = refl
op_tag op.LShift = refl
op_tag op.RShift = refl
op_tag op.And = refl
op_tag op.Or = refl
op_tag op.Xor = refl
op_tag op.Neg = refl
op_tag op.Pos = refl
op_tag op.Inv = refl
op_tag op.IAdd = refl
op_tag op.IMul = refl
op_tag op.Eq = refl
op_tag op.Ne = refl
op_tag op.Lt = refl
op_tag op.Le = refl
op_tag op.Gt = refl
op_tag op.Ge = refl
op_tag op.Is = refl
op_tag op.IsNot = refl
op_tag op.In = refl
op_tag op.Not = refl
op_tag op.Truth = refl
op_tag op.Index = refl
op_tag op.SetIndex = refl
op_tag op.DelIndex = refl
op_tag op.Slice = refl
op_tag op.Iter = refl
op_tag op.Next = refl
op_tag op.Unpack = refl
op_tag op.UnpackStar = refl
op_tag op.Attr = refl
op_tag op.SetAttr = refl
op_tag op.DelAttr = refl
op_tag op.Find = refl
op_tag op.Manager = refl
op_tag op.Call = refl
op_tag op.CallX = refl
op_tag op.Exc = refl
op_tag op.Raise = refl
op_tag op.Match = refl
op_tag op.ClassOf = refl
op_tag op.Trace = refl

stored_tag_of : List ℕ → ℕ
stored_tag_of text = cond (nat_eq (get_or text 0 0) 114) 0 (word_tag (word (drop 3 text)))

value_tag : (a : Operand) (x : List ℕ) → stored_tag_of (operand_text a ++ (codes ";\n" ++ x)) ≡ 0
unfolding stored_tag_of word_tag
value_tag (operand.Temp n) x = refl
value_tag (operand.Const const.None) x = refl
value_tag (operand.Const (const.Bool true)) x = refl
value_tag (operand.Const (const.Bool false)) x = refl
value_tag (operand.Const (const.Int z)) x = refl
value_tag (operand.Const (const.Str text)) x = refl

op_stored : (o : Op) (rest : List ℕ) → stored_tag_of (codes "nu_" ++ (op_name o ++ (codes "(fr, " ++ rest))) ≡ 7
unfolding stored_tag_of
op_stored o rest = ap word_tag (word_is o rest) ∙ op_tag o

stored_tag_is : (s : Stored) (x : List ℕ) → stored_tag_of (before (stored_pieces s) x) ≡ stored_tag s
unfolding stored_tag_of word_tag
stored_tag_is (stored.Value a) x = value_tag a x
stored_tag_is stored.Unset x = refl
stored_tag_is (stored.Parameter n) x = refl
stored_tag_is (stored.Free n) x = refl
stored_tag_is (stored.Load slot) x = refl
stored_tag_is stored.Caught x = refl
stored_tag_is (stored.Sent at fail) x = refl
stored_tag_is (stored.Operation o at given fail) x = op_stored o (before (decimal at ∷ flat_map argument_text given ∷ fail_piece ∷ decimal fail ∷ codes ";\n" ∷ []) x)

pub sent_fail : (registers : ℕ) (text behind : List ℕ) (m at fail : ℕ) (rest : List ℕ) → FieldStands (2 ^ 32) (codes "nu_sent(fr, ") fail_piece text m behind → StoredStands registers text (stored.Sent at fail) rest → NumberStands (2 ^ 64) (codes ";\n") behind fail rest
sent_fail registers text behind m at fail rest f s = record {
  fits = s.is.1;
  spelled = (field_both (2 ^ 32) (codes "nu_sent(fr, ") fail_piece text behind (decimal fail ++ (codes ";\n" ++ rest)) m at (omega arith) refl f (record { fits = s.is.0; spelled = s.spelled })).1;
}

pub sent_of : (registers : ℕ) (text behind : List ℕ) (at fail : ℕ) (rest : List ℕ) → FieldStands (2 ^ 32) (codes "nu_sent(fr, ") fail_piece text at behind → NumberStands (2 ^ 64) (codes ";\n") behind fail rest → StoredStands registers text (stored.Sent at fail) rest
sent_of registers text behind at fail rest f n = record { is = (f.fits, n.fits); spelled = f.spelled ∙ ap (before (codes "nu_sent(fr, " ∷ decimal at ∷ fail_piece ∷ [])) n.spelled }

sent_both : (registers : ℕ) (text : List ℕ) (m n k l : ℕ) (x y : List ℕ) → StoredStands registers text (stored.Sent m k) x → StoredStands registers text (stored.Sent n l) y → (stored.Sent m k ≡ stored.Sent n l) × (x ≡ y)
sent_both registers text m n k l x y p q =
    let first = field_both (2 ^ 32) (codes "nu_sent(fr, ") fail_piece text (decimal k ++ (codes ";\n" ++ x)) (decimal l ++ (codes ";\n" ++ y)) m n (omega arith) refl (record { fits = p.is.0; spelled = p.spelled }) (record { fits = q.is.0; spelled = q.spelled }) in
    let labels = number_both (2 ^ 64) (codes ";\n") (decimal k ++ (codes ";\n" ++ x)) x y k l (omega arith) refl (record { fits = p.is.1; spelled = refl }) (record { fits = q.is.1; spelled = first.1 }) in
    (ap (λ a. stored.Sent a k) first.0 ∙ ap (stored.Sent n) labels.0, labels.1)

pub stored_both : (registers : ℕ) (text : List ℕ) (s t : Stored) (x y : List ℕ) → registers ≤ 2 ^ 64 → StoredStands registers text s x → StoredStands registers text t y → (s ≡ t) × (x ≡ y)
stored_both registers text s t x y small p q = go s t p q (sym (stored_tag_is s x) ∙ ap stored_tag_of (sym p.spelled ∙ q.spelled) ∙ stored_tag_is t y)
  where
    go : (s t : Stored) → StoredStands registers text s x → StoredStands registers text t y → stored_tag s ≡ stored_tag t → (s ≡ t) × (x ≡ y)
    go (stored.Value a) (stored.Value b) p q same =
        let both = valued_both registers [] (codes ";\n") text a b x y small refl (record { is = p.is; spelled = p.spelled }) (record { is = q.is; spelled = q.spelled }) in
        (ap stored.Value both.0, both.1)
    go stored.Unset stored.Unset p q same = (refl, ap (drop 10) (sym p.spelled ∙ q.spelled))
    go (stored.Parameter m) (stored.Parameter n) p q same =
        let both = field_both (2 ^ 64) (codes "nu_arg(fr, ") (codes ");\n") text x y m n (omega arith) refl (record { fits = p.is; spelled = p.spelled }) (record { fits = q.is; spelled = q.spelled }) in
        (ap stored.Parameter both.0, both.1)
    go (stored.Free m) (stored.Free n) p q same =
        let both = field_both (2 ^ 64) (codes "nu_free(fr, ") (codes ");\n") text x y m n (omega arith) refl (record { fits = p.is; spelled = p.spelled }) (record { fits = q.is; spelled = q.spelled }) in
        (ap stored.Free both.0, both.1)
    go (stored.Load m) (stored.Load n) p q same =
        let both = field_both (2 ^ 64) (codes "nu_load(fr, ") (codes ");\n") text x y m n (omega arith) refl (record { fits = p.is; spelled = p.spelled }) (record { fits = q.is; spelled = q.spelled }) in
        (ap stored.Load both.0, both.1)
    go stored.Caught stored.Caught p q same = (refl, ap (drop 15) (sym p.spelled ∙ q.spelled))
    go (stored.Sent m k) (stored.Sent n l) p q same = sent_both registers text m n k l x y p q
    go (stored.Operation o m given k) (stored.Operation p' n other l) p q same = operation_both registers text o p' m n given other k l x y small p q
    go s t p q same = absurd (omega (arith, same))

-- the cases of a switch
same_case : (n a b : ℕ) (x y : List ℕ) → IsNumber a → IsNumber b → case_text n a ++ x ≡ case_text n b ++ y → (a ≡ b) × (x ≡ y)
same_case n a b x y p q e =
    let left = decimal a ++ (codes ";" ++ x) in
    let right = decimal b ++ (codes ";" ++ y) in
    let behind : left ≡ right = ap (drop 8) (same_rest (decimal n) (codes ": goto L" ++ left) (codes ": goto L" ++ right) (ap (drop 6) (sym (before_is (case_pieces n a) x) ∙ e ∙ before_is (case_pieces n b) y))) in
    number_both (2 ^ 64) (codes ";") left x y a b (omega arith) refl (record { fits = p; spelled = refl }) (record { fits = q; spelled = behind })

case_apart : (n a : ℕ) (x y : List ℕ) → IsNotFront (codes " case ") y → case_text n a ++ x ≡ y → ⊥
case_apart n a x y none e = none (drop 6 (before (case_pieces n a) x)) (sym e ∙ before_is (case_pieces n a) x)

pub cases_both : (text : List ℕ) (labels other : List ℕ) (x y : List ℕ) → CasesStand text labels x → CasesStand text other y → (labels ≡ other) × (x ≡ y)
cases_both text labels other x y s t =
    lists_both case_text IsNumber (λ _. Unit {0}) (IsNotFront (codes " case ")) (λ n a b x y p q _ _. same_case n a b x y p q) (λ n a x _. tt) (λ n a x y _. case_apart n a x y) 0 labels other x y s.each t.each tt tt s.all t.all (sym s.spelled ∙ t.spelled)

pub no_case : (text left behind read : List ℕ) (k : ℕ) → text ≡ cases_text read ++ left → AllByRecursion IsNumber read → left ≡ codes " case " ++ behind → k ≡ length read → ((label : ℕ) (rest : List ℕ) → CaseStands k (codes " case " ++ behind) label rest → ⊥)
    → (labels rest : List ℕ) → CasesStand text labels rest → ⊥
no_case text left behind read k e each front is none labels rest s =
    none_left case_text IsNumber (λ _. Unit {0}) (IsNotFront (codes " case ")) (λ n a b x y p q _ _. same_case n a b x y p q) (λ n a x _. tt) (λ n a x y _. case_apart n a x y) 0 read labels left rest each s.each tt tt s.all (sym e ∙ s.spelled)
    (λ last. s.all behind (sym last ∙ front))
    (λ m a x next fits _ stand.
    let same : m ≡ k = omega (arith, next, is) in
    none a x (record { is = fits; spelled = sym front ∙ stand ∙ ap (λ l. case_text l a ++ x) same ∙ before_is (case_pieces k a) x }))

-- the label behind a case's number
pub case_number : (k : ℕ) (text : List ℕ) (label : ℕ) (rest : List ℕ) → CaseStands k (codes " case " ++ text) label rest → text ≡ before (decimal k ∷ codes ": goto L" ∷ []) (decimal label ++ (codes ";" ++ rest))
case_number k text label rest s = ap (drop 6) s.spelled

pub no_label : (k : ℕ) (text behind : List ℕ) (r : Option (ℕ × Bor (List ℕ))) → text ≡ before (decimal k ∷ codes ": goto L" ∷ []) behind → IfNone r ((n : ℕ) (rest : List ℕ) → NumberStands (2 ^ 64) (codes ";") behind n rest → ⊥)
    → IfNone r ((label : ℕ) (rest : List ℕ) → CaseStands k (codes " case " ++ text) label rest → ⊥)
no_label k text behind r e h =
    mapped_none r ((n : ℕ) (rest : List ℕ) → NumberStands (2 ^ 64) (codes ";") behind n rest → ⊥) ((label : ℕ) (rest : List ℕ) → CaseStands k (codes " case " ++ text) label rest → ⊥)
    (λ none label rest s. none label rest (record {
      fits = s.is;
      spelled = ap (drop 8) (same_rest (decimal k) (codes ": goto L" ++ behind) (codes ": goto L" ++ (decimal label ++ (codes ";" ++ rest))) (sym e ∙ case_number k text label rest s));
    })) h

-- one case more
pub next_case : (text left behind rest read new : List ℕ) (k label : ℕ) → text ≡ cases_text read ++ left → left ≡ codes " case " ++ behind → k ≡ length read → CaseStands k (codes " case " ++ behind) label rest → new ≡ read ++ label ∷ [] → text ≡ cases_text new ++ rest
next_case text left behind rest read new k label e front is s more =
    let place : k ≡ 0 + length read = omega (arith, is) in
    e ∙ ap (λ l. cases_text read ++ l) (front ∙ s.spelled ∙ sym (before_is (case_pieces k label) rest)) ∙ sym (numbered_more case_text 0 k read label rest place) ∙ ap (λ l. cases_text l ++ rest) (sym more)

no_more_cases : (x : List ℕ) → IsNotFront (codes " case ") (codes " }\n" ++ x)
no_more_cases x rest e = let bad : 125 ≡ 99 = ap (λ l. get_or l 1 0) e in omega (arith, bad)

pub switch_cases : (registers : ℕ) (text behind : List ℕ) (labels rest : List ℕ) → text ≡ codes "  switch (nu_resume(fr)) {" ++ behind → StatementStands registers text (statement.Switch labels) rest → CasesStand behind labels (codes " }\n" ++ rest)
switch_cases registers text behind labels rest e s =
    record { each = s.is.each; spelled = same_rest (codes "  switch (nu_resume(fr)) {") behind (cases_text labels ++ (codes " }\n" ++ rest)) (sym e ∙ s.spelled); all = no_more_cases rest }

pub switch_same : (registers : ℕ) (text behind after : List ℕ) (read labels rest : List ℕ) → text ≡ codes "  switch (nu_resume(fr)) {" ++ behind → CasesStand behind read after → StatementStands registers text (statement.Switch labels) rest
    → (read ≡ labels) × (after ≡ codes " }\n" ++ rest)
switch_same registers text behind after read labels rest e c s = cases_both behind read labels after (codes " }\n" ++ rest) c (switch_cases registers text behind labels rest e s)

pub no_empty_switch : (registers : ℕ) (text behind after : List ℕ) (read : List ℕ) → text ≡ codes "  switch (nu_resume(fr)) {" ++ behind → CasesStand behind read after → length read ≡ 0 → (labels rest : List ℕ) → StatementStands registers text (statement.Switch labels) rest → ⊥
no_empty_switch registers text behind after read e c empty labels rest s =
    let same = (switch_same registers text behind after read labels rest e c s).0 in
    let long = s.is.some in
    let short : length labels ≡ 0 = sym (ap length same) ∙ empty in
    omega (arith, long, short)

-- what is stored behind a register
pub store_what : (registers : ℕ) (text behind : List ℕ) (m to : ℕ) (what : Stored) (rest : List ℕ) → registers ≤ 2 ^ 64 → FieldStands registers (codes "  r") (codes " = ") text m behind → StatementStands registers text (statement.Store to what) rest → StoredStands registers behind what rest
store_what registers text behind m to what rest small f s = record {
  is = s.is.1;
  spelled = (field_both registers (codes "  r") (codes " = ") text behind (stored_text what ++ rest) m to (omega (arith, small)) refl f (record { fits = s.is.0; spelled = s.spelled })).1 ∙ before_is (stored_pieces what) rest;
}

pub store_of : (registers : ℕ) (text behind : List ℕ) (to : ℕ) (what : Stored) (rest : List ℕ) → FieldStands registers (codes "  r") (codes " = ") text to behind → StoredStands registers behind what rest → StatementStands registers text (statement.Store to what) rest
store_of registers text behind to what rest f s = record {
  is = (f.fits, s.is);
  spelled = f.spelled ∙ ap (before (codes "  r" ∷ decimal to ∷ codes " = " ∷ [])) (s.spelled ∙ sym (before_is (stored_pieces what) rest));
}

-- a decimal begins with a digit
digit_first : (n : ℕ) (rest : List ℕ) → n < 10 ^ 64 → starts_digit (decimal n ++ rest) ≡ true
digit_first n rest small = go (decimal n ++ rest) refl
  where
    on : (b : ℕ) (more : List ℕ) (d : Bool) → is_digit b ≡ d → decimal n ++ rest ≡ b ∷ more → d ≡ true
    on b more true h e = refl
    on b more false h e = absurd (decimal_starts n b rest more small h e)

    go : (l : List ℕ) → decimal n ++ rest ≡ l → starts_digit l ≡ true
    go [] e =
        let some = nonempty n small in
        let all = length-append (decimal n) rest in
        let zero_long : length (decimal n ++ rest) ≡ 0 = ap length e in
        absurd (omega (arith, some, all, zero_long))
    go (b ∷ more) e = on b more (is_digit b) refl e

-- the form of a statement, told by a few bytes
abbrev statement_tag : Statement → ℕ
statement_tag (statement.Store to what) = 0
statement_tag (statement.Goto label) = 103
statement_tag (statement.Branch test label) = 105
statement_tag (statement.Again exception label) = 2097
statement_tag (statement.Give value) = 1103
statement_tag statement.End = 1101
statement_tag statement.Fail = 1102
statement_tag (statement.Switch labels) = 115
statement_tag (statement.Save slot value) = 2115
statement_tag (statement.Pause number value) = 1112

statement_tag_of : List ℕ → ℕ
statement_tag_of text =
    cond (starts_digit (drop 3 text)) 0
    (cond (nat_eq (get_or text 3 0) 101) (1000 + get_or text 12 0) (cond (nat_eq (get_or text 2 0) 110) (2000 + get_or text 5 0) (get_or text 2 0)))

when_true : (b : Bool) (x y : ℕ) → b ≡ true → cond b x y ≡ x
when_true true x y e = refl
when_true false x y e = absurd (grind (arith, e))

statement_tag_is : (registers : ℕ) (s : Statement) (x : List ℕ) → registers ≤ 2 ^ 64 → IsStatement registers s → statement_tag_of (before (statement_pieces s) x) ≡ statement_tag s
unfolding statement_tag_of
statement_tag_is registers (statement.Store to what) x small p =
    let least = p.0 in
    when_true (starts_digit (decimal to ++ (codes " = " ++ (stored_text what ++ x)))) 0 _ (digit_first to (codes " = " ++ (stored_text what ++ x)) (wide to (omega (arith, least, small))))
statement_tag_is registers (statement.Goto label) x small p = refl
statement_tag_is registers (statement.Branch test label) x small p = refl
statement_tag_is registers (statement.Again exception label) x small p = refl
statement_tag_is registers (statement.Give value) x small p = refl
statement_tag_is registers statement.End x small p = refl
statement_tag_is registers statement.Fail x small p = refl
statement_tag_is registers (statement.Switch labels) x small p = refl
statement_tag_is registers (statement.Save slot value) x small p = refl
statement_tag_is registers (statement.Pause number value) x small p = refl

pub statement_both : (registers : ℕ) (text : List ℕ) (s t : Statement) (x y : List ℕ) → registers ≤ 2 ^ 64 → StatementStands registers text s x → StatementStands registers text t y → (s ≡ t) × (x ≡ y)
statement_both registers text s t x y small p q = go s t p q (sym (statement_tag_is registers s x small p.is) ∙ ap statement_tag_of (sym p.spelled ∙ q.spelled) ∙ statement_tag_is registers t y small q.is)
  where
    go : (s t : Statement) → StatementStands registers text s x → StatementStands registers text t y → statement_tag s ≡ statement_tag t → (s ≡ t) × (x ≡ y)
    go (statement.Store m a) (statement.Store n b) p q same =
        let first = field_both registers (codes "  r") (codes " = ") text (stored_text a ++ x) (stored_text b ++ y) m n (omega (arith, small)) refl (record { fits = p.is.0; spelled = p.spelled }) (record { fits = q.is.0; spelled = q.spelled }) in
        let what = stored_both registers (stored_text a ++ x) a b x y small (record { is = p.is.1; spelled = before_is (stored_pieces a) x }) (record { is = q.is.1; spelled = first.1 ∙ before_is (stored_pieces b) y }) in
        (ap (λ n. statement.Store n a) first.0 ∙ ap (statement.Store n) what.0, what.1)
    go (statement.Goto m) (statement.Goto n) p q same =
        let both = field_both (2 ^ 64) (codes "  goto L") (codes ";\n") text x y m n (omega arith) refl (record { fits = p.is; spelled = p.spelled }) (record { fits = q.is; spelled = q.spelled }) in
        (ap statement.Goto both.0, both.1)
    go (statement.Branch a k) (statement.Branch b l) p q same =
        let both = jump_both registers (codes "  if (nu_is(") (codes ")) goto L") text a b k l x y small refl (record { is = p.is.0; label_is = p.is.1; spelled = p.spelled }) (record { is = q.is.0; label_is = q.is.1; spelled = q.spelled }) in
        (ap (λ a. statement.Branch a k) both.0 ∙ ap (statement.Branch b) both.1, both.2)
    go (statement.Again a k) (statement.Again b l) p q same =
        let both = jump_both registers (codes "  nu_again(fr, ") (codes "); goto L") text a b k l x y small refl (record { is = p.is.0; label_is = p.is.1; spelled = p.spelled }) (record { is = q.is.0; label_is = q.is.1; spelled = q.spelled }) in
        (ap (λ a. statement.Again a k) both.0 ∙ ap (statement.Again b) both.1, both.2)
    go (statement.Give a) (statement.Give b) p q same =
        let both = valued_both registers (codes "  return nu_give(fr, ") (codes ");\n") text a b x y small refl (record { is = p.is; spelled = p.spelled }) (record { is = q.is; spelled = q.spelled }) in
        (ap statement.Give both.0, both.1)
    go statement.End statement.End p q same = (refl, ap (drop 21) (sym p.spelled ∙ q.spelled))
    go statement.Fail statement.Fail p q same = (refl, ap (drop 22) (sym p.spelled ∙ q.spelled))
    go (statement.Switch a) (statement.Switch b) p q same =
        let both = cases_both (cases_text a ++ (codes " }\n" ++ x)) a b (codes " }\n" ++ x) (codes " }\n" ++ y) (record { each = p.is.each; spelled = refl; all = no_more_cases x })
        (record { each = q.is.each; spelled = ap (drop 26) (sym p.spelled ∙ q.spelled); all = no_more_cases y }) in
        (ap statement.Switch both.0, ap (drop 3) both.1)
    go (statement.Save m a) (statement.Save n b) p q same =
        let both = kept_both registers (codes "  nu_save(fr, ") text m n a b x y small (record { number = p.is.0; is = p.is.1; spelled = p.spelled }) (record { number = q.is.0; is = q.is.1; spelled = q.spelled }) in
        (ap (λ n. statement.Save n a) both.0 ∙ ap (statement.Save n) both.1, both.2)
    go (statement.Pause m a) (statement.Pause n b) p q same =
        let both = kept_both registers (codes "  return nu_pause(fr, ") text m n a b x y small (record { number = p.is.0; is = p.is.1; spelled = p.spelled }) (record { number = q.is.0; is = q.is.1; spelled = q.spelled }) in
        (ap (λ n. statement.Pause n a) both.0 ∙ ap (statement.Pause n) both.1, both.2)
    go s t p q same = absurd (omega (arith, same))

-- a line begins with a space or an L
abbrev line_tag : Line → ℕ
line_tag (line.Do s) = 32
line_tag (line.Label label) = 76

line_first : (l : Line) (x : List ℕ) → get_or (before (line_pieces l) x) 0 0 ≡ line_tag l
line_first (line.Label label) x = refl
line_first (line.Do (statement.Store to what)) x = refl
line_first (line.Do (statement.Goto label)) x = refl
line_first (line.Do (statement.Branch test label)) x = refl
line_first (line.Do (statement.Again exception label)) x = refl
line_first (line.Do (statement.Give value)) x = refl
line_first (line.Do statement.End) x = refl
line_first (line.Do statement.Fail) x = refl
line_first (line.Do (statement.Switch labels)) x = refl
line_first (line.Do (statement.Save slot value)) x = refl
line_first (line.Do (statement.Pause number value)) x = refl

pub line_both : (registers : ℕ) (l m : Line) (x y : List ℕ) → registers ≤ 2 ^ 64 → IsBodyLine registers l → IsBodyLine registers m → line_text l ++ x ≡ line_text m ++ y → (l ≡ m) × (x ≡ y)
line_both registers l m x y small p q e = go l m p q (sym (before_is (line_pieces l) x) ∙ e ∙ before_is (line_pieces m) y)
  where
    go : (l m : Line) → IsBodyLine registers l → IsBodyLine registers m → before (line_pieces l) x ≡ before (line_pieces m) y → (l ≡ m) × (x ≡ y)
    go (line.Do s) (line.Do t) p q e =
        let both = statement_both registers (before (statement_pieces s) x) s t x y small (record { is = p; spelled = refl }) (record { is = q; spelled = e }) in
        (ap line.Do both.0, both.1)
    go (line.Label m) (line.Label n) p q e =
        let both = field_both (2 ^ 64) (codes "L") (codes ":;\n") (before (line_pieces (line.Label m)) x) x y m n (omega arith) refl (record { fits = p; spelled = refl }) (record { fits = q; spelled = e }) in
        (ap line.Label both.0, both.1)
    go (line.Do s) (line.Label n) p q e = let bad : 32 ≡ 76 = sym (line_first (line.Do s) x) ∙ ap (λ l. get_or l 0 0) e in absurd (omega (arith, bad))
    go (line.Label n) (line.Do s) p q e = let bad : 76 ≡ 32 = ap (λ l. get_or l 0 0) e ∙ line_first (line.Do s) y in absurd (omega (arith, bad))

-- a body ends where a brace stands
pub line_apart : (l : Line) (x y : List ℕ) → line_text l ++ x ≡ codes "}\n" ++ y → ⊥
line_apart l x y e = go l (sym (line_first l x) ∙ ap (λ t. get_or t 0 0) (sym (before_is (line_pieces l) x) ∙ e))
  where
    go : (l : Line) → line_tag l ≡ 125 → ⊥
    go (line.Do s) e = omega (arith, e)
    go (line.Label label) e = omega (arith, e)
