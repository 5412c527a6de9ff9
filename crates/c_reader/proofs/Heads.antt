-- What stands in front of a function's body, and whole functions: no others stand where they do.
use Rattle.std.proofs.Common.{◌≡◌, ℕ, ◌^◌, List, [], ◌∷◌, ◌++◌, get_or, drop, refl, sym, ◌∙◌, ap, subst, append_assoc, arith, decimal, Bool, true, false, Option, IfNone, Bor}
use Rattle.std.specs.Prelude.{codes}
use Rattle.std.specs.List.{flat_map}
use Rattle.nu_text.specs.Pieces.{before}
use Rattle.nu_text.specs.Strings.{string_text}
use Rattle.nu_text.proofs.Pieces.{before_is}
use Rattle.nu_text.proofs.Strings.{string_both}
use Rattle.nu_value.specs.declared.header.ParamKind.{ParamKind}
use Rattle.nu_value.specs.declared.header.Header as header
use Rattle.c_meaning.specs.declared.program.Statement.TheVariants as statement
use Rattle.c_meaning.specs.declared.program.Line.{Line}
use Rattle.c_meaning.specs.declared.program.Line.TheVariants as line
use Rattle.c_meaning.specs.declared.program.Function as function
use Rattle.c_meaning.specs.Text.{params_text, kind_text, line_text, line_pieces, declaration_text, code_pieces, header_pieces, function_pieces}
use Rattle.c_reader.specs.Pieces.{StringStands, NumberStands}
use Rattle.c_reader.specs.Statements.{IsNotFront}
use Rattle.c_reader.specs.Params.{ParamsStand}
use Rattle.c_reader.specs.Functions.{OpeningStands, FrontStands, KindStands, BackStands, DeclarationStands, HeaderStands, BodyStands, FunctionStands}
use Rattle.c_reader.proofs.Numbers.{same_rest, mapped_none, number_both}
use Rattle.c_reader.proofs.Shapes.{params_both}
use Rattle.c_reader.proofs.Declarations.{declaration_both}
use Rattle.c_reader.proofs.Bodies.{body_both}

pub opening_both : (opening : List ℕ) (n : ℕ) (closing text x y : List ℕ) → OpeningStands opening n closing text x → OpeningStands opening n closing text y → x ≡ y
opening_both opening n closing text x y s t =
    same_rest closing x y (same_rest (decimal n) (closing ++ x) (closing ++ y) (same_rest opening (decimal n ++ (closing ++ x)) (decimal n ++ (closing ++ y)) (sym s.spelled ∙ t.spelled)))

pub no_opening : (opening : List ℕ) (n : ℕ) (closing text behind : List ℕ) (r : Option (Bor (List ℕ))) → text ≡ opening ++ behind → IfNone r ((rest : List ℕ) → behind ≡ before (decimal n ∷ closing ∷ []) rest → ⊥) → IfNone r ((rest : List ℕ) → OpeningStands opening n closing text rest → ⊥)
no_opening opening n closing text behind r e h =
    mapped_none r ((rest : List ℕ) → behind ≡ before (decimal n ∷ closing ∷ []) rest → ⊥) ((rest : List ℕ) → OpeningStands opening n closing text rest → ⊥)
    (λ none rest s. none rest (same_rest opening behind (decimal n ++ (closing ++ rest)) (sym e ∙ s.spelled))) h

-- the first line, as far as the kind
abbrev Code : ℕ → List ℕ → List ℕ → Type 0
Code n text rest = OpeningStands (codes "NU_CODE(") n (codes ", ") text rest

front_opening : (n : ℕ) (text scope : List ℕ) (params : List (ParamKind × List ℕ)) (rest : List ℕ) → FrontStands n text scope params rest → Code n text (string_text scope ++ (codes ", " ++ (string_text (params_text params) ++ (codes ", " ++ rest))))
front_opening n text scope params rest s = record { spelled = s.spelled }

pub no_code : (n : ℕ) (text : List ℕ) → ((rest : List ℕ) → Code n text rest → ⊥) → (scope : List ℕ) (params : List (ParamKind × List ℕ)) (rest : List ℕ) → FrontStands n text scope params rest → ⊥
no_code n text none scope params rest s = none (string_text scope ++ (codes ", " ++ (string_text (params_text params) ++ (codes ", " ++ rest)))) (front_opening n text scope params rest s)

pub front_scope : (n : ℕ) (text behind scope : List ℕ) (params : List (ParamKind × List ℕ)) (rest : List ℕ) → Code n text behind → FrontStands n text scope params rest → StringStands behind scope (codes ", " ++ (string_text (params_text params) ++ (codes ", " ++ rest)))
front_scope n text behind scope params rest c s = record {
  utf8 = s.scope_is;
  spelled = opening_both (codes "NU_CODE(") n (codes ", ") text behind (string_text scope ++ (codes ", " ++ (string_text (params_text params) ++ (codes ", " ++ rest)))) c (front_opening n text scope params rest s);
}

pub front_comma : (n : ℕ) (text behind after read scope : List ℕ) (params : List (ParamKind × List ℕ)) (rest : List ℕ) → Code n text behind → StringStands behind read after → FrontStands n text scope params rest
    → (read ≡ scope) × (after ≡ codes ", " ++ (string_text (params_text params) ++ (codes ", " ++ rest)))
front_comma n text behind after read scope params rest c r s =
    let there = front_scope n text behind scope params rest c s in
    string_both read scope after (codes ", " ++ (string_text (params_text params) ++ (codes ", " ++ rest))) (sym r.spelled ∙ there.spelled)

pub front_params : (n : ℕ) (text behind after inner read scope : List ℕ) (params : List (ParamKind × List ℕ)) (rest : List ℕ) → Code n text behind → StringStands behind read after → after ≡ codes ", " ++ inner → FrontStands n text scope params rest
    → ParamsStand inner params (codes ", " ++ rest)
front_params n text behind after inner read scope params rest c r e s = record {
  each = s.each;
  order = s.order;
  spelled = ap (drop 2) (sym e ∙ (front_comma n text behind after read scope params rest c r s).1);
}

pub front_last : (n : ℕ) (text behind after inner last read scope : List ℕ) (given params : List (ParamKind × List ℕ)) (rest : List ℕ) → Code n text behind → StringStands behind read after → after ≡ codes ", " ++ inner → ParamsStand inner given last
    → FrontStands n text scope params rest → (given ≡ params) × (last ≡ codes ", " ++ rest)
front_last n text behind after inner last read scope given params rest c r e p s = params_both inner given params last (codes ", " ++ rest) p (front_params n text behind after inner read scope params rest c r e s)

pub front_of : (n : ℕ) (text behind after inner last scope : List ℕ) (params : List (ParamKind × List ℕ)) (rest : List ℕ) → Code n text behind → StringStands behind scope after → after ≡ codes ", " ++ inner → ParamsStand inner params last → last ≡ codes ", " ++ rest
    → FrontStands n text scope params rest
front_of n text behind after inner last scope params rest c r e p l = record {
  scope_is = r.utf8;
  each = p.each;
  order = p.order;
  spelled = c.spelled ∙ ap (before (codes "NU_CODE(" ∷ decimal n ∷ codes ", " ∷ []))
      (r.spelled ∙ ap (λ t. string_text scope ++ t) (e ∙ ap (λ t. codes ", " ++ t) (p.spelled ∙ ap (λ t. string_text (params_text params) ++ t) l)));
}

pub front_both : (n : ℕ) (text scope scope' : List ℕ) (params params' : List (ParamKind × List ℕ)) (x y : List ℕ) → FrontStands n text scope params x → FrontStands n text scope' params' y → (scope ≡ scope') × (params ≡ params') × (x ≡ y)
front_both n text scope scope' params params' x y s t =
    let inner = string_text (params_text params) ++ (codes ", " ++ x) in
    let behind = string_text scope ++ (codes ", " ++ inner) in
    let c = front_opening n text scope params x s in
    let r : StringStands behind scope (codes ", " ++ inner) = record { utf8 = s.scope_is; spelled = refl } in
    let p : ParamsStand inner params (codes ", " ++ x) = record { each = s.each; order = s.order; spelled = refl } in
    let last = front_last n text behind (codes ", " ++ inner) inner (codes ", " ++ x) scope scope' params params' y c r refl p t in
    ((front_comma n text behind (codes ", " ++ inner) scope scope' params' y c r t).0, last.0, ap (drop 2) last.1)

-- the rest of the first line
kind_both : (k l : Bool) (x y : List ℕ) → kind_text k ++ x ≡ kind_text l ++ y → (k ≡ l) × (x ≡ y)
kind_both false false x y e = (refl, ap (drop 1) e)
kind_both false true x y e = let bad : 48 ≡ 49 = ap (λ t. get_or t 0 0) e in absurd (omega (arith, bad))
kind_both true false x y e = let bad : 49 ≡ 48 = ap (λ t. get_or t 0 0) e in absurd (omega (arith, bad))
kind_both true true x y e = (refl, ap (drop 1) e)

pub no_kind : (text : List ℕ) → ((rest : List ℕ) → text ≡ codes "0, " ++ rest → ⊥) → ((rest : List ℕ) → text ≡ codes "1, " ++ rest → ⊥) → (generator : Bool) (rest : List ℕ) → KindStands text generator rest → ⊥
no_kind text none other false rest s = none rest s.spelled
no_kind text none other true rest s = other rest s.spelled

pub back_kind : (text : List ℕ) (generator : Bool) (slots at : ℕ) (rest : List ℕ) → BackStands text generator slots at rest → KindStands text generator (decimal slots ++ (codes ", " ++ (decimal at ++ (codes ")\n" ++ rest))))
back_kind text generator slots at rest s = record { spelled = s.spelled }

pub back_slots : (text behind : List ℕ) (k generator : Bool) (slots at : ℕ) (rest : List ℕ) → KindStands text k behind → BackStands text generator slots at rest → (k ≡ generator) × NumberStands (2 ^ 64) (codes ", ") behind slots (decimal at ++ (codes ")\n" ++ rest))
back_slots text behind k generator slots at rest e s =
    let both = kind_both k generator (codes ", " ++ behind) (codes ", " ++ (decimal slots ++ (codes ", " ++ (decimal at ++ (codes ")\n" ++ rest))))) (sym e.spelled ∙ s.spelled) in
    (both.0, record { fits = s.slots_are; spelled = ap (drop 2) both.1 })

pub back_line : (text behind after : List ℕ) (k generator : Bool) (read slots at : ℕ) (rest : List ℕ) → KindStands text k behind → NumberStands (2 ^ 64) (codes ", ") behind read after → BackStands text generator slots at rest → (k ≡ generator) × (read ≡ slots) × NumberStands (2 ^ 32) (codes ")\n") after at rest
back_line text behind after k generator read slots at rest e n s =
    let there = back_slots text behind k generator slots at rest e s in
    let both = number_both (2 ^ 64) (codes ", ") behind after (decimal at ++ (codes ")\n" ++ rest)) read slots (omega arith) refl n there.1 in
    (there.0, both.0, record { fits = s.line; spelled = both.1 })

pub back_both : (text : List ℕ) (k generator : Bool) (slots slots' at at' : ℕ) (x y : List ℕ) → BackStands text k slots at x → BackStands text generator slots' at' y → (k ≡ generator) × (slots ≡ slots') × (at ≡ at') × (x ≡ y)
back_both text k generator slots slots' at at' x y s t =
    let behind = decimal slots ++ (codes ", " ++ (decimal at ++ (codes ")\n" ++ x))) in
    let line = back_line text behind (decimal at ++ (codes ")\n" ++ x)) k generator slots slots' at' y (back_kind text k slots at x s) (record { fits = s.slots_are; spelled = refl }) t in
    let both = number_both (2 ^ 32) (codes ")\n") (decimal at ++ (codes ")\n" ++ x)) x y at at' (omega arith) refl (record { fits = s.line; spelled = refl }) line.2 in
    (line.0, line.1, both.0, both.1)

pub no_line_zero : (text behind after : List ℕ) (k : Bool) (read line : ℕ) (x : List ℕ) → KindStands text k behind → NumberStands (2 ^ 64) (codes ", ") behind read after → NumberStands (2 ^ 32) (codes ")\n") after line x → line ≡ 0
    → (generator : Bool) (slots at : ℕ) (rest : List ℕ) → BackStands text generator slots at rest → ⊥
no_line_zero text behind after k read line x e n m zero generator slots at rest s =
    let both = number_both (2 ^ 32) (codes ")\n") after x rest line at (omega arith) refl m (back_line text behind after k generator read slots at rest e n s).2 in
    let some = s.from_one in
    let same = both.0 in
    omega (arith, some, same, zero)

-- the header's parts
abbrev back_text : Bool → ℕ → ℕ → List ℕ → List ℕ
back_text generator slots at rest = before (kind_text generator ∷ codes ", " ∷ decimal slots ∷ codes ", " ∷ decimal at ∷ codes ")\n" ∷ []) rest

abbrev opening_text : ℕ → List ℕ → List ℕ
opening_text n rest = before (codes "nu nu_code_" ∷ decimal n ∷ codes "(nu_frame *fr)\n" ∷ []) (codes "{\n" ++ rest)

abbrev declared_text : ℕ → List ℕ → List ℕ
declared_text registers rest = declaration_text registers ++ rest

-- what stands behind the parameters
abbrev behind_params : ℕ → header.Header → ℕ → ℕ → List ℕ → List ℕ
behind_params n h slots registers rest = back_text h.generator slots h.line (opening_text n (declared_text registers rest))

header_front : (n : ℕ) (text : List ℕ) (h : header.Header) (slots registers : ℕ) (rest : List ℕ) → HeaderStands n text h slots registers rest → FrontStands n text h.scope h.params (behind_params n h slots registers rest)
header_front n text h slots registers rest s = record {
  scope_is = s.is.scope;
  each = s.is.params;
  order = s.is.order;
  spelled = s.spelled ∙ before_is (code_pieces n h slots) (opening_text n (declared_text registers rest));
}

pub no_front : (n : ℕ) (text : List ℕ) → ((scope : List ℕ) (params : List (ParamKind × List ℕ)) (rest : List ℕ) → FrontStands n text scope params rest → ⊥) → (h : header.Header) (slots registers : ℕ) (rest : List ℕ) → HeaderStands n text h slots registers rest → ⊥
no_front n text none h slots registers rest s = none h.scope h.params (behind_params n h slots registers rest) (header_front n text h slots registers rest s)

pub header_back : (n : ℕ) (text behind scope : List ℕ) (params : List (ParamKind × List ℕ)) (h : header.Header) (slots registers : ℕ) (rest : List ℕ) → FrontStands n text scope params behind → HeaderStands n text h slots registers rest
    → BackStands behind h.generator slots h.line (opening_text n (declared_text registers rest))
header_back n text behind scope params h slots registers rest f s = record {
  slots_are = s.slots_are;
  from_one = s.is.from_one;
  line = s.is.line;
  spelled = (front_both n text scope h.scope params h.params behind (behind_params n h slots registers rest) f (header_front n text h slots registers rest s)).2;
}

pub header_opening : (n : ℕ) (text behind after scope : List ℕ) (params : List (ParamKind × List ℕ)) (k : Bool) (m at : ℕ) (h : header.Header) (slots registers : ℕ) (rest : List ℕ) → FrontStands n text scope params behind → BackStands behind k m at after → HeaderStands n text h slots registers rest
    → OpeningStands (codes "nu nu_code_") n (codes "(nu_frame *fr)\n") after (codes "{\n" ++ declared_text registers rest)
header_opening n text behind after scope params k m at h slots registers rest f b s =
    record { spelled = (back_both behind k h.generator m slots at h.line after (opening_text n (declared_text registers rest)) b (header_back n text behind scope params h slots registers rest f s)).3 }

pub header_brace : (n : ℕ) (text behind after opened scope : List ℕ) (params : List (ParamKind × List ℕ)) (k : Bool) (m at : ℕ) (h : header.Header) (slots registers : ℕ) (rest : List ℕ) → FrontStands n text scope params behind → BackStands behind k m at after
    → OpeningStands (codes "nu nu_code_") n (codes "(nu_frame *fr)\n") after opened → HeaderStands n text h slots registers rest → opened ≡ codes "{\n" ++ declared_text registers rest
header_brace n text behind after opened scope params k m at h slots registers rest f b o s =
    opening_both (codes "nu nu_code_") n (codes "(nu_frame *fr)\n") after opened (codes "{\n" ++ declared_text registers rest) o (header_opening n text behind after scope params k m at h slots registers rest f b s)

pub header_declared : (n : ℕ) (text behind after opened inner scope : List ℕ) (params : List (ParamKind × List ℕ)) (k : Bool) (m at : ℕ) (h : header.Header) (slots registers : ℕ) (rest : List ℕ) → FrontStands n text scope params behind → BackStands behind k m at after
    → OpeningStands (codes "nu nu_code_") n (codes "(nu_frame *fr)\n") after opened → opened ≡ codes "{\n" ++ inner → HeaderStands n text h slots registers rest → DeclarationStands inner registers rest
header_declared n text behind after opened inner scope params k m at h slots registers rest f b o e s = record {
  fits = s.registers_are;
  spelled = ap (drop 2) (sym e ∙ header_brace n text behind after opened scope params k m at h slots registers rest f b o s);
  all = s.all;
}

abbrev made : List ℕ → List (ParamKind × List ℕ) → Bool → ℕ → header.Header
made scope params generator at = record { scope = scope; params = params; generator = generator; line = at }

pub header_of : (n : ℕ) (text behind after opened inner scope : List ℕ) (params : List (ParamKind × List ℕ)) (generator : Bool) (slots at registers : ℕ) (rest : List ℕ) → FrontStands n text scope params behind → BackStands behind generator slots at after
    → OpeningStands (codes "nu nu_code_") n (codes "(nu_frame *fr)\n") after opened → opened ≡ codes "{\n" ++ inner → DeclarationStands inner registers rest → HeaderStands n text (made scope params generator at) slots registers rest
header_of n text behind after opened inner scope params generator slots at registers rest f b o e d = record {
  is = record { scope = f.scope_is; params = f.each; order = f.order; from_one = b.from_one; line = b.line };
  slots_are = b.slots_are;
  registers_are = d.fits;
  spelled = f.spelled ∙ ap (before (codes "NU_CODE(" ∷ decimal n ∷ codes ", " ∷ string_text scope ∷ codes ", " ∷ string_text (params_text params) ∷ codes ", " ∷ []))
      (b.spelled ∙ ap (before (kind_text generator ∷ codes ", " ∷ decimal slots ∷ codes ", " ∷ decimal at ∷ codes ")\n" ∷ []))
      (o.spelled ∙ ap (before (codes "nu nu_code_" ∷ decimal n ∷ codes "(nu_frame *fr)\n" ∷ [])) (e ∙ ap (λ t. codes "{\n" ++ t) d.spelled)))
      ∙ sym (before_is (code_pieces n (made scope params generator at) slots) (opening_text n (declaration_text registers ++ rest)));
  all = d.all;
}

pub header_both : (n : ℕ) (text : List ℕ) (h k : header.Header) (m slots q registers : ℕ) (x y : List ℕ) → HeaderStands n text h m q x → HeaderStands n text k slots registers y → (h ≡ k) × (m ≡ slots) × (q ≡ registers) × (x ≡ y)
header_both n text h k m slots q registers x y s t =
    let behind = behind_params n h m q x in
    let after = opening_text n (declared_text q x) in
    let f = header_front n text h m q x s in
    let front = front_both n text h.scope k.scope h.params k.params behind (behind_params n k slots registers y) f (header_front n text k slots registers y t) in
    let b = header_back n text behind h.scope h.params h m q x f s in
    let back = back_both behind h.generator k.generator m slots h.line k.line after (opening_text n (declared_text registers y)) b (header_back n text behind h.scope h.params k slots registers y f t) in
    let o = header_opening n text behind after h.scope h.params h.generator m h.line h m q x f b s in
    let d = header_declared n text behind after (codes "{\n" ++ declared_text q x) (declared_text q x) h.scope h.params h.generator m h.line h m q x f b o refl s in
    let other = header_declared n text behind after (codes "{\n" ++ declared_text q x) (declared_text q x) h.scope h.params h.generator m h.line k slots registers y f b o refl t in
    let declared = declaration_both (declared_text q x) q registers x y d other in
    (same h k front.0 front.1 back.0 back.2, back.1, declared.0, declared.1)
  where
    same : (h k : header.Header) → h.scope ≡ k.scope → h.params ≡ k.params → h.generator ≡ k.generator → h.line ≡ k.line → h ≡ k
    same h k a b c d =
        ap (λ z. record h { scope = z }) a ∙ ap (λ z. record h { scope = k.scope; params = z }) b ∙ ap (λ z. record h { scope = k.scope; params = k.params; generator = z }) c ∙ ap (λ z. record k { line = z }) d

-- no line of a body begins as a declaration does
line_no_declaration : (l : Line) (x : List ℕ) → IsNotFront (codes "  nu r0") (line_text l ++ x)
line_no_declaration l x rest e = go l (sym (before_is (line_pieces l) x) ∙ e)
  where
    go : (l : Line) → before (line_pieces l) x ≡ codes "  nu r0" ++ rest → ⊥
    go (line.Label label) e = let bad : 76 ≡ 32 = ap (λ t. get_or t 0 0) e in omega (arith, bad)
    go (line.Do (statement.Store to what)) e = let bad : 114 ≡ 110 = ap (λ t. get_or t 2 0) e in omega (arith, bad)
    go (line.Do (statement.Goto label)) e = let bad : 103 ≡ 110 = ap (λ t. get_or t 2 0) e in omega (arith, bad)
    go (line.Do (statement.Branch test label)) e = let bad : 105 ≡ 110 = ap (λ t. get_or t 2 0) e in omega (arith, bad)
    go (line.Do (statement.Again exception label)) e = let bad : 95 ≡ 32 = ap (λ t. get_or t 4 0) e in omega (arith, bad)
    go (line.Do (statement.Give value)) e = let bad : 114 ≡ 110 = ap (λ t. get_or t 2 0) e in omega (arith, bad)
    go (line.Do statement.End) e = let bad : 114 ≡ 110 = ap (λ t. get_or t 2 0) e in omega (arith, bad)
    go (line.Do statement.Fail) e = let bad : 114 ≡ 110 = ap (λ t. get_or t 2 0) e in omega (arith, bad)
    go (line.Do (statement.Switch labels)) e = let bad : 115 ≡ 110 = ap (λ t. get_or t 2 0) e in omega (arith, bad)
    go (line.Do (statement.Save slot value)) e = let bad : 95 ≡ 32 = ap (λ t. get_or t 4 0) e in omega (arith, bad)
    go (line.Do (statement.Pause number value)) e = let bad : 114 ≡ 110 = ap (λ t. get_or t 2 0) e in omega (arith, bad)

body_no_declaration : (lines : List Line) (x : List ℕ) → IsNotFront (codes "  nu r0") (flat_map line_text lines ++ (codes "}\n" ++ x))
body_no_declaration [] x rest e = let bad : 125 ≡ 32 = ap (λ t. get_or t 0 0) e in omega (arith, bad)
body_no_declaration (l ∷ lines) x rest e = line_no_declaration l (flat_map line_text lines ++ (codes "}\n" ++ x)) rest (sym (append_assoc (line_text l) (flat_map line_text lines) (codes "}\n" ++ x)) ∙ e)

-- the header of a function, and its body
abbrev pub body_text : function.Function → List ℕ → List ℕ
body_text f rest = flat_map line_text f.body ++ (codes "}\n" ++ rest)

pub function_header : (n : ℕ) (text : List ℕ) (f : function.Function) (rest : List ℕ) → FunctionStands n text f rest → HeaderStands n text f.header f.slots f.registers (body_text f rest)
function_header n text f rest s = record {
  is = s.is.header;
  slots_are = s.is.slots;
  registers_are = s.is.registers;
  spelled = s.spelled ∙ before_is (function_pieces n f) rest ∙ before_is (header_pieces n f.header f.slots) (declaration_text f.registers ++ body_text f rest);
  all = body_no_declaration f.body rest;
}

pub function_body : (n : ℕ) (text behind : List ℕ) (h : header.Header) (slots registers : ℕ) (f : function.Function) (rest : List ℕ) → HeaderStands n text h slots registers behind → FunctionStands n text f rest → BodyStands registers behind f.body rest
function_body n text behind h slots registers f rest hs s =
    let both = header_both n text h f.header slots f.slots registers f.registers behind (body_text f rest) hs (function_header n text f rest s) in
    subst (λ r. BodyStands r behind f.body rest) (sym both.2) (record { each = s.is.each; once = s.is.once; spelled = both.3 })

pub function_of : (n : ℕ) (text behind : List ℕ) (h : header.Header) (slots registers : ℕ) (body : List Line) (rest : List ℕ) → HeaderStands n text h slots registers behind → BodyStands registers behind body rest
    → FunctionStands n text (record { header = h; slots = slots; registers = registers; body = body }) rest
function_of n text behind h slots registers body rest hs b = record {
  is = record { header = hs.is; slots = hs.slots_are; registers = hs.registers_are; each = b.each; once = b.once };
  spelled = hs.spelled ∙ ap (λ t. before (header_pieces n h slots) (declaration_text registers ++ t)) b.spelled ∙ sym (before_is (header_pieces n h slots) (declaration_text registers ++ (flat_map line_text body ++ (codes "}\n" ++ rest))))
      ∙ sym (before_is (function_pieces n (record { header = h; slots = slots; registers = registers; body = body })) rest);
}

pub function_both : (n : ℕ) (text : List ℕ) (f g : function.Function) (x y : List ℕ) → FunctionStands n text f x → FunctionStands n text g y → (f ≡ g) × (x ≡ y)
function_both n text f g x y s t =
    let hs = function_header n text f x s in
    let heads = header_both n text f.header g.header f.slots g.slots f.registers g.registers (body_text f x) (body_text g y) hs (function_header n text g y t) in
    let mine = function_body n text (body_text f x) f.header f.slots f.registers f x hs s in
    let its = function_body n text (body_text f x) f.header f.slots f.registers g y hs t in
    let fits = s.is.registers in
    let bodies = body_both f.registers (body_text f x) f.body g.body x y (omega (arith, fits)) mine its in
    (ap (λ z. record f { header = z }) heads.0 ∙ ap (λ z. record f { header = g.header; slots = z }) heads.1 ∙ ap (λ z. record f { header = g.header; slots = g.slots; registers = z }) heads.2 ∙ ap (λ z. record g { body = z }) bodies.0, bodies.1)
