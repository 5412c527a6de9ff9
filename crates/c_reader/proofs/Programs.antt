-- Whole programs: no other stands where one does.
use Rattle.std.proofs.Common.{◌≡◌, ℕ, ◌+◌, ◌<◌, ◌^◌, List, [], ◌∷◌, ◌++◌, length, get_or, drop, refl, sym, ◌∙◌, ap, append_assoc, arith, decimal, length-append}
use Rattle.std.specs.Prelude.{codes}
use Rattle.std.specs.List.{AllByRecursion}
use Rattle.std.proofs.lemmas.List.{append-nil}
use Rattle.nu_text.specs.Pieces.{before}
use Rattle.nu_text.specs.Strings.{string_text}
use Rattle.nu_text.proofs.Pieces.{before_is}
use Rattle.nu_text.proofs.Strings.{string_both}
use Rattle.c_meaning.specs.declared.program.Function as function
use Rattle.c_meaning.specs.declared.program.CProgram as program
use Rattle.c_meaning.specs.Text.{numbered, function_pieces, header_pieces, code_pieces, function_text, heading_pieces}
use Rattle.c_meaning.specs.Written.{IsFunction, IsText}
use Rattle.c_reader.specs.Pieces.{StringStands, NumberStands}
use Rattle.c_reader.specs.Functions.{FunctionStands}
use Rattle.c_reader.specs.Programs.{CountsStand, ScriptStands, HeadingStands, FunctionsStand}
use Rattle.c_reader.specs.Laws.{OneProgram}
use Rattle.c_reader.proofs.Numbers.{number_both}
use Rattle.c_reader.proofs.Heads.{function_both}
use Rattle.c_reader.proofs.Sequences.{Left, numbered_more, left_of, lists_both}

-- the numbers of functions
counts_scripts : (text : List ℕ) (scripts builtins : ℕ) (rest : List ℕ) → CountsStand text scripts builtins rest → NumberStands (2 ^ 32) (codes ", ") text scripts (decimal builtins ++ (codes ")\n" ++ rest))
counts_scripts text scripts builtins rest s = let few = s.few in record { fits = omega (arith, few); spelled = s.spelled }

pub no_scripts : (text : List ℕ) → ((n : ℕ) (rest : List ℕ) → NumberStands (2 ^ 32) (codes ", ") text n rest → ⊥) → (scripts builtins : ℕ) (rest : List ℕ) → CountsStand text scripts builtins rest → ⊥
no_scripts text none scripts builtins rest s = none scripts (decimal builtins ++ (codes ")\n" ++ rest)) (counts_scripts text scripts builtins rest s)

pub counts_builtins : (text behind : List ℕ) (read scripts builtins : ℕ) (rest : List ℕ) → NumberStands (2 ^ 32) (codes ", ") text read behind → CountsStand text scripts builtins rest → (read ≡ scripts) × NumberStands (2 ^ 32) (codes ")\n") behind builtins rest
counts_builtins text behind read scripts builtins rest n s =
    let both = number_both (2 ^ 32) (codes ", ") text behind (decimal builtins ++ (codes ")\n" ++ rest)) read scripts (omega arith) refl n (counts_scripts text scripts builtins rest s) in
    let few = s.few in
    (both.0, record { fits = omega (arith, few); spelled = both.1 })

pub counts_same : (text behind : List ℕ) (read other scripts builtins : ℕ) (x rest : List ℕ) → NumberStands (2 ^ 32) (codes ", ") text read behind → NumberStands (2 ^ 32) (codes ")\n") behind other x → CountsStand text scripts builtins rest
    → (read ≡ scripts) × (other ≡ builtins) × (x ≡ rest)
counts_same text behind read other scripts builtins x rest n m s =
    let line = counts_builtins text behind read scripts builtins rest n s in
    let both = number_both (2 ^ 32) (codes ")\n") behind x rest other builtins (omega arith) refl m line.1 in
    (line.0, both.0, both.1)

pub too_few : (text behind : List ℕ) (read other : ℕ) (x : List ℕ) → NumberStands (2 ^ 32) (codes ", ") text read behind → NumberStands (2 ^ 32) (codes ")\n") behind other x → read ≡ 0 → (scripts builtins : ℕ) (rest : List ℕ) → CountsStand text scripts builtins rest → ⊥
too_few text behind read other x n m zero scripts builtins rest s =
    let same = (counts_same text behind read other scripts builtins x rest n m s).0 in
    let some = s.some in
    omega (arith, same, some, zero)

pub too_many : (text behind : List ℕ) (read other : ℕ) (x : List ℕ) → NumberStands (2 ^ 32) (codes ", ") text read behind → NumberStands (2 ^ 32) (codes ")\n") behind other x → 65535 < read + other → (scripts builtins : ℕ) (rest : List ℕ) → CountsStand text scripts builtins rest → ⊥
too_many text behind read other x n m large scripts builtins rest s =
    let same = counts_same text behind read other scripts builtins x rest n m s in
    let one = same.0 in
    let two = same.1 in
    let few = s.few in
    omega (arith, one, two, few, large)

-- the third line
pub script_name : (text behind name : List ℕ) (scripts builtins : ℕ) (rest : List ℕ) → text ≡ codes "NU_SCRIPT(" ++ behind → ScriptStands text name scripts builtins rest → StringStands behind name (codes ", " ++ before (decimal scripts ∷ codes ", " ∷ decimal builtins ∷ codes ")\n" ∷ []) rest)
script_name text behind name scripts builtins rest e s = record { utf8 = s.utf8; spelled = ap (drop 10) (sym e ∙ s.spelled) }

pub script_comma : (text behind after read name : List ℕ) (scripts builtins : ℕ) (rest : List ℕ) → text ≡ codes "NU_SCRIPT(" ++ behind → StringStands behind read after → ScriptStands text name scripts builtins rest
    → (read ≡ name) × (after ≡ codes ", " ++ before (decimal scripts ∷ codes ", " ∷ decimal builtins ∷ codes ")\n" ∷ []) rest)
script_comma text behind after read name scripts builtins rest e r s =
    string_both read name after (codes ", " ++ before (decimal scripts ∷ codes ", " ∷ decimal builtins ∷ codes ")\n" ∷ []) rest) (sym r.spelled ∙ (script_name text behind name scripts builtins rest e s).spelled)

pub script_counts : (text behind after last read name : List ℕ) (scripts builtins : ℕ) (rest : List ℕ) → text ≡ codes "NU_SCRIPT(" ++ behind → StringStands behind read after → after ≡ codes ", " ++ last → ScriptStands text name scripts builtins rest → CountsStand last scripts builtins rest
script_counts text behind after last read name scripts builtins rest e r c s =
    record { some = s.some; few = s.few; spelled = ap (drop 2) (sym c ∙ (script_comma text behind after read name scripts builtins rest e r s).1) }

pub script_of : (text behind after last name : List ℕ) (scripts builtins : ℕ) (rest : List ℕ) → text ≡ codes "NU_SCRIPT(" ++ behind → StringStands behind name after → after ≡ codes ", " ++ last → CountsStand last scripts builtins rest → ScriptStands text name scripts builtins rest
script_of text behind after last name scripts builtins rest e r c s = record {
  utf8 = r.utf8;
  some = s.some;
  few = s.few;
  spelled = e ∙ ap (λ t. codes "NU_SCRIPT(" ++ t) (r.spelled ∙ ap (λ t. string_text name ++ t) (c ∙ ap (λ t. codes ", " ++ t) s.spelled));
}

pub script_both : (text name name' : List ℕ) (s b s' b' : ℕ) (x y : List ℕ) → ScriptStands text name s b x → ScriptStands text name' s' b' y → (name ≡ name') × (s ≡ s') × (b ≡ b') × (x ≡ y)
script_both text name name' s b s' b' x y p q =
    let inner = before (decimal s ∷ codes ", " ∷ decimal b ∷ codes ")\n" ∷ []) x in
    let behind = string_text name ++ (codes ", " ++ inner) in
    let r : StringStands behind name (codes ", " ++ inner) = record { utf8 = p.utf8; spelled = refl } in
    let mine : CountsStand inner s b x = record { some = p.some; few = p.few; spelled = refl } in
    let its = script_counts text behind (codes ", " ++ inner) inner name name' s' b' y p.spelled r refl q in
    let first = counts_scripts inner s b x mine in
    let few = p.few in
    let same = counts_same inner (decimal b ++ (codes ")\n" ++ x)) s b s' b' x y first (record { fits = omega (arith, few); spelled = refl }) its in
    ((script_comma text behind (codes ", " ++ inner) name name' s' b' y p.spelled r q).0, same.0, same.1, same.2)

-- all functions

same_function : (n : ℕ) (f g : function.Function) (x y : List ℕ) → IsFunction f → IsFunction g → function_text n f ++ x ≡ function_text n g ++ y → (f ≡ g) × (x ≡ y)
same_function n f g x y p q e = function_both n (function_text n f ++ x) f g x y (record { is = p; spelled = refl }) (record { is = q; spelled = e })

function_apart : (n : ℕ) (f : function.Function) (x y : List ℕ) → y ≡ [] → function_text n f ++ x ≡ y → ⊥
function_apart n f x y none e =
    let bad : 78 ≡ 0 = ap (λ t. get_or t 0 0) (sym (before_is (function_pieces n f) x ∙ before_is (header_pieces n f.header f.slots) _ ∙ before_is (code_pieces n f.header f.slots) _) ∙ e ∙ none) in
    omega (arith, bad)

pub functions_left : (count : ℕ) (text left : List ℕ) (read all : List function.Function) → text ≡ numbered function_text 0 read ++ left → AllByRecursion IsFunction read → FunctionsStand count text all → Left function_text IsFunction 0 read all left []
functions_left count text left read all e each s =
    left_of function_text IsFunction (λ _. Unit {0}) (λ y. y ≡ []) (λ n f g x y p q _ _. same_function n f g x y p q) (λ n f x _. tt) (λ n f x y _. function_apart n f x y) 0 read all left [] each s.each tt tt refl
    (sym e ∙ s.spelled ∙ sym (append-nil (numbered function_text 0 all)))

pub no_function : (count k : ℕ) (text left : List ℕ) (read all : List function.Function) → text ≡ numbered function_text 0 read ++ left → AllByRecursion IsFunction read → length read ≡ k → k < count → ((f : function.Function) (rest : List ℕ) → FunctionStands k left f rest → ⊥) → FunctionsStand count text all → ⊥
no_function count k text left read all e each long more none s = let l = functions_left count text left read all e each s in go l.more l.next l.next_is l.all_are l.each l.stand
  where
    go : (rest : List function.Function) (next : ℕ) → next ≡ 0 + length read → all ≡ read ++ rest → AllByRecursion IsFunction rest → left ≡ numbered function_text next rest ++ [] → ⊥
    go [] next is are each stand =
        let count_is = s.all in
        let sum : length all ≡ length read = ap length (are ∙ append-nil read) in
        omega (arith, count_is, sum, long, more)
    go (f ∷ rest) next is are each stand =
        let same : next ≡ k = omega (arith, is, long) in
        none f (numbered function_text (next + 1) rest ++ []) (record { is = each.0; spelled = stand ∙ append_assoc (function_text next f) (numbered function_text (next + 1) rest) [] ∙ ap (λ m. function_text m f ++ (numbered function_text (next + 1) rest ++ [])) same })

pub left_over : (count : ℕ) (text left : List ℕ) (read all : List function.Function) → text ≡ numbered function_text 0 read ++ left → AllByRecursion IsFunction read → length read ≡ count → 0 < length left → FunctionsStand count text all → ⊥
left_over count text left read all e each long some s = let l = functions_left count text left read all e each s in go l.more l.next l.all_are l.stand
  where
    go : (rest : List function.Function) (next : ℕ) → all ≡ read ++ rest → left ≡ numbered function_text next rest ++ [] → ⊥
    go [] next are stand = let bad : length left ≡ 0 = ap length stand in omega (arith, bad, some)
    go (f ∷ rest) next are stand =
        let count_is = s.all in
        let sum : length all ≡ length (read ++ f ∷ rest) = ap length are in
        let parts = length-append read (f ∷ rest) in
        omega (arith, count_is, sum, parts, long)

pub all_read : (count : ℕ) (text left : List ℕ) (read : List function.Function) → text ≡ numbered function_text 0 read ++ left → AllByRecursion IsFunction read → length read ≡ count → length left ≡ 0 → FunctionsStand count text read
all_read count text [] read e each long none = record { all = long; each = each; spelled = e ∙ append-nil (numbered function_text 0 read) }
all_read count text (b ∷ left) read e each long none = absurd (omega (arith, none))

pub next_function : (text left behind : List ℕ) (read new : List function.Function) (k : ℕ) (f : function.Function) → text ≡ numbered function_text 0 read ++ left → length read ≡ k → FunctionStands k left f behind → new ≡ read ++ f ∷ [] → text ≡ numbered function_text 0 new ++ behind
next_function text left behind read new k f e long s more =
    let place : k ≡ 0 + length read = omega (arith, long) in
    e ∙ ap (λ l. numbered function_text 0 read ++ l) s.spelled ∙ sym (numbered_more function_text 0 k read f behind place) ∙ ap (λ l. numbered function_text 0 l ++ behind) (sym more)

-- a text's heading and functions
pub text_heading : (text : List ℕ) (p : program.CProgram) → IsText text p → HeadingStands text p.name p.scripts p.builtins (numbered function_text 0 p.functions)
text_heading text p t = record { utf8 = t.program.name; some = t.program.scripts; few = t.program.few; spelled = t.spelled ∙ before_is (heading_pieces p) (numbered function_text 0 p.functions) }

pub heading_script : (text second third name : List ℕ) (scripts builtins : ℕ) (rest : List ℕ) → text ≡ codes "/* nuit C 1 */\n" ++ second → second ≡ codes "#include \"nuit1.h\"\n" ++ third → HeadingStands text name scripts builtins rest → ScriptStands third name scripts builtins rest
heading_script text second third name scripts builtins rest e f h =
    record { utf8 = h.utf8; some = h.some; few = h.few; spelled = ap (drop 19) (sym f ∙ ap (drop 15) (sym e ∙ h.spelled)) }

pub heading_both : (text name name' : List ℕ) (s b s' b' : ℕ) (x y : List ℕ) → HeadingStands text name s b x → HeadingStands text name' s' b' y → (name ≡ name') × (s ≡ s') × (b ≡ b') × (x ≡ y)
heading_both text name name' s b s' b' x y p q =
    script_both (drop 34 text) name name' s b s' b' x y (record { utf8 = p.utf8; some = p.some; few = p.few; spelled = ap (drop 34) p.spelled }) (record { utf8 = q.utf8; some = q.some; few = q.few; spelled = ap (drop 34) q.spelled })

pub text_functions : (text name : List ℕ) (scripts builtins count : ℕ) (rest : List ℕ) (p : program.CProgram) → count ≡ scripts + builtins → HeadingStands text name scripts builtins rest → IsText text p → FunctionsStand count rest p.functions
text_functions text name scripts builtins count rest p sum h t =
    let both = heading_both text name p.name scripts builtins p.scripts p.builtins rest (numbered function_text 0 p.functions) h (text_heading text p t) in
    let one = both.1 in
    let two = both.2 in
    let long = t.program.all in
    record { all = omega (arith, one, two, long, sum); each = t.program.each; spelled = both.3 }

pub text_of : (text name : List ℕ) (scripts builtins count : ℕ) (rest : List ℕ) (functions : List function.Function) → count ≡ scripts + builtins → HeadingStands text name scripts builtins rest → FunctionsStand count rest functions
    → IsText text (record { name = name; scripts = scripts; builtins = builtins; functions = functions })
text_of text name scripts builtins count rest functions sum h f = record {
  program = record { name = h.utf8; scripts = h.some; few = h.few; all = f.all ∙ sum; each = f.each };
  spelled = h.spelled
      ∙ ap (before (codes "/* nuit C 1 */\n" ∷ codes "#include \"nuit1.h\"\n" ∷ codes "NU_SCRIPT(" ∷ string_text name ∷ codes ", " ∷ decimal scripts ∷ codes ", " ∷ decimal builtins ∷ codes ")\n" ∷ [])) f.spelled
      ∙ sym (before_is (heading_pieces (record { name = name; scripts = scripts; builtins = builtins; functions = functions })) (numbered function_text 0 functions));
}

-- a text is that of one program at most
pub one_program : OneProgram
one_program text p q s t =
    let heads = heading_both text p.name q.name p.scripts p.builtins q.scripts q.builtins (numbered function_text 0 p.functions) (numbered function_text 0 q.functions) (text_heading text p s) (text_heading text q t) in
    let both = lists_both function_text IsFunction (λ _. Unit {0}) (λ y. y ≡ []) (λ n f g x y p q _ _. same_function n f g x y p q) (λ n f x _. tt) (λ n f x y _. function_apart n f x y) 0 p.functions q.functions [] [] s.program.each t.program.each tt tt refl refl
    (append-nil (numbered function_text 0 p.functions) ∙ heads.3 ∙ sym (append-nil (numbered function_text 0 q.functions))) in
    ap (λ n. record p { name = n }) heads.0 ∙ ap (λ n. record p { name = q.name; scripts = n }) heads.1 ∙ ap (λ n. record p { name = q.name; scripts = q.scripts; builtins = n }) heads.2 ∙ ap (λ f. record q { functions = f }) both.0

pub heading_second : (text second name : List ℕ) (scripts builtins : ℕ) (rest : List ℕ) → text ≡ codes "/* nuit C 1 */\n" ++ second → HeadingStands text name scripts builtins rest
    → second ≡ codes "#include \"nuit1.h\"\n" ++ before (codes "NU_SCRIPT(" ∷ string_text name ∷ codes ", " ∷ decimal scripts ∷ codes ", " ∷ decimal builtins ∷ codes ")\n" ∷ []) rest
heading_second text second name scripts builtins rest e h = ap (drop 15) (sym e ∙ h.spelled)

pub heading_of : (text second third name : List ℕ) (scripts builtins : ℕ) (rest : List ℕ) → text ≡ codes "/* nuit C 1 */\n" ++ second → second ≡ codes "#include \"nuit1.h\"\n" ++ third → ScriptStands third name scripts builtins rest → HeadingStands text name scripts builtins rest
heading_of text second third name scripts builtins rest e f s =
    record { utf8 = s.utf8; some = s.some; few = s.few; spelled = e ∙ ap (λ t. codes "/* nuit C 1 */\n" ++ t) (f ∙ ap (λ t. codes "#include \"nuit1.h\"\n" ++ t) s.spelled) }
