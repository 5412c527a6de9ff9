-- Whole trees: no other stands where one does.
use Rattle.std.proofs.Common.{◌≡◌, ℕ, ◌+◌, ◌-◌, ◌<◌, ◌≤◌, ◌^◌, List, [], ◌∷◌, ◌++◌, length, get_or, drop, refl, sym, ◌∙◌, ap, append_assoc, append-nil, arith, decimal, length-append}
use Rattle.std.specs.Prelude.{codes}
use Rattle.std.specs.List.{AllByRecursion}
use Rattle.nu_text.specs.Pieces.{before}
use Rattle.nu_text.specs.Strings.{string_text}
use Rattle.nu_text.proofs.Pieces.{before_is}
use Rattle.nu_text.proofs.Strings.{string_both}
use Rattle.c_meaning.specs.Text.{numbered}
use Rattle.c_reader.specs.Pieces.{StringStands, NumberStands}
use Rattle.c_reader.specs.Statements.{IsNotFront}
use Rattle.c_reader.proofs.Numbers.{number_both}
use Rattle.c_reader.proofs.Sequences.{Left, numbered_more, left_of, lists_both, tail_ends}
use Rattle.node_tree.specs.declared.script.NodeCode.{NodeCode}
use Rattle.node_tree.specs.declared.script.NodeScript as script
use Rattle.node_text.specs.Text.{code_text, builtins, heading_pieces}
use Rattle.node_text.specs.Written.{IsCode, IsNodeText}
use Rattle.node_reader.specs.Codes.{CodeStands, CountsStand, ScriptStands, HeadingStands, CodesStand}
use Rattle.node_reader.specs.Laws.{OneTree}
use Rattle.node_reader.proofs.Codes.{code_both}

-- the numbers of codes
counts_scripts : (text : List ℕ) (scripts builtins : ℕ) (rest : List ℕ) → CountsStand text scripts builtins rest → NumberStands (2 ^ 32) (codes " ") text scripts (decimal builtins ++ (codes "\n" ++ rest))
counts_scripts text scripts builtins rest s = record { fits = s.scripts_are; spelled = s.spelled }

pub no_scripts : (text : List ℕ) → ((n : ℕ) (rest : List ℕ) → NumberStands (2 ^ 32) (codes " ") text n rest → ⊥) → (scripts builtins : ℕ) (rest : List ℕ) → CountsStand text scripts builtins rest → ⊥
no_scripts text none scripts builtins rest s = none scripts (decimal builtins ++ (codes "\n" ++ rest)) (counts_scripts text scripts builtins rest s)

pub counts_builtins : (text behind : List ℕ) (read scripts builtins : ℕ) (rest : List ℕ) → NumberStands (2 ^ 32) (codes " ") text read behind → CountsStand text scripts builtins rest → (read ≡ scripts) × NumberStands (2 ^ 32) (codes "\n") behind builtins rest
counts_builtins text behind read scripts builtins rest n s =
    let both = number_both (2 ^ 32) (codes " ") text behind (decimal builtins ++ (codes "\n" ++ rest)) read scripts (omega arith) refl n (counts_scripts text scripts builtins rest s) in
    (both.0, record { fits = s.builtins_are; spelled = both.1 })

counts_same : (text behind : List ℕ) (read other scripts builtins : ℕ) (x rest : List ℕ) → NumberStands (2 ^ 32) (codes " ") text read behind → NumberStands (2 ^ 32) (codes "\n") behind other x → CountsStand text scripts builtins rest → (read ≡ scripts) × (other ≡ builtins) × (x ≡ rest)
counts_same text behind read other scripts builtins x rest n m s =
    let there = counts_builtins text behind read scripts builtins rest n s in
    let both = number_both (2 ^ 32) (codes "\n") behind x rest other builtins (omega arith) refl m there.1 in
    (there.0, both.0, both.1)

pub too_many : (text behind : List ℕ) (read other : ℕ) (x : List ℕ) → NumberStands (2 ^ 32) (codes " ") text read behind → NumberStands (2 ^ 32) (codes "\n") behind other x → 2 ^ 32 < read + other → (scripts builtins : ℕ) (rest : List ℕ) → CountsStand text scripts builtins rest → ⊥
too_many text behind read other x n m large scripts builtins rest s =
    let same = counts_same text behind read other scripts builtins x rest n m s in
    let one = same.0 in
    let two = same.1 in
    let few = s.few in
    omega (arith, one, two, few, large)

pub counts_of : (text behind : List ℕ) (scripts builtins : ℕ) (rest : List ℕ) → NumberStands (2 ^ 32) (codes " ") text scripts behind → NumberStands (2 ^ 32) (codes "\n") behind builtins rest → scripts + builtins ≤ 2 ^ 32 → CountsStand text scripts builtins rest
counts_of text behind scripts builtins rest n m few = record { scripts_are = n.fits; builtins_are = m.fits; few = few; spelled = n.spelled ∙ ap (before (decimal scripts ∷ codes " " ∷ [])) m.spelled }

-- the second line
pub script_name : (text behind name : List ℕ) (scripts builtins : ℕ) (rest : List ℕ) → text ≡ codes "script " ++ behind → ScriptStands text name scripts builtins rest → StringStands behind name (codes " " ++ before (decimal scripts ∷ codes " " ∷ decimal builtins ∷ codes "\n" ∷ []) rest)
script_name text behind name scripts builtins rest e s = record { utf8 = s.utf8; spelled = ap (drop 7) (sym e ∙ s.spelled) }

pub script_space : (text behind after read name : List ℕ) (scripts builtins : ℕ) (rest : List ℕ) → text ≡ codes "script " ++ behind → StringStands behind read after → ScriptStands text name scripts builtins rest
    → (read ≡ name) × (after ≡ codes " " ++ before (decimal scripts ∷ codes " " ∷ decimal builtins ∷ codes "\n" ∷ []) rest)
script_space text behind after read name scripts builtins rest e r s =
    string_both read name after (codes " " ++ before (decimal scripts ∷ codes " " ∷ decimal builtins ∷ codes "\n" ∷ []) rest) (sym r.spelled ∙ (script_name text behind name scripts builtins rest e s).spelled)

pub script_counts : (text behind after last read name : List ℕ) (scripts builtins : ℕ) (rest : List ℕ) → text ≡ codes "script " ++ behind → StringStands behind read after → after ≡ codes " " ++ last → ScriptStands text name scripts builtins rest → CountsStand last scripts builtins rest
script_counts text behind after last read name scripts builtins rest e r c s =
    record { scripts_are = s.scripts_are; builtins_are = s.builtins_are; few = s.few; spelled = ap (drop 1) (sym c ∙ (script_space text behind after read name scripts builtins rest e r s).1) }

pub script_of : (text behind after last name : List ℕ) (scripts builtins : ℕ) (rest : List ℕ) → text ≡ codes "script " ++ behind → StringStands behind name after → after ≡ codes " " ++ last → CountsStand last scripts builtins rest → ScriptStands text name scripts builtins rest
script_of text behind after last name scripts builtins rest e r c s = record {
  utf8 = r.utf8;
  scripts_are = s.scripts_are;
  builtins_are = s.builtins_are;
  few = s.few;
  spelled = e ∙ ap (λ t. codes "script " ++ t) (r.spelled ∙ ap (λ t. string_text name ++ t) (c ∙ ap (λ t. codes " " ++ t) s.spelled));
}

script_both : (text name name' : List ℕ) (s b s' b' : ℕ) (x y : List ℕ) → ScriptStands text name s b x → ScriptStands text name' s' b' y → (name ≡ name') × (s ≡ s') × (b ≡ b') × (x ≡ y)
script_both text name name' s b s' b' x y p q =
    let inner = before (decimal s ∷ codes " " ∷ decimal b ∷ codes "\n" ∷ []) x in
    let behind = string_text name ++ (codes " " ++ inner) in
    let r : StringStands behind name (codes " " ++ inner) = record { utf8 = p.utf8; spelled = refl } in
    let mine : CountsStand inner s b x = record { scripts_are = p.scripts_are; builtins_are = p.builtins_are; few = p.few; spelled = refl } in
    let its = script_counts text behind (codes " " ++ inner) inner name name' s' b' y p.spelled r refl q in
    let first = counts_scripts inner s b x mine in
    let same = counts_same inner (decimal b ++ (codes "\n" ++ x)) s b s' b' x y first (record { fits = p.builtins_are; spelled = refl }) its in
    ((script_space text behind (codes " " ++ inner) name name' s' b' y p.spelled r q).0, same.0, same.1, same.2)

-- the first two lines
pub heading_script : (text second name : List ℕ) (scripts builtins : ℕ) (rest : List ℕ) → text ≡ codes "nodes 1\n" ++ second → HeadingStands text name scripts builtins rest → ScriptStands second name scripts builtins rest
heading_script text second name scripts builtins rest e h =
    record { utf8 = h.utf8; scripts_are = h.scripts_are; builtins_are = h.builtins_are; few = h.few; spelled = ap (drop 8) (sym e ∙ h.spelled) }

pub heading_of : (text second name : List ℕ) (scripts builtins : ℕ) (rest : List ℕ) → text ≡ codes "nodes 1\n" ++ second → ScriptStands second name scripts builtins rest → HeadingStands text name scripts builtins rest
heading_of text second name scripts builtins rest e s =
    record { utf8 = s.utf8; scripts_are = s.scripts_are; builtins_are = s.builtins_are; few = s.few; spelled = e ∙ ap (λ t. codes "nodes 1\n" ++ t) s.spelled }

heading_both : (text name name' : List ℕ) (s b s' b' : ℕ) (x y : List ℕ) → HeadingStands text name s b x → HeadingStands text name' s' b' y → (name ≡ name') × (s ≡ s') × (b ≡ b') × (x ≡ y)
heading_both text name name' s b s' b' x y p q =
    script_both (drop 8 text) name name' s b s' b' x y (record { utf8 = p.utf8; scripts_are = p.scripts_are; builtins_are = p.builtins_are; few = p.few; spelled = ap (drop 8) p.spelled })
    (record { utf8 = q.utf8; scripts_are = q.scripts_are; builtins_are = q.builtins_are; few = q.few; spelled = ap (drop 8) q.spelled })

pub no_heading : (text : List ℕ) → ((rest : List ℕ) → text ≡ codes "nodes 1\n" ++ rest → ⊥) → (name : List ℕ) (scripts builtins : ℕ) (rest : List ℕ) → HeadingStands text name scripts builtins rest → ⊥
no_heading text none name scripts builtins rest h = none (drop 8 (before (codes "nodes 1\n" ∷ codes "script " ∷ string_text name ∷ codes " " ∷ decimal scripts ∷ codes " " ∷ decimal builtins ∷ codes "\n" ∷ []) rest)) h.spelled

-- all codes
same_code : (n : ℕ) (c d : NodeCode) (x y : List ℕ) → IsCode c → IsCode d → IsNotFront (codes "  ") x → IsNotFront (codes "  ") y → code_text n c ++ x ≡ code_text n d ++ y → (c ≡ d) × (x ≡ y)
same_code n c d x y p q g h e = code_both n (code_text n c ++ x) c d x y (record { is = p; spelled = refl; all = g }) (record { is = q; spelled = e; all = h })

code_ends : (n : ℕ) (c : NodeCode) (x : List ℕ) → IsCode c → IsNotFront (codes "  ") (code_text n c ++ x)
code_ends n c x p rest e = let bad : 99 ≡ 32 = ap (λ t. get_or t 0 0) e in omega (arith, bad)

code_apart : (n : ℕ) (c : NodeCode) (x y : List ℕ) → IsCode c → y ≡ [] → code_text n c ++ x ≡ y → ⊥
code_apart n c x y p none e = let bad : 99 ≡ 0 = ap (λ t. get_or t 0 0) (e ∙ none) in omega (arith, bad)

nothing_ends : IsNotFront (codes "  ") []
nothing_ends rest e = let bad : 0 ≡ 32 = ap (λ t. get_or t 0 0) e in omega (arith, bad)

pub codes_left : (count : ℕ) (text left : List ℕ) (read all : List NodeCode) → text ≡ numbered code_text 0 read ++ left → AllByRecursion IsCode read → (0 < length read → IsNotFront (codes "  ") left) → CodesStand count text all → Left code_text IsCode 0 read all left []
codes_left count text left [] all e each ends s = record { more = all; next = 0; next_is = refl; all_are = refl; each = s.each; stand = sym e ∙ s.spelled ∙ sym (append-nil (numbered code_text 0 all)) }
codes_left count text left (c ∷ read) all e each ends s =
    left_of code_text IsCode (IsNotFront (codes "  ")) (λ y. y ≡ []) same_code code_ends code_apart 0 (c ∷ read) all left [] each s.each (ends (omega arith)) nothing_ends refl (sym e ∙ s.spelled ∙ sym (append-nil (numbered code_text 0 all)))

pub no_code : (count k : ℕ) (text left : List ℕ) (read all : List NodeCode) → text ≡ numbered code_text 0 read ++ left → AllByRecursion IsCode read → (0 < length read → IsNotFront (codes "  ") left) → length read ≡ k → k < count → ((c : NodeCode) (rest : List ℕ) → CodeStands k left c rest → ⊥) → CodesStand count text all → ⊥
no_code count k text left read all e each ends long more none s = let l = codes_left count text left read all e each ends s in go l.more l.next l.next_is l.all_are l.each l.stand
  where
    go : (rest : List NodeCode) (next : ℕ) → next ≡ 0 + length read → all ≡ read ++ rest → AllByRecursion IsCode rest → left ≡ numbered code_text next rest ++ [] → ⊥
    go [] next is are each stand =
        let count_is = s.all in
        let sum : length all ≡ length read = ap length (are ∙ append-nil read) in
        omega (arith, count_is, sum, long, more)
    go (c ∷ rest) next is are each stand =
        let same : next ≡ k = omega (arith, is, long) in
        none c (numbered code_text (next + 1) rest ++ []) (record {
          is = each.0;
          spelled = stand ∙ append_assoc (code_text next c) (numbered code_text (next + 1) rest) [] ∙ ap (λ m. code_text m c ++ (numbered code_text (next + 1) rest ++ [])) same;
          all = tail_ends code_text IsCode (IsNotFront (codes "  ")) (λ y. y ≡ []) same_code code_ends code_apart (next + 1) rest [] each.1 nothing_ends;
        })

pub left_over : (count : ℕ) (text left : List ℕ) (read all : List NodeCode) → text ≡ numbered code_text 0 read ++ left → AllByRecursion IsCode read → (0 < length read → IsNotFront (codes "  ") left) → length read ≡ count → 0 < length left → CodesStand count text all → ⊥
left_over count text left read all e each ends long some s = let l = codes_left count text left read all e each ends s in go l.more l.next l.all_are l.stand
  where
    go : (rest : List NodeCode) (next : ℕ) → all ≡ read ++ rest → left ≡ numbered code_text next rest ++ [] → ⊥
    go [] next are stand = let bad : length left ≡ 0 = ap length stand in omega (arith, bad, some)
    go (c ∷ rest) next are stand =
        let count_is = s.all in
        let sum : length all ≡ length (read ++ c ∷ rest) = ap length are in
        let parts = length-append read (c ∷ rest) in
        omega (arith, count_is, sum, parts, long)

pub all_read : (count : ℕ) (text left : List ℕ) (read : List NodeCode) → text ≡ numbered code_text 0 read ++ left → AllByRecursion IsCode read → length read ≡ count → length left ≡ 0 → CodesStand count text read
all_read count text [] read e each long none = record { all = long; each = each; spelled = e ∙ append-nil (numbered code_text 0 read) }
all_read count text (b ∷ left) read e each long none = absurd (omega (arith, none))

pub next_code : (text left behind : List ℕ) (read new : List NodeCode) (k : ℕ) (c : NodeCode) → text ≡ numbered code_text 0 read ++ left → length read ≡ k → CodeStands k left c behind → new ≡ read ++ c ∷ [] → text ≡ numbered code_text 0 new ++ behind
next_code text left behind read new k c e long s more =
    let place : k ≡ 0 + length read = omega (arith, long) in
    e ∙ ap (λ l. numbered code_text 0 read ++ l) s.spelled ∙ sym (numbered_more code_text 0 k read c behind place) ∙ ap (λ l. numbered code_text 0 l ++ behind) (sym more)

-- a text's heading and codes
pub text_heading : (text : List ℕ) (s : script.NodeScript) → IsNodeText text s → HeadingStands text s.name s.scripts (builtins s) (numbered code_text 0 s.codes)
text_heading text s t =
    let within = t.script.within in
    let numbers = t.script.numbers in
    record { utf8 = t.script.name; scripts_are = t.script.scripts; builtins_are = t.script.builtins; few = omega (arith, within, numbers); spelled = t.spelled ∙ before_is (heading_pieces s) (numbered code_text 0 s.codes) }

pub text_codes : (text name : List ℕ) (scripts b count : ℕ) (rest : List ℕ) (s : script.NodeScript) → count ≡ scripts + b → HeadingStands text name scripts b rest → IsNodeText text s → CodesStand count rest s.codes
text_codes text name scripts b count rest s sum h t =
    let both = heading_both text name s.name scripts b s.scripts (builtins s) rest (numbered code_text 0 s.codes) h (text_heading text s t) in
    let one = both.1 in
    let two = both.2 in
    let within = t.script.within in
    record { all = omega (arith, one, two, within, sum); each = t.script.each; spelled = both.3 }

pub text_of : (text name : List ℕ) (scripts b count : ℕ) (rest : List ℕ) (all : List NodeCode) → count ≡ scripts + b → HeadingStands text name scripts b rest → CodesStand count rest all → IsNodeText text (record { name = name; scripts = scripts; codes = all })
text_of text name scripts b count rest all sum h c =
    let s : script.NodeScript = record { name = name; scripts = scripts; codes = all } in
    let long = c.all in
    let few = h.few in
    let small = h.builtins_are in
    let same : b ≡ length all - scripts = omega (arith, long, sum) in
    record {
      script = record { name = h.utf8; scripts = h.scripts_are; builtins = omega (arith, small, same); within = omega (arith, long, sum); numbers = omega (arith, long, sum, few); each = c.each };
      spelled = h.spelled
          ∙ ap (λ n. before (codes "nodes 1\n" ∷ codes "script " ∷ string_text name ∷ codes " " ∷ decimal scripts ∷ codes " " ∷ decimal n ∷ codes "\n" ∷ []) rest) same
          ∙ ap (before (heading_pieces s)) c.spelled ∙ sym (before_is (heading_pieces s) (numbered code_text 0 all));
    }

-- a text is that of one tree at most
pub one_tree : OneTree
one_tree text p q s t =
    let heads = heading_both text p.name q.name p.scripts (builtins p) q.scripts (builtins q) (numbered code_text 0 p.codes) (numbered code_text 0 q.codes) (text_heading text p s) (text_heading text q t) in
    let both = lists_both code_text IsCode (IsNotFront (codes "  ")) (λ y. y ≡ []) same_code code_ends code_apart 0 p.codes q.codes [] [] s.script.each t.script.each nothing_ends nothing_ends refl refl
    (append-nil (numbered code_text 0 p.codes) ∙ heads.3 ∙ sym (append-nil (numbered code_text 0 q.codes))) in
    ap (λ n. record p { name = n }) heads.0 ∙ ap (λ n. record p { name = q.name; scripts = n }) heads.1 ∙ ap (λ c. record q { codes = c }) both.0
