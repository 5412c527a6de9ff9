-- Bodies of literals, item by item.
use Rattle.std.proofs.Common.{◌≡◌, ℕ, zero, suc, ◌+◌, ◌-◌, ◌<◌, ◌≤◌, ◌==◌, ◌&&◌, nat_lt, Bool, true, false, cond, List, [], ◌∷◌, ◌++◌, take, drop, length, slice_index, Option, Some, None, IfSome, encode_utf8_all, refl, ap, sym, subst, ◌∙◌, arith, append_assoc, append-nil, add-one}
use lib.Utf8.{scalar}
use Rattle.std.proofs.lemmas.List.{drop-drop, drop-take, take-take, length-take}
use Rattle.std.proofs.lemmas.Slice.Eq.{bytes_eq-Decides}
use Rattle.std.proofs.lemmas.Str.{encodes-append}
use Rattle.py_lexer.specs.Characters.{begins}
use Rattle.py_lexer.specs.PhysicalLines.{line_end, line_ends}
use Rattle.py_lexer.specs.Numerals.{is_digit}
use Rattle.py_lexer.specs.declared.strings.Literal.{Literal}
use Rattle.py_lexer.specs.declared.strings.Stands.{Stands}
use Rattle.py_lexer.specs.Strings.{Part, part, earlier, join, behind, escaped, simple_escape, hex_length, all_digits, number, scalar_of, one, hex, octal_length, octal, hex_by, simple_by, escape, raw_escape, at_backslash, closing, item, body, is_quote, literal}
use Rattle.py_lexer.specs.Seen.{Counted, encoded, refused_by, lines_at, lines_in, lines_below, counted}
use Rattle.py_lexer.proofs.LineEnds.{plain, all_plain, both, is_equal, is_plain, all_are_plain, plain_first, plain_pass, plain_front, run_all, most, plain_none, cut_ends, end_first, no_end}

abbrev pub utf8 : Part → Part
utf8 p = record p { text = encode_utf8_all p.text }

abbrev pub Parts : List ℕ → Option ℕ → ℕ → Part
Parts text refused n = record { text = text; refused = refused; length = n }

assoc : (m n k : ℕ) → m + (n + k) ≡ m + n + k
assoc m n k = omega arith

earlier-earlier : (a b c : Option ℕ) (m n : ℕ) → earlier a m (earlier b n c) ≡ earlier (earlier a m b) (m + n) c
earlier-earlier (Some k) b c m n = refl
earlier-earlier None (Some k) c m n = refl
earlier-earlier None None None m n = refl
earlier-earlier None None (Some k) m n = ap Some (assoc m n k)

-- what comes behind a part and a part comes behind both
add : (p q : Part) (r : Option Part) → behind p (behind q r) ≡ behind (join p q) r
add p q None = refl
add p q (Some r) = rw (append_assoc p.text q.text r.text, earlier-earlier p.refused q.refused r.refused p.length q.length, assoc p.length q.length r.length) refl

nothing : (r : Option Part) → behind (part [] 0) r ≡ r
nothing None = refl
nothing (Some r) = none r.text r.refused r.length
  where
    zeros : (k : ℕ) → 0 + k ≡ k
    zeros k = omega arith

    none : (text : List ℕ) (refused : Option ℕ) (n : ℕ) → Some (Parts text (earlier None 0 refused) (0 + n)) ≡ Some (Parts text refused n)
    none text None n = ap (λ k. Some (Parts text None k)) (zeros n)
    none text (Some m) n = rw (zeros m, zeros n) refl

-- what is passed over is counted
pub body_skip : (l : Literal) (k : ℕ) (s : List ℕ) → body l k s ≡ behind (part [] k) (body l 0 (drop k s))
body_skip l zero s = sym (nothing (body l 0 s))
body_skip l (suc k) [] = refl
body_skip l (suc k) (c ∷ s) = ap (behind (part [] 1)) (body_skip l k s) ∙ add (part [] 1) (part [] k) (body l 0 (drop k s)) ∙ ap (λ n. behind (part [] n) (body l 0 (drop k s))) (one k)
  where
    one : (k : ℕ) → 1 + k ≡ suc k
    one k = omega arith

encoded_behind : (p : Part) (r : Option Part) → encoded (behind p r) ≡ behind (utf8 p) (encoded r)
encoded_behind p None = refl
encoded_behind p (Some r) = rw (encodes-append p.text r.text) refl

none-later : (refused : Option ℕ) (n : ℕ) → earlier refused n None ≡ refused
none-later None n = refl
none-later (Some k) n = refl

-- one item further
pub body_item : (l : Literal) (s : List ℕ) (text : List ℕ) (refused : Option ℕ) (n : ℕ) → begins s (closing l) ≡ false → item l s ≡ Some (Parts text refused (suc n)) → body l 0 s ≡ behind (Parts text refused (suc n)) (body l 0 (drop (suc n) s))
unfolding item
body_item l [] text refused n e is = cc
body_item l (c ∷ s) text refused n e is = rw (e, is, minus n) (ap (behind (Parts text refused 1)) (body_skip l n s) ∙ add (Parts text refused 1) (part [] n) (body l 0 (drop n s))
    ∙ same)
  where
    minus : (n : ℕ) → suc n - 1 ≡ n
    minus n = omega arith

    one : (n : ℕ) → 1 + n ≡ suc n
    one n = omega arith

    same : behind (join (Parts text refused 1) (part [] n)) (body l 0 (drop n s)) ≡ behind (Parts text refused (suc n)) (body l 0 (drop n s))
    same = rw (append-nil text, none-later refused 1, one n) refl

-- the loop's step: what is left of the body, behind one item more
goes_on : (l : Literal) (all : List ℕ) (at n : ℕ) (out text : List ℕ) (before refused : Option ℕ) → 0 < n → begins (drop at all) (closing l) ≡ false → item l (drop at all) ≡ Some (Parts text refused n)
    → behind (Parts out before at) (encoded (body l 0 (drop at all))) ≡ encoded (body l 0 all)
    → behind (Parts (out ++ encode_utf8_all text) (earlier before at refused) (at + n)) (encoded (body l 0 (drop (at + n) all))) ≡ encoded (body l 0 all)
goes_on l all at zero out text before refused positive e is inv = absurd (omega arith)
goes_on l all at (suc n) out text before refused positive e is inv =
    sym (ap (λ r. behind (Parts out before at) (encoded r)) (body_item l (drop at all) text refused n e is)
    ∙ ap (behind (Parts out before at)) (encoded_behind (Parts text refused (suc n)) (body l 0 (drop (suc n) (drop at all))))
    ∙ add (Parts out before at) (Parts (encode_utf8_all text) refused (suc n)) (encoded (body l 0 (drop (suc n) (drop at all))))
    ∙ ap (λ s. behind (Parts (out ++ encode_utf8_all text) (earlier before at refused) (at + suc n)) (encoded (body l 0 s))) (drop-drop (suc n) at all))
    ∙ inv

pub goes_on_at : (l : Literal) (all rest : List ℕ) (at n : ℕ) (out text : List ℕ) (before refused : Option ℕ) → rest ≡ drop at all → 0 < n → begins rest (closing l) ≡ false → item l rest ≡ Some (Parts text refused n)
    → behind (Parts out before at) (encoded (body l 0 (drop at all))) ≡ encoded (body l 0 all)
    → behind (Parts (out ++ encode_utf8_all text) (earlier before at refused) (at + n)) (encoded (body l 0 (drop (at + n) all))) ≡ encoded (body l 0 all)
goes_on_at l all rest at n out text before refused here positive e is inv = goes_on l all at n out text before refused positive (ap (λ s. begins s (closing l)) (sym here) ∙ e) (ap (item l) (sym here) ∙ is) inv

-- ---- line ends

length_of : (text : List ℕ) (n : ℕ) (p : Part) → Some (part text n) ≡ Some p → p.length ≡ n
length_of text n p e = let same : part text n ≡ p = cc in ap (λ q. q.length) (sym same)

none_refused : (text : List ℕ) (n k : ℕ) (p : Part) → Some (part text n) ≡ Some p → p.refused ≡ Some k → ⊥
none_refused text n k p e is = let same : part text n ≡ p = cc in let none : None ≡ p.refused = ap (λ q. q.refused) same in cc

digits_are_plain : (s : List ℕ) → all_digits 16 s ≡ true → all_plain s ≡ true
digits_are_plain [] h = refl
digits_are_plain (c ∷ s) h = let e = both (is_digit 16 c) (all_digits 16 s) h in rw (is_plain (is_digit 16) refl refl c e.0) (digits_are_plain s e.1)

-- what stands for a character behind a backslash
escape_ends : (b c : ℕ) (s : List ℕ) → plain c ≡ true → line_ends s ≡ line_ends (drop (escaped (simple_by (simple_escape c) (c ∷ s))).length (b ∷ c ∷ s))
unfolding hex octal scalar_of
escape_ends b c s h = simple (simple_escape c)
  where
    two : (n : ℕ) → n + 2 ≡ suc (suc n)
    two n = omega arith

    octal_ends : (found : Option ℕ) → line_ends s ≡ line_ends (drop (escaped (one found (octal_length (c ∷ s) + 1))).length (b ∷ c ∷ s))
    octal_ends None = refl
    octal_ends (Some x) = rw (add-one (octal_length (c ∷ s))) (sym (plain_first c s h) ∙ plain_pass (octal_length (c ∷ s)) (c ∷ s) (all_are_plain (is_digit 8) refl refl (take (octal_length (c ∷ s)) (c ∷ s)) (run_all (is_digit 8) 3 (c ∷ s))))

    hex_ends : (n : ℕ) → line_ends s ≡ line_ends (drop (escaped (hex n s)).length (b ∷ c ∷ s))
    hex_ends n = go (nat_lt (length s) n) (all_digits 16 (take n s)) refl (scalar (number 16 0 (take n s)))
      where
        go : (short all : Bool) → all_digits 16 (take n s) ≡ all → (is : Bool)
            → line_ends s ≡ line_ends (drop (escaped (cond short None (one (cond (all && is) (Some (number 16 0 (take n s))) None) (n + 2)))).length (b ∷ c ∷ s))
        go true all e is = refl
        go false false e is = refl
        go false true e false = refl
        go false true e true = rw (two n) (plain_pass n s (digits_are_plain (take n s) e))

    hex_by_ends : (n : Option ℕ) → line_ends s ≡ line_ends (drop (escaped (hex_by n s)).length (b ∷ c ∷ s))
    hex_by_ends None = refl
    hex_by_ends (Some n) = hex_ends n

    other : (is : Bool) → line_ends s ≡ line_ends (drop (escaped (cond is (octal (c ∷ s)) (hex_by (hex_length c) s))).length (b ∷ c ∷ s))
    other true = octal_ends (scalar_of 8 (take (octal_length (c ∷ s)) (c ∷ s)))
    other false = hex_by_ends (hex_length c)

    simple : (stands : Option ℕ) → line_ends s ≡ line_ends (drop (escaped (simple_by stands (c ∷ s))).length (b ∷ c ∷ s))
    simple (Some x) = refl
    simple None = other (is_digit 8 c)

zero_and : (m n : ℕ) → m ≡ n → m ≡ 0 + n
zero_and m n e = omega arith

backslash_ends : (l : Literal) (b : ℕ) (s : List ℕ) (p : Part) → at_backslash l s ≡ Some p → line_ends s ≡ lines_at s + line_ends (drop p.length (b ∷ s))
unfolding escape raw_escape
backslash_ends l b [] p e = cc
backslash_ends l b (c ∷ s) p e = go (nat_lt 0 (line_end (c ∷ s))) refl l.raw e
  where
    joined : (text : List ℕ) → Some (part text (line_end (c ∷ s) + 1)) ≡ Some p → nat_lt 0 (line_end (c ∷ s)) ≡ true → line_ends (c ∷ s) ≡ 1 + line_ends (drop p.length (b ∷ c ∷ s))
    joined text e is = rw (length_of text (line_end (c ∷ s) + 1) p e, add-one (line_end (c ∷ s))) (end_first (c ∷ s) is)

    more : (q : Part) → q ≡ p → nat_lt 0 (line_end (c ∷ s)) ≡ false → line_ends s ≡ line_ends (drop q.length (b ∷ c ∷ s)) → line_ends (c ∷ s) ≡ 0 + line_ends (drop p.length (b ∷ c ∷ s))
    more q same is e = zero_and _ _ (plain_first c s (no_end c s is) ∙ e ∙ ap (λ q. line_ends (drop q.length (b ∷ c ∷ s))) same)

    go : (a : Bool) → nat_lt 0 (line_end (c ∷ s)) ≡ a → (r : Bool)
        → Some (escaped (cond r (cond a (Some (92 ∷ 10 ∷ [], line_end (c ∷ s) + 1)) (Some (92 ∷ c ∷ [], 2))) (cond a (Some ([], line_end (c ∷ s) + 1)) (simple_by (simple_escape c) (c ∷ s))))) ≡ Some p
        → line_ends (c ∷ s) ≡ cond a 1 0 + line_ends (drop p.length (b ∷ c ∷ s))
    go true is true e = joined (92 ∷ 10 ∷ []) e is
    go true is false e = joined [] e is
    go false is true e = let same : part (92 ∷ c ∷ []) 2 ≡ p = cc in more (part (92 ∷ c ∷ []) 2) same is refl
    go false is false e = let same : escaped (simple_by (simple_escape c) (c ∷ s)) ≡ p = cc in more (escaped (simple_by (simple_escape c) (c ∷ s))) same is (escape_ends b c s (no_end c s is))

item_ends : (l : Literal) (s : List ℕ) (p : Part) → item l s ≡ Some p → line_ends s ≡ lines_in s + line_ends (drop p.length s)
unfolding item
item_ends l [] p e = cc
item_ends l (c ∷ s) p e = go (nat_lt 0 (line_end (c ∷ s))) refl (c == 92) l.triple e
  where
    go : (a : Bool) → nat_lt 0 (line_end (c ∷ s)) ≡ a → (b t : Bool) → cond a (cond t (Some (part (10 ∷ []) (line_end (c ∷ s)))) None) (cond b (at_backslash l s) (Some (part (c ∷ []) 1))) ≡ Some p
        → line_ends (c ∷ s) ≡ cond a 1 (cond b (lines_at s) 0) + line_ends (drop p.length (c ∷ s))
    go true is b true e = rw (length_of (10 ∷ []) (line_end (c ∷ s)) p e) (end_first (c ∷ s) is)
    go true is b false e = cc
    go false is true t e = plain_first c s (no_end c s is) ∙ backslash_ends l c s p e
    go false is false t e = rw (length_of (c ∷ []) 1 p e) (zero_and _ _ (plain_first c s (no_end c s is)))

-- an escape is refused at its backslash
item_refused : (l : Literal) (s : List ℕ) (p : Part) (k : ℕ) → item l s ≡ Some p → p.refused ≡ Some k → slice_index s 0 ≡ 92
unfolding item
item_refused l [] p k e is = cc
item_refused l (c ∷ s) p k e is = go (nat_lt 0 (line_end (c ∷ s))) (c == 92) refl l.triple e
  where
    go : (a b : Bool) → (c == 92) ≡ b → (t : Bool) → cond a (cond t (Some (part (10 ∷ []) (line_end (c ∷ s)))) None) (cond b (at_backslash l s) (Some (part (c ∷ []) 1))) ≡ Some p → c ≡ 92
    go true b x true e = absurd (none_refused (10 ∷ []) (line_end (c ∷ s)) k p e is)
    go true b x false e = cc
    go false true x t e = is_equal c 92 x
    go false false x t e = absurd (none_refused (c ∷ []) 1 k p e is)

pub at_most_one : (s : List ℕ) → lines_in s ≤ 1
at_most_one [] = omega arith
at_most_one (c ∷ s) = go (nat_lt 0 (line_end (c ∷ s))) (c == 92) (nat_lt 0 (line_end s))
  where
    go : (a b d : Bool) → cond a 1 (cond b (cond d 1 0) 0) ≤ 1
    go true b d = omega arith
    go false true true = omega arith
    go false true false = omega arith
    go false false d = omega arith

abbrev pub Counts : List ℕ → Option ℕ → ℕ → ℕ → Counted
Counts text refused n lines = record { text = text; refused = refused; length = n; lines = lines }

-- a part that stands so much further on
abbrev pub moved : ℕ → Option Counted → Option Counted
moved n None = None
moved n (Some c) = Some (record c { length = n + c.length })

-- ---- a body that is read up to a place

pub record Reached (l : Literal) (all : List ℕ) (at : ℕ) (out : List ℕ) (refused : Option ℕ) (lines : ℕ) : Type 0 where
  -- where the first refused escape is
  pub place : Option ℕ
  pub below : refused ≡ lines_below place all
  pub ends : line_ends all ≡ lines + line_ends (drop at all)
  pub left : behind (Parts out place at) (encoded (body l 0 (drop at all))) ≡ encoded (body l 0 all)

-- one item further
pub reached_next : (l : Literal) (all rest : List ℕ) (at n lines more : ℕ) (out text : List ℕ) (before : Option ℕ) (stands : Option Stands) → rest ≡ drop at all → 0 < n → begins rest (closing l) ≡ false
    → item l rest ≡ Some (Parts text (refused_by stands) n) → more ≡ lines_in rest → Reached l all at out before lines
    → Reached l all (at + n) (out ++ encode_utf8_all text) (earlier before lines (refused_by stands)) (lines + more)
reached_next l all rest at n lines more out text before stands here positive open_ is counted r = record {
  place = earlier r.place at (refused_by stands);
  below = rw r.below (placed r.place stands is);
  ends = added (line_ends all) lines more (line_ends rest) (line_ends (drop (at + n) all)) (r.ends ∙ ap (λ s. lines + line_ends s) (sym here)) (rw (counted, ← further) (item_ends l rest (Parts text (refused_by stands) n) is));
  left = goes_on_at l all rest at n out text r.place (refused_by stands) here positive open_ is r.left;
}
  where
    added : (a m k b d : ℕ) → a ≡ m + b → b ≡ k + d → a ≡ m + k + d
    added a m k b d x y = omega arith

    further : drop n rest ≡ drop (at + n) all
    further = rw here (drop-drop n at all)

    no_feed : slice_index rest 0 ≡ 92 → slice_index (drop at all) 0 ≡ 10 → ⊥
    no_feed x y = let z : slice_index rest 0 ≡ 10 = ap (λ s. slice_index s 0) here ∙ y in absurd (omega arith)

    same : slice_index rest 0 ≡ 92 → lines ≡ line_ends (take at all)
    same x = let e = cut_ends at all (no_feed x) in let f = r.ends in omega arith

    none : (n : ℕ) → n + 0 ≡ n
    none n = omega arith

    placed : (place : Option ℕ) (stands : Option Stands) → item l rest ≡ Some (Parts text (refused_by stands) n) → earlier (lines_below place all) lines (refused_by stands) ≡ lines_below (earlier place at (refused_by stands)) all
    placed (Some k) stands is = refl
    placed None (Some s) is = refl
    placed None None is = rw (none lines, none at) (ap Some (same (item_refused l rest (Parts text (Some 0) n) 0 is refl)))

-- the closing quotes
pub reached_end : (l : Literal) (all rest : List ℕ) (at lines n : ℕ) (out : List ℕ) (refused : Option ℕ) → is_quote l.quote ≡ true → rest ≡ drop at all → 0 < length rest → begins rest (closing l) ≡ true → n ≡ length (closing l) → Reached l all at out refused lines
    → Some (Counts out refused (at + n) lines) ≡ counted (encoded (body l 0 all)) all
reached_end l all [] at lines n out refused quote here there is size r = absurd (omega arith)
reached_end l all (c ∷ s) at lines n out refused quote here there is size r = same ∙ sym (ap (λ found. counted found all) closed)
  where
    q_plain : plain l.quote ≡ true
    q_plain = is_plain is_quote refl refl l.quote quote

    quotes : (t : Bool) → all_plain (cond t (l.quote ∷ l.quote ∷ l.quote ∷ []) (l.quote ∷ [])) ≡ true
    quotes true = rw q_plain refl
    quotes false = rw q_plain refl

    front : take (length (closing l)) (c ∷ s) ≡ closing l
    front = (bytes_eq-Decides (take (length (closing l)) (c ∷ s)) (closing l)).0 is

    first : (t : Bool) → take (length (cond t (l.quote ∷ l.quote ∷ l.quote ∷ []) (l.quote ∷ []))) (c ∷ s) ≡ cond t (l.quote ∷ l.quote ∷ l.quote ∷ []) (l.quote ∷ []) → c ≡ l.quote
    first true e = cc
    first false e = cc

    q_differs : l.quote ≡ 10 → ⊥
    q_differs y = let z : is_quote 10 ≡ true = ap is_quote (sym y) ∙ quote in cc

    no_feed : slice_index (drop at all) 0 ≡ 10 → ⊥
    no_feed e = q_differs (sym (first l.triple front) ∙ ap (λ s. slice_index s 0) here ∙ e)

    first_quote : (t : Bool) → slice_index (cond t (l.quote ∷ l.quote ∷ l.quote ∷ []) (l.quote ∷ [])) 0 ≡ l.quote
    first_quote true = refl
    first_quote false = refl

    closed_at : (b : Bool) (more : Option Part) → b ≡ true → cond b (Some (part [] (length (closing l)))) more ≡ Some (part [] (length (closing l)))
    closed_at true more e = refl
    closed_at false more e = cc

    closes_there : body l 0 (c ∷ s) ≡ Some (part [] (length (closing l)))
    closes_there = closed_at (begins (c ∷ s) (closing l)) _ is

    closed : encoded (body l 0 all) ≡ Some (Parts (out ++ []) (earlier r.place at None) (at + length (closing l)))
    closed = sym r.left ∙ ap (λ s. behind (Parts out r.place at) (encoded (body l 0 s))) (sym here) ∙ ap (λ found. behind (Parts out r.place at) (encoded found)) closes_there

    ends : lines ≡ line_ends (take (at + length (closing l)) all)
    ends =
        let m : ℕ = length (closing l) in
        let u : List ℕ = take (at + m) all in
        let within : at ≤ at + m = omega arith in
        let seam : take at u ≡ take at all = take-take at (at + m) all within in
        let tail : drop at u ≡ closing l = drop-take at m all ∙ ap (take m) (sym here) ∙ front in
        let before = cut_ends at all no_feed in
        let whole = cut_ends at u (λ e. q_differs (sym (first_quote l.triple) ∙ ap (λ s. slice_index s 0) (sym tail) ∙ e)) in
        let x : line_ends (take at u) ≡ line_ends (take at all) = ap line_ends seam in
        let y : line_ends (drop at u) ≡ line_ends (closing l) = ap line_ends tail in
        let z : 0 ≡ line_ends (closing l) = plain_none (closing l) (quotes l.triple) in
        summed lines (line_ends all) (line_ends (drop at all)) _ _ _ _ _ r.ends before whole x y z
      where
        summed : (n a b t w x y z : ℕ) → a ≡ n + b → a ≡ t + b → w ≡ x + y → x ≡ t → y ≡ z → 0 ≡ z → n ≡ w
        summed n a b t w x y z e f g h i j = omega arith

    same : Some (Counts out refused (at + n) lines) ≡ counted (Some (Parts (out ++ []) (earlier r.place at None) (at + length (closing l)))) all
    same = rw (size, r.below, append-nil out, none-later r.place at, ← ends) refl

-- the line of the first refused escape is within the text
pub below_most : (place : Option ℕ) (all : List ℕ) → IfSome (lines_below place all) (λ n. n ≤ length all)
below_most None all = tt
below_most (Some k) all = let a = most (take k all) in let b = length-take k all in omega (arith, a, b)

pub lines_most : (l : Literal) (all : List ℕ) (at lines : ℕ) (out : List ℕ) (refused : Option ℕ) → Reached l all at out refused lines → lines ≤ length all
lines_most l all at lines out refused r = let a = r.ends in let b = most all in omega arith

-- what comes behind the opening quotes
pub opened : (n : ℕ) (s : List ℕ) (found : Option Counted) (r : Option Part) → all_plain (take n s) ≡ true → found ≡ counted (encoded r) (drop n s) → moved n found ≡ counted (encoded (behind (part [] n) r)) s
opened n s found None h e = rw e refl
opened n s found (Some p) h e = rw e (go p.refused)
  where
    go : (refused : Option ℕ) → Some (Counts (encode_utf8_all p.text) (lines_below refused (drop n s)) (n + p.length) (line_ends (take p.length (drop n s))))
        ≡ Some (Counts (encode_utf8_all p.text) (lines_below (earlier None n refused) s) (n + p.length) (line_ends (take (n + p.length) s)))
    go None = rw (plain_front n p.length s h) refl
    go (Some k) = rw (plain_front n p.length s h, plain_front n k s h) refl

pub reached_near : (l : Literal) (all : List ℕ) (at lines : ℕ) (out : List ℕ) (refused : Option ℕ) → Reached l all at out refused lines → IfSome refused (λ n. n ≤ length all)
reached_near l all at lines out refused r = rw r.below (below_most r.place all)

-- the literal that starts at a quote
pub literal_read : (raw triple : Bool) (q : ℕ) (s inner : List ℕ) (n : ℕ) (found : Option Counted) → 0 < length s → q ≡ slice_index s 0 → is_quote (slice_index s 0) ≡ true → triple ≡ begins s (q ∷ q ∷ q ∷ [])
    → n ≡ length (closing (record { quote = q; raw = raw; triple = triple })) → inner ≡ drop n s → found ≡ counted (encoded (body (record { quote = q; raw = raw; triple = triple }) 0 inner)) inner → moved n found ≡ counted (encoded (literal raw s)) s
unfolding literal
literal_read raw triple q [] inner n found there at quote opens size here e = absurd (omega arith)
literal_read raw triple q (c ∷ s) inner n found there at quote opens size here e = same
  where
    lit : ℕ → Bool → Literal
    lit q t = record { quote = q; raw = raw; triple = t }

    spelled : ℕ → Bool → ℕ → Option Counted
    spelled q t n = counted (encoded (behind (part [] n) (body (lit q t) 0 (drop n (c ∷ s))))) (c ∷ s)

    all_three : (b : Bool) → b ≡ true → (b && (b && (b && true))) ≡ true
    all_three b e = rw e refl

    all_one : (b : Bool) → b ≡ true → (b && true) ≡ true
    all_one b e = rw e refl

    c_plain : plain c ≡ true
    c_plain = is_plain is_quote refl refl c quote

    fronts : (t : Bool) → begins (c ∷ s) (c ∷ c ∷ c ∷ []) ≡ t → all_plain (take (length (closing (lit c t))) (c ∷ s)) ≡ true
    fronts true is = ap all_plain ((bytes_eq-Decides (take 3 (c ∷ s)) (c ∷ c ∷ c ∷ [])).0 is) ∙ all_three (plain c) c_plain
    fronts false is = all_one (plain c) c_plain

    opens' : begins (c ∷ s) (c ∷ c ∷ c ∷ []) ≡ triple
    opens' = let P : ℕ → Type 0 = λ q. triple ≡ begins (c ∷ s) (q ∷ q ∷ q ∷ []) in sym (subst P at opens)

    size' : n ≡ length (closing (lit c triple))
    size' = let P : ℕ → Type 0 = λ q. n ≡ length (closing (lit q triple)) in subst P at size

    front : all_plain (take n (c ∷ s)) ≡ true
    front = let P : ℕ → Type 0 = λ n. all_plain (take n (c ∷ s)) ≡ true in subst P (sym size') (fronts triple opens')

    e' : found ≡ counted (encoded (body (lit c triple) 0 (drop n (c ∷ s)))) (drop n (c ∷ s))
    e' =
        let P : ℕ → Type 0 = λ q. found ≡ counted (encoded (body (lit q triple) 0 inner)) inner in
        subst P at e ∙ ap (λ x. counted (encoded (body (lit c triple) 0 x)) x) here

    sized : moved n found ≡ spelled c triple (length (closing (lit c triple)))
    sized = opened n (c ∷ s) found (body (lit c triple) 0 (drop n (c ∷ s))) front e' ∙ ap (λ n. spelled c triple n) size'

    same : moved n found ≡ spelled c (begins (c ∷ s) (c ∷ c ∷ c ∷ [])) (length (closing (lit c (begins (c ∷ s) (c ∷ c ∷ c ∷ [])))))
    same = sized ∙ ap (λ t. spelled c t (length (closing (lit c t)))) (sym opens')
