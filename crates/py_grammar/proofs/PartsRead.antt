-- Parts of lists that the grammar spells are read, and lists of them.
use Rattle.std.proofs.Common.{◌≡◌, ℕ, zero, suc, ◌+◌, ◌-◌, max, ◌<◌, ◌≤◌, Bool, true, false, cond, List, [], ◌∷◌, ◌++◌, length, Option, Some, None, refl, ap, ◌∙◌, sym, subst, arith, append_assoc, length-append, le_refl, le_trans, append-nil}
use Rattle.py_ast.specs.declared.token.Token.{Token}
use Rattle.py_ast.specs.declared.token.TokenKind.TheVariants as k
use Rattle.py_ast.specs.declared.spelled.Word.TheVariants as w
use Rattle.py_ast.specs.declared.spelled.Sign.TheVariants as s
use Rattle.py_ast.specs.declared.expr.Comparison.{Comparison}
use Rattle.py_ast.specs.declared.expr.Item.{Item}
use Rattle.py_ast.specs.declared.expr.Item.TheVariants as it
use Rattle.py_ast.specs.declared.expr.Entry.TheVariants as en
use Rattle.py_ast.specs.declared.expr.Argument.TheVariants as ar
use Rattle.py_ast.specs.declared.expr.Param.TheVariants as pa
use Rattle.py_ast.specs.declared.expr.Clause.{Clause}
use Rattle.py_ast.specs.declared.expr.Clause.TheVariants as cl
use Rattle.py_ast.specs.declared.expr.Clauses.{Clauses}
use Rattle.py_ast.specs.declared.expr.Expr.{Expr}
use Rattle.py_ast.specs.declared.expr.Expr.TheVariants as e
use Rattle.py_grammar.specs.declared.found.Found.{Found}
use Rattle.py_grammar.specs.declared.role.Mark.{Mark}
use Rattle.py_grammar.specs.declared.role.Mark.TheVariants as m
use Rattle.py_grammar.specs.declared.role.Row.{Row}
use Rattle.py_grammar.specs.declared.role.Row.TheVariants as row
use Rattle.py_grammar.specs.Levels.{expression, disjunction, bitor, plain_level, star_level, role, makes, wants, mark, mark_of, line, can_begin}
use Rattle.py_grammar.specs.Grammar.{Part, Parts, PartOf, Tail, Run, Compares, IsSign, IsWord, alone}
use Rattle.py_grammar.specs.Parse.{Parser, and_then, found, only, with_part, part, item, argument, argument_by, plain_argument, keyword, entry, pair, named, star_by, param, param_by, link, comparator, tail_from, run_from, row_behind, row_of, loop_clause, clause, clause_by, comprehension, comprehended, parse, is_sign, is_word, is_name, sees, sees_word, sees_keyword, begins, begins_clause, pure}
use Rattle.py_grammar.proofs.Roles.{Behind, Over, behind_comma, ending, star_looser, plain_positive, running, apart_by}
use Rattle.py_grammar.proofs.Steps.{sees_it, sees_word_it, sees_by, sees_word_by, after_it, after_none, expects, expects_word, names, tall_enough}
use Rattle.py_grammar.proofs.Starts.{Begins, Fronted, Unkeyed, mark_front, tail_mark, tail_comma, run_mark, begins_part}
use Rattle.py_grammar.proofs.Lists.{joined, joined-nothing, joined-more}
use Rattle.py_grammar.proofs.OperationsRead.{Complete, whole, whole_before, CompletePart, CompleteTail, CompleteRun}

-- ---- what an expression does not begin with

no_star : (l : ℕ) (q : Mark) → can_begin l q ≡ true → is_sign s.Star q ≡ false
no_star l (m.Sign s.Star) h = cc
no_star l _ h = refl

no_double : (l : ℕ) (q : Mark) → can_begin l q ≡ true → is_sign s.DoubleStar q ≡ false
no_double l (m.Sign s.DoubleStar) h = cc
no_double l _ h = refl

no_not : (q : Mark) → can_begin bitor q ≡ true → is_word w.Not q ≡ false
no_not (m.Keyword w.Not) h = cc
no_not _ h = refl

-- ---- parts

pub on_item : (r : Row) (h : ℕ) (x : Expr) (xs : List Token) → Begins (plain_level r) xs → Complete (plain_level r) h x xs → CompletePart (Parts.items r) h (it.One x) xs
unfolding item
on_item r h x xs b a n fits d low rest behind =
    let first = sees_by s.Star (xs ++ rest) false (no_star (plain_level r) _ (mark_front (plain_level r) xs rest b)) in
    rw (first, whole (plain_level r) h x xs a n fits d low rest behind.takes behind.ends) refl

pub on_star_item : (r : Row) (h : ℕ) (x : Expr) (xs : List Token) (t : Token) → IsSign t s.Star → Complete (star_level r) h x xs → CompletePart (Parts.items r) h (it.Star t.line x) (t ∷ xs)
unfolding item
on_star_item r h x xs t is a n fits d low rest behind =
    let up = star_looser r in
    let takes = behind.takes in
    let ends = behind.ends in
    rw (sees_it t s.Star (xs ++ rest) is, whole (star_level r) h x xs a n (omega arith) d low rest (omega arith) (omega arith)) refl

argument_is : (again : ℕ → ℕ → Parser (Found Expr)) (n d : ℕ) (i : List Token) (q : Mark) → mark i ≡ q → argument again n d i ≡ argument_by again n d q i
unfolding argument
argument_is again n d i q is = ap (λ q. argument_by again n d q i) is

argument_plain : (again : ℕ → ℕ → Parser (Found Expr)) (n d : ℕ) (q : Mark) → can_begin expression q ≡ true → argument_by again n d q ≡ plain_argument again n d
argument_plain again n d (m.Sign s.Star) h = cc
argument_plain again n d (m.Sign s.DoubleStar) h = cc
argument_plain again n d _ h = refl

arguments_no_equal : (q : Mark) → apart_by Parts.arguments q ≡ true → is_sign s.Equal q ≡ false
arguments_no_equal (m.Sign s.Equal) h = cc
arguments_no_equal _ h = refl

pub on_argument : (h : ℕ) (x : Expr) (xs : List Token) → Begins expression xs → Unkeyed xs → Complete expression h x xs → CompletePart Parts.arguments h (ar.Plain x) xs
on_argument h x xs b u a n fits d low rest behind =
    let no_key = u rest (sees_by s.Equal rest false (arguments_no_equal (mark rest) behind.apart)) in
    argument_is (parse n) n d (xs ++ rest) _ refl ∙ ap (λ f. f (xs ++ rest)) (argument_plain (parse n) n d (mark (xs ++ rest)) (mark_front expression xs rest b))
    ∙ rw (no_key, whole expression h x xs a n fits d low rest behind.takes behind.ends) refl

pub on_star_argument : (h : ℕ) (x : Expr) (xs : List Token) (t : Token) → IsSign t s.Star → Complete expression h x xs → CompletePart Parts.arguments h (ar.Star x) (t ∷ xs)
on_star_argument h x xs t is a n fits d low rest behind =
    argument_is (parse n) n d (t ∷ (xs ++ rest)) (m.Sign s.Star) (ap mark_of is) ∙ rw (whole expression h x xs a n (omega arith) d low rest behind.takes behind.ends) refl

pub on_merge_argument : (h : ℕ) (x : Expr) (xs : List Token) (t : Token) → IsSign t s.DoubleStar → Complete expression h x xs → CompletePart Parts.arguments h (ar.Merge x) (t ∷ xs)
on_merge_argument h x xs t is a n fits d low rest behind =
    argument_is (parse n) n d (t ∷ (xs ++ rest)) (m.Sign s.DoubleStar) (ap mark_of is) ∙ rw (whole expression h x xs a n (omega arith) d low rest behind.takes behind.ends) refl

keyed : {name : List ℕ} (t u : Token) (i : List Token) → t.kind ≡ k.Name name → IsSign u s.Equal → sees_keyword (t ∷ u ∷ i) ≡ true
unfolding sees_keyword
keyed t u i is equal = ap (λ q. cond (is_name (mark_of q)) (sees s.Equal (u ∷ i)) false) is ∙ sees_it u s.Equal i equal

pub on_keyword : (h : ℕ) (name : List ℕ) (x : Expr) (xs : List Token) (t u : Token) → t.kind ≡ k.Name name → IsSign u s.Equal → Complete expression h x xs → CompletePart Parts.arguments h (ar.Keyword t.line name x) (t ∷ u ∷ xs)
unfolding keyword
on_keyword h name x xs t u is equal a n fits d low rest behind =
    argument_is (parse n) n d (t ∷ u ∷ (xs ++ rest)) m.Name (ap mark_of is)
    ∙ rw (keyed t u (xs ++ rest) is equal, names t (u ∷ (xs ++ rest)) is, whole expression h x xs a n (omega arith) d low rest behind.takes behind.ends) refl

pub on_pair : (g h : ℕ) (x y : Expr) (xs ys : List Token) (t : Token) → Begins expression xs → Complete expression g x xs → IsSign t s.Colon → Complete expression h y ys → CompletePart Parts.entries (max g h) (en.Pair x y) (xs ++ t ∷ ys)
unfolding entry pair
on_pair g h x y xs ys t b a is c n fits d low rest behind =
    let size = length-append xs (t ∷ ys) in
    let first = sees_by s.DoubleStar (xs ++ (t ∷ (ys ++ rest))) false (no_double expression _ (mark_front expression xs (t ∷ (ys ++ rest)) b)) in
    let key = whole_before expression g x xs (omega arith) a n (omega arith) d (omega arith) t (ys ++ rest) _ is refl in
    let value = whole expression h y ys c n (omega arith) d (omega arith) rest behind.takes behind.ends in
    rw (append_assoc xs (t ∷ ys) rest, first, key, expects t s.Colon (ys ++ rest) is, value) refl

pub on_merge_entry : (h : ℕ) (x : Expr) (xs : List Token) (t : Token) → IsSign t s.DoubleStar → Complete bitor h x xs → CompletePart Parts.entries h (en.Merge x) (t ∷ xs)
unfolding entry
on_merge_entry h x xs t is a n fits d low rest behind =
    let takes = behind.takes in
    let ends = behind.ends in
    rw (sees_it t s.DoubleStar (xs ++ rest) is, whole bitor h x xs a n (omega arith) d low rest (omega arith) (omega arith)) refl

param_is : (again : ℕ → ℕ → Parser (Found Expr)) (n d : ℕ) (i : List Token) (q : Mark) → mark i ≡ q → param again n d i ≡ param_by again n d q i
unfolding param
param_is again n d i q is = ap (λ q. param_by again n d q i) is

params_no_equal : (q : Mark) → apart_by Parts.params q ≡ true → is_sign s.Equal q ≡ false
params_no_equal (m.Sign s.Equal) h = cc
params_no_equal _ h = refl

star_bare : (again : ℕ → ℕ → Parser (Found Expr)) (n at : ℕ) (q : Mark) → apart_by Parts.params q ≡ true → star_by again n at q ≡ pure (found (pa.Star at None) 0)
star_bare again n at m.Name h = cc
star_bare again n at _ h = refl

pub on_named : (name : List ℕ) (t : Token) → t.kind ≡ k.Name name → CompletePart Parts.params 0 (pa.Named t.line name None) (t ∷ [])
unfolding named
on_named name t is n fits d low rest behind =
    let no_default = sees_by s.Equal rest false (params_no_equal (mark rest) behind.apart) in
    param_is (parse n) n d (t ∷ rest) m.Name (ap mark_of is) ∙ rw (names t rest is, no_default, after_none s.Equal rest no_default) refl

pub on_default : (h : ℕ) (name : List ℕ) (x : Expr) (xs : List Token) (t u : Token) → t.kind ≡ k.Name name → IsSign u s.Equal → Complete expression h x xs → CompletePart Parts.params h (pa.Named t.line name (Some x)) (t ∷ u ∷ xs)
unfolding named
on_default h name x xs t u is equal a n fits d low rest behind =
    param_is (parse n) n d (t ∷ u ∷ (xs ++ rest)) m.Name (ap mark_of is)
    ∙ rw (names t (u ∷ (xs ++ rest)) is, sees_it u s.Equal (xs ++ rest) equal, after_it u s.Equal (xs ++ rest) equal, whole expression h x xs a n (omega arith) d low rest behind.takes behind.ends) refl

pub on_slash : (t : Token) → IsSign t s.Slash → CompletePart Parts.params 0 (pa.Slash t.line) (t ∷ [])
on_slash t is n fits d low rest behind = param_is (parse n) n d (t ∷ rest) (m.Sign s.Slash) (ap mark_of is)

pub on_bare_star : (t : Token) → IsSign t s.Star → CompletePart Parts.params 0 (pa.Star t.line None) (t ∷ [])
on_bare_star t is n fits d low rest behind = param_is (parse n) n d (t ∷ rest) (m.Sign s.Star) (ap mark_of is) ∙ ap (λ f. f rest) (star_bare (parse n) n t.line (mark rest) behind.apart)

pub on_star_param : (name : List ℕ) (t u : Token) → IsSign t s.Star → u.kind ≡ k.Name name → CompletePart Parts.params 0 (pa.Star t.line (Some name)) (t ∷ u ∷ [])
on_star_param name t u is named n fits d low rest behind =
    param_is (parse n) n d (t ∷ u ∷ rest) (m.Sign s.Star) (ap mark_of is) ∙ ap (λ q. star_by (parse n) n t.line (mark_of q) (u ∷ rest)) named ∙ rw (names u rest named) refl

pub on_double_star : (name : List ℕ) (t u : Token) → IsSign t s.DoubleStar → u.kind ≡ k.Name name → CompletePart Parts.params 0 (pa.DoubleStar t.line name) (t ∷ u ∷ [])
on_double_star name t u is named n fits d low rest behind = param_is (parse n) n d (t ∷ u ∷ rest) (m.Sign s.DoubleStar) (ap mark_of is) ∙ rw (names u rest named) refl

pub on_place : (h : ℕ) (x : Expr) (xs : List Token) → Complete expression h x xs → CompletePart Parts.indices h x xs
on_place h x xs a n fits d low rest behind = whole expression h x xs a n fits d low rest behind.takes behind.ends

reads_comparator : {o : Comparison} {os : List Token} → Compares o os → (i : List Token) → sees_word w.Not i ≡ false → comparator (os ++ i) ≡ Some (o, i)
unfolding comparator
reads_comparator (Compares.less t is) i other = rw is refl
reads_comparator (Compares.greater t is) i other = rw is refl
reads_comparator (Compares.less_equal t is) i other = rw is refl
reads_comparator (Compares.greater_equal t is) i other = rw is refl
reads_comparator (Compares.equal t is) i other = rw is refl
reads_comparator (Compares.not_equal t is) i other = rw is refl
reads_comparator (Compares.within t is) i other = rw is refl
reads_comparator (Compares.not_within t u is in_) i other = rw (is, expects_word u w.In i in_) refl
reads_comparator (Compares.is_one t is) i other = rw (is, other) refl
reads_comparator (Compares.is_not t u is not) i other = rw (is, sees_word_it u w.Not i not) refl

pub on_link : (o : Comparison) (h : ℕ) (y : Expr) (os ys : List Token) → Compares o os → Begins bitor ys → Complete bitor h y ys → CompletePart Parts.links h (record { comparison = o; right = y }) (os ++ ys)
unfolding link
on_link o h y os ys is b a n fits d low rest behind =
    let size = length-append os ys in
    let other = sees_word_by w.Not (ys ++ rest) false (no_not _ (mark_front bitor ys rest b)) in
    rw (append_assoc os ys rest, reads_comparator is (ys ++ rest) other, whole bitor h y ys a n (omega arith) d low rest behind.takes behind.ends) refl

-- ---- lists with commas

pub on_done : (p : Parts) → CompleteTail p 0 [] []
unfolding tail_from
on_done p n zero fits turns d low acc rest over = absurd (omega arith)
on_done p n (suc n') fits turns d low acc rest over =
    let none = sees_by s.Comma rest false over.no_comma in
    rw (none, after_none s.Comma rest none) (ap (λ l. Some (l, rest)) (joined-nothing acc))

pub on_trailing : (p : Parts) (t : Token) → IsSign t s.Comma → CompleteTail p 0 [] (t ∷ [])
unfolding tail_from
on_trailing p t is n zero fits turns d low acc rest over = absurd (omega arith)
on_trailing p t is n (suc n') fits turns d low acc rest over = rw (sees_it t s.Comma rest is, after_it t s.Comma rest is, over.no_part) (ap (λ l. Some (l, rest)) (joined-nothing acc))

pub on_more : (p : Parts) (g h : ℕ) (x : Part p) (xs : List (Part p)) (us ys : List Token) (t : Token) → IsSign t s.Comma → ((i : List Token) → begins p (mark (us ++ i)) ≡ true) → CompletePart p g x us → Tail p h xs ys → CompleteTail p h xs ys
    → CompleteTail p (max g h) (x ∷ xs) (t ∷ us ++ ys)
unfolding tail_from
on_more p g h x xs us ys t is first a tail b n zero fits turns d low acc rest over = absurd (omega arith)
on_more p g h x xs us ys t is first a tail b n (suc n') fits turns d low acc rest over =
    let size = length-append us ys in
    let behind = tail_mark (Behind p) tail (behind_comma p) rest over.behind in
    let read = a n (omega arith) d (omega arith) (ys ++ rest) behind in
    let others = b n n' (omega arith) (omega arith) d (omega arith) (with_part acc (found x g)) rest over in
    rw (sees_it t s.Comma ((us ++ ys) ++ rest) is, after_it t s.Comma ((us ++ ys) ++ rest) is, append_assoc us ys rest, first (ys ++ rest), read) (others ∙ ap (λ l. Some (l, rest)) (joined-more acc x g h xs))

-- ---- parts one behind another

pub on_over : (p : Parts) → CompleteRun p 0 [] []
unfolding run_from
on_over p runs n zero fits turns d low acc rest behind ends = absurd (omega arith)
on_over p runs n (suc n') fits turns d low acc rest behind ends = rw ends (ap (λ l. Some (l, rest)) (joined-nothing acc))

pub on_further : (p : Parts) (g h : ℕ) (x : Part p) (xs : List (Part p)) (us ys : List Token) → 0 < length us → ((i : List Token) → begins p (mark (us ++ i)) ≡ true) → CompletePart p g x us → Run p h xs ys → CompleteRun p h xs ys
    → CompleteRun p (max g h) (x ∷ xs) (us ++ ys)
unfolding run_from
on_further p g h x xs us ys some first a run b runs n zero fits turns d low acc rest behind ends = absurd (omega arith)
on_further p g h x xs us ys some first a run b runs n (suc n') fits turns d low acc rest behind ends =
    let size = length-append us ys in
    let next = run_mark (Behind p) run (running p runs) rest behind in
    let read = a n (omega arith) d (omega arith) (ys ++ rest) next in
    let others = b runs n n' (omega arith) (omega arith) d (omega arith) (with_part acc (found x g)) rest behind ends in
    rw (append_assoc us ys rest, first (ys ++ rest), read) (others ∙ ap (λ l. Some (l, rest)) (joined-more acc x g h xs))

-- ---- exprs and targets

begins_no_end : (p : Parts) → begins p m.End ≡ false
begins_no_end (Parts.items row) = refl
begins_no_end _ = refl

pub some_part : (p : Parts) (us : List Token) → ((i : List Token) → begins p (mark (us ++ i)) ≡ true) → 0 < length us
some_part p [] first = let no_end = begins_no_end p in let one = first [] in absurd (let e : true ≡ false = sym one ∙ no_end in cc)
some_part p (t ∷ us) first = omega arith

fronted_some : (us : List Token) → 0 < length us → Fronted us
fronted_some [] some i = absurd (omega arith)
fronted_some (t ∷ us) some i = refl

-- a first item, and what stands behind it
pub record RowRead (r : Row) (at h : ℕ) (x : Expr) (ts : List Token) : Type 0 where
  pub first : Item Expr
  pub more : List (Item Expr)
  pub height : ℕ
  pub others : ℕ
  pub us : List Token
  pub vs : List Token
  pub cut : ts ≡ us ++ vs
  pub low : height ≤ h
  pub starts : (i : List Token) → begins (Parts.items r) (mark (us ++ i)) ≡ true
  pub part_reads : CompletePart (Parts.items r) height first us
  pub tail : Tail (Parts.items r) others more vs
  pub reads : (n : ℕ) → length vs < n → (d : ℕ) → h ≤ d → (rest : List Token) → Over (Parts.items r) (mark rest) → row_behind (parse n) n at r d (found first height) (vs ++ rest) ≡ Some (found x h, rest)

pub on_single : (r : Row) (at h : ℕ) (i : Item Expr) (xs : List Token) → ((i : List Token) → begins (Parts.items r) (mark (xs ++ i)) ≡ true) → CompletePart (Parts.items r) h i xs → RowRead r at h (alone i) xs
unfolding row_behind
on_single r at h i xs starts a = record {
  first = i;
  more = [];
  height = h;
  others = 0;
  us = xs;
  vs = [];
  cut = sym (append-nil xs);
  low = le_refl h;
  starts = starts;
  part_reads = a;
  tail = Tail.done;
  reads = λ n fits d low rest over. rw (sees_by s.Comma rest false over.no_comma) refl;
}

pub on_tuple : (r : Row) (at g h : ℕ) (i : Item Expr) (is : List (Item Expr)) (t : Token) (xs ys : List Token) → ((i : List Token) → begins (Parts.items r) (mark (xs ++ i)) ≡ true) → CompletePart (Parts.items r) g i xs
    → Tail (Parts.items r) h is (t ∷ ys) → CompleteTail (Parts.items r) h is (t ∷ ys) → RowRead r at (max g h + 1) (e.Tuple at (i ∷ is)) (xs ++ t ∷ ys)
unfolding row_behind
on_tuple r at g h i is t xs ys starts a tail b = record {
  first = i;
  more = is;
  height = g;
  others = h;
  us = xs;
  vs = t ∷ ys;
  cut = refl;
  low = omega arith;
  starts = starts;
  part_reads = a;
  tail = tail;
  reads = λ n fits d low rest over. rw (sees_it t s.Comma (ys ++ rest) (tail_comma tail), b n n fits fits (d - 1) (omega arith) (only (found i g)) rest over) (tall_enough d (max g h) _ rest low);
}

pub row_some : (r : Row) (at h : ℕ) (x : Expr) (ts : List Token) → RowRead r at h x ts → 0 < length ts
row_some r at h x ts a = let one = some_part (Parts.items r) a.us a.starts in omega (arith, ap length a.cut, length-append a.us a.vs)

pub row_fronted : (r : Row) (at h : ℕ) (x : Expr) (ts : List Token) → RowRead r at h x ts → Fronted ts
row_fronted r at h x ts a = fronted_some ts (row_some r at h x ts a)

pub row_begins : (r : Row) (at h : ℕ) (x : Expr) (ts : List Token) → RowRead r at h x ts → (i : List Token) → begins (Parts.items r) (mark (ts ++ i)) ≡ true
row_begins r at h x ts a i = rw (a.cut, append_assoc a.us a.vs i) (a.starts (a.vs ++ i))

-- the first item, before what stands behind it
pub row_first : (r : Row) (at h : ℕ) (x : Expr) (ts : List Token) → (a : RowRead r at h x ts) → (n : ℕ) → length ts < n → (d : ℕ) → h ≤ d → (rest : List Token) → Over (Parts.items r) (mark rest)
    → item (parse n) n r d (ts ++ rest) ≡ Some (found a.first a.height, a.vs ++ rest)
row_first r at h x ts a n fits d low rest over =
    let size = length-append a.us a.vs in
    let same = ap length a.cut in
    let below = a.low in
    let behind = tail_mark (Behind (Parts.items r)) a.tail (behind_comma (Parts.items r)) rest over.behind in
    rw (a.cut, append_assoc a.us a.vs rest) (a.part_reads n (omega arith) d (omega arith) (a.vs ++ rest) behind)

pub row_reads : (r : Row) (at h : ℕ) (x : Expr) (ts : List Token) → RowRead r at h x ts → (n : ℕ) → length ts < n → (d : ℕ) → h ≤ d → (rest : List Token) → Over (Parts.items r) (mark rest)
    → row_of (parse n) n at r d (ts ++ rest) ≡ Some (found x h, rest)
unfolding row_of
row_reads r at h x ts a n fits d low rest over =
    let size = length-append a.us a.vs in
    let same = ap length a.cut in
    rw (row_first r at h x ts a n fits d low rest over) (a.reads n (omega arith) d low rest over)

-- ---- comprehensions

abbrev pub CompleteLoop : ℕ → ℕ → Expr → Expr → List Token → Type 0
CompleteLoop at h x y ts = (n : ℕ) → length ts < n → (d : ℕ) → h ≤ d → (rest : List Token) → Behind Parts.clauses (mark rest) → loop_clause (parse n) n d (ts ++ rest) ≡ Some (found (cl.For at x y) h, rest)

abbrev pub CompleteClauses : ℕ → Clauses Expr → List Token → Type 0
CompleteClauses h c ts = (n : ℕ) → length ts < n → (d : ℕ) → h ≤ d → (rest : List Token) → Behind Parts.clauses (mark rest) → begins_clause (mark rest) ≡ false → comprehension (parse n) n d (ts ++ rest) ≡ Some (found c h, rest)

over_in : Over (Parts.items row.Targets) (m.Keyword w.In)
over_in = record { behind = record { takes = omega arith; ends = omega arith; apart = refl }; no_comma = refl; no_part = refl }

pub on_ranges : (g h : ℕ) (x y : Expr) (xs ys : List Token) (t u : Token) → IsWord t w.For → RowRead row.Targets (line xs) g x xs → IsWord u w.In → Complete disjunction h y ys → CompleteLoop t.line (max g h) x y (t ∷ xs ++ u ∷ ys)
unfolding loop_clause
on_ranges g h x y xs ys t u is a in_ b n fits d low rest behind =
    let size = length-append xs (u ∷ ys) in
    let targets = row_reads row.Targets (line xs) g x xs a n (omega arith) d (omega arith) (u ∷ (ys ++ rest)) (subst (Over (Parts.items row.Targets)) (sym (ap mark_of in_)) over_in) in
    let values = whole disjunction h y ys b n (omega arith) d (omega arith) rest behind.takes behind.ends in
    rw (append_assoc xs (u ∷ ys) rest, row_fronted row.Targets (line xs) g x xs a (u ∷ (ys ++ rest)), targets, expects_word u w.In (ys ++ rest) in_, values) refl

clause_is : (again : ℕ → ℕ → Parser (Found Expr)) (n d : ℕ) (i : List Token) (q : Mark) → mark i ≡ q → clause again n d i ≡ clause_by again n d q i
unfolding clause
clause_is again n d i q is = ap (λ q. clause_by again n d q i) is

pub on_loop : (at h : ℕ) (x y : Expr) (ts : List Token) → ((i : List Token) → mark (ts ++ i) ≡ m.Keyword w.For) → CompleteLoop at h x y ts → CompletePart Parts.clauses h (cl.For at x y) ts
on_loop at h x y ts first a n fits d low rest behind = clause_is (parse n) n d (ts ++ rest) (m.Keyword w.For) (first rest) ∙ a n fits d low rest behind

pub on_test : (h : ℕ) (x : Expr) (xs : List Token) (t : Token) → IsWord t w.If → Complete disjunction h x xs → CompletePart Parts.clauses h (cl.If t.line x) (t ∷ xs)
on_test h x xs t is a n fits d low rest behind =
    clause_is (parse n) n d (t ∷ (xs ++ rest)) (m.Keyword w.If) (ap mark_of is) ∙ rw (whole disjunction h x xs a n (omega arith) d low rest behind.takes behind.ends) refl

pub on_comprehension : (at g h : ℕ) (x y : Expr) (cs : List (Clause Expr)) (xs ys : List Token) → ((i : List Token) → mark (xs ++ i) ≡ m.Keyword w.For) → CompleteLoop at g x y xs → Run Parts.clauses h cs ys → CompleteRun Parts.clauses h cs ys
    → CompleteClauses (max g h) (record { target = x; iterable = y; more = cs }) (xs ++ ys)
unfolding comprehension
on_comprehension at g h x y cs xs ys first a run b n fits d low rest behind ends =
    let size = length-append xs ys in
    let next = run_mark (Behind Parts.clauses) run (running Parts.clauses refl) rest behind in
    let one = on_loop at g x y xs first a n (omega arith) d (omega arith) (ys ++ rest) next in
    let others = b refl n n (omega arith) (omega arith) d (omega arith) (found [] 0) rest behind ends in
    let same : max 0 h ≡ h = omega arith in
    rw (append_assoc xs ys rest, one, others, same) refl
