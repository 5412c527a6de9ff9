-- What the grammar spells in brackets is read.
use Rattle.std.proofs.Common.{◌≡◌, ℕ, zero, suc, ◌+◌, ◌-◌, max, ◌<◌, ◌≤◌, Bool, true, false, cond, List, [], ◌∷◌, ◌++◌, length, Option, Some, None, refl, ap, ◌∙◌, sym, subst, arith, append_assoc, length-append, le_refl}
use Rattle.py_ast.specs.declared.token.Token.{Token}
use Rattle.py_ast.specs.declared.spelled.Word.TheVariants as w
use Rattle.py_ast.specs.declared.spelled.Sign.TheVariants as s
use Rattle.py_ast.specs.declared.expr.Item.{Item}
use Rattle.py_ast.specs.declared.expr.Item.TheVariants as it
use Rattle.py_ast.specs.declared.expr.Entry.{Entry}
use Rattle.py_ast.specs.declared.expr.Entry.TheVariants as en
use Rattle.py_ast.specs.declared.expr.Argument.{Argument}
use Rattle.py_ast.specs.declared.expr.Argument.TheVariants as ar
use Rattle.py_ast.specs.declared.expr.Param.{Param}
use Rattle.py_ast.specs.declared.expr.Subscript.TheVariants as sub
use Rattle.py_ast.specs.declared.expr.Clauses.{Clauses}
use Rattle.py_ast.specs.declared.expr.Expr.{Expr}
use Rattle.py_ast.specs.declared.expr.Expr.TheVariants as e
use Rattle.py_grammar.specs.declared.found.Found.{Found}
use Rattle.py_grammar.specs.declared.role.Mark.{Mark}
use Rattle.py_grammar.specs.declared.role.Mark.TheVariants as m
use Rattle.py_grammar.specs.declared.role.Role.TheVariants as r
use Rattle.py_grammar.specs.declared.role.Row.TheVariants as row
use Rattle.py_grammar.specs.declared.role.Bracket.{Bracket}
use Rattle.py_grammar.specs.declared.role.Bracket.TheVariants as b
use Rattle.py_grammar.specs.Levels.{expression, role, makes, wants, mark, mark_of, line, closing, can_begin}
use Rattle.py_grammar.specs.Lists.{arguments_in_order, params_in_order}
use Rattle.py_grammar.specs.Grammar.{Part, Parts, PartOf, Tail, Step, IsSign, IsWord}
use Rattle.py_grammar.specs.Parse.{Parser, found, only, round, round_by, round_first, round_behind, square, square_behind, curly, curly_behind, yields, yielded, arguments, arguments_behind, some_params, params, subscripts, subscripts_behind, slice, bound, step, parse, is_sign, is_word, begins, begins_item, begins_clause}
use Rattle.py_grammar.proofs.Roles.{Behind, Over, behind_comma, ending, over_closing}
use Rattle.py_grammar.proofs.Steps.{sees_it, sees_word_it, sees_by, sees_word_by, tall_enough}
use Rattle.py_grammar.proofs.Starts.{Begins, Unkeyed, mark_front, tail_mark, tail_comma}
use Rattle.py_grammar.proofs.Lists.{joined}
use Rattle.py_grammar.proofs.OperationsRead.{Complete, whole, CompletePart, CompleteTail, CompleteInside, CompleteParams, CompleteArguments, CompleteSubscripts}
use Rattle.py_grammar.proofs.PartsRead.{RowRead, row_begins, row_first, row_fronted, row_some, row_reads, on_item, on_argument, CompleteClauses}

-- nothing goes on where a bracket closes
over_at : (p : Parts) (b : Bracket) (rest : List Token) → mark rest ≡ m.Sign (closing b) → Over p (mark rest)
over_at p b rest ends = subst (Over p) (sym ends) (over_closing p b)

-- nor at the first word of a comprehension
behind_for : (p : Parts) (i : List Token) → mark i ≡ m.Keyword w.For → Behind p (m.Keyword w.For) → Behind p (mark i)
behind_for p i is h = subst (Behind p) (sym is) h

for_items : Behind (Parts.items row.Expressions) (m.Keyword w.For)
for_items = record { takes = omega arith; ends = omega arith; apart = refl }

for_arguments : Behind Parts.arguments (m.Keyword w.For)
for_arguments = record { takes = omega arith; ends = omega arith; apart = refl }

for_entries : Behind Parts.entries (m.Keyword w.For)
for_entries = record { takes = omega arith; ends = omega arith; apart = refl }

sees_for : (i : List Token) → mark i ≡ m.Keyword w.For → is_word w.For (mark i) ≡ true
sees_for i is = ap (is_word w.For) is

closing_no_for : (b : Bracket) (rest : List Token) → mark rest ≡ m.Sign (closing b) → is_word w.For (mark rest) ≡ false
closing_no_for b rest ends = ap (is_word w.For) ends

tail_no_for : (p : Parts) (b : Bracket) (h : ℕ) (xs : List (Part p)) (ts rest : List Token) → Tail p h xs ts → mark rest ≡ m.Sign (closing b) → is_word w.For (mark (ts ++ rest)) ≡ false
tail_no_for p b h xs ts rest tail ends = tail_mark (λ q. is_word w.For q ≡ false) tail refl rest (closing_no_for b rest ends)

-- ---- yield

abbrev pub CompleteYields : ℕ → Expr → List Token → Type 0
CompleteYields h x ts = (n : ℕ) → length ts < n → (d : ℕ) → h ≤ d → (rest : List Token) → Over (Parts.items row.Expressions) (mark rest) → is_word w.From (mark rest) ≡ false → yields (parse n) n d (ts ++ rest) ≡ Some (found x h, rest)

pub on_bare : (t : Token) → IsWord t w.Yield → CompleteYields 1 (e.Yield t.line None) (t ∷ [])
unfolding yields yielded
on_bare t is n fits d low rest over other = rw (sees_word_by w.From rest false other, over.no_part) (tall_enough d 0 _ rest low)

no_from : (q : Mark) → begins_item row.Expressions q ≡ true → is_word w.From q ≡ false
no_from (m.Keyword w.From) h = cc
no_from _ h = refl

pub on_value : (h : ℕ) (x : Expr) (xs : List Token) (t : Token) → IsWord t w.Yield → RowRead row.Expressions (line xs) h x xs → CompleteYields (h + 1) (e.Yield t.line (Some x)) (t ∷ xs)
unfolding yields yielded
on_value h x xs t is a n fits d low rest over other =
    let first = row_begins row.Expressions (line xs) h x xs a rest in
    rw (sees_word_by w.From (xs ++ rest) false (no_from _ first), first, row_fronted row.Expressions (line xs) h x xs a rest, row_reads row.Expressions (line xs) h x xs a n (omega arith) (d - 1) (omega arith) rest over) (tall_enough d h _ rest low)

pub on_delegate : (h : ℕ) (x : Expr) (xs : List Token) (t u : Token) → IsWord t w.Yield → IsWord u w.From → Complete expression h x xs → CompleteYields (h + 1) (e.YieldFrom t.line x) (t ∷ u ∷ xs)
unfolding yields
on_delegate h x xs t u is from a n fits d low rest over other =
    rw (sees_word_it u w.From (xs ++ rest) from, whole expression h x xs a n (omega arith) (d - 1) (omega arith) rest over.behind.takes over.behind.ends) (tall_enough d h _ rest low)

-- ---- round brackets

round_is : (again : ℕ → ℕ → Parser (Found Expr)) (n at d : ℕ) (i : List Token) (q : Mark) → mark i ≡ q → round again n at d i ≡ round_by again n at d q i
unfolding round
round_is again n at d i q is = ap (λ q. round_by again n at d q i) is

round_default : (again : ℕ → ℕ → Parser (Found Expr)) (n at d : ℕ) (q : Mark) → begins_item row.Expressions q ≡ true → round_by again n at d q ≡ round_first again n at d
round_default again n at d (m.Sign s.RightParen) h = cc
round_default again n at d (m.Keyword w.Yield) h = cc
round_default again n at d _ h = refl

round_item : (again : ℕ → ℕ → Parser (Found Expr)) (n at d : ℕ) (i : List Token) → begins_item row.Expressions (mark i) ≡ true → round again n at d i ≡ round_first again n at d i
round_item again n at d i h = round_is again n at d i (mark i) refl ∙ ap (λ f. f i) (round_default again n at d (mark i) h)

pub on_nothing : (at : ℕ) → CompleteInside b.Round at 1 (e.Tuple at []) []
on_nothing at n fits d low rest ends = round_is (parse n) n at d rest (m.Sign s.RightParen) ends ∙ tall_enough d 0 _ rest low

pub on_exprs : (at h : ℕ) (x : Expr) (xs : List Token) → RowRead row.Expressions at h x xs → CompleteInside b.Round at h x xs
unfolding round_behind
on_exprs at h x xs a n fits d low rest ends =
    let size = length-append a.us a.vs in
    let same = ap length a.cut in
    let over = over_at (Parts.items row.Expressions) b.Round rest ends in
    let no_for = sees_word_by w.For (a.vs ++ rest) false (tail_no_for _ b.Round a.others a.more a.vs rest a.tail ends) in
    round_item (parse n) n at d (xs ++ rest) (row_begins row.Expressions at h x xs a rest)
    ∙ rw (row_first row.Expressions at h x xs a n fits d low rest over, no_for) (a.reads n (omega arith) d low rest over)

pub on_yielded : (at h : ℕ) (x : Expr) (xs : List Token) → ((i : List Token) → mark (xs ++ i) ≡ m.Keyword w.Yield) → CompleteYields h x xs → CompleteInside b.Round at h x xs
on_yielded at h x xs first a n fits d low rest ends =
    round_is (parse n) n at d (xs ++ rest) (m.Keyword w.Yield) (first rest) ∙ a n fits d low rest (over_at (Parts.items row.Expressions) b.Round rest ends) (ap (is_word w.From) ends)

pub on_generator : (at g h : ℕ) (x : Expr) (c : Clauses Expr) (xs ys : List Token) → ((i : List Token) → begins (Parts.items row.Expressions) (mark (xs ++ i)) ≡ true) → CompletePart (Parts.items row.Expressions) g (it.One x) xs
    → ((i : List Token) → mark (ys ++ i) ≡ m.Keyword w.For) → CompleteClauses h c ys → CompleteInside b.Round at (max g h + 1) (e.Generator at x c) (xs ++ ys)
unfolding round_behind
on_generator at g h x c xs ys starts a first cs n fits d low rest ends =
    let size = length-append xs ys in
    let over = over_at Parts.clauses b.Round rest ends in
    let element = a n (omega arith) d (omega arith) (ys ++ rest) (behind_for _ (ys ++ rest) (first rest) for_items) in
    let clauses = cs n (omega arith) (d - 1) (omega arith) rest over.behind over.no_part in
    rw (append_assoc xs ys rest) (round_item (parse n) n at d (xs ++ (ys ++ rest)) (starts (ys ++ rest))
    ∙ rw (element, sees_word_by w.For (ys ++ rest) true (sees_for (ys ++ rest) (first rest)), clauses) (tall_enough d (max g h) _ rest low))

-- ---- square and curly brackets

pub on_empty_list : (at : ℕ) → CompleteInside b.Square at 1 (e.List at []) []
unfolding square
on_empty_list at n fits d low rest ends = rw ((over_at (Parts.items row.Expressions) b.Square rest ends).no_part) (tall_enough d 0 _ rest low)

pub on_list : (at g h : ℕ) (x : Item Expr) (is : List (Item Expr)) (xs ys : List Token) → ((i : List Token) → begins (Parts.items row.Expressions) (mark (xs ++ i)) ≡ true) → CompletePart (Parts.items row.Expressions) g x xs
    → Tail (Parts.items row.Expressions) h is ys → CompleteTail (Parts.items row.Expressions) h is ys → CompleteInside b.Square at (max g h + 1) (e.List at (x ∷ is)) (xs ++ ys)
unfolding square square_behind
on_list at g h x is xs ys starts a tail c n fits d low rest ends =
    let size = length-append xs ys in
    let over = over_at (Parts.items row.Expressions) b.Square rest ends in
    let first = a n (omega arith) (d - 1) (omega arith) (ys ++ rest) (tail_mark (Behind (Parts.items row.Expressions)) tail (behind_comma (Parts.items row.Expressions)) rest over.behind) in
    let no_for = sees_word_by w.For (ys ++ rest) false (tail_no_for _ b.Square h is ys rest tail ends) in
    rw (append_assoc xs ys rest, starts (ys ++ rest), first, no_for, c n n (omega arith) (omega arith) (d - 1) (omega arith) (only (found x g)) rest over) (tall_enough d (max g h) _ rest low)

pub on_list_of : (at g h : ℕ) (x : Expr) (c : Clauses Expr) (xs ys : List Token) → ((i : List Token) → begins (Parts.items row.Expressions) (mark (xs ++ i)) ≡ true) → CompletePart (Parts.items row.Expressions) g (it.One x) xs
    → ((i : List Token) → mark (ys ++ i) ≡ m.Keyword w.For) → CompleteClauses h c ys → CompleteInside b.Square at (max g h + 1) (e.ListComprehension at x c) (xs ++ ys)
unfolding square square_behind
on_list_of at g h x c xs ys starts a first cs n fits d low rest ends =
    let size = length-append xs ys in
    let over = over_at Parts.clauses b.Square rest ends in
    let element = a n (omega arith) (d - 1) (omega arith) (ys ++ rest) (behind_for _ (ys ++ rest) (first rest) for_items) in
    let clauses = cs n (omega arith) (d - 1) (omega arith) rest over.behind over.no_part in
    rw (append_assoc xs ys rest, starts (ys ++ rest), element, sees_word_by w.For (ys ++ rest) true (sees_for (ys ++ rest) (first rest)), clauses) (tall_enough d (max g h) _ rest low)

pub on_empty_dict : (at : ℕ) → CompleteInside b.Curly at 1 (e.Dict at []) []
unfolding curly
on_empty_dict at n fits d low rest ends = rw ((over_at Parts.entries b.Curly rest ends).no_part) (tall_enough d 0 _ rest low)

pub on_dict : (at g h : ℕ) (x : Entry Expr) (is : List (Entry Expr)) (xs ys : List Token) → ((i : List Token) → begins Parts.entries (mark (xs ++ i)) ≡ true) → CompletePart Parts.entries g x xs
    → Tail Parts.entries h is ys → CompleteTail Parts.entries h is ys → CompleteInside b.Curly at (max g h + 1) (e.Dict at (x ∷ is)) (xs ++ ys)
unfolding curly curly_behind
on_dict at g h x is xs ys starts a tail c n fits d low rest ends =
    let size = length-append xs ys in
    let over = over_at Parts.entries b.Curly rest ends in
    let first = a n (omega arith) (d - 1) (omega arith) (ys ++ rest) (tail_mark (Behind Parts.entries) tail (behind_comma Parts.entries) rest over.behind) in
    let no_for = sees_word_by w.For (ys ++ rest) false (tail_no_for _ b.Curly h is ys rest tail ends) in
    rw (append_assoc xs ys rest, starts (ys ++ rest), first, no_for, c n n (omega arith) (omega arith) (d - 1) (omega arith) (only (found x g)) rest over) (tall_enough d (max g h) _ rest low)

pub on_dict_of : (at g h : ℕ) (x y : Expr) (c : Clauses Expr) (xs ys : List Token) → ((i : List Token) → begins Parts.entries (mark (xs ++ i)) ≡ true) → CompletePart Parts.entries g (en.Pair x y) xs
    → ((i : List Token) → mark (ys ++ i) ≡ m.Keyword w.For) → CompleteClauses h c ys → CompleteInside b.Curly at (max g h + 1) (e.DictComprehension at x y c) (xs ++ ys)
unfolding curly curly_behind
on_dict_of at g h x y c xs ys starts a first cs n fits d low rest ends =
    let size = length-append xs ys in
    let over = over_at Parts.clauses b.Curly rest ends in
    let element = a n (omega arith) (d - 1) (omega arith) (ys ++ rest) (behind_for _ (ys ++ rest) (first rest) for_entries) in
    let clauses = cs n (omega arith) (d - 1) (omega arith) rest over.behind over.no_part in
    rw (append_assoc xs ys rest, starts (ys ++ rest), element, sees_word_by w.For (ys ++ rest) true (sees_for (ys ++ rest) (first rest)), clauses) (tall_enough d (max g h) _ rest low)

-- ---- parameters and arguments

pub on_no_params : CompleteParams 0 [] []
unfolding params some_params
on_no_params n fits d low rest over = rw (over.no_part) refl

pub on_params : (g h : ℕ) (p : Param Expr) (ps : List (Param Expr)) (xs ys : List Token) → ((i : List Token) → begins Parts.params (mark (xs ++ i)) ≡ true) → CompletePart Parts.params g p xs → Tail Parts.params h ps ys → CompleteTail Parts.params h ps ys
    → params_in_order (p ∷ ps) ≡ true → CompleteParams (max g h) (p ∷ ps) (xs ++ ys)
unfolding params some_params
on_params g h p ps xs ys starts a tail c order n fits d low rest over =
    let size = length-append xs ys in
    let first = a n (omega arith) d (omega arith) (ys ++ rest) (tail_mark (Behind Parts.params) tail (behind_comma Parts.params) rest over.behind) in
    rw (append_assoc xs ys rest, starts (ys ++ rest), first, c n n (omega arith) (omega arith) d (omega arith) (only (found p g)) rest over, order) refl

pub on_no_arguments : CompleteArguments 0 [] []
unfolding arguments
on_no_arguments n fits d low rest ends = rw ((over_at Parts.arguments b.Round rest ends).no_part) refl

pub on_arguments : (g h : ℕ) (x : Argument Expr) (args : List (Argument Expr)) (xs ys : List Token) → ((i : List Token) → begins Parts.arguments (mark (xs ++ i)) ≡ true) → CompletePart Parts.arguments g x xs
    → Tail Parts.arguments h args ys → CompleteTail Parts.arguments h args ys → arguments_in_order (x ∷ args) ≡ true → CompleteArguments (max g h) (x ∷ args) (xs ++ ys)
unfolding arguments arguments_behind
on_arguments g h x args xs ys starts a tail c order n fits d low rest ends =
    let size = length-append xs ys in
    let over = over_at Parts.arguments b.Round rest ends in
    let first = a n (omega arith) d (omega arith) (ys ++ rest) (tail_mark (Behind Parts.arguments) tail (behind_comma Parts.arguments) rest over.behind) in
    let no_for = sees_word_by w.For (ys ++ rest) false (tail_no_for _ b.Round h args ys rest tail ends) in
    rw (append_assoc xs ys rest, starts (ys ++ rest), first, no_for, c n n (omega arith) (omega arith) d (omega arith) (only (found x g)) rest over, order) refl

pub on_lone_generator : (g h : ℕ) (x : Expr) (c : Clauses Expr) (xs ys : List Token) → ((i : List Token) → line (xs ++ i) ≡ line xs) → ((i : List Token) → begins Parts.arguments (mark (xs ++ i)) ≡ true) → CompletePart Parts.arguments g (ar.Plain x) xs
    → ((i : List Token) → mark (ys ++ i) ≡ m.Keyword w.For) → CompleteClauses h c ys → CompleteArguments (max g h + 1) (ar.Plain (e.Generator (line xs) x c) ∷ []) (xs ++ ys)
unfolding arguments arguments_behind
on_lone_generator g h x c xs ys lines starts a first cs n fits d low rest ends =
    let size = length-append xs ys in
    let over = over_at Parts.clauses b.Round rest ends in
    let element = a n (omega arith) d (omega arith) (ys ++ rest) (behind_for _ (ys ++ rest) (first rest) for_arguments) in
    let clauses = cs n (omega arith) (d - 1) (omega arith) rest over.behind over.no_part in
    rw (append_assoc xs ys rest, starts (ys ++ rest), lines (ys ++ rest), element, sees_word_by w.For (ys ++ rest) true (sees_for (ys ++ rest) (first rest)), clauses, tall_enough d (max g h) (e.Generator (line xs) x c) rest low) refl

-- ---- subscripts

no_colon : (q : Mark) → can_begin expression q ≡ true → is_sign s.Colon q ≡ false
no_colon (m.Sign s.Colon) h = cc
no_colon _ h = refl

pub on_one : (h : ℕ) (x : Expr) (xs : List Token) → Begins expression xs → Complete expression h x xs → CompleteSubscripts h (sub.One x) xs
unfolding subscripts subscripts_behind
on_one h x xs first a n fits d low rest ends =
    let over = over_at Parts.indices b.Square rest ends in
    rw (sees_by s.Colon (xs ++ rest) false (no_colon _ (mark_front expression xs rest first)), whole expression h x xs a n fits d low rest over.behind.takes over.behind.ends, sees_by s.Comma rest false over.no_comma, sees_by s.Colon rest false (ap (is_sign s.Colon) ends)) refl

pub on_several : (g h : ℕ) (x : Expr) (more : List Expr) (t : Token) (xs ys : List Token) → Begins expression xs → Complete expression g x xs → Tail Parts.indices h more (t ∷ ys) → CompleteTail Parts.indices h more (t ∷ ys)
    → CompleteSubscripts (max g h) (sub.Several (x ∷ more)) (xs ++ t ∷ ys)
unfolding subscripts subscripts_behind
on_several g h x more t xs ys first a tail c n fits d low rest ends =
    let size = length-append xs (t ∷ ys) in
    let over = over_at Parts.indices b.Square rest ends in
    let behind = tail_mark (Behind Parts.indices) tail (behind_comma Parts.indices) rest over.behind in
    rw (
      append_assoc xs (t ∷ ys) rest,
      sees_by s.Colon (xs ++ (t ∷ (ys ++ rest))) false (no_colon _ (mark_front expression xs (t ∷ (ys ++ rest)) first)),
      whole expression g x xs a n (omega arith) d (omega arith) (t ∷ (ys ++ rest)) behind.takes behind.ends,
      sees_it t s.Comma (ys ++ rest) (tail_comma tail),
      c n n (omega arith) (omega arith) d (omega arith) (only (found x g)) rest over,
    ) refl

abbrev pub CompleteBound : ℕ → Option Expr → List Token → Type 0
CompleteBound h x ts = (n : ℕ) → length ts < n → (d : ℕ) → h ≤ d → (rest : List Token) → role (mark rest) ≡ r.Ends → can_begin expression (mark rest) ≡ false → bound (parse n) n d (ts ++ rest) ≡ Some (found x h, rest)

pub on_unbound : CompleteBound 0 None []
unfolding bound
on_unbound n fits d low rest is other = rw other refl

pub on_bound : (h : ℕ) (x : Expr) (xs : List Token) → Begins expression xs → Complete expression h x xs → CompleteBound h (Some x) xs
unfolding bound
on_bound h x xs first a n fits d low rest is other =
    let takes = ap wants is in
    let ends = ap makes is in
    rw (mark_front expression xs rest first, whole expression h x xs a n fits d low rest (omega arith) (omega arith)) refl

abbrev pub CompleteStep : ℕ → Option Expr → List Token → Type 0
CompleteStep h x ts = (n : ℕ) → length ts < n → (d : ℕ) → h ≤ d → (rest : List Token) → mark rest ≡ m.Sign s.RightBracket → step (parse n) n d (ts ++ rest) ≡ Some (found x h, rest)

pub on_no_step : CompleteStep 0 None []
unfolding step
on_no_step n fits d low rest ends = rw (sees_by s.Colon rest false (ap (is_sign s.Colon) ends)) refl

pub on_step : (h : ℕ) (x : Option Expr) (xs : List Token) (t : Token) → IsSign t s.Colon → CompleteBound h x xs → CompleteStep h x (t ∷ xs)
unfolding step
on_step h x xs t is a n fits d low rest ends = rw (sees_it t s.Colon (xs ++ rest) is) (a n (omega arith) d low rest (ap role ends) (ap (can_begin expression) ends))

-- what stands behind the upper bound ends expressions
step_mark : {h : ℕ} {x : Option Expr} {zs : List Token} → Step h x zs → (rest : List Token) → mark rest ≡ m.Sign s.RightBracket → (role (mark (zs ++ rest)) ≡ r.Ends) × (can_begin expression (mark (zs ++ rest)) ≡ false)
step_mark Step.no_step rest ends = (ap role ends, ap (can_begin expression) ends)
step_mark (Step.step t is a) rest ends = (ap (λ q. role (mark_of q)) is, ap (λ q. can_begin expression (mark_of q)) is)

slices : (f g h : ℕ) (x y z : Option Expr) (ys zs : List Token) (t : Token) → CompleteBound g y ys → Step h z zs → CompleteStep h z zs → (n : ℕ) → length ys + length zs < n → (d : ℕ) → max g h ≤ d → (rest : List Token) → mark rest ≡ m.Sign s.RightBracket
    → slice (parse n) n d (found x f) (t ∷ (ys ++ (zs ++ rest))) ≡ Some (found (sub.Slice x y z) (max f (max g h)), rest)
unfolding slice
slices f g h x y z ys zs t a by c n fits d low rest ends =
    let behind = step_mark by rest ends in
    rw (a n (omega arith) d (omega arith) (zs ++ rest) behind.0 behind.1, c n (omega arith) d (omega arith) rest ends) refl

pub on_open_slice : (g h : ℕ) (y z : Option Expr) (ys zs : List Token) (t : Token) → IsSign t s.Colon → CompleteBound g y ys → Step h z zs → CompleteStep h z zs → CompleteSubscripts (max 0 (max g h)) (sub.Slice None y z) ([] ++ t ∷ ys ++ zs)
unfolding subscripts
on_open_slice g h y z ys zs t is a by c n fits d low rest ends =
    let size = length-append ys zs in
    rw (sees_it t s.Colon ((ys ++ zs) ++ rest) is, append_assoc ys zs rest) (slices 0 g h None y z ys zs t a by c n (omega arith) d (omega arith) rest ends)

pub on_slice : (f g h : ℕ) (x : Expr) (y z : Option Expr) (xs ys zs : List Token) (t : Token) → Begins expression xs → Complete expression f x xs → IsSign t s.Colon → CompleteBound g y ys → Step h z zs → CompleteStep h z zs
    → CompleteSubscripts (max f (max g h)) (sub.Slice (Some x) y z) (xs ++ t ∷ ys ++ zs)
unfolding subscripts subscripts_behind
on_slice f g h x y z xs ys zs t first l is a by c n fits d low rest ends =
    let size = length-append (xs ++ t ∷ ys) zs in
    let size2 = length-append xs (t ∷ ys) in
    let w = ap (λ q. wants (role (mark_of q))) is in
    let mk = ap (λ q. makes (role (mark_of q))) is in
    let no_comma = ap (λ q. is_sign s.Comma (mark_of q)) is in
    rw (
      append_assoc (xs ++ t ∷ ys) zs rest,
      append_assoc xs (t ∷ ys) (zs ++ rest),
      sees_by s.Colon (xs ++ (t ∷ (ys ++ (zs ++ rest)))) false (no_colon _ (mark_front expression xs (t ∷ (ys ++ (zs ++ rest))) first)),
      whole expression f x xs l n (omega arith) d (omega arith) (t ∷ (ys ++ (zs ++ rest))) (omega arith) (omega arith),
      sees_by s.Comma (t ∷ (ys ++ (zs ++ rest))) false no_comma,
      sees_it t s.Colon (ys ++ (zs ++ rest)) is,
    )
    (slices f g h (Some x) y z ys zs t a by c n (omega arith) d (omega arith) rest ends)
