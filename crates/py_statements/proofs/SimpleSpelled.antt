-- Simple statements that are read are spelled so.
use Rattle.std.proofs.Common.{◌≡◌, ℕ, zero, suc, ◌+◌, ◌-◌, max, ◌≤◌, Bool, true, false, cond, not, List, [], ◌∷◌, ◌++◌, length, Option, Some, None, refl, ap, ◌∙◌, sym, subst, arith, append_assoc, inl, inr}
use Rattle.py_ast.specs.declared.token.Token.{Token}
use Rattle.py_ast.specs.declared.token.TokenKind.TheVariants as k
use Rattle.py_ast.specs.declared.spelled.Word.TheVariants as w
use Rattle.py_ast.specs.declared.spelled.Sign.TheVariants as s
use Rattle.py_ast.specs.declared.expr.Binary.{Binary}
use Rattle.py_ast.specs.declared.expr.Item.{Item}
use Rattle.py_ast.specs.declared.expr.Expr.{Expr}
use Rattle.py_ast.specs.declared.stmt.Stmt.{Stmt}
use Rattle.py_ast.specs.declared.stmt.Stmt.TheVariants as st
use Rattle.py_ast.specs.declared.stmt.Declared.{Declared}
use Rattle.py_grammar.specs.declared.found.Found.{Found}
use Rattle.py_grammar.specs.declared.role.Mark.{Mark}
use Rattle.py_grammar.specs.declared.role.Mark.TheVariants as m
use Rattle.py_grammar.specs.declared.role.Row.TheVariants as row
use Rattle.py_grammar.specs.Levels.{expression, bitor, mark, mark_of, line, next, can_begin}
use Rattle.py_grammar.specs.Grammar.{Exprs, Expression, IsSign, alone}
use Rattle.py_grammar.specs.Parse.{and_then, pure, found, only, with_part, sees, sees_word, is_word, name, begins_item, item, row_behind, row_of, parse, read_level, read_exprs, read_yield, read_row, is_alone}
use Rattle.py_grammar.specs.Laws.{IsSpelled, Took}
use Rattle.py_grammar.proofs.Apart.{bind_some, guarded, chosen, eaten, given, some_inj, Fronts, word_front, sees_says, name_says}
use Rattle.py_grammar.proofs.Lists.{joined-more}
use Rattle.py_grammar.proofs.Productions.{expression_spelled, exprs_spelled, yield_spelled}
use Rattle.py_statements.specs.Words.{augmented, is_newline}
use Rattle.py_statements.specs.Grammar.{Right, Chain, MaybeExprs, MaybeExpression, Message, Names, Simple, Line}
use Rattle.py_statements.specs.Parse.{made, right, maybe_exprs, maybe_expression, message, names_from, names, assigned_from, assigned, behind_row, augmented_with, row_statement, yield_statement, return_statement, raise_statement, del_statement, assert_statement, simple_by, simple, line_from}
use Rattle.py_statements.proofs.Apart.{node, lined, behind, split, newline_front, TookList, listed}
use Rattle.py_statements.proofs.Starts.{exprs_begin, expression_begin, expression_item, yield_begin, chain_begin, front_line}

pub right_spelled : IsSpelled Right right
unfolding right
right_spelled d i p h = elim (chosen (sees_word w.Yield i) (read_yield d i) (read_exprs d i) (Some p) h) [
  | inl y ↦ let t = yield_spelled d i p y.1 in record { used = t.used; cut = t.cut; tree = Right.yielded t.tree; low = t.low }
  | inr x ↦ let t = exprs_spelled d i p x.1 in record { used = t.used; cut = t.cut; tree = Right.exprs t.tree; low = t.low }
]

maybe_exprs_spelled : IsSpelled MaybeExprs maybe_exprs
unfolding maybe_exprs
maybe_exprs_spelled d i p h = elim (chosen (begins_item row.Expressions (mark i)) (and_then (read_exprs d i) (λ x. pure (found (Some x.tree) x.height))) (Some (found None 0, i)) (Some p) h) [
  | inl y ↦ let b = bind_some (read_exprs d i) _ p y.1 in let t = exprs_spelled d i (b.0, b.1) b.2 in given (record { used = t.used; cut = t.cut; tree = MaybeExprs.present t.tree; low = t.low }) b.3
  | inr n ↦ given (record { used = []; cut = refl; tree = MaybeExprs.absent; low = omega arith }) n.1
]

pub maybe_expression_spelled : IsSpelled MaybeExpression maybe_expression
unfolding maybe_expression
maybe_expression_spelled d i p h = elim (chosen (can_begin expression (mark i)) (and_then (read_level expression d i) (λ x. pure (found (Some x.tree) x.height))) (Some (found None 0, i)) (Some p) h) [
  | inl y ↦ let b = bind_some (read_level expression d i) _ p y.1 in let t = expression_spelled d i (b.0, b.1) b.2 in given (record { used = t.used; cut = t.cut; tree = MaybeExpression.present t.tree; low = t.low }) b.3
  | inr n ↦ given (record { used = []; cut = refl; tree = MaybeExpression.absent; low = omega arith }) n.1
]

message_spelled : IsSpelled Message message
unfolding message
message_spelled d i p h = elim (chosen (sees s.Comma i) (and_then (read_level expression d (next i)) (λ x. pure (found (Some x.tree) x.height))) (Some (found None 0, i)) (Some p) h) [
  | inl y ↦
      let f = sees_says s.Comma i y.0 in
      let b = bind_some (read_level expression d (next i)) _ p y.1 in
      let t = expression_spelled d (next i) (b.0, b.1) b.2 in
      given (record { used = f.token ∷ t.used; cut = f.cut ∙ ap (λ l. f.token ∷ l) t.cut; tree = Message.present f.token f.is t.tree; low = t.low }) b.3
  | inr n ↦ given (record { used = []; cut = refl; tree = Message.absent; low = omega arith }) n.1
]

-- ---- names

record TookNames (acc : List Declared) (i : List Token) (p : List Declared × List Token) : Type 0 where
  pub names : List Declared
  pub used : List Token
  pub cut : i ≡ used ++ p.1
  pub same : p.0 ≡ acc ++ names
  pub spelled : Names names used

names_last : (acc : List Declared) (i j : List Token) (text : List ℕ) (p : List Declared × List Token) → Fronts (k.Name text) i j → ◌≡◌ {A = Option (List Declared × List Token)} (Some (acc ++ record { line = line i; name = text } ∷ [], j)) (Some p) → TookNames acc i p
names_last acc i j text p f h =
    let same = some_inj h in
    record {
      names = record { line = f.token.line; name = text } ∷ [];
      used = f.token ∷ [];
      cut = f.cut ∙ ap (λ r. f.token ∷ r.1) same;
      same = sym (ap (λ r. r.0) same) ∙ ap (λ l. acc ++ record { line = line l; name = text } ∷ []) f.cut;
      spelled = Names.last f.token f.is;
    }

names_more : (acc : List Declared) (i j : List Token) (text : List ℕ) (p : List Declared × List Token) → Fronts (k.Name text) i j → (g : Fronts (k.Sign s.Comma) j (next j)) → TookNames (acc ++ record { line = line i; name = text } ∷ []) (next j) p → TookNames acc i p
names_more acc i j text p f g t = record {
  names = record { line = f.token.line; name = text } ∷ t.names;
  used = f.token ∷ g.token ∷ t.used;
  cut = f.cut ∙ ap (λ l. f.token ∷ l) (g.cut ∙ ap (λ l. g.token ∷ l) t.cut);
  same = t.same ∙ append_assoc acc (record { line = line i; name = text } ∷ []) t.names ∙ ap (λ l. acc ++ record { line = line l; name = text } ∷ t.names) f.cut;
  spelled = Names.more f.token g.token f.is g.is t.spelled;
}

names_took : (n : ℕ) (acc : List Declared) (i : List Token) (p : List Declared × List Token) → names_from n acc i ≡ Some p → TookNames acc i p
unfolding names_from
names_took zero acc i p h = cc
names_took (suc n) acc i p h =
    let b = bind_some (name i) _ p h in
    let f = name_says i (b.0, b.1) b.2 in
    elim (eaten s.Comma _ _ b.1 p b.3) [
      | inl more ↦ names_more acc i b.1 b.0 p f more.0 (names_took n (acc ++ record { line = line i; name = b.0 } ∷ []) (next b.1) p more.1)
      | inr last ↦ names_last acc i b.1 b.0 p f last.1
    ]

record AllNames (i : List Token) (p : List Declared × List Token) : Type 0 where
  pub used : List Token
  pub cut : i ≡ used ++ p.1
  pub spelled : Names p.0 used

all_names : (i : List Token) (p : List Declared × List Token) → names i ≡ Some p → AllNames i p
unfolding names
all_names i p h = let t = names_took (length i) [] i p h in record { used = t.used; cut = t.cut; spelled = subst (λ l. Names l t.used) (sym t.same) t.spelled }

-- ---- statements that begin with an expression

record RowSays (d : ℕ) (i : List Token) (f : Found Expr) (b : Bool) (j : List Token) : Type 0 where
  pub exprs : read_exprs d i ≡ Some (f, j)
  pub expression : b ≡ true → read_level expression d i ≡ Some (f, j)

-- an item by itself is an expression
item_says : (d : ℕ) (i : List Token) (x : Found (Item Expr)) (l : List Token) (f : Found Expr) (j : List Token) → item (parse (length i + 1)) (length i + 1) row.Expressions d i ≡ Some (x, l)
    → row_behind (parse (length i + 1)) (length i + 1) (line i) row.Expressions d x l ≡ Some (f, j) → is_alone x.tree l ≡ true → read_level expression d i ≡ Some (f, j)
unfolding item row_behind read_level
item_says d i x l f j h e one = elim (chosen (sees s.Star i) _ _ _ h) [
  | inl star ↦
      let b = bind_some (parse (length i + 1) bitor d (next i)) _ (x, l) star.1 in
      let same = some_inj b.3 in
      let wrong : false ≡ true = ap (λ r. is_alone r.0.tree l) same ∙ one in
      cc
  | inr plain ↦
      let b = bind_some (parse (length i + 1) expression d i) _ (x, l) plain.1 in
      let same = some_inj b.3 in
      let no_comma = not_true (sees s.Comma l) (ap (λ r. is_alone r.0.tree l) same ∙ one) in
      elim (chosen (sees s.Comma l) _ _ (Some (f, j)) e) [
        | inl comma ↦ let wrong : true ≡ false = sym comma.0 ∙ no_comma in cc
        | inr row ↦ b.2 ∙ ap (λ r. Some (found (alone r.0.tree) r.0.height, r.1)) same ∙ row.1
      ]
]
  where
    not_true : (c : Bool) → not c ≡ true → c ≡ false
    not_true true h = cc
    not_true false h = refl

exprs_of : (d : ℕ) (i : List Token) (x : Found (Item Expr)) (l : List Token) (f : Found Expr) (j : List Token) → item (parse (length i + 1)) (length i + 1) row.Expressions d i ≡ Some (x, l)
    → row_behind (parse (length i + 1)) (length i + 1) (line i) row.Expressions d x l ≡ Some (f, j) → read_exprs d i ≡ Some (f, j)
unfolding read_exprs row_of
exprs_of d i x l f j h e = rw (h, e) refl

row_says : (d : ℕ) (i : List Token) (f : Found Expr) (b : Bool) (j : List Token) → read_row d i ≡ Some ((f, b), j) → RowSays d i f b j
unfolding read_row
row_says d i f b j h =
    let a = bind_some (item (parse (length i + 1)) (length i + 1) row.Expressions d i) _ ((f, b), j) h in
    let c = bind_some (row_behind (parse (length i + 1)) (length i + 1) (line i) row.Expressions d a.0 a.1) _ ((f, b), j) a.3 in
    let same = some_inj c.3 in
    let behind_it = c.2 ∙ ap (λ r. Some (r.0.0, r.1)) same in
    record {
      exprs = exprs_of d i a.0 a.1 f j a.2 behind_it;
      expression = λ one. item_says d i a.0 a.1 f j a.2 behind_it (ap (λ r. r.0.1) same ∙ one);
    }

chain_snoc : {g h : ℕ} {ts : List Expr} {x : Expr} {xs ys : List Token} (u : Token) → Chain g ts xs → Exprs h x ys → IsSign u s.Equal → Chain (max g h) (ts ++ x ∷ []) (xs ++ (ys ++ u ∷ []))
chain_snoc {h = h} {x = y} {ys = ys} u (Chain.last {h = g} {x = x} {xs = xs} t a is) b eq = subst (Chain (max g h) (x ∷ y ∷ [])) (sym (append_assoc xs (t ∷ []) (ys ++ u ∷ []))) (Chain.more t a is (Chain.last u b eq))
chain_snoc {h = h} {x = y} {ys = ys} u (Chain.more {g = f} {h = g} {x = x} {rest = ts} {xs = xs} {ys = zs} t a is c) b eq =
    let same : max f (max g h) ≡ max (max f g) h = omega arith in
    subst (λ n. Chain n (x ∷ (ts ++ y ∷ [])) ((xs ++ t ∷ zs) ++ (ys ++ u ∷ []))) same
    (subst (Chain (max f (max g h)) (x ∷ (ts ++ y ∷ []))) (sym (append_assoc xs (t ∷ zs) (ys ++ u ∷ []))) (Chain.more t a is (chain_snoc u c b eq)))

-- behind the targets us, which stand at the front of the tokens start
assigned_spelled : (d n : ℕ) (acc : Found (List Expr)) (start us i : List Token) (p : Found Stmt × List Token) → Chain acc.height acc.tree us → acc.height ≤ d - 1 → start ≡ us ++ i → assigned_from (line start) d n acc i ≡ Some p → Took Simple d start p
unfolding assigned_from
assigned_spelled d zero acc start us i p c low e h = cc
assigned_spelled d (suc n) acc start us i p c low e h = elim (chosen (sees_word w.Yield i) _ _ (Some p) h) [
  | inl y ↦
      let b = bind_some (read_yield (d - 1) i) _ p y.1 in
      let t = yield_spelled (d - 1) i (b.0, b.1) b.2 in
      ended d acc start us i p c low e b.0 b.1 t.used t.cut (Right.yielded t.tree) t.low b.3
  | inr x ↦
      let b = bind_some (read_exprs (d - 1) i) _ p x.1 in
      let t = exprs_spelled (d - 1) i (b.0, b.1) b.2 in
      elim (chosen (sees s.Equal b.1) _ _ (Some p) b.3) [
        | inl more ↦
            let f = sees_says s.Equal b.1 more.0 in
            assigned_spelled d n (with_part acc b.0) start (us ++ (t.used ++ f.token ∷ [])) (next b.1) p (chain_snoc f.token c t.tree f.is) (omega (arith, t.low)) (behind us (t.used ++ f.token ∷ []) _ e (behind t.used (f.token ∷ []) _ t.cut f.cut)) more.1
        | inr last ↦ ended d acc start us i p c low e b.0 b.1 t.used t.cut (Right.exprs t.tree) t.low last.1
      ]
]
  where
    ended : (d : ℕ) (acc : Found (List Expr)) (start us i : List Token) (p : Found Stmt × List Token) → Chain acc.height acc.tree us → acc.height ≤ d - 1 → start ≡ us ++ i → (x : Found Expr) (j vs : List Token) → i ≡ vs ++ j → Right x.height x.tree vs
        → x.height ≤ d - 1 → made d (max acc.height x.height) (st.Assign (line start) acc.tree x.tree) j ≡ Some p → Took Simple d start p
    ended d acc start us i p c low e x j vs cut r fits h = node d start _ _ j p h (λ small. record {
      used = us ++ vs;
      cut = behind us vs _ e cut;
      tree = lined Simple start _ _ _ (λ l. st.Assign l acc.tree x.tree) (ap line e ∙ front_line (begins_item row.Expressions) us refl (chain_begin c) i) (Simple.assign c r);
      low = small;
    })

augment_front : (o : Binary) (i : List Token) → augmented (mark i) ≡ Some o → (t : Token) × (i ≡ t ∷ next i) × (augmented (mark_of t.kind) ≡ Some o)
augment_front o [] h = cc
augment_front o (t ∷ i) h = (t, refl, h)

augmented_spelled : (d : ℕ) (i j us : List Token) (f : Found Expr) (b : Bool) (o : Option Binary) (p : Found Stmt × List Token) → augmented (mark j) ≡ o → i ≡ us ++ j → Exprs f.height f.tree us → f.height ≤ d - 1
    → (b ≡ true → Took Expression (d - 1) i (f, j)) → augmented_with (line i) d f b o j ≡ Some p → Took Simple d i p
augmented_spelled d i j us f b (Some o) p is cut a low one h =
    let g = guarded b _ p h in
    let t = one g.0 in
    let v = augment_front o j is in
    let c = bind_some (right (d - 1) (next j)) _ p g.1 in
    let r = right_spelled (d - 1) (next j) (c.0, c.1) c.2 in
    node d i _ _ c.1 p c.3 (λ small. record {
      used = t.used ++ v.0 ∷ r.used;
      cut = behind t.used (v.0 ∷ r.used) _ t.cut (v.1 ∙ ap (λ l. v.0 ∷ l) r.cut);
      tree = lined Simple i _ _ _ (λ l. st.Augment l f.tree o c.0.tree) (ap line t.cut ∙ front_line (begins_item row.Expressions) t.used refl (λ l. expression_item _ (expression_begin t.tree l)) j) (Simple.augment v.0 t.tree v.2 r.tree);
      low = small;
    })
augmented_spelled d i j us f b None p is cut a low one h = node d i _ _ j p h (λ small. record {
  used = us;
  cut = cut;
  tree = lined Simple i _ _ _ (λ l. st.Expr l f.tree) (ap line cut ∙ front_line (begins_item row.Expressions) us refl (exprs_begin a) j) (Simple.expr (Right.exprs a));
  low = small;
})

row_spelled : (d : ℕ) (i : List Token) (p : Found Stmt × List Token) → row_statement d i ≡ Some p → Took Simple d i p
unfolding row_statement behind_row assigned
row_spelled d i p h =
    let b = bind_some (read_row (d - 1) i) _ p h in
    let f = b.0.0 in
    let j = b.1 in
    let says = row_says (d - 1) i f b.0.1 j b.2 in
    let t = exprs_spelled (d - 1) i (f, j) says.exprs in
    elim (chosen (sees s.Equal j) _ _ (Some p) b.3) [
      | inl equal ↦
          let e = sees_says s.Equal j equal.0 in
          assigned_spelled d (length (next j)) (only f) i (t.used ++ e.token ∷ []) (next j) p (Chain.last e.token t.tree e.is) t.low (behind t.used (e.token ∷ []) _ t.cut e.cut) equal.1
      | inr other ↦ augmented_spelled d i j t.used f b.0.1 (augmented (mark j)) p refl t.cut t.tree t.low (λ one. expression_spelled (d - 1) i (f, j) (says.expression one)) other.1
    ]

-- ---- statements that begin with a word

front_of : {q : _} {i : List Token} (f : Fronts q i (next i)) → line i ≡ f.token.line
front_of f = ap line f.cut

simple_is : (q : Mark) (d : ℕ) (i : List Token) (p : Found Stmt × List Token) → mark i ≡ q → simple_by d q i ≡ Some p → Took Simple d i p
unfolding yield_statement return_statement raise_statement del_statement assert_statement
simple_is (m.Keyword w.Pass) d i p e h = let f = word_front w.Pass i e in node d i _ _ (next i) p h (λ small. record { used = f.token ∷ []; cut = f.cut; tree = lined Simple i _ _ _ st.Pass (ap line f.cut) (Simple.pass f.token f.is); low = small })
simple_is (m.Keyword w.Break) d i p e h = let f = word_front w.Break i e in node d i _ _ (next i) p h (λ small. record { used = f.token ∷ []; cut = f.cut; tree = lined Simple i _ _ _ st.Break (ap line f.cut) (Simple.break f.token f.is); low = small })
simple_is (m.Keyword w.Continue) d i p e h = let f = word_front w.Continue i e in node d i _ _ (next i) p h (λ small. record { used = f.token ∷ []; cut = f.cut; tree = lined Simple i _ _ _ st.Continue (ap line f.cut) (Simple.continue f.token f.is); low = small })
simple_is (m.Keyword w.Return) d i p e h =
    let f = word_front w.Return i e in
    let b = bind_some (maybe_exprs (d - 1) (next i)) _ p h in
    let t = maybe_exprs_spelled (d - 1) (next i) (b.0, b.1) b.2 in
    node d i _ _ b.1 p b.3 (λ small. record { used = f.token ∷ t.used; cut = f.cut ∙ ap (λ l. f.token ∷ l) t.cut; tree = lined Simple i _ _ _ (λ l. st.Return l b.0.tree) (ap line f.cut) (Simple.return f.token f.is t.tree); low = small })
simple_is (m.Keyword w.Raise) d i p e h =
    let f = word_front w.Raise i e in
    let b = bind_some (maybe_expression (d - 1) (next i)) _ p h in
    let t = maybe_expression_spelled (d - 1) (next i) (b.0, b.1) b.2 in
    node d i _ _ b.1 p b.3 (λ small. record { used = f.token ∷ t.used; cut = f.cut ∙ ap (λ l. f.token ∷ l) t.cut; tree = lined Simple i _ _ _ (λ l. st.Raise l b.0.tree) (ap line f.cut) (Simple.raise f.token f.is t.tree); low = small })
simple_is (m.Keyword w.Del) d i p e h =
    let f = word_front w.Del i e in
    let b = bind_some (read_exprs (d - 1) (next i)) _ p h in
    let t = exprs_spelled (d - 1) (next i) (b.0, b.1) b.2 in
    node d i _ _ b.1 p b.3 (λ small. record { used = f.token ∷ t.used; cut = f.cut ∙ ap (λ l. f.token ∷ l) t.cut; tree = lined Simple i _ _ _ (λ l. st.Del l b.0.tree) (ap line f.cut) (Simple.del f.token f.is t.tree); low = small })
simple_is (m.Keyword w.Assert) d i p e h =
    let f = word_front w.Assert i e in
    let b = bind_some (read_level expression (d - 1) (next i)) _ p h in
    let t = expression_spelled (d - 1) (next i) (b.0, b.1) b.2 in
    let c = bind_some (message (d - 1) b.1) _ p b.3 in
    let u = message_spelled (d - 1) b.1 (c.0, c.1) c.2 in
    node d i _ _ c.1 p c.3 (λ small. record {
      used = f.token ∷ t.used ++ u.used;
      cut = f.cut ∙ ap (λ l. f.token ∷ l) (behind t.used u.used _ t.cut u.cut);
      tree = lined Simple i _ _ _ (λ l. st.Assert l b.0.tree c.0.tree) (ap line f.cut) (Simple.assert f.token f.is t.tree u.tree);
      low = small;
    })
simple_is (m.Keyword w.Global) d i p e h =
    let f = word_front w.Global i e in
    let b = bind_some (names (next i)) _ p h in
    let t = all_names (next i) (b.0, b.1) b.2 in
    node d i _ _ b.1 p b.3 (λ small. record { used = f.token ∷ t.used; cut = f.cut ∙ ap (λ l. f.token ∷ l) t.cut; tree = lined Simple i _ _ _ (λ l. st.Global l b.0) (ap line f.cut) (Simple.global f.token f.is t.spelled); low = small })
simple_is (m.Keyword w.Nonlocal) d i p e h =
    let f = word_front w.Nonlocal i e in
    let b = bind_some (names (next i)) _ p h in
    let t = all_names (next i) (b.0, b.1) b.2 in
    node d i _ _ b.1 p b.3 (λ small. record { used = f.token ∷ t.used; cut = f.cut ∙ ap (λ l. f.token ∷ l) t.cut; tree = lined Simple i _ _ _ (λ l. st.Nonlocal l b.0) (ap line f.cut) (Simple.nonlocal f.token f.is t.spelled); low = small })
simple_is (m.Keyword w.Yield) d i p e h =
    let b = bind_some (read_yield (d - 1) i) _ p h in
    let t = yield_spelled (d - 1) i (b.0, b.1) b.2 in
    node d i _ _ b.1 p b.3 (λ small. record {
      used = t.used;
      cut = t.cut;
      tree = lined Simple i _ _ _ (λ l. st.Expr l b.0.tree) (ap line t.cut ∙ front_line (is_word w.Yield) t.used refl (λ l. ap (is_word w.Yield) (yield_begin t.tree l)) b.1) (Simple.expr (Right.yielded t.tree));
      low = small;
    })
simple_is _ d i p e h = row_spelled d i p h

pub simple_spelled : IsSpelled Simple simple
unfolding simple
simple_spelled d i p h = simple_is (mark i) d i p refl h

-- ---- lines

pub line_spelled : (d n : ℕ) (acc : Found (List Stmt)) (i : List Token) (p : Found (List Stmt) × List Token) → line_from d n acc i ≡ Some p → TookList Line d acc i p
unfolding line_from
line_spelled d zero acc i p h = cc
line_spelled d (suc n) acc i p h =
    let b = bind_some (simple d i) _ p h in
    let x = b.0 in
    let t = simple_spelled d i (x, b.1) b.2 in
    elim (split s.Semicolon (λ c l. cond (is_newline (mark l)) (Some (with_part acc x, next l)) (cond c (line_from d n (with_part acc x) l) None)) b.1 (Some p) b.3) [
      | inl closed ↦
          let f = closed.0 in
          elim (chosen (is_newline (mark (next b.1))) _ _ (Some p) closed.1) [
            | inl end ↦
                let u = newline_front (next b.1) end.0 in
                listed (record {
                  height = x.height;
                  items = x.tree ∷ [];
                  used = t.used ++ f.token ∷ u.token ∷ [];
                  cut = behind t.used (f.token ∷ u.token ∷ []) _ t.cut (f.cut ∙ ap (λ l. f.token ∷ l) u.cut);
                  same = refl;
                  spelled = Line.closed f.token u.token t.tree f.is u.is;
                  low = t.low;
                }) end.1
            | inr more ↦
                let others = line_spelled d n (with_part acc x) (next b.1) p more.1 in
                record {
                  height = max x.height others.height;
                  items = x.tree ∷ others.items;
                  used = t.used ++ f.token ∷ others.used;
                  cut = behind t.used (f.token ∷ others.used) _ t.cut (f.cut ∙ ap (λ l. f.token ∷ l) others.cut);
                  same = others.same ∙ joined-more acc x.tree x.height others.height others.items;
                  spelled = Line.more f.token t.tree f.is others.spelled;
                  low = omega (arith, t.low, others.low);
                }
          ]
      | inr open_ ↦
          elim (chosen (is_newline (mark b.1)) _ _ (Some p) open_.1) [
            | inl end ↦
                let u = newline_front b.1 end.0 in
                listed (record {
                  height = x.height;
                  items = x.tree ∷ [];
                  used = t.used ++ u.token ∷ [];
                  cut = behind t.used (u.token ∷ []) _ t.cut u.cut;
                  same = refl;
                  spelled = Line.last u.token t.tree u.is;
                  low = t.low;
                }) end.1
            | inr wrong ↦ let e = wrong.1 in cc
          ]
    ]
