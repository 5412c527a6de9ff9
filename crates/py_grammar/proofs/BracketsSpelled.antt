-- What is read in brackets is spelled so.
use Rattle.std.proofs.Common.{◌≡◌, ◌⊎◌, ℕ, zero, suc, ◌+◌, ◌-◌, max, ◌<◌, ◌≤◌, Bool, true, false, cond, List, [], ◌∷◌, ◌++◌, length, Option, Some, None, refl, ap, ◌∙◌, sym, subst, arith, append_assoc, append-nil, inl, inr}
use Rattle.py_ast.specs.declared.token.Token.{Token}
use Rattle.py_ast.specs.declared.token.TokenKind.TheVariants as k
use Rattle.py_ast.specs.declared.spelled.Word.TheVariants as w
use Rattle.py_ast.specs.declared.spelled.Sign.TheVariants as s
use Rattle.py_ast.specs.declared.expr.Item.{Item}
use Rattle.py_ast.specs.declared.expr.Item.TheVariants as it
use Rattle.py_ast.specs.declared.expr.Entry.{Entry}
use Rattle.py_ast.specs.declared.expr.Entry.TheVariants as en
use Rattle.py_ast.specs.declared.expr.Argument.{Argument}
use Rattle.py_ast.specs.declared.expr.Argument.TheVariants as ar
use Rattle.py_ast.specs.declared.expr.Subscript.{Subscript}
use Rattle.py_ast.specs.declared.expr.Subscript.TheVariants as sub
use Rattle.py_ast.specs.declared.expr.Expr.{Expr}
use Rattle.py_ast.specs.declared.expr.Expr.TheVariants as e
use Rattle.py_grammar.specs.declared.found.Found.{Found}
use Rattle.py_grammar.specs.declared.role.Mark.{Mark}
use Rattle.py_grammar.specs.declared.role.Mark.TheVariants as m
use Rattle.py_grammar.specs.declared.role.Row.TheVariants as row
use Rattle.py_grammar.specs.declared.role.Bracket.{Bracket}
use Rattle.py_grammar.specs.declared.role.Bracket.TheVariants as b
use Rattle.py_grammar.specs.Levels.{expression, role, mark, line, next, can_begin}
use Rattle.py_grammar.specs.Lists.{arguments_in_order}
use Rattle.py_grammar.specs.Grammar.{Spells, Inside, RowOf, Yields, Comprehends, Part, Parts, PartOf, Tail, Several, Arguments, Subscripts, Bound, Step, IsSign, IsWord}
use Rattle.py_grammar.specs.Parse.{Parser, and_then, found, only, item, entry, argument, tail_from, row_of, row_behind, comprehension, generator, round, round_by, round_first, round_behind, list_of, square, square_behind, dict_of, curly, curly_behind, inside, yields, yielded, lone_generator, arguments, arguments_behind, subscripts, subscripts_behind, slice, bound, step, sees, sees_word, begins_item, begins_entry, begins_argument, tall}
use Rattle.py_grammar.specs.Laws.{Took}
use Rattle.py_grammar.proofs.Lists.{joined}
use Rattle.py_grammar.proofs.Apart.{bind_some, chosen, parted, some_inj, given, Fronts, sign_front, word_front, sees_says, sees_word_says, node, tall_says}
use Rattle.py_grammar.proofs.PartsSpelled.{Sound, Ended, row_front, fronted_part, item_sound, entry_sound, argument_sound, tail_sound, row_behind_sound, row_sound, comprehension_sound}

-- an item is an expression, an entry is a pair, an argument is an expression
abbrev pub IsPlain : (q : Parts) → ℕ → Part q → List Token → Type 0
IsPlain (Parts.items row.Expressions) h (it.One x) ts = Spells expression h x ts
IsPlain Parts.arguments h (ar.Plain x) ts = Spells expression h x ts
IsPlain _ h x ts = Unit {0}

is_plain : {q : Parts} {h : ℕ} {x : Part q} {ts : List Token} → PartOf q h x ts → IsPlain q h x ts
is_plain (PartOf.item {r = row.Expressions} a) = a
is_plain (PartOf.item {r = row.Targets} a) = tt
is_plain (PartOf.star_item {r = row.Expressions} t is a) = tt
is_plain (PartOf.star_item {r = row.Targets} t is a) = tt
is_plain (PartOf.argument a) = a
is_plain (PartOf.star_argument t is a) = tt
is_plain (PartOf.keyword t u is eq a) = tt
is_plain (PartOf.merge_argument t is a) = tt
is_plain (PartOf.pair t a is c) = tt
is_plain (PartOf.merge_entry t is a) = tt
is_plain (PartOf.named t is) = tt
is_plain (PartOf.default t u is eq a) = tt
is_plain (PartOf.slash t is) = tt
is_plain (PartOf.bare_star t is) = tt
is_plain (PartOf.star_param t u is x) = tt
is_plain (PartOf.double_star t u is x) = tt
is_plain (PartOf.place a) = tt
is_plain (PartOf.link c a) = tt
is_plain (PartOf.loop a) = tt
is_plain (PartOf.test t is a) = tt

item_plain : {h : ℕ} {x : Expr} {ts : List Token} → PartOf (Parts.items row.Expressions) h (it.One x) ts → Spells expression h x ts
item_plain a = is_plain a

argument_plain : {h : ℕ} {x : Expr} {ts : List Token} → PartOf Parts.arguments h (ar.Plain x) ts → Spells expression h x ts
argument_plain a = is_plain a

module _ (again : ℕ → ℕ → Parser (Found Expr)) (sound : Sound again) (n : ℕ) where
  -- ---- yield

  yielded_sound : (t : Token) (d : ℕ) (i : List Token) (p : Found Expr × List Token) → IsWord t w.Yield → yielded again n t.line d i ≡ Some p → Took Yields d (t ∷ i) p
  unfolding yielded
  yielded_sound t d i p is h =
      elim (chosen (begins_item row.Expressions (mark i)) _ _ _ h) [
        | inl going ↦
            let v = bind_some (row_of again n (line i) row.Expressions (d - 1) i) _ p going.1 in
            let x = v.0 in
            let u = row_sound again sound n (line i) row.Expressions (d - 1) i (x, v.1) v.2 in
            let same_line : line i ≡ line u.used = ap line u.cut ∙ row_front u.tree v.1 in
            node d (t ∷ i) x.height (e.Yield t.line (Some x.tree)) v.1 p v.3 (λ low. record {
              used = t ∷ u.used;
              cut = ap (λ l. t ∷ l) u.cut;
              tree = Yields.value t is (subst (λ k. RowOf row.Expressions k x.height x.tree u.used) same_line u.tree);
              low = low;
            })
        | inr bare ↦ node d (t ∷ i) 0 (e.Yield t.line None) i p bare.1 (λ low. record { used = t ∷ []; cut = refl; tree = Yields.bare t is; low = low })
      ]

  yields_from : (t : Token) (d : ℕ) (i : List Token) (p : Found Expr × List Token) → IsWord t w.Yield → yields again n d (t ∷ i) ≡ Some p → Took Yields d (t ∷ i) p
  unfolding yields
  yields_from t d i p is h =
      elim (chosen (sees_word w.From i) _ _ _ h) [
        | inl from ↦
            let f = sees_word_says w.From i from.0 in
            let v = bind_some (again expression (d - 1) (next i)) _ p from.1 in
            let x = v.0 in
            let u = sound expression (d - 1) (omega arith) (next i) (x, v.1) v.2 in
            node d (t ∷ i) x.height (e.YieldFrom t.line x.tree) v.1 p v.3 (λ low. record {
              used = t ∷ f.token ∷ u.used;
              cut = ap (λ l. t ∷ l) (f.cut ∙ ap (λ l. f.token ∷ l) u.cut);
              tree = Yields.delegate t f.token is f.is u.tree;
              low = low;
            })
        | inr other ↦ yielded_sound t d i p is other.1
      ]

  pub yields_sound : (d : ℕ) (i : List Token) (p : Found Expr × List Token) → mark i ≡ m.Keyword w.Yield → yields again n d i ≡ Some p → Took Yields d i p
  yields_sound d [] p is h = cc
  yields_sound d (t ∷ i) p is h = let f = word_front w.Yield (t ∷ i) is in yields_from t d i p (subst (λ u. IsWord u w.Yield) (head_is f.cut) f.is) h
    where
      head_is : {t u : Token} {i j : List Token} → ◌≡◌ {A = List Token} (t ∷ i) (u ∷ j) → u ≡ t
      head_is e = cc

  -- ---- round brackets

  generator_sound : (at d h : ℕ) (x : Item Expr) (us i : List Token) (p : Found Expr × List Token) → PartOf (Parts.items row.Expressions) h x us → generator again n at d h x i ≡ Some p → Took (Inside b.Round at) d (us ++ i) p
  generator_sound at d h (it.One x) us i p a eq =
      let c = bind_some (comprehension again n (d - 1) i) _ p eq in
      let t = comprehension_sound again sound n (d - 1) i (c.0, c.1) c.2 in
      node d (us ++ i) (max h c.0.height) (e.Generator at x c.0.tree) c.1 p c.3 (λ low. record {
        used = us ++ t.used;
        cut = ap (λ l. us ++ l) t.cut ∙ sym (append_assoc us t.used c.1);
        tree = Inside.generator (item_plain a) t.tree;
        low = low;
      })
  generator_sound at d h (it.Star m x) us i p a eq = cc

  round_behind_sound : (at d : ℕ) (x : Found (Item Expr)) (us i : List Token) (p : Found Expr × List Token) → PartOf (Parts.items row.Expressions) x.height x.tree us → x.height ≤ d
      → round_behind again n at d x i ≡ Some p → Took (Inside b.Round at) d (us ++ i) p
  unfolding round_behind
  round_behind_sound at d x us i p a below h =
      elim (chosen (sees_word w.For i) _ _ _ h) [
        | inl for_ ↦ generator_sound at d x.height x.tree us i p a for_.1
        | inr rest ↦
            let t = row_behind_sound again sound n at row.Expressions d x us i p a below rest.1 in
            record { used = t.used; cut = t.cut; tree = Inside.exprs t.tree; low = t.low }
      ]

  round_first_sound : (at d : ℕ) (i : List Token) (p : Found Expr × List Token) → round_first again n at d i ≡ Some p → Took (Inside b.Round at) d i p
  round_first_sound at d i p h =
      let v = bind_some (item again n row.Expressions d i) _ p h in
      let x = v.0 in
      let t = item_sound again sound n row.Expressions d i (x, v.1) v.2 in
      subst (λ l. Took (Inside b.Round at) d l p) (sym t.cut) (round_behind_sound at d x t.used v.1 p t.tree t.low v.3)

  round_by_sound : (at d : ℕ) (q : Mark) (i : List Token) (p : Found Expr × List Token) → mark i ≡ q → round_by again n at d q i ≡ Some p → Took (Inside b.Round at) d i p
  round_by_sound at d (m.Sign s.RightParen) i p is h = node d i 0 (e.Tuple at []) i p h (λ low. record { used = []; cut = refl; tree = Inside.nothing; low = low })
  round_by_sound at d (m.Keyword w.Yield) i p is h = let t = yields_sound d i p is h in record { used = t.used; cut = t.cut; tree = Inside.yielded t.tree; low = t.low }
  round_by_sound at d _ i p is h = round_first_sound at d i p h

  round_sound : (at d : ℕ) (i : List Token) (p : Found Expr × List Token) → round again n at d i ≡ Some p → Took (Inside b.Round at) d i p
  unfolding round
  round_sound at d i p h = round_by_sound at d (mark i) i p refl h

  -- ---- square and curly brackets

  list_of_sound : (at d h : ℕ) (x : Item Expr) (us i : List Token) (p : Found Expr × List Token) → PartOf (Parts.items row.Expressions) h x us → list_of again n at d h x i ≡ Some p → Took (Inside b.Square at) d (us ++ i) p
  list_of_sound at d h (it.One x) us i p a eq =
      let c = bind_some (comprehension again n (d - 1) i) _ p eq in
      let t = comprehension_sound again sound n (d - 1) i (c.0, c.1) c.2 in
      node d (us ++ i) (max h c.0.height) (e.ListComprehension at x c.0.tree) c.1 p c.3 (λ low. record {
        used = us ++ t.used;
        cut = ap (λ l. us ++ l) t.cut ∙ sym (append_assoc us t.used c.1);
        tree = Inside.list_of (item_plain a) t.tree;
        low = low;
      })
  list_of_sound at d h (it.Star m x) us i p a eq = cc

  square_behind_sound : (at d : ℕ) (x : Found (Item Expr)) (us i : List Token) (p : Found Expr × List Token) → PartOf (Parts.items row.Expressions) x.height x.tree us → square_behind again n at d x i ≡ Some p → Took (Inside b.Square at) d (us ++ i) p
  unfolding square_behind
  square_behind_sound at d x us i p a h =
      elim (chosen (sees_word w.For i) _ _ _ h) [
        | inl for_ ↦ list_of_sound at d x.height x.tree us i p a for_.1
        | inr rest ↦
            let v = bind_some (tail_from again n (Parts.items row.Expressions) (item again n row.Expressions) (d - 1) n (only x) i) _ p rest.1 in
            let t = tail_sound again sound n (Parts.items row.Expressions) (item again n row.Expressions) (d - 1) (item_sound again sound n row.Expressions (d - 1)) n (only x) i (v.0, v.1) v.2 in
            let items_are = ap (λ f. f.tree) t.same in
            let height_is = ap (λ f. f.height) t.same in
            node d (us ++ i) v.0.height (e.List at v.0.tree) v.1 p v.3 (λ low. record {
              used = us ++ t.used;
              cut = ap (λ l. us ++ l) t.cut ∙ sym (append_assoc us t.used v.1);
              tree = rw (items_are, height_is) (Inside.list (Several.parts a t.spelled));
              low = low;
            })
      ]

  square_sound : (at d : ℕ) (i : List Token) (p : Found Expr × List Token) → square again n at d i ≡ Some p → Took (Inside b.Square at) d i p
  unfolding square
  square_sound at d i p h =
      elim (chosen (begins_item row.Expressions (mark i)) _ _ _ h) [
        | inl going ↦
            let v = bind_some (item again n row.Expressions (d - 1) i) _ p going.1 in
            let x = v.0 in
            let t = item_sound again sound n row.Expressions (d - 1) i (x, v.1) v.2 in
            subst (λ l. Took (Inside b.Square at) d l p) (sym t.cut) (square_behind_sound at d x t.used v.1 p t.tree v.3)
        | inr nothing ↦ node d i 0 (e.List at []) i p nothing.1 (λ low. record { used = []; cut = refl; tree = Inside.list Several.empty; low = low })
      ]

  dict_of_sound : (at d h : ℕ) (x : Entry Expr) (us i : List Token) (p : Found Expr × List Token) → PartOf Parts.entries h x us → dict_of again n at d h x i ≡ Some p → Took (Inside b.Curly at) d (us ++ i) p
  dict_of_sound at d h (en.Pair x y) us i p a eq =
      let c = bind_some (comprehension again n (d - 1) i) _ p eq in
      let t = comprehension_sound again sound n (d - 1) i (c.0, c.1) c.2 in
      node d (us ++ i) (max h c.0.height) (e.DictComprehension at x y c.0.tree) c.1 p c.3 (λ low. record {
        used = us ++ t.used;
        cut = ap (λ l. us ++ l) t.cut ∙ sym (append_assoc us t.used c.1);
        tree = Inside.dict_of a t.tree;
        low = low;
      })
  dict_of_sound at d h (en.Merge x) us i p a eq = cc

  curly_behind_sound : (at d : ℕ) (x : Found (Entry Expr)) (us i : List Token) (p : Found Expr × List Token) → PartOf Parts.entries x.height x.tree us → curly_behind again n at d x i ≡ Some p → Took (Inside b.Curly at) d (us ++ i) p
  unfolding curly_behind
  curly_behind_sound at d x us i p a h =
      elim (chosen (sees_word w.For i) _ _ _ h) [
        | inl for_ ↦ dict_of_sound at d x.height x.tree us i p a for_.1
        | inr rest ↦
            let v = bind_some (tail_from again n Parts.entries (entry again n) (d - 1) n (only x) i) _ p rest.1 in
            let t = tail_sound again sound n Parts.entries (entry again n) (d - 1) (entry_sound again sound n (d - 1)) n (only x) i (v.0, v.1) v.2 in
            let items_are = ap (λ f. f.tree) t.same in
            let height_is = ap (λ f. f.height) t.same in
            node d (us ++ i) v.0.height (e.Dict at v.0.tree) v.1 p v.3 (λ low. record {
              used = us ++ t.used;
              cut = ap (λ l. us ++ l) t.cut ∙ sym (append_assoc us t.used v.1);
              tree = rw (items_are, height_is) (Inside.dict (Several.parts a t.spelled));
              low = low;
            })
      ]

  curly_sound : (at d : ℕ) (i : List Token) (p : Found Expr × List Token) → curly again n at d i ≡ Some p → Took (Inside b.Curly at) d i p
  unfolding curly
  curly_sound at d i p h =
      elim (chosen (begins_entry (mark i)) _ _ _ h) [
        | inl going ↦
            let v = bind_some (entry again n (d - 1) i) _ p going.1 in
            let x = v.0 in
            let t = entry_sound again sound n (d - 1) i (x, v.1) v.2 in
            subst (λ l. Took (Inside b.Curly at) d l p) (sym t.cut) (curly_behind_sound at d x t.used v.1 p t.tree v.3)
        | inr nothing ↦ node d i 0 (e.Dict at []) i p nothing.1 (λ low. record { used = []; cut = refl; tree = Inside.dict Several.empty; low = low })
      ]

  pub inside_sound : (c : Bracket) (at d : ℕ) (i : List Token) (p : Found Expr × List Token) → inside again n c at d i ≡ Some p → Took (Inside c at) d i p
  inside_sound b.Round at d i p h = round_sound at d i p h
  inside_sound b.Square at d i p h = square_sound at d i p h
  inside_sound b.Curly at d i p h = curly_sound at d i p h

  -- ---- arguments

  lone_generator_sound : (start d h : ℕ) (x : Argument Expr) (us i : List Token) (p : Found (List (Argument Expr)) × List Token) → PartOf Parts.arguments h x us → start ≡ line us → lone_generator again n start d h x i ≡ Some p
      → Took Arguments d (us ++ i) p
  lone_generator_sound start d h (ar.Plain x) us i p a starts eq =
      let c = bind_some (comprehension again n (d - 1) i) _ p eq in
      let t = comprehension_sound again sound n (d - 1) i (c.0, c.1) c.2 in
      let g = bind_some (tall d (max h c.0.height) (e.Generator start x c.0.tree) c.1) _ p c.3 in
      let made = tall_says d (max h c.0.height) (e.Generator start x c.0.tree) c.1 (g.0, g.1) g.2 in
      let same = some_inj made.0 in
      subst (λ r. ◌≡◌ {A = Option (Found (List (Argument Expr)) × List Token)} (Some (found (ar.Plain r.0.tree ∷ []) r.0.height, r.1)) (Some p) → Took Arguments d (us ++ i) p) same (λ k. given (record {
        used = us ++ t.used;
        cut = ap (λ l. us ++ l) t.cut ∙ sym (append_assoc us t.used c.1);
        tree = subst (λ l. Arguments (max h c.0.height + 1) (ar.Plain (e.Generator l x c.0.tree) ∷ []) (us ++ t.used)) (sym starts) (Arguments.lone_generator (argument_plain a) t.tree);
        low = made.1;
      }) k) g.3
  lone_generator_sound start d h (ar.Star x) us i p a starts eq = cc
  lone_generator_sound start d h (ar.Keyword at text x) us i p a starts eq = cc
  lone_generator_sound start d h (ar.Merge x) us i p a starts eq = cc

  arguments_behind_sound : (start d : ℕ) (x : Found (Argument Expr)) (us i : List Token) (p : Found (List (Argument Expr)) × List Token) → PartOf Parts.arguments x.height x.tree us → x.height ≤ d → start ≡ line us
      → arguments_behind again n start d x i ≡ Some p → Took Arguments d (us ++ i) p
  unfolding arguments_behind
  arguments_behind_sound start d x us i p a below starts h =
      elim (chosen (sees_word w.For i) _ _ _ h) [
        | inl for_ ↦ lone_generator_sound start d x.height x.tree us i p a starts for_.1
        | inr rest ↦
            let v = bind_some (tail_from again n Parts.arguments (argument again n) d n (only x) i) _ p rest.1 in
            let t = tail_sound again sound n Parts.arguments (argument again n) d (argument_sound again sound n d) n (only x) i (v.0, v.1) v.2 in
            elim (parted (arguments_in_order v.0.tree) _ _ v.1 p v.3) [
              | inl order ↦
                  let kept : arguments_in_order (x.tree ∷ t.items) ≡ true = ap (λ f. arguments_in_order f.tree) (sym t.same) ∙ order.0 in
                  given (subst (λ r. Took Arguments d (us ++ i) (r, v.1)) (sym t.same) (record {
                    used = us ++ t.used;
                    cut = ap (λ l. us ++ l) t.cut ∙ sym (append_assoc us t.used v.1);
                    tree = Arguments.arguments (Several.parts a t.spelled) kept;
                    low = omega (arith, t.low, below);
                  })) order.1
              | inr wrong ↦ cc (wrong.1)
            ]
      ]

  pub arguments_sound : (d : ℕ) (i : List Token) (p : Found (List (Argument Expr)) × List Token) → arguments again n d i ≡ Some p → Took Arguments d i p
  unfolding arguments
  arguments_sound d i p h =
      elim (chosen (begins_argument (mark i)) _ _ _ h) [
        | inl going ↦
            let v = bind_some (argument again n d i) _ p going.1 in
            let x = v.0 in
            let t = argument_sound again sound n d i (x, v.1) v.2 in
            let starts = ap line t.cut ∙ fronted_part t.tree v.1 in
            subst (λ l. Took Arguments d l p) (sym t.cut) (arguments_behind_sound (line i) d x t.used v.1 p t.tree t.low starts v.3)
        | inr nothing ↦ given (record { used = []; cut = refl; tree = Arguments.arguments Several.empty refl; low = omega arith }) nothing.1
      ]

  -- ---- subscripts

  bound_sound : (d : ℕ) (i : List Token) (p : Found (Option Expr) × List Token) → bound again n d i ≡ Some p → Took Bound d i p
  unfolding bound
  bound_sound d i p h =
      elim (chosen (can_begin expression (mark i)) _ _ _ h) [
        | inl going ↦
            let v = bind_some (again expression d i) _ p going.1 in
            let x = v.0 in
            let t = sound expression d (omega arith) i (x, v.1) v.2 in
            given (record { used = t.used; cut = t.cut; tree = Bound.bound t.tree; low = t.low }) v.3
        | inr nothing ↦ given (record { used = []; cut = refl; tree = Bound.unbound; low = omega arith }) nothing.1
      ]

  step_sound : (d : ℕ) (i : List Token) (p : Found (Option Expr) × List Token) → step again n d i ≡ Some p → Took Step d i p
  unfolding step
  step_sound d i p h =
      elim (chosen (sees s.Colon i) _ _ _ h) [
        | inl colon ↦
            let f = sees_says s.Colon i colon.0 in
            let t = bound_sound d (next i) p colon.1 in
            record { used = f.token ∷ t.used; cut = f.cut ∙ ap (λ l. f.token ∷ l) t.cut; tree = Step.step f.token f.is t.tree; low = t.low }
        | inr nothing ↦ given (record { used = []; cut = refl; tree = Step.no_step; low = omega arith }) nothing.1
      ]

  slice_sound : (d : ℕ) (lower : Found (Option Expr)) (us i : List Token) (p : Found (Subscript Expr) × List Token) → Bound lower.height lower.tree us → lower.height ≤ d → sees s.Colon i ≡ true → slice again n d lower i ≡ Some p
      → Took Subscripts d (us ++ i) p
  unfolding slice
  slice_sound d lower us i p l below seen h =
      let f = sees_says s.Colon i seen in
      let v = bind_some (bound again n d (next i)) _ p h in
      let t = bound_sound d (next i) (v.0, v.1) v.2 in
      let c = bind_some (step again n d v.1) _ p v.3 in
      let u = step_sound d v.1 (c.0, c.1) c.2 in
      given (record {
        used = us ++ f.token ∷ t.used ++ u.used;
        cut = ap (λ l. us ++ l) (f.cut ∙ ap (λ l. f.token ∷ l) (t.cut ∙ ap (λ l. t.used ++ l) u.cut)) ∙ (simp append_assoc);
        tree = Subscripts.slice f.token l f.is t.tree u.tree;
        low = omega (arith, t.low, u.low, below);
      }) c.3

  subscripts_behind_sound : (d : ℕ) (x : Found Expr) (us i : List Token) (p : Found (Subscript Expr) × List Token) → Spells expression x.height x.tree us → x.height ≤ d → subscripts_behind again n d x i ≡ Some p → Took Subscripts d (us ++ i) p
  unfolding subscripts_behind
  subscripts_behind_sound d x us i p a below h =
      elim (chosen (sees s.Comma i) _ _ _ h) [
        | inl comma ↦
            let v = bind_some (tail_from again n Parts.indices (again expression) d n (only x) i) _ p comma.1 in
            let t = tail_sound again sound n Parts.indices (again expression) d (λ j r k. let z = sound expression d (omega arith) j r k in record { used = z.used; cut = z.cut; tree = PartOf.place z.tree; low = z.low }) n (only x) i (v.0, v.1) v.2 in
            let head = t.headed comma.0 in
            given (subst (λ r. Took Subscripts d (us ++ i) (found (sub.Several r.tree) r.height, v.1)) (sym t.same) (record {
              used = us ++ head.0 ∷ head.1;
              cut = ap (λ l. us ++ l) (t.cut ∙ ap (λ l. l ++ v.1) head.2) ∙ sym (append_assoc us (head.0 ∷ head.1) v.1);
              tree = Subscripts.several a (subst (λ l. Tail Parts.indices t.height t.items l) head.2 t.spelled);
              low = omega (arith, t.low, below);
            })) v.3
        | inr other ↦
            elim (chosen (sees s.Colon i) _ _ _ other.1) [
              | inl colon ↦ slice_sound d (found (Some x.tree) x.height) us i p (Bound.bound a) below colon.0 colon.1
              | inr one ↦ given (record { used = us; cut = refl; tree = Subscripts.one a; low = below }) one.1
            ]
      ]

  pub subscripts_sound : (d : ℕ) (i : List Token) (p : Found (Subscript Expr) × List Token) → subscripts again n d i ≡ Some p → Took Subscripts d i p
  unfolding subscripts
  subscripts_sound d i p h =
      elim (chosen (sees s.Colon i) _ _ _ h) [
        | inl colon ↦ slice_sound d (found None 0) [] i p Bound.unbound (omega arith) colon.0 colon.1
        | inr going ↦
            let v = bind_some (again expression d i) _ p going.1 in
            let x = v.0 in
            let t = sound expression d (omega arith) i (x, v.1) v.2 in
            subst (λ l. Took Subscripts d l p) (sym t.cut) (subscripts_behind_sound d x t.used v.1 p t.tree t.low v.3)
      ]
