-- Compound statements and blocks that are read are spelled so.
use Rattle.std.proofs.Common.{◌≡◌, ℕ, zero, suc, ◌+◌, ◌-◌, max, ◌≤◌, Bool, true, false, List, [], ◌∷◌, ◌++◌, length, take, Option, Some, None, refl, ap, ◌∙◌, sym, subst, arith, append_assoc, inl, inr}
use Rattle.py_ast.specs.declared.token.Token.{Token}
use Rattle.py_ast.specs.declared.token.TokenKind.TheVariants as k
use Rattle.py_ast.specs.declared.spelled.Word.{Word}
use Rattle.py_ast.specs.declared.spelled.Word.TheVariants as w
use Rattle.py_ast.specs.declared.spelled.Sign.TheVariants as s
use Rattle.py_ast.specs.declared.expr.Expr.{Expr}
use Rattle.py_ast.specs.declared.stmt.Stmt.{Stmt}
use Rattle.py_ast.specs.declared.stmt.Stmt.TheVariants as st
use Rattle.py_ast.specs.declared.stmt.Branch.{Branch}
use Rattle.py_ast.specs.declared.stmt.Handler.{Handler}
use Rattle.py_ast.specs.declared.stmt.Manager.{Manager}
use Rattle.py_grammar.specs.declared.found.Found.{Found}
use Rattle.py_grammar.specs.declared.role.Mark.{Mark}
use Rattle.py_grammar.specs.declared.role.Mark.TheVariants as m
use Rattle.py_grammar.specs.Levels.{expression, mark, line, next}
use Rattle.py_grammar.specs.Parse.{Parser, and_then, pure, found, only, with_part, sees, sees_word, expect, expect_word, name, read_level, read_exprs, read_targets, read_target, read_params}
use Rattle.py_grammar.specs.Grammar.{Expression, IsWord}
use Rattle.py_grammar.specs.Laws.{IsSpelled, Took}
use Rattle.py_grammar.proofs.Apart.{bind_some, chosen, eaten, given, some_inj, Fronts, word_front, sees_says, sees_word_says, sees_word_mark, expect_says, expect_word_says, name_says}
use Rattle.py_grammar.proofs.Lists.{joined, joined-nothing, joined-more}
use Rattle.py_grammar.proofs.Productions.{expression_spelled, exprs_spelled, targets_spelled, target_spelled, params_spelled}
use Rattle.py_statements.specs.Words.{is_newline, is_indent, is_dedent, closes, begins_compound, is_form}
use Rattle.py_statements.specs.Grammar.{ItemOf, Managers, Decorators, Base, Caught, Compound, Block, Statement, Statements, BranchOf, Elifs, Worded, Handlers}
use Rattle.py_statements.specs.Parse.{made, pass, maybe_expression, one_line, as_target, manager, managers_from, managers, decorators_from, decorators, base_class, as_name, branch, elifs_from, worded, if_statement, while_statement, for_blocks, for_statement, bare_handler, class_handler, handlers_from, finishes, catches, try_statement, with_statement, def_statement, class_statement, decorated_by, decorated, compound_by, compound, statement, statements_from, statements, indented, block, parse}
use Rattle.py_statements.proofs.Apart.{node, lined, behind, newline_says, indent_says, dedent_says, TookList, listed, whole}
use Rattle.py_statements.proofs.Steps.{joined-append}
use Rattle.py_statements.proofs.BlocksRead.{front_all}
use Rattle.py_statements.proofs.SimpleSpelled.{maybe_expression_spelled, line_spelled}

-- nothing more of a list
nothing : {A : Type 0} {S : ℕ → List A → List Token → Type 0} (d : ℕ) (acc : Found (List A)) (i : List Token) (p : Found (List A) × List Token) → S 0 [] [] → ◌≡◌ {A = Option (Found (List A) × List Token)} (Some (acc, i)) (Some p) → TookList S d acc i p
nothing d acc i p s h = listed (record { height = 0; items = []; used = []; cut = refl; same = joined-nothing acc; spelled = s; low = omega arith }) h

-- ---- items of `with`

as_target_says : (d : ℕ) (i : List Token) (x : Found Expr) (j : List Token) (p : Found Manager × List Token) → (t : Took Expression d i (x, j)) → is_form x.tree t.used ≡ false → as_target d x j ≡ Some p → Took ItemOf d i p
unfolding as_target
as_target_says d i x j p t plain h = elim (chosen (sees_word w.As j) _ _ (Some p) h) [
  | inl y ↦
      let f = sees_word_says w.As j y.0 in
      let b = bind_some (read_target d (next j)) _ p y.1 in
      let u = target_spelled d (next j) (b.0, b.1) b.2 in
      given (record {
        used = t.used ++ f.token ∷ u.used;
        cut = behind t.used (f.token ∷ u.used) _ t.cut (f.cut ∙ ap (λ l. f.token ∷ l) u.cut);
        tree = ItemOf.named f.token t.tree plain f.is u.tree;
        low = omega (arith, t.low, u.low);
      }) b.3
  | inr n ↦ given (record { used = t.used; cut = t.cut; tree = ItemOf.bare t.tree plain; low = t.low }) n.1
]

manager_spelled : IsSpelled ItemOf manager
unfolding manager
manager_spelled d i p h =
    let b = bind_some (read_level expression d i) _ p h in
    let x = b.0 in
    let t = expression_spelled d i (x, b.1) b.2 in
    let front : take (length i - length b.1) i ≡ t.used = ap (λ l. take (length l - length b.1) l) t.cut ∙ front_all t.used b.1 in
    elim (chosen (is_form x.tree (take (length i - length b.1) i)) _ _ (Some p) b.3) [
      | inl form ↦ let e = form.1 in cc
      | inr plain ↦ as_target_says d i x b.1 p t (ap (is_form x.tree) (sym front) ∙ plain.0) plain.1
    ]

managers_spelled : (d n : ℕ) (acc : Found (List Manager)) (i : List Token) (p : Found (List Manager) × List Token) → managers_from d n acc i ≡ Some p → TookList Managers d acc i p
unfolding managers_from
managers_spelled d zero acc i p h = cc
managers_spelled d (suc n) acc i p h =
    let b = bind_some (manager d i) _ p h in
    let x = b.0 in
    let t = manager_spelled d i (x, b.1) b.2 in
    elim (eaten s.Comma _ _ b.1 p b.3) [
      | inl more ↦
          let f = more.0 in
          let others = managers_spelled d n (with_part acc x) (next b.1) p more.1 in
          record {
            height = max x.height others.height;
            items = x.tree ∷ others.items;
            used = t.used ++ f.token ∷ others.used;
            cut = behind t.used (f.token ∷ others.used) _ t.cut (f.cut ∙ ap (λ l. f.token ∷ l) others.cut);
            same = others.same ∙ joined-more acc x.tree x.height others.height others.items;
            spelled = Managers.more f.token t.tree f.is others.spelled;
            low = omega (arith, t.low, others.low);
          }
      | inr last ↦ listed (record { height = x.height; items = x.tree ∷ []; used = t.used; cut = t.cut; same = refl; spelled = Managers.last t.tree; low = t.low }) last.1
    ]

all_managers : IsSpelled Managers managers
unfolding managers
all_managers d i p h = whole (managers_spelled d (length i) (found [] 0) i p h)

-- ---- decorators, a base class, what is caught

decorators_spelled : (d n : ℕ) (acc : Found (List Expr)) (i : List Token) (p : Found (List Expr) × List Token) → decorators_from d n acc i ≡ Some p → TookList Decorators d acc i p
unfolding decorators_from
decorators_spelled d zero acc i p h = cc
decorators_spelled d (suc n) acc i p h = elim (chosen (sees s.At i) _ _ (Some p) h) [
  | inl y ↦
      let f = sees_says s.At i y.0 in
      let b = bind_some (read_level expression d (next i)) _ p y.1 in
      let x = b.0 in
      let t = expression_spelled d (next i) (x, b.1) b.2 in
      let c = bind_some (pass is_newline b.1) _ p b.3 in
      let u = newline_says b.1 (c.0, c.1) c.2 in
      let others = decorators_spelled d n (with_part acc x) c.1 p c.3 in
      record {
        height = max x.height others.height;
        items = x.tree ∷ others.items;
        used = f.token ∷ t.used ++ u.token ∷ others.used;
        cut = f.cut ∙ ap (λ l. f.token ∷ l) (behind t.used (u.token ∷ others.used) _ t.cut (u.cut ∙ ap (λ l. u.token ∷ l) others.cut));
        same = others.same ∙ joined-more acc x.tree x.height others.height others.items;
        spelled = Decorators.more f.token u.token f.is t.tree u.is others.spelled;
        low = omega (arith, t.low, others.low);
      }
  | inr n ↦ nothing d acc i p Decorators.none n.1
]

all_decorators : IsSpelled Decorators decorators
unfolding decorators
all_decorators d i p h = whole (decorators_spelled d (length i + 1) (found [] 0) i p h)

base_spelled : IsSpelled Base base_class
unfolding base_class
base_spelled d i p h = elim (chosen (sees s.LeftParen i) _ _ (Some p) h) [
  | inl y ↦
      let f = sees_says s.LeftParen i y.0 in
      let b = bind_some (maybe_expression d (next i)) _ p y.1 in
      let t = maybe_expression_spelled d (next i) (b.0, b.1) b.2 in
      let c = bind_some (expect s.RightParen b.1) _ p b.3 in
      let u = expect_says s.RightParen b.1 (c.0, c.1) c.2 in
      given (record {
        used = f.token ∷ t.used ++ u.token ∷ [];
        cut = f.cut ∙ ap (λ l. f.token ∷ l) (behind t.used (u.token ∷ []) _ t.cut u.cut);
        tree = Base.present f.token u.token f.is t.tree u.is;
        low = t.low;
      }) c.3
  | inr n ↦ given (record { used = []; cut = refl; tree = Base.absent; low = omega arith }) n.1
]

record TookCaught (d : ℕ) (i : List Token) (x : Found Expr) (name : Option (List ℕ)) (j : List Token) : Type 0 where
  pub used : List Token
  pub cut : i ≡ used ++ j
  pub tree : Caught x.height x.tree name used
  pub low : x.height ≤ d

caught_spelled : (d : ℕ) (i : List Token) (x : Found Expr) (l : List Token) (name : Option (List ℕ)) (j : List Token) → read_level expression d i ≡ Some (x, l) → as_name l ≡ Some (name, j) → TookCaught d i x name j
unfolding as_name
caught_spelled d i x l text j h e =
    let t = expression_spelled d i (x, l) h in
    elim (chosen (sees_word w.As l) _ _ (Some (text, j)) e) [
      | inl y ↦
          let f = sees_word_says w.As l y.0 in
          let b = bind_some (name (next l)) _ (text, j) y.1 in
          let u = name_says (next l) (b.0, b.1) b.2 in
          let same = some_inj b.3 in
          subst (λ r. TookCaught d i x r.0 r.1) same (record {
            used = t.used ++ f.token ∷ u.token ∷ [];
            cut = behind t.used (f.token ∷ u.token ∷ []) _ t.cut (f.cut ∙ ap (λ l. f.token ∷ l) u.cut);
            tree = Caught.named f.token u.token t.tree f.is u.is;
            low = t.low;
          })
      | inr n ↦ subst (λ r. TookCaught d i x r.0 r.1) (some_inj n.1) (record { used = t.used; cut = t.cut; tree = Caught.unnamed t.tree; low = t.low })
    ]

-- ---- what blocks stand in

module _ (again : ℕ → Parser (Found (List Stmt))) (blocks : IsSpelled Block again) where
  branch_spelled : (v : Word) (d : ℕ) (i : List Token) (p : Found (Branch Stmt) × List Token) → mark i ≡ m.Keyword v → branch again d i ≡ Some p → Took (BranchOf v) d i p
  unfolding branch
  branch_spelled v d i p e h =
      let f = word_front v i e in
      let b = bind_some (read_level expression d (next i)) _ p h in
      let t = expression_spelled d (next i) (b.0, b.1) b.2 in
      let c = bind_some (again d b.1) _ p b.3 in
      let u = blocks d b.1 (c.0, c.1) c.2 in
      let tree : BranchOf v (max b.0.height c.0.height) (record { line = f.token.line; test = b.0.tree; body = c.0.tree }) (f.token ∷ t.used ++ u.used) = BranchOf.branch f.token f.is t.tree u.tree in
      given (record {
        used = f.token ∷ t.used ++ u.used;
        cut = f.cut ∙ ap (λ l. f.token ∷ l) (behind t.used u.used _ t.cut u.cut);
        tree = subst (λ l. BranchOf v (max b.0.height c.0.height) (record { line = l; test = b.0.tree; body = c.0.tree }) (f.token ∷ t.used ++ u.used)) (sym (ap line f.cut)) tree;
        low = omega (arith, t.low, u.low);
      }) c.3

  elifs_spelled : (d n : ℕ) (acc : Found (List (Branch Stmt))) (i : List Token) (p : Found (List (Branch Stmt)) × List Token) → elifs_from again d n acc i ≡ Some p → TookList Elifs d acc i p
  unfolding elifs_from
  elifs_spelled d zero acc i p h = cc
  elifs_spelled d (suc n) acc i p h = elim (chosen (sees_word w.Elif i) _ _ (Some p) h) [
    | inl y ↦
        let b = bind_some (branch again d i) _ p y.1 in
        let x = b.0 in
        let t = branch_spelled w.Elif d i (x, b.1) (sees_word_mark w.Elif i y.0) b.2 in
        let others = elifs_spelled d n (with_part acc x) b.1 p b.3 in
        record {
          height = max x.height others.height;
          items = x.tree ∷ others.items;
          used = t.used ++ others.used;
          cut = behind t.used others.used _ t.cut others.cut;
          same = others.same ∙ joined-more acc x.tree x.height others.height others.items;
          spelled = Elifs.elif t.tree others.spelled;
          low = omega (arith, t.low, others.low);
        }
    | inr n ↦ nothing d acc i p Elifs.no_elif n.1
  ]

  worded_spelled : (v : Word) → IsSpelled (Worded v) (worded again v)
  unfolding worded
  worded_spelled v d i p h = elim (chosen (sees_word v i) _ _ (Some p) h) [
    | inl y ↦
        let f = sees_word_says v i y.0 in
        let t = blocks d (next i) p y.1 in
        record { used = f.token ∷ t.used; cut = f.cut ∙ ap (λ l. f.token ∷ l) t.cut; tree = Worded.written f.token f.is t.tree; low = t.low }
    | inr n ↦ given (record { used = []; cut = refl; tree = Worded.unwritten; low = omega arith }) n.1
  ]

  if_spelled : (d : ℕ) (i : List Token) (p : Found Stmt × List Token) → mark i ≡ m.Keyword w.If → if_statement again d i ≡ Some p → Took Compound d i p
  unfolding if_statement
  if_spelled d i p e h =
      let b = bind_some (branch again (d - 1) i) _ p h in
      let x = b.0 in
      let t = branch_spelled w.If (d - 1) i (x, b.1) e b.2 in
      let c = bind_some (elifs_from again (d - 1) (length b.1 + 1) (only x) b.1) _ p b.3 in
      let bs = elifs_spelled (d - 1) (length b.1 + 1) (only x) b.1 (c.0, c.1) c.2 in
      let o = bind_some (worded again w.Else (d - 1) c.1) _ p c.3 in
      let v = worded_spelled w.Else (d - 1) c.1 (o.0, o.1) o.2 in
      let tree_is : c.0.tree ≡ x.tree ∷ bs.items = ap (λ f. f.tree) bs.same in
      let height_is : max c.0.height o.0.height ≡ max x.height (max bs.height o.0.height) = omega (arith, ap (λ f. f.height) bs.same) in
      let first = branch_first w.If i b.1 (x.tree) t.used x.height t.cut t.tree in
      if_node d i x.tree bs.items c.0.tree o.0.tree x.height bs.height o.0.height (max c.0.height o.0.height) o.1 p tree_is height_is first (t.used ++ bs.used ++ v.used)
      (behind (t.used ++ bs.used) v.used _ (behind t.used bs.used _ t.cut bs.cut) v.cut) (Compound.conditional t.tree bs.spelled v.tree) o.3
    where
      branch_first : (v : Word) (i j : List Token) (x : Branch Stmt) (us : List Token) (h : ℕ) → i ≡ us ++ j → BranchOf v h x us → line i ≡ x.line
      branch_first v i j x us h cut (BranchOf.branch t is a c) = ap line cut

      if_node : (d : ℕ) (i : List Token) (x : Branch Stmt) (bs all : List (Branch Stmt)) (other : List Stmt) (f g h n : ℕ) (j : List Token) (p : Found Stmt × List Token) → all ≡ x ∷ bs → n ≡ max f (max g h) → line i ≡ x.line
          → (used : List Token) → i ≡ used ++ j → Compound (max f (max g h) + 1) (st.If x.line (x ∷ bs) other) used → made d n (st.If (line i) all other) j ≡ Some p → Took Compound d i p
      if_node d i x bs all other f g h n j p tree height first used cut tree_of e = node d i n (st.If (line i) all other) j p e (λ small. record {
        used = used;
        cut = cut;
        tree = subst (λ r. Compound (r + 1) (st.If (line i) all other) used) (sym height) (subst (λ r. Compound (max f (max g h) + 1) (st.If (line i) r other) used) (sym tree) (subst (λ r. Compound (max f (max g h) + 1) (st.If r (x ∷ bs) other) used) (sym first) tree_of));
        low = small;
      })

  while_spelled : (d : ℕ) (i : List Token) (p : Found Stmt × List Token) → mark i ≡ m.Keyword w.While → while_statement again d i ≡ Some p → Took Compound d i p
  unfolding while_statement
  while_spelled d i p e h =
      let b = bind_some (branch again (d - 1) i) _ p h in
      let t = branch_spelled w.While (d - 1) i (b.0, b.1) e b.2 in
      let o = bind_some (worded again w.Else (d - 1) b.1) _ p b.3 in
      let v = worded_spelled w.Else (d - 1) b.1 (o.0, o.1) o.2 in
      node d i _ _ o.1 p o.3 (λ small. record { used = t.used ++ v.used; cut = behind t.used v.used _ t.cut v.cut; tree = Compound.while t.tree v.tree; low = small })

  for_spelled : (d : ℕ) (i : List Token) (p : Found Stmt × List Token) → mark i ≡ m.Keyword w.For → for_statement again d i ≡ Some p → Took Compound d i p
  unfolding for_statement for_blocks
  for_spelled d i p e h =
      let f = word_front w.For i e in
      let a = bind_some (read_targets (d - 1) (next i)) _ p h in
      let t = targets_spelled (d - 1) (next i) (a.0, a.1) a.2 in
      let n = bind_some (expect_word w.In a.1) _ p a.3 in
      let g = expect_word_says w.In a.1 (n.0, n.1) n.2 in
      let x = bind_some (read_exprs (d - 1) n.1) _ p n.3 in
      let u = exprs_spelled (d - 1) n.1 (x.0, x.1) x.2 in
      let b = bind_some (again (d - 1) x.1) _ p x.3 in
      let c = blocks (d - 1) x.1 (b.0, b.1) b.2 in
      let o = bind_some (worded again w.Else (d - 1) b.1) _ p b.3 in
      let v = worded_spelled w.Else (d - 1) b.1 (o.0, o.1) o.2 in
      node d i _ _ o.1 p o.3 (λ small. record {
        used = f.token ∷ t.used ++ g.token ∷ u.used ++ c.used ++ v.used;
        cut = f.cut ∙ ap (λ l. f.token ∷ l) (behind ((t.used ++ g.token ∷ u.used) ++ c.used) v.used _ (behind (t.used ++ g.token ∷ u.used) c.used _ (behind t.used (g.token ∷ u.used) _ t.cut (g.cut ∙ ap (λ l. g.token ∷ l) u.cut)) c.cut) v.cut);
        tree = lined Compound i _ _ _ (λ l. st.For l a.0.tree x.0.tree b.0.tree o.0.tree) (ap line f.cut) (Compound.for f.token g.token f.is t.tree g.is u.tree c.tree v.tree);
        low = small;
      })

  with_spelled : (d : ℕ) (i : List Token) (p : Found Stmt × List Token) → mark i ≡ m.Keyword w.With → with_statement again d i ≡ Some p → Took Compound d i p
  unfolding with_statement
  with_spelled d i p e h =
      let f = word_front w.With i e in
      let a = bind_some (managers (d - 1) (next i)) _ p h in
      let t = all_managers (d - 1) (next i) (a.0, a.1) a.2 in
      let b = bind_some (again (d - 1) a.1) _ p a.3 in
      let c = blocks (d - 1) a.1 (b.0, b.1) b.2 in
      node d i _ _ b.1 p b.3 (λ small. record {
        used = f.token ∷ t.used ++ c.used;
        cut = f.cut ∙ ap (λ l. f.token ∷ l) (behind t.used c.used _ t.cut c.cut);
        tree = lined Compound i _ _ _ (λ l. st.With l a.0.tree b.0.tree) (ap line f.cut) (Compound.with f.token f.is t.tree c.tree);
        low = small;
      })

  -- ---- try

  handlers_spelled : (d n : ℕ) (acc : Found (List (Handler Stmt))) (i : List Token) (p : Found (List (Handler Stmt)) × List Token) → handlers_from again d n acc i ≡ Some p → TookList Handlers d acc i p
  unfolding handlers_from bare_handler class_handler
  handlers_spelled d zero acc i p h = cc
  handlers_spelled d (suc n) acc i p h = elim (chosen (sees_word w.Except i) _ _ (Some p) h) [
    | inl y ↦
        let f = sees_word_says w.Except i y.0 in
        elim (chosen (sees s.Colon (next i)) _ _ (Some p) y.1) [
          | inl bare ↦
              let a = bind_some (and_then (again d (next i)) (λ body. pure (found (record { line = line i; class = None; name = None; body = body.tree }) body.height))) _ p bare.1 in
              let b = bind_some (again d (next i)) _ (a.0, a.1) a.2 in
              let t = blocks d (next i) (b.0, b.1) b.2 in
              last_taken d acc i (next i) f b.0 b.1 t p (ap (λ r. Some (with_part acc r.0, r.1)) (some_inj b.3) ∙ a.3)
          | inr classed ↦
              let a = bind_some _ _ p classed.1 in
              let x = bind_some (read_level expression d (next i)) _ (a.0, a.1) a.2 in
              let l = bind_some (as_name x.1) _ (a.0, a.1) x.3 in
              let b = bind_some (again d l.1) _ (a.0, a.1) l.3 in
              let t = caught_spelled d (next i) x.0 x.1 l.0 l.1 x.2 l.2 in
              let u = blocks d l.1 (b.0, b.1) b.2 in
              let others = handlers_spelled d n (with_part acc a.0) a.1 p a.3 in
              handler_taken d acc i f x.0 l.0 l.1 t b.0 b.1 u a.0 a.1 (some_inj b.3) p others
        ]
    | inr n ↦ nothing d acc i p Handlers.no_handler n.1
  ]
    where
      last_taken : (d : ℕ) (acc : Found (List (Handler Stmt))) (i j : List Token) (f : Fronts (k.Keyword w.Except) i j) (b : Found (List Stmt)) (l : List Token) → Took Block d j (b, l) → (p : Found (List (Handler Stmt)) × List Token)
          → ◌≡◌ {A = Option (Found (List (Handler Stmt)) × List Token)} (Some (with_part acc (found (record { line = line i; class = None; name = None; body = b.tree }) b.height), l)) (Some p) → TookList Handlers d acc i p
      last_taken d acc i j f b l t p h =
          let mk : ℕ → Handler Stmt = λ n. record { line = n; class = None; name = None; body = b.tree } in
          listed (record {
            height = b.height;
            items = mk f.token.line ∷ [];
            used = f.token ∷ t.used;
            cut = f.cut ∙ ap (λ l. f.token ∷ l) t.cut;
            same = ap (λ n. with_part acc (found (mk n) b.height)) (ap line f.cut);
            spelled = Handlers.last_handler f.token f.is t.tree;
            low = t.low;
          }) h

      handler_taken : (d : ℕ) (acc : Found (List (Handler Stmt))) (i : List Token) (f : Fronts (k.Keyword w.Except) i (next i)) (x : Found Expr) (text : Option (List ℕ)) (j : List Token) → TookCaught d (next i) x text j → (b : Found (List Stmt)) (l : List Token) → Took Block d j (b, l)
          → (a : Found (Handler Stmt)) (r : List Token) → ◌≡◌ {A = Found (Handler Stmt) × List Token} (found (record { line = line i; class = Some x.tree; name = text; body = b.tree }) (max x.height b.height), l) (a, r)
          → (p : Found (List (Handler Stmt)) × List Token) → TookList Handlers d (with_part acc a) r p → TookList Handlers d acc i p
      handler_taken d acc i f x text j t b l u a r e p others =
          let mk : ℕ → Handler Stmt = λ n. record { line = n; class = Some x.tree; name = text; body = b.tree } in
          let part : a ≡ found (mk f.token.line) (max x.height b.height) = sym (ap (λ q. q.0) e) ∙ ap (λ n. found (mk n) (max x.height b.height)) (ap line f.cut) in
          record {
            height = max (max x.height b.height) others.height;
            items = mk f.token.line ∷ others.items;
            used = f.token ∷ t.used ++ u.used ++ others.used;
            cut = f.cut ∙ ap (λ l. f.token ∷ l) (behind (t.used ++ u.used) others.used _ (behind t.used u.used _ t.cut u.cut) (ap (λ q. q.1) e ∙ others.cut));
            same = others.same ∙ ap (λ q. joined (with_part acc q) others.items others.height) part ∙ joined-more acc (mk f.token.line) (max x.height b.height) others.height others.items;
            spelled = Handlers.handler f.token f.is t.tree u.tree others.spelled;
            low = omega (arith, t.low, u.low, others.low);
          }

  finishes_spelled : (d : ℕ) (i j : List Token) (f : Fronts (k.Keyword w.Try) i j) (body : Found (List Stmt)) (l : List Token) → Took Block (d - 1) j (body, l) → (p : Found Stmt × List Token) → finishes again (line i) d body l ≡ Some p → Took Compound d i p
  unfolding finishes
  finishes_spelled d i j f body l t p h =
      let n = bind_some (expect_word w.Finally l) _ p h in
      let g = expect_word_says w.Finally l (n.0, n.1) n.2 in
      let b = bind_some (again (d - 1) n.1) _ p n.3 in
      let c = blocks (d - 1) n.1 (b.0, b.1) b.2 in
      node d i _ _ b.1 p b.3 (λ small. record {
        used = f.token ∷ t.used ++ g.token ∷ c.used;
        cut = f.cut ∙ ap (λ l. f.token ∷ l) (behind t.used (g.token ∷ c.used) _ t.cut (g.cut ∙ ap (λ l. g.token ∷ l) c.cut));
        tree = lined Compound i _ _ _ (λ l. st.Try l body.tree [] [] b.0.tree) (ap line f.cut) (Compound.finishes f.token g.token f.is t.tree g.is c.tree);
        low = small;
      })

  -- where `except` comes first there is a handler
  catches_node : (d : ℕ) (i : List Token) (u : Token) (us : List Token) (body : Found (List Stmt)) (cs : Found (List (Handler Stmt))) (other last : Found (List Stmt)) (g : ℕ) (items : List (Handler Stmt)) (ys zs vs : List Token) (j : List Token) (p : Found Stmt × List Token)
      → IsWord u w.Try → line i ≡ u.line → Block body.height body.tree us → cs ≡ joined (found [] 0) items g → Handlers g items ys → (items ≡ [] → ⊥) → Worded w.Else other.height other.tree zs → Worded w.Finally last.height last.tree vs
      → i ≡ (u ∷ us ++ ys ++ zs ++ vs) ++ j → made d (max (max body.height cs.height) (max other.height last.height)) (st.Try (line i) body.tree cs.tree other.tree last.tree) j ≡ Some p → Took Compound d i p
  catches_node d i u us body cs other last g [] ys zs vs j p is first a same b some o l cut h = absurd (some refl)
  catches_node d i u us body cs other last g (c ∷ items) ys zs vs j p is first a same b some o l cut h =
      let tree : cs.tree ≡ c ∷ items = ap (λ f. f.tree) same in
      let height : max (max body.height cs.height) (max other.height last.height) ≡ max (max body.height g) (max other.height last.height) = omega (arith, ap (λ f. f.height) same) in
      let used = u ∷ us ++ ys ++ zs ++ vs in
      node d i _ _ j p h (λ small. record {
        used = used;
        cut = cut;
        tree = subst (λ n. Compound (n + 1) (st.Try (line i) body.tree cs.tree other.tree last.tree) used) (sym height)
            (subst (λ r. Compound (max (max body.height g) (max other.height last.height) + 1) (st.Try (line i) body.tree r other.tree last.tree) used) (sym tree)
            (lined Compound i _ _ _ (λ n. st.Try n body.tree (c ∷ items) other.tree last.tree) first (Compound.catches u is a b o l)));
        low = small;
      })

  some_handlers : (d n : ℕ) (acc : Found (List (Handler Stmt))) (i : List Token) (p : Found (List (Handler Stmt)) × List Token) → sees_word w.Except i ≡ true → handlers_from again d n acc i ≡ Some p → (x : Handler Stmt) × (xs : List (Handler Stmt)) × (p.0.tree ≡ acc.tree ++ (x ∷ xs))
  unfolding handlers_from
  some_handlers d zero acc i p seen h = cc
  some_handlers d (suc n) acc i p seen h = elim (chosen (sees_word w.Except i) _ _ (Some p) h) [
    | inl y ↦ elim (chosen (sees s.Colon (next i)) _ _ (Some p) y.1) [
      | inl bare ↦
          let a = bind_some (bare_handler again (line i) d (next i)) _ p bare.1 in
          (a.0.tree, [], sym (ap (λ r. r.0.tree) (some_inj a.3)))
      | inr classed ↦
          let a = bind_some (class_handler again (line i) d (next i)) _ p classed.1 in
          let t = handlers_spelled d n (with_part acc a.0) a.1 p a.3 in
          (a.0.tree, t.items, ap (λ f. f.tree) t.same ∙ append_assoc acc.tree (a.0.tree ∷ []) t.items)
    ]
    | inr other ↦ let wrong : true ≡ false = sym seen ∙ other.0 in cc
  ]

  catches_spelled : (d : ℕ) (i j : List Token) (f : Fronts (k.Keyword w.Try) i j) (body : Found (List Stmt)) (l : List Token) → Took Block (d - 1) j (body, l) → (p : Found Stmt × List Token) → sees_word w.Except l ≡ true → catches again (line i) d body l ≡ Some p → Took Compound d i p
  unfolding catches
  catches_spelled d i j f body l t p seen h =
      let c = bind_some (handlers_from again (d - 1) (length l + 1) (found [] 0) l) _ p h in
      let cs = handlers_spelled (d - 1) (length l + 1) (found [] 0) l (c.0, c.1) c.2 in
      let some = some_handlers (d - 1) (length l + 1) (found [] 0) l (c.0, c.1) seen c.2 in
      let o = bind_some (worded again w.Else (d - 1) c.1) _ p c.3 in
      let other = worded_spelled w.Else (d - 1) c.1 (o.0, o.1) o.2 in
      let v = bind_some (worded again w.Finally (d - 1) o.1) _ p o.3 in
      let last = worded_spelled w.Finally (d - 1) o.1 (v.0, v.1) v.2 in
      catches_node d i f.token t.used body c.0 o.0 v.0 cs.height cs.items cs.used other.used last.used v.1 p f.is (ap line f.cut) t.tree cs.same cs.spelled
      (λ none. let wrong : some.0 ∷ some.1 ≡ [] = sym some.2 ∙ ap (λ f. f.tree) cs.same ∙ none in cc) other.tree last.tree
      (f.cut ∙ ap (λ l. f.token ∷ l) (behind ((t.used ++ cs.used) ++ other.used) last.used _ (behind (t.used ++ cs.used) other.used _ (behind t.used cs.used _ t.cut cs.cut) other.cut) last.cut)) v.3

  try_spelled : (d : ℕ) (i : List Token) (p : Found Stmt × List Token) → mark i ≡ m.Keyword w.Try → try_statement again d i ≡ Some p → Took Compound d i p
  unfolding try_statement
  try_spelled d i p e h =
      let f = word_front w.Try i e in
      let b = bind_some (again (d - 1) (next i)) _ p h in
      let t = blocks (d - 1) (next i) (b.0, b.1) b.2 in
      elim (chosen (sees_word w.Except b.1) _ _ (Some p) b.3) [
        | inl y ↦ catches_spelled d i (next i) f b.0 b.1 t p y.0 y.1
        | inr n ↦ finishes_spelled d i (next i) f b.0 b.1 t p n.1
      ]

  -- ---- definitions

  def_spelled : (d : ℕ) (i : List Token) (ds : Found (List Expr)) (j : List Token) (p : Found Stmt × List Token) → Took Decorators (d - 1) i (ds, j) → mark j ≡ m.Keyword w.Def → def_statement again d ds j ≡ Some p → Took Compound d i p
  unfolding def_statement
  def_spelled d i ds j p t e h =
      let f = word_front w.Def j e in
      let n = bind_some (name (next j)) _ p h in
      let a = name_says (next j) (n.0, n.1) n.2 in
      let o = bind_some (expect s.LeftParen n.1) _ p n.3 in
      let b = expect_says s.LeftParen n.1 (o.0, o.1) o.2 in
      let q = bind_some (read_params (d - 1) o.1) _ p o.3 in
      let ps = params_spelled (d - 1) o.1 (q.0, q.1) q.2 in
      let z = bind_some (expect s.RightParen q.1) _ p q.3 in
      let c = expect_says s.RightParen q.1 (z.0, z.1) z.2 in
      let y = bind_some (again (d - 1) z.1) _ p z.3 in
      let u = blocks (d - 1) z.1 (y.0, y.1) y.2 in
      let head = f.cut ∙ ap (λ l. f.token ∷ l) (a.cut ∙ ap (λ l. a.token ∷ l) (b.cut ∙ ap (λ l. b.token ∷ l) ps.cut)) in
      node d i _ _ y.1 p y.3 (λ small. record {
        used = t.used ++ f.token ∷ a.token ∷ b.token ∷ ps.used ++ c.token ∷ u.used;
        cut = behind (t.used ++ f.token ∷ a.token ∷ b.token ∷ ps.used) (c.token ∷ u.used) _ (behind t.used (f.token ∷ a.token ∷ b.token ∷ ps.used) _ t.cut head) (c.cut ∙ ap (λ l. c.token ∷ l) u.cut);
        tree = lined Compound j _ _ _ (λ l. st.Def l ds.tree n.0 q.0.tree y.0.tree) (ap line f.cut) (Compound.def f.token a.token b.token c.token t.tree f.is a.is b.is ps.tree c.is u.tree);
        low = small;
      })

  class_spelled : (d : ℕ) (i : List Token) (ds : Found (List Expr)) (j : List Token) (p : Found Stmt × List Token) → Took Decorators (d - 1) i (ds, j) → mark j ≡ m.Keyword w.Class → class_statement again d ds j ≡ Some p → Took Compound d i p
  unfolding class_statement
  class_spelled d i ds j p t e h =
      let f = word_front w.Class j e in
      let n = bind_some (name (next j)) _ p h in
      let a = name_says (next j) (n.0, n.1) n.2 in
      let o = bind_some (base_class (d - 1) n.1) _ p n.3 in
      let b = base_spelled (d - 1) n.1 (o.0, o.1) o.2 in
      let y = bind_some (again (d - 1) o.1) _ p o.3 in
      let u = blocks (d - 1) o.1 (y.0, y.1) y.2 in
      let head = f.cut ∙ ap (λ l. f.token ∷ l) (a.cut ∙ ap (λ l. a.token ∷ l) b.cut) in
      node d i _ _ y.1 p y.3 (λ small. record {
        used = t.used ++ f.token ∷ a.token ∷ b.used ++ u.used;
        cut = behind (t.used ++ f.token ∷ a.token ∷ b.used) u.used _ (behind t.used (f.token ∷ a.token ∷ b.used) _ t.cut head) u.cut;
        tree = lined Compound j _ _ _ (λ l. st.Class l ds.tree n.0 o.0.tree y.0.tree) (ap line f.cut) (Compound.class f.token a.token t.tree f.is a.is b.tree u.tree);
        low = small;
      })

  decorated_is : (q : Mark) (d : ℕ) (i : List Token) (ds : Found (List Expr)) (j : List Token) (p : Found Stmt × List Token) → Took Decorators (d - 1) i (ds, j) → mark j ≡ q → decorated_by again d ds q j ≡ Some p → Took Compound d i p
  decorated_is (m.Keyword w.Def) d i ds j p t e h = def_spelled d i ds j p t e h
  decorated_is (m.Keyword w.Class) d i ds j p t e h = class_spelled d i ds j p t e h
  decorated_is _ d i ds j p t e h = cc

  decorated_spelled : (d : ℕ) (i : List Token) (p : Found Stmt × List Token) → decorated again d i ≡ Some p → Took Compound d i p
  unfolding decorated
  decorated_spelled d i p h =
      let b = bind_some (decorators (d - 1) i) _ p h in
      decorated_is (mark b.1) d i b.0 b.1 p (all_decorators (d - 1) i (b.0, b.1) b.2) refl b.3

  compound_is : (q : Mark) (d : ℕ) (i : List Token) (p : Found Stmt × List Token) → mark i ≡ q → compound_by again d q i ≡ Some p → Took Compound d i p
  compound_is (m.Keyword w.If) d i p e h = if_spelled d i p e h
  compound_is (m.Keyword w.While) d i p e h = while_spelled d i p e h
  compound_is (m.Keyword w.For) d i p e h = for_spelled d i p e h
  compound_is (m.Keyword w.Try) d i p e h = try_spelled d i p e h
  compound_is (m.Keyword w.With) d i p e h = with_spelled d i p e h
  compound_is _ d i p e h = decorated_spelled d i p h

  compound_spelled : IsSpelled Compound (compound again)
  unfolding compound
  compound_spelled d i p h = compound_is (mark i) d i p refl h

  -- ---- statements and blocks

  statement_spelled : (d : ℕ) (acc : Found (List Stmt)) (i : List Token) (p : Found (List Stmt) × List Token) → statement again d acc i ≡ Some p → TookList Statement d acc i p
  unfolding statement one_line
  statement_spelled d acc i p h = elim (chosen (begins_compound (mark i)) _ _ (Some p) h) [
    | inl y ↦
        let b = bind_some (compound again d i) _ p y.1 in
        let t = compound_spelled d i (b.0, b.1) b.2 in
        listed (record { height = b.0.height; items = b.0.tree ∷ []; used = t.used; cut = t.cut; same = refl; spelled = Statement.compound t.tree; low = t.low }) b.3
    | inr n ↦
        let t = line_spelled d (length i) acc i p n.1 in
        record { height = t.height; items = t.items; used = t.used; cut = t.cut; same = t.same; spelled = Statement.simple t.spelled; low = t.low }
  ]

  pub statements_spelled : (d : ℕ) (inner : Bool) (n : ℕ) (acc : Found (List Stmt)) (i : List Token) (p : Found (List Stmt) × List Token) → statements_from again d inner n acc i ≡ Some p → TookList Statements d acc i p
  unfolding statements_from
  statements_spelled d inner zero acc i p h = cc
  statements_spelled d inner (suc n) acc i p h = elim (chosen (closes inner (mark i)) _ _ (Some p) h) [
    | inl end ↦ nothing d acc i p Statements.none end.1
    | inr going ↦
        let b = bind_some (statement again d acc i) _ p going.1 in
        let t = statement_spelled d acc i (b.0, b.1) b.2 in
        let others = statements_spelled d inner n b.0 b.1 p b.3 in
        record {
          height = max t.height others.height;
          items = t.items ++ others.items;
          used = t.used ++ others.used;
          cut = behind t.used others.used _ t.cut others.cut;
          same = others.same ∙ ap (λ a. joined a others.items others.height) t.same ∙ joined-append acc t.items others.items t.height others.height;
          spelled = Statements.more t.spelled others.spelled;
          low = omega (arith, t.low, others.low);
        }
  ]

  -- the statements end where they are closed
  pub statements_closed : (d : ℕ) (inner : Bool) (n : ℕ) (acc : Found (List Stmt)) (i : List Token) (p : Found (List Stmt) × List Token) → statements_from again d inner n acc i ≡ Some p → closes inner (mark p.1) ≡ true
  unfolding statements_from
  statements_closed d inner zero acc i p h = cc
  statements_closed d inner (suc n) acc i p h = elim (chosen (closes inner (mark i)) _ _ (Some p) h) [
    | inl end ↦ ap (λ r. closes inner (mark r.1)) (sym (some_inj end.1)) ∙ end.0
    | inr going ↦ let b = bind_some (statement again d acc i) _ p going.1 in statements_closed d inner n b.0 b.1 p b.3
  ]

  indented_spelled : (d : ℕ) (i j : List Token) (f : Fronts (k.Sign s.Colon) i j) (p : Found (List Stmt) × List Token) → indented again d j ≡ Some p → Took Block d i p
  unfolding indented statements
  indented_spelled d i j f p h =
      let a = bind_some (pass is_newline j) _ p h in
      let n = newline_says j (a.0, a.1) a.2 in
      let b = bind_some (pass is_indent a.1) _ p a.3 in
      let o = indent_says a.1 (b.0, b.1) b.2 in
      let c = bind_some (statement again d (found [] 0) b.1) _ p b.3 in
      let t = statement_spelled d (found [] 0) b.1 (c.0, c.1) c.2 in
      let v = bind_some (statements_from again d true (length c.1 + 1) c.0 c.1) _ p c.3 in
      let u = statements_spelled d true (length c.1 + 1) c.0 c.1 (v.0, v.1) v.2 in
      let z = bind_some (pass is_dedent v.1) _ p v.3 in
      let e = dedent_says v.1 (z.0, z.1) z.2 in
      let inside = behind (t.used ++ u.used) (e.token ∷ []) _ (behind t.used u.used _ t.cut u.cut) e.cut in
      whole (listed (record {
        height = max t.height u.height;
        items = t.items ++ u.items;
        used = f.token ∷ n.token ∷ o.token ∷ t.used ++ u.used ++ e.token ∷ [];
        cut = f.cut ∙ ap (λ l. f.token ∷ l) (n.cut ∙ ap (λ l. n.token ∷ l) (o.cut ∙ ap (λ l. o.token ∷ l) inside));
        same = u.same ∙ ap (λ a. joined a u.items u.height) t.same ∙ joined-append (found [] 0) t.items u.items t.height u.height;
        spelled = Block.indented f.token n.token o.token e.token f.is n.is o.is t.spelled u.spelled e.is;
        low = omega (arith, t.low, u.low);
      }) z.3)

  pub block_spelled : IsSpelled Block (block again)
  unfolding block one_line
  block_spelled d i p h =
      let a = bind_some (expect s.Colon i) _ p h in
      let f = expect_says s.Colon i (a.0, a.1) a.2 in
      elim (chosen (is_newline (mark a.1)) _ _ (Some p) a.3) [
        | inl y ↦ indented_spelled d i a.1 f p y.1
        | inr n ↦
            let t = line_spelled d (length a.1) (found [] 0) a.1 p n.1 in
            let u = whole t in
            record { used = f.token ∷ u.used; cut = f.cut ∙ ap (λ l. f.token ∷ l) u.cut; tree = Block.one_line f.token f.is u.tree; low = u.low }
      ]

pub parse_spelled : (n : ℕ) → IsSpelled Block (parse n)
unfolding parse
parse_spelled zero d i p h = cc
parse_spelled (suc n) d i p h = block_spelled (parse n) (parse_spelled n) d i p h
