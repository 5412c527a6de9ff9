-- Parts that are read are spelled so, and lists of them.
use Rattle.std.proofs.Common.{◌≡◌, ◌⊎◌, ℕ, zero, suc, ◌+◌, ◌-◌, max, ◌<◌, ◌≤◌, Bool, true, false, cond, List, [], ◌∷◌, ◌++◌, length, Option, Some, None, refl, ap, ◌∙◌, sym, subst, arith, append_assoc, append-nil, le_refl, le_trans, inl, inr}
use Rattle.py_ast.specs.declared.token.Token.{Token}
use Rattle.py_ast.specs.declared.token.TokenKind.TheVariants as k
use Rattle.py_ast.specs.declared.spelled.Word.TheVariants as w
use Rattle.py_ast.specs.declared.spelled.Sign.TheVariants as s
use Rattle.py_ast.specs.declared.expr.Item.{Item}
use Rattle.py_ast.specs.declared.expr.Item.TheVariants as it
use Rattle.py_ast.specs.declared.expr.Entry.{Entry}
use Rattle.py_ast.specs.declared.expr.Entry.TheVariants as en
use Rattle.py_ast.specs.declared.expr.Argument.{Argument}
use Rattle.py_ast.specs.declared.expr.Argument.TheVariants as ar
use Rattle.py_ast.specs.declared.expr.Param.{Param}
use Rattle.py_ast.specs.declared.expr.Param.TheVariants as pa
use Rattle.py_ast.specs.declared.expr.Link.{Link}
use Rattle.py_ast.specs.declared.expr.Clause.{Clause}
use Rattle.py_ast.specs.declared.expr.Clause.TheVariants as cl
use Rattle.py_ast.specs.declared.expr.Clauses.{Clauses}
use Rattle.py_ast.specs.declared.expr.Expr.{Expr}
use Rattle.py_ast.specs.declared.expr.Expr.TheVariants as e
use Rattle.py_grammar.specs.declared.found.Found.{Found}
use Rattle.py_grammar.specs.declared.role.Mark.{Mark}
use Rattle.py_grammar.specs.declared.role.Mark.TheVariants as m
use Rattle.py_grammar.specs.declared.role.Row.{Row}
use Rattle.py_grammar.specs.declared.role.Row.TheVariants as row
use Rattle.py_grammar.specs.Levels.{expression, disjunction, bitor, primary, atom, plain_level, star_level, role, makes, mark, mark_of, line, next}
use Rattle.py_grammar.specs.Lists.{params_in_order}
use Rattle.py_grammar.specs.Grammar.{Spells, Part, Parts, PartOf, Tail, Several, Run, RowOf, LoopOf, Comprehends, Params, IsSign, IsWord}
use Rattle.py_grammar.specs.Parse.{Parser, and_then, found, only, with_part, item, argument, argument_by, plain_argument, keyword, entry, pair, named, star_by, param, param_by, link, comparator, tail_from, run_from, row_behind, row_of, some_params, params, loop_clause, clause, clause_by, comprehension, comprehended, sees, sees_keyword, name, expect, expect_word, begins, begins_param, tall, pure, refuse}
use Rattle.py_grammar.specs.Laws.{Took}
use Rattle.py_grammar.proofs.Roles.{inner}
use Rattle.py_grammar.proofs.Lists.{joined, joined-nothing, joined-more}
use Rattle.py_grammar.proofs.Starts.{Fronted, begins_part}
use Rattle.py_grammar.proofs.PartsRead.{some_part}
use Rattle.py_grammar.proofs.Apart.{bind_some, chosen, guarded, parted, some_inj, given, Fronts, sign_kind, sign_front, word_front, sees_says, expect_says, expect_word_says, eaten, name_says, keyword_says, node, comparator_says}

-- tokens that were taken, where nothing behind them goes on at the level
pub record Ended {A : Type 0} (Spelled : ℕ → A → List Token → Type 0) (l d : ℕ) (i : List Token) (p : Found A × List Token) : Type 0 where
  pub used : List Token
  pub cut : i ≡ used ++ p.1
  pub tree : Spelled p.0.height p.0.tree used
  pub low : p.0.height ≤ d
  pub ends : makes (role (mark p.1)) < l

-- the parser of what lies below
abbrev pub Sound : (ℕ → ℕ → Parser (Found Expr)) → Type 0
Sound again = (l d : ℕ) → l ≤ atom → (i : List Token) (p : Found Expr × List Token) → again l d i ≡ Some p → Ended (Spells l) l d i p

pub ended : {A : Type 0} {S : ℕ → A → List Token → Type 0} {l d : ℕ} {i : List Token} {q p : Found A × List Token} → Ended S l d i q → ◌≡◌ {A = Option (Found A × List Token)} (Some q) (Some p) → Ended S l d i p
ended {A} {S} {l} {d} {i} t h = subst (λ r. Ended S l d i r) (some_inj h) t

pub took : {A : Type 0} {S : ℕ → A → List Token → Type 0} {l d : ℕ} {i : List Token} {p : Found A × List Token} → Ended S l d i p → Took S d i p
took t = record { used = t.used; cut = t.cut; tree = t.tree; low = t.low }

pub fronted_part : {p : Parts} {h : ℕ} {x : Part p} {us : List Token} → PartOf p h x us → Fronted us
fronted_part {p} {h} {x} {us} a = from us (some_part p us (begins_part a))
  where
    from : (us : List Token) → 0 < length us → Fronted us
    from [] some i = absurd (omega arith)
    from (t ∷ us) some i = refl

pub row_front : {r : Row} {at h : ℕ} {x : Expr} {ts : List Token} → RowOf r at h x ts → Fronted ts
row_front (RowOf.single a) i = fronted_part a i
row_front (RowOf.tuple {t = t} {xs = xs} {ys = ys} a b) i = ap line (append_assoc xs (t ∷ ys) i) ∙ fronted_part a (t ∷ (ys ++ i)) ∙ sym (fronted_part a (t ∷ ys))

-- a `for` clause is a loop
abbrev pub IsLoop : (q : Parts) → ℕ → Part q → List Token → Type 0
IsLoop Parts.clauses h (cl.For at x y) ts = LoopOf at h x y ts
IsLoop _ h c ts = Unit {0}

is_loop : {q : Parts} {h : ℕ} {c : Part q} {ts : List Token} → PartOf q h c ts → IsLoop q h c ts
is_loop (PartOf.loop a) = a
is_loop (PartOf.test t is a) = tt
is_loop (PartOf.item a) = tt
is_loop (PartOf.star_item t is a) = tt
is_loop (PartOf.argument a) = tt
is_loop (PartOf.star_argument t is a) = tt
is_loop (PartOf.keyword t u is eq a) = tt
is_loop (PartOf.merge_argument t is a) = tt
is_loop (PartOf.pair t a is c) = tt
is_loop (PartOf.merge_entry t is a) = tt
is_loop (PartOf.named t is) = tt
is_loop (PartOf.default t u is eq a) = tt
is_loop (PartOf.slash t is) = tt
is_loop (PartOf.bare_star t is) = tt
is_loop (PartOf.star_param t u is x) = tt
is_loop (PartOf.double_star t u is x) = tt
is_loop (PartOf.place a) = tt
is_loop (PartOf.link c a) = tt

loop_of : {at h : ℕ} {x y : Expr} {ts : List Token} → PartOf Parts.clauses h (cl.For at x y) ts → LoopOf at h x y ts
loop_of a = is_loop a

star_kind : (t : Token) → mark_of t.kind ≡ m.Sign s.Star → IsSign t s.Star
star_kind t h = sign_kind s.Star t.kind h

plain_atom : (r : Row) → plain_level r ≤ atom
plain_atom row.Expressions = omega arith
plain_atom row.Targets = omega arith

star_atom : (r : Row) → star_level r ≤ atom
star_atom row.Expressions = omega arith
star_atom row.Targets = omega arith

-- further parts, behind those that were there
pub record TookTail (q : Parts) (d : ℕ) (acc : Found (List (Part q))) (i : List Token) (r : Found (List (Part q)) × List Token) : Type 0 where
  pub used : List Token
  pub items : List (Part q)
  pub height : ℕ
  pub cut : i ≡ used ++ r.1
  pub same : r.0 ≡ joined acc items height
  pub spelled : Tail q height items used
  pub low : height ≤ d
  pub headed : sees s.Comma i ≡ true → (t : Token) × (ts : List Token) × (used ≡ t ∷ ts)

pub record TookRun (q : Parts) (d : ℕ) (acc : Found (List (Part q))) (i : List Token) (r : Found (List (Part q)) × List Token) : Type 0 where
  pub used : List Token
  pub items : List (Part q)
  pub height : ℕ
  pub cut : i ≡ used ++ r.1
  pub same : r.0 ≡ joined acc items height
  pub spelled : Run q height items used
  pub low : height ≤ d
  pub over : begins q (mark r.1) ≡ false
  pub ends : makes (role (mark r.1)) < inner q

module _ (again : ℕ → ℕ → Parser (Found Expr)) (sound : Sound again) (n : ℕ) where
  -- ---- parts

  pub item_sound : (r : Row) (d : ℕ) (i : List Token) (p : Found (Item Expr) × List Token) → item again n r d i ≡ Some p → Took (PartOf (Parts.items r)) d i p
  unfolding item
  item_sound r d i p h =
      elim (chosen (sees s.Star i) _ _ _ h) [
        | inl star ↦
            let f = sees_says s.Star i star.0 in
            let b = bind_some (again (star_level r) d (next i)) _ p star.1 in
            let x = b.0 in
            let t = sound (star_level r) d (star_atom r) (next i) (x, b.1) b.2 in
            given (record { used = f.token ∷ t.used; cut = f.cut ∙ ap (λ l. f.token ∷ l) t.cut; tree = subst (λ l. PartOf (Parts.items r) x.height (it.Star l x.tree) (f.token ∷ t.used)) (sym (ap line f.cut)) (PartOf.star_item f.token f.is t.tree); low = t.low }) b.3
        | inr plain ↦
            let b = bind_some (again (plain_level r) d i) _ p plain.1 in
            let x = b.0 in
            let t = sound (plain_level r) d (plain_atom r) i (x, b.1) b.2 in
            given (record { used = t.used; cut = t.cut; tree = PartOf.item t.tree; low = t.low }) b.3
      ]

  keyword_sound : (d : ℕ) (i : List Token) (p : Found (Argument Expr) × List Token) → sees_keyword i ≡ true → keyword again n d i ≡ Some p → Took (PartOf Parts.arguments) d i p
  unfolding keyword
  keyword_sound d i p seen h =
      let b = bind_some (name i) _ p h in
      let f = name_says i (b.0, b.1) b.2 in
      let g = keyword_says i b.1 b.0 seen f in
      let c = bind_some (again expression d (next b.1)) _ p b.3 in
      let x = c.0 in
      let t = sound expression d (omega arith) (next b.1) (x, c.1) c.2 in
      given (record {
        used = f.token ∷ g.token ∷ t.used;
        cut = f.cut ∙ ap (λ l. f.token ∷ l) (g.cut ∙ ap (λ l. g.token ∷ l) t.cut);
        tree = subst (λ l. PartOf Parts.arguments x.height (ar.Keyword l b.0 x.tree) (f.token ∷ g.token ∷ t.used)) (sym (ap line f.cut)) (PartOf.keyword f.token g.token f.is g.is t.tree);
        low = t.low;
      }) c.3

  plain_argument_sound : (d : ℕ) (i : List Token) (p : Found (Argument Expr) × List Token) → plain_argument again n d i ≡ Some p → Took (PartOf Parts.arguments) d i p
  plain_argument_sound d i p h =
      elim (chosen (sees_keyword i) _ _ _ h) [
        | inl key ↦ keyword_sound d i p key.0 key.1
        | inr plain ↦
            let b = bind_some (again expression d i) _ p plain.1 in
            let x = b.0 in
            let t = sound expression d (omega arith) i (x, b.1) b.2 in
            given (record { used = t.used; cut = t.cut; tree = PartOf.argument t.tree; low = t.low }) b.3
      ]

  argument_by_sound : (d : ℕ) (q : Mark) (i : List Token) (p : Found (Argument Expr) × List Token) → mark i ≡ q → argument_by again n d q i ≡ Some p → Took (PartOf Parts.arguments) d i p
  argument_by_sound d (m.Sign s.Star) i p is h =
      let f = sign_front s.Star i is in
      let b = bind_some (again expression d (next i)) _ p h in
      let x = b.0 in
      let t = sound expression d (omega arith) (next i) (x, b.1) b.2 in
      given (record { used = f.token ∷ t.used; cut = f.cut ∙ ap (λ l. f.token ∷ l) t.cut; tree = PartOf.star_argument f.token f.is t.tree; low = t.low }) b.3
  argument_by_sound d (m.Sign s.DoubleStar) i p is h =
      let f = sign_front s.DoubleStar i is in
      let b = bind_some (again expression d (next i)) _ p h in
      let x = b.0 in
      let t = sound expression d (omega arith) (next i) (x, b.1) b.2 in
      given (record { used = f.token ∷ t.used; cut = f.cut ∙ ap (λ l. f.token ∷ l) t.cut; tree = PartOf.merge_argument f.token f.is t.tree; low = t.low }) b.3
  argument_by_sound d _ i p is h = plain_argument_sound d i p h

  pub argument_sound : (d : ℕ) (i : List Token) (p : Found (Argument Expr) × List Token) → argument again n d i ≡ Some p → Took (PartOf Parts.arguments) d i p
  unfolding argument
  argument_sound d i p h = argument_by_sound d (mark i) i p refl h

  pub entry_sound : (d : ℕ) (i : List Token) (p : Found (Entry Expr) × List Token) → entry again n d i ≡ Some p → Took (PartOf Parts.entries) d i p
  unfolding entry pair
  entry_sound d i p h =
      elim (chosen (sees s.DoubleStar i) _ _ _ h) [
        | inl merge ↦
            let f = sees_says s.DoubleStar i merge.0 in
            let b = bind_some (again bitor d (next i)) _ p merge.1 in
            let x = b.0 in
            let t = sound bitor d (omega arith) (next i) (x, b.1) b.2 in
            given (record { used = f.token ∷ t.used; cut = f.cut ∙ ap (λ l. f.token ∷ l) t.cut; tree = PartOf.merge_entry f.token f.is t.tree; low = t.low }) b.3
        | inr both ↦
            let b = bind_some (again expression d i) _ p both.1 in
            let x = b.0 in
            let t = sound expression d (omega arith) i (x, b.1) b.2 in
            let c = bind_some (expect s.Colon b.1) _ p b.3 in
            let f = expect_says s.Colon b.1 (c.0, c.1) c.2 in
            let a = bind_some (again expression d c.1) _ p c.3 in
            let y = a.0 in
            let u = sound expression d (omega arith) c.1 (y, a.1) a.2 in
            given (record {
              used = t.used ++ f.token ∷ u.used;
              cut = t.cut ∙ ap (λ l. t.used ++ l) (f.cut ∙ ap (λ l. f.token ∷ l) u.cut) ∙ sym (append_assoc t.used (f.token ∷ u.used) a.1);
              tree = PartOf.pair f.token t.tree f.is u.tree;
              low = omega (arith, t.low, u.low);
            }) a.3
      ]

  named_sound : (d : ℕ) (i : List Token) (p : Found (Param Expr) × List Token) → named again n d i ≡ Some p → Took (PartOf Parts.params) d i p
  unfolding named
  named_sound d i p h =
      let b = bind_some (name i) _ p h in
      let f = name_says i (b.0, b.1) b.2 in
      elim (eaten s.Equal _ _ b.1 p b.3) [
        | inl has ↦
            let g = has.0 in
            let c = bind_some (again expression d (next b.1)) _ p has.1 in
            let x = c.0 in
            let t = sound expression d (omega arith) (next b.1) (x, c.1) c.2 in
            given (record {
              used = f.token ∷ g.token ∷ t.used;
              cut = f.cut ∙ ap (λ l. f.token ∷ l) (g.cut ∙ ap (λ l. g.token ∷ l) t.cut);
              tree = subst (λ l. PartOf Parts.params x.height (pa.Named l b.0 (Some x.tree)) (f.token ∷ g.token ∷ t.used)) (sym (ap line f.cut)) (PartOf.default f.token g.token f.is g.is t.tree);
              low = t.low;
            }) c.3
        | inr bare ↦ given (record { used = f.token ∷ []; cut = f.cut; tree = subst (λ l. PartOf Parts.params 0 (pa.Named l b.0 None) (f.token ∷ [])) (sym (ap line f.cut)) (PartOf.named f.token f.is); low = omega arith }) bare.1
      ]

  star_sound : (d : ℕ) (t : Token) (q : Mark) (i : List Token) (p : Found (Param Expr) × List Token) → IsSign t s.Star → star_by again n t.line q i ≡ Some p → Took (PartOf Parts.params) d (t ∷ i) p
  star_sound d t m.Name i p is h =
      let b = bind_some (name i) _ p h in
      let f = name_says i (b.0, b.1) b.2 in
      given (record { used = t ∷ f.token ∷ []; cut = ap (λ l. t ∷ l) f.cut; tree = PartOf.star_param t f.token is f.is; low = omega arith }) b.3
  star_sound d t _ i p is h = given (record { used = t ∷ []; cut = refl; tree = PartOf.bare_star t is; low = omega arith }) h

  param_by_sound : (d : ℕ) (q : Mark) (i : List Token) (p : Found (Param Expr) × List Token) → mark i ≡ q → param_by again n d q i ≡ Some p → Took (PartOf Parts.params) d i p
  param_by_sound d m.Name i p is h = named_sound d i p h
  param_by_sound d (m.Sign s.Slash) i p is h =
      let f = sign_front s.Slash i is in
      given (record { used = f.token ∷ []; cut = f.cut; tree = subst (λ l. PartOf Parts.params 0 (pa.Slash l) (f.token ∷ [])) (sym (ap line f.cut)) (PartOf.slash f.token f.is); low = omega arith }) h
  param_by_sound d (m.Sign s.Star) [] p is h = cc
  param_by_sound d (m.Sign s.Star) (t ∷ i) p is h = star_sound d t (mark i) i p (star_kind t is) h
  param_by_sound d (m.Sign s.DoubleStar) i p is h =
      let f = sign_front s.DoubleStar i is in
      let b = bind_some (name (next i)) _ p h in
      let g = name_says (next i) (b.0, b.1) b.2 in
      given (record { used = f.token ∷ g.token ∷ []; cut = f.cut ∙ ap (λ l. f.token ∷ l) g.cut; tree = subst (λ l. PartOf Parts.params 0 (pa.DoubleStar l b.0) (f.token ∷ g.token ∷ [])) (sym (ap line f.cut)) (PartOf.double_star f.token g.token f.is g.is); low = omega arith }) b.3
  param_by_sound d _ i p is h = cc

  pub param_sound : (d : ℕ) (i : List Token) (p : Found (Param Expr) × List Token) → param again n d i ≡ Some p → Took (PartOf Parts.params) d i p
  unfolding param
  param_sound d i p h = param_by_sound d (mark i) i p refl h

  pub link_sound : (d : ℕ) (i : List Token) (p : Found (Link Expr) × List Token) → link again n d i ≡ Some p → Ended (PartOf Parts.links) bitor d i p
  unfolding link
  link_sound d i p h =
      let b = bind_some (comparator i) _ p h in
      let c = comparator_says i (b.0, b.1) b.2 in
      let a = bind_some (again bitor d b.1) _ p b.3 in
      let x = a.0 in
      let t = sound bitor d (omega arith) b.1 (x, a.1) a.2 in
      ended (record {
        used = c.used ++ t.used;
        cut = c.cut ∙ ap (λ l. c.used ++ l) t.cut ∙ sym (append_assoc c.used t.used a.1);
        tree = PartOf.link c.is t.tree;
        low = t.low;
        ends = t.ends;
      }) a.3

  -- ---- lists

  pub tail_sound : (q : Parts) (read : ℕ → Parser (Found (Part q))) (d : ℕ) → ((i : List Token) (r : Found (Part q) × List Token) → read d i ≡ Some r → Took (PartOf q) d i r)
      → (turns : ℕ) (acc : Found (List (Part q))) (i : List Token) (r : Found (List (Part q)) × List Token) → tail_from again n q read d turns acc i ≡ Some r → TookTail q d acc i r
  unfolding tail_from
  tail_sound q read d reads zero acc i r h = cc
  tail_sound q read d reads (suc turns) acc i r h =
      elim (eaten s.Comma _ _ i r h) [
        | inl comma ↦
            let f = comma.0 in
            elim (chosen (begins q (mark (next i))) _ _ _ comma.1) [
              | inl going ↦
                  let b = bind_some (read d (next i)) _ r going.1 in
                  let x = b.0 in
                  let t = reads (next i) (x, b.1) b.2 in
                  let others = tail_sound q read d reads turns (with_part acc x) b.1 r b.3 in
                  record {
                    used = f.token ∷ t.used ++ others.used;
                    items = x.tree ∷ others.items;
                    height = max x.height others.height;
                    cut = f.cut ∙ ap (λ l. f.token ∷ l) (t.cut ∙ ap (λ l. t.used ++ l) others.cut ∙ sym (append_assoc t.used others.used r.1));
                    same = others.same ∙ joined-more acc x.tree x.height others.height others.items;
                    spelled = Tail.more f.token f.is t.tree others.spelled;
                    low = omega (arith, t.low, others.low);
                    headed = λ _. (f.token, t.used ++ others.used, refl);
                  }
              | inr over ↦
                  let same = some_inj over.1 in
                  record {
                    used = f.token ∷ [];
                    items = [];
                    height = 0;
                    cut = f.cut ∙ ap (λ r. f.token ∷ r.1) same;
                    same = sym (ap (λ r. r.0) same) ∙ joined-nothing acc;
                    spelled = Tail.trailing f.token f.is;
                    low = omega arith;
                    headed = λ _. (f.token, [], refl);
                  }
            ]
        | inr over ↦
            let same = some_inj over.1 in
            record {
              used = [];
              items = [];
              height = 0;
              cut = ap (λ r. r.1) same;
              same = sym (ap (λ r. r.0) same) ∙ joined-nothing acc;
              spelled = Tail.done;
              low = omega arith;
              headed = λ seen. absurd (let e : true ≡ false = sym seen ∙ over.0 in cc);
            }
      ]

  pub run_sound : (q : Parts) (read : ℕ → Parser (Found (Part q))) (d : ℕ) → ((i : List Token) (r : Found (Part q) × List Token) → read d i ≡ Some r → Ended (PartOf q) (inner q) d i r)
      → (turns : ℕ) (acc : Found (List (Part q))) (i : List Token) (r : Found (List (Part q)) × List Token) → makes (role (mark i)) < inner q → run_from again n q read d turns acc i ≡ Some r → TookRun q d acc i r
  unfolding run_from
  run_sound q read d reads zero acc i r ends h = cc
  run_sound q read d reads (suc turns) acc i r ends h =
      elim (chosen (begins q (mark i)) _ _ _ h) [
        | inl going ↦
            let b = bind_some (read d i) _ r going.1 in
            let x = b.0 in
            let t = reads i (x, b.1) b.2 in
            let others = run_sound q read d reads turns (with_part acc x) b.1 r t.ends b.3 in
            record {
              used = t.used ++ others.used;
              items = x.tree ∷ others.items;
              height = max x.height others.height;
              cut = t.cut ∙ ap (λ l. t.used ++ l) others.cut ∙ sym (append_assoc t.used others.used r.1);
              same = others.same ∙ joined-more acc x.tree x.height others.height others.items;
              spelled = Run.further t.tree others.spelled;
              low = omega (arith, t.low, others.low);
              over = others.over;
              ends = others.ends;
            }
        | inr over ↦
            let same = some_inj over.1 in
            let here = ap (λ r. r.1) same in
            record {
              used = [];
              items = [];
              height = 0;
              cut = here;
              same = sym (ap (λ r. r.0) same) ∙ joined-nothing acc;
              spelled = Run.over;
              low = omega arith;
              over = ap (λ l. begins q (mark l)) (sym here) ∙ over.0;
              ends = subst (λ l. makes (role (mark l)) < inner q) here ends;
            }
      ]

  -- what stands behind a first item
  pub row_behind_sound : (at : ℕ) (r : Row) (d : ℕ) (x : Found (Item Expr)) (us i : List Token) (p : Found Expr × List Token) → PartOf (Parts.items r) x.height x.tree us → x.height ≤ d
      → row_behind again n at r d x i ≡ Some p → Took (RowOf r at) d (us ++ i) p
  unfolding row_behind
  row_behind_sound at r d x us i p a below h =
      elim (chosen (sees s.Comma i) _ _ _ h) [
        | inl comma ↦
            let b = bind_some (tail_from again n (Parts.items r) (item again n r) (d - 1) n (only x) i) _ p comma.1 in
            let t = tail_sound (Parts.items r) (item again n r) (d - 1) (item_sound r (d - 1)) n (only x) i (b.0, b.1) b.2 in
            let head = t.headed comma.0 in
            let items_are = ap (λ f. f.tree) t.same in
            let height_is = ap (λ f. f.height) t.same in
            node d (us ++ i) b.0.height (e.Tuple at b.0.tree) b.1 p b.3 (λ low. record {
              used = us ++ head.0 ∷ head.1;
              cut = ap (λ l. us ++ l) (t.cut ∙ ap (λ l. l ++ b.1) head.2) ∙ sym (append_assoc us (head.0 ∷ head.1) b.1);
              tree = rw (items_are, height_is) (RowOf.tuple a (subst (λ l. Tail (Parts.items r) t.height t.items l) head.2 t.spelled));
              low = low;
            })
        | inr single ↦ given (record { used = us; cut = refl; tree = RowOf.single a; low = below }) single.1
      ]

  pub row_sound : (at : ℕ) (r : Row) (d : ℕ) (i : List Token) (p : Found Expr × List Token) → row_of again n at r d i ≡ Some p → Took (RowOf r at) d i p
  unfolding row_of
  row_sound at r d i p h =
      let b = bind_some (item again n r d i) _ p h in
      let x = b.0 in
      let t = item_sound r d i (x, b.1) b.2 in
      subst (λ l. Took (RowOf r at) d l p) (sym t.cut) (row_behind_sound at r d x t.used b.1 p t.tree t.low b.3)

  some_params_sound : (d : ℕ) (i : List Token) (p : Found (List (Param Expr)) × List Token) → some_params again n d i ≡ Some p → Took (Several Parts.params) d i p
  unfolding some_params
  some_params_sound d i p h =
      elim (chosen (begins_param (mark i)) _ _ _ h) [
        | inl going ↦
            let b = bind_some (param again n d i) _ p going.1 in
            let x = b.0 in
            let t = param_sound d i (x, b.1) b.2 in
            let u = tail_sound Parts.params (param again n) d (param_sound d) n (only x) b.1 p b.3 in
            subst (λ r. Took (Several Parts.params) d i (r, p.1)) (sym u.same) (record {
              used = t.used ++ u.used;
              cut = t.cut ∙ ap (λ l. t.used ++ l) u.cut ∙ sym (append_assoc t.used u.used p.1);
              tree = Several.parts t.tree u.spelled;
              low = omega (arith, t.low, u.low);
            })
        | inr nothing ↦ given (record { used = []; cut = refl; tree = Several.empty; low = omega arith }) nothing.1
      ]

  pub params_sound : (d : ℕ) (i : List Token) (p : Found (List (Param Expr)) × List Token) → params again n d i ≡ Some p → Took Params d i p
  unfolding params
  params_sound d i p h =
      let b = bind_some (some_params again n d i) _ p h in
      let t = some_params_sound d i (b.0, b.1) b.2 in
      elim (parted (params_in_order b.0.tree) _ _ b.1 p b.3) [
        | inl order ↦ given (record { used = t.used; cut = t.cut; tree = Params.params t.tree order.0; low = t.low }) order.1
        | inr wrong ↦ cc (wrong.1)
      ]

  -- ---- comprehensions

  pub loop_sound : (d : ℕ) (i : List Token) (p : Found (Clause Expr) × List Token) → mark i ≡ m.Keyword w.For → loop_clause again n d i ≡ Some p → Ended (PartOf Parts.clauses) disjunction d i p
  unfolding loop_clause
  loop_sound d i p is h =
      let f = word_front w.For i is in
      let b = bind_some (row_of again n (line (next i)) row.Targets d (next i)) _ p h in
      let x = b.0 in
      let t = row_sound (line (next i)) row.Targets d (next i) (x, b.1) b.2 in
      let c = bind_some (expect_word w.In b.1) _ p b.3 in
      let g = expect_word_says w.In b.1 (c.0, c.1) c.2 in
      let a = bind_some (again disjunction d c.1) _ p c.3 in
      let y = a.0 in
      let u = sound disjunction d (omega arith) c.1 (y, a.1) a.2 in
      let same_line : line (next i) ≡ line t.used = ap line t.cut ∙ row_front t.tree b.1 in
      ended (record {
        used = f.token ∷ t.used ++ g.token ∷ u.used;
        cut = f.cut ∙ ap (λ l. f.token ∷ l) (t.cut ∙ ap (λ l. t.used ++ l) (g.cut ∙ ap (λ l. g.token ∷ l) u.cut) ∙ sym (append_assoc t.used (g.token ∷ u.used) a.1));
        tree = subst (λ l. PartOf Parts.clauses (max x.height y.height) (cl.For l x.tree y.tree) (f.token ∷ t.used ++ g.token ∷ u.used)) (sym (ap line f.cut)) (PartOf.loop (LoopOf.ranges f.token g.token f.is (subst (λ k. RowOf row.Targets k x.height x.tree t.used) same_line t.tree) g.is u.tree));
        low = omega (arith, t.low, u.low);
        ends = u.ends;
      }) a.3

  clause_by_sound : (d : ℕ) (q : Mark) (i : List Token) (p : Found (Clause Expr) × List Token) → mark i ≡ q → clause_by again n d q i ≡ Some p → Ended (PartOf Parts.clauses) disjunction d i p
  clause_by_sound d (m.Keyword w.For) i p is h = loop_sound d i p is h
  clause_by_sound d (m.Keyword w.If) i p is h =
      let f = word_front w.If i is in
      let b = bind_some (again disjunction d (next i)) _ p h in
      let x = b.0 in
      let t = sound disjunction d (omega arith) (next i) (x, b.1) b.2 in
      ended (record { used = f.token ∷ t.used; cut = f.cut ∙ ap (λ l. f.token ∷ l) t.cut; tree = subst (λ l. PartOf Parts.clauses x.height (cl.If l x.tree) (f.token ∷ t.used)) (sym (ap line f.cut)) (PartOf.test f.token f.is t.tree); low = t.low; ends = t.ends }) b.3
  clause_by_sound d _ i p is h = cc

  pub clause_sound : (d : ℕ) (i : List Token) (p : Found (Clause Expr) × List Token) → clause again n d i ≡ Some p → Ended (PartOf Parts.clauses) disjunction d i p
  unfolding clause
  clause_sound d i p h = clause_by_sound d (mark i) i p refl h

  comprehended_sound : (d h : ℕ) (c : Clause Expr) (us i : List Token) (p : Found (Clauses Expr) × List Token) → PartOf Parts.clauses h c us → h ≤ d → makes (role (mark i)) < disjunction
      → comprehended again n d h c i ≡ Some p → Took Comprehends d (us ++ i) p
  comprehended_sound d h (cl.For at x y) us i p a below ends e =
      let b = bind_some (run_from again n Parts.clauses (clause again n) d n (found [] 0) i) _ p e in
      let t = run_sound Parts.clauses (clause again n) d (clause_sound d) n (found [] 0) i (b.0, b.1) ends b.2 in
      let items_are = ap (λ f. f.tree) t.same in
      let height_is : b.0.height ≡ t.height = ap (λ f. f.height) t.same ∙ (omega arith) in
      given (record {
        used = us ++ t.used;
        cut = ap (λ l. us ++ l) t.cut ∙ sym (append_assoc us t.used b.1);
        tree = rw (items_are, height_is) (Comprehends.comprehension (loop_of a) t.spelled);
        low = omega (arith, height_is, t.low);
      }) b.3
  comprehended_sound d h (cl.If at x) us i p a below ends e = cc

  pub comprehension_sound : (d : ℕ) (i : List Token) (p : Found (Clauses Expr) × List Token) → comprehension again n d i ≡ Some p → Took Comprehends d i p
  unfolding comprehension
  comprehension_sound d i p h =
      let b = bind_some (clause again n d i) _ p h in
      let t = clause_sound d i (b.0, b.1) b.2 in
      subst (λ l. Took Comprehends d l p) (sym t.cut) (comprehended_sound d b.0.height b.0.tree t.used b.1 p t.tree t.low t.ends b.3)
