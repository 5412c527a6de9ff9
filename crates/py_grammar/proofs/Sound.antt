-- What is read is spelled so.
use Rattle.std.proofs.Common.{◌≡◌, ◌≢◌, ◌⊎◌, ℕ, zero, suc, ◌+◌, ◌-◌, max, ◌<◌, ◌≤◌, Bool, true, false, cond, nat_lt, List, [], ◌∷◌, ◌++◌, length, Option, Some, None, refl, ap, ◌∙◌, sym, subst, arith, append_assoc, append-nil, le_refl, le_trans, inl, inr}
use Rattle.std.proofs.lemmas.Bool.{ltb-true, ltb-false}
use Rattle.py_ast.specs.declared.token.Token.{Token}
use Rattle.py_ast.specs.declared.token.TokenKind.{TokenKind}
use Rattle.py_ast.specs.declared.token.TokenKind.TheVariants as k
use Rattle.py_ast.specs.declared.spelled.Word.TheVariants as w
use Rattle.py_ast.specs.declared.spelled.Sign.TheVariants as s
use Rattle.py_ast.specs.declared.expr.Unary.{Unary}
use Rattle.py_ast.specs.declared.expr.Unary.TheVariants as unary
use Rattle.py_ast.specs.declared.expr.Binary.TheVariants as binary
use Rattle.py_ast.specs.declared.expr.Expr.{Expr}
use Rattle.py_ast.specs.declared.expr.Expr.TheVariants as e
use Rattle.py_grammar.specs.declared.found.Found.{Found}
use Rattle.py_grammar.specs.declared.role.Mark.{Mark}
use Rattle.py_grammar.specs.declared.role.Mark.TheVariants as m
use Rattle.py_grammar.specs.declared.role.Chain.{Chain}
use Rattle.py_grammar.specs.declared.role.Operator.{Operator}
use Rattle.py_grammar.specs.declared.role.Role.{Role}
use Rattle.py_grammar.specs.declared.role.Role.TheVariants as r
use Rattle.py_grammar.specs.declared.role.Bracket.{Bracket}
use Rattle.py_grammar.specs.declared.role.Bracket.TheVariants as b
use Rattle.py_grammar.specs.Levels.{expression, disjunction, negation, comparison, bitor, signed, power, primary, atom, level_of, role, makes, wants, mark, mark_of, line, next, sign_of, opening, closing}
use Rattle.py_grammar.specs.Grammar.{Spells, Leaf, Texts, Parts, PartOf, Inside, Arguments, Subscripts, IsSign, IsWord, combined}
use Rattle.py_grammar.specs.Parse.{Parser, and_then, found, only, link, run_from, arguments, subscripts, params, inside, bracketed, conditional, call, index, compare, operated, operation, lambda, negated, under, prefix, prefix_by, climb, level, parse, name, number, texts_from, expect, expect_word, tall, pure, refuse, is_comparison}
use Rattle.py_grammar.specs.Laws.{Took}
use Rattle.py_grammar.proofs.Roles.{gap, levels}
use Rattle.py_grammar.proofs.Starts.{begins_with, fronted}
use Rattle.py_grammar.proofs.OperationsRead.{texts_mark}
use Rattle.py_grammar.proofs.Apart.{bind_some, chosen, guarded, parted, some_inj, Fronts, sign_kind, sign_front, word_front, expect_says, expect_word_says, name_says, number_says, texts_says, tall_says}
use Rattle.py_grammar.proofs.PartsSpelled.{Sound, Ended, link_sound, run_sound, params_sound}
use Rattle.py_grammar.proofs.BracketsSpelled.{inside_sound, arguments_sound, subscripts_sound}

-- ---- what goes on behind a level

behind_chain : (c : Chain) (q : Role) → makes q < level_of c + 1 → 0 < makes q → wants q ≤ level_of c
behind_chain c q h some = grind (arith, gap q, levels c)

behind_signed : (q : Role) → makes q < signed → 0 < makes q → wants q ≤ signed
behind_signed q h some = grind (arith, gap q)

behind_negation : (q : Role) → makes q < negation → 0 < makes q → wants q ≤ negation
behind_negation q h some = grind (arith, gap q)

behind_expression : (q : Role) → makes q < expression → 0 < makes q → wants q ≤ expression
behind_expression q h some = absurd (omega arith)

behind_comparison : (q : Role) → makes q < bitor → is_comparison q ≡ false → 0 < makes q → wants q ≤ comparison
behind_comparison r.Ends h other some = absurd (omega arith)
behind_comparison r.Literal h other some = absurd (omega arith)
behind_comparison r.Condition h other some = omega arith
behind_comparison r.Compares h other some = cc
behind_comparison (r.Infix c o) h other some = grind (arith, levels c)
behind_comparison r.Power h other some = absurd (omega arith)
behind_comparison r.Call h other some = absurd (omega arith)
behind_comparison r.Index h other some = absurd (omega arith)
behind_comparison r.Attribute h other some = absurd (omega arith)

small : (c : Chain) → level_of c + 1 ≤ atom
small c = grind (arith, levels c)

positive : (c : Chain) → 0 < level_of c
positive c = grind (arith, levels c)

always : (q : Role) → 0 < makes q → wants q ≤ primary
always r.Ends h = absurd (omega arith)
always r.Literal h = absurd (omega arith)
always r.Condition h = omega arith
always r.Compares h = omega arith
always (r.Infix c o) h = grind (arith, levels c)
always r.Power h = omega arith
always r.Call h = omega arith
always r.Index h = omega arith
always r.Attribute h = omega arith

-- ---- the one token of a role

power_says : (q : Mark) → role q ≡ r.Power → q ≡ m.Sign s.DoubleStar
power_says (m.Sign s.DoubleStar) h = refl
power_says (m.Keyword w.If) h = cc
power_says _ h = cc

condition_says : (q : Mark) → role q ≡ r.Condition → q ≡ m.Keyword w.If
condition_says (m.Keyword w.If) h = refl
condition_says (m.Sign s.DoubleStar) h = cc
condition_says _ h = cc

call_says : (q : Mark) → role q ≡ r.Call → q ≡ m.Sign s.LeftParen
call_says (m.Sign s.LeftParen) h = refl
call_says (m.Keyword w.If) h = cc
call_says _ h = cc

index_says : (q : Mark) → role q ≡ r.Index → q ≡ m.Sign s.LeftBracket
index_says (m.Sign s.LeftBracket) h = refl
index_says (m.Keyword w.If) h = cc
index_says _ h = cc

attribute_says : (q : Mark) → role q ≡ r.Attribute → q ≡ m.Sign s.Dot
attribute_says (m.Sign s.Dot) h = refl
attribute_says (m.Keyword w.If) h = cc
attribute_says _ h = cc

-- ---- what was read

-- tokens that were read behind others, with a tree over all of them, at a level that is at least this one
pub record Grown (least d : ℕ) (us i : List Token) (p : Found Expr × List Token) : Type 0 where
  pub level : ℕ
  pub within : least ≤ level
  pub used : List Token
  pub cut : i ≡ used ++ p.1
  pub tree : Spells level p.0.height p.0.tree (us ++ used)
  pub low : p.0.height ≤ d
  pub takes : 0 < makes (role (mark p.1)) → wants (role (mark p.1)) ≤ level

-- the same where no operation of the level follows
pub record Climbed (l d : ℕ) (us i : List Token) (p : Found Expr × List Token) : Type 0 where
  pub used : List Token
  pub cut : i ≡ used ++ p.1
  pub tree : Spells l p.0.height p.0.tree (us ++ used)
  pub low : p.0.height ≤ d
  pub ends : makes (role (mark p.1)) < l

grown : (least d : ℕ) (us i : List Token) (q p : Found Expr × List Token) → Grown least d us i q → ◌≡◌ {A = Option (Found Expr × List Token)} (Some q) (Some p) → Grown least d us i p
grown least d us i q p t h = subst (λ r. Grown least d us i r) (some_inj h) t

-- the tree that a node was made into, at the tokens behind it
node : (least d : ℕ) (us i : List Token) (h : ℕ) (x : Expr) (j : List Token) (p : Found Expr × List Token) → tall d h x j ≡ Some p → (h + 1 ≤ d → Grown least d us i (found x (h + 1), j)) → Grown least d us i p
node least d us i h x j p e made = let t = tall_says d h x j p e in grown least d us i (found x (h + 1), j) p (made t.1) t.0

regroup : {l h : ℕ} {x : Expr} (us vs ws : List Token) → Spells l h x (us ++ vs ++ ws) → Spells l h x (us ++ (vs ++ ws))
regroup {l} {h} {x} us vs ws a = subst (λ ts. Spells l h x ts) (append_assoc us vs ws) a

text_tree : (at : ℕ) (joined text : List ℕ) (used : List Token) → at ≡ line used → joined ≡ text → Texts text used → Spells atom 1 (e.Text at joined) used
text_tree at joined text used lines same a = subst (λ l. Spells atom 1 (e.Text l joined) used) (sym lines) (subst (λ x. Spells atom 1 (e.Text (line used) x) used) (sym same) (Spells.text a))

module _ (again : ℕ → ℕ → Parser (Found Expr)) (sound : Sound again) (n d : ℕ) where
  infix_sound : (c : Chain) (o : Operator) (left : Found Expr) (us i : List Token) (p : Found Expr × List Token) → role (mark i) ≡ r.Infix c o → Spells (level_of c) left.height left.tree us
      → operated again n (line us) d left (r.Infix c o) i ≡ Some p → Grown (level_of c) d us i p
  infix_sound c o left us [] p is tree h = cc
  infix_sound c o left us (t ∷ i) p is tree h =
      let v = bind_some (again (level_of c + 1) (d - 1) i) _ p h in
      let x = v.0 in
      let a = sound (level_of c + 1) (d - 1) (small c) i (x, v.1) v.2 in
      node _ d us (t ∷ i) (max left.height x.height) (combined (line us) o left.tree x.tree) v.1 p v.3 (λ low. record {
        level = level_of c;
        within = le_refl (level_of c);
        used = t ∷ a.used;
        cut = ap (λ l. t ∷ l) a.cut;
        tree = Spells.operates t tree is a.tree;
        low = low;
        takes = behind_chain c (role (mark v.1)) a.ends;
      })

  power_sound : (left : Found Expr) (us i : List Token) (p : Found Expr × List Token) → mark i ≡ m.Sign s.DoubleStar → Spells primary left.height left.tree us
      → operated again n (line us) d left r.Power i ≡ Some p → Grown power d us i p
  power_sound left us [] p is tree h = cc
  power_sound left us (t ∷ i) p is tree h =
      let v = bind_some (again signed (d - 1) i) _ p h in
      let x = v.0 in
      let a = sound signed (d - 1) (omega arith) i (x, v.1) v.2 in
      node _ d us (t ∷ i) (max left.height x.height) (e.Binary (line us) binary.Power left.tree x.tree) v.1 p v.3 (λ low. record {
        level = power;
        within = le_refl power;
        used = t ∷ a.used;
        cut = ap (λ l. t ∷ l) a.cut;
        tree = Spells.raises t tree (sign_kind s.DoubleStar t.kind is) a.tree;
        low = low;
        takes = λ some. let far = behind_signed (role (mark v.1)) a.ends some in omega arith;
      })

  compare_sound : (left : Found Expr) (us i : List Token) (p : Found Expr × List Token) → Spells bitor left.height left.tree us → compare again n (line us) d left i ≡ Some p → Grown comparison d us i p
  unfolding compare
  compare_sound left us i p tree h =
      let v = bind_some (link again n (d - 1) i) _ p h in
      let x = v.0 in
      let a = link_sound again sound n (d - 1) i (x, v.1) v.2 in
      let u = bind_some (run_from again n Parts.links (link again n) (d - 1) n (only x) v.1) _ p v.3 in
      let c = run_sound again sound n Parts.links (link again n) (d - 1) (link_sound again sound n (d - 1)) n (only x) v.1 (u.0, u.1) a.ends u.2 in
      let links_are = ap (λ f. f.tree) c.same in
      let height_is = ap (λ f. f.height) c.same in
      node _ d us i (max left.height u.0.height) (e.Compare (line us) left.tree u.0.tree) u.1 p u.3 (λ low. record {
        level = comparison;
        within = le_refl comparison;
        used = a.used ++ c.used;
        cut = a.cut ∙ ap (λ l. a.used ++ l) c.cut ∙ sym (append_assoc a.used c.used u.1);
        tree = rw (links_are, height_is) (regroup us a.used c.used (Spells.compares tree a.tree c.spelled));
        low = low;
        takes = behind_comparison (role (mark u.1)) c.ends c.over;
      })

  condition_sound : (left : Found Expr) (us i : List Token) (p : Found Expr × List Token) → mark i ≡ m.Keyword w.If → Spells disjunction left.height left.tree us → conditional again n (line us) d left i ≡ Some p → Grown expression d us i p
  unfolding conditional
  condition_sound left us i p is tree h =
      let f = word_front w.If i is in
      let v = bind_some (again disjunction (d - 1) (next i)) _ p h in
      let x = v.0 in
      let a = sound disjunction (d - 1) (omega arith) (next i) (x, v.1) v.2 in
      let u = bind_some (expect_word w.Else v.1) _ p v.3 in
      let g = expect_word_says w.Else v.1 (u.0, u.1) u.2 in
      let q = bind_some (again expression (d - 1) u.1) _ p u.3 in
      let y = q.0 in
      let c = sound expression (d - 1) (omega arith) u.1 (y, q.1) q.2 in
      node _ d us i (max left.height (max x.height y.height)) (e.Conditional (line us) x.tree left.tree y.tree) q.1 p q.3 (λ low. record {
        level = expression;
        within = le_refl expression;
        used = f.token ∷ (a.used ++ (g.token ∷ c.used));
        cut = f.cut ∙ ap (λ l. f.token ∷ l) (a.cut ∙ ap (λ l. a.used ++ l) (g.cut ∙ ap (λ l. g.token ∷ l) c.cut) ∙ sym (append_assoc a.used (g.token ∷ c.used) q.1));
        tree = regroup us (f.token ∷ a.used) (g.token ∷ c.used) (Spells.condition f.token g.token tree f.is a.tree g.is c.tree);
        low = low;
        takes = behind_expression (role (mark q.1)) c.ends;
      })

  call_sound : (left : Found Expr) (us i : List Token) (p : Found Expr × List Token) → mark i ≡ m.Sign s.LeftParen → Spells primary left.height left.tree us → call again n (line us) d left i ≡ Some p → Grown primary d us i p
  unfolding call
  call_sound left us i p is tree h =
      let f = sign_front s.LeftParen i is in
      let v = bind_some (arguments again n (d - 1) (next i)) _ p h in
      let a = arguments_sound again sound n (d - 1) (next i) (v.0, v.1) v.2 in
      let u = bind_some (expect s.RightParen v.1) _ p v.3 in
      let g = expect_says s.RightParen v.1 (u.0, u.1) u.2 in
      node _ d us i (max left.height v.0.height) (e.Call (line us) left.tree v.0.tree) u.1 p u.3 (λ low. record {
        level = primary;
        within = le_refl primary;
        used = f.token ∷ (a.used ++ (g.token ∷ []));
        cut = f.cut ∙ ap (λ l. f.token ∷ l) (a.cut ∙ ap (λ l. a.used ++ l) g.cut ∙ sym (append_assoc a.used (g.token ∷ []) u.1));
        tree = regroup us (f.token ∷ a.used) (g.token ∷ []) (Spells.calls f.token g.token tree f.is a.tree g.is);
        low = low;
        takes = always (role (mark u.1));
      })

  index_sound : (left : Found Expr) (us i : List Token) (p : Found Expr × List Token) → mark i ≡ m.Sign s.LeftBracket → Spells primary left.height left.tree us → index again n (line us) d left i ≡ Some p → Grown primary d us i p
  unfolding index
  index_sound left us i p is tree h =
      let f = sign_front s.LeftBracket i is in
      let v = bind_some (subscripts again n (d - 1) (next i)) _ p h in
      let a = subscripts_sound again sound n (d - 1) (next i) (v.0, v.1) v.2 in
      let u = bind_some (expect s.RightBracket v.1) _ p v.3 in
      let g = expect_says s.RightBracket v.1 (u.0, u.1) u.2 in
      node _ d us i (max left.height v.0.height) (e.Index (line us) left.tree v.0.tree) u.1 p u.3 (λ low. record {
        level = primary;
        within = le_refl primary;
        used = f.token ∷ (a.used ++ (g.token ∷ []));
        cut = f.cut ∙ ap (λ l. f.token ∷ l) (a.cut ∙ ap (λ l. a.used ++ l) g.cut ∙ sym (append_assoc a.used (g.token ∷ []) u.1));
        tree = regroup us (f.token ∷ a.used) (g.token ∷ []) (Spells.index f.token g.token tree f.is a.tree g.is);
        low = low;
        takes = always (role (mark u.1));
      })

  attribute_sound : (left : Found Expr) (us i : List Token) (p : Found Expr × List Token) → mark i ≡ m.Sign s.Dot → Spells primary left.height left.tree us
      → operated again n (line us) d left r.Attribute i ≡ Some p → Grown primary d us i p
  attribute_sound left us i p is tree h =
      let f = sign_front s.Dot i is in
      let v = bind_some (name (next i)) _ p h in
      let g = name_says (next i) (v.0, v.1) v.2 in
      node _ d us i left.height (e.Attribute (line us) left.tree v.0) v.1 p v.3 (λ low. record {
        level = primary;
        within = le_refl primary;
        used = f.token ∷ g.token ∷ [];
        cut = f.cut ∙ ap (λ l. f.token ∷ l) g.cut;
        tree = Spells.attribute f.token g.token tree f.is g.is;
        low = low;
        takes = always (role (mark v.1));
      })

  operated_sound : (q : Role) (left : Found Expr) (us i : List Token) (p : Found Expr × List Token) → role (mark i) ≡ q → (0 < makes q → Spells (wants q) left.height left.tree us)
      → operated again n (line us) d left q i ≡ Some p → Grown (makes q) d us i p
  operated_sound (r.Infix c o) left us i p is tree h = infix_sound c o left us i p is (tree (positive c)) h
  operated_sound r.Power left us i p is tree h = power_sound left us i p (power_says (mark i) is) (tree (omega arith)) h
  operated_sound r.Compares left us i p is tree h = compare_sound left us i p (tree (omega arith)) h
  operated_sound r.Condition left us i p is tree h = condition_sound left us i p (condition_says (mark i) is) (tree (omega arith)) h
  operated_sound r.Call left us i p is tree h = call_sound left us i p (call_says (mark i) is) (tree (omega arith)) h
  operated_sound r.Index left us i p is tree h = index_sound left us i p (index_says (mark i) is) (tree (omega arith)) h
  operated_sound r.Attribute left us i p is tree h = attribute_sound left us i p (attribute_says (mark i) is) (tree (omega arith)) h
  operated_sound r.Ends left us i p is tree h = cc
  operated_sound r.Literal left us i p is tree h = cc

  -- ---- the first token

  leaf_sound : (least : ℕ) (make : ℕ → Expr) (t : Token) (i j : List Token) (p : Found Expr × List Token) → least ≤ atom → i ≡ t ∷ j → Leaf (make t.line) t → tall d 0 (make (line i)) j ≡ Some p → Grown least d [] i p
  leaf_sound least make t i j p in_level front a h =
      node _ d [] i 0 (make (line i)) j p h (λ low. record {
        level = atom;
        within = in_level;
        used = t ∷ [];
        cut = front;
        tree = subst (λ l. Spells atom 1 (make l) (t ∷ [])) (sym (ap line front)) (Spells.leaf t a);
        low = low;
        takes = λ some. let far = always (role (mark j)) some in omega arith;
      })

  text_sound : (least : ℕ) (i : List Token) (p : Found Expr × List Token) → least ≤ atom → mark i ≡ m.Text → and_then (texts_from [] i) (λ text. tall d 0 (e.Text (line i) text)) ≡ Some p → Grown least d [] i p
  text_sound least i p in_level is h =
      let v = bind_some (texts_from [] i) _ p h in
      let a = texts_says [] i (v.0, v.1) v.2 in
      node _ d [] i 0 (e.Text (line i) v.0) v.1 p v.3 (λ low. record {
        level = atom;
        within = in_level;
        used = a.used;
        cut = a.cut;
        tree = elim a.spelled [
          | inl none ↦ absurd (omega (arith, a.some is, ap length none.0))
          | inr all ↦ text_tree (line i) v.0 a.text a.used (ap line a.cut ∙ (texts_mark all v.1).1) a.same all
        ];
        low = low;
        takes = λ some. let far = always (role (mark v.1)) some in omega arith;
      })

  bracketed_sound : (c : Bracket) (least : ℕ) (i : List Token) (p : Found Expr × List Token) → least ≤ atom → mark i ≡ m.Sign (opening c) → bracketed again n c d i ≡ Some p → Grown least d [] i p
  unfolding bracketed
  bracketed_sound c least i p in_level is h =
      let f = sign_front (opening c) i is in
      let v = bind_some (inside again n c (line i) d (next i)) _ p h in
      let x = v.0 in
      let a = inside_sound again sound n c (line i) d (next i) (x, v.1) v.2 in
      let u = bind_some (expect (closing c) v.1) _ p v.3 in
      let g = expect_says (closing c) v.1 (u.0, u.1) u.2 in
      grown least d [] i (x, u.1) p (record {
        level = atom;
        within = in_level;
        used = f.token ∷ (a.used ++ (g.token ∷ []));
        cut = f.cut ∙ ap (λ l. f.token ∷ l) (a.cut ∙ ap (λ l. a.used ++ l) g.cut ∙ sym (append_assoc a.used (g.token ∷ []) u.1));
        tree = Spells.bracket f.token g.token f.is (subst (λ k. Inside c k x.height x.tree a.used) (ap line f.cut) a.tree) g.is;
        low = a.low;
        takes = λ some. let far = always (role (mark u.1)) some in omega arith;
      }) u.3

  negated_sound : (least : ℕ) (i : List Token) (p : Found Expr × List Token) → least ≤ negation → mark i ≡ m.Keyword w.Not → negated again n d i ≡ Some p → Grown least d [] i p
  unfolding negated
  negated_sound least i p in_level is h =
      let f = word_front w.Not i is in
      let v = bind_some (again negation (d - 1) (next i)) _ p h in
      let x = v.0 in
      let a = sound negation (d - 1) (omega arith) (next i) (x, v.1) v.2 in
      node _ d [] i x.height (e.Not (line i) x.tree) v.1 p v.3 (λ low. record {
        level = negation;
        within = in_level;
        used = f.token ∷ a.used;
        cut = f.cut ∙ ap (λ l. f.token ∷ l) a.cut;
        tree = subst (λ l. Spells negation (x.height + 1) (e.Not l x.tree) (f.token ∷ a.used)) (sym (ap line f.cut)) (Spells.negates f.token f.is a.tree);
        low = low;
        takes = behind_negation (role (mark v.1)) a.ends;
      })

  under_sound : (o : Unary) (least : ℕ) (i : List Token) (p : Found Expr × List Token) → mark i ≡ m.Sign (sign_of o) → under again n o least d i ≡ Some p → Grown least d [] i p
  unfolding under
  under_sound o least i p is h =
      let f = sign_front (sign_of o) i is in
      elim (parted (nat_lt signed least) refuse _ i p h) [
        | inl outside ↦ cc (outside.1)
        | inr within ↦
            let v = bind_some (again signed (d - 1) (next i)) _ p within.1 in
            let x = v.0 in
            let a = sound signed (d - 1) (omega arith) (next i) (x, v.1) v.2 in
            let in_level = ltb-false signed least within.0 in
            node _ d [] i x.height (e.Unary (line i) o x.tree) v.1 p v.3 (λ low. record {
              level = signed;
              within = in_level;
              used = f.token ∷ a.used;
              cut = f.cut ∙ ap (λ l. f.token ∷ l) a.cut;
              tree = subst (λ l. Spells signed (x.height + 1) (e.Unary l o x.tree) (f.token ∷ a.used)) (sym (ap line f.cut)) (Spells.signs f.token f.is a.tree);
              low = low;
              takes = behind_signed (role (mark v.1)) a.ends;
            })
      ]

  lambda_sound : (least : ℕ) (i : List Token) (p : Found Expr × List Token) → least ≤ expression → mark i ≡ m.Keyword w.Lambda → lambda again n d i ≡ Some p → Grown least d [] i p
  unfolding lambda
  lambda_sound least i p in_level is h =
      let f = word_front w.Lambda i is in
      let v = bind_some (params again n (d - 1) (next i)) _ p h in
      let a = params_sound again sound n (d - 1) (next i) (v.0, v.1) v.2 in
      let u = bind_some (expect s.Colon v.1) _ p v.3 in
      let g = expect_says s.Colon v.1 (u.0, u.1) u.2 in
      let q = bind_some (again expression (d - 1) u.1) _ p u.3 in
      let x = q.0 in
      let c = sound expression (d - 1) (omega arith) u.1 (x, q.1) q.2 in
      node _ d [] i (max v.0.height x.height) (e.Lambda (line i) v.0.tree x.tree) q.1 p q.3 (λ low. record {
        level = expression;
        within = in_level;
        used = f.token ∷ a.used ++ g.token ∷ c.used;
        cut = f.cut ∙ ap (λ l. f.token ∷ l) (a.cut ∙ ap (λ l. a.used ++ l) (g.cut ∙ ap (λ l. g.token ∷ l) c.cut) ∙ sym (append_assoc a.used (g.token ∷ c.used) q.1));
        tree = subst (λ l. Spells expression (max v.0.height x.height + 1) (e.Lambda l v.0.tree x.tree) (f.token ∷ a.used ++ g.token ∷ c.used)) (sym (ap line f.cut)) (Spells.lambda f.token g.token f.is a.tree g.is c.tree);
        low = low;
        takes = behind_expression (role (mark q.1)) c.ends;
      })

  prefix_by_sound : (least : ℕ) (q : Mark) (i : List Token) (p : Found Expr × List Token) → least ≤ atom → mark i ≡ q → prefix_by again n least d q i ≡ Some p → Grown least d [] i p
  prefix_by_sound least m.Name i p in_level is h =
      let v = bind_some (name i) _ p h in
      let f = name_says i (v.0, v.1) v.2 in
      leaf_sound least (λ l. e.Name l v.0) f.token i v.1 p in_level f.cut (Leaf.name f.token f.is) v.3
  prefix_by_sound least m.Number i p in_level is h =
      let v = bind_some (number i) _ p h in
      let f = number_says i (v.0, v.1) v.2 in
      leaf_sound least (λ l. e.Number l v.0) f.token i v.1 p in_level f.cut (Leaf.number f.token f.is) v.3
  prefix_by_sound least m.Text i p in_level is h = text_sound least i p in_level is h
  prefix_by_sound least (m.Keyword w.None) i p in_level is h = let f = word_front w.None i is in leaf_sound least (λ l. e.None l) f.token i (next i) p in_level f.cut (Leaf.none f.token f.is) h
  prefix_by_sound least (m.Keyword w.True) i p in_level is h = let f = word_front w.True i is in leaf_sound least (λ l. e.True l) f.token i (next i) p in_level f.cut (Leaf.yes f.token f.is) h
  prefix_by_sound least (m.Keyword w.False) i p in_level is h = let f = word_front w.False i is in leaf_sound least (λ l. e.False l) f.token i (next i) p in_level f.cut (Leaf.no f.token f.is) h
  prefix_by_sound least (m.Keyword w.Lambda) i p in_level is h =
      elim (parted (nat_lt expression least) refuse (lambda again n d) i p h) [
        | inl outside ↦ cc (outside.1)
        | inr within ↦ lambda_sound least i p (ltb-false expression least within.0) is within.1
      ]
  prefix_by_sound least (m.Keyword w.Not) i p in_level is h =
      elim (parted (nat_lt negation least) refuse (negated again n d) i p h) [
        | inl outside ↦ cc (outside.1)
        | inr within ↦ negated_sound least i p (ltb-false negation least within.0) is within.1
      ]
  prefix_by_sound least (m.Sign s.Plus) i p in_level is h = under_sound unary.Plus least i p is h
  prefix_by_sound least (m.Sign s.Minus) i p in_level is h = under_sound unary.Minus least i p is h
  prefix_by_sound least (m.Sign s.Tilde) i p in_level is h = under_sound unary.Invert least i p is h
  prefix_by_sound least (m.Sign s.LeftParen) i p in_level is h = bracketed_sound b.Round least i p in_level is h
  prefix_by_sound least (m.Sign s.LeftBracket) i p in_level is h = bracketed_sound b.Square least i p in_level is h
  prefix_by_sound least (m.Sign s.LeftBrace) i p in_level is h = bracketed_sound b.Curly least i p in_level is h
  prefix_by_sound least _ i p in_level is h = cc

  -- ---- the climb

  climb_sound : (least turns : ℕ) (left : Found Expr) (i : List Token) (p : Found Expr × List Token) (level : ℕ) (us : List Token) → Spells level left.height left.tree us → left.height ≤ d → least ≤ level
      → (0 < makes (role (mark i)) → wants (role (mark i)) ≤ level) → climb again n least d turns (line us) left i ≡ Some p → Climbed least d us i p
  unfolding climb operation
  climb_sound least zero left i p level us tree low in_level takes h =
      let g = guarded (nat_lt (makes (role (mark i))) least) (Some (left, i)) p h in
      subst (λ q. Climbed least d us i q) (some_inj g.1) (record { used = []; cut = refl; tree = rw (append-nil us) (Spells.up in_level tree); low = low; ends = ltb-true _ _ g.0 })
  climb_sound least (suc turns) left i p level us tree low in_level takes h =
      elim (parted (nat_lt (makes (role (mark i))) least) (pure left) _ i p h) [
        | inl over ↦ subst (λ q. Climbed least d us i q) (some_inj over.1) (record { used = []; cut = refl; tree = rw (append-nil us) (Spells.up in_level tree); low = low; ends = ltb-true _ _ over.0 })
        | inr going ↦
            let goes_on = ltb-false (makes (role (mark i))) least going.0 in
            let v = bind_some (operation again n (line us) d left i) _ p going.1 in
            let g = operated_sound (role (mark i)) left us i (v.0, v.1) refl (λ some. Spells.up (takes some) tree) v.2 in
            let same_line = fronted level us (begins_with tree) g.used in
            let c = climb_sound least turns v.0 v.1 p g.level (us ++ g.used) g.tree g.low (le_trans goes_on g.within) g.takes (ap (λ l. climb again n least d turns l v.0 v.1) same_line ∙ v.3) in
            record { used = g.used ++ c.used; cut = g.cut ∙ ap (λ l. g.used ++ l) c.cut ∙ sym (append_assoc g.used c.used p.1); tree = regroup us g.used c.used c.tree; low = c.low; ends = c.ends }
      ]

  level_sound : (least : ℕ) → least ≤ atom → (i : List Token) (p : Found Expr × List Token) → level again n least d i ≡ Some p → Ended (Spells least) least d i p
  unfolding level prefix
  level_sound least in_level i p h =
      let v = bind_some (prefix again n least d i) _ p h in
      let g = prefix_by_sound least (mark i) i (v.0, v.1) in_level refl v.2 in
      let same_line = ap line g.cut ∙ fronted g.level g.used (begins_with g.tree) v.1 in
      let c = climb_sound least d v.0 v.1 p g.level g.used g.tree g.low g.within g.takes (ap (λ l. climb again n least d d l v.0 v.1) (sym same_line) ∙ v.3) in
      record { used = g.used ++ c.used; cut = g.cut ∙ ap (λ l. g.used ++ l) c.cut ∙ sym (append_assoc g.used c.used p.1); tree = c.tree; low = c.low; ends = c.ends }

pub parse_sound : (n : ℕ) → Sound (parse n)
unfolding parse
parse_sound zero l d in_level i p h = cc
parse_sound (suc n) l d in_level i p h = level_sound (parse n) (parse_sound n) n d l in_level i p h
