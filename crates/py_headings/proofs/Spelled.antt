-- What tokens with lines and names spell is tidy.
use Rattle.std.proofs.Common.{◌≡◌, ℕ, ◌<◌, true, List, [], ◌∷◌, ◌++◌, Option, Some, None}
use Rattle.std.specs.List.{AllByRecursion}
use Rattle.py_ast.specs.declared.token.Token.{Token}
use Rattle.py_ast.specs.declared.expr.Binary.TheVariants as binary
use Rattle.py_ast.specs.declared.expr.Item.{Item}
use Rattle.py_ast.specs.declared.expr.Item.TheVariants as item
use Rattle.py_ast.specs.declared.expr.Argument.{Argument}
use Rattle.py_ast.specs.declared.expr.Param.{Param}
use Rattle.py_ast.specs.declared.expr.Subscript.{Subscript}
use Rattle.py_ast.specs.declared.expr.Clauses.{Clauses}
use Rattle.py_ast.specs.declared.expr.Expr.{Expr}
use Rattle.py_grammar.specs.declared.role.Operator.{Operator}
use Rattle.py_grammar.specs.declared.role.Operator.TheVariants as o
use Rattle.py_grammar.specs.declared.role.Row.{Row}
use Rattle.py_grammar.specs.declared.role.Bracket.{Bracket}
use Rattle.py_grammar.specs.Levels.{expression, line}
use Rattle.py_grammar.specs.Lists.{params_in_order}
use Rattle.py_grammar.specs.Grammar.{Spells, Inside, RowOf, Yields, Comprehends, LoopOf, PartOf, Part, Parts, Tail, Several, Run, Params, Arguments, Subscripts, Bound, Step, Leaf, Target, combined, alone}
use Rattle.py_grammar.proofs.Starts.{begins_with}
use Rattle.py_headings.proofs.Tidy.{Tidy, OptionTidy, ItemTidy, EntryTidy, ArgumentTidy, LinkTidy, ParamTidy, SubscriptTidy, ClauseTidy, ClausesTidy}
use Rattle.py_headings.proofs.Tokens.{Sound, left, right, first_line}
use Rattle.py_headings.proofs.Expressions.{tidy_none, tidy_true, tidy_false, tidy_number, tidy_text, tidy_name, tidy_tuple, tidy_list, tidy_dict, tidy_list_of, tidy_dict_of, tidy_generator, tidy_lambda, tidy_attribute, tidy_index, tidy_call, tidy_unary, tidy_binary, tidy_compare, tidy_not, tidy_junction, tidy_conditional, tidy_yield, tidy_yield_from, tidy_star}

leaf_tidy : {x : Expr} {t : Token} → Leaf x t → Tidy x
leaf_tidy (Leaf.name {text = text} t is) = tidy_name t.line text
leaf_tidy (Leaf.number {value = value} t is) = tidy_number t.line value
leaf_tidy (Leaf.none t is) = tidy_none t.line
leaf_tidy (Leaf.yes t is) = tidy_true t.line
leaf_tidy (Leaf.no t is) = tidy_false t.line

combined_tidy : (n : ℕ) (op : Operator) (x y : Expr) → Tidy x → Tidy y → Tidy (combined n op x y)
combined_tidy n (o.Junction j) x y t u = tidy_junction n j x y t u
combined_tidy n (o.Binary op) x y t u = tidy_binary n op x y t u

alone_tidy : (i : Item Expr) → ItemTidy i → Tidy (alone i)
alone_tidy (item.One x) t = t
alone_tidy (item.Star n x) t = tidy_star n x t

abbrev PartTidy : (p : Parts) → Part p → Type 0
PartTidy (Parts.items row) = ItemTidy
PartTidy Parts.arguments = ArgumentTidy
PartTidy Parts.entries = EntryTidy
PartTidy Parts.params = ParamTidy
PartTidy Parts.indices = Tidy
PartTidy Parts.links = LinkTidy
PartTidy Parts.clauses = ClauseTidy

pub param_order : {h : ℕ} {ps : List (Param Expr)} {ts : List Token} → Params h ps ts → params_in_order ps ≡ true
param_order (Params.params a order) = order

mutual
  pub spelled : {l h : ℕ} {x : Expr} {ts : List Token} → Spells l h x ts → Sound ts → Tidy x
  spelled (Spells.up tighter a) v = spelled a v
  spelled (Spells.lambda {ps = ps} {x = x} {xs = xs} {ys = ys} t u is p colon a) v =
      tidy_lambda t.line ps x v.0.from_one (params_tidy p (left xs (u ∷ ys) v.1)) (param_order p) (spelled a (right xs (u ∷ ys) v.1).1)
  spelled (Spells.condition {x = x} {y = y} {z = z} {xs = xs} {ys = ys} {zs = zs} t u a is b other c) v =
      let w = left (xs ++ t ∷ ys) (u ∷ zs) v in
      tidy_conditional (line xs) y x z (spelled b (right xs (t ∷ ys) w).1) (spelled a (left xs (t ∷ ys) w)) (spelled c (right (xs ++ t ∷ ys) (u ∷ zs) v).1)
  spelled (Spells.operates {o = op} {x = x} {y = y} {xs = xs} {ys = ys} t a is b) v =
      combined_tidy (line xs) op x y (spelled a (left xs (t ∷ ys) v)) (spelled b (right xs (t ∷ ys) v).1)
  spelled (Spells.negates {x = x} t is a) v = tidy_not t.line x (spelled a v.1)
  spelled (Spells.compares {x = x} {l = l} {ls = ls} {xs = xs} {ys = ys} {zs = zs} a b c) v =
      let w = left (xs ++ ys) zs v in
      tidy_compare (line xs) x (l ∷ ls) (spelled a (left xs ys w)) (part_tidy b (right xs ys w), run_tidy c (right (xs ++ ys) zs v))
  spelled (Spells.signs {o = op} {x = x} t is a) v = tidy_unary t.line op x (spelled a v.1)
  spelled (Spells.raises {x = x} {y = y} {xs = xs} {ys = ys} t a is b) v =
      tidy_binary (line xs) binary.Power x y (spelled a (left xs (t ∷ ys) v)) (spelled b (right xs (t ∷ ys) v).1)
  spelled (Spells.attribute {x = x} {name = name} {xs = xs} t u a is b) v = tidy_attribute (line xs) x name (spelled a (left xs (t ∷ u ∷ []) v))
  spelled (Spells.index {x = x} {i = i} {xs = xs} {ys = ys} t u a is b end) v =
      let w = left (xs ++ t ∷ ys) (u ∷ []) v in
      tidy_index (line xs) x i (spelled a (left xs (t ∷ ys) w)) (subscripts_tidy b (right xs (t ∷ ys) w).1)
  spelled (Spells.calls {x = x} {args = args} {xs = xs} {ys = ys} t u a is b end) v =
      let w = left (xs ++ t ∷ ys) (u ∷ []) v in
      tidy_call (line xs) x args (spelled a (left xs (t ∷ ys) w)) (arguments_tidy b (right xs (t ∷ ys) w).1)
  spelled (Spells.leaf t l) v = leaf_tidy l
  spelled (Spells.text {text = text} {ts = ts} a) v = tidy_text (line ts) text
  spelled (Spells.bracket {xs = xs} t u is a end) v = inside_tidy a v.0.from_one (left xs (u ∷ []) v.1)

  inside_tidy : {b : Bracket} {n h : ℕ} {x : Expr} {ts : List Token} → Inside b n h x ts → 0 < n → Sound ts → Tidy x
  inside_tidy (Inside.nothing {n = n}) from_one v = tidy_tuple n [] tt
  inside_tidy (Inside.exprs a) from_one v = row_tidy a v
  inside_tidy (Inside.yielded a) from_one v = yields_tidy a v
  inside_tidy (Inside.generator {n = n} {x = x} {c = c} {xs = xs} {ys = ys} a d) from_one v = tidy_generator n x c from_one (spelled a (left xs ys v)) (clauses_tidy d (right xs ys v))
  inside_tidy (Inside.list {n = n} {is = is} a) from_one v = tidy_list n is (several_tidy a v)
  inside_tidy (Inside.list_of {n = n} {x = x} {c = c} {xs = xs} {ys = ys} a d) from_one v = tidy_list_of n x c from_one (spelled a (left xs ys v)) (clauses_tidy d (right xs ys v))
  inside_tidy (Inside.dict {n = n} {is = is} a) from_one v = tidy_dict n is (several_tidy a v)
  inside_tidy (Inside.dict_of {n = n} {x = x} {y = y} {c = c} {xs = xs} {ys = ys} a d) from_one v =
      let p = part_tidy a (left xs ys v) in
      tidy_dict_of n x y c from_one p.0 p.1 (clauses_tidy d (right xs ys v))

  pub row_tidy : {r : Row} {n h : ℕ} {x : Expr} {ts : List Token} → RowOf r n h x ts → Sound ts → Tidy x
  row_tidy (RowOf.single {i = i} a) v = alone_tidy i (part_tidy a v)
  row_tidy (RowOf.tuple {n = n} {i = i} {is = is} {t = t} {xs = xs} {ys = ys} a b) v = tidy_tuple n (i ∷ is) (part_tidy a (left xs (t ∷ ys) v), tail_tidy b (right xs (t ∷ ys) v))

  pub yields_tidy : {h : ℕ} {x : Expr} {ts : List Token} → Yields h x ts → Sound ts → Tidy x
  yields_tidy (Yields.bare t is) v = tidy_yield t.line None tt
  yields_tidy (Yields.value {x = x} t is a) v = tidy_yield t.line (Some x) (row_tidy a v.1)
  yields_tidy (Yields.delegate {x = x} t u is from a) v = tidy_yield_from t.line x (spelled a v.1.1)

  clauses_tidy : {h : ℕ} {c : Clauses Expr} {ts : List Token} → Comprehends h c ts → Sound ts → ClausesTidy c
  clauses_tidy (Comprehends.comprehension {xs = xs} {ys = ys} a b) v = let l = loop_tidy a (left xs ys v) in (l.0, l.1, run_tidy b (right xs ys v))

  loop_tidy : {n h : ℕ} {x y : Expr} {ts : List Token} → LoopOf n h x y ts → Sound ts → Tidy x × Tidy y
  loop_tidy (LoopOf.ranges {xs = xs} {ys = ys} t u is a within b) v = (row_tidy a (left xs (u ∷ ys) v.1), spelled b (right xs (u ∷ ys) v.1).1)

  part_tidy : {p : Parts} {h : ℕ} {x : Part p} {ts : List Token} → PartOf p h x ts → Sound ts → PartTidy p x
  part_tidy (PartOf.item a) v = spelled a v
  part_tidy (PartOf.star_item t is a) v = spelled a v.1
  part_tidy (PartOf.argument a) v = spelled a v
  part_tidy (PartOf.star_argument t is a) v = spelled a v.1
  part_tidy (PartOf.keyword t u is equal a) v = spelled a v.1.1
  part_tidy (PartOf.merge_argument t is a) v = spelled a v.1
  part_tidy (PartOf.pair {xs = xs} {ys = ys} t a is b) v = (spelled a (left xs (t ∷ ys) v), spelled b (right xs (t ∷ ys) v).1)
  part_tidy (PartOf.merge_entry t is a) v = spelled a v.1
  part_tidy (PartOf.named {name = name} t is) v = (v.0.named name is, tt)
  part_tidy (PartOf.default {name = name} t u is equal a) v = (v.0.named name is, spelled a v.1.1)
  part_tidy (PartOf.slash t is) v = (tt, tt)
  part_tidy (PartOf.bare_star t is) v = (tt, tt)
  part_tidy (PartOf.star_param {name = name} t u is n) v = (v.1.0.named name n, tt)
  part_tidy (PartOf.double_star {name = name} t u is n) v = (v.1.0.named name n, tt)
  part_tidy (PartOf.place a) v = spelled a v
  part_tidy (PartOf.link {os = os} {ys = ys} c a) v = spelled a (right os ys v)
  part_tidy (PartOf.loop a) v = loop_tidy a v
  part_tidy (PartOf.test t is a) v = spelled a v.1

  tail_tidy : {p : Parts} {h : ℕ} {is : List (Part p)} {ts : List Token} → Tail p h is ts → Sound ts → AllByRecursion (PartTidy p) is
  tail_tidy Tail.done v = tt
  tail_tidy (Tail.trailing t is) v = tt
  tail_tidy (Tail.more {xs = xs} {ys = ys} t is a b) v = (part_tidy a (left xs ys v.1), tail_tidy b (right xs ys v.1))

  several_tidy : {p : Parts} {h : ℕ} {is : List (Part p)} {ts : List Token} → Several p h is ts → Sound ts → AllByRecursion (PartTidy p) is
  several_tidy Several.empty v = tt
  several_tidy (Several.parts {xs = xs} {ys = ys} a b) v = (part_tidy a (left xs ys v), tail_tidy b (right xs ys v))

  run_tidy : {p : Parts} {h : ℕ} {is : List (Part p)} {ts : List Token} → Run p h is ts → Sound ts → AllByRecursion (PartTidy p) is
  run_tidy Run.over v = tt
  run_tidy (Run.further {xs = xs} {ys = ys} a b) v = (part_tidy a (left xs ys v), run_tidy b (right xs ys v))

  pub params_tidy : {h : ℕ} {ps : List (Param Expr)} {ts : List Token} → Params h ps ts → Sound ts → AllByRecursion ParamTidy ps
  params_tidy (Params.params a order) v = several_tidy a v

  arguments_tidy : {h : ℕ} {xs : List (Argument Expr)} {ts : List Token} → Arguments h xs ts → Sound ts → AllByRecursion ArgumentTidy xs
  arguments_tidy (Arguments.arguments a order) v = several_tidy a v
  arguments_tidy (Arguments.lone_generator {x = x} {c = c} {xs = xs} {ys = ys} a d) v =
      let w = left xs ys v in
      (tidy_generator (line xs) x c (first_line expression xs (begins_with a) w) (spelled a w) (clauses_tidy d (right xs ys v)), tt)

  subscripts_tidy : {h : ℕ} {i : Subscript Expr} {ts : List Token} → Subscripts h i ts → Sound ts → SubscriptTidy i
  subscripts_tidy (Subscripts.one a) v = spelled a v
  subscripts_tidy (Subscripts.several {t = t} {xs = xs} {ys = ys} a b) v = (spelled a (left xs (t ∷ ys) v), tail_tidy b (right xs (t ∷ ys) v))
  subscripts_tidy (Subscripts.slice {xs = xs} {ys = ys} {zs = zs} t a is b c) v =
      let w = left (xs ++ t ∷ ys) zs v in
      (bound_tidy a (left xs (t ∷ ys) w), bound_tidy b (right xs (t ∷ ys) w).1, step_tidy c (right (xs ++ t ∷ ys) zs v))

  bound_tidy : {h : ℕ} {x : Option Expr} {ts : List Token} → Bound h x ts → Sound ts → OptionTidy x
  bound_tidy Bound.unbound v = tt
  bound_tidy (Bound.bound a) v = spelled a v

  step_tidy : {h : ℕ} {x : Option Expr} {ts : List Token} → Step h x ts → Sound ts → OptionTidy x
  step_tidy Step.no_step v = tt
  step_tidy (Step.step t is a) v = bound_tidy a v.1

pub target_tidy : {h : ℕ} {x : Expr} {ts : List Token} → Target h x ts → Sound ts → Tidy x
target_tidy (Target.target {i = i} a) v = alone_tidy i (part_tidy a v)
