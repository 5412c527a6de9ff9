-- What the grammar spells is read.
use Rattle.std.proofs.Common.{◌≡◌, ℕ, Bool, true, List, [], ◌∷◌, ◌++◌, Option, refl, ap, ◌∙◌, append_assoc}
use Rattle.py_ast.specs.declared.token.Token.{Token}
use Rattle.py_ast.specs.declared.spelled.Word.TheVariants as w
use Rattle.py_ast.specs.declared.expr.Argument.{Argument}
use Rattle.py_ast.specs.declared.expr.Param.{Param}
use Rattle.py_ast.specs.declared.expr.Subscript.{Subscript}
use Rattle.py_ast.specs.declared.expr.Clauses.{Clauses}
use Rattle.py_ast.specs.declared.expr.Expr.{Expr}
use Rattle.py_grammar.specs.declared.role.Mark.TheVariants as m
use Rattle.py_grammar.specs.declared.role.Row.{Row}
use Rattle.py_grammar.specs.declared.role.Row.TheVariants as row
use Rattle.py_grammar.specs.declared.role.Bracket.{Bracket}
use Rattle.py_grammar.specs.Levels.{expression, mark, mark_of}
use Rattle.py_grammar.specs.Parse.{begins}
use Rattle.py_grammar.specs.Grammar.{Spells, Inside, RowOf, Yields, Comprehends, LoopOf, PartOf, Part, Parts, Tail, Several, Run, Params, Arguments, Subscripts, Bound, Step}
use Rattle.py_grammar.proofs.Starts.{begins_with, begins_part, begins_loop, unkeyed, link_role, fronted, mark_front}
use Rattle.py_grammar.proofs.OperationsRead.{Complete, CompletePart, CompleteTail, CompleteRun, CompleteInside, CompleteParams, CompleteArguments, CompleteSubscripts}
use Rattle.py_grammar.proofs.OperationsRead as o
use Rattle.py_grammar.proofs.PartsRead.{RowRead, CompleteLoop, CompleteClauses, some_part}
use Rattle.py_grammar.proofs.PartsRead as p
use Rattle.py_grammar.proofs.BracketsRead.{CompleteYields, CompleteBound, CompleteStep}
use Rattle.py_grammar.proofs.BracketsRead as b

pub begins_yields : {h : ℕ} {x : Expr} {ts : List Token} → Yields h x ts → (i : List Token) → mark (ts ++ i) ≡ m.Keyword w.Yield
begins_yields (Yields.bare t is) i = ap mark_of is
begins_yields (Yields.value t is a) i = ap mark_of is
begins_yields (Yields.delegate t u is from a) i = ap mark_of is

begins_clauses : {h : ℕ} {c : Clauses Expr} {ts : List Token} → Comprehends h c ts → (i : List Token) → mark (ts ++ i) ≡ m.Keyword w.For
begins_clauses (Comprehends.comprehension {xs = xs} {ys = ys} a run) i = ap mark (append_assoc xs ys i) ∙ begins_loop a (ys ++ i)

begins_item_of : {h : ℕ} {x : Expr} {ts : List Token} → Spells expression h x ts → (i : List Token) → begins (Parts.items row.Expressions) (mark (ts ++ i)) ≡ true
begins_item_of a i = begins_part (PartOf.item {r = row.Expressions} a) i

begins_argument_of : {h : ℕ} {x : Expr} {ts : List Token} → Spells expression h x ts → (i : List Token) → begins Parts.arguments (mark (ts ++ i)) ≡ true
begins_argument_of a i = begins_part (PartOf.argument a) i

mutual
  pub complete : {l h : ℕ} {x : Expr} {ts : List Token} → Spells l h x ts → Complete l h x ts
  complete (Spells.up tighter s) = o.on_up _ _ _ _ _ tighter (complete s)
  complete (Spells.lambda t u is ps colon a) = o.on_lambda _ _ _ _ _ _ t u is (complete_params ps) colon (complete a)
  complete (Spells.condition t u a is c other d) = o.on_condition _ _ _ _ _ _ _ _ _ t u (begins_with a) (complete a) is (complete c) other (complete d)
  complete (Spells.operates {c = c} {o = op} t a is d) = o.on_operates c op _ _ _ _ _ _ t (begins_with a) (complete a) is (complete d)
  complete (Spells.negates t is a) = o.on_negates _ _ _ t is (complete a)
  complete (Spells.compares a l ls) = o.on_compares _ _ _ _ _ _ _ _ _ (begins_with a) (complete a) (link_role l) (complete_part l) ls (complete_run ls)
  complete (Spells.signs {o = op} t is a) = o.on_signs op _ _ _ t is (complete a)
  complete (Spells.raises t a is d) = o.on_raises _ _ _ _ _ _ t (begins_with a) (complete a) is (complete d)
  complete (Spells.attribute t u a is named) = o.on_attribute _ _ _ _ t u (begins_with a) (complete a) is named
  complete (Spells.index t u a is i end) = o.on_index _ _ _ _ _ _ t u (begins_with a) (complete a) is (complete_subscripts i) end
  complete (Spells.calls t u a is args end) = o.on_calls _ _ _ _ _ _ t u (begins_with a) (complete a) is (complete_arguments args) end
  complete (Spells.leaf t l) = o.on_leaf l
  complete (Spells.text ts) = o.on_text _ _ ts
  complete (Spells.bracket {b = c} t u is a end) = o.on_bracket c _ _ _ t u is (complete_inside a) end

  pub complete_inside : {c : Bracket} {at h : ℕ} {x : Expr} {ts : List Token} → Inside c at h x ts → CompleteInside c at h x ts
  complete_inside Inside.nothing = b.on_nothing _
  complete_inside (Inside.exprs a) = b.on_exprs _ _ _ _ (complete_row a)
  complete_inside (Inside.yielded a) = b.on_yielded _ _ _ _ (begins_yields a) (complete_yields a)
  complete_inside (Inside.generator a c) = b.on_generator _ _ _ _ _ _ _ (begins_item_of a) (p.on_item row.Expressions _ _ _ (begins_with a) (complete a)) (begins_clauses c) (complete_clauses c)
  complete_inside (Inside.list Several.empty) = b.on_empty_list _
  complete_inside (Inside.list (Several.parts a c)) = b.on_list _ _ _ _ _ _ _ (begins_part a) (complete_part a) c (complete_tail c)
  complete_inside (Inside.list_of a c) = b.on_list_of _ _ _ _ _ _ _ (begins_item_of a) (p.on_item row.Expressions _ _ _ (begins_with a) (complete a)) (begins_clauses c) (complete_clauses c)
  complete_inside (Inside.dict Several.empty) = b.on_empty_dict _
  complete_inside (Inside.dict (Several.parts a c)) = b.on_dict _ _ _ _ _ _ _ (begins_part a) (complete_part a) c (complete_tail c)
  complete_inside (Inside.dict_of a c) = b.on_dict_of _ _ _ _ _ _ _ _ (begins_part a) (complete_part a) (begins_clauses c) (complete_clauses c)

  pub complete_row : {r : Row} {at h : ℕ} {x : Expr} {ts : List Token} → RowOf r at h x ts → RowRead r at h x ts
  complete_row (RowOf.single {r = r} a) = p.on_single r _ _ _ _ (begins_part a) (complete_part a)
  complete_row (RowOf.tuple {r = r} a c) = p.on_tuple r _ _ _ _ _ _ _ _ (begins_part a) (complete_part a) c (complete_tail c)

  pub complete_yields : {h : ℕ} {x : Expr} {ts : List Token} → Yields h x ts → CompleteYields h x ts
  complete_yields (Yields.bare t is) = b.on_bare t is
  complete_yields (Yields.value t is a) = b.on_value _ _ _ t is (complete_row a)
  complete_yields (Yields.delegate t u is from a) = b.on_delegate _ _ _ t u is from (complete a)

  pub complete_clauses : {h : ℕ} {c : Clauses Expr} {ts : List Token} → Comprehends h c ts → CompleteClauses h c ts
  complete_clauses (Comprehends.comprehension a run) = p.on_comprehension _ _ _ _ _ _ _ _ (begins_loop a) (complete_loop a) run (complete_run run)

  pub complete_loop : {at h : ℕ} {x y : Expr} {ts : List Token} → LoopOf at h x y ts → CompleteLoop at h x y ts
  complete_loop (LoopOf.ranges t u is a in_ c) = p.on_ranges _ _ _ _ _ _ t u is (complete_row a) in_ (complete c)

  pub complete_part : {q : Parts} {h : ℕ} {x : Part q} {ts : List Token} → PartOf q h x ts → CompletePart q h x ts
  complete_part (PartOf.item {r = r} a) = p.on_item r _ _ _ (begins_with a) (complete a)
  complete_part (PartOf.star_item {r = r} t is a) = p.on_star_item r _ _ _ t is (complete a)
  complete_part (PartOf.argument a) = p.on_argument _ _ _ (begins_with a) (unkeyed a) (complete a)
  complete_part (PartOf.star_argument t is a) = p.on_star_argument _ _ _ t is (complete a)
  complete_part (PartOf.keyword t u is eq a) = p.on_keyword _ _ _ _ t u is eq (complete a)
  complete_part (PartOf.merge_argument t is a) = p.on_merge_argument _ _ _ t is (complete a)
  complete_part (PartOf.pair t a is c) = p.on_pair _ _ _ _ _ _ t (begins_with a) (complete a) is (complete c)
  complete_part (PartOf.merge_entry t is a) = p.on_merge_entry _ _ _ t is (complete a)
  complete_part (PartOf.named t is) = p.on_named _ t is
  complete_part (PartOf.default t u is eq a) = p.on_default _ _ _ _ t u is eq (complete a)
  complete_part (PartOf.slash t is) = p.on_slash t is
  complete_part (PartOf.bare_star t is) = p.on_bare_star t is
  complete_part (PartOf.star_param t u is n) = p.on_star_param _ t u is n
  complete_part (PartOf.double_star t u is n) = p.on_double_star _ t u is n
  complete_part (PartOf.place a) = p.on_place _ _ _ (complete a)
  complete_part (PartOf.link c a) = p.on_link _ _ _ _ _ c (begins_with a) (complete a)
  complete_part (PartOf.loop a) = p.on_loop _ _ _ _ _ (begins_loop a) (complete_loop a)
  complete_part (PartOf.test t is a) = p.on_test _ _ _ t is (complete a)

  pub complete_tail : {q : Parts} {h : ℕ} {xs : List (Part q)} {ts : List Token} → Tail q h xs ts → CompleteTail q h xs ts
  complete_tail (Tail.done {p = q}) = p.on_done q
  complete_tail (Tail.trailing {p = q} t is) = p.on_trailing q t is
  complete_tail (Tail.more {p = q} t is a c) = p.on_more q _ _ _ _ _ _ t is (begins_part a) (complete_part a) c (complete_tail c)

  pub complete_run : {q : Parts} {h : ℕ} {xs : List (Part q)} {ts : List Token} → Run q h xs ts → CompleteRun q h xs ts
  complete_run (Run.over {p = q}) = p.on_over q
  complete_run (Run.further {p = q} a c) = p.on_further q _ _ _ _ _ _ (some_part q _ (begins_part a)) (begins_part a) (complete_part a) c (complete_run c)

  pub complete_params : {h : ℕ} {ps : List (Param Expr)} {ts : List Token} → Params h ps ts → CompleteParams h ps ts
  complete_params (Params.params Several.empty order) = b.on_no_params
  complete_params (Params.params (Several.parts a c) order) = b.on_params _ _ _ _ _ _ (begins_part a) (complete_part a) c (complete_tail c) order

  pub complete_arguments : {h : ℕ} {args : List (Argument Expr)} {ts : List Token} → Arguments h args ts → CompleteArguments h args ts
  complete_arguments (Arguments.arguments Several.empty order) = b.on_no_arguments
  complete_arguments (Arguments.arguments (Several.parts a c) order) = b.on_arguments _ _ _ _ _ _ (begins_part a) (complete_part a) c (complete_tail c) order
  complete_arguments (Arguments.lone_generator a c) = b.on_lone_generator _ _ _ _ _ _ (fronted _ _ (begins_with a)) (begins_argument_of a) (p.on_argument _ _ _ (begins_with a) (unkeyed a) (complete a)) (begins_clauses c) (complete_clauses c)

  pub complete_subscripts : {h : ℕ} {i : Subscript Expr} {ts : List Token} → Subscripts h i ts → CompleteSubscripts h i ts
  complete_subscripts (Subscripts.one a) = b.on_one _ _ _ (begins_with a) (complete a)
  complete_subscripts (Subscripts.several a c) = b.on_several _ _ _ _ _ _ _ (begins_with a) (complete a) c (complete_tail c)
  complete_subscripts (Subscripts.slice t Bound.unbound is a c) = b.on_open_slice _ _ _ _ _ _ t is (complete_bound a) c (complete_step c)
  complete_subscripts (Subscripts.slice t (Bound.bound l) is a c) = b.on_slice _ _ _ _ _ _ _ _ _ t (begins_with l) (complete l) is (complete_bound a) c (complete_step c)

  pub complete_bound : {h : ℕ} {x : Option Expr} {ts : List Token} → Bound h x ts → CompleteBound h x ts
  complete_bound Bound.unbound = b.on_unbound
  complete_bound (Bound.bound a) = b.on_bound _ _ _ (begins_with a) (complete a)

  pub complete_step : {h : ℕ} {x : Option Expr} {ts : List Token} → Step h x ts → CompleteStep h x ts
  complete_step Step.no_step = b.on_no_step
  complete_step (Step.step t is a) = b.on_step _ _ _ t is (complete_bound a)
