-- Expressions are tidy, of tidy parts.
use Rattle.std.proofs.Common.{◌≡◌, ℕ, ℤ, ◌<◌, true, false, List, [], ◌∷◌, map, Option, Some, None, refl, ap, ◌∙◌, sym, subst}
use Rattle.std.specs.List.{AllByRecursion}
use Rattle.op_forms.specs.declared.op.Op.TheVariants as op
use Rattle.nu_value.specs.declared.value.Value.{Value}
use Rattle.py_ast.specs.declared.expr.Unary.{Unary}
use Rattle.py_ast.specs.declared.expr.Binary.{Binary}
use Rattle.py_ast.specs.declared.expr.Junction.{Junction}
use Rattle.py_ast.specs.declared.expr.Item.{Item}
use Rattle.py_ast.specs.declared.expr.Entry.{Entry}
use Rattle.py_ast.specs.declared.expr.Argument.{Argument}
use Rattle.py_ast.specs.declared.expr.Link.{Link}
use Rattle.py_ast.specs.declared.expr.Param.{Param}
use Rattle.py_ast.specs.declared.expr.Subscript.{Subscript}
use Rattle.py_ast.specs.declared.expr.Clauses.{Clauses}
use Rattle.py_ast.specs.declared.expr.Expr.{Expr, fold-roll-Expr, roll-Expr}
use Rattle.py_ast.specs.declared.expr.Expr.TheVariants as e
use Rattle.py_ast.specs.declared.expr.Expr.TheOpen.{Expr-F}
use Rattle.py_ast.specs.declared.scoped.ScopeKind.TheVariants as kind
use Rattle.py_grammar.specs.Lists.{params_in_order}
use Rattle.py_scopes.specs.declared.survey.Role.{Role}
use Rattle.py_scopes.specs.declared.survey.Role.TheVariants as role
use Rattle.py_scopes.specs.declared.survey.What.TheVariants as what
use Rattle.py_scopes.specs.Parts.{option_of, entry_of, argument_of, link_of, param_of, clauses_of}
use Rattle.py_scopes.specs.Survey as survey
use Rattle.py_scopes.specs.Survey.{Adds, all, values, value_if, named, own_name, site, entry_adds, link_adds, arguments, function, comprehension}
use Rattle.py_meaning.specs.Syntax as syntax
use Rattle.py_meaning.specs.Resolved as resolved
use Rattle.py_meaning.specs.Resolved.{Context, Making, Part, pure, made, and_then, home_in, name_in, compared, unary_op, binary_op, is_or}
use Rattle.py_headings.proofs.Tidy.{Keeps, Stands, Makes, Tidy, OptionTidy, ItemTidy, EntryTidy, ArgumentTidy, LinkTidy, ParamTidy, SubscriptTidy, ClausesTidy}
use Rattle.py_headings.proofs.Mapped.{over, tuple_over, list_over, dict_over, list_of_over, dict_of_over, generator_over, lambda_over, compare_over, call_over, index_over, yield_over}
use Rattle.py_headings.proofs.Surveyed.{site_keeps, name_keeps, plain_keeps, values_keep, list_keeps, maybe_keeps, index_keeps, entries_keep, links_keep, arguments_keep, function_keeps, comprehension_keeps}
use Rattle.py_headings.proofs.Coded.{pure_makes, then_makes, made_makes, two_make, three_make, values_make, display_makes, display_targets, entries_make, compared_makes, maybe_makes, index_makes, index_targets, call_makes, function_makes, comprehension_makes}

-- One layer, as the survey and the codes have it

pub record Good (f : survey.Part) (p : Part) : Type 0 where
  pub seen : (wanted : Role) → Keeps (f wanted)
  pub value : (c : Context) → Stands c → Makes (p.value c)
  pub target : (c : Context) → Stands c → Makes (p.target c)

abbrev Layer : Expr-F survey.Part → Expr-F Part → Type 0
Layer u v = Good (survey.expr_adds u) (resolved.expr_part v)

tidy_by : (y : Expr-F Expr) (x : Expr) (u : Expr-F survey.Part) (v : Expr-F Part) → roll-Expr y ≡ x → over survey.expr y ≡ u → over resolved.expr y ≡ v → Layer u v → Tidy x
tidy_by y x u v is p q g =
    let seen : survey.expr (roll-Expr y) ≡ survey.expr_adds u = fold-roll-Expr survey.Part survey.expr_adds y ∙ ap survey.expr_adds p in
    let meant : resolved.expr (roll-Expr y) ≡ resolved.expr_part v = fold-roll-Expr Part resolved.expr_part y ∙ ap resolved.expr_part q in
    let h : Good (survey.expr (roll-Expr y)) (resolved.expr (roll-Expr y)) = subst (λ f. Good f (resolved.expr (roll-Expr y))) (sym seen) (subst (λ p. Good (survey.expr_adds u) p) (sym meant) g) in
    subst Tidy is (record { seen = h.seen; value = h.value; target = h.target })

-- what is never a target
valued : (line : ℕ) (f : Adds) (v : Context → Making syntax.Expression) → Keeps f → ((c : Context) → Stands c → Makes (v c)) → Good (survey.plain line f) (resolved.valued v)
valued line f v k m = record { seen = plain_keeps line f k; value = m; target = λ c s. pure_makes syntax.ToNothing }

constant : (line : ℕ) (v : Value) → Good (survey.plain line (all [])) (resolved.constant v)
constant line v = valued line (all []) (λ c. pure (syntax.Constant v)) (λ place s l. l) (λ c s. pure_makes (syntax.Constant v))

-- Atoms

none_is : (line : ℕ) → roll-Expr (Expr-F.None line) ≡ e.None line
unfolding roll-Expr denote.Hole.Carrier.roll
none_is line = refl

pub tidy_none : (line : ℕ) → Tidy (e.None line)
tidy_none line = tidy_by (Expr-F.None line) (e.None line) _ _ (none_is line) refl refl (constant line _)

true_is : (line : ℕ) → roll-Expr (Expr-F.True line) ≡ e.True line
unfolding roll-Expr denote.Hole.Carrier.roll
true_is line = refl

pub tidy_true : (line : ℕ) → Tidy (e.True line)
tidy_true line = tidy_by (Expr-F.True line) (e.True line) _ _ (true_is line) refl refl (constant line _)

false_is : (line : ℕ) → roll-Expr (Expr-F.False line) ≡ e.False line
unfolding roll-Expr denote.Hole.Carrier.roll
false_is line = refl

pub tidy_false : (line : ℕ) → Tidy (e.False line)
tidy_false line = tidy_by (Expr-F.False line) (e.False line) _ _ (false_is line) refl refl (constant line _)

number_is : (line : ℕ) (z : ℤ) → roll-Expr (Expr-F.Number line z) ≡ e.Number line z
unfolding roll-Expr denote.Hole.Carrier.roll
number_is line z = refl

pub tidy_number : (line : ℕ) (z : ℤ) → Tidy (e.Number line z)
tidy_number line z = tidy_by (Expr-F.Number line z) (e.Number line z) _ _ (number_is line z) refl refl (constant line _)

text_is : (line : ℕ) (x : List ℕ) → roll-Expr (Expr-F.Text line x) ≡ e.Text line x
unfolding roll-Expr denote.Hole.Carrier.roll
text_is line x = refl

pub tidy_text : (line : ℕ) (x : List ℕ) → Tidy (e.Text line x)
tidy_text line x = tidy_by (Expr-F.Text line x) (e.Text line x) _ _ (text_is line x) refl refl (constant line _)

name_is : (line : ℕ) (x : List ℕ) → roll-Expr (Expr-F.Name line x) ≡ e.Name line x
unfolding roll-Expr denote.Hole.Carrier.roll
name_is line x = refl

pub tidy_name : (line : ℕ) (x : List ℕ) → Tidy (e.Name line x)
tidy_name line x = tidy_by (Expr-F.Name line x) (e.Name line x) _ _ (name_is line x) refl refl (record {
  seen = λ wanted. name_keeps line (named wanted) x;
  value = λ c s. pure_makes (syntax.Name line (home_in c x));
  target = λ c s. pure_makes (syntax.ToName line (home_in c x));
})

-- Displays

tuple_is : (line : ℕ) (xs : List (Item Expr)) → roll-Expr (Expr-F.Tuple line xs) ≡ e.Tuple line xs
unfolding roll-Expr denote.Hole.Carrier.roll
tuple_is line xs = refl

pub tidy_tuple : (line : ℕ) (xs : List (Item Expr)) → AllByRecursion ItemTidy xs → Tidy (e.Tuple line xs)
tidy_tuple line xs t = tidy_by (Expr-F.Tuple line xs) (e.Tuple line xs) _ _ (tuple_is line xs) (tuple_over survey.expr line xs) (tuple_over resolved.expr line xs) (record {
  seen = list_keeps line xs t;
  value = λ c s. display_makes c s line op.Tuple true xs t;
  target = λ c s. display_targets c s line op.Tuple true xs t;
})

list_is : (line : ℕ) (xs : List (Item Expr)) → roll-Expr (Expr-F.List line xs) ≡ e.List line xs
unfolding roll-Expr denote.Hole.Carrier.roll
list_is line xs = refl

pub tidy_list : (line : ℕ) (xs : List (Item Expr)) → AllByRecursion ItemTidy xs → Tidy (e.List line xs)
tidy_list line xs t = tidy_by (Expr-F.List line xs) (e.List line xs) _ _ (list_is line xs) (list_over survey.expr line xs) (list_over resolved.expr line xs) (record {
  seen = list_keeps line xs t;
  value = λ c s. display_makes c s line op.List false xs t;
  target = λ c s. display_targets c s line op.List false xs t;
})

dict_is : (line : ℕ) (xs : List (Entry Expr)) → roll-Expr (Expr-F.Dict line xs) ≡ e.Dict line xs
unfolding roll-Expr denote.Hole.Carrier.roll
dict_is line xs = refl

pub tidy_dict : (line : ℕ) (xs : List (Entry Expr)) → AllByRecursion EntryTidy xs → Tidy (e.Dict line xs)
tidy_dict line xs t = tidy_by (Expr-F.Dict line xs) (e.Dict line xs) _ _ (dict_is line xs) (dict_over survey.expr line xs) (dict_over resolved.expr line xs)
    (valued line (all (map entry_adds (map (entry_of survey.expr) xs))) _ (entries_keep xs t) (λ c s. made_makes (syntax.Dict line) _ (entries_make c s xs t)))

-- Comprehensions and functions

list_of_is : (line : ℕ) (x : Expr) (cs : Clauses Expr) → roll-Expr (Expr-F.ListComprehension line x cs) ≡ e.ListComprehension line x cs
unfolding roll-Expr denote.Hole.Carrier.roll
list_of_is line x cs = refl

pub tidy_list_of : (line : ℕ) (x : Expr) (cs : Clauses Expr) → 0 < line → Tidy x → ClausesTidy cs → Tidy (e.ListComprehension line x cs)
tidy_list_of line x cs from_one t u = tidy_by (Expr-F.ListComprehension line x cs) (e.ListComprehension line x cs) _ _ (list_of_is line x cs) (list_of_over survey.expr line x cs) (list_of_over resolved.expr line x cs)
    (valued line (comprehension line kind.ListComprehension (map survey.expr (x ∷ [])) (clauses_of survey.expr cs)) _ (comprehension_keeps line kind.ListComprehension (x ∷ []) cs from_one (t, tt) u)
    (λ c s. comprehension_makes c s line (Some op.List) _ cs (λ d w. made_makes syntax.Push _ (t.value d w)) u))

dict_of_is : (line : ℕ) (x y : Expr) (cs : Clauses Expr) → roll-Expr (Expr-F.DictComprehension line x y cs) ≡ e.DictComprehension line x y cs
unfolding roll-Expr denote.Hole.Carrier.roll
dict_of_is line x y cs = refl

pub tidy_dict_of : (line : ℕ) (x y : Expr) (cs : Clauses Expr) → 0 < line → Tidy x → Tidy y → ClausesTidy cs → Tidy (e.DictComprehension line x y cs)
tidy_dict_of line x y cs from_one t v u = tidy_by (Expr-F.DictComprehension line x y cs) (e.DictComprehension line x y cs) _ _ (dict_of_is line x y cs) (dict_of_over survey.expr line x y cs) (dict_of_over resolved.expr line x y cs)
    (valued line (comprehension line kind.DictComprehension (map survey.expr (x ∷ y ∷ [])) (clauses_of survey.expr cs)) _ (comprehension_keeps line kind.DictComprehension (x ∷ y ∷ []) cs from_one (t, (v, tt)) u)
    (λ c s. comprehension_makes c s line (Some op.Dict) _ cs (λ d w. two_make syntax.Put _ _ (t.value d w) (v.value d w)) u))

generator_is : (line : ℕ) (x : Expr) (cs : Clauses Expr) → roll-Expr (Expr-F.Generator line x cs) ≡ e.Generator line x cs
unfolding roll-Expr denote.Hole.Carrier.roll
generator_is line x cs = refl

pub tidy_generator : (line : ℕ) (x : Expr) (cs : Clauses Expr) → 0 < line → Tidy x → ClausesTidy cs → Tidy (e.Generator line x cs)
tidy_generator line x cs from_one t u = tidy_by (Expr-F.Generator line x cs) (e.Generator line x cs) _ _ (generator_is line x cs) (generator_over survey.expr line x cs) (generator_over resolved.expr line x cs)
    (valued line (comprehension line kind.Generator (map survey.expr (x ∷ [])) (clauses_of survey.expr cs)) _ (comprehension_keeps line kind.Generator (x ∷ []) cs from_one (t, tt) u)
    (λ c s. comprehension_makes c s line None _ cs (λ d w. made_makes syntax.Emit _ (t.value d w)) u))

lambda_is : (line : ℕ) (ps : List (Param Expr)) (x : Expr) → roll-Expr (Expr-F.Lambda line ps x) ≡ e.Lambda line ps x
unfolding roll-Expr denote.Hole.Carrier.roll
lambda_is line ps x = refl

pub tidy_lambda : (line : ℕ) (ps : List (Param Expr)) (x : Expr) → 0 < line → AllByRecursion ParamTidy ps → params_in_order ps ≡ true → Tidy x → Tidy (e.Lambda line ps x)
tidy_lambda line ps x from_one t order u = tidy_by (Expr-F.Lambda line ps x) (e.Lambda line ps x) _ _ (lambda_is line ps x) (lambda_over survey.expr line ps x) (lambda_over resolved.expr line ps x)
    (valued line (function line kind.Lambda (own_name kind.Lambda) (map (param_of survey.expr) ps) (survey.expr x role.Value)) _ (function_keeps line kind.Lambda (own_name kind.Lambda) ps (survey.expr x role.Value) from_one t (u.seen role.Value))
    (λ c s. function_makes c s line ps (λ d. made syntax.Value' ((resolved.expr x).value d)) t order (λ d w. made_makes syntax.Value' _ (u.value d w))))

-- Attributes, items and calls

attribute_is : (line : ℕ) (x : Expr) (name : List ℕ) → roll-Expr (Expr-F.Attribute line x name) ≡ e.Attribute line x name
unfolding roll-Expr denote.Hole.Carrier.roll
attribute_is line x name = refl

pub tidy_attribute : (line : ℕ) (x : Expr) (name : List ℕ) → Tidy x → Tidy (e.Attribute line x name)
tidy_attribute line x name t = tidy_by (Expr-F.Attribute line x name) (e.Attribute line x name) _ _ (attribute_is line x name) refl refl (record {
  seen = λ wanted place s l. site_keeps line (what.Attribute name) place (survey.expr x role.Value place s) (t.seen role.Value place s l);
  value = λ c s. record { headed = (t.value c s).headed };
  target = λ c s. record { headed = (t.value c s).headed };
})

index_is : (line : ℕ) (x : Expr) (i : Subscript Expr) → roll-Expr (Expr-F.Index line x i) ≡ e.Index line x i
unfolding roll-Expr denote.Hole.Carrier.roll
index_is line x i = refl

pub tidy_index : (line : ℕ) (x : Expr) (i : Subscript Expr) → Tidy x → SubscriptTidy i → Tidy (e.Index line x i)
tidy_index line x i t u = tidy_by (Expr-F.Index line x i) (e.Index line x i) _ _ (index_is line x i) (index_over survey.expr line x i) (index_over resolved.expr line x i) (record {
  seen = index_keeps line x i t u;
  value = λ c s. index_makes c s line x i t u;
  target = λ c s. index_targets c s line x i t u;
})

call_is : (line : ℕ) (x : Expr) (xs : List (Argument Expr)) → roll-Expr (Expr-F.Call line x xs) ≡ e.Call line x xs
unfolding roll-Expr denote.Hole.Carrier.roll
call_is line x xs = refl

pub tidy_call : (line : ℕ) (x : Expr) (xs : List (Argument Expr)) → Tidy x → AllByRecursion ArgumentTidy xs → Tidy (e.Call line x xs)
tidy_call line x xs t u = tidy_by (Expr-F.Call line x xs) (e.Call line x xs) _ _ (call_is line x xs) (call_over survey.expr line x xs) (call_over resolved.expr line x xs)
    (valued line (λ place s. arguments line (map (argument_of survey.expr) xs) place (survey.expr x role.Value place s)) _ (λ place s l. arguments_keep line xs u place (survey.expr x role.Value place s) (t.seen role.Value place s l)) (λ c s. call_makes c s line x xs t u))

-- Operations

unary_is : (line : ℕ) (o : Unary) (x : Expr) → roll-Expr (Expr-F.Unary line o x) ≡ e.Unary line o x
unfolding roll-Expr denote.Hole.Carrier.roll
unary_is line o x = refl

pub tidy_unary : (line : ℕ) (o : Unary) (x : Expr) → Tidy x → Tidy (e.Unary line o x)
tidy_unary line o x t = tidy_by (Expr-F.Unary line o x) (e.Unary line o x) _ _ (unary_is line o x) refl refl
    (valued line (survey.expr x role.Value) _ (t.seen role.Value) (λ c s. made_makes (syntax.Operation line (unary_op o)) _ (values_make c s (x ∷ []) (t, tt))))

binary_is : (line : ℕ) (o : Binary) (x y : Expr) → roll-Expr (Expr-F.Binary line o x y) ≡ e.Binary line o x y
unfolding roll-Expr denote.Hole.Carrier.roll
binary_is line o x y = refl

pub tidy_binary : (line : ℕ) (o : Binary) (x y : Expr) → Tidy x → Tidy y → Tidy (e.Binary line o x y)
tidy_binary line o x y t u = tidy_by (Expr-F.Binary line o x y) (e.Binary line o x y) _ _ (binary_is line o x y) refl refl
    (valued line (values (map survey.expr (x ∷ y ∷ []))) _ (values_keep (x ∷ y ∷ []) (t, (u, tt))) (λ c s. made_makes (syntax.Operation line (binary_op o)) _ (values_make c s (x ∷ y ∷ []) (t, (u, tt)))))

compare_is : (line : ℕ) (x : Expr) (xs : List (Link Expr)) → roll-Expr (Expr-F.Compare line x xs) ≡ e.Compare line x xs
unfolding roll-Expr denote.Hole.Carrier.roll
compare_is line x xs = refl

pub tidy_compare : (line : ℕ) (x : Expr) (xs : List (Link Expr)) → Tidy x → AllByRecursion LinkTidy xs → Tidy (e.Compare line x xs)
tidy_compare line x xs t u = tidy_by (Expr-F.Compare line x xs) (e.Compare line x xs) _ _ (compare_is line x xs) (compare_over survey.expr line x xs) (compare_over resolved.expr line x xs)
    (valued line (λ place s. all (map link_adds (map (link_of survey.expr) xs)) place (survey.expr x role.Value place s)) _ (λ place s l. links_keep xs u place (survey.expr x role.Value place s) (t.seen role.Value place s l)) (λ c s. then_makes ((resolved.expr x).value c) _ (t.value c s) (λ v. compared_makes c s line v xs u)))

not_is : (line : ℕ) (x : Expr) → roll-Expr (Expr-F.Not line x) ≡ e.Not line x
unfolding roll-Expr denote.Hole.Carrier.roll
not_is line x = refl

pub tidy_not : (line : ℕ) (x : Expr) → Tidy x → Tidy (e.Not line x)
tidy_not line x t = tidy_by (Expr-F.Not line x) (e.Not line x) _ _ (not_is line x) refl refl (valued line (survey.expr x role.Value) _ (t.seen role.Value) (λ c s. record { headed = (t.value c s).headed }))

junction_is : (line : ℕ) (j : Junction) (x y : Expr) → roll-Expr (Expr-F.Junction line j x y) ≡ e.Junction line j x y
unfolding roll-Expr denote.Hole.Carrier.roll
junction_is line j x y = refl

pub tidy_junction : (line : ℕ) (j : Junction) (x y : Expr) → Tidy x → Tidy y → Tidy (e.Junction line j x y)
tidy_junction line j x y t u = tidy_by (Expr-F.Junction line j x y) (e.Junction line j x y) _ _ (junction_is line j x y) refl refl
    (valued line (values (map survey.expr (x ∷ y ∷ []))) _ (values_keep (x ∷ y ∷ []) (t, (u, tt))) (λ c s. two_make (syntax.Junction line (is_or j)) _ _ (t.value c s) (u.value c s)))

conditional_is : (line : ℕ) (x y z : Expr) → roll-Expr (Expr-F.Conditional line x y z) ≡ e.Conditional line x y z
unfolding roll-Expr denote.Hole.Carrier.roll
conditional_is line x y z = refl

pub tidy_conditional : (line : ℕ) (x y z : Expr) → Tidy x → Tidy y → Tidy z → Tidy (e.Conditional line x y z)
tidy_conditional line x y z t u v = tidy_by (Expr-F.Conditional line x y z) (e.Conditional line x y z) _ _ (conditional_is line x y z) refl refl
    (valued line (values (map survey.expr (y ∷ x ∷ z ∷ []))) _ (values_keep (y ∷ x ∷ z ∷ []) (u, (t, (v, tt))))
    (λ c s. three_make (λ (a b d : syntax.Expression). syntax.Conditional line b a d) _ _ _ (u.value c s) (t.value c s) (v.value c s)))

yield_is : (line : ℕ) (o : Option Expr) → roll-Expr (Expr-F.Yield line o) ≡ e.Yield line o
unfolding roll-Expr denote.Hole.Carrier.roll
yield_is line o = refl

pub tidy_yield : (line : ℕ) (o : Option Expr) → OptionTidy o → Tidy (e.Yield line o)
tidy_yield line o t = tidy_by (Expr-F.Yield line o) (e.Yield line o) _ _ (yield_is line o) (yield_over survey.expr line o) (yield_over resolved.expr line o)
    (valued line (λ place s. value_if (option_of survey.expr o) place (site line what.Yield place s)) _ (λ place s l. maybe_keeps o t place (site line what.Yield place s) (site_keeps line what.Yield place s l)) (λ c s. made_makes (syntax.Yield line) _ (maybe_makes c s o t)))

yield_from_is : (line : ℕ) (x : Expr) → roll-Expr (Expr-F.YieldFrom line x) ≡ e.YieldFrom line x
unfolding roll-Expr denote.Hole.Carrier.roll
yield_from_is line x = refl

pub tidy_yield_from : (line : ℕ) (x : Expr) → Tidy x → Tidy (e.YieldFrom line x)
tidy_yield_from line x t = tidy_by (Expr-F.YieldFrom line x) (e.YieldFrom line x) _ _ (yield_from_is line x) refl refl
    (valued line (λ place s. survey.expr x role.Value place (site line what.Yield place s)) _ (λ place s l. t.seen role.Value place (site line what.Yield place s) (site_keeps line what.Yield place s l)) (λ c s. made_makes (syntax.YieldFrom line) _ (t.value c s)))

star_is : (line : ℕ) (x : Expr) → roll-Expr (Expr-F.Star line x) ≡ e.Star line x
unfolding roll-Expr denote.Hole.Carrier.roll
star_is line x = refl

pub tidy_star : (line : ℕ) (x : Expr) → Tidy x → Tidy (e.Star line x)
tidy_star line x t = tidy_by (Expr-F.Star line x) (e.Star line x) _ _ (star_is line x) refl refl (record {
  seen = λ wanted place s l. t.seen role.Value place (site line what.Misplaced place s) (site_keeps line what.Misplaced place s l);
  value = t.value;
  target = t.target;
})
