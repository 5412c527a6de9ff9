-- Expressions, as they are made and as they are walked.
use Rattle.std.proofs.Common.{ℕ, true, false, List, [], ◌∷◌, Option, Some, None, refl, sym, subst}
use Rattle.nu_value.specs.declared.value.Value.{Value}
use Rattle.op_forms.specs.declared.op.Op.TheVariants as op
use Rattle.py_ast.specs.declared.expr.Item.{Item}
use Rattle.py_ast.specs.declared.expr.Item.TheVariants as item
use Rattle.py_ast.specs.declared.expr.Entry.{Entry}
use Rattle.py_ast.specs.declared.expr.Entry.TheVariants as entry
use Rattle.py_ast.specs.declared.expr.Argument.{Argument}
use Rattle.py_ast.specs.declared.expr.Argument.TheVariants as argument
use Rattle.py_ast.specs.declared.expr.Link.{Link}
use Rattle.py_ast.specs.declared.expr.Param.{Param}
use Rattle.py_ast.specs.declared.expr.Param.TheVariants as param
use Rattle.py_ast.specs.declared.expr.Subscript.{Subscript}
use Rattle.py_ast.specs.declared.expr.Subscript.TheVariants as subscript
use Rattle.py_ast.specs.declared.expr.Clause.{Clause}
use Rattle.py_ast.specs.declared.expr.Clause.TheVariants as clause
use Rattle.py_ast.specs.declared.expr.Expr.{Expr, fold-roll-Expr, map-Expr, roll-Expr, ind-Expr}
use Rattle.py_ast.specs.declared.expr.Expr.TheOpen.{Expr-F}
use Rattle.py_meaning.specs.Syntax as syntax
use Rattle.py_meaning.specs.Resolved as meaning
use Rattle.py_meaning.specs.Resolved.{Context, Making}
use Rattle.carries_base.specs.Carries.{Carrier}
use Rattle.carried_codes.specs.Parts.{Valued}
use Rattle.carried_codes.specs.Expressions as expressions
use Rattle.carried_codes.specs.Places as places
use Rattle.carried_codes.specs.Statements as statements
use Rattle.walk_laws.specs.States.{Walking}
use Rattle.walk_laws.specs.Contexts.{seat_in}
use Rattle.walk_laws.specs.Expressions as walk
use Rattle.walk_laws.specs.Composed.{As, AsMeant, value_at, ExpressionsAreWalked}
use Rattle.walk_laws.proofs.Threads.{out, value_out, block_out, nothing, alone, one, two, three, four, as_made, joined_pure}
use Rattle.walk_laws.proofs.Lists.{Parts, no_part, part, MayBe, absent, present, Items, no_item, Entries, no_entry, Links, no_link, Arguments, no_argument, values_at, values_walked, operated_walked, maybe_walked}
use Rattle.walk_laws.proofs.Lists as lists
use Rattle.walk_laws.proofs.Targets.{targets_walked}
use Rattle.walk_laws.proofs.Functions as functions
use Rattle.walk_laws.proofs.Functions.{Params, no_param, function_walked}
use Rattle.walk_laws.proofs.Comprehensions.{Further, no_clause, ranging, testing, comprehension_walked}

-- One layer of an expression, whose parts are walked as they mean

abbrev Sure : Type 0
Sure = (x : Expr) × AsMeant (meaning.expr x) (walk.expr x)

abbrev bare : Expr-F Sure → Expr-F Expr
bare y = map-Expr Sure Expr (λ e. e.0) y

abbrev meant : Expr-F Sure → Expr-F meaning.Part
meant y = map-Expr Expr meaning.Part meaning.expr (bare y)

abbrev gone : Expr-F Sure → Expr-F walk.Part
gone y = map-Expr Expr walk.Part walk.expr (bare y)

abbrev Layer : Expr-F Sure → Type 0
Layer y = AsMeant (meaning.expr_part (meant y)) (walk.expr_part (gone y))

-- what is never a target
only : {v : Context → Making syntax.Expression} {w : Context → Walking Carrier} → ((c : Context) → As (value_at c) (v c) (w c)) → AsMeant (meaning.valued v) (walk.only w)
only a = record { value = a; target = λ c. nothing syntax.ToNothing places.Nothing (λ t. refl) }

constant : (v : Value) → AsMeant (meaning.constant v) (walk.constant v)
constant v = only (λ c. nothing (syntax.Constant v) (walk.bare v) (λ t. refl))

named : (line : ℕ) (x : List ℕ) → Layer (Expr-F.Name line x)
named line x = record {
  value = λ c. alone (syntax.Name line (meaning.home_in c x));
  target = λ c. nothing (syntax.ToName line (meaning.home_in c x)) (places.Name line (seat_in c x)) (λ t. refl);
}

-- The lists in a layer

abbrev items_of : {A : Type 0} → Expr-F A → List (Item A)
items_of (Expr-F.Tuple line xs) = xs
items_of (Expr-F.List line xs) = xs
items_of y = []

tuple_items : (line : ℕ) (xs : List (Item Sure)) → let l = Expr-F.Tuple line xs in Items (items_of (meant l)) (items_of (gone l))
tuple_items line [] = no_item
tuple_items line (item.One x ∷ xs) = lists.single x.1 (tuple_items line xs)
tuple_items line (item.Star n x ∷ xs) = lists.starred n x.1 (tuple_items line xs)

list_items : (line : ℕ) (xs : List (Item Sure)) → let l = Expr-F.List line xs in Items (items_of (meant l)) (items_of (gone l))
list_items line [] = no_item
list_items line (item.One x ∷ xs) = lists.single x.1 (list_items line xs)
list_items line (item.Star n x ∷ xs) = lists.starred n x.1 (list_items line xs)

abbrev entries_of : {A : Type 0} → Expr-F A → List (Entry A)
entries_of (Expr-F.Dict line xs) = xs
entries_of y = []

dict_entries : (line : ℕ) (xs : List (Entry Sure)) → let l = Expr-F.Dict line xs in Entries (entries_of (meant l)) (entries_of (gone l))
dict_entries line [] = no_entry
dict_entries line (entry.Pair x y ∷ xs) = lists.pair x.1 y.1 (dict_entries line xs)
dict_entries line (entry.Merge x ∷ xs) = lists.merged x.1 (dict_entries line xs)

abbrev links_of : {A : Type 0} → Expr-F A → List (Link A)
links_of (Expr-F.Compare line x xs) = xs
links_of y = []

chain_links : (line : ℕ) (y : Sure) (xs : List (Link Sure)) → let l = Expr-F.Compare line y xs in Links (links_of (meant l)) (links_of (gone l))
chain_links line y [] = no_link
chain_links line y (x ∷ xs) = lists.link x.comparison x.right.1 (chain_links line y xs)

abbrev arguments_of : {A : Type 0} → Expr-F A → List (Argument A)
arguments_of (Expr-F.Call line x xs) = xs
arguments_of y = []

call_arguments : (line : ℕ) (y : Sure) (xs : List (Argument Sure)) → let l = Expr-F.Call line y xs in Arguments (arguments_of (meant l)) (arguments_of (gone l))
call_arguments line y [] = no_argument
call_arguments line y (argument.Plain x ∷ xs) = lists.plain x.1 (call_arguments line y xs)
call_arguments line y (argument.Star x ∷ xs) = lists.spread x.1 (call_arguments line y xs)
call_arguments line y (argument.Keyword n name x ∷ xs) = lists.keyword n name x.1 (call_arguments line y xs)
call_arguments line y (argument.Merge x ∷ xs) = lists.double x.1 (call_arguments line y xs)

abbrev params_of : {A : Type 0} → Expr-F A → List (Param A)
params_of (Expr-F.Lambda line ps body) = ps
params_of y = []

lambda_params : (line : ℕ) (body : Sure) (ps : List (Param Sure)) → let l = Expr-F.Lambda line ps body in Params (params_of (meant l)) (params_of (gone l))
lambda_params line body [] = no_param
lambda_params line body (param.Named l x None ∷ ps) = functions.required l x (lambda_params line body ps)
lambda_params line body (param.Named l x (Some d) ∷ ps) = functions.optional l x d.1 (lambda_params line body ps)
lambda_params line body (param.Slash l ∷ ps) = functions.slash l (lambda_params line body ps)
lambda_params line body (param.Star l x ∷ ps) = functions.star l x (lambda_params line body ps)
lambda_params line body (param.DoubleStar l x ∷ ps) = functions.double l x (lambda_params line body ps)

abbrev clauses_of : {A : Type 0} → Expr-F A → List (Clause A)
clauses_of (Expr-F.ListComprehension line x c) = c.more
clauses_of (Expr-F.DictComprehension line x y c) = c.more
clauses_of (Expr-F.Generator line x c) = c.more
clauses_of y = []

list_clauses : (line : ℕ) (e x y : Sure) (cs : List (Clause Sure)) → let l = Expr-F.ListComprehension line e (record { target = x; iterable = y; more = cs }) in Further (clauses_of (meant l)) (clauses_of (gone l))
list_clauses line e x y [] = no_clause
list_clauses line e x y (clause.For n a b ∷ cs) = ranging n a.1 b.1 (list_clauses line e x y cs)
list_clauses line e x y (clause.If n a ∷ cs) = testing n a.1 (list_clauses line e x y cs)

dict_clauses : (line : ℕ) (e f x y : Sure) (cs : List (Clause Sure)) → let l = Expr-F.DictComprehension line e f (record { target = x; iterable = y; more = cs }) in Further (clauses_of (meant l)) (clauses_of (gone l))
dict_clauses line e f x y [] = no_clause
dict_clauses line e f x y (clause.For n a b ∷ cs) = ranging n a.1 b.1 (dict_clauses line e f x y cs)
dict_clauses line e f x y (clause.If n a ∷ cs) = testing n a.1 (dict_clauses line e f x y cs)

generator_clauses : (line : ℕ) (e x y : Sure) (cs : List (Clause Sure)) → let l = Expr-F.Generator line e (record { target = x; iterable = y; more = cs }) in Further (clauses_of (meant l)) (clauses_of (gone l))
generator_clauses line e x y [] = no_clause
generator_clauses line e x y (clause.For n a b ∷ cs) = ranging n a.1 b.1 (generator_clauses line e x y cs)
generator_clauses line e x y (clause.If n a ∷ cs) = testing n a.1 (generator_clauses line e x y cs)

-- Subscripts

abbrev subscript_of : {A : Type 0} → Expr-F A → Option (Subscript A)
subscript_of (Expr-F.Index line x i) = Some i
subscript_of y = None

abbrev several_of : {A : Type 0} → Option (Subscript A) → List A
several_of (Some (subscript.Several xs)) = xs
several_of o = []

abbrev lower_of : {A : Type 0} → Option (Subscript A) → Option A
lower_of (Some (subscript.Slice a b d)) = a
lower_of o = None

abbrev upper_of : {A : Type 0} → Option (Subscript A) → Option A
upper_of (Some (subscript.Slice a b d)) = b
upper_of o = None

abbrev step_of : {A : Type 0} → Option (Subscript A) → Option A
step_of (Some (subscript.Slice a b d)) = d
step_of o = None

several_parts : (line : ℕ) (y : Sure) (xs : List Sure) → let l = Expr-F.Index line y (subscript.Several xs) in Parts (several_of (subscript_of (meant l))) (several_of (subscript_of (gone l)))
several_parts line y [] = no_part
several_parts line y (x ∷ xs) = part x.1 (several_parts line y xs)

lower_part : (line : ℕ) (y : Sure) (a b d : Option Sure) → let l = Expr-F.Index line y (subscript.Slice a b d) in MayBe (lower_of (subscript_of (meant l))) (lower_of (subscript_of (gone l)))
lower_part line y None b d = absent
lower_part line y (Some x) b d = present x.1

upper_part : (line : ℕ) (y : Sure) (a b d : Option Sure) → let l = Expr-F.Index line y (subscript.Slice a b d) in MayBe (upper_of (subscript_of (meant l))) (upper_of (subscript_of (gone l)))
upper_part line y a None d = absent
upper_part line y a (Some x) d = present x.1

step_part : (line : ℕ) (y : Sure) (a b d : Option Sure) → let l = Expr-F.Index line y (subscript.Slice a b d) in MayBe (step_of (subscript_of (meant l))) (step_of (subscript_of (gone l)))
step_part line y a b None = absent
step_part line y a b (Some x) = present x.1

-- Attributes and items

attribute : (line : ℕ) (x : Sure) (name : List ℕ) → Layer (Expr-F.Attribute line x name)
attribute line x name = record {
  value = λ c. let n = meaning.name_in c name in
      one (λ (o : syntax.Expression). syntax.Operation line op.Attr (syntax.More o (syntax.More (meaning.text n) syntax.NoMore)))
      (λ p t. value_out (expressions.operate line op.Attr (p ∷ walk.text n ∷ []) t)) (λ t x. refl) (x.1.value c);
  target = λ c. let n = meaning.name_in c name in
      one (λ (o : syntax.Expression). syntax.ToAttribute line o n) (λ p t. out (places.Attribute line p n) t) (λ t x. refl) (x.1.value c);
}

index : (line : ℕ) (x y : Sure) → Layer (Expr-F.Index line x (subscript.One y))
index line x y = record {
  value = λ c. operated_walked c line op.Index (values_walked c (part x.1 (part y.1 no_part)));
  target = λ c. two (syntax.ToIndex line) (λ p q t. out (places.Index line p q) t) (λ t x y. refl) (x.1.value c) (y.1.value c);
}

abbrev on_several : ℕ → Carrier → List Carrier → ℕ → Valued
on_several line p ps t = let q = expressions.operate line op.Tuple ps t in expressions.operate line op.Index (p ∷ q.part ∷ []) q.next

several : (line : ℕ) (x : Sure) (xs : List Sure) → Layer (Expr-F.Index line x (subscript.Several xs))
several line x xs = record {
  value = λ c.
      two (λ o vs. syntax.Operation line op.Index (syntax.More o (syntax.More (syntax.Operation line op.Tuple vs) syntax.NoMore)))
      (λ p ps t. value_out (on_several line p ps t)) (λ t x y. refl) (x.1.value c) (values_walked c (several_parts line x xs));
  target = λ c.
      two (λ o vs. syntax.ToIndex line o (syntax.Operation line op.Tuple vs))
      (λ p ps t. let q = expressions.operate line op.Tuple ps t in out (places.Index line p q.part) q.next) (λ t x y. refl) (x.1.value c) (values_walked c (several_parts line x xs));
}

slice : (line : ℕ) (x : Sure) (a b d : Option Sure) → Layer (Expr-F.Index line x (subscript.Slice a b d))
slice line x a b d = record {
  value = λ c.
      four (λ o l u s. syntax.Operation line op.Slice (syntax.More o (syntax.More l (syntax.More u (syntax.More s syntax.NoMore)))))
      (λ o l u s t. value_out (expressions.operate line op.Slice (o ∷ l ∷ u ∷ s ∷ []) t)) (λ t x y z w. refl)
      (x.1.value c) (maybe_walked c (lower_part line x a b d)) (maybe_walked c (upper_part line x a b d)) (maybe_walked c (step_part line x a b d));
  target = λ c. nothing syntax.ToNothing places.Nothing (λ t. refl);
}

-- Comparisons

compare : (line : ℕ) (x : Sure) (xs : List (Link Sure)) → Layer (Expr-F.Compare line x xs)
compare line x [] = let p = meaning.expr x.0 in only (λ c.
    as_made (meaning.made (λ v. v) (p.value c)) (meaning.and_then (p.value c) meaning.pure) (λ n. sym (joined_pure (p.value c) (λ v. v) n)) (x.1.value c))
compare line x (y ∷ ys) = only (λ c.
    two (syntax.Comparison line) (λ p ls t. value_out (expressions.chain line p ls t)) (λ t x y. refl) (x.1.value c) (lists.links_walked c y.comparison y.right.1 (chain_links line x ys)))

-- Functions and comprehensions

lambda : (line : ℕ) (ps : List (Param Sure)) (x : Sure) → Layer (Expr-F.Lambda line ps x)
lambda line ps x = only (λ c. function_walked c line (lambda_params line x ps)
    (λ d. one syntax.Value' (λ p t. block_out (statements.return_value p t)) (λ t x. refl) (x.1.value d)))

list_made : (line : ℕ) (e x y : Sure) (cs : List (Clause Sure)) → Layer (Expr-F.ListComprehension line e (record { target = x; iterable = y; more = cs }))
list_made line e x y cs = only (λ c.
    comprehension_walked c line (Some op.List) (λ d. meaning.made syntax.Push ((meaning.expr e.0).value d)) (walk.pushed line (walk.expr e.0)) x.1 y.1 (list_clauses line e x y cs)
    (λ d to. one syntax.Push (λ p t. block_out (statements.push line to p t)) (λ t x. refl) (e.1.value d)) (λ d n. tt))

dict_made : (line : ℕ) (e f x y : Sure) (cs : List (Clause Sure)) → Layer (Expr-F.DictComprehension line e f (record { target = x; iterable = y; more = cs }))
dict_made line e f x y cs = only (λ c.
    comprehension_walked c line (Some op.Dict) (λ d. meaning.and_then ((meaning.expr e.0).value d) (λ k. meaning.made (syntax.Put k) ((meaning.expr f.0).value d)))
    (walk.put line (walk.expr e.0) (walk.expr f.0)) x.1 y.1 (dict_clauses line e f x y cs)
    (λ d to. two syntax.Put (λ k p t. block_out (statements.put line to k p t)) (λ t x y. refl) (e.1.value d) (f.1.value d)) (λ d n. tt))

generator : (line : ℕ) (e x y : Sure) (cs : List (Clause Sure)) → Layer (Expr-F.Generator line e (record { target = x; iterable = y; more = cs }))
generator line e x y cs = only (λ c.
    comprehension_walked c line None (λ d. meaning.made syntax.Emit ((meaning.expr e.0).value d)) (walk.emitted line (walk.expr e.0)) x.1 y.1 (generator_clauses line e x y cs)
    (λ d to. one syntax.Emit (λ p t. block_out (statements.emit line p t)) (λ t x. refl) (e.1.value d)) (λ d n. tt))

yielded : (line : ℕ) (x : Option Sure) → Layer (Expr-F.Yield line x)
yielded line None = only (λ c. one (syntax.Yield line) (λ p t. value_out (expressions.yield_value line p t)) (λ t x. refl) (maybe_walked c absent))
yielded line (Some x) = only (λ c. one (syntax.Yield line) (λ p t. value_out (expressions.yield_value line p t)) (λ t x. refl) (x.1.value c))

layer : (y : Expr-F Sure) → Layer y
layer (Expr-F.None line) = constant _
layer (Expr-F.True line) = constant _
layer (Expr-F.False line) = constant _
layer (Expr-F.Number line v) = constant _
layer (Expr-F.Text line x) = constant _
layer (Expr-F.Name line x) = named line x
layer (Expr-F.Tuple line xs) = record { value = λ c. lists.display_walked c line op.Tuple true (tuple_items line xs); target = λ c. targets_walked c line (tuple_items line xs) }
layer (Expr-F.List line xs) = record { value = λ c. lists.display_walked c line op.List false (list_items line xs); target = λ c. targets_walked c line (list_items line xs) }
layer (Expr-F.Dict line xs) = only (λ c. lists.dict_walked c line (dict_entries line xs))
layer (Expr-F.ListComprehension line e c) = list_made line e c.target c.iterable c.more
layer (Expr-F.DictComprehension line e f c) = dict_made line e f c.target c.iterable c.more
layer (Expr-F.Generator line e c) = generator line e c.target c.iterable c.more
layer (Expr-F.Attribute line x name) = attribute line x name
layer (Expr-F.Index line x (subscript.One y)) = index line x y
layer (Expr-F.Index line x (subscript.Several xs)) = several line x xs
layer (Expr-F.Index line x (subscript.Slice a b d)) = slice line x a b d
layer (Expr-F.Call line x xs) = only (λ c. lists.call_walked c line x.1 (call_arguments line x xs))
layer (Expr-F.Unary line sign x) = only (λ c. operated_walked c line (meaning.unary_op sign) (values_walked c (part x.1 no_part)))
layer (Expr-F.Binary line sign x y) = only (λ c. operated_walked c line (meaning.binary_op sign) (values_walked c (part x.1 (part y.1 no_part))))
layer (Expr-F.Compare line x xs) = compare line x xs
layer (Expr-F.Not line x) = only (λ c.
    one (λ v. syntax.Operation line op.Not (syntax.More (syntax.Operation line op.Truth (syntax.More v syntax.NoMore)) syntax.NoMore))
    (λ p t. let q = expressions.operate line op.Truth (p ∷ []) t in value_out (expressions.operate line op.Not (q.part ∷ []) q.next)) (λ t x. refl) (x.1.value c))
layer (Expr-F.Junction line j x y) = only (λ c.
    two (syntax.Junction line (meaning.is_or j)) (λ p q t. value_out (expressions.both line (meaning.is_or j) p q t)) (λ t x y. refl) (x.1.value c) (y.1.value c))
layer (Expr-F.Conditional line o x y) = only (λ c.
    three (λ v o w. syntax.Conditional line o v w) (λ p o q t. value_out (expressions.choose line o p q t)) (λ t x y z. refl) (x.1.value c) (o.1.value c) (y.1.value c))
layer (Expr-F.Lambda line ps x) = lambda line ps x
layer (Expr-F.Yield line x) = yielded line x
layer (Expr-F.YieldFrom line x) = only (λ c. one (syntax.YieldFrom line) (λ p t. value_out (expressions.delegate line p t)) (λ t x. refl) (x.1.value c))
layer (Expr-F.Star line x) = x.1

pub expressions_are_walked : ExpressionsAreWalked
expressions_are_walked = ind-Expr (λ x. AsMeant (meaning.expr x) (walk.expr x)) (λ x y is.
    subst (λ w. AsMeant (meaning.expr (roll-Expr w)) (walk.expr (roll-Expr w))) is
    (subst (λ p. AsMeant p (walk.expr (roll-Expr (bare y)))) (sym (fold-roll-Expr meaning.Part meaning.expr_part (bare y)))
    (subst (λ q. AsMeant (meaning.expr_part (meant y)) q) (sym (fold-roll-Expr walk.Part walk.expr_part (bare y))) (layer y))))
