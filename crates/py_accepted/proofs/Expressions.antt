-- Expressions of accepted scripts are lawful.
use Rattle.std.proofs.Common.{◌≡◌, ℕ, suc, Bool, true, false, cond, List, [], ◌∷◌, length, map, Option, Some, None, refl, ap, ◌∙◌, sym, subst, arith}
use Rattle.std.specs.List.{list_any}
use Rattle.std.proofs.lemmas.Bool.{or_right}
use Rattle.nu_value.specs.declared.value.Value.{Value}
use Rattle.op_forms.specs.declared.op.Op.{Op}
use Rattle.op_forms.specs.declared.op.Op.TheVariants as op
use Rattle.op_forms.specs.declared.signature.ArgumentKind.TheVariants as operand
use Rattle.py_ast.specs.declared.expr.Unary.{Unary}
use Rattle.py_ast.specs.declared.expr.Unary.TheVariants as unary
use Rattle.py_ast.specs.declared.expr.Binary.{Binary}
use Rattle.py_ast.specs.declared.expr.Binary.TheVariants as binary
use Rattle.py_ast.specs.declared.expr.Comparison.{Comparison}
use Rattle.py_ast.specs.declared.expr.Comparison.TheVariants as comparison
use Rattle.py_ast.specs.declared.expr.Item.{Item}
use Rattle.py_ast.specs.declared.expr.Item.TheVariants as item
use Rattle.py_ast.specs.declared.expr.Entry.{Entry}
use Rattle.py_ast.specs.declared.expr.Entry.TheVariants as entry
use Rattle.py_ast.specs.declared.expr.Argument.{Argument}
use Rattle.py_ast.specs.declared.expr.Argument.TheVariants as argument
use Rattle.py_ast.specs.declared.expr.Link.{Link}
use Rattle.py_ast.specs.declared.expr.Param.{Param}
use Rattle.py_ast.specs.declared.expr.Param.TheVariants as param
use Rattle.py_ast.specs.declared.expr.Subscript.{Subscript}
use Rattle.py_ast.specs.declared.expr.Subscript.TheVariants as subscript
use Rattle.py_ast.specs.declared.expr.Clause.{Clause}
use Rattle.py_ast.specs.declared.expr.Clause.TheVariants as clause
use Rattle.py_ast.specs.declared.expr.Expr.{Expr, fold-roll-Expr, map-Expr, roll-Expr, ind-Expr}
use Rattle.py_ast.specs.declared.expr.Expr.TheOpen.{Expr-F}
use Rattle.py_ast.specs.declared.scoped.ScopeKind.TheVariants as kind
use Rattle.py_scopes.specs.declared.survey.Role.TheVariants as role
use Rattle.py_scopes.specs.declared.survey.What.TheVariants as what
use Rattle.py_scopes.specs.declared.survey.Place.{Place}
use Rattle.py_scopes.specs.declared.survey.Survey.{Survey}
use Rattle.py_scopes.specs.Survey as survey
use Rattle.py_scopes.specs.Survey.{Adds as Adding, all, plain, entry_adds, link_adds, argument_adds, value_if, is_generator_kind}
use Rattle.py_scopes.specs.Homes.{somewhere}
use Rattle.py_scopes.specs.Resolve.{is_yield}
use Rattle.py_meaning.specs.Syntax as syntax
use Rattle.py_meaning.specs.Resolved as resolved
use Rattle.py_meaning.specs.Resolved.{Context, Making, pure, made, and_then, valued, handed, header, home_in, name_in, unary_op, binary_op, augmented_op, comparison_op, is_negated, is_or, all_plain, is_star}
use Rattle.py_safe.specs.Rosters.{Roster}
use Rattle.py_safe.specs.Constructs.{Room, LawfulExpression, LawfulOperands, LawfulLinks, LawfulEntries, LawfulArguments, TakesTwo, MayNegate}
use Rattle.py_accepted.proofs.Names.{scope_at}
use Rattle.py_accepted.proofs.Doing.{Case, Does, nothing, chain, made_of, two, three, four, ahead, behind, only, refused, wider}
use Rattle.py_accepted.proofs.Places.{context, At, at_name, any_name, any_site, at_yield}
use Rattle.py_accepted.proofs.Inner.{own, names_of}
use Rattle.py_accepted.proofs.Parts.{Good, Items, no_item, one, star, operands, spread, all_targets, all_deleted, Clauses, no_clause, ranging, testing, Parameters, no_param, required, optional, slash, starred, double, either, at_number}
use Rattle.py_accepted.proofs.Functions.{function_does, comprehension_does}

-- Operations

unary_lawful : (sign : Unary) (c : Roster) (r : Room) (line : ℕ) (xs : syntax.Expressions) → LawfulOperands c r (operand.Value ∷ []) None xs → LawfulExpression c r (syntax.Operation line (unary_op sign) xs)
unary_lawful unary.Plus c r line xs h = h
unary_lawful unary.Minus c r line xs h = h
unary_lawful unary.Invert c r line xs h = h

binary_lawful : (sign : Binary) (c : Roster) (r : Room) (line : ℕ) (xs : syntax.Expressions) → LawfulOperands c r (operand.Value ∷ operand.Value ∷ []) None xs → LawfulExpression c r (syntax.Operation line (binary_op sign) xs)
binary_lawful binary.BitOr c r line xs h = h
binary_lawful binary.BitXor c r line xs h = h
binary_lawful binary.BitAnd c r line xs h = h
binary_lawful binary.LeftShift c r line xs h = h
binary_lawful binary.RightShift c r line xs h = h
binary_lawful binary.Add c r line xs h = h
binary_lawful binary.Subtract c r line xs h = h
binary_lawful binary.Multiply c r line xs h = h
binary_lawful binary.FloorDivide c r line xs h = h
binary_lawful binary.Remainder c r line xs h = h
binary_lawful binary.Power c r line xs h = h

pub augmented_takes : (sign : Binary) → TakesTwo (augmented_op sign)
augmented_takes binary.BitOr = record { two = refl; only = refl }
augmented_takes binary.BitXor = record { two = refl; only = refl }
augmented_takes binary.BitAnd = record { two = refl; only = refl }
augmented_takes binary.LeftShift = record { two = refl; only = refl }
augmented_takes binary.RightShift = record { two = refl; only = refl }
augmented_takes binary.Add = record { two = refl; only = refl }
augmented_takes binary.Subtract = record { two = refl; only = refl }
augmented_takes binary.Multiply = record { two = refl; only = refl }
augmented_takes binary.FloorDivide = record { two = refl; only = refl }
augmented_takes binary.Remainder = record { two = refl; only = refl }
augmented_takes binary.Power = record { two = refl; only = refl }

comparison_lawful : (x : Comparison) → TakesTwo (comparison_op x) × MayNegate (is_negated x) (comparison_op x)
comparison_lawful comparison.Less = (record { two = refl; only = refl }, tt)
comparison_lawful comparison.Greater = (record { two = refl; only = refl }, tt)
comparison_lawful comparison.LessEqual = (record { two = refl; only = refl }, tt)
comparison_lawful comparison.GreaterEqual = (record { two = refl; only = refl }, tt)
comparison_lawful comparison.Equal = (record { two = refl; only = refl }, tt)
comparison_lawful comparison.NotEqual = (record { two = refl; only = refl }, tt)
comparison_lawful comparison.In = (record { two = refl; only = refl }, tt)
comparison_lawful comparison.NotIn = (record { two = refl; only = refl }, tt)
comparison_lawful comparison.Is = (record { two = refl; only = refl }, tt)
comparison_lawful comparison.IsNot = (record { two = refl; only = refl }, tt)

-- One layer of an expression, as the survey and the codes have it

abbrev Sure : Type 0
Sure = (x : Expr) × Good (survey.expr x) (resolved.expr x)

abbrev bare : Expr-F Sure → Expr-F Expr
bare y = map-Expr Sure Expr (λ e. e.0) y

abbrev seen : Expr-F Sure → Expr-F survey.Part
seen y = map-Expr Expr survey.Part survey.expr (bare y)

abbrev meant : Expr-F Sure → Expr-F resolved.Part
meant y = map-Expr Expr resolved.Part resolved.expr (bare y)

-- what is never a target
valued_good : (line : ℕ) (f : Adding) (v : Context → Making syntax.Expression)
    → ((z : Case) (k : ℕ) (place : Place) (ps : List (List ℕ)) (r : Room) → Does z k (At z k place ps r) (LawfulExpression z.roster r) (f place) (v (context z place ps)))
    → Good (plain line f) (valued v)
valued_good line f v d = record {
  value = d;
  target = λ z k place ps r. refused z line place (d z k place ps r).adds;
  augmented = λ z k place ps r. refused z line place (d z k place ps r).adds;
  deleted = λ z k place ps r. refused z line place (d z k place ps r).adds;
}

constant_good : (line : ℕ) (v : Value) → ((c : Roster) (r : Room) → LawfulExpression c r (syntax.Constant v)) → Good (plain line (all [])) (resolved.constant v)
constant_good line v h = valued_good line (all []) (λ c. pure (syntax.Constant v)) (λ z k place ps r. nothing z (syntax.Constant v) (λ e. h z.roster r))

name_good : (line : ℕ) (x : List ℕ) → Good (survey.expr_adds (Expr-F.Name line x)) (resolved.expr_part (Expr-F.Name line x))
name_good line x = record {
  value = λ z k place ps r. only z (at_name z place ps r line what.Uses (λ y. refl) x) (syntax.Name line (home_in (context z place ps) x)) (λ e h. h.0);
  target = λ z k place ps r. only z (at_name z place ps r line what.Binds (λ y. refl) x) (syntax.ToName line (home_in (context z place ps) x)) (λ e h. h.0);
  augmented = λ z k place ps r. only z (at_name z place ps r line what.Binds (λ y. refl) x) (syntax.ToName line (home_in (context z place ps) x)) (λ e h. (tt, h.0));
  deleted = λ z k place ps r. only z (at_name z place ps r line what.Binds (λ y. refl) x) (syntax.ToName line (home_in (context z place ps) x)) (λ e h u. (h.0, h.1 u));
}

-- Displays

display_good : (line : ℕ) (o : Op) (tuple : Bool) → ((c : Roster) (r : Room) (xs : syntax.Expressions) → LawfulOperands c r [] (Some operand.Value) xs → LawfulExpression c r (syntax.Operation line o xs))
    → {ps : List (Item survey.Part)} {qs : List (Item resolved.Part)} → Items ps qs → Good (survey.list line ps) (resolved.display line o tuple qs)
display_good line o tuple takes {ps} {qs} i = record {
  value = λ z k place ns r. either z (list_any is_star qs)
      (λ e. made_of z (syntax.Starred line tuple) (spread z k place ns r false i) (λ e xs p. p))
      (λ e. made_of z (syntax.Operation line o) (operands z k place ns r false i) (λ e xs p. takes z.roster r xs p));
  target = λ z k place ns r. all_targets z k place ns r line i;
  augmented = λ z k place ns r. refused z line place (operands z k place ns r false i).adds;
  deleted = λ z k place ns r. all_deleted z k place ns r line i;
}

abbrev items_seen : Expr-F survey.Part → List (Item survey.Part)
items_seen (Expr-F.Tuple line xs) = xs
items_seen (Expr-F.List line xs) = xs
items_seen y = []

abbrev items_meant : Expr-F resolved.Part → List (Item resolved.Part)
items_meant (Expr-F.Tuple line xs) = xs
items_meant (Expr-F.List line xs) = xs
items_meant y = []

tuple_items : (line : ℕ) (xs : List (Item Sure)) → Items (items_seen (seen (Expr-F.Tuple line xs))) (items_meant (meant (Expr-F.Tuple line xs)))
tuple_items line [] = no_item
tuple_items line (item.One x ∷ xs) = one x.1 (tuple_items line xs)
tuple_items line (item.Star n x ∷ xs) = star n n x.1 (tuple_items line xs)

list_items : (line : ℕ) (xs : List (Item Sure)) → Items (items_seen (seen (Expr-F.List line xs))) (items_meant (meant (Expr-F.List line xs)))
list_items line [] = no_item
list_items line (item.One x ∷ xs) = one x.1 (list_items line xs)
list_items line (item.Star n x ∷ xs) = star n n x.1 (list_items line xs)

abbrev entries_seen : Expr-F survey.Part → List (Entry survey.Part)
entries_seen (Expr-F.Dict line xs) = xs
entries_seen y = []

abbrev entries_meant : Expr-F resolved.Part → List (Entry resolved.Part)
entries_meant (Expr-F.Dict line xs) = xs
entries_meant y = []

abbrev clauses_seen : Expr-F survey.Part → List (Clause survey.Part)
clauses_seen (Expr-F.ListComprehension line x c) = c.more
clauses_seen (Expr-F.DictComprehension line x y c) = c.more
clauses_seen (Expr-F.Generator line x c) = c.more
clauses_seen y = []

abbrev clauses_meant : Expr-F resolved.Part → List (Clause resolved.Part)
clauses_meant (Expr-F.ListComprehension line x c) = c.more
clauses_meant (Expr-F.DictComprehension line x y c) = c.more
clauses_meant (Expr-F.Generator line x c) = c.more
clauses_meant y = []

list_clauses : (line : ℕ) (e x y : Sure) (cs : List (Clause Sure)) → let l = Expr-F.ListComprehension line e (record { target = x; iterable = y; more = cs }) in Clauses (clauses_seen (seen l)) (clauses_meant (meant l))
list_clauses line e x y [] = no_clause
list_clauses line e x y (clause.For n a b ∷ cs) = ranging n n a.1 b.1 (list_clauses line e x y cs)
list_clauses line e x y (clause.If n a ∷ cs) = testing n n a.1 (list_clauses line e x y cs)

dict_clauses : (line : ℕ) (e f x y : Sure) (cs : List (Clause Sure)) → let l = Expr-F.DictComprehension line e f (record { target = x; iterable = y; more = cs }) in Clauses (clauses_seen (seen l)) (clauses_meant (meant l))
dict_clauses line e f x y [] = no_clause
dict_clauses line e f x y (clause.For n a b ∷ cs) = ranging n n a.1 b.1 (dict_clauses line e f x y cs)
dict_clauses line e f x y (clause.If n a ∷ cs) = testing n n a.1 (dict_clauses line e f x y cs)

generator_clauses : (line : ℕ) (e x y : Sure) (cs : List (Clause Sure)) → let l = Expr-F.Generator line e (record { target = x; iterable = y; more = cs }) in Clauses (clauses_seen (seen l)) (clauses_meant (meant l))
generator_clauses line e x y [] = no_clause
generator_clauses line e x y (clause.For n a b ∷ cs) = ranging n n a.1 b.1 (generator_clauses line e x y cs)
generator_clauses line e x y (clause.If n a ∷ cs) = testing n n a.1 (generator_clauses line e x y cs)

abbrev params_seen : Expr-F survey.Part → List (Param survey.Part)
params_seen (Expr-F.Lambda line ps body) = ps
params_seen y = []

abbrev params_meant : Expr-F resolved.Part → List (Param resolved.Part)
params_meant (Expr-F.Lambda line ps body) = ps
params_meant y = []

lambda_params : (line : ℕ) (body : Sure) (ps : List (Param Sure)) → Parameters (params_seen (seen (Expr-F.Lambda line ps body))) (params_meant (meant (Expr-F.Lambda line ps body)))
lambda_params line body [] = no_param
lambda_params line body (param.Named l x None ∷ ps) = required l l x x (lambda_params line body ps)
lambda_params line body (param.Named l x (Some d) ∷ ps) = optional l l x x d.1 (lambda_params line body ps)
lambda_params line body (param.Slash l ∷ ps) = slash l l (lambda_params line body ps)
lambda_params line body (param.Star l x ∷ ps) = starred l l x x (lambda_params line body ps)
lambda_params line body (param.DoubleStar l x ∷ ps) = double l l x x (lambda_params line body ps)

abbrev links_seen : Expr-F survey.Part → List (Link survey.Part)
links_seen (Expr-F.Compare line x xs) = xs
links_seen y = []

abbrev links_meant : Expr-F resolved.Part → List (Link resolved.Part)
links_meant (Expr-F.Compare line x xs) = xs
links_meant y = []

abbrev arguments_seen : Expr-F survey.Part → List (Argument survey.Part)
arguments_seen (Expr-F.Call line x xs) = xs
arguments_seen y = []

abbrev arguments_meant : Expr-F resolved.Part → List (Argument resolved.Part)
arguments_meant (Expr-F.Call line x xs) = xs
arguments_meant y = []

abbrev several_seen : Expr-F survey.Part → List survey.Part
several_seen (Expr-F.Index line x (subscript.Several xs)) = xs
several_seen y = []

abbrev several_meant : Expr-F resolved.Part → List resolved.Part
several_meant (Expr-F.Index line x (subscript.Several xs)) = xs
several_meant y = []

-- Optional parts

abbrev MayBe : Option survey.Part → Option resolved.Part → Type 0
MayBe None None = Unit {0}
MayBe (Some p) (Some q) = Good p q
MayBe o other = ⊥

module _ (z : Case) (k : ℕ) (place : Place) (ps : List (List ℕ)) (r : Room) where
  abbrev c : Context
  c = context z place ps

  abbrev F : Type 0
  F = At z k place ps r

  maybe_does : (o : Option survey.Part) (u : Option resolved.Part) → MayBe o u → Does z k F (LawfulExpression z.roster r) (value_if o place) (resolved.maybe c u)
  maybe_does None None g = nothing z resolved.none (λ e. tt)
  maybe_does (Some p) (Some q) g = g.value z k place ps r
  maybe_does None (Some q) g = absurd g
  maybe_does (Some p) None g = absurd g

  one_value : {p : survey.Part} {q : resolved.Part} → Good p q → Does z k F (LawfulOperands z.roster r (operand.Value ∷ []) None) (p role.Value place) (resolved.values c (q ∷ []))
  one_value g = two z syntax.More (g.value z k place ps r) (nothing z syntax.NoMore (λ e. tt)) (λ e x xs a b. (tt, a, b))

  two_values : {p m : survey.Part} {q n : resolved.Part} → Good p q → Good m n → Does z k F (LawfulOperands z.roster r (operand.Value ∷ operand.Value ∷ []) None) (λ s. m role.Value place (p role.Value place s)) (resolved.values c (q ∷ n ∷ []))
  two_values g h = two z syntax.More (g.value z k place ps r) (one_value h) (λ e x xs a b. (tt, a, b))

  several_do : (line : ℕ) (y : Sure) (xs : List Sure) → let l = Expr-F.Index line y (subscript.Several xs) in Does z k F (LawfulOperands z.roster r [] (Some operand.Value)) (survey.values (several_seen (seen l)) place) (resolved.values c (several_meant (meant l)))
  several_do line y [] = nothing z syntax.NoMore (λ e. tt)
  several_do line y (x ∷ xs) = two z syntax.More (x.1.value z k place ps r) (several_do line y xs) (λ e v vs a b. (tt, a, b))

  entries_do : (line : ℕ) (xs : List (Entry Sure)) → let l = Expr-F.Dict line xs in Does z k F (LawfulEntries z.roster r) (all (map entry_adds (entries_seen (seen l))) place) (resolved.entries c (entries_meant (meant l)))
  entries_do line [] = nothing z syntax.NoEntry (λ e. tt)
  entries_do line (entry.Pair x y ∷ xs) = three z syntax.Pair (x.1.value z k place ps r) (y.1.value z k place ps r) (entries_do line xs) (λ e u v w a b d. (a, b, d))
  entries_do line (entry.Merge x ∷ xs) = two z syntax.Merge (x.1.value z k place ps r) (entries_do line xs) (λ e u v a b. (a, b))

  -- a chain of comparisons; one with none has no links
  abbrev all_links : List (Link resolved.Part) → Making syntax.Links
  all_links [] = pure (syntax.LastLink op.Is false resolved.none)
  all_links (x ∷ xs) = resolved.links c x xs

  links_do : (line : ℕ) (y : Sure) (x : Link Sure) (xs : List (Link Sure)) → let l = Expr-F.Compare line y (x ∷ xs) in Does z k F (LawfulLinks z.roster r) (all (map link_adds (links_seen (seen l))) place) (all_links (links_meant (meant l)))
  links_do line y x [] = made_of z (syntax.LastLink (comparison_op x.comparison) (is_negated x.comparison)) (x.right.1.value z k place ps r) (λ e v a. let h = comparison_lawful x.comparison in (h.0, h.1, a))
  links_do line y x (w ∷ ws) = two z (syntax.Link (comparison_op x.comparison) (is_negated x.comparison)) (x.right.1.value z k place ps r) (links_do line y w ws) (λ e v vs a b. let h = comparison_lawful x.comparison in (h.0, h.1, a, b))

  arguments_do : (start line : ℕ) (y : Sure) (xs : List (Argument Sure)) → let l = Expr-F.Call line y xs in Does z k F (LawfulArguments z.roster r) (all (map (argument_adds start) (arguments_seen (seen l))) place) (resolved.arguments c (arguments_meant (meant l)))
  arguments_do start line y [] = nothing z syntax.NoArgument (λ e. tt)
  arguments_do start line y (argument.Plain x ∷ xs) = two z syntax.Plain (x.1.value z k place ps r) (arguments_do start line y xs) (λ e u v a b. (a, b))
  arguments_do start line y (argument.Star x ∷ xs) = two z syntax.Star (x.1.value z k place ps r) (arguments_do start line y xs) (λ e u v a b. (a, b))
  arguments_do start line y (argument.Keyword n name x ∷ xs) = ahead z (any_name z place n (what.Keyword start) name) (two z (syntax.Keyword (name_in c name)) (x.1.value z k place ps r) (arguments_do start line y xs) (λ e u v a b. (a, b))) (λ e u v p. p)
  arguments_do start line y (argument.Merge x ∷ xs) = two z syntax.DoubleStar (x.1.value z k place ps r) (arguments_do start line y xs) (λ e u v a b. (a, b))

  positional_do : (start line : ℕ) (y : Sure) (xs : List (Argument Sure)) → let l = Expr-F.Call line y xs in all_plain (arguments_meant (meant l)) ≡ true
      → Does z k F (LawfulOperands z.roster r [] (Some operand.Value)) (all (map (argument_adds start) (arguments_seen (seen l))) place) (resolved.positional c (arguments_meant (meant l)))
  positional_do start line y [] h = nothing z syntax.NoMore (λ e. tt)
  positional_do start line y (argument.Plain x ∷ xs) h = two z syntax.More (x.1.value z k place ps r) (positional_do start line y xs h) (λ e u v a b. (tt, a, b))
  positional_do start line y (argument.Star x ∷ xs) h = cc
  positional_do start line y (argument.Keyword n name x ∷ xs) h = cc
  positional_do start line y (argument.Merge x ∷ xs) h = cc

  -- a list of arguments, from the site where it begins
  abbrev from_site : ℕ → Sure → List (Argument Sure) → ℕ → Survey → Survey
  from_site line y xs n s = all (map (argument_adds n) (arguments_seen (seen (Expr-F.Call line y xs)))) place (survey.site line what.Arguments place s)

  call_does : (line : ℕ) (y : Sure) (xs : List (Argument Sure)) → let l = Expr-F.Call line y xs in
      Does z k F (LawfulExpression z.roster r) (λ s. survey.arguments line (arguments_seen (seen l)) place (survey.expr y.0 role.Value place s)) (resolved.call c line (resolved.expr y.0) (arguments_meant (meant l)))
  call_does line y xs =
      let l = Expr-F.Call line y xs in
      chain z (λ g. cond (all_plain (arguments_meant (meant l))) (made (λ vs. syntax.Operation line op.Call (syntax.More g vs)) (resolved.positional c (arguments_meant (meant l)))) (made (syntax.Call line g) (resolved.arguments c (arguments_meant (meant l)))))
      (y.1.value z k place ps r)
      (at_number z (from_site line y xs) (λ s. length s.sites) (λ n. ahead z (any_site z place line what.Arguments) (arguments_do n line y xs) (λ e u v p. p))).adds
      (λ g pg. either z (all_plain (arguments_meant (meant l)))
      (λ e. made_of z (λ vs. syntax.Operation line op.Call (syntax.More g vs)) (at_number z (from_site line y xs) (λ s. length s.sites) (λ n. ahead z (any_site z place line what.Arguments) (positional_do n line y xs e) (λ e u v p. p))) (λ e vs p. (tt, pg, p)))
      (λ e. made_of z (syntax.Call line g) (at_number z (from_site line y xs) (λ s. length s.sites) (λ n. ahead z (any_site z place line what.Arguments) (arguments_do n line y xs) (λ e u v p. p))) (λ e vs p. (pg, p))))

-- Attributes and items

abbrev index_of : {A : Type 0} → Expr-F A → Option (Subscript A)
index_of (Expr-F.Index line x i) = Some i
index_of y = None

abbrev lower_of : {A : Type 0} → Option (Subscript A) → Option A
lower_of (Some (subscript.Slice a b d)) = a
lower_of o = None

abbrev upper_of : {A : Type 0} → Option (Subscript A) → Option A
upper_of (Some (subscript.Slice a b d)) = b
upper_of o = None

abbrev step_of : {A : Type 0} → Option (Subscript A) → Option A
step_of (Some (subscript.Slice a b d)) = d
step_of o = None

lower_good : (line : ℕ) (y : Sure) (a b d : Option Sure) → let l = Expr-F.Index line y (subscript.Slice a b d) in MayBe (lower_of (index_of (seen l))) (lower_of (index_of (meant l)))
lower_good line y None b d = tt
lower_good line y (Some x) b d = x.1

upper_good : (line : ℕ) (y : Sure) (a b d : Option Sure) → let l = Expr-F.Index line y (subscript.Slice a b d) in MayBe (upper_of (index_of (seen l))) (upper_of (index_of (meant l)))
upper_good line y a None d = tt
upper_good line y a (Some x) d = x.1

step_good : (line : ℕ) (y : Sure) (a b d : Option Sure) → let l = Expr-F.Index line y (subscript.Slice a b d) in MayBe (step_of (index_of (seen l))) (step_of (index_of (meant l)))
step_good line y a b None = tt
step_good line y a b (Some x) = x.1

abbrev Layer : Expr-F Sure → Type 0
Layer y = Good (survey.expr_adds (seen y)) (resolved.expr_part (meant y))

attribute_good : (line : ℕ) (x : Sure) (name : List ℕ) → Layer (Expr-F.Attribute line x name)
attribute_good line x name = record {
  value = λ z k place ps r. behind z
      (made_of z (λ (o : syntax.Expression). syntax.Operation line op.Attr (syntax.More o (syntax.More (resolved.text (name_in (context z place ps) name)) syntax.NoMore)))
      (x.1.value z k place ps r) (λ e o p. (tt, p, (tt, tt, tt))))
      (any_site z place line (what.Attribute name)) (λ e u v p. p);
  target = λ z k place ps r. behind z (made_of z (λ (o : syntax.Expression). syntax.ToAttribute line o (name_in (context z place ps) name)) (x.1.value z k place ps r) (λ e o p. p)) (any_site z place line (what.Attribute name)) (λ e u v p. p);
  augmented = λ z k place ps r. behind z (made_of z (λ (o : syntax.Expression). syntax.ToAttribute line o (name_in (context z place ps) name)) (x.1.value z k place ps r) (λ e o p. (tt, p))) (any_site z place line (what.Attribute name)) (λ e u v p. p);
  deleted = λ z k place ps r. behind z (made_of z (λ (o : syntax.Expression). syntax.ToAttribute line o (name_in (context z place ps) name)) (x.1.value z k place ps r) (λ e o p u. p)) (any_site z place line (what.Attribute name)) (λ e u v p. p);
}

index_good : (line : ℕ) (x i : Sure) → Layer (Expr-F.Index line x (subscript.One i))
index_good line x i = record {
  value = λ z k place ps r. made_of z (syntax.Operation line op.Index) (two_values z k place ps r x.1 i.1) (λ e xs p. p);
  target = λ z k place ps r. two z (syntax.ToIndex line) (x.1.value z k place ps r) (i.1.value z k place ps r) (λ e o a p q. (p, q));
  augmented = λ z k place ps r. two z (syntax.ToIndex line) (x.1.value z k place ps r) (i.1.value z k place ps r) (λ e o a p q. (tt, (p, q)));
  deleted = λ z k place ps r. two z (syntax.ToIndex line) (x.1.value z k place ps r) (i.1.value z k place ps r) (λ e o a p q u. (p, q));
}

abbrev to_several : ℕ → syntax.Expression → syntax.Expressions → syntax.Target
to_several line o vs = syntax.ToIndex line o (syntax.Operation line op.Tuple vs)

abbrev at_several : ℕ → syntax.Expression → syntax.Expressions → syntax.Expression
at_several line o vs = syntax.Operation line op.Index (syntax.More o (syntax.More (syntax.Operation line op.Tuple vs) syntax.NoMore))

several_good : (line : ℕ) (x : Sure) (is : List Sure) → Layer (Expr-F.Index line x (subscript.Several is))
several_good line x is = record {
  value = λ z k place ps r. two z (at_several line) (x.1.value z k place ps r) (several_do z k place ps r line x is) (λ e o a p q. (tt, p, (tt, q, tt)));
  target = λ z k place ps r. two z (to_several line) (x.1.value z k place ps r) (several_do z k place ps r line x is) (λ e o a p q. (p, q));
  augmented = λ z k place ps r. two z (to_several line) (x.1.value z k place ps r) (several_do z k place ps r line x is) (λ e o a p q. (tt, (p, q)));
  deleted = λ z k place ps r. two z (to_several line) (x.1.value z k place ps r) (several_do z k place ps r line x is) (λ e o a p q u. (p, q));
}

abbrev at_slice : ℕ → syntax.Expression → syntax.Expression → syntax.Expression → syntax.Expression → syntax.Expression
at_slice line o a b s = syntax.Operation line op.Slice (syntax.More o (syntax.More a (syntax.More b (syntax.More s syntax.NoMore))))

slice_does : (line : ℕ) (x : Sure) (a b d : Option Sure) (z : Case) (k : ℕ) (place : Place) (ps : List (List ℕ)) (r : Room)
    → Does z k (At z k place ps r) (LawfulExpression z.roster r) (survey.expr_adds (seen (Expr-F.Index line x (subscript.Slice a b d))) role.Value place) ((resolved.expr_part (meant (Expr-F.Index line x (subscript.Slice a b d)))).value (context z place ps))
slice_does line x a b d z k place ps r =
    four z (at_slice line) (x.1.value z k place ps r)
    (maybe_does z k place ps r _ _ (lower_good line x a b d)) (maybe_does z k place ps r _ _ (upper_good line x a b d)) (maybe_does z k place ps r _ _ (step_good line x a b d))
    (λ e o u v w p q s t. (tt, p, (tt, q, (tt, s, (tt, t, tt)))))

slice_good : (line : ℕ) (x : Sure) (a b d : Option Sure) → Layer (Expr-F.Index line x (subscript.Slice a b d))
slice_good line x a b d = record {
  value = slice_does line x a b d;
  target = λ z k place ps r. refused z line place (slice_does line x a b d z k place ps r).adds;
  augmented = λ z k place ps r. refused z line place (slice_does line x a b d z k place ps r).adds;
  deleted = λ z k place ps r. refused z line place (slice_does line x a b d z k place ps r).adds;
}

-- Comparisons, functions and comprehensions

compare_good : (line : ℕ) (x : Sure) (xs : List (Link Sure)) → Layer (Expr-F.Compare line x xs)
compare_good line x [] = valued_good line _ _ (λ z k place ps r. chain z pure (x.1.value z k place ps r) (λ s p. p) (λ v p. nothing z v (λ e. p)))
compare_good line x (y ∷ ys) = valued_good line _ _ (λ z k place ps r. two z (syntax.Comparison line) (x.1.value z k place ps r) (links_do z k place ps r line x y ys) (λ e v vs p q. (p, q)))

lambda_good : (line : ℕ) (ps : List (Param Sure)) (x : Sure) → Layer (Expr-F.Lambda line ps x)
lambda_good line ps x = valued_good line _ _ (λ z k place ns r.
    function_does z k place ns r line kind.Lambda refl refl (survey.own_name kind.Lambda) (lambda_params line x ps) (survey.expr x.0 role.Value) (λ d. made syntax.Value' ((resolved.expr x.0).value d))
    (λ n. made_of z syntax.Value' (wider z (omega arith) (λ e. e.1) (x.1.value z (suc n) (own kind.Lambda place n) _ _)) (λ e v p. (refl, p))))

list_good : (line : ℕ) (e x y : Sure) (cs : List (Clause Sure)) → Layer (Expr-F.ListComprehension line e (record { target = x; iterable = y; more = cs }))
list_good line e x y cs = valued_good line _ _ (λ z k place ps r.
    comprehension_does z k place ps r line kind.ListComprehension refl refl (Some op.List) tt (λ n. refl)
    (survey.values (survey.expr e.0 ∷ [])) (λ d. made syntax.Push ((resolved.expr e.0).value d)) x.1 y.1 (list_clauses line e x y cs)
    (λ n. made_of z syntax.Push (wider z (omega arith) (λ o. o.1) (e.1.value z (suc n) (own kind.ListComprehension place n) (names_of handed) _)) (λ o v p. (refl, p))))

dict_good : (line : ℕ) (e f x y : Sure) (cs : List (Clause Sure)) → Layer (Expr-F.DictComprehension line e f (record { target = x; iterable = y; more = cs }))
dict_good line e f x y cs = valued_good line _ _ (λ z k place ps r.
    comprehension_does z k place ps r line kind.DictComprehension refl refl (Some op.Dict) tt (λ n. refl)
    (survey.values (survey.expr e.0 ∷ survey.expr f.0 ∷ [])) (λ d. and_then ((resolved.expr e.0).value d) (λ k. made (syntax.Put k) ((resolved.expr f.0).value d))) x.1 y.1 (dict_clauses line e f x y cs)
    (λ n. two z syntax.Put (wider z (omega arith) (λ o. o.1) (e.1.value z (suc n) (own kind.DictComprehension place n) (names_of handed) _)) (wider z (omega arith) (λ o. o.1) (f.1.value z (suc n) (own kind.DictComprehension place n) (names_of handed) _)) (λ o v w p q. (refl, p, q))))

generator_good : (line : ℕ) (e x y : Sure) (cs : List (Clause Sure)) → Layer (Expr-F.Generator line e (record { target = x; iterable = y; more = cs }))
generator_good line e x y cs = valued_good line _ _ (λ z k place ps r.
    comprehension_does z k place ps r line kind.Generator refl refl None tt (λ n. refl)
    (survey.values (survey.expr e.0 ∷ [])) (λ d. made syntax.Emit ((resolved.expr e.0).value d)) x.1 y.1 (generator_clauses line e x y cs)
    (λ n. made_of z syntax.Emit (wider z (omega arith) (λ o. o.1) (e.1.value z (suc n) (own kind.Generator place n) (names_of handed) _))
    (λ o v p. (ap (λ s. (header s handed).generator) (scope_at z.survey n _ o.2) ∙ or_right (somewhere is_yield n z.survey.sites) (is_generator_kind kind.Generator) refl, p))))

yield_good : (line : ℕ) (x : Option Sure) → Layer (Expr-F.Yield line x)
yield_good line None = valued_good line _ _ (λ z k place ps r. made_of z (syntax.Yield line) (ahead z (at_yield z place ps r line) (maybe_does z k place ps r None None tt) (λ e y v p. (y, p))) (λ e v p. p))
yield_good line (Some x) = valued_good line _ _ (λ z k place ps r. made_of z (syntax.Yield line) (ahead z (at_yield z place ps r line) (x.1.value z k place ps r) (λ e y v p. (y, p))) (λ e v p. p))

star_good : (line : ℕ) (x : Sure) → Layer (Expr-F.Star line x)
star_good line x = record {
  value = λ z k place ps r. refused z line place (x.1.value z k place ps r).adds;
  target = λ z k place ps r. refused z line place (x.1.value z k place ps r).adds;
  augmented = λ z k place ps r. refused z line place (x.1.value z k place ps r).adds;
  deleted = λ z k place ps r. refused z line place (x.1.value z k place ps r).adds;
}

layer_good : (y : Expr-F Sure) → Layer y
layer_good (Expr-F.None line) = constant_good line _ (λ c r. tt)
layer_good (Expr-F.True line) = constant_good line _ (λ c r. tt)
layer_good (Expr-F.False line) = constant_good line _ (λ c r. tt)
layer_good (Expr-F.Number line v) = constant_good line _ (λ c r. tt)
layer_good (Expr-F.Text line x) = constant_good line _ (λ c r. tt)
layer_good (Expr-F.Name line x) = name_good line x
layer_good (Expr-F.Tuple line xs) = display_good line op.Tuple true (λ c r ys h. h) (tuple_items line xs)
layer_good (Expr-F.List line xs) = display_good line op.List false (λ c r ys h. h) (list_items line xs)
layer_good (Expr-F.Dict line xs) = valued_good line _ _ (λ z k place ps r. made_of z (syntax.Dict line) (entries_do z k place ps r line xs) (λ e ys p. p))
layer_good (Expr-F.ListComprehension line e c) = list_good line e c.target c.iterable c.more
layer_good (Expr-F.DictComprehension line e f c) = dict_good line e f c.target c.iterable c.more
layer_good (Expr-F.Generator line e c) = generator_good line e c.target c.iterable c.more
layer_good (Expr-F.Attribute line x a) = attribute_good line x a
layer_good (Expr-F.Index line x (subscript.One i)) = index_good line x i
layer_good (Expr-F.Index line x (subscript.Several is)) = several_good line x is
layer_good (Expr-F.Index line x (subscript.Slice a b d)) = slice_good line x a b d
layer_good (Expr-F.Call line x xs) = valued_good line _ _ (λ z k place ps r. call_does z k place ps r line x xs)
layer_good (Expr-F.Unary line sign x) = valued_good line _ _ (λ z k place ps r. made_of z (syntax.Operation line (unary_op sign)) (one_value z k place ps r x.1) (λ e xs p. unary_lawful sign z.roster r line xs p))
layer_good (Expr-F.Binary line sign x y) = valued_good line _ _ (λ z k place ps r. made_of z (syntax.Operation line (binary_op sign)) (two_values z k place ps r x.1 y.1) (λ e xs p. binary_lawful sign z.roster r line xs p))
layer_good (Expr-F.Compare line x xs) = compare_good line x xs
layer_good (Expr-F.Not line x) = valued_good line _ _ (λ z k place ps r.
    made_of z (λ (v : syntax.Expression). syntax.Operation line op.Not (syntax.More (syntax.Operation line op.Truth (syntax.More v syntax.NoMore)) syntax.NoMore)) (x.1.value z k place ps r) (λ e v p. (tt, (tt, p, tt), tt)))
layer_good (Expr-F.Junction line j x y) = valued_good line _ _ (λ z k place ps r. two z (syntax.Junction line (is_or j)) (x.1.value z k place ps r) (y.1.value z k place ps r) (λ e u v p q. (p, q)))
layer_good (Expr-F.Conditional line t x y) = valued_good line _ _ (λ z k place ps r.
    three z (λ (v t w : syntax.Expression). syntax.Conditional line t v w) (x.1.value z k place ps r) (t.1.value z k place ps r) (y.1.value z k place ps r) (λ e u v w p q s. (q, p, s)))
layer_good (Expr-F.Lambda line ps x) = lambda_good line ps x
layer_good (Expr-F.Yield line x) = yield_good line x
layer_good (Expr-F.YieldFrom line x) = valued_good line _ _ (λ z k place ps r. made_of z (syntax.YieldFrom line) (ahead z (at_yield z place ps r line) (x.1.value z k place ps r) (λ e y v p. (y, p))) (λ e v p. p))
layer_good (Expr-F.Star line x) = star_good line x

pub expr_good : (x : Expr) → Good (survey.expr x) (resolved.expr x)
expr_good = ind-Expr (λ x. Good (survey.expr x) (resolved.expr x)) (λ x y is.
    subst (λ w. Good (survey.expr (roll-Expr w)) (resolved.expr (roll-Expr w))) is
    (subst (λ p. Good p (resolved.expr (roll-Expr (bare y)))) (sym (fold-roll-Expr survey.Part survey.expr_adds (bare y)))
    (subst (λ q. Good (survey.expr_adds (seen y)) q) (sym (fold-roll-Expr resolved.Part resolved.expr_part (bare y))) (layer_good y))))
