-- A layer of an expression with something else in place of each expression in it.
use Rattle.std.proofs.Common.{◌≡◌, ℕ, List, [], ◌∷◌, map, Option, Some, None, refl, ap}
use Rattle.py_ast.specs.declared.expr.Item.{Item}
use Rattle.py_ast.specs.declared.expr.Item.TheVariants as item
use Rattle.py_ast.specs.declared.expr.Entry.{Entry}
use Rattle.py_ast.specs.declared.expr.Entry.TheVariants as entry
use Rattle.py_ast.specs.declared.expr.Argument.{Argument}
use Rattle.py_ast.specs.declared.expr.Argument.TheVariants as argument
use Rattle.py_ast.specs.declared.expr.Link.{Link}
use Rattle.py_ast.specs.declared.expr.Param.{Param}
use Rattle.py_ast.specs.declared.expr.Param.TheVariants as param
use Rattle.py_ast.specs.declared.expr.Subscript.{Subscript}
use Rattle.py_ast.specs.declared.expr.Subscript.TheVariants as subscript
use Rattle.py_ast.specs.declared.expr.Clause.{Clause}
use Rattle.py_ast.specs.declared.expr.Clause.TheVariants as clause
use Rattle.py_ast.specs.declared.expr.Clauses.{Clauses}
use Rattle.py_ast.specs.declared.expr.Expr.{Expr, map-Expr}
use Rattle.py_ast.specs.declared.expr.Expr.TheOpen.{Expr-F}
use Rattle.py_scopes.specs.Parts.{option_of, item_of, entry_of, argument_of, link_of, param_of, subscript_of, clause_of, clauses_of}

module _ {A : Type 0} (f : Expr → A) where
  abbrev pub over : Expr-F Expr → Expr-F A
  over y = map-Expr Expr A f y

  abbrev items_in : Expr-F A → List (Item A)
  items_in (Expr-F.Tuple line xs) = xs
  items_in (Expr-F.List line xs) = xs
  items_in y = []

  tuple_items : (line : ℕ) (xs : List (Item Expr)) → items_in (over (Expr-F.Tuple line xs)) ≡ map (item_of f) xs
  tuple_items line [] = refl
  tuple_items line (item.One x ∷ xs) = ap (λ ys. item.One (f x) ∷ ys) (tuple_items line xs)
  tuple_items line (item.Star n x ∷ xs) = ap (λ ys. item.Star n (f x) ∷ ys) (tuple_items line xs)

  pub tuple_over : (line : ℕ) (xs : List (Item Expr)) → over (Expr-F.Tuple line xs) ≡ Expr-F.Tuple line (map (item_of f) xs)
  tuple_over line xs = ap (Expr-F.Tuple line) (tuple_items line xs)

  pub list_over : (line : ℕ) (xs : List (Item Expr)) → over (Expr-F.List line xs) ≡ Expr-F.List line (map (item_of f) xs)
  list_over line xs = ap (Expr-F.List line) (tuple_items line xs)

  abbrev entries_in : Expr-F A → List (Entry A)
  entries_in (Expr-F.Dict line xs) = xs
  entries_in y = []

  dict_entries : (line : ℕ) (xs : List (Entry Expr)) → entries_in (over (Expr-F.Dict line xs)) ≡ map (entry_of f) xs
  dict_entries line [] = refl
  dict_entries line (entry.Pair x y ∷ xs) = ap (λ ys. entry.Pair (f x) (f y) ∷ ys) (dict_entries line xs)
  dict_entries line (entry.Merge x ∷ xs) = ap (λ ys. entry.Merge (f x) ∷ ys) (dict_entries line xs)

  pub dict_over : (line : ℕ) (xs : List (Entry Expr)) → over (Expr-F.Dict line xs) ≡ Expr-F.Dict line (map (entry_of f) xs)
  dict_over line xs = ap (Expr-F.Dict line) (dict_entries line xs)

  abbrev clauses_in : Expr-F A → List (Clause A)
  clauses_in (Expr-F.ListComprehension line x c) = c.more
  clauses_in y = []

  list_clauses : (line : ℕ) (e x y : Expr) (cs : List (Clause Expr)) → clauses_in (over (Expr-F.ListComprehension line e (record { target = x; iterable = y; more = cs }))) ≡ map (clause_of f) cs
  list_clauses line e x y [] = refl
  list_clauses line e x y (clause.For n a b ∷ cs) = ap (λ ys. clause.For n (f a) (f b) ∷ ys) (list_clauses line e x y cs)
  list_clauses line e x y (clause.If n a ∷ cs) = ap (λ ys. clause.If n (f a) ∷ ys) (list_clauses line e x y cs)

  abbrev with_more : Clauses Expr → List (Clause A) → Clauses A
  with_more cs more = record { target = f cs.target; iterable = f cs.iterable; more = more }

  pub list_of_over : (line : ℕ) (e : Expr) (cs : Clauses Expr) → over (Expr-F.ListComprehension line e cs) ≡ Expr-F.ListComprehension line (f e) (clauses_of f cs)
  list_of_over line e cs = ap (λ more. Expr-F.ListComprehension line (f e) (with_more cs more)) (list_clauses line e cs.target cs.iterable cs.more)

  pub dict_of_over : (line : ℕ) (e d : Expr) (cs : Clauses Expr) → over (Expr-F.DictComprehension line e d cs) ≡ Expr-F.DictComprehension line (f e) (f d) (clauses_of f cs)
  dict_of_over line e d cs = ap (λ more. Expr-F.DictComprehension line (f e) (f d) (with_more cs more)) (list_clauses line e cs.target cs.iterable cs.more)

  pub generator_over : (line : ℕ) (e : Expr) (cs : Clauses Expr) → over (Expr-F.Generator line e cs) ≡ Expr-F.Generator line (f e) (clauses_of f cs)
  generator_over line e cs = ap (λ more. Expr-F.Generator line (f e) (with_more cs more)) (list_clauses line e cs.target cs.iterable cs.more)

  abbrev params_in : Expr-F A → List (Param A)
  params_in (Expr-F.Lambda line ps body) = ps
  params_in y = []

  lambda_params : (line : ℕ) (x : Expr) (ps : List (Param Expr)) → params_in (over (Expr-F.Lambda line ps x)) ≡ map (param_of f) ps
  lambda_params line x [] = refl
  lambda_params line x (param.Named l n None ∷ ps) = ap (λ qs. param.Named l n None ∷ qs) (lambda_params line x ps)
  lambda_params line x (param.Named l n (Some d) ∷ ps) = ap (λ qs. param.Named l n (Some (f d)) ∷ qs) (lambda_params line x ps)
  lambda_params line x (param.Slash l ∷ ps) = ap (λ qs. param.Slash l ∷ qs) (lambda_params line x ps)
  lambda_params line x (param.Star l n ∷ ps) = ap (λ qs. param.Star l n ∷ qs) (lambda_params line x ps)
  lambda_params line x (param.DoubleStar l n ∷ ps) = ap (λ qs. param.DoubleStar l n ∷ qs) (lambda_params line x ps)

  pub lambda_over : (line : ℕ) (ps : List (Param Expr)) (x : Expr) → over (Expr-F.Lambda line ps x) ≡ Expr-F.Lambda line (map (param_of f) ps) (f x)
  lambda_over line ps x = ap (λ qs. Expr-F.Lambda line qs (f x)) (lambda_params line x ps)

  abbrev links_in : Expr-F A → List (Link A)
  links_in (Expr-F.Compare line x xs) = xs
  links_in y = []

  compare_links : (line : ℕ) (x : Expr) (xs : List (Link Expr)) → links_in (over (Expr-F.Compare line x xs)) ≡ map (link_of f) xs
  compare_links line x [] = refl
  compare_links line x (l ∷ ls) = ap (λ ys. link_of f l ∷ ys) (compare_links line x ls)

  pub compare_over : (line : ℕ) (x : Expr) (xs : List (Link Expr)) → over (Expr-F.Compare line x xs) ≡ Expr-F.Compare line (f x) (map (link_of f) xs)
  compare_over line x xs = ap (λ ys. Expr-F.Compare line (f x) ys) (compare_links line x xs)

  abbrev arguments_in : Expr-F A → List (Argument A)
  arguments_in (Expr-F.Call line x xs) = xs
  arguments_in y = []

  call_arguments : (line : ℕ) (x : Expr) (xs : List (Argument Expr)) → arguments_in (over (Expr-F.Call line x xs)) ≡ map (argument_of f) xs
  call_arguments line x [] = refl
  call_arguments line x (argument.Plain y ∷ xs) = ap (λ ys. argument.Plain (f y) ∷ ys) (call_arguments line x xs)
  call_arguments line x (argument.Star y ∷ xs) = ap (λ ys. argument.Star (f y) ∷ ys) (call_arguments line x xs)
  call_arguments line x (argument.Keyword l n y ∷ xs) = ap (λ ys. argument.Keyword l n (f y) ∷ ys) (call_arguments line x xs)
  call_arguments line x (argument.Merge y ∷ xs) = ap (λ ys. argument.Merge (f y) ∷ ys) (call_arguments line x xs)

  pub call_over : (line : ℕ) (x : Expr) (xs : List (Argument Expr)) → over (Expr-F.Call line x xs) ≡ Expr-F.Call line (f x) (map (argument_of f) xs)
  call_over line x xs = ap (λ ys. Expr-F.Call line (f x) ys) (call_arguments line x xs)

  abbrev places_in : Expr-F A → List A
  places_in (Expr-F.Index line x (subscript.Several xs)) = xs
  places_in y = []

  index_places : (line : ℕ) (x : Expr) (xs : List Expr) → places_in (over (Expr-F.Index line x (subscript.Several xs))) ≡ map f xs
  index_places line x [] = refl
  index_places line x (y ∷ xs) = ap (λ ys. f y ∷ ys) (index_places line x xs)

  slice_over : (line : ℕ) (x : Expr) (a b c : Option Expr) → over (Expr-F.Index line x (subscript.Slice a b c)) ≡ Expr-F.Index line (f x) (subscript.Slice (option_of f a) (option_of f b) (option_of f c))
  slice_over line x None None None = refl
  slice_over line x None None (Some c) = refl
  slice_over line x None (Some b) None = refl
  slice_over line x None (Some b) (Some c) = refl
  slice_over line x (Some a) None None = refl
  slice_over line x (Some a) None (Some c) = refl
  slice_over line x (Some a) (Some b) None = refl
  slice_over line x (Some a) (Some b) (Some c) = refl

  pub index_over : (line : ℕ) (x : Expr) (i : Subscript Expr) → over (Expr-F.Index line x i) ≡ Expr-F.Index line (f x) (subscript_of f i)
  index_over line x (subscript.One y) = refl
  index_over line x (subscript.Several xs) = ap (λ ys. Expr-F.Index line (f x) (subscript.Several ys)) (index_places line x xs)
  index_over line x (subscript.Slice a b c) = slice_over line x a b c

  pub yield_over : (line : ℕ) (o : Option Expr) → over (Expr-F.Yield line o) ≡ Expr-F.Yield line (option_of f o)
  yield_over line None = refl
  yield_over line (Some x) = refl
