-- Expressions keep scopes nested.
use Rattle.std.proofs.Common.{ℕ, Bool, true, false, not, List, [], ◌∷◌, map, length, Option, Some, None, sym, subst}
use Rattle.py_ast.specs.declared.expr.Item.{Item}
use Rattle.py_ast.specs.declared.expr.Item.TheVariants as item
use Rattle.py_ast.specs.declared.expr.Entry.{Entry}
use Rattle.py_ast.specs.declared.expr.Entry.TheVariants as entry
use Rattle.py_ast.specs.declared.expr.Argument.{Argument}
use Rattle.py_ast.specs.declared.expr.Argument.TheVariants as argument
use Rattle.py_ast.specs.declared.expr.Link.{Link}
use Rattle.py_ast.specs.declared.expr.Param.{Param}
use Rattle.py_ast.specs.declared.expr.Param.TheVariants as param
use Rattle.py_ast.specs.declared.expr.Subscript.{Subscript}
use Rattle.py_ast.specs.declared.expr.Subscript.TheVariants as subscript
use Rattle.py_ast.specs.declared.expr.Clause.{Clause}
use Rattle.py_ast.specs.declared.expr.Clause.TheVariants as clause
use Rattle.py_ast.specs.declared.expr.Expr.{Expr, fold-roll-Expr, map-Expr, roll-Expr, ind-Expr}
use Rattle.py_ast.specs.declared.expr.Expr.TheOpen.{Expr-F}
use Rattle.py_ast.specs.declared.scoped.ScopeKind.{ScopeKind}
use Rattle.py_ast.specs.declared.scoped.ScopeKind.TheVariants as kind
use Rattle.py_scopes.specs.declared.survey.Role.{Role}
use Rattle.py_scopes.specs.declared.survey.Role.TheVariants as role
use Rattle.py_scopes.specs.declared.survey.What.TheVariants as what
use Rattle.py_scopes.specs.Survey.{Adds, Part, all, enter, inside, values, plain, listed, subscripts, items, is_value, is_stray, is_single, named, own_name, entry_adds, link_adds, arguments, argument_adds, param_adds, clause_adds, expr_adds, expr}
use Rattle.py_scopes.proofs.Grown.{Keeps, KeepsPart, KeepsIn, nothing, both, both_in, inner, outer, at_site, at_name, at_wrong, at_scope}

-- an expression that keeps scopes nested
abbrev Sure : Type 0
Sure = (x : Expr) × KeepsPart (expr x)

plainly : {f : Adds} → (line : ℕ) → Keeps f → KeepsPart (plain line f)
plainly line a wanted = both (at_wrong (not (is_value wanted)) line) a

-- one layer of an expression, with what each expression in it adds. Its lists of parts are those that the layer itself has.
abbrev layer : Expr-F Sure → Expr-F Part
layer y = map-Expr Expr Part expr (map-Expr Sure Expr (λ e. e.0) y)

-- Lists of parts

values_keep : (xs : List Sure) → Keeps (values (map expr (map (λ e. e.0) xs)))
values_keep [] = nothing
values_keep (x ∷ xs) = both (x.1 role.Value) (values_keep xs)

abbrev items_in : Expr-F Part → List (Item Part)
items_in (Expr-F.Tuple line xs) = xs
items_in (Expr-F.List line xs) = xs
items_in y = []

tuple_keeps : (line : ℕ) (wanted : Role) (before : Bool) (xs : List (Item Sure)) → Keeps (items wanted before (items_in (layer (Expr-F.Tuple line xs))))
tuple_keeps line wanted before [] = nothing
tuple_keeps line wanted before (item.One x ∷ xs) = both (x.1 wanted) (tuple_keeps line wanted before xs)
tuple_keeps line wanted before (item.Star n x ∷ xs) = both (both (at_wrong (is_stray wanted before) n) (x.1 wanted)) (tuple_keeps line wanted true xs)

list_keeps : (line : ℕ) (wanted : Role) (before : Bool) (xs : List (Item Sure)) → Keeps (items wanted before (items_in (layer (Expr-F.List line xs))))
list_keeps line wanted before [] = nothing
list_keeps line wanted before (item.One x ∷ xs) = both (x.1 wanted) (list_keeps line wanted before xs)
list_keeps line wanted before (item.Star n x ∷ xs) = both (both (at_wrong (is_stray wanted before) n) (x.1 wanted)) (list_keeps line wanted true xs)

abbrev entries_in : Expr-F Part → List (Entry Part)
entries_in (Expr-F.Dict line xs) = xs
entries_in y = []

entries_keep : (line : ℕ) (xs : List (Entry Sure)) → Keeps (all (map entry_adds (entries_in (layer (Expr-F.Dict line xs)))))
entries_keep line [] = nothing
entries_keep line (entry.Pair x y ∷ xs) = both (both (x.1 role.Value) (y.1 role.Value)) (entries_keep line xs)
entries_keep line (entry.Merge x ∷ xs) = both (x.1 role.Value) (entries_keep line xs)

abbrev links_in : Expr-F Part → List (Link Part)
links_in (Expr-F.Compare line x xs) = xs
links_in y = []

links_keep : (line : ℕ) (y : Sure) (xs : List (Link Sure)) → Keeps (all (map link_adds (links_in (layer (Expr-F.Compare line y xs)))))
links_keep line y [] = nothing
links_keep line y (x ∷ xs) = both (x.right.1 role.Value) (links_keep line y xs)

abbrev arguments_in : Expr-F Part → List (Argument Part)
arguments_in (Expr-F.Call line x xs) = xs
arguments_in y = []

arguments_keep : (start line : ℕ) (y : Sure) (xs : List (Argument Sure)) → Keeps (all (map (argument_adds start) (arguments_in (layer (Expr-F.Call line y xs)))))
arguments_keep start line y [] = nothing
arguments_keep start line y (argument.Plain x ∷ xs) = both (x.1 role.Value) (arguments_keep start line y xs)
arguments_keep start line y (argument.Star x ∷ xs) = both (x.1 role.Value) (arguments_keep start line y xs)
arguments_keep start line y (argument.Keyword n name x ∷ xs) = both (both (at_name n (what.Keyword start) name) (x.1 role.Value)) (arguments_keep start line y xs)
arguments_keep start line y (argument.Merge x ∷ xs) = both (x.1 role.Value) (arguments_keep start line y xs)

call_keeps : (line : ℕ) (y : Sure) (xs : List (Argument Sure)) → Keeps (arguments line (arguments_in (layer (Expr-F.Call line y xs))))
call_keeps line y xs = record {
  keeps = λ n place s h i.
      let a = at_site line what.Arguments in
      (arguments_keep (length s.sites) line y xs).keeps n place _ (a.keeps place.scope place s h h) (a.keeps n place s h i);
}

abbrev clauses_in : Expr-F Part → List (Clause Part)
clauses_in (Expr-F.ListComprehension line x c) = c.more
clauses_in (Expr-F.DictComprehension line x y c) = c.more
clauses_in (Expr-F.Generator line x c) = c.more
clauses_in y = []

list_clauses : (line : ℕ) (e x y : Sure) (cs : List (Clause Sure)) → Keeps (all (map clause_adds (clauses_in (layer (Expr-F.ListComprehension line e (record { target = x; iterable = y; more = cs }))))))
list_clauses line e x y [] = nothing
list_clauses line e x y (clause.For n a b ∷ cs) = both (both (a.1 role.Target) (b.1 role.Value)) (list_clauses line e x y cs)
list_clauses line e x y (clause.If n a ∷ cs) = both (a.1 role.Value) (list_clauses line e x y cs)

dict_clauses : (line : ℕ) (e f x y : Sure) (cs : List (Clause Sure)) → Keeps (all (map clause_adds (clauses_in (layer (Expr-F.DictComprehension line e f (record { target = x; iterable = y; more = cs }))))))
dict_clauses line e f x y [] = nothing
dict_clauses line e f x y (clause.For n a b ∷ cs) = both (both (a.1 role.Target) (b.1 role.Value)) (dict_clauses line e f x y cs)
dict_clauses line e f x y (clause.If n a ∷ cs) = both (a.1 role.Value) (dict_clauses line e f x y cs)

generator_clauses : (line : ℕ) (e x y : Sure) (cs : List (Clause Sure)) → Keeps (all (map clause_adds (clauses_in (layer (Expr-F.Generator line e (record { target = x; iterable = y; more = cs }))))))
generator_clauses line e x y [] = nothing
generator_clauses line e x y (clause.For n a b ∷ cs) = both (both (a.1 role.Target) (b.1 role.Value)) (generator_clauses line e x y cs)
generator_clauses line e x y (clause.If n a ∷ cs) = both (a.1 role.Value) (generator_clauses line e x y cs)

-- what stands inside a comprehension: its elements, and its clauses, of which the first iterable stands around it
comprehended : {f x y cs : Adds} → (line : ℕ) (k : ScopeKind) → Keeps f → Keeps x → Keeps y → Keeps cs
    → Keeps (λ place s. cs (inside k place s) (y place (x (inside k place s) (f (inside k place s) (enter line k (own_name k) place s)))))
comprehended line k a x y cs = at_scope line k (own_name k) (both_in (inner a) (both_in (inner x) (both_in (outer y) (inner cs))))

abbrev subscript_in : Expr-F Part → Subscript Part
subscript_in (Expr-F.Index line x i) = i
subscript_in y = subscript.Several []

slice_keeps : (line : ℕ) (y : Sure) (lower upper step : Option Sure) → Keeps (subscripts (subscript_in (layer (Expr-F.Index line y (subscript.Slice lower upper step)))))
slice_keeps line y None None None = nothing
slice_keeps line y None None (Some c) = c.1 role.Value
slice_keeps line y None (Some b) None = b.1 role.Value
slice_keeps line y None (Some b) (Some c) = both (b.1 role.Value) (c.1 role.Value)
slice_keeps line y (Some a) None None = a.1 role.Value
slice_keeps line y (Some a) None (Some c) = both (a.1 role.Value) (c.1 role.Value)
slice_keeps line y (Some a) (Some b) None = both (a.1 role.Value) (b.1 role.Value)
slice_keeps line y (Some a) (Some b) (Some c) = both (a.1 role.Value) (both (b.1 role.Value) (c.1 role.Value))

abbrev params_in : Expr-F Part → List (Param Part)
params_in (Expr-F.Lambda line ps body) = ps
params_in y = []

params_keep : (line : ℕ) (body : Sure) (ps : List (Param Sure)) → KeepsIn (λ own. all (map (param_adds own) (params_in (layer (Expr-F.Lambda line ps body)))))
params_keep line body [] = outer nothing
params_keep line body (param.Named l x None ∷ ps) = both_in (inner (at_name l what.Parameter x)) (params_keep line body ps)
params_keep line body (param.Named l x (Some d) ∷ ps) = both_in (inner (at_name l what.Parameter x)) (both_in (outer (d.1 role.Value)) (params_keep line body ps))
params_keep line body (param.Slash l ∷ ps) = params_keep line body ps
params_keep line body (param.Star l (Some x) ∷ ps) = both_in (inner (at_name l what.Parameter x)) (params_keep line body ps)
params_keep line body (param.Star l None ∷ ps) = params_keep line body ps
params_keep line body (param.DoubleStar l x ∷ ps) = both_in (inner (at_name l what.Parameter x)) (params_keep line body ps)

-- Expressions

layer_keeps : (y : Expr-F Sure) → KeepsPart (expr_adds (layer y))
layer_keeps (Expr-F.None line) = plainly line nothing
layer_keeps (Expr-F.True line) = plainly line nothing
layer_keeps (Expr-F.False line) = plainly line nothing
layer_keeps (Expr-F.Number line value) = plainly line nothing
layer_keeps (Expr-F.Text line text) = plainly line nothing
layer_keeps (Expr-F.Name line x) = λ wanted. at_name line (named wanted) x
layer_keeps (Expr-F.Tuple line xs) = λ wanted. both (at_wrong (is_single wanted) line) (tuple_keeps line (listed wanted) false xs)
layer_keeps (Expr-F.List line xs) = λ wanted. both (at_wrong (is_single wanted) line) (list_keeps line (listed wanted) false xs)
layer_keeps (Expr-F.Dict line xs) = plainly line (entries_keep line xs)
layer_keeps (Expr-F.ListComprehension line e c) = plainly line (comprehended line kind.ListComprehension (values_keep (e ∷ [])) (c.target.1 role.Target) (c.iterable.1 role.Value) (list_clauses line e c.target c.iterable c.more))
layer_keeps (Expr-F.DictComprehension line e f c) = plainly line (comprehended line kind.DictComprehension (values_keep (e ∷ f ∷ [])) (c.target.1 role.Target) (c.iterable.1 role.Value) (dict_clauses line e f c.target c.iterable c.more))
layer_keeps (Expr-F.Generator line e c) = plainly line (comprehended line kind.Generator (values_keep (e ∷ [])) (c.target.1 role.Target) (c.iterable.1 role.Value) (generator_clauses line e c.target c.iterable c.more))
layer_keeps (Expr-F.Attribute line x a) = λ wanted. both (x.1 role.Value) (at_site line (what.Attribute a))
layer_keeps (Expr-F.Index line x (subscript.One i)) = λ wanted. both (x.1 role.Value) (i.1 role.Value)
layer_keeps (Expr-F.Index line x (subscript.Several is)) = λ wanted. both (x.1 role.Value) (values_keep is)
layer_keeps (Expr-F.Index line x (subscript.Slice lower upper step)) = λ wanted. both (at_wrong (not (is_value wanted)) line) (both (x.1 role.Value) (slice_keeps line x lower upper step))
layer_keeps (Expr-F.Call line x xs) = plainly line (both (x.1 role.Value) (call_keeps line x xs))
layer_keeps (Expr-F.Unary line sign x) = plainly line (x.1 role.Value)
layer_keeps (Expr-F.Binary line operator x y) = plainly line (values_keep (x ∷ y ∷ []))
layer_keeps (Expr-F.Compare line x links) = plainly line (both (x.1 role.Value) (links_keep line x links))
layer_keeps (Expr-F.Not line x) = plainly line (x.1 role.Value)
layer_keeps (Expr-F.Junction line junction x y) = plainly line (values_keep (x ∷ y ∷ []))
layer_keeps (Expr-F.Conditional line t x y) = plainly line (values_keep (x ∷ t ∷ y ∷ []))
layer_keeps (Expr-F.Lambda line ps body) = plainly line (at_scope line kind.Lambda (own_name kind.Lambda) (both_in (params_keep line body ps) (inner (body.1 role.Value))))
layer_keeps (Expr-F.Yield line None) = plainly line (both (at_site line what.Yield) nothing)
layer_keeps (Expr-F.Yield line (Some x)) = plainly line (both (at_site line what.Yield) (x.1 role.Value))
layer_keeps (Expr-F.YieldFrom line x) = plainly line (both (at_site line what.Yield) (x.1 role.Value))
layer_keeps (Expr-F.Star line x) = λ wanted. both (at_site line what.Misplaced) (x.1 role.Value)

pub expr_keeps : (x : Expr) → KeepsPart (expr x)
expr_keeps = ind-Expr (λ x. KeepsPart (expr x)) (λ x y is.
    subst (λ z. KeepsPart (expr (roll-Expr z))) is (subst KeepsPart (sym (fold-roll-Expr Part expr_adds (map-Expr Sure Expr (λ e. e.0) y))) (layer_keeps y)))
