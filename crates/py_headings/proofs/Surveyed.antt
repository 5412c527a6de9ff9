-- What tidy parts add to a survey are scopes with lines.
use Rattle.std.proofs.Common.{ℕ, ◌<◌, Bool, true, false, not, ◌&&◌, List, [], ◌∷◌, ◌++◌, length, map, Option, Some, None}
use Rattle.std.specs.List.{AllByRecursion}
use Rattle.py_ast.specs.declared.expr.Item.{Item}
use Rattle.py_ast.specs.declared.expr.Item.TheVariants as item
use Rattle.py_ast.specs.declared.expr.Entry.{Entry}
use Rattle.py_ast.specs.declared.expr.Entry.TheVariants as entry
use Rattle.py_ast.specs.declared.expr.Argument.{Argument}
use Rattle.py_ast.specs.declared.expr.Argument.TheVariants as argument
use Rattle.py_ast.specs.declared.expr.Link.{Link}
use Rattle.py_ast.specs.declared.expr.Param.{Param}
use Rattle.py_ast.specs.declared.expr.Param.TheVariants as param
use Rattle.py_ast.specs.declared.expr.Subscript.{Subscript}
use Rattle.py_ast.specs.declared.expr.Subscript.TheVariants as subscript
use Rattle.py_ast.specs.declared.expr.Clause.{Clause}
use Rattle.py_ast.specs.declared.expr.Clause.TheVariants as clause
use Rattle.py_ast.specs.declared.expr.Clauses.{Clauses}
use Rattle.py_ast.specs.declared.expr.Expr.{Expr}
use Rattle.py_ast.specs.declared.scoped.ScopeKind.{ScopeKind}
use Rattle.py_scopes.specs.declared.survey.Role.{Role}
use Rattle.py_scopes.specs.declared.survey.Role.TheVariants as role
use Rattle.py_scopes.specs.declared.survey.What.{What}
use Rattle.py_scopes.specs.declared.survey.What.TheVariants as what
use Rattle.py_scopes.specs.declared.survey.Place.{Place}
use Rattle.py_scopes.specs.Parts.{option_of, item_of, entry_of, argument_of, link_of, param_of, subscript_of, clause_of, clauses_of}
use Rattle.py_scopes.specs.Survey as survey
use Rattle.py_scopes.specs.Survey.{Adds, site, name, spelled, all, values, value_if, plain, misplaced_if, is_value, is_single, is_stray, is_slice, listed, items, list, subscripts, index, entry_adds, link_adds, argument_adds, arguments, param_adds, function, clause_adds, clauses_add, comprehension, enter, inside, own_name}
use Rattle.py_headings.proofs.Tidy.{HasLine, Keeps, Tidy, OptionTidy, ItemTidy, EntryTidy, ArgumentTidy, LinkTidy, ParamTidy, SubscriptTidy, ClauseTidy, ClausesTidy}

pub all_joined : {A : Type 0} (P : A → Type 0) (xs ys : List A) → AllByRecursion P xs → AllByRecursion P ys → AllByRecursion P (xs ++ ys)
all_joined P [] ys p q = q
all_joined P (x ∷ xs) ys p q = (p.0, all_joined P xs ys p.1 q)

-- Sites and scopes

pub site_keeps : (line : ℕ) (w : What) → Keeps (site line w)
unfolding site
site_keeps line w place s l = l

pub name_keeps : (line : ℕ) (w : List ℕ → What) (x : List ℕ) → Keeps (name line w x)
name_keeps line w x place s l = site_keeps line (w (spelled place s x)) place s l

pub enter_keeps : (line : ℕ) (kind : ScopeKind) (title : List ℕ) → 0 < line → Keeps (enter line kind title)
unfolding enter
enter_keeps line kind title from_one place s l = all_joined HasLine s.scopes _ l (from_one, tt)

misplaced_keeps : (b : Bool) (line : ℕ) → Keeps (misplaced_if b line)
misplaced_keeps true line place s l = site_keeps line what.Misplaced place s l
misplaced_keeps false line place s l = l

pub plain_keeps : (line : ℕ) (f : Adds) → Keeps f → (wanted : Role) → Keeps (plain line f wanted)
plain_keeps line f k wanted place s l = k place (misplaced_if (not (is_value wanted)) line place s) (misplaced_keeps (not (is_value wanted)) line place s l)

-- Lists of parts

pub values_keep : (xs : List Expr) → AllByRecursion Tidy xs → Keeps (values (map survey.expr xs))
values_keep [] t place s l = l
values_keep (x ∷ xs) t place s l = values_keep xs t.1 place (survey.expr x role.Value place s) (t.0.seen role.Value place s l)

items_keep : (wanted : Role) (before : Bool) (xs : List (Item Expr)) → AllByRecursion ItemTidy xs → Keeps (items wanted before (map (item_of survey.expr) xs))
items_keep wanted before [] t place s l = l
items_keep wanted before (item.One x ∷ xs) t place s l = items_keep wanted before xs t.1 place _ (t.0.seen wanted place s l)
items_keep wanted before (item.Star line x ∷ xs) t place s l = items_keep wanted true xs t.1 place _ (t.0.seen wanted place _ (misplaced_keeps (is_stray wanted before) line place s l))

pub list_keeps : (line : ℕ) (xs : List (Item Expr)) → AllByRecursion ItemTidy xs → (wanted : Role) → Keeps (list line (map (item_of survey.expr) xs) wanted)
list_keeps line xs t wanted place s l = items_keep (listed wanted) false xs t place _ (misplaced_keeps (is_single wanted) line place s l)

pub maybe_keeps : (o : Option Expr) → OptionTidy o → Keeps (value_if (option_of survey.expr o))
maybe_keeps None t place s l = l
maybe_keeps (Some x) t place s l = t.seen role.Value place s l

subscripts_keep : (i : Subscript Expr) → SubscriptTidy i → Keeps (subscripts (subscript_of survey.expr i))
subscripts_keep (subscript.One x) t place s l = t.seen role.Value place s l
subscripts_keep (subscript.Several xs) t place s l = values_keep xs t place s l
subscripts_keep (subscript.Slice a b c) t place s l = maybe_keeps c t.2 place _ (maybe_keeps b t.1 place _ (maybe_keeps a t.0 place s l))

pub index_keeps : (line : ℕ) (x : Expr) (i : Subscript Expr) → Tidy x → SubscriptTidy i → (wanted : Role) → Keeps (index line (survey.expr x) (subscript_of survey.expr i) wanted)
index_keeps line x i t u wanted place s l =
    subscripts_keep i u place _ (t.seen role.Value place _ (misplaced_keeps (is_slice (subscript_of survey.expr i) && not (is_value wanted)) line place s l))

pub entries_keep : (xs : List (Entry Expr)) → AllByRecursion EntryTidy xs → Keeps (all (map entry_adds (map (entry_of survey.expr) xs)))
entries_keep [] t place s l = l
entries_keep (entry.Pair x y ∷ xs) t place s l = entries_keep xs t.1 place _ (t.0.1.seen role.Value place _ (t.0.0.seen role.Value place s l))
entries_keep (entry.Merge x ∷ xs) t place s l = entries_keep xs t.1 place _ (t.0.seen role.Value place s l)

pub links_keep : (xs : List (Link Expr)) → AllByRecursion LinkTidy xs → Keeps (all (map link_adds (map (link_of survey.expr) xs)))
links_keep [] t place s l = l
links_keep (x ∷ xs) t place s l = links_keep xs t.1 place _ (t.0.seen role.Value place s l)

each_argument : (start : ℕ) (xs : List (Argument Expr)) → AllByRecursion ArgumentTidy xs → Keeps (all (map (argument_adds start) (map (argument_of survey.expr) xs)))
each_argument start [] t place s l = l
each_argument start (argument.Plain x ∷ xs) t place s l = each_argument start xs t.1 place _ (t.0.seen role.Value place s l)
each_argument start (argument.Star x ∷ xs) t place s l = each_argument start xs t.1 place _ (t.0.seen role.Value place s l)
each_argument start (argument.Keyword line x y ∷ xs) t place s l = each_argument start xs t.1 place _ (t.0.seen role.Value place _ (name_keeps line (what.Keyword start) x place s l))
each_argument start (argument.Merge x ∷ xs) t place s l = each_argument start xs t.1 place _ (t.0.seen role.Value place s l)

pub arguments_keep : (line : ℕ) (xs : List (Argument Expr)) → AllByRecursion ArgumentTidy xs → Keeps (arguments line (map (argument_of survey.expr) xs))
arguments_keep line xs t place s l = each_argument (length s.sites) xs t place _ (site_keeps line what.Arguments place s l)

-- Functions and comprehensions

params_keep : (own : Place) (ps : List (Param Expr)) → AllByRecursion ParamTidy ps → Keeps (all (map (param_adds own) (map (param_of survey.expr) ps)))
params_keep own [] t place s l = l
params_keep own (param.Named line x d ∷ ps) t place s l = params_keep own ps t.1 place _ (maybe_keeps d t.0.1 place _ (name_keeps line what.Parameter x own s l))
params_keep own (param.Slash line ∷ ps) t place s l = params_keep own ps t.1 place s l
params_keep own (param.Star line (Some x) ∷ ps) t place s l = params_keep own ps t.1 place _ (name_keeps line what.Parameter x own s l)
params_keep own (param.Star line None ∷ ps) t place s l = params_keep own ps t.1 place s l
params_keep own (param.DoubleStar line x ∷ ps) t place s l = params_keep own ps t.1 place _ (name_keeps line what.Parameter x own s l)

pub function_keeps : (line : ℕ) (kind : ScopeKind) (title : List ℕ) (ps : List (Param Expr)) (body : Adds) → 0 < line → AllByRecursion ParamTidy ps → Keeps body → Keeps (function line kind title (map (param_of survey.expr) ps) body)
function_keeps line kind title ps body from_one t b place s l =
    b (inside kind place s) _ (params_keep (inside kind place s) ps t place _ (enter_keeps line kind title from_one place s l))

more_keep : (cs : List (Clause Expr)) → AllByRecursion ClauseTidy cs → Keeps (all (map clause_adds (map (clause_of survey.expr) cs)))
more_keep [] t place s l = l
more_keep (clause.For line x y ∷ cs) t place s l = more_keep cs t.1 place _ (t.0.1.seen role.Value place _ (t.0.0.seen role.Target place s l))
more_keep (clause.If line x ∷ cs) t place s l = more_keep cs t.1 place _ (t.0.seen role.Value place s l)

pub comprehension_keeps : (line : ℕ) (kind : ScopeKind) (xs : List Expr) (cs : Clauses Expr) → 0 < line → AllByRecursion Tidy xs → ClausesTidy cs → Keeps (comprehension line kind (map survey.expr xs) (clauses_of survey.expr cs))
comprehension_keeps line kind xs cs from_one t u place s l =
    let own = inside kind place s in
    more_keep cs.more u.2 own _ (u.1.seen role.Value place _ (u.0.seen role.Target own _ (values_keep xs t own _ (enter_keeps line kind (own_name kind) from_one place s l))))
