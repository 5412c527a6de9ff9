-- What a built script adds to a survey: no scope, and no `yield`.
use Rattle.std.proofs.Common.{◌≡◌, ℕ, Bool, true, false, not, ◌&&◌, ◌||◌, ◌==◌, cond, List, [], ◌∷◌, map, Option, Some, None, is_some, refl, ap, ◌∙◌, sym, subst, arith}
use Rattle.std.proofs.lemmas.List.Folds.{list_any-append}
use Rattle.py_ast.specs.declared.expr.Argument.{Argument}
use Rattle.py_ast.specs.declared.expr.Argument.TheVariants as argument
use Rattle.py_ast.specs.declared.expr.Link.{Link}
use Rattle.py_ast.specs.declared.expr.Expr.{Expr, map-Expr, roll-Expr}
use Rattle.py_ast.specs.declared.expr.Expr.TheOpen.{Expr-F}
use Rattle.py_ast.specs.declared.expr.Expr.TheFolds.{ind-Expr, fold-roll-Expr}
use Rattle.py_ast.specs.declared.stmt.Branch.{Branch}
use Rattle.py_ast.specs.declared.stmt.Stmt.{Stmt, map-Stmt, roll-Stmt}
use Rattle.py_ast.specs.declared.stmt.Stmt.TheOpen.{Stmt-F}
use Rattle.py_ast.specs.declared.stmt.Stmt.TheFolds.{ind-Stmt, fold-roll-Stmt}
use Rattle.py_scopes.specs.Parts.{link_of, branch_of}
use Rattle.py_scopes.specs.declared.survey.Role.{Role}
use Rattle.py_scopes.specs.declared.survey.Role.TheVariants as role
use Rattle.py_scopes.specs.declared.survey.What.{What}
use Rattle.py_scopes.specs.declared.survey.What.TheVariants as what
use Rattle.py_scopes.specs.declared.survey.Place.{Place}
use Rattle.py_scopes.specs.declared.survey.Survey.{Survey}
use Rattle.py_scopes.specs.Homes.{somewhere}
use Rattle.py_scopes.specs.Resolve.{is_yield}
use Rattle.py_scopes.specs.Survey as survey
use Rattle.py_scopes.specs.Survey.{Adds, Part, site, all, misplaced_if, plain, name, named, is_value, link_adds, arguments, branch_adds, looping}
use Rattle.reform_all.specs.Built as built

-- What adds nothing but sites

-- the same scopes, and no further `yield` in the module
pub record Quiet (old new : Survey) : Type 0 where
  pub scopes : new.scopes ≡ old.scopes
  pub yields : somewhere is_yield 0 new.sites ≡ somewhere is_yield 0 old.sites

abbrev pub Plain : Adds → Type 0
Plain f = (place : Place) (s : Survey) → Quiet s (f place s)

still : (s : Survey) → Quiet s s
still s = record { scopes = refl; yields = refl }

further : (r s t : Survey) → Quiet r s → Quiet s t → Quiet r t
further r s t p q = record { scopes = q.scopes ∙ p.scopes; yields = q.yields ∙ p.yields }

-- one part, and one behind it
after : (f g : Adds) → Plain f → Plain g → Plain (λ place s. g place (f place s))
after f g p q place s = further s (f place s) (g place (f place s)) (p place s) (q place (f place s))

nothing_more : (a b c : Bool) → c ≡ false → (a || ((b && c) || false)) ≡ a
nothing_more true b c h = refl
nothing_more false true c h = ap (λ c. c || false) h
nothing_more false false c h = refl

one_yields : (line : ℕ) (w : What) → is_yield w ≡ false → (place : Place) (s : Survey) → somewhere is_yield 0 (site line w place s).sites ≡ somewhere is_yield 0 s.sites
unfolding site
one_yields line w h place s = list_any-append (λ site. (site.place.scope == 0) && is_yield site.what) s.sites _ ∙ nothing_more (somewhere is_yield 0 s.sites) (place.scope == 0) (is_yield w) h

same_scopes : (line : ℕ) (w : What) (place : Place) (s : Survey) → (site line w place s).scopes ≡ s.scopes
unfolding site
same_scopes line w place s = refl

site_plain : (line : ℕ) (w : What) → is_yield w ≡ false → Plain (site line w)
site_plain line w h place s = record { scopes = same_scopes line w place s; yields = one_yields line w h place s }

none_plain : Plain (all [])
none_plain place s = still s

misplaced_plain : (wrong : Bool) (line : ℕ) → Plain (misplaced_if wrong line)
misplaced_plain true line place s = site_plain line what.Misplaced refl place s
misplaced_plain false line place s = still s

plain_plain : (line : ℕ) (f : Adds) → Plain f → (wanted : Role) → Plain (plain line f wanted)
plain_plain line f p wanted = after (misplaced_if (not (is_value wanted)) line) f (misplaced_plain (not (is_value wanted)) line) p

named_quiet : (wanted : Role) (x : List ℕ) → is_yield (named wanted x) ≡ false
named_quiet role.Value x = refl
named_quiet role.Target x = refl
named_quiet role.Augmented x = refl
named_quiet role.Deleted x = refl

name_plain : (line : ℕ) (of_name : List ℕ → What) → ((x : List ℕ) → is_yield (of_name x) ≡ false) → (x : List ℕ) → Plain (name line of_name x)
name_plain line of_name h x place s = site_plain line (of_name (survey.spelled place s x)) (h (survey.spelled place s x)) place s

-- What is built

some_none : {A : Type 0} (a : A) → Some a ≡ None → ⊥
some_none a e = let h : true ≡ false = ap is_some e in grind (arith, h)

none_some : {A : Type 0} (a : A) → None ≡ Some a → ⊥
none_some a e = some_none a (sym e)

before_none : (a b : Option ℕ) → built.before a b ≡ None → (a ≡ None) × (b ≡ None)
before_none (Some n) b h = absurd (some_none n h)
before_none None b h = (refl, h)

unless_none : (c : Bool) (line : ℕ) (o : Option ℕ) → cond c (Some line) o ≡ None → o ≡ None
unless_none true line o h = absurd (some_none line h)
unless_none false line o h = h

if_none : (c : Bool) (line : ℕ) (o : Option ℕ) → cond c o (Some line) ≡ None → o ≡ None
if_none true line o h = h
if_none false line o h = absurd (some_none line h)

-- Expressions

-- what is built, or is a name, adds nothing but sites
pub record Clear (b : built.Expression) (p : Part) : Type 0 where
  pub value : (bound : List (List ℕ)) → b.unbuilt bound ≡ None → (wanted : Role) → Plain (p wanted)
  pub name : (x : List ℕ) → b.name ≡ Some x → (wanted : Role) → Plain (p wanted)

values_clear : (unbuilt : List (List ℕ) → Option ℕ) (p : Part) → ((bound : List (List ℕ)) → unbuilt bound ≡ None → (wanted : Role) → Plain (p wanted)) → Clear (built.valued unbuilt) p
values_clear unbuilt p h = record { value = h; name = λ x e. absurd (none_some x e) }

outside : (line : ℕ) (p : Part) → Clear (built.valued (λ bound. Some line)) p
outside line p = values_clear (λ bound. Some line) p (λ bound h. absurd (some_none line h))

constant_clear : (line : ℕ) → Clear (built.valued (λ bound. None)) (plain line (all []))
constant_clear line = values_clear (λ bound. None) (plain line (all [])) (λ bound h. plain_plain line (all []) none_plain)

abbrev Sure : Type 0
Sure = (x : Expr) × Clear (built.expr x) (survey.expr x)

abbrev value_of : Sure → Adds
value_of x = survey.expr x.0 role.Value

name_clear : (line : ℕ) (x : List ℕ) (unbuilt : List (List ℕ) → Option ℕ) → Clear (record { unbuilt = unbuilt; name = Some x }) (survey.expr_adds (Expr-F.Name line x))
name_clear line x unbuilt = record { value = λ bound h. here; name = λ y e. here }
  where
    here : (wanted : Role) → Plain (survey.expr_adds (Expr-F.Name line x) wanted)
    here wanted = name_plain line (named wanted) (named_quiet wanted) x

one_clear : (line : ℕ) (x : Sure) → Clear (built.valued (built.expr x.0).unbuilt) (plain line (value_of x))
one_clear line x = values_clear (built.expr x.0).unbuilt (plain line (value_of x)) (λ bound h. plain_plain line (value_of x) (x.1.value bound h role.Value))

two_clear : (line : ℕ) (x y : Sure) → Clear (built.valued (built.both (built.expr x.0) (built.expr y.0))) (plain line (survey.values (survey.expr x.0 ∷ survey.expr y.0 ∷ [])))
two_clear line x y = values_clear (built.both (built.expr x.0) (built.expr y.0)) (plain line (survey.values (survey.expr x.0 ∷ survey.expr y.0 ∷ []))) (λ bound h.
    let parts = before_none ((built.expr x.0).unbuilt bound) ((built.expr y.0).unbuilt bound) h in
    plain_plain line (survey.values (survey.expr x.0 ∷ survey.expr y.0 ∷ [])) (after (value_of x) (value_of y) (x.1.value bound parts.0 role.Value) (y.1.value bound parts.1 role.Value)))

abbrev links_of : List (Link Sure) → List (Link Expr)
links_of links = map (link_of (λ x. x.0)) links

abbrev compares : ℕ → Sure → List (Link Sure) → Part
compares line x links = plain line (λ place s. all (map link_adds (map (link_of survey.expr) (links_of links))) place (value_of x place s))

compare_clear : (line : ℕ) (x : Sure) (links : List (Link Sure)) → Clear (built.valued (built.compared line (built.expr x.0) (map (link_of built.expr) (links_of links)))) (compares line x links)
compare_clear line x [] = outside line (compares line x [])
compare_clear line x (a ∷ b ∷ links) = outside line (compares line x (a ∷ b ∷ links))
compare_clear line x (a ∷ []) = values_clear (built.compared line (built.expr x.0) (map (link_of built.expr) (links_of (a ∷ [])))) (compares line x (a ∷ [])) (λ bound h.
    let parts = before_none ((built.expr x.0).unbuilt bound) ((built.expr a.right.0).unbuilt bound) (unless_none (built.is_in a.comparison) line (built.both (built.expr x.0) (built.expr a.right.0) bound) h) in
    plain_plain line (λ place s. value_of a.right place (value_of x place s)) (after (value_of x) (value_of a.right) (x.1.value bound parts.0 role.Value) (a.right.1.value bound parts.1 role.Value)))

-- a call that is built has one argument
abbrev is_one : List (Argument built.Expression) → Bool
is_one (argument.Plain x ∷ []) = true
is_one xs = false

no_call : (line : ℕ) (f : Option (List ℕ)) (xs : List (Argument built.Expression)) (bound : List (List ℕ)) → is_one xs ≡ false → built.called line f xs bound ≡ None → ⊥
no_call line None [] bound o h = some_none line h
no_call line None (x ∷ xs) bound o h = some_none line h
no_call line (Some f) [] bound o h = some_none line h
no_call line (Some f) (argument.Plain x ∷ []) bound o h = grind (arith, o)
no_call line (Some f) (argument.Plain x ∷ y ∷ ys) bound o h = some_none line h
no_call line (Some f) (argument.Star x ∷ xs) bound o h = some_none line h
no_call line (Some f) (argument.Keyword l n x ∷ xs) bound o h = some_none line h
no_call line (Some f) (argument.Merge x ∷ xs) bound o h = some_none line h

-- what is called is a name, and its argument is built
one_call : (line : ℕ) (f : Option (List ℕ)) (x : built.Expression) (bound : List (List ℕ)) → built.called line f (argument.Plain x ∷ []) bound ≡ None → ((n : List ℕ) × (f ≡ Some n)) × (x.unbuilt bound ≡ None)
one_call line None x bound h = absurd (some_none line h)
one_call line (Some f) x bound h = ((f, refl), if_none (built.is_print f) line (x.unbuilt bound) h)

other_call : (line : ℕ) (f : Option (List ℕ)) (xs : List (Argument built.Expression)) (p : Part) → is_one xs ≡ false → Clear (built.valued (built.called line f xs)) p
other_call line f xs p o = values_clear (built.called line f xs) p (λ bound h. absurd (no_call line f xs bound o h))

abbrev calls_one : ℕ → Sure → Sure → Adds
calls_one line f x place s = value_of x place (site line what.Arguments place (value_of f place s))

one_clear_call : (line : ℕ) (f x : Sure) → Clear (built.valued (built.called line (built.expr f.0).name (argument.Plain (built.expr x.0) ∷ []))) (plain line (calls_one line f x))
one_clear_call line f x = values_clear (built.called line (built.expr f.0).name (argument.Plain (built.expr x.0) ∷ [])) (plain line (calls_one line f x)) (λ bound h.
    let parts = one_call line (built.expr f.0).name (built.expr x.0) bound h in
    plain_plain line (calls_one line f x)
    (after (λ place s. site line what.Arguments place (value_of f place s)) (value_of x)
    (after (value_of f) (site line what.Arguments) (f.1.name parts.0.0 parts.0.1 role.Value) (site_plain line what.Arguments refl))
    (x.1.value bound parts.1 role.Value)))

abbrev bare : Expr-F Sure → Expr-F Expr
bare y = map-Expr Sure Expr (λ x. x.0) y

abbrev Layer : Expr-F Sure → Type 0
Layer y = Clear (built.expr_row (map-Expr Expr built.Expression built.expr (bare y))) (survey.expr_adds (map-Expr Expr Part survey.expr (bare y)))

abbrev arguments_in : Expr-F built.Expression → List (Argument built.Expression)
arguments_in (Expr-F.Call line f xs) = xs
arguments_in y = []

abbrev given : ℕ → Sure → List (Argument Sure) → List (Argument built.Expression)
given line f xs = arguments_in (map-Expr Expr built.Expression built.expr (bare (Expr-F.Call line f xs)))

call_layer : (line : ℕ) (f : Sure) (xs : List (Argument Sure)) → Layer (Expr-F.Call line f xs)
call_layer line f [] = other_call line (built.expr f.0).name [] _ refl
call_layer line f (argument.Plain x ∷ y ∷ xs) = other_call line (built.expr f.0).name (given line f (argument.Plain x ∷ y ∷ xs)) _ refl
call_layer line f (argument.Star x ∷ xs) = other_call line (built.expr f.0).name (given line f (argument.Star x ∷ xs)) _ refl
call_layer line f (argument.Keyword l n x ∷ xs) = other_call line (built.expr f.0).name (given line f (argument.Keyword l n x ∷ xs)) _ refl
call_layer line f (argument.Merge x ∷ xs) = other_call line (built.expr f.0).name (given line f (argument.Merge x ∷ xs)) _ refl
call_layer line f (argument.Plain x ∷ []) = one_clear_call line f x

layer : (y : Expr-F Sure) → Layer y
layer (Expr-F.None line) = constant_clear line
layer (Expr-F.True line) = constant_clear line
layer (Expr-F.False line) = constant_clear line
layer (Expr-F.Number line z) = constant_clear line
layer (Expr-F.Text line x) = constant_clear line
layer (Expr-F.Name line x) = name_clear line x _
layer (Expr-F.Tuple line xs) = outside line _
layer (Expr-F.List line xs) = outside line _
layer (Expr-F.Dict line entries) = outside line _
layer (Expr-F.ListComprehension line x clauses) = outside line _
layer (Expr-F.DictComprehension line x y clauses) = outside line _
layer (Expr-F.Generator line x clauses) = outside line _
layer (Expr-F.Attribute line x attribute) = outside line _
layer (Expr-F.Index line x at) = outside line _
layer (Expr-F.Call line f xs) = call_layer line f xs
layer (Expr-F.Unary line sign x) = one_clear line x
layer (Expr-F.Binary line operator x y) = two_clear line x y
layer (Expr-F.Compare line x links) = compare_clear line x links
layer (Expr-F.Not line x) = one_clear line x
layer (Expr-F.Junction line junction x y) = outside line _
layer (Expr-F.Conditional line test x y) = outside line _
layer (Expr-F.Lambda line params x) = outside line _
layer (Expr-F.Yield line x) = outside line _
layer (Expr-F.YieldFrom line x) = outside line _
layer (Expr-F.Star line x) = outside line _

abbrev IsClear : Expr → Type 0
IsClear x = Clear (built.expr x) (survey.expr x)

pub expr_clear : (x : Expr) → IsClear x
expr_clear = ind-Expr IsClear (λ x y is.
    let z = bare y in
    subst (λ z. IsClear (roll-Expr z)) is
    (subst (λ b. Clear b (survey.expr (roll-Expr z))) (sym (fold-roll-Expr built.Expression built.expr_row z))
    (subst (λ p. Clear (built.expr_row (map-Expr Expr built.Expression built.expr z)) p) (sym (fold-roll-Expr Part survey.expr_adds z)) (layer y))))

-- Statements

value_plain : (bound : List (List ℕ)) (x : Expr) → (built.expr x).unbuilt bound ≡ None → Plain (survey.value x)
value_plain bound x h = (expr_clear x).value bound h role.Value

is_named : (line : ℕ) (o : Option (List ℕ)) → built.unless_name line o ≡ None → (x : List ℕ) × (o ≡ Some x)
is_named line None h = absurd (some_none line h)
is_named line (Some x) h = (x, refl)

target_plain : (x : Expr) → built.target x ≡ None → (wanted : Role) → Plain (survey.expr x wanted)
target_plain x h = let n = is_named _ (built.expr x).name h in (expr_clear x).name n.0 n.1

targets_plain : (xs : List Expr) → built.first (map built.target xs) ≡ None → Plain (all (map survey.target xs))
targets_plain [] h = none_plain
targets_plain (x ∷ xs) h =
    let parts = before_none (built.target x) (built.first (map built.target xs)) h in
    after (survey.target x) (all (map survey.target xs)) (target_plain x parts.0 role.Target) (targets_plain xs parts.1)

-- what is built adds nothing but sites
abbrev Settled : built.Statement → Adds → Type 0
Settled b f = (bound : List (List ℕ)) → b.unbuilt bound ≡ None → Plain f

abbrev IsSettled : Stmt → Type 0
IsSettled x = Settled (built.stmt x) (survey.stmt x)

abbrev Certain : Type 0
Certain = (x : Stmt) × IsSettled x

abbrev stmts_of : List Certain → List Stmt
stmts_of xs = map (λ x. x.0) xs

abbrev adds_of : List Certain → Adds
adds_of xs = all (map survey.stmt (stmts_of xs))

abbrev unbuilt_of : List Certain → List (List ℕ) → Option ℕ
unbuilt_of xs = built.all_unbuilt (map built.stmt (stmts_of xs))

beyond : (line : ℕ) (f : Adds) → Settled (built.outside line) f
beyond line f bound h = absurd (some_none line h)

all_settled : (xs : List Certain) (bound : List (List ℕ)) → unbuilt_of xs bound ≡ None → Plain (adds_of xs)
all_settled [] bound h = none_plain
all_settled (x ∷ xs) bound h =
    let parts = before_none ((built.stmt x.0).unbuilt bound) (unbuilt_of xs bound) h in
    after (survey.stmt x.0) (adds_of xs) (x.1 bound parts.0) (all_settled xs bound parts.1)

abbrev branches_of : List (Branch Certain) → List (Branch Stmt)
branches_of bs = map (branch_of (λ x. x.0)) bs

abbrev branches_add : List (Branch Certain) → List Certain → Adds
branches_add bs other place s = adds_of other place (all (map branch_adds (map (branch_of survey.stmt) (branches_of bs))) place s)

abbrev branches_unbuilt : List (Branch Certain) → List Certain → List (List ℕ) → Option ℕ
branches_unbuilt bs other = built.branches_unbuilt (map (branch_of built.stmt) (branches_of bs)) (map built.stmt (stmts_of other))

branches_settled : (bs : List (Branch Certain)) (other : List Certain) (bound : List (List ℕ)) → branches_unbuilt bs other bound ≡ None → Plain (branches_add bs other)
branches_settled [] other bound h = all_settled other bound h
branches_settled (b ∷ bs) other bound h =
    let body = unbuilt_of b.body bound in
    let rest = branches_unbuilt bs other bound in
    let parts = before_none ((built.expr b.test).unbuilt bound) (built.before body rest) h in
    let further = before_none body rest parts.1 in
    after (λ place s. adds_of b.body place (survey.value b.test place s)) (branches_add bs other)
    (after (survey.value b.test) (adds_of b.body) (value_plain bound b.test parts.0) (all_settled b.body bound further.0))
    (branches_settled bs other bound further.1)

if_settled : (line : ℕ) (bs : List (Branch Certain)) (other : List Certain) (bound : List (List ℕ))
    → built.branching line (map (branch_of built.stmt) (branches_of bs)) (map built.stmt (stmts_of other)) bound ≡ None
    → Plain (branches_add bs other)
if_settled line [] other bound h = absurd (some_none line h)
if_settled line (b ∷ bs) other bound h = branches_settled (b ∷ bs) other bound h

while_settled : (test : Expr) (body other : List Certain) (bound : List (List ℕ))
    → built.before ((built.expr test).unbuilt bound) (built.before (unbuilt_of body bound) (unbuilt_of other bound)) ≡ None
    → Plain (λ place s. adds_of other place (adds_of body (looping place) (survey.value test place s)))
while_settled test body other bound h =
    let parts = before_none ((built.expr test).unbuilt bound) (built.before (unbuilt_of body bound) (unbuilt_of other bound)) h in
    let rest = before_none (unbuilt_of body bound) (unbuilt_of other bound) parts.1 in
    after (λ place s. adds_of body (looping place) (survey.value test place s)) (adds_of other)
    (after (survey.value test) (λ place. adds_of body (looping place)) (value_plain bound test parts.0) (λ place. all_settled body bound rest.0 (looping place)))
    (all_settled other bound rest.1)

abbrev laid : Stmt-F Certain → Stmt-F Stmt
laid y = map-Stmt Certain Stmt (λ x. x.0) y

rows : (y : Stmt-F Certain)
    → Settled (built.stmt_row (map-Stmt Stmt built.Statement built.stmt (laid y))) (survey.stmt_adds (map-Stmt Stmt Adds survey.stmt (laid y)))
rows (Stmt-F.Expr line x) = λ bound h. value_plain bound x h
rows (Stmt-F.Assign line ts x) = λ bound h.
    let parts = before_none (built.first (map built.target ts)) ((built.expr x).unbuilt bound) h in
    after (all (map survey.target ts)) (survey.value x) (targets_plain ts parts.0) (value_plain bound x parts.1)
rows (Stmt-F.Augment line to operator x) = λ bound h.
    let parts = before_none (built.target to) ((built.expr x).unbuilt bound) h in
    after (survey.expr to role.Augmented) (survey.value x) (target_plain to parts.0 role.Augmented) (value_plain bound x parts.1)
rows (Stmt-F.Pass line) = λ bound h. none_plain
rows (Stmt-F.Break line) = λ bound h. site_plain line what.Break refl
rows (Stmt-F.Continue line) = λ bound h. site_plain line what.Break refl
rows (Stmt-F.Return line x) = beyond line _
rows (Stmt-F.Raise line x) = beyond line _
rows (Stmt-F.Del line to) = beyond line _
rows (Stmt-F.Assert line test text) = beyond line _
rows (Stmt-F.Global line names) = beyond line _
rows (Stmt-F.Nonlocal line names) = beyond line _
rows (Stmt-F.If line bs other) = if_settled line bs other
rows (Stmt-F.While line test body other) = while_settled test body other
rows (Stmt-F.For line to over body other) = beyond line _
rows (Stmt-F.Try line body handlers other final) = beyond line _
rows (Stmt-F.With line managers body) = beyond line _
rows (Stmt-F.Def line decorators x params body) = beyond line _
rows (Stmt-F.Class line decorators x base body) = beyond line _

pub stmt_settled : (x : Stmt) → IsSettled x
stmt_settled = ind-Stmt IsSettled (λ x y is.
    let z = laid y in
    subst (λ z. IsSettled (roll-Stmt z)) is
    (subst (λ b. Settled b (survey.stmt (roll-Stmt z))) (sym (fold-roll-Stmt built.Statement built.stmt_row z))
    (subst (λ f. Settled (built.stmt_row (map-Stmt Stmt built.Statement built.stmt z)) f) (sym (fold-roll-Stmt Adds survey.stmt_adds z)) (rows y))))

-- statements that are built add nothing but sites
pub stmts_settled : (xs : List Stmt) (bound : List (List ℕ)) → built.all_unbuilt (map built.stmt xs) bound ≡ None → Plain (survey.stmts xs)
stmts_settled [] bound h = none_plain
stmts_settled (x ∷ xs) bound h =
    let parts = before_none ((built.stmt x).unbuilt bound) (built.all_unbuilt (map built.stmt xs) bound) h in
    after (survey.stmt x) (survey.stmts xs) (stmt_settled x bound parts.0) (stmts_settled xs bound parts.1)
