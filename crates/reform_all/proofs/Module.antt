-- The module of a script that is built: its one scope.
use Rattle.std.proofs.Common.{◌≡◌, ℕ, zero, suc, Bool, true, false, not, ◌&&◌, ◌||◌, ◌==◌, cond, nat_lt, List, [], ◌∷◌, ◌++◌, map, length, codes, unwrap_or, Option, Some, None, refl, ap, ◌∙◌, sym, subst, arith}
use Rattle.std.specs.List.{filter}
use Rattle.std.specs.Str.{bytes_eq}
use Rattle.std.proofs.lemmas.Bool.{le-ltb}
use Rattle.py_ast.specs.declared.scoped.NameHome.{NameHome}
use Rattle.py_ast.specs.declared.scoped.Scope.{Scope}
use Rattle.py_ast.specs.declared.scoped.Scoped.{Scoped}
use Rattle.py_ast.specs.declared.scoped.ScopeKind.TheVariants as kind
use Rattle.py_ast.specs.declared.stmt.Stmt.{Stmt}
use Rattle.py_scopes.specs.declared.survey.Site.{Site}
use Rattle.py_scopes.specs.declared.survey.Survey.{Survey}
use Rattle.py_scopes.specs.Homes.{occurs, global, home, first_home, decided, binds, seen, seen_within}
use Rattle.py_scopes.specs.Resolve.{scopes_of, names_from, new_name, filled}
use Rattle.py_scopes.specs.Rules.{variable}
use Rattle.py_scopes.specs.Survey.{surveyed, survey_of, enter, own_name, top}
use Rattle.py_meaning.specs.Scopes.{home_among, home_by, is_free, distinct, is_inside, names_where}
use Rattle.reform_all.specs.Built.{first_unbuilt, bound_in}
use Rattle.reform_all.specs.Module.{IsModule}
use Rattle.reform_all.proofs.ModuleSurvey.{Quiet, stmts_settled}

-- Homes: nothing is around the module

nothing_around : (survey : Survey) → seen survey 0 ≡ []
nothing_around survey = go (length survey.scopes)
  where
    go : (n : ℕ) → seen_within survey n 0 ≡ []
    go zero = refl
    go (suc n) = refl

abbrev chosen : Bool → Bool → ℕ
chosen a b = unwrap_or (cond a (Some 0) (cond b (Some 0) None)) 0

home_is : (survey : Survey) (x : List ℕ) → home survey x 0 ≡ 0
unfolding home
home_is survey x = ap (λ around. unwrap_or (decided survey x 0) (first_home survey x around)) (nothing_around survey) ∙ go (occurs global x 0 survey.sites) (binds survey x 0)
  where
    go : (a b : Bool) → chosen a b ≡ 0
    go true b = refl
    go false true = refl
    go false false = refl

one_home : (survey : Survey) (before : List Site) (here : Bool) (o : Option (List ℕ)) (names : List NameHome) (x : List ℕ) → home_among names x ≡ 0
    → home_among (cond here (new_name survey before 0 o) [] ++ names) x ≡ 0
one_home survey before false o names x h = h
one_home survey before true None names x h = h
one_home survey before true (Some y) names x h = go (occurs variable y 0 before)
  where
    found : (b : Bool) → cond b (home survey y 0) (home_among names x) ≡ 0
    found true = home_is survey y
    found false = h

    go : (b : Bool) → home_among (cond b [] ((record { name = y; home = home survey y 0 }) ∷ []) ++ names) x ≡ 0
    go true = h
    go false = found (bytes_eq y x)

-- each name of the module has its home there
homes_are : (survey : Survey) (before sites : List Site) (x : List ℕ) → home_among (names_from survey 0 before sites) x ≡ 0
homes_are survey before [] x = refl
homes_are survey before (site ∷ sites) x =
    one_home survey before (site.place.scope == 0) (variable site.what) (names_from survey 0 (before ++ site ∷ []) sites) x (homes_are survey (before ++ site ∷ []) sites x)

-- no name is free in the module

not_free : (n : NameHome) → is_free 0 n ≡ false
not_free n = go (not (n.home == 0)) n.home
  where
    go : (a : Bool) (m : ℕ) → (a && nat_lt m 0) ≡ false
    go false m = refl
    go true m = le-ltb m 0 (omega arith)

none_free : (names : List NameHome) → filter (is_free 0) names ≡ []
none_free [] = refl
none_free (n ∷ names) = ap (λ b. cond b (n ∷ filter (is_free 0) names) (filter (is_free 0) names)) (not_free n) ∙ none_free names

-- The scope

abbrev module_scope : Bool → List NameHome → Scope
module_scope generator names = record { kind = kind.Module; name = codes "<module>"; line = 1; enclosing = 0; is_generator = generator; names = names }

begins : Survey
begins = enter 1 kind.Module (own_name kind.Module) top (record { built_in = false; scopes = []; sites = [] })

survey_is : (ss : List Stmt) → first_unbuilt ss ≡ None → Quiet begins (surveyed ss)
unfolding survey_of begins
survey_is ss h = stmts_settled ss (bound_in ss) h top begins

scopes_are : (ss : List Stmt) → first_unbuilt ss ≡ None → scopes_of (surveyed ss) ≡ module_scope false (names_from (surveyed ss) 0 [] (surveyed ss).sites) ∷ []
unfolding scopes_of begins enter
scopes_are ss h =
    let survey = surveyed ss in
    let q = survey_is ss h in
    ap (filled survey survey.sites 0) q.scopes ∙ ap (λ b. module_scope (b || false) (names_from survey 0 [] survey.sites) ∷ []) q.yields

alone : (names : List NameHome) → ((x : List ℕ) → home_among names x ≡ 0) → IsModule (module_scope false names ∷ [])
alone names h =
    let scopes = module_scope false names ∷ [] in
    record {
      inside = λ first. record { homes = λ x. ap (home_by scopes 0 [] x) (h x) };
      one = refl;
      header = refl;
      locals = refl;
      owns = refl;
      frees = ap (λ names. distinct (map (λ n. n.name) names)) (none_free (names ++ names_where (λ scope. is_inside scopes 0 scope && not (scope == 0)) 0 scopes));
    }

pub module_is : (s : Scoped) → s.scopes ≡ scopes_of (surveyed s.script.statements) → first_unbuilt s.script.statements ≡ None → IsModule s.scopes
module_is s e h =
    let survey = surveyed s.script.statements in
    subst IsModule (sym (e ∙ scopes_are s.script.statements h)) (alone (names_from survey 0 [] survey.sites) (homes_are survey [] survey.sites))
