-- The codes of a script that keeps the static rules: one for each scope, and each fits its scope.
use Rattle.std.proofs.Common.{◌≡◌, ℕ, zero, suc, ◌+◌, Bool, true, false, cond, not, ◌&&◌, ◌||◌, List, [], ◌∷◌, ◌++◌, length, map, Some, None, inl, refl, ap, ◌∙◌, sym, subst, arith, append-nil, ◌-◌, ◌<◌}
use Rattle.std.specs.Prelude.{slice_get, nat_lt, option_map, ◌==◌}
use Rattle.std.specs.List.{filter}
use Rattle.std.proofs.lemmas.Bool.{le-ltb, and_right}
use Rattle.std.proofs.lemmas.Option.{slice_get_within, slice_get-map}
use Rattle.std.proofs.lemmas.List.{length-map}
use Rattle.nu_value.specs.declared.header.Header.{Header}
use Rattle.py_ast.specs.declared.scoped.NameHome.{NameHome}
use Rattle.py_ast.specs.declared.scoped.Scope.{Scope}
use Rattle.py_ast.specs.declared.scoped.ScopeKind.TheVariants as kind
use Rattle.py_ast.specs.declared.stmt.Stmt.{Stmt}
use Rattle.py_scopes.specs.declared.survey.Survey.{Survey}
use Rattle.py_scopes.specs.Survey.{enter, stmts, top, survey_of, own_name, class_name, is_generator_kind}
use Rattle.py_scopes.specs.Homes.{somewhere}
use Rattle.py_scopes.specs.Rules.{KeepsAll, is_function, kind_of}
use Rattle.py_scopes.specs.Resolve.{scopes_of, is_yield}
use Rattle.py_scopes.specs.Nested.{Nest}
use Rattle.py_meaning.specs.Syntax as syntax
use Rattle.py_meaning.specs.Resolved.{code, header, inside, block, stmt, module_context, module_codes}
use Rattle.py_meaning.specs.Scopes.{is_class, is_free, free_names, own_names, distinct, names_at, names_where, is_inside, parameter_of}
use Rattle.py_safe.specs.Rosters.{OfModule, Roster, IsCode}
use Rattle.py_safe.specs.Constructs.{Room, IsFalse, RunAs, LawfulBlock}
use Rattle.py_accepted.specs.Laws.{role_of, role_in}
use Rattle.py_accepted.proofs.Lists.{got_behind}
use Rattle.py_accepted.proofs.Names.{scope_at, scopes_length}
use Rattle.py_accepted.proofs.Homes.{RoomFits, some_at}
use Rattle.py_accepted.proofs.Doing.{Case, IsCoded, CodeFits, CodesFit, IsPart, Result}
use Rattle.py_accepted.proofs.Places.{context, no_yield}
use Rattle.py_accepted.proofs.Inner.{IsScope, inner_room, kind_is, inner_yields, lawful_code, entered}
use Rattle.py_accepted.proofs.Statements.{Within, stmts_do}

-- The module gets no cells

no_free : (n : NameHome) → is_free 0 n ≡ false
no_free n = and_right (not (n.home == 0)) (nat_lt n.home 0) (le-ltb n.home 0 (omega arith))

none_free : (xs : List NameHome) → filter (is_free 0) xs ≡ []
none_free [] = refl
none_free (n ∷ xs) = go (is_free 0 n) (no_free n) (none_free xs)
  where
    go : (b : Bool) → b ≡ false → filter (is_free 0) xs ≡ [] → cond b (n ∷ filter (is_free 0) xs) (filter (is_free 0) xs) ≡ []
    go true e rest = cc
    go false e rest = rest

module_frees : (scopes : List Scope) → length (free_names scopes 0) ≡ 0
module_frees scopes = ap (λ ns. length (distinct (map (λ n. n.name) ns))) (none_free (names_at scopes 0 ++ names_where (λ scope. is_inside scopes 0 scope && not (scope == 0)) 0 scopes))

-- The codes of a script

abbrev pub codes_for : List Scope → ℕ → List Stmt → List syntax.Code
codes_for scopes first xs = module_codes (module_context scopes first) (block (module_context scopes first) (map stmt xs) 1)

-- there is one for each scope, and each fits its scope
pub record AllFit (z : Case) (xs : List Stmt) : Type 0 where
  pub codes : CodesFit z 0 (codes_for (scopes_of z.survey) z.first xs)
  pub count : length z.survey.scopes ≡ length (codes_for (scopes_of z.survey) z.first xs)
  pub module_is : role_in (scopes_of z.survey) 0 ≡ OfModule

abbrev nothing_yet : Bool → Survey
nothing_yet built_in = record { built_in = built_in; scopes = []; sites = [] }

abbrev beginning : Bool → Survey
beginning built_in = enter 1 kind.Module (own_name kind.Module) top (nothing_yet built_in)

survey_is : (built_in : Bool) (xs : List Stmt) → survey_of built_in xs ≡ stmts xs top (beginning built_in)
unfolding survey_of
survey_is built_in xs = refl

abbrev module_room : Case → Room
module_room z = inner_room z 0 kind.Module [] 0

module _ (z : Case) (e : IsScope z 0 1 kind.Module (own_name kind.Module) top) where
  module_fits : RoomFits z.survey 0 [] (module_room z)
  module_fits = record {
    there = slice_get_within z.survey.scopes 0 _ e;
    locals = refl;
    owns = sym (length-map (own_names (scopes_of z.survey) 0) (parameter_of []));
    frees = refl;
    names = ap is_class (kind_is z 0 1 kind.Module (own_name kind.Module) top e);
    inner = inl refl;
  }

  module_within : Within z 1 top [] (module_room z)
  module_within = (record { scope = omega arith; class = tt; room = module_fits; yields = inner_yields z 0 1 kind.Module (own_name kind.Module) top e [] }, (λ h. h), (λ h. refl))

  module_run : (b : syntax.Body) → RunAs OfModule (code (inside (context z top []) 0 [] None) [] b)
  module_run b =
      let is = scope_at z.survey 0 _ e in
      let none : somewhere is_yield 0 z.survey.sites ≡ false = no_yield z 0 (ap (λ o. is_function (kind_of o)) e) in
      (ap (λ o. (header o []).params) is, module_frees (scopes_of z.survey), subst IsFalse (sym (ap (λ o. (header o []).generator) is ∙ ap (λ b. b || is_generator_kind kind.Module) none)) tt)

pub all_fit : (z : Case) (built_in : Bool) (xs : List Stmt) → z.survey ≡ survey_of built_in xs → AllFit z xs
unfolding class_name
all_fit z built_in xs same =
    let begun = beginning built_in in
    let t = stmts xs top begun in
    let is : z.survey ≡ t = same ∙ survey_is built_in xs in
    let part : IsPart z.survey t = record { scopes_more = []; scopes = ap (λ s. s.scopes) is ∙ sym (append-nil t.scopes); sites_more = []; sites = ap (λ s. s.sites) is ∙ sym (append-nil t.sites) } in
    let d = stmts_do z 1 top [] (module_room z) xs in
    let h = entered z 1 kind.Module (own_name kind.Module) top (nothing_yet built_in) (d.adds begun part) in
    let number : length begun.scopes ≡ 1 = h.2 in
    let c = module_context (scopes_of z.survey) z.first in
    let m = block c (map stmt xs) in
    let good = LawfulBlock z.roster (module_room z) false in
    let x : Result z good begun t (m 1) = subst (λ n. Result z good begun t (m n)) number (d.here (module_within z h.1) begun (omega (arith, number)) part) in
    let y : CodesFit z 1 (m 1).codes = subst (λ n. CodesFit z n (m 1).codes) number x.codes in
    record {
      codes = (lawful_code z 0 1 kind.Module (own_name kind.Module) top h.1 [] 0 [] None (syntax.Statements (m 1).is) (omega arith) (module_run z h.1 (syntax.Statements (m 1).is)) refl x.fine, y);
      count = omega (arith, ap (λ s. length s.scopes) is, x.count, number);
      module_is = ap role_of (kind_is z 0 1 kind.Module (own_name kind.Module) top h.1);
    }

pub code_at : (z : Case) (n m : ℕ) (xs : List syntax.Code) → CodesFit z n xs → (i : ℕ) (x : syntax.Code) → n + i ≡ m → slice_get xs i ≡ Some x → CodeFits z m x
code_at z n m [] f i x l e = cc
code_at z n m (y ∷ ys) f zero x l e =
    let number : n ≡ m = omega (arith, l) in
    let same : y ≡ x = cc in
    subst (λ k. CodeFits z k x) number (subst (λ c. CodeFits z n c) same f.0)
code_at z n m (y ∷ ys) f (suc i) x l e = code_at z (suc n) m ys f.1 i x (omega (arith, l)) e

-- Rosters. What the codes are depends on no roster, so their shapes are known by any that fits the scopes, and show that theirs does

pub coded_at : (c : Roster) (first : ℕ) (scopes : List Scope) (n m : ℕ) (h : Header) → first + n ≡ m → slice_get c.headers m ≡ Some h → c.role m ≡ role_in scopes n → c.frees m ≡ length (free_names scopes n) → IsCoded c first scopes n
coded_at c first scopes n m h l at is f =
    let number : m ≡ first + n = omega (arith, l) in
    record {
      made = subst (λ m. IsCode c m (role_in scopes n)) number (record { header = h; at = at; is = is });
      frees = subst (λ m. c.frees m ≡ length (free_names scopes n)) number f;
    }

pub none_more : (n : ℕ) → 0 + n ≡ n
none_more n = omega arith

-- a script of which the first code has this number
module _ (s : Survey) (keeps : KeepsAll s) (nests : Nest (scopes_of s)) (built_in : Bool) (xs : List Stmt) (same : s ≡ survey_of built_in xs) (first : ℕ) where
  -- headers with some in front, by the scopes alone
  abbrev by_scopes : List Scope → Roster
  by_scopes before = record { headers = map (λ x. header (Some x) []) (before ++ scopes_of s); frees = λ n. length (free_names (scopes_of s) (n - first)); role = λ n. role_in (scopes_of s) (n - first) }

  module _ (before : List Scope) (so_many : length before ≡ first) where
    pub coded_so : (n : ℕ) → n < length s.scopes → IsCoded (by_scopes before) first (scopes_of s) n
    coded_so n l =
        let x = some_at (scopes_of s) n (omega (arith, l, scopes_length s)) in
        let back : (first + n) - first ≡ n = omega arith in
        coded_at (by_scopes before) first (scopes_of s) n (first + n) (header (Some x.0) []) refl
        (slice_get-map (λ x. header (Some x) []) (before ++ scopes_of s) (first + n) ∙ ap (option_map (λ x. header (Some x) [])) (got_behind before (scopes_of s) n (first + n) (omega (arith, so_many)) ∙ x.1))
        (ap (role_in (scopes_of s)) back) (ap (λ k. length (free_names (scopes_of s) k)) back)

    pub shapes : AllFit (record { survey = s; keeps = λ kind other. keeps kind; nests = nests; roster = by_scopes before; first = first; coded = coded_so }) xs
    shapes = all_fit (record { survey = s; keeps = λ kind other. keeps kind; nests = nests; roster = by_scopes before; first = first; coded = coded_so }) built_in xs same

    abbrev its_codes : List syntax.Code
    its_codes = codes_for (scopes_of s) first xs

    -- in a roster that has these codes from there on
    pub coded_in : (c : Roster) → ((n : ℕ) (x : syntax.Code) → slice_get its_codes n ≡ Some x → (slice_get c.headers (first + n) ≡ Some x.header) × (c.frees (first + n) ≡ x.frees)) → ((n : ℕ) → n < length s.scopes → c.role (first + n) ≡ role_in (scopes_of s) n)
        → (n : ℕ) → n < length s.scopes → IsCoded c first (scopes_of s) n
    coded_in c h role n l =
        let x = some_at its_codes n (omega (arith, l, shapes.count)) in
        let is = h n x.0 x.1 in
        coded_at c first (scopes_of s) n (first + n) (x.0).header refl is.0 (role n l)
        (is.1 ∙ (code_at (record { survey = s; keeps = λ kind other. keeps kind; nests = nests; roster = by_scopes before; first = first; coded = coded_so }) 0 n its_codes shapes.codes n x.0 (omega arith) x.1).frees)
