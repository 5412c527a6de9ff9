-- Scopes: the code of a scope is lawful, and so is what makes a function of it.
use Rattle.std.proofs.Common.{◌≡◌, ℕ, suc, ◌+◌, ◌<◌, ◌≤◌, Bool, true, false, not, if◌then◌else◌, List, [], ◌∷◌, ◌++◌, length, map, Option, Some, None, inr, refl, ap, ◌∙◌, sym, subst, arith, append_assoc}
use Rattle.std.specs.Prelude.{slice_get, IsTrue, option_map}
use Rattle.std.proofs.lemmas.Bool.{or_left}
use Rattle.std.proofs.lemmas.Option.{slice_get_within}
use Rattle.std.proofs.lemmas.List.{length-append, length-map}
use Rattle.nu_value.specs.declared.header.ParamKind.{ParamKind}
use Rattle.py_ast.specs.declared.scoped.Scope.{Scope}
use Rattle.py_ast.specs.declared.scoped.ScopeKind.{ScopeKind}
use Rattle.py_ast.specs.declared.scoped.ScopeKind.TheVariants as kind
use Rattle.py_scopes.specs.declared.survey.Place.{Place}
use Rattle.py_scopes.specs.declared.survey.Survey.{Survey}
use Rattle.py_scopes.specs.Survey.{enter, class_inside, class_name, is_generator_kind}
use Rattle.py_scopes.specs.Homes.{somewhere, around_scope, enclosing}
use Rattle.py_scopes.specs.Resolve.{scopes_of, is_yield}
use Rattle.py_meaning.specs.Syntax as syntax
use Rattle.py_meaning.specs.Resolved.{Making, Context, inside, code, header}
use Rattle.py_meaning.specs.Scopes.{has, place_in, kind_in, is_class, holds_names, own_names, local_names, free_names, cell_for, cells_for, parameter_of}
use Rattle.py_safe.specs.Rosters.{IsCode}
use Rattle.py_safe.specs.Constructs as lawful
use Rattle.py_safe.specs.Constructs.{Room, HaveCells, IsMade, LawfulBody, LawfulCode, OwnsWithin, RunAs, bound_in, room_of}
use Rattle.py_accepted.specs.Laws.{role_of}
use Rattle.py_accepted.proofs.Lists.{got_at, has_in, placed}
use Rattle.py_accepted.proofs.Names.{scope_at}
use Rattle.py_accepted.proofs.Homes.{RoomFits, cells_fit}
use Rattle.py_accepted.proofs.Doing.{Case, CodeFits, CodesFit, IsPart, Does, Result}
use Rattle.py_accepted.proofs.Places.{context, Below, At, further_on}

-- scope n is of this kind, and stands in this place
abbrev pub scope_of : ℕ → ScopeKind → List ℕ → Place → Scope
scope_of line kind title place = record { kind = kind; name = title; line = line; enclosing = place.scope; is_generator = is_generator_kind kind; names = [] }

abbrev pub IsScope : Case → ℕ → ℕ → ScopeKind → List ℕ → Place → Type 0
IsScope z n line kind title place = slice_get z.survey.scopes n ≡ Some (scope_of line kind title place)

-- the place inside it
abbrev pub own : ScopeKind → Place → ℕ → Place
own kind place n = record { scope = n; class = class_inside kind n place.class; in_loop = false; in_except = false }

abbrev pub Params : Type 0
Params = List (ParamKind × List ℕ)

abbrev pub names_of : Params → List (List ℕ)
names_of params = map (λ p. p.1) params

-- the room of its code, in which so many local variables stay bound
abbrev pub inner_room : Case → ℕ → ScopeKind → Params → ℕ → Room
inner_room z n kind params bound = record {
  locals = length (local_names (scopes_of z.survey) n (names_of params));
  bound = bound;
  owns = length (map (parameter_of (names_of params)) (own_names (scopes_of z.survey) n));
  frees = length (free_names (scopes_of z.survey) n);
  names = lawful.is_class (role_of kind);
  handler = false;
  yields = (header (slice_get (scopes_of z.survey) n) params).generator;
}

-- what is known inside
abbrev pub Facts : Case → ℕ → ℕ → ScopeKind → List ℕ → Place → List (List ℕ) → Room → Params → ℕ → Type 0
Facts z n line kind title place ps r params bound = At z (suc n) place ps r × At z (suc n) (own kind place n) (names_of params) (inner_room z n kind params bound) × IsScope z n line kind title place

class_roles : (k : ScopeKind) → is_class k ≡ lawful.is_class (role_of k)
class_roles kind.Module = refl
class_roles kind.Function = refl
class_roles kind.Lambda = refl
class_roles kind.Class = refl
class_roles kind.ListComprehension = refl
class_roles kind.DictComprehension = refl
class_roles kind.Generator = refl

inside_below : (k : ScopeKind) (n : ℕ) (o : Option ℕ) → Below n o → Below (suc n) (class_inside k n o)
inside_below kind.Class n o b = omega arith
inside_below kind.Module n o b = keep n o b
  where
    keep : (n : ℕ) (o : Option ℕ) → Below n o → Below (suc n) o
    keep n None b = tt
    keep n (Some c) b = omega (arith, b)
inside_below kind.Function n None b = tt
inside_below kind.Function n (Some c) b = omega (arith, b)
inside_below kind.Lambda n None b = tt
inside_below kind.Lambda n (Some c) b = omega (arith, b)
inside_below kind.ListComprehension n None b = tt
inside_below kind.ListComprehension n (Some c) b = omega (arith, b)
inside_below kind.DictComprehension n None b = tt
inside_below kind.DictComprehension n (Some c) b = omega (arith, b)
inside_below kind.Generator n None b = tt
inside_below kind.Generator n (Some c) b = omega (arith, b)

owns_fit : (ps : List (List ℕ)) (m : ℕ) → length ps ≡ m → (xs : List (List ℕ)) → OwnsWithin m (map (parameter_of ps) xs)
owns_fit ps m e [] = tt
owns_fit ps m e (x ∷ xs) = go (has ps x) refl (owns_fit ps m e xs)
  where
    go : (b : Bool) → has ps x ≡ b → OwnsWithin m (map (parameter_of ps) xs) → OwnsWithin m ((if b then Some (place_in ps x) else None) ∷ map (parameter_of ps) xs)
    go true h rest = (omega (arith, placed x ps (has_in x ps h), e), rest)
    go false h rest = rest

longer : {A : Type 0} (xs ys : List A) → length xs ≤ length (xs ++ ys)
longer xs ys = omega (arith, length-append xs ys)

header_params : (o : Option Scope) (params : Params) → (header o params).params ≡ params
header_params None params = refl
header_params (Some x) params = refl

module _ (z : Case) (n line : ℕ) (k : ScopeKind) (title : List ℕ) (place : Place) (e : IsScope z n line k title place) where
  pub kind_is : kind_in (slice_get (scopes_of z.survey) n) ≡ k
  kind_is = ap kind_in (scope_at z.survey n _ e)

  pub inner_fits : (params : Params) (bound : ℕ) → holds_names k ≡ not (is_class k) → RoomFits z.survey n (names_of params) (inner_room z n k params bound)
  inner_fits params bound h = record {
    there = slice_get_within z.survey.scopes n _ e;
    locals = refl;
    owns = sym (length-map (own_names (scopes_of z.survey) n) (parameter_of (names_of params)));
    frees = refl;
    names = ap is_class kind_is ∙ class_roles k;
    inner = inr (subst (λ k. holds_names k ≡ not (is_class k)) (sym kind_is) h);
  }

  pub inner_yields : (params : Params) → somewhere is_yield n z.survey.sites ≡ true → IsTrue (header (slice_get (scopes_of z.survey) n) params).generator
  inner_yields params h = ap (λ o. (header o params).generator) (scope_at z.survey n _ e) ∙ or_left (somewhere is_yield n z.survey.sites) (is_generator_kind k) h

  pub lawful_code : (params : Params) (bound : ℕ) (ps : List (List ℕ)) (class : Option (List ℕ)) (b : syntax.Body) → bound ≤ length params
      → RunAs (role_of k) (code (inside (context z place ps) n params class) params b) → bound_in (role_of k) b ≡ bound → LawfulBody z.roster (inner_room z n k params bound) b
      → CodeFits z n (code (inside (context z place ps) n params class) params b)
  lawful_code params bound ps class b l run is body = record {
    frees = refl;
    heading = ap (header (slice_get (scopes_of z.survey) n)) (sym (header_params (slice_get (scopes_of z.survey) n) params));
    lawful = subst (λ role. LawfulCode z.roster role (code (inside (context z place ps) n params class) params b)) (ap role_of (sym kind_is))
        (record {
          run = run;
          params = (let h : length (names_of params) ≤ length (local_names (scopes_of z.survey) n (names_of params)) = longer (names_of params) _ in omega (arith, h, length-map params (λ p. p.1), ap length (header_params (slice_get (scopes_of z.survey) n) params)));
          bound = omega (arith, l, is, ap length (header_params (slice_get (scopes_of z.survey) n) params));
          owns = owns_fit (names_of params) (length (header (slice_get (scopes_of z.survey) n) params).params) (length-map params (λ p. p.1) ∙ sym (ap length (header_params (slice_get (scopes_of z.survey) n) params))) (own_names (scopes_of z.survey) n);
          body = subst (λ j. LawfulBody z.roster (inner_room z n k params j) b) (sym is) body;
        });
  }

  pub function_made : (ps : List (List ℕ)) (r : Room) → RoomFits z.survey place.scope ps r → place.scope < n → IsMade z.roster r (z.first + n) (role_of k) (cells_for (scopes_of z.survey) place.scope n)
  function_made ps r f l =
      let there = slice_get_within z.survey.scopes n _ e in
      let coded = z.coded n there in
      let around : enclosing z.survey n ≡ place.scope = ap around_scope e in
      record {
        made = subst (λ role. IsCode z.roster (z.first + n) role) (ap role_of kind_is) coded.made;
        count = length-map (free_names (scopes_of z.survey) n) (cell_for (scopes_of z.survey) place.scope) ∙ sym coded.frees;
        have = subst (λ t. HaveCells r (cells_for (scopes_of z.survey) t n)) around (cells_fit z.survey z.nests ps r n (omega (arith, l)) there (subst (λ t. RoomFits z.survey t ps r) (sym around) f));
      }

-- the names in it are mangled by the name of its class
pub class_is : (z : Case) (n line : ℕ) (k : ScopeKind) (title : List ℕ) (place : Place) → IsScope z n line k title place → class_name z.survey (Some n) ≡ Some title
unfolding class_name
class_is z n line k title place e = ap (option_map (λ (scope : Scope). scope.name)) e

-- a survey with the next scope
pub entered : (z : Case) (line : ℕ) (k : ScopeKind) (title : List ℕ) (place : Place) (s : Survey) → IsPart z.survey (enter line k title place s) → IsPart z.survey s × IsScope z (length s.scopes) line k title place × (length (enter line k title place s).scopes ≡ length s.scopes + 1)
unfolding enter
entered z line k title place s p =
    let x = scope_of line k title place in
    let e : z.survey.scopes ≡ s.scopes ++ x ∷ p.scopes_more = p.scopes ∙ append_assoc s.scopes (x ∷ []) p.scopes_more in (
      record { scopes_more = x ∷ p.scopes_more; scopes = e; sites_more = p.sites_more; sites = p.sites },
      ap (λ xs. slice_get xs (length s.scopes)) e ∙ got_at s.scopes x p.scopes_more,
      length-append s.scopes (x ∷ []),
    )

-- what is made of a scope of which all parts are made so, from the number that comes next
abbrev pub whole_scope : {A B : Type 0} → Context → Params → Option (List ℕ) → (ℕ → Making A) → (A → syntax.Body) → (ℕ → A → B) → Making B
whole_scope c params class m body whole n = let a = m n (n + 1) in record { is = whole n a.is; next = a.next; codes = code (inside c n params class) params (body a.is) ∷ a.codes }

pub scope_does : (z : Case) {k : ℕ} (place : Place) (ps : List (List ℕ)) (r : Room) (line : ℕ) (kind : ScopeKind) (title : List ℕ) (params : Params) (class : Option (List ℕ)) (bound : ℕ)
    → {A B : Type 0} {P : A → Type 0} {Q : B → Type 0} {f : ℕ → Survey → Survey} (m : ℕ → Making A) (body : A → syntax.Body) (whole : ℕ → A → B)
    → holds_names kind ≡ not (is_class kind) → bound ≤ length params
    → ((n : ℕ) → IsScope z n line kind title place → (b : syntax.Body) → RunAs (role_of kind) (code (inside (context z place ps) n params class) params b))
    → ((n : ℕ) → Does z (suc n) (Facts z n line kind title place ps r params bound) (λ a. P a × (bound_in (role_of kind) (body a) ≡ bound) × LawfulBody z.roster (inner_room z n kind params bound) (body a)) (f n) (m n))
    → ((n : ℕ) (a : A) → P a → IsMade z.roster r (z.first + n) (role_of kind) (cells_for (scopes_of z.survey) place.scope n) → Q (whole n a))
    → Does z k (At z k place ps r) Q (λ s. f (length s.scopes) (enter line kind title place s)) (whole_scope (context z place ps) params class m body whole)
scope_does z {k} place ps r line kind title params class bound {A} {B} {P} {Q} {f} m body whole holds l run does fine = record {
  adds = λ s p. (entered z line kind title place s ((does (length s.scopes)).adds (enter line kind title place s) p)).0;
  here = λ e s j p.
      let n = length s.scopes in
      let t = enter line kind title place s in
      let d = does n in
      let h = entered z line kind title place s (d.adds t p) in
      let i = h.1 in
      let facts : Facts z n line kind title place ps r params bound = (
        further_on z k (suc n) place ps r (omega (arith, j)) e,
        record {
          scope = omega arith;
          class = inside_below kind n place.class (further_on z k n place ps r j e).class;
          room = inner_fits z n line kind title place i params bound holds;
          yields = inner_yields z n line kind title place i params;
        },
        i,
      ) in
      let good = λ (a : A). P a × (bound_in (role_of kind) (body a) ≡ bound) × LawfulBody z.roster (inner_room z n kind params bound) (body a) in
      let x : Result z good t (f n t) (m n (n + 1)) = subst (λ c. Result z good t (f n t) (m n c)) h.2 (d.here facts t (omega (arith, h.2)) p) in
      let number : length t.scopes ≡ suc n = omega (arith, h.2) in
      record {
        next = x.next;
        count = omega (arith, x.count, number);
        codes = (lawful_code z n line kind title place i params bound ps class (body (m n (n + 1)).is) l (run n i _) x.fine.1 x.fine.2, subst (λ c. CodesFit z c (m n (n + 1)).codes) number x.codes);
        fine = fine n (m n (n + 1)).is x.fine.0 (function_made z n line kind title place i ps r e.room (omega (arith, e.scope, j)));
      };
}
