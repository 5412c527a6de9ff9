-- Where something stands in a script, and what is known of names and sites there.
use Rattle.std.proofs.Common.{◌≡◌, ℕ, ◌<◌, ◌≤◌, ◌==◌, Bool, true, false, not, ◌&&◌, List, [], ◌∷◌, ◌++◌, length, Option, Some, None, inl, inr, refl, ap, ◌∙◌, sym, subst, arith}
use Rattle.std.specs.Prelude.{slice_get, IsTrue, option_map}
use Rattle.std.specs.List.{list_any}
use Rattle.std.proofs.lemmas.Bool.{or_left, or_right, or_cases, and_from, and_parts, eq-eqb, eqb-true, false_from_ne_true}
use Rattle.std.proofs.lemmas.List.Folds.{list_any-append}
use Rattle.py_ast.specs.declared.scoped.Scope.{Scope}
use Rattle.py_ast.specs.declared.scoped.ScopeKind.{ScopeKind}
use Rattle.py_scopes.specs.declared.survey.What.{What}
use Rattle.py_scopes.specs.declared.survey.What.TheVariants as what
use Rattle.py_scopes.specs.declared.survey.Place.{Place}
use Rattle.py_scopes.specs.declared.survey.Site.{Site}
use Rattle.py_scopes.specs.declared.survey.Survey.{Survey}
use Rattle.py_scopes.specs.Survey.{site, name, spelled, class_name}
use Rattle.py_scopes.specs.Homes.{occurs, is_name, somewhere}
use Rattle.py_scopes.specs.Rules.{variable, leaves_none, kind_of, is_function}
use Rattle.py_scopes.specs.Rules as rules
use Rattle.py_scopes.specs.Resolve.{scopes_of, is_yield}
use Rattle.py_scopes.specs.Names.{mangled}
use Rattle.py_meaning.specs.Syntax as syntax
use Rattle.py_meaning.specs.Resolved.{Context, home_in, name_in}
use Rattle.py_meaning.specs.Scopes.{home_of}
use Rattle.py_safe.specs.Constructs.{Room, HasHome, MayUnbind, IsFalse}
use Rattle.py_accepted.proofs.Lists.{got_in, text_same}
use Rattle.py_accepted.proofs.Homes.{RoomFits, home_fits}
use Rattle.py_accepted.proofs.Doing.{Case, IsPart, Stands, site_adds, at_site, no_fault, no_false}

-- where something stands in a scope with these parameters
abbrev pub context : Case → Place → List (List ℕ) → Context
context z place ps = record { scopes = scopes_of z.survey; this = place.scope; parameters = ps; class = class_name z.survey place.class; first = z.first }

abbrev pub Below : ℕ → Option ℕ → Type 0
Below k None = Unit {0}
Below k (Some n) = n < k

-- among the first so many scopes, in a scope with such a room
pub record At (z : Case) (k : ℕ) (place : Place) (ps : List (List ℕ)) (r : Room) : Type 0 where
  pub scope : place.scope < k
  pub class : Below k place.class
  pub room : RoomFits z.survey place.scope ps r
  pub yields : somewhere is_yield place.scope z.survey.sites ≡ true → IsTrue r.yields

further_below : (k n : ℕ) (o : Option ℕ) → k ≤ n → Below k o → Below n o
further_below k n None l b = tt
further_below k n (Some c) l b = omega (arith, l, b)

pub further_on : (z : Case) (k n : ℕ) (place : Place) (ps : List (List ℕ)) (r : Room) → k ≤ n → At z k place ps r → At z n place ps r
further_on z k n place ps r l a = record { scope = omega (arith, a.scope, l); class = further_below k n place.class l a.class; room = a.room; yields = a.yields }

-- Names

class_stays : (z : Case) (k : ℕ) (s : Survey) (o : Option ℕ) → Below k o → k ≤ length s.scopes → IsPart z.survey s → class_name s o ≡ class_name z.survey o
unfolding class_name
class_stays z k s None b l p = refl
class_stays z k s (Some c) b l p =
    ap (option_map (λ (scope : Scope). scope.name)) (sym (got_in s.scopes p.scopes_more c (omega (arith, b, l))) ∙ ap (λ xs. slice_get xs c) (sym p.scopes))

hit : (x : Site) (y : List ℕ) → is_name y (variable x.what) ≡ true → (before after sites : List Site) → sites ≡ before ++ x ∷ after → occurs variable y x.place.scope sites ≡ true
hit x y h before after sites e =
    let test = λ (site : Site). (site.place.scope == x.place.scope) && is_name y (variable site.what) in
    ap (list_any test) e ∙ list_any-append test before (x ∷ after)
    ∙ or_right (list_any test before) _ (or_left (test x) (list_any test after) (and_from (x.place.scope == x.place.scope) (is_name y (variable x.what)) (eq-eqb x.place.scope x.place.scope refl) h))

-- a name in its room, which may be unbound where no local variable has to stay bound
abbrev pub IsFine : Room → syntax.Home → Type 0
IsFine r h = HasHome r h × ((IsFalse r.names → r.bound ≡ 0) → MayUnbind r h)

-- a part that names a variable
abbrev pub Names : (List ℕ → What) → Type 0
Names w = (y : List ℕ) → variable (w y) ≡ Some y

pub at_name : (z : Case) {k : ℕ} (place : Place) (ps : List (List ℕ)) (r : Room) (line : ℕ) (w : List ℕ → What) → Names w → (x : List ℕ)
    → Stands z k (At z k place ps r) (IsFine r (home_in (context z place ps) x)) (name line w x place)
at_name z {k} place ps r line w names x = record {
  adds = λ s p. site_adds z line (w (spelled place s x)) place s p;
  here = λ e s l p.
      let y = spelled place s x in
      let site = at_site z {k = k} {facts = At z k place ps r} line (w y) place in
      let h = site.here e s l p in
      let i = h.1 in
      let same : y ≡ name_in (context z place ps) x = ap (λ c. mangled c x) (class_stays z k s place.class e.class l (site.adds s p)) in
      let o = hit (record { place = place; line = line; what = w y }) y (ap (is_name y) (names y) ∙ text_same y) i.before i.after z.survey.sites i.cut in
      (h.0, subst (λ v. IsFine r (home_of (scopes_of z.survey) place.scope ps v)) same (home_fits z.survey z.nests place.scope ps r e.room y o));
}

-- a name of which nothing is asked
pub any_name : (z : Case) {k : ℕ} {facts : Type 0} (place : Place) (line : ℕ) (w : List ℕ → What) (x : List ℕ) → Stands z k facts (Unit {0}) (name line w x place)
any_name z {k} {facts} place line w x = record {
  adds = λ s p. site_adds z line (w (spelled place s x)) place s p;
  here = λ e s l p. (((at_site z {k = k} {facts = facts} line (w (spelled place s x)) place).here e s l p).0, tt);
}

-- Other sites

pub any_site : (z : Case) {k : ℕ} {facts : Type 0} (place : Place) (line : ℕ) (w : What) → Stands z k facts (Unit {0}) (site line w place)
any_site z {k} {facts} place line w = let a = at_site z {k = k} {facts = facts} line w place in record { adds = a.adds; here = λ e s l p. ((a.here e s l p).0, tt) }

yield_hit : (x : Site) → is_yield x.what ≡ true → (before after sites : List Site) → sites ≡ before ++ x ∷ after → somewhere is_yield x.place.scope sites ≡ true
yield_hit x h before after sites e =
    let test = λ (site : Site). (site.place.scope == x.place.scope) && is_yield site.what in
    ap (list_any test) e ∙ list_any-append test before (x ∷ after)
    ∙ or_right (list_any test before) _ (or_left (test x) (list_any test after) (and_from (x.place.scope == x.place.scope) (is_yield x.what) (eq-eqb x.place.scope x.place.scope refl) h))

-- a `yield` stands in a generator
pub at_yield : (z : Case) {k : ℕ} (place : Place) (ps : List (List ℕ)) (r : Room) (line : ℕ) → Stands z k (At z k place ps r) (IsTrue r.yields) (site line what.Yield place)
at_yield z {k} place ps r line =
    let a = at_site z {k = k} {facts = At z k place ps r} line what.Yield place in
    record { adds = a.adds; here = λ e s l p. let h = a.here e s l p in (h.0, e.yields (yield_hit (record { place = place; line = line; what = what.Yield }) refl h.1.before h.1.after z.survey.sites h.1.cut)) }

-- `break` and `continue` stand in loops
pub at_break : (z : Case) {k : ℕ} {facts : Type 0} (place : Place) (line : ℕ) → Stands z k facts (IsTrue place.in_loop) (site line what.Break place)
at_break z {k} {facts} place line =
    let a = at_site z {k = k} {facts = facts} line what.Break place in
    record { adds = a.adds; here = λ e s l p. let h = a.here e s l p in (h.0, go place.in_loop (no_fault z rules.Loop tt _ h.1)) }
  where
    go : (b : Bool) → (true && not b) ≡ false → IsTrue b
    go true e = refl
    go false e = cc

-- a bare `raise` stands in an `except` clause
pub at_reraise : (z : Case) {k : ℕ} {facts : Type 0} (place : Place) (line : ℕ) → Stands z k facts (IsTrue place.in_except) (site line what.Reraise place)
at_reraise z {k} {facts} place line =
    let a = at_site z {k = k} {facts = facts} line what.Reraise place in
    record { adds = a.adds; here = λ e s l p. let h = a.here e s l p in (h.0, go place.in_except (no_fault z rules.Raise tt _ h.1)) }
  where
    go : (b : Bool) → (true && not b) ≡ false → IsTrue b
    go true e = refl
    go false e = cc

-- No `yield` stands elsewhere

any_cut : {A : Type 0} (p : A → Bool) (xs : List A) → list_any p xs ≡ true → (before : List A) × (x : A) × (after : List A) × (xs ≡ before ++ x ∷ after) × (p x ≡ true)
any_cut p [] h = cc
any_cut {A} p (x ∷ xs) h =
    elim (or_cases (p x) (list_any p xs) h) as (λ o. (before : List A) × (y : A) × (after : List A) × (x ∷ xs ≡ before ++ y ∷ after) × (p y ≡ true)) [
      | inl a ↦ ([], x, xs, refl, a)
      | inr b ↦ (let r = any_cut p xs b in (x ∷ r.0, r.1, r.2, ap (λ ys. x ∷ ys) r.3, r.4))
    ]

yields_none : (w : What) (k : ScopeKind) → is_yield w ≡ true → is_function k ≡ false → leaves_none w k ≡ true
yields_none what.Yield k h f = ap not f
yields_none (what.Binds y) k h f = cc
yields_none (what.Parameter y) k h f = cc
yields_none (what.Uses y) k h f = cc
yields_none (what.Global y) k h f = cc
yields_none (what.Nonlocal y) k h f = cc
yields_none (what.Attribute y) k h f = cc
yields_none what.Arguments k h f = cc
yields_none (what.Keyword n y) k h f = cc
yields_none what.Break k h f = cc
yields_none what.Return k h f = cc
yields_none what.Reraise k h f = cc
yields_none what.Misplaced k h f = cc

pub no_yield : (z : Case) (t : ℕ) → is_function (kind_of (slice_get z.survey.scopes t)) ≡ false → somewhere is_yield t z.survey.sites ≡ false
no_yield z t f = false_from_ne_true (somewhere is_yield t z.survey.sites) (λ h.
    let c = any_cut (λ site. (site.place.scope == t) && is_yield site.what) z.survey.sites h in
    let x = c.1 in
    let both = and_parts (x.place.scope == t) (is_yield x.what) c.4 in
    let outside : leaves_none x.what (kind_of (slice_get z.survey.scopes x.place.scope)) ≡ true =
    yields_none x.what _ both.1 (subst (λ k. is_function (kind_of (slice_get z.survey.scopes k)) ≡ false) (sym (eqb-true x.place.scope t both.0)) f) in
    no_false (sym outside ∙ no_fault z rules.Function tt x (record { before = c.0; after = c.2; cut = c.3 })))
