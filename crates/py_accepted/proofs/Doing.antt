-- What parts of the tree do: each adds to the survey of the script, and is made to a construct and the codes of the scopes in it.
use Rattle.std.proofs.Common.{◌≡◌, ℕ, suc, ◌+◌, ◌<◌, ◌≤◌, Bool, true, false, List, [], ◌∷◌, ◌++◌, length, refl, ap, ◌∙◌, sym, subst, arith, append_assoc}
use Rattle.std.specs.Prelude.{slice_get}
use Rattle.std.proofs.lemmas.Bool.{false_from_ne_true}
use Rattle.std.proofs.lemmas.List.{length-append}
use Rattle.py_ast.specs.declared.scoped.Scope.{Scope}
use Rattle.py_scopes.specs.declared.survey.What.{What}
use Rattle.py_scopes.specs.declared.survey.What.TheVariants as what
use Rattle.py_scopes.specs.declared.survey.Place.{Place}
use Rattle.py_scopes.specs.declared.survey.Site.{Site}
use Rattle.py_scopes.specs.declared.survey.Survey.{Survey}
use Rattle.py_scopes.specs.Survey.{site}
use Rattle.py_scopes.specs.Resolve.{scopes_of}
use Rattle.py_scopes.specs.Nested.{Nest}
use Rattle.py_scopes.specs.Rules.{Kind, Breaks, fault}
use Rattle.py_scopes.specs.Rules as rules
use Rattle.py_meaning.specs.Syntax as syntax
use Rattle.py_meaning.specs.Resolved.{Made, Making, pure, and_then, made, header}
use Rattle.py_meaning.specs.Scopes.{free_names}
use Rattle.py_safe.specs.Rosters.{Roster, IsCode}
use Rattle.py_safe.specs.Constructs.{LawfulCode}
use Rattle.py_accepted.specs.Laws.{role_in}

-- Scripts

-- the code of this scope is there, run as its scope says, with as many cells as the scope has names of functions around it
pub record IsCoded (c : Roster) (first : ℕ) (scopes : List Scope) (n : ℕ) : Type 0 where
  pub made : IsCode c (first + n) (role_in scopes n)
  pub frees : c.frees (first + n) ≡ length (free_names scopes n)

-- each kind but that of names without a home, which codes look up as any name
abbrev pub IsOther : Kind → Type 0
IsOther rules.Name = ⊥
IsOther kind = Unit {0}

-- a script that keeps the other static rules, with what is known of its codes, of which the first has this number
pub record Case : Type 0 where
  pub survey : Survey
  pub keeps : (kind : Kind) → IsOther kind → Breaks kind survey → ⊥
  pub nests : Nest (scopes_of survey)
  pub roster : Roster
  pub first : ℕ
  pub coded : (n : ℕ) → n < length survey.scopes → IsCoded roster first (scopes_of survey) n

-- the code of scope n
pub record CodeFits (z : Case) (n : ℕ) (code : syntax.Code) : Type 0 where
  pub frees : code.frees ≡ length (free_names (scopes_of z.survey) n)
  pub heading : code.header ≡ header (slice_get (scopes_of z.survey) n) code.header.params
  pub lawful : LawfulCode z.roster (role_in (scopes_of z.survey) n) code

-- the codes of the scopes from n on
abbrev pub CodesFit : Case → ℕ → List syntax.Code → Type 0
CodesFit z n [] = Unit {0}
CodesFit z n (code ∷ codes) = CodeFits z n code × CodesFit z (suc n) codes

pub codes_join : (z : Case) (n m : ℕ) (xs ys : List syntax.Code) → n + length xs ≡ m → CodesFit z n xs → CodesFit z m ys → CodesFit z n (xs ++ ys)
codes_join z n m [] ys e a b = let same : m ≡ n = omega (arith, e) in subst (λ k. CodesFit z k ys) same b
codes_join z n m (x ∷ xs) ys e a b = (a.0, codes_join z (suc n) m xs ys (omega (arith, e)) a.1 b)

-- Surveys so far

-- this much of a survey
pub record IsPart (whole s : Survey) : Type 0 where
  pub scopes_more : List Scope
  pub scopes : whole.scopes ≡ s.scopes ++ scopes_more
  pub sites_more : List Site
  pub sites : whole.sites ≡ s.sites ++ sites_more

-- what is added is added behind
abbrev pub Adds : Case → (Survey → Survey) → Type 0
Adds z f = (s : Survey) → IsPart z.survey (f s) → IsPart z.survey s

-- What parts do

pub record Result (z : Case) {A : Type 0} (good : A → Type 0) (s t : Survey) (r : Made A) : Type 0 where
  pub next : r.next ≡ length t.scopes
  pub count : length t.scopes ≡ length s.scopes + length r.codes
  pub codes : CodesFit z (length s.scopes) r.codes
  pub fine : good r.is

-- behind so many scopes, where these facts hold
pub record Does (z : Case) (k : ℕ) (facts : Type 0) {A : Type 0} (good : A → Type 0) (f : Survey → Survey) (m : Making A) : Type 0 where
  pub adds : Adds z f
  pub here : facts → (s : Survey) → k ≤ length s.scopes → IsPart z.survey (f s) → Result z good s (f s) (m (length s.scopes))

-- what no scope stands in
pub record Stands (z : Case) (k : ℕ) (facts fact : Type 0) (f : Survey → Survey) : Type 0 where
  pub adds : Adds z f
  pub here : facts → (s : Survey) → k ≤ length s.scopes → IsPart z.survey (f s) → ((f s).scopes ≡ s.scopes) × fact

pub adds_both : (z : Case) {f g : Survey → Survey} → Adds z f → Adds z g → Adds z (λ s. g (f s))
adds_both z {f} {g} a b s p = a s (b (f s) p)

module _ (z : Case) {k : ℕ} {facts : Type 0} where
  pub nothing : {A : Type 0} {good : A → Type 0} (x : A) → (facts → good x) → Does z k facts good (λ s. s) (pure x)
  nothing x h = record {
    adds = λ s p. p;
    here = λ e s l p. record { next = refl; count = omega arith; codes = tt; fine = h e };
  }

  pub chain : {A B : Type 0} {P : A → Type 0} {Q : B → Type 0} {f g : Survey → Survey} {m : Making A} (h : A → Making B)
      → Does z k facts P f m → Adds z g → ((x : A) → P x → Does z k facts Q g (h x)) → Does z k facts Q (λ s. g (f s)) (and_then m h)
  chain {A} {B} {P} {Q} {f} {g} {m} h a b c = record {
    adds = λ s p. a.adds s (b (f s) p);
    here = λ e s l p.
        let x = a.here e s l (b (f s) p) in
        let r = m (length s.scopes) in
        let y : Result z Q (f s) (g (f s)) (h r.is r.next) =
        subst (λ n. Result z Q (f s) (g (f s)) (h r.is n)) (sym x.next) ((c r.is x.fine).here e (f s) (omega (arith, l, x.count)) p) in
        record {
          next = y.next;
          count = omega (arith, x.count, y.count, length-append r.codes (h r.is r.next).codes);
          codes = codes_join z (length s.scopes) (length (f s).scopes) r.codes (h r.is r.next).codes (sym x.count) x.codes y.codes;
          fine = y.fine;
        };
  }

  pub made_of : {A B : Type 0} {P : A → Type 0} {Q : B → Type 0} {f : Survey → Survey} {m : Making A} (h : A → B)
      → Does z k facts P f m → (facts → (x : A) → P x → Q (h x)) → Does z k facts Q f (made h m)
  made_of h a c = record {
    adds = a.adds;
    here = λ e s l p. let x = a.here e s l p in record { next = x.next; count = x.count; codes = x.codes; fine = c e _ x.fine };
  }

  pub two : {A B C : Type 0} {P : A → Type 0} {Q : B → Type 0} {R : C → Type 0} {f g : Survey → Survey} {m : Making A} {n : Making B} (h : A → B → C)
      → Does z k facts P f m → Does z k facts Q g n → (facts → (x : A) (y : B) → P x → Q y → R (h x y)) → Does z k facts R (λ s. g (f s)) (and_then m (λ x. made (h x) n))
  two {n = n} h a b c = chain (λ x. made (h x) n) a b.adds (λ x p. made_of (h x) b (λ e y q. c e x y p q))

  pub three : {A B C D : Type 0} {P : A → Type 0} {Q : B → Type 0} {R : C → Type 0} {T : D → Type 0} {f g i : Survey → Survey} {m : Making A} {n : Making B} {o : Making C} (h : A → B → C → D)
      → Does z k facts P f m → Does z k facts Q g n → Does z k facts R i o → (facts → (x : A) (y : B) (w : C) → P x → Q y → R w → T (h x y w))
      → Does z k facts T (λ s. i (g (f s))) (and_then m (λ x. and_then n (λ y. made (h x y) o)))
  three {m = m} {n = n} {o = o} h a b c t = chain (λ x. and_then n (λ y. made (h x y) o)) a (adds_both z b.adds c.adds) (λ x p. two (h x) b c (λ e y w q r. t e x y w p q r))

  pub four : {A B C D E : Type 0} {P : A → Type 0} {Q : B → Type 0} {R : C → Type 0} {S : D → Type 0} {T : E → Type 0} {f g i j : Survey → Survey} {m : Making A} {n : Making B} {o : Making C} {q : Making D} (h : A → B → C → D → E)
      → Does z k facts P f m → Does z k facts Q g n → Does z k facts R i o → Does z k facts S j q → (facts → (x : A) (y : B) (w : C) (v : D) → P x → Q y → R w → S v → T (h x y w v))
      → Does z k facts T (λ s. j (i (g (f s)))) (and_then m (λ x. and_then n (λ y. and_then o (λ w. made (h x y w) q))))
  four {m = m} {n = n} {o = o} {q = q} h a b c d t = chain (λ x. and_then n (λ y. and_then o (λ w. made (h x y w) q))) a (adds_both z b.adds (adds_both z c.adds d.adds)) (λ x p. three (h x) b c d (λ e y w v q r s. t e x y w v p q r s))

  -- what stands before a part, and behind it
  pub ahead : {A : Type 0} {P Q : A → Type 0} {F : Type 0} {f g : Survey → Survey} {m : Making A}
      → Stands z k facts F f → Does z k facts P g m → (facts → F → (x : A) → P x → Q x) → Does z k facts Q (λ s. g (f s)) m
  ahead {A} {P} {Q} {F} {f} {g} {m} a b c = record {
    adds = λ s p. a.adds s (b.adds (f s) p);
    here = λ e s l p.
        let x = a.here e s l (b.adds (f s) p) in
        let same : length (f s).scopes ≡ length s.scopes = ap length x.0 in
        let y = b.here e (f s) (omega (arith, l, same)) p in
        subst (λ n. Result z Q s (g (f s)) (m n)) same
        (record {
          next = y.next;
          count = omega (arith, y.count, same);
          codes = subst (λ n. CodesFit z n (m (length (f s).scopes)).codes) same y.codes;
          fine = c e x.1 _ y.fine;
        });
  }

  pub behind : {A : Type 0} {P Q : A → Type 0} {F : Type 0} {f g : Survey → Survey} {m : Making A}
      → Does z k facts P f m → Stands z k facts F g → (facts → F → (x : A) → P x → Q x) → Does z k facts Q (λ s. g (f s)) m
  behind {A} {P} {Q} {F} {f} {g} {m} a b c = record {
    adds = λ s p. a.adds s (b.adds (f s) p);
    here = λ e s l p.
        let x = a.here e s l (b.adds (f s) p) in
        let y = b.here e (f s) (omega (arith, l, x.count)) p in
        let same : length (g (f s)).scopes ≡ length (f s).scopes = ap length y.0 in
        record {
          next = x.next ∙ sym same;
          count = same ∙ x.count;
          codes = x.codes;
          fine = c e y.1 _ x.fine;
        };
  }

  pub stands_still : Stands z k facts (Unit {0}) (λ s. s)
  stands_still = record { adds = λ s p. p; here = λ e s l p. (refl, tt) }

  -- a construct by itself
  pub only : {A : Type 0} {Q : A → Type 0} {F : Type 0} {f : Survey → Survey} → Stands z k facts F f → (x : A) → (facts → F → Q x) → Does z k facts Q f (pure x)
  only a x c = record {
    adds = a.adds;
    here = λ e s l p. let h = a.here e s l p in record { next = sym (ap length h.0); count = omega (arith, ap length h.0); codes = tt; fine = c e h.1 };
  }

  pub known : {A : Type 0} {P Q : A → Type 0} {f : Survey → Survey} {m : Making A} → Does z k facts P f m → (facts → (x : A) → P x → Q x) → Does z k facts Q f m
  known a c = record { adds = a.adds; here = λ e s l p. let x = a.here e s l p in record { next = x.next; count = x.count; codes = x.codes; fine = c e _ x.fine } }

-- the same behind more scopes, or with further facts
pub wider : (z : Case) {k n : ℕ} {F G : Type 0} {A : Type 0} {P : A → Type 0} {f : Survey → Survey} {m : Making A} → k ≤ n → (G → F) → Does z k F P f m → Does z n G P f m
wider z l t a = record { adds = a.adds; here = λ e s i p. a.here (t e) s (omega (arith, l, i)) p }

-- Sites

pub site_adds : (z : Case) (line : ℕ) (w : What) (place : Place) → Adds z (site line w place)
unfolding site
site_adds z line w place s p = record {
  scopes_more = p.scopes_more;
  scopes = p.scopes;
  sites_more = record { place = place; line = line; what = w } ∷ p.sites_more;
  sites = p.sites ∙ append_assoc s.sites (record { place = place; line = line; what = w } ∷ []) p.sites_more;
}

-- something stands there in the script, behind other sites
pub record IsSite (z : Case) (x : Site) : Type 0 where
  pub before : List Site
  pub after : List Site
  pub cut : z.survey.sites ≡ before ++ x ∷ after

pub no_fault : (z : Case) (kind : Kind) → IsOther kind → (x : Site) (i : IsSite z x) → fault kind z.survey i.before x ≡ false
no_fault z kind other x i = false_from_ne_true _ (λ e. z.keeps kind other (record { before = i.before; site = x; after = i.after; cut = i.cut; here = e }))

pub at_site : (z : Case) {k : ℕ} {facts : Type 0} (line : ℕ) (w : What) (place : Place) → Stands z k facts (IsSite z (record { place = place; line = line; what = w })) (site line w place)
unfolding site
at_site z line w place = record {
  adds = site_adds z line w place;
  here = λ e s l p. (refl, record { before = s.sites; after = p.sites_more; cut = p.sites ∙ append_assoc s.sites (record { place = place; line = line; what = w } ∷ []) p.sites_more });
}

pub no_false : {A : Type 0} → ◌≡◌ {A = Bool} true false → A
no_false e = cc e

-- what is misplaced isn't there
pub refused_behind : (z : Case) {k : ℕ} {facts : Type 0} {A : Type 0} {P : A → Type 0} {f g : Survey → Survey} {m : Making A} (line : ℕ) (place : Place) → Adds z f → Adds z g → Does z k facts P (λ s. g (site line what.Misplaced place (f s))) m
refused_behind z {k} {facts} {f = f} {g = g} line place a b = record {
  adds = λ s p. a s (site_adds z line what.Misplaced place (f s) (b (site line what.Misplaced place (f s)) p));
  here = λ e s l p.
      let x = at_site z {k = 0} {facts = facts} line what.Misplaced place in
      no_false (no_fault z rules.Target tt _ (x.here e (f s) (omega arith) (b (site line what.Misplaced place (f s)) p)).1);
}

pub refused : (z : Case) {k : ℕ} {facts : Type 0} {A : Type 0} {P : A → Type 0} {f : Survey → Survey} {m : Making A} (line : ℕ) (place : Place) → Adds z f → Does z k facts P (λ s. f (site line what.Misplaced place s)) m
refused z line place b = refused_behind z line place (λ s p. p) b
