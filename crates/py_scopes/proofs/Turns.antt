-- One turn of a loop over sites.
use Rattle.std.proofs.Common.{◌≡◌, ◌==◌, ◌<◌, ◌+◌, ℕ, Bool, true, false, cond, ◌||◌, ◌&&◌, List, [], ◌∷◌, ◌++◌, Option, Some, refl, ap, ◌∙◌, sym, length, take, drop, get_or}
use Rattle.std.specs.Borrow.{Bor}
use Rattle.std.specs.List.{list_any}
use Rattle.std.proofs.lemmas.List.{take_more, drop_more}
use Rattle.std.proofs.lemmas.List.Folds.{list_any-append}
use Rattle.py_scopes.specs.declared.rules.Listed.{Listed}
use Rattle.py_scopes.specs.declared.seen.Seen.{Seen}
use Rattle.py_scopes.specs.declared.survey.Site.{Site}
use Rattle.py_scopes.specs.declared.survey.What.{What}
use Rattle.py_scopes.specs.Homes.{is_name, bound, standing, global, nonlocal}
use Rattle.py_scopes.specs.Passes.{first_at_fault, Holds}
use Rattle.py_scopes.specs.Passes as passes
use Rattle.py_scopes.specs.Rules.{parameter, is_keyword}
use Rattle.py_scopes.specs.Seen.{Lists, Gains, Sees, Notes}

pub or_false : (b : Bool) → (b || false) ≡ b
or_false true = refl
or_false false = refl

pub take_site : (xs : List Site) (i : ℕ) (x : Site) → i < length xs → x ≡ get_or xs i x → take (i + 1) xs ≡ take i xs ++ x ∷ []
take_site xs i x l e = take_more xs i x l ∙ ap (λ y. take i xs ++ y ∷ []) (sym e)

drop_site : (xs : List Site) (i : ℕ) (x : Site) → i < length xs → x ≡ get_or xs i x → drop i xs ≡ x ∷ drop (i + 1) xs
drop_site xs i x l e = drop_more xs i x l ∙ ap (λ y. y ∷ drop (i + 1) xs) (sym e)

turn : (test : List Site → Site → Bool) (xs : List Site) (i : ℕ) (x : Site) → i < length xs → x ≡ get_or xs i x
    → first_at_fault test (take i xs) (drop i xs) ≡ cond (test (take i xs) x) (Some x.line) (first_at_fault test (take (i + 1) xs) (drop (i + 1) xs))
turn test xs i x l e =
    ap (first_at_fault test (take i xs)) (drop_site xs i x l e)
    ∙ ap (λ f. cond (test (take i xs) x) (Some x.line) (first_at_fault test f (drop (i + 1) xs))) (sym (take_site xs i x l e))

pub passed : (test : List Site → Site → Bool) (xs : List Site) (i : ℕ) (x : Site) → i < length xs → x ≡ get_or xs i x → test (take i xs) x ≡ false
    → first_at_fault test (take i xs) (drop i xs) ≡ first_at_fault test (take (i + 1) xs) (drop (i + 1) xs)
passed test xs i x l e h = turn test xs i x l e ∙ ap (λ b. cond b (Some x.line) (first_at_fault test (take (i + 1) xs) (drop (i + 1) xs))) h

pub caught : (test : List Site → Site → Bool) (xs : List Site) (i : ℕ) (x : Site) → i < length xs → x ≡ get_or xs i x → test (take i xs) x ≡ true
    → first_at_fault test (take i xs) (drop i xs) ≡ Some x.line
caught test xs i x l e h = turn test xs i x l e ∙ ap (λ b. cond b (Some x.line) (first_at_fault test (take (i + 1) xs) (drop (i + 1) xs))) h

-- a test of one more site
any_more : (test : Site → Bool) (xs : List Site) (x : Site) → list_any test (xs ++ x ∷ []) ≡ (list_any test xs || test x)
any_more test xs x = list_any-append test xs (x ∷ []) ∙ ap (λ b. list_any test xs || b) (or_false (test x))

pub gained : (old new : List (ℕ × Bor (List ℕ))) (so : What → Option (List ℕ)) (xs : List Site) (x : Site) → Lists old so xs → Gains old new so x → Lists new so (xs ++ x ∷ [])
gained old new so xs x l g scope y =
    g scope y ∙ ap (λ b. b || ((x.place.scope == scope) && is_name y (so x.what))) (l scope y)
    ∙ sym (any_more (λ site. (site.place.scope == scope) && is_name y (so site.what)) xs x)

pub sees_more : (old new : Seen) (xs : List Site) (x : Site) → Sees old xs → Notes old new x → Sees new (xs ++ x ∷ [])
sees_more old new xs x s n = record {
  bound = gained old.bound.keys new.bound.keys bound xs x s.bound n.bound;
  standing = gained old.standing.keys new.standing.keys standing xs x s.standing n.standing;
  global = gained old.global.keys new.global.keys global xs x s.global n.global;
  nonlocal = gained old.nonlocal.keys new.nonlocal.keys nonlocal xs x s.nonlocal n.nonlocal;
}

pub holds_more : (old new : Listed) (xs : List Site) (x : Site) → Holds old xs → passes.Lists old new x → Holds new (xs ++ x ∷ [])
holds_more old new xs x h n = record {
  parameters = gained old.parameters.keys new.parameters.keys parameter xs x h.parameters n.parameters;
  keywords = λ start y. n.keywords start y ∙ ap (λ b. b || is_keyword start y x.what) (h.keywords start y) ∙ sym (any_more (λ site. is_keyword start y site.what) xs x);
}
