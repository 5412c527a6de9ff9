-- `in` and `[]` ask the same of a dict.
use Rattle.std.proofs.Common.{◌≡◌, ℕ, zero, suc, ◌<◌, List, [], ◌∷◌, Option, Some, None, Ok, Err, Bool, true, false, nat_lt, length, refl, sym, ap, subst, ◌∙◌, arith}
use Rattle.std.specs.Prelude.{slice_get, if◌then◌else◌, option_map}
use Rattle.std.proofs.lemmas.Bool.Decides.{nat_tests}
use Rattle.nu_value.specs.declared.key.Atom.{Atom}
use Rattle.nu_value.specs.declared.keyed.KeyEnd.{KeyEnd}
use Rattle.nu_value.specs.declared.keyed.KeyEnd.TheVariants as end
use Rattle.nu_value.specs.declared.object.Object.{Object}
use Rattle.nu_value.specs.declared.object.Object.TheVariants as object
use Rattle.nu_value.specs.declared.value.Value.{Value}
use Rattle.nu_value.specs.declared.value.Value.TheVariants as value
use Rattle.nu_value.specs.Keyed.{Keyed, key}
use Rattle.nu_value.specs.Pairs.{PairList, key_place}
use Rattle.nu_value.specs.Same.{object_of}
use Rattle.op_forms.specs.declared.end.OpEnd.{OpEnd}
use Rattle.op_forms.specs.declared.end.OpEnd.TheVariants as opend
use Rattle.op_forms.specs.Answers.{unbuilt}
use Rattle.op_forms.specs.Fits.{is_dict, is_in}
use Rattle.op_rules.specs.Comparisons.{give_bool}
use Rattle.op_rules.specs.Keys.{KeyOr, key_or, no_key, key_or_end, key_error}
use Rattle.op_rules.specs.NameRows.{value_or}
use Rattle.op_rules.specs.Views.{index_row, index_on, in_row, in_on, key_within, value_keyed, is_found}
use Rattle.rt_dict.specs.Laws.{Gives}

-- a place that is found has a pair, and one that isn't has none
pub get_there : {A : Type 0} (xs : List A) (i : ℕ) → i < length xs → (x : A) × (slice_get xs i ≡ Some x)
get_there [] i h = absurd (omega arith)
get_there (x ∷ xs) zero h = (x, refl)
get_there (x ∷ xs) (suc i) h = get_there xs i (omega arith)

pub get_past : {A : Type 0} (xs : List A) (i : ℕ) → nat_lt i (length xs) ≡ false → slice_get xs i ≡ None
get_past [] i h = refl
get_past (x ∷ xs) zero h = absurd (grind (arith, nat_tests))
get_past (x ∷ xs) (suc i) h = get_past xs i (grind (arith, nat_tests))

place_gives : (ps : PairList) (x : Value) (place : ℕ) (b : Bool) → nat_lt place (length ps) ≡ b → give_bool (is_found (if b then Some place else None)) ≡ give_bool true
    → Gives (value_or (option_map (λ p. p.2) (slice_get ps place)) (key_error x))
place_gives ps x place true e h =
    let small : place < length ps = grind (arith, nat_tests) in
    let at : (p : List Atom × Value × Value) × (slice_get ps place ≡ Some p) = get_there ps place small in
    subst (λ o. Gives (value_or (option_map (λ p. p.2) o) (key_error x))) (sym at.1) tt
place_gives ps x place false e h = absurd (cc)

place_there : (ps : PairList) (x : Value) (place : ℕ) (b : Bool) → nat_lt place (length ps) ≡ b → Gives (value_or (option_map (λ p. p.2) (slice_get ps place)) (key_error x))
    → give_bool (is_found (if b then Some place else None)) ≡ give_bool true
place_there ps x place true e h = refl
place_there ps x place false e h = absurd (subst (λ o. Gives (value_or (option_map (λ p. p.2) o) (key_error x))) (get_past ps place e) h)

keyed_gives : (ps : PairList) (x : Value) (r : KeyOr) → key_within ps r ≡ give_bool true → Gives (value_keyed ps x r)
keyed_gives ps x (Ok k) h = place_gives ps x (key_place ps k) (nat_lt (key_place ps k) (length ps)) refl h
keyed_gives ps x (Err e) h = subst Gives (sym h) tt

no_key_gives : (h : List Object) (v : Value) (e : KeyEnd) → Gives (no_key h v e) → ⊥
no_key_gives h v end.Unhashable p = p
no_key_gives h v end.Unbuilt p = p
no_key_gives h v end.Depth p = p
no_key_gives h v end.Memory p = p

answer_there : (h : List Object) (ps : PairList) (x : Value) (a : Keyed) → Gives (value_keyed ps x (key_or h x a)) → key_within ps (key_or h x a) ≡ give_bool true
answer_there h ps x (Ok k) p = place_there ps x (key_place ps k) (nat_lt (key_place ps k) (length ps)) refl p
answer_there h ps x (Err e) p = absurd (no_key_gives h x e p)

keyed_there : (h : List Object) (ps : PairList) (x : Value) (b : Bool) → Gives (value_keyed ps x (if b then key_or h x (key h x) else Err unbuilt)) → key_within ps (if b then key_or h x (key h x) else Err unbuilt) ≡ give_bool true
keyed_there h ps x true p = answer_there h ps x (key h x) p
keyed_there h ps x false p = absurd p

given_on : (h : List Object) (d x : Value) (o : Option Object) → is_dict o ≡ true → in_on h x o ≡ give_bool true → Gives (index_on h d x o)
given_on h d x (Some (object.Dict ps)) e p = keyed_gives ps x (key_or_end h x) p
given_on h d x o e p = absurd (cc)

there_on : (h : List Object) (d x : Value) (o : Option Object) → is_dict o ≡ true → Gives (index_on h d x o) → in_on h x o ≡ give_bool true
there_on h d x (Some (object.Dict ps)) e p = keyed_there h ps x (is_in (length h) x) p
there_on h d x o e p = absurd (cc)

pub given_by : (h : List Object) (d x : Value) → is_dict (object_of h d) ≡ true → in_row h x d ≡ give_bool true → Gives (index_row h d x)
given_by h d x e p = given_on h d x (object_of h d) e p

pub there_by : (h : List Object) (d x : Value) → is_dict (object_of h d) ≡ true → Gives (index_row h d x) → in_row h x d ≡ give_bool true
there_by h d x e p = there_on h d x (object_of h d) e p
