-- Each name of a scope has its place in a frame, and so has each cell that an inner scope gets.
use Rattle.std.proofs.Common.{◌≡◌, ℕ, zero, suc, ◌<◌, ◌≤◌, ◌==◌, Bool, true, false, not, ◌&&◌, if◌then◌else◌, List, [], ◌∷◌, ◌++◌, length, map, Option, Some, None, inl, inr, refl, ap, ◌∙◌, sym, subst, arith}
use Rattle.std.specs.Prelude.{◌⊎◌, slice_get, nat_lt}
use Rattle.std.specs.List.{filter}
use Rattle.std.specs.Str.{bytes_eq}
use Rattle.std.proofs.lemmas.Bool.{and_parts, and_from, eqb-true, eqb-false, eq-eqb, ne_eqb, not-true, ltb-true, lt-ltb, cases_eq}
use Rattle.std.proofs.lemmas.Option.{slice_get_within}
use Rattle.py_ast.specs.declared.scoped.NameHome.{NameHome}
use Rattle.py_ast.specs.declared.scoped.Scope.{Scope}
use Rattle.py_scopes.specs.declared.survey.Survey.{Survey}
use Rattle.py_scopes.specs.Homes as homes
use Rattle.py_scopes.specs.Homes.{occurs, enclosing, home}
use Rattle.py_scopes.specs.Rules.{variable}
use Rattle.py_scopes.specs.Resolve.{scopes_of}
use Rattle.py_scopes.specs.Nested.{Nest}
use Rattle.py_meaning.specs.Syntax as syntax
use Rattle.py_meaning.specs.Scopes.{has, place_in, names_in, names_at, is_inside, names_where, is_captured, kind_in, is_class, holds_names, held_names, own_names, local_names, is_free, free_names, home_by, home_of, home_among, cell_for, cells_for}
use Rattle.py_safe.specs.Constructs.{Room, HasHome, HasCell, HaveCells, MayUnbind, IsFalse}
use Rattle.py_accepted.proofs.Lists.{In, in_left, in_right, in_either, in_map, in_mapped, in_filter, in_filtered, in_has, has_in, placed, in_distinct, in_distincted, any_of, text_same}
use Rattle.py_accepted.proofs.Names.{scope_none, scopes_length, class_same, outwards, name_there, name_home, home_is, Around, home_cases, home_here, bound_occurs, Inside, itself, inside_below, in_line, one_out, one_more, from_test, to_test, seen_around, where_in, where_from}

-- a room of the code of this scope, with these parameters
pub record RoomFits (s : Survey) (t : ℕ) (ps : List (List ℕ)) (r : Room) : Type 0 where
  pub there : t < length s.scopes
  pub locals : length (local_names (scopes_of s) t ps) ≡ r.locals
  pub owns : length (own_names (scopes_of s) t) ≡ r.owns
  pub frees : length (free_names (scopes_of s) t) ≡ r.frees
  pub names : is_class (kind_in (slice_get (scopes_of s) t)) ≡ r.names
  -- the module alone is of its kind
  pub inner : (t ≡ 0) ⊎ (holds_names (kind_in (slice_get (scopes_of s) t)) ≡ not (is_class (kind_in (slice_get (scopes_of s) t))))

pub some_at : {A : Type 0} (xs : List A) (k : ℕ) → k < length xs → (x : A) × (slice_get xs k ≡ Some x)
some_at [] k l = absurd (omega (arith, l))
some_at (x ∷ xs) zero l = (x, refl)
some_at (x ∷ xs) (suc k) l = some_at xs k (omega (arith, l))

-- a scope that has names is there
scope_there : (s : Survey) (t : ℕ) (n : NameHome) → In n (names_at (scopes_of s) t) → (x : Scope) × (slice_get s.scopes t ≡ Some x)
scope_there s t n i = go (slice_get s.scopes t) refl
  where
    go : (o : Option Scope) → slice_get s.scopes t ≡ o → (x : Scope) × (slice_get s.scopes t ≡ Some x)
    go None e = absurd (subst (λ o. In n (names_in o)) (scope_none s t e) i)
    go (Some x) e = (x, e)

-- Names that live in a scope

held_in : (s : Survey) (t : ℕ) (n : NameHome) → In n (names_at (scopes_of s) t) → n.home ≡ t → holds_names (kind_in (slice_get (scopes_of s) t)) ≡ true → In n.name (held_names (scopes_of s) t)
held_in s t n i e h =
    subst (λ b. In n.name (if b then map (λ n. n.name) (filter (λ n. n.home == t) (names_at (scopes_of s) t)) else [])) (sym h)
    (in_map (λ (n : NameHome). n.name) n (filter (λ n. n.home == t) (names_at (scopes_of s) t)) (in_filter (λ n. n.home == t) n (names_at (scopes_of s) t) i (eq-eqb n.home t e)))

holds : (s : Survey) (t : ℕ) → (t ≡ 0 → ⊥) → ((t ≡ 0) ⊎ (holds_names (kind_in (slice_get (scopes_of s) t)) ≡ not (is_class (kind_in (slice_get (scopes_of s) t))))) → is_class (kind_in (slice_get (scopes_of s) t)) ≡ false → holds_names (kind_in (slice_get (scopes_of s) t)) ≡ true
holds s t z (inl e) c = absurd (z e)
holds s t z (inr e) c = e ∙ ap not c

free_in : (s : Survey) (t : ℕ) (n : NameHome) → In n (names_at (scopes_of s) t) → (n.home ≡ 0 → ⊥) → n.home < t → In n.name (free_names (scopes_of s) t)
free_in s t n i z l =
    let all = names_at (scopes_of s) t ++ names_where (λ scope. is_inside (scopes_of s) t scope && not (scope == t)) 0 (scopes_of s) in
    in_distinct n.name (map (λ n. n.name) (filter (is_free t) all)) (in_map (λ (n : NameHome). n.name) n (filter (is_free t) all)
    (in_filter (is_free t) n all (in_left n (names_at (scopes_of s) t) (names_where (λ scope. is_inside (scopes_of s) t scope && not (scope == t)) 0 (scopes_of s)) i) (and_from (not (n.home == 0)) (nat_lt n.home t) (ap not (ne_eqb n.home 0 z)) (lt-ltb n.home t l))))

-- Places of names

abbrev Fine : Room → syntax.Home → Type 0
Fine r h = HasHome r h × ((IsFalse r.names → r.bound ≡ 0) → MayUnbind r h)

module _ (s : Survey) (t : ℕ) (ps : List (List ℕ)) (r : Room) (f : RoomFits s t ps r) (n : NameHome) (i : In n (names_at (scopes_of s) t)) (below : n.home ≤ t) where
  abbrev cases : Bool → Bool → Bool → Bool → syntax.Home
  cases a b c d =
      if a then syntax.Module n.name
      else if not b then syntax.Free (place_in (free_names (scopes_of s) t) n.name) n.name
      else if c then syntax.InClass n.name
      else if d then syntax.Own (place_in (own_names (scopes_of s) t) n.name) n.name
      else syntax.Local (place_in (local_names (scopes_of s) t ps) n.name) n.name

  local_in : (p : Bool) → has ps n.name ≡ p → In n.name (held_names (scopes_of s) t) → is_captured (scopes_of s) t n.name ≡ false → In n.name (local_names (scopes_of s) t ps)
  local_in true e h d = in_left n.name ps (filter (λ x. not (is_captured (scopes_of s) t x) && not (has ps x)) (held_names (scopes_of s) t)) (has_in n.name ps e)
  local_in false e h d =
      in_right n.name ps (filter (λ x. not (is_captured (scopes_of s) t x) && not (has ps x)) (held_names (scopes_of s) t))
      (in_filter (λ x. not (is_captured (scopes_of s) t x) && not (has ps x)) n.name (held_names (scopes_of s) t) h (and_from (not (is_captured (scopes_of s) t n.name)) (not (has ps n.name)) (ap not d) (ap not e)))

  fine : (a b c d : Bool) → (n.home == 0) ≡ a → (n.home == t) ≡ b → is_class (kind_in (slice_get (scopes_of s) t)) ≡ c → is_captured (scopes_of s) t n.name ≡ d → Fine r (cases a b c d)
  fine true b c d ea eb ec ed = (tt, λ u. tt)
  fine false false c d ea eb ec ed =
      let l : n.home < t = omega (arith, below, eqb-false n.home t eb) in
      (omega (arith, placed n.name (free_names (scopes_of s) t) (free_in s t n i (eqb-false n.home 0 ea) l), f.frees), λ u. tt)
  fine false true true d ea eb ec ed = (sym f.names ∙ ec, λ u. tt)
  fine false true false true ea eb ec ed =
      let home : n.home ≡ t = eqb-true n.home t eb in
      let h = held_in s t n i home (holds s t (λ e. eqb-false n.home 0 ea (home ∙ e)) f.inner ec) in
      (omega (arith, placed n.name (own_names (scopes_of s) t) (in_filter (is_captured (scopes_of s) t) n.name (held_names (scopes_of s) t) h ed), f.owns), λ u. tt)
  fine false true false false ea eb ec ed =
      let home : n.home ≡ t = eqb-true n.home t eb in
      let h = held_in s t n i home (holds s t (λ e. eqb-false n.home 0 ea (home ∙ e)) f.inner ec) in
      let no : false ≡ r.names = sym ec ∙ f.names in
      ((omega (arith, placed n.name (local_names (scopes_of s) t ps) (local_in (has ps n.name) refl h ed), f.locals), subst IsFalse no tt), λ u. omega (arith, u (subst IsFalse no tt)))

-- a name that stands in a scope has its place, and may be unbound, where no local variable has to stay bound
pub home_fits : (s : Survey) → Nest (scopes_of s) → (t : ℕ) (ps : List (List ℕ)) (r : Room) → RoomFits s t ps r → (x : List ℕ) → occurs variable x t s.sites ≡ true
    → HasHome r (home_of (scopes_of s) t ps x) × ((IsFalse r.names → r.bound ≡ 0) → MayUnbind r (home_of (scopes_of s) t ps x))
home_fits s nests t ps r f x o =
    let sc = some_at s.scopes t f.there in
    let named = name_there s t x sc.0 sc.1 o in
    let n = named.0 in
    let is : home_among (names_at (scopes_of s) t) x ≡ n.home = home_is s t x named ∙ ap (λ w. home s w t) (sym named.2) ∙ sym (name_home s t n named.1) in
    subst (λ h. Fine r (home_by (scopes_of s) t ps x h)) (sym is)
    (subst (λ w. Fine r (home_by (scopes_of s) t ps w n.home)) named.2
    (fine s t ps r f n named.1 (low n named.1) (n.home == 0) (n.home == t) (is_class (kind_in (slice_get (scopes_of s) t))) (is_captured (scopes_of s) t n.name) refl refl refl refl))
  where
    low : (n : NameHome) → In n (names_at (scopes_of s) t) → n.home ≤ t
    low n i =
        let e = name_home s t n i in
        elim (home_cases s n.name t) as (λ o. n.home ≤ t) [
          | inl a ↦ omega (arith, e, a)
          | inr (inl a) ↦ omega (arith, e, a)
          | inr (inr a) ↦ omega (arith, e, inside_below s (home s n.name t) (outwards s nests) (seen_around s (home s n.name t) t a.0).0)
        ]

-- Cells that an inner scope gets

module _ (s : Survey) (nests : Nest (scopes_of s)) (ps : List (List ℕ)) (r : Room) (a : ℕ) (p : 0 < a) (l : a < length s.scopes) (f : RoomFits s (enclosing s a) ps r) where
  abbrev t : ℕ
  t = enclosing s a

  -- a name of a scope in the inner one, whose home lies around that
  module _ (n : NameHome) (b : ℕ) (i : In n (names_at (scopes_of s) b)) (inside : Inside s a b) (z : n.home ≡ 0 → ⊥) (below : n.home < a) where
    beyond : t < b
    beyond = omega (arith, outwards s nests a p, inside_below s a (outwards s nests) inside)

    around : Around s n.name b
    around = elim (home_cases s n.name b) as (λ o. Around s n.name b) [
      | inl e ↦ absurd (z (name_home s b n i ∙ e))
      | inr (inl e) ↦ absurd (omega (arith, name_home s b n i, e, below, inside_below s a (outwards s nests) inside))
      | inr (inr e) ↦ e
    ]

    within : Inside s n.home t
    within =
        let h = seen_around s (home s n.name b) b around.0 in
        let i : Inside s n.home b = subst (λ k. Inside s k b) (sym (name_home s b n i)) h.0 in
        one_out s n.home a (in_line s n.home a (outwards s nests) i inside below) below

    free_too : n.home < t → In n.name (free_names (scopes_of s) t)
    free_too low =
        let sc = scope_there s b n i in
        let test = λ (scope : ℕ). is_inside (scopes_of s) t scope && not (scope == t) in
        let there : b ≤ length (scopes_of s) = omega (arith, slice_get_within s.scopes b sc.0 sc.1, scopes_length s) in
        let held : is_inside (scopes_of s) t b ≡ true = to_test s (length (scopes_of s)) t (outwards s nests) (one_more s a p inside) there in
        let passes : test b ≡ true = and_from (is_inside (scopes_of s) t b) (not (b == t)) held (ap not (ne_eqb b t (λ e. absurd (omega (arith, e, beyond))))) in
        let all = names_at (scopes_of s) t ++ names_where test 0 (scopes_of s) in
        in_distinct n.name (map (λ n. n.name) (filter (is_free t) all)) (in_map (λ (n : NameHome). n.name) n (filter (is_free t) all)
        (in_filter (is_free t) n all (in_right n (names_at (scopes_of s) t) (names_where test 0 (scopes_of s)) (where_in test 0 b (scopes_of s) b n (omega arith) i passes))
        (and_from (not (n.home == 0)) (nat_lt n.home t) (ap not (ne_eqb n.home 0 z)) (lt-ltb n.home t low))))

    own_too : n.home ≡ t → In n.name (own_names (scopes_of s) t)
    own_too same =
        let h : home s n.name b ≡ t = sym (name_home s b n i) ∙ same in
        let decides = subst (λ k. homes.decided s n.name k ≡ Some k) h around.1 in
        let binds = subst (λ k. occurs homes.bound n.name k s.sites ≡ true) h around.2 in
        let no_class : homes.is_class s t ≡ false = subst (λ k. homes.is_class s k ≡ false) h (seen_around s (home s n.name b) b around.0).1 in
        let sc = some_at s.scopes t f.there in
        let m = name_there s t n.name sc.0 sc.1 (bound_occurs n.name t s.sites binds) in
        let home_t : (m.0).home ≡ t = name_home s t m.0 m.1 ∙ ap (λ w. home s w t) m.2 ∙ home_here s n.name t decides in
        let held : In n.name (held_names (scopes_of s) t) = subst (λ w. In w (held_names (scopes_of s) t)) m.2 (held_in s t m.0 m.1 home_t (holds s t (λ e. z (same ∙ e)) f.inner (class_same s t ∙ no_class))) in
        let captured : is_captured (scopes_of s) t n.name ≡ true =
        any_of (λ k. (k.home == t) && bytes_eq k.name n.name) n (names_where (λ scope. not (scope == t)) 0 (scopes_of s))
        (where_in (λ scope. not (scope == t)) 0 b (scopes_of s) b n (omega arith) i (ap not (ne_eqb b t (λ e. absurd (omega (arith, e, beyond))))))
        (and_from (n.home == t) (bytes_eq n.name n.name) (eq-eqb n.home t same) (text_same n.name)) in
        in_filter (is_captured (scopes_of s) t) n.name (held_names (scopes_of s) t) held captured

    own_or_free : In n.name (own_names (scopes_of s) t) ⊎ In n.name (free_names (scopes_of s) t)
    own_or_free = elim (cases_eq n.home t) as (λ o. In n.name (own_names (scopes_of s) t) ⊎ In n.name (free_names (scopes_of s) t)) [
      | inl e ↦ inl (own_too e)
      | inr e ↦ inr (free_too (omega (arith, e, inside_below s n.home (outwards s nests) within)))
    ]

  each : (x : List ℕ) → In x (free_names (scopes_of s) a) → In x (own_names (scopes_of s) t) ⊎ In x (free_names (scopes_of s) t)
  each x h =
      let test = λ (scope : ℕ). is_inside (scopes_of s) a scope && not (scope == a) in
      let all = names_at (scopes_of s) a ++ names_where test 0 (scopes_of s) in
      let m = in_mapped (λ (n : NameHome). n.name) x (filter (is_free a) all) (in_distincted x (map (λ n. n.name) (filter (is_free a) all)) h) in
      let k = in_filtered (is_free a) m.0 all m.1 in
      let free = and_parts (not ((m.0).home == 0)) (nat_lt (m.0).home a) k.1 in
      let z = eqb-false (m.0).home 0 (not-true ((m.0).home == 0) free.0) in
      let low = ltb-true (m.0).home a free.1 in
      subst (λ x. In x (own_names (scopes_of s) t) ⊎ In x (free_names (scopes_of s) t)) m.2
      (elim (in_either m.0 (names_at (scopes_of s) a) (names_where test 0 (scopes_of s)) k.0) as (λ o. In (m.0).name (own_names (scopes_of s) t) ⊎ In (m.0).name (free_names (scopes_of s) t)) [
        | inl i ↦ own_or_free m.0 a i (itself refl) z low
        | inr i ↦ (let w = where_from test 0 (scopes_of s) m.0 i in
            let same : w.0 ≡ w.1 = omega (arith, w.2) in
            let here : In m.0 (names_at (scopes_of s) w.1) = subst (λ b. In m.0 (names_at (scopes_of s) b)) same w.3 in
            own_or_free m.0 w.1 here (from_test s (length (scopes_of s)) a w.1 (and_parts (is_inside (scopes_of s) a w.1) (not (w.1 == a)) w.4).0) z low)
      ])

  cell_fits : (x : List ℕ) → In x (own_names (scopes_of s) t) ⊎ In x (free_names (scopes_of s) t) → HasCell r (cell_for (scopes_of s) t x)
  cell_fits x e = go (has (own_names (scopes_of s) t) x) refl e
    where
      go : (b : Bool) → has (own_names (scopes_of s) t) x ≡ b → In x (own_names (scopes_of s) t) ⊎ In x (free_names (scopes_of s) t)
          → HasCell r (if b then syntax.OwnCell (place_in (own_names (scopes_of s) t) x) else syntax.FreeCell (place_in (free_names (scopes_of s) t) x))
      go true h o = omega (arith, placed x (own_names (scopes_of s) t) (has_in x (own_names (scopes_of s) t) h), f.owns)
      go false h (inl i) = let t : has (own_names (scopes_of s) t) x ≡ true = in_has x (own_names (scopes_of s) t) i in cc
      go false h (inr i) = omega (arith, placed x (free_names (scopes_of s) t) i, f.frees)

  all_fit : (xs : List (List ℕ)) → ((x : List ℕ) → In x xs → In x (own_names (scopes_of s) t) ⊎ In x (free_names (scopes_of s) t)) → HaveCells r (map (cell_for (scopes_of s) t) xs)
  all_fit [] h = tt
  all_fit (x ∷ xs) h = (cell_fits x (h x (inl refl)), all_fit xs (λ y i. h y (inr i)))

  -- the cells that the scope gets have their places in the scope around it
  pub cells_fit : HaveCells r (cells_for (scopes_of s) (enclosing s a) a)
  cells_fit = all_fit (free_names (scopes_of s) a) each
