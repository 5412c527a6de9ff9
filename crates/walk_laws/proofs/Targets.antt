-- Lists of targets, of which one may have a star, as they are made and as they are walked: in one list first.
use Rattle.std.proofs.Common.{◌≡◌, ℕ, ◌+◌, true, false, List, [], ◌∷◌, ◌++◌, map, refl, sym, ap, ◌∙◌}
use Rattle.code_forms.specs.declared.operand.Operand.TheVariants as operand
use Rattle.py_ast.specs.declared.expr.Item.{Item}
use Rattle.py_ast.specs.declared.expr.Item.TheVariants as item
use Rattle.node_tree.specs.Blocks as tree
use Rattle.py_meaning.specs.Syntax as syntax
use Rattle.py_meaning.specs.Resolved as meaning
use Rattle.py_meaning.specs.Resolved.{Context, Making}
use Rattle.carries_base.specs.Frames.{Homes}
use Rattle.carried_codes.specs.Nodes as nodes
use Rattle.carried_codes.specs.Nodes.{placed, all_placed}
use Rattle.carried_codes.specs.Places as places
use Rattle.walk_laws.specs.States.{Walking, walked, at}
use Rattle.walk_laws.specs.Contexts.{homes_in}
use Rattle.walk_laws.specs.Expressions as walk
use Rattle.walk_laws.specs.Expressions.{Aim, aim}
use Rattle.walk_laws.specs.Composed.{Out, As, AsMeant, place_at}
use Rattle.walk_laws.proofs.Threads.{out, nothing, one, two, as_made, joined_on}
use Rattle.walk_laws.proofs.Lists.{Items, no_item, single, starred}

-- a target, and one with a star before it
data Aimed : Type 0 where
  bare : syntax.Target → Aimed
  with_star : syntax.Target → Aimed

-- What is made of all in one list

abbrev all_aimed : Context → List (Item meaning.Part) → Making (List Aimed)
all_aimed c [] = meaning.pure []
all_aimed c (item.One x ∷ xs) = meaning.and_then (x.target c) (λ t. meaning.made (λ ts. bare t ∷ ts) (all_aimed c xs))
all_aimed c (item.Star line x ∷ xs) = meaning.and_then (x.target c) (λ t. meaning.made (λ ts. with_star t ∷ ts) (all_aimed c xs))

abbrev all_of : List Aimed → syntax.Targets
all_of [] = syntax.NoTarget
all_of (bare x ∷ xs) = syntax.AlsoTo x (all_of xs)
all_of (with_star x ∷ xs) = syntax.AlsoTo x (all_of xs)

abbrev to_star : List Aimed → syntax.Targets
to_star [] = syntax.NoTarget
to_star (with_star x ∷ xs) = syntax.NoTarget
to_star (bare x ∷ xs) = syntax.AlsoTo x (to_star xs)

abbrev since_star : ℕ → syntax.Targets → List Aimed → syntax.Target
since_star line before [] = syntax.ToEach line before
since_star line before (with_star x ∷ xs) = syntax.ToStarred line before x (all_of xs)
since_star line before (bare x ∷ xs) = since_star line before xs

-- with others in front of those before the star
abbrev many_on : Context → ℕ → (syntax.Targets → syntax.Targets) → List meaning.Part → List meaning.Part → Making syntax.Target
many_on c line k before [] = meaning.made (λ b. syntax.ToEach line (k b)) (meaning.targets c before)
many_on c line k before (star ∷ behind) =
    meaning.and_then (meaning.targets c before) (λ b. meaning.and_then (star.target c) (λ s. meaning.made (syntax.ToStarred line (k b) s) (meaning.targets c behind)))

module _ (c : Context) (line : ℕ) where
  inner_same : (xs : List (Item meaning.Part)) (n : ℕ) → meaning.made all_of (all_aimed c xs) n ≡ meaning.targets c (map meaning.inner xs) n
  inner_same [] n = refl
  inner_same (item.One x ∷ xs) n =
      let a = x.target c n in
      ap (λ r. record { is = syntax.AlsoTo a.is r.is; next = r.next; codes = a.codes ++ r.codes }) (inner_same xs a.next)
  inner_same (item.Star line x ∷ xs) n =
      let a = x.target c n in
      ap (λ r. record { is = syntax.AlsoTo a.is r.is; next = r.next; codes = a.codes ++ r.codes }) (inner_same xs a.next)

  many_more : (k : syntax.Targets → syntax.Targets) (x : meaning.Part) (before from : List meaning.Part) (n : ℕ)
      → many_on c line k (x ∷ before) from n ≡ meaning.and_then (x.target c) (λ t. many_on c line (λ b. k (syntax.AlsoTo t b)) before from) n
  many_more k x before [] n = refl
  many_more k x before (star ∷ behind) n =
      joined_on (x.target c) (λ t. meaning.made (syntax.AlsoTo t) (meaning.targets c before))
      (λ b. meaning.and_then (star.target c) (λ s. meaning.made (syntax.ToStarred line (k b) s) (meaning.targets c behind))) n

  many_same : (k : syntax.Targets → syntax.Targets) (xs : List (Item meaning.Part)) (n : ℕ)
      → meaning.made (λ ts. since_star line (k (to_star ts)) ts) (all_aimed c xs) n ≡ many_on c line k (meaning.before_star xs) (meaning.from_star xs) n
  many_same k [] n = refl
  many_same k (item.One x ∷ xs) n =
      let a = x.target c n in
      ap (λ r. record { is = r.is; next = r.next; codes = a.codes ++ r.codes }) (many_same (λ b. k (syntax.AlsoTo a.is b)) xs a.next)
      ∙ sym (many_more k x (meaning.before_star xs) (meaning.from_star xs) n)
  many_same k (item.Star l x ∷ xs) n =
      let a = x.target c n in
      ap (λ r. record { is = syntax.ToStarred line (k syntax.NoTarget) a.is r.is; next = r.next; codes = a.codes ++ r.codes }) (inner_same xs a.next)

  many_is : (before from : List meaning.Part) (n : ℕ) → many_on c line (λ b. b) before from n ≡ meaning.many c line before from n
  many_is before [] n = refl
  many_is before (star ∷ behind) n = refl

-- Their nodes

abbrev aims_at : Homes → ℕ → List Aimed → Out (List Aim)
aims_at h t [] = out [] t
aims_at h t (bare x ∷ xs) = let p = nodes.place h t x in let ps = aims_at h p.next xs in out (aim false p.place ∷ ps.is) ps.next
aims_at h t (with_star x ∷ xs) = let p = nodes.place h t x in let ps = aims_at h p.next xs in out (aim true p.place ∷ ps.is) ps.next

module _ (h : Homes) (line : ℕ) where
  all_placed_same : (t : ℕ) (xs : List Aimed) → nodes.all_places h t (all_of xs) ≡ (let ps = aims_at h t xs in all_placed (walk.all_of ps.is) ps.next)
  all_placed_same t [] = refl
  all_placed_same t (bare x ∷ xs) = let p = nodes.place h t x in ap (λ qs. all_placed (places.Also p.place qs.all) qs.next) (all_placed_same p.next xs)
  all_placed_same t (with_star x ∷ xs) = let p = nodes.place h t x in ap (λ qs. all_placed (places.Also p.place qs.all) qs.next) (all_placed_same p.next xs)

  placed_same : (t u : ℕ) (k : syntax.Targets → syntax.Targets) (j : places.Places → places.Places)
      → ((b : syntax.Targets) → nodes.all_places h t (k b) ≡ (let ps = nodes.all_places h u b in all_placed (j ps.all) ps.next))
      → (xs : List Aimed) → nodes.place h t (since_star line (k (to_star xs)) xs) ≡ (let ps = aims_at h u xs in placed (walk.from_star line (j (walk.before_star ps.is)) ps.is) ps.next)
  placed_same t u k j e [] = ap (λ ps. placed (places.Each line ps.all) ps.next) (e syntax.NoTarget)
  placed_same t u k j e (bare x ∷ xs) =
      let p = nodes.place h u x in
      placed_same t p.next (λ b. k (syntax.AlsoTo x b)) (λ ps. j (places.Also p.place ps)) (λ b. e (syntax.AlsoTo x b)) xs
  placed_same t u k j e (with_star x ∷ xs) =
      let p = nodes.place h u x in
      ap (λ ps. let p = nodes.place h ps.next x in let qs = nodes.all_places h p.next (all_of xs) in placed (places.Starred line ps.all p.place qs.all) qs.next) (e syntax.NoTarget)
      ∙ ap (λ qs. placed (places.Starred line (j places.NoPlace) p.place qs.all) qs.next) (all_placed_same p.next xs)

module _ (c : Context) where
  aims_walked : {ps : List (Item meaning.Part)} {qs : List (Item walk.Part)} → Items ps qs → As (aims_at (homes_in c)) (all_aimed c ps) (walk.aims c qs)
  aims_walked no_item = nothing [] [] (λ t. refl)
  aims_walked (single g i) = two (λ t ts. bare t ∷ ts) (λ p ps t. out (aim false p ∷ ps) t) (λ t x y. refl) (g.target c) (aims_walked i)
  aims_walked (starred line g i) = two (λ t ts. with_star t ∷ ts) (λ p ps t. out (aim true p ∷ ps) t) (λ t x y. refl) (g.target c) (aims_walked i)

  pub targets_walked : {ps : List (Item meaning.Part)} {qs : List (Item walk.Part)} (line : ℕ) → Items ps qs
      → As (place_at c) (meaning.many c line (meaning.before_star ps) (meaning.from_star ps)) (walk.aimed c line qs)
  targets_walked {ps} {qs} line i =
      as_made (meaning.made (λ ts. since_star line (to_star ts) ts) (all_aimed c ps)) (meaning.many c line (meaning.before_star ps) (meaning.from_star ps))
      (λ n. many_same c line (λ b. b) ps n ∙ many_is c line (meaning.before_star ps) (meaning.from_star ps) n)
      (one (λ ts. since_star line (to_star ts) ts) (λ ts t. out (walk.assembled line ts) t)
      (λ t xs. ap (λ p. out p.place p.next) (placed_same (homes_in c) line t t (λ b. b) (λ ps. ps) (λ b. refl) xs)) (aims_walked i))

  -- what the temporary that comes next gets goes to a target: with that temporary
  abbrev pub Bound : Type 0
  Bound = ℕ × tree.Block

  abbrev pub bound_at : ℕ → syntax.Target → Out Bound
  bound_at t x = let m = nodes.bind (homes_in c) t x in out (t, m.block) m.next

  abbrev pub bound : walk.Part → Walking Bound
  bound q s = let b = walk.bind c q s in walked (s.temp, b.is) b.state

  pub bound_walked : {p : meaning.Part} {q : walk.Part} → AsMeant p q → As bound_at (p.target c) (bound q)
  bound_walked g = record {
    same = λ s. ap (λ r. let m = places.assign r.state.temp (operand.Temp s.temp) r.is in walked (s.temp, m.block) (at m.next r.state)) ((g.target c).same (at (s.temp + 1) s));
  }
