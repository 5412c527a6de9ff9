-- The statements before the body of a code.
use Rattle.std.proofs.Common.{◌≡◌, ℕ, zero, suc, ◌+◌, ◌-◌, ◌<◌, ◌≤◌, Bool, true, false, cond, List, [], ◌∷◌, map, length, Option, Some, None, refl, sym, ap, ◌∙◌, arith, length-append, drop, get_or}
use Rattle.std.specs.Prelude.{nat_lt}
use Rattle.std.proofs.lemmas.Bool.Decides.{nat_tests}
use Rattle.op_forms.specs.declared.op.Op.TheVariants as op
use Rattle.node_tree.specs.Blocks.{alone, append, of_temp}
use Rattle.node_tree.specs.Blocks as tree
use Rattle.py_ast.specs.declared.scoped.Scope.{Scope}
use Rattle.py_meaning.specs.Scopes.{has, place_in, parameter_of, free_names, own_names, local_names}
use Rattle.carries_base.specs.Frames.{Homes, local_at, own_at, behind}
use Rattle.carries_names.specs.Begun.{unset_block, cells_block, begun_block, HoldParams}
use Rattle.walk_laws.specs.Contexts.{homes_in}
use Rattle.reform_homes.specs.Standing.{Stands, other_names}
use Rattle.reform_homes.specs.Unset.{unset_from, cell_made, cells_from}
use Rattle.reform_homes.proofs.Standing.{here}
use Rattle.reform_homes.proofs.Temps.{place_there, in_scope}

append_assoc : (p q r : tree.Block) → append (append p q) r ≡ append p (append q r)
append_assoc tree.Stop q r = refl
append_assoc (tree.Follow x p) q r = ap (tree.Follow x) (append_assoc p q r)

low : (h : Homes) (place : ℕ) → place < h.params → local_at h place ≡ place
low h place l = let t : nat_lt place h.params ≡ true = grind (arith, nat_tests) in ap (λ b. cond b place (h.frees + h.owns + place)) t

high : (h : Homes) (place : ℕ) → h.params ≤ place → local_at h place ≡ h.frees + h.owns + place
high h place l = let t : nat_lt place h.params ≡ false = grind (arith, nat_tests) in ap (λ b. cond b place (h.frees + h.owns + place)) t

unset_is : (h : Homes) (place n to : ℕ) (b : tree.Block) → h.params ≤ place → to ≡ h.frees + h.owns + place → append (unset_from to n) b ≡ unset_block h place n b
unset_is h place zero to b l e = refl
unset_is h place (suc n) to b l e =
    let t : to ≡ local_at h place = e ∙ sym (high h place l) in
    let next : to + 1 ≡ h.frees + h.owns + (place + 1) = omega (arith, e) in
    ap (λ k. tree.Follow (tree.Unset k) (append (unset_from (to + 1) n) b)) t ∙ ap (tree.Follow (tree.Unset (local_at h place))) (unset_is h (place + 1) n (to + 1) b (omega (arith, l)) next)

cells_are : (h : Homes) (line t own to : ℕ) (xs : List (Option ℕ)) (b : tree.Block) → HoldParams h.params xs → to ≡ own_at h own → append (cells_from line t to xs) b ≡ cells_block h line t own xs b
cells_are h line t own to [] b p e = refl
cells_are h line t own to (None ∷ xs) b p e =
    let next : to + 1 ≡ own_at h (own + 1) = omega (arith, e) in
    ap (λ k. tree.Follow (tree.Do k line op.Cell []) (append (cells_from line t (to + 1) xs) b)) e
    ∙ ap (tree.Follow (tree.Do (own_at h own) line op.Cell [])) (cells_are h line t (own + 1) (to + 1) xs b p next)
cells_are h line t own to (Some place ∷ xs) b p e =
    let next : to + 1 ≡ own_at h (own + 1) = omega (arith, e) in
    ap (λ k. tree.Follow (tree.Do k line op.Cell []) (tree.Follow (tree.Do t line op.CellSet (of_temp k ∷ of_temp place ∷ [])) (append (cells_from line t (to + 1) xs) b))) e
    ∙ ap (λ k. tree.Follow (tree.Do (own_at h own) line op.Cell []) (tree.Follow (tree.Do t line op.CellSet (of_temp (own_at h own) ∷ of_temp k ∷ [])) (append (cells_from line t (to + 1) xs) b))) (sym (low h place p.0))
    ∙ ap (λ r. tree.Follow (tree.Do (own_at h own) line op.Cell []) (tree.Follow (tree.Do t line op.CellSet (of_temp (own_at h own) ∷ of_temp (local_at h place) ∷ [])) r)) (cells_are h line t (own + 1) (to + 1) xs b p.1 next)

begun_is : (h : Homes) (line t n to cell : ℕ) (xs : List (Option ℕ)) (b : tree.Block) → HoldParams h.params xs → to ≡ h.frees + h.owns + h.params → cell ≡ h.params + h.frees
    → append (append (unset_from to n) (cells_from line t cell xs)) b ≡ begun_block h line t n xs b
begun_is h line t n to cell xs b p e f =
    let start : cell ≡ own_at h 0 = omega (arith, f) in
    append_assoc (unset_from to n) (cells_from line t cell xs) b
    ∙ ap (append (unset_from to n)) (cells_are h line t 0 cell xs b p start)
    ∙ unset_is h h.params n to (cells_block h line t 0 xs b) (omega arith) e

hold : (params names : List (List ℕ)) → HoldParams (length params) (map (parameter_of params) names)
hold params [] = tt
hold params (x ∷ names) = by (has params x) refl (hold params names)
  where
    by : (b : Bool) → has params x ≡ b → HoldParams (length params) (map (parameter_of params) names)
        → HoldParams (length params) (cond b (Some (place_in params x)) None ∷ map (parameter_of params) names)
    by true e rest = (place_there params x e, rest)
    by false e rest = rest

pub begun_in : (scopes : List Scope) (this : ℕ) (scope : Scope) (captured free params own others : List (List ℕ)) (homes : List (List ℕ × ℕ)) (class : Option (List ℕ)) (first line end : ℕ) (b : tree.Block)
    → Stands scopes this scope captured free params own others homes → end ≡ behind (homes_in (in_scope scopes this params class first))
    → append (append (unset_from (length params + length free + length own) (end - (length params + length free + length own))) (cells_from line end (length params + length free) (map (parameter_of params) own))) b
    ≡ begun_block (homes_in (in_scope scopes this params class first)) line (behind (homes_in (in_scope scopes this params class first)))
    ((homes_in (in_scope scopes this params class first)).locals - (homes_in (in_scope scopes this params class first)).params) (map (parameter_of params) (own_names scopes this)) b
begun_in scopes this scope captured free params own others homes class first line end b s e =
    let f : length free ≡ length (free_names scopes this) = ap length s.free in
    let o : length own ≡ length (own_names scopes this) = ap length s.own in
    let l : length (local_names scopes this params) ≡ length params + length (other_names scopes this params) = length-append params (other_names scopes this params) in
    let to : length params + length free + length own ≡ length (free_names scopes this) + length (own_names scopes this) + length params = omega (arith, f, o) in
    let cell : length params + length free ≡ length params + length (free_names scopes this) = omega (arith, f) in
    let n : end - (length params + length free + length own) ≡ length (local_names scopes this params) - length params = omega (arith, f, o, l, e) in
    begun_is (homes_in (in_scope scopes this params class first)) line end (end - (length params + length free + length own)) (length params + length free + length own) (length params + length free) (map (parameter_of params) own) b (hold params own) to cell
    ∙ ap (λ t. begun_block (homes_in (in_scope scopes this params class first)) line t (end - (length params + length free + length own)) (map (parameter_of params) own) b) e
    ∙ ap (λ k. begun_block (homes_in (in_scope scopes this params class first)) line (behind (homes_in (in_scope scopes this params class first))) k (map (parameter_of params) own) b) n
    ∙ ap (λ names. begun_block (homes_in (in_scope scopes this params class first)) line (behind (homes_in (in_scope scopes this params class first))) (length (local_names scopes this params) - length params) (map (parameter_of params) names) b) s.own

-- one temporary more that is Unset
pub unset_step : (first end to : ℕ) (b whole : tree.Block) → to < end → append b (unset_from to (end - to)) ≡ whole → append (append b (alone (tree.Unset to))) (unset_from (to + 1) (end - (to + 1))) ≡ whole
unset_step first end to b whole l h =
    let n : end - to ≡ suc (end - (to + 1)) = omega (arith, l) in
    append_assoc b (alone (tree.Unset to)) (unset_from (to + 1) (end - (to + 1)))
    ∙ ap (λ k. append b (unset_from to k)) (sym n) ∙ h

pub append_stop : (b : tree.Block) → append b tree.Stop ≡ b
append_stop tree.Stop = refl
append_stop (tree.Follow x b) = ap (tree.Follow x) (append_stop b)

-- one cell more
pub cells_step : (line t first i : ℕ) (f : List ℕ → Option ℕ) (names : List (List ℕ)) (x : List ℕ) (old new whole : tree.Block) → i < length names → x ≡ get_or names i x
    → append old (cells_from line t (first + i) (map f (drop i names))) ≡ whole → new ≡ append old (cell_made line t (first + i) (f x))
    → append new (cells_from line t (first + (i + 1)) (map f (drop (i + 1) names))) ≡ whole
cells_step line t first i f names x old new whole l is h e =
    let next : first + (i + 1) ≡ first + i + 1 = omega arith in
    ap (λ b. append b (cells_from line t (first + (i + 1)) (map f (drop (i + 1) names)))) e
    ∙ append_assoc old (cell_made line t (first + i) (f x)) (cells_from line t (first + (i + 1)) (map f (drop (i + 1) names)))
    ∙ ap (λ k. append old (append (cell_made line t (first + i) (f x)) (cells_from line t k (map f (drop (i + 1) names))))) next
    ∙ ap (λ xs. append old (cells_from line t (first + i) (map f xs))) (sym (here names i x l is)) ∙ h

drop_all : {A : Type 0} (n : ℕ) (xs : List A) → length xs ≤ n → drop n xs ≡ []
drop_all zero [] l = refl
drop_all (suc n) [] l = refl
drop_all zero (x ∷ xs) l = absurd (omega (arith, l))
drop_all (suc n) (x ∷ xs) l = drop_all n xs (omega (arith, l))

pub cells_end : (line t first i : ℕ) (f : List ℕ → Option ℕ) (names : List (List ℕ)) (b whole : tree.Block) → length names ≤ i
    → append b (cells_from line t (first + i) (map f (drop i names))) ≡ whole → b ≡ whole
cells_end line t first i f names b whole l h =
    sym (append_stop b) ∙ ap (λ xs. append b (cells_from line t (first + i) (map f xs))) (sym (drop_all i names l)) ∙ h

-- what code makes of its numbers
pub begun_made : (params free own slice : List (List ℕ)) (p f o line end : ℕ) (nodes more whole b : tree.Block) → p ≡ length params → f ≡ length free → o ≡ length own → slice ≡ own
    → nodes ≡ unset_from (p + f + o) (end - (p + f + o)) → more ≡ append nodes (cells_from line end (p + f) (map (parameter_of params) slice)) → whole ≡ append more b
    → whole ≡ append (append (unset_from (length params + length free + length own) (end - (length params + length free + length own))) (cells_from line end (length params + length free) (map (parameter_of params) own))) b
begun_made params free own slice p f o line end nodes more whole b hp hf ho hs hn hm hw =
    let unset : p + f + o ≡ length params + length free + length own = omega (arith, hp, hf, ho) in
    let cell : p + f ≡ length params + length free = omega (arith, hp, hf) in
    hw ∙ ap (λ x. append x b)
    (hm
    ∙ ap (λ x. append x (cells_from line end (p + f) (map (parameter_of params) slice))) (hn ∙ ap (λ k. unset_from k (end - k)) unset)
    ∙ ap (λ k. append (unset_from (length params + length free + length own) (end - (length params + length free + length own))) (cells_from line end k (map (parameter_of params) slice))) cell
    ∙ ap (λ xs. append (unset_from (length params + length free + length own) (end - (length params + length free + length own))) (cells_from line end (length params + length free) (map (parameter_of params) xs))) hs)
