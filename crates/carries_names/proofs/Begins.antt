-- The frames with which a code and its nodes begin.
use Rattle.std.proofs.Common.{◌≡◌, ⊎_elim, ℕ, zero, suc, ◌+◌, ◌-◌, ◌<◌, ◌≤◌, Bool, true, false, ◌&&◌, nat_le, if◌then◌else◌, length, take, replicate, List, [], ◌∷◌, ◌++◌, Option, Some, None, refl, sym, ap, ◌∙◌, subst, arith, length-append, length-take-le}
use Rattle.std.specs.Prelude.{slice_get}
use Rattle.std.proofs.lemmas.Bool.{leb-true}
use Rattle.std.proofs.lemmas.List.{length-replicate}
use Rattle.nu_value.specs.declared.value.Value.{Value}
use Rattle.nu_value.specs.declared.value.Value.TheVariants as value
use Rattle.nu_calls.specs.Calls.{of_kind}
use Rattle.node_tree.specs.declared.script.NodeCode.{NodeCode}
use Rattle.node_tree.specs.Nodes as nodes
use Rattle.node_tree.specs.Run as node_run
use Rattle.py_meaning.specs.Syntax as syntax
use Rattle.py_meaning.specs.Frames as python
use Rattle.py_meaning.specs.Bodies as bodies
use Rattle.carries_base.specs.Frames.{Homes, HaveRoom, local_at, free_at, begun, FramesAs}
use Rattle.carries_base.specs.Carries.{Setting, source, target, BegunAs}
use Rattle.carries_base.proofs.Facts.{local_cases}
use Rattle.carries_names.specs.Begun.{HaveHomes}
use Rattle.carries_names.proofs.Stages.{at_before}

-- Lists

get_at : (xs : List Value) (i : ℕ) → i < length xs → slice_get xs i ≡ Some (python.at xs i)
get_at [] i l = absurd (omega arith)
get_at (x ∷ xs) zero l = refl
get_at (x ∷ xs) (suc i) l = get_at xs i (omega arith)

get_front : (xs ys : List Value) (i : ℕ) → i < length xs → slice_get (xs ++ ys) i ≡ slice_get xs i
get_front [] ys i l = absurd (omega arith)
get_front (x ∷ xs) ys zero l = refl
get_front (x ∷ xs) ys (suc i) l = get_front xs ys i (omega arith)

get_behind : (xs ys : List Value) (n i : ℕ) → n ≡ length xs + i → slice_get (xs ++ ys) n ≡ slice_get ys i
get_behind [] ys n i e = let e₁ : n ≡ i = omega arith in ap (λ m. slice_get ys m) e₁
get_behind (x ∷ xs) ys zero i e = absurd (omega arith)
get_behind (x ∷ xs) ys (suc n) i e = get_behind xs ys n i (omega arith)

at_unset : (n i : ℕ) → python.at (replicate n value.Unset) i ≡ value.Unset
at_unset zero i = refl
at_unset (suc n) zero = refl
at_unset (suc n) (suc i) = at_unset n i

at_rest : (xs : List Value) (n i : ℕ) → length xs ≤ i → python.at (xs ++ replicate n value.Unset) i ≡ value.Unset
at_rest [] n i l = at_unset n i
at_rest (x ∷ xs) n zero l = absurd (omega arith)
at_rest (x ∷ xs) n (suc i) l = at_rest xs n i (omega arith)

module _ (code : ℕ) (given cells : List Value) where
  abbrev source_frame : ℕ → ℕ → ℕ → python.Frame
  source_frame params locals frees = record { code = code; locals = take params given ++ replicate (locals - params) value.Unset; owns = []; frees = take frees cells; carried = value.None }

  abbrev target_frame : ℕ → ℕ → nodes.Frame
  target_frame params frees = record { code = code; given = given; cells = cells; temps = slice_get (take params given ++ take frees cells) }

  frames_alike : (h : Homes) → HaveRoom h → h.params ≤ length given → h.frees ≤ length cells → FramesAs (begun h) [] (source_frame h.params h.locals h.frees) (target_frame h.params h.frees)
  frames_alike h room l₁ l₂ =
      let r = room.params in
      let n : length (take h.params given) ≡ h.params = length-take-le h.params given l₁ in
      let m : length (take h.frees cells) ≡ h.frees = length-take-le h.frees cells l₂ in
      let k : length (replicate (h.locals - h.params) value.Unset) ≡ h.locals - h.params = length-replicate (h.locals - h.params) value.Unset in
      let both : length (take h.params given ++ replicate (h.locals - h.params) value.Unset) ≡ length (take h.params given) + length (replicate (h.locals - h.params) value.Unset) = length-append (take h.params given) (replicate (h.locals - h.params) value.Unset) in
      record {
        room = record { params = room.params; filled = room.params; made = omega arith };
        code = refl;
        count = omega arith;
        made = refl;
        rest = λ place l. at_rest (take h.params given) (h.locals - h.params) place (omega arith);
        locals = λ place l. let home : local_at h place ≡ place = param_home place l in
            ap (λ i. slice_get (take h.params given ++ take h.frees cells) i) home
            ∙ get_front (take h.params given) (take h.frees cells) place (omega arith)
            ∙ get_at (take h.params given) place (omega arith)
            ∙ sym (ap (λ u. Some u) (at_before (take h.params given) (replicate (h.locals - h.params) value.Unset) place (omega arith)));
        owns = λ place l. absurd (omega (arith, l));
        frees = λ place l. get_behind (take h.params given) (take h.frees cells) (free_at h place) place (omega arith) ∙ get_at (take h.frees cells) place (omega arith);
        facts = tt;
      }
    where
      param_home : (place : ℕ) → place < h.params → local_at h place ≡ place
      param_home place l = ⊎_elim
          (λ (q : (place < h.params) × (local_at h place ≡ place)). q.1)
          (λ (q : (h.params ≤ place) × (local_at h place ≡ h.frees + h.owns + place)). let a = q.0 in absurd (omega arith))
          (local_cases h place)

  begin_alike : (h : Homes) → HaveRoom h → (is a b : Bool) → nat_le h.params (length given) ≡ a → nat_le h.frees (length cells) ≡ b → BegunAs h (if is && (a && b) then Some (source_frame h.params h.locals h.frees) else None) (if is && (a && b) then Some (target_frame h.params h.frees) else None)
  begin_alike h room false a b ea eb = tt
  begin_alike h room true true true ea eb = frames_alike h room (leb-true h.params (length given) ea) (leb-true h.frees (length cells) eb)
  begin_alike h room true true false ea eb = tt
  begin_alike h room true false true ea eb = tt
  begin_alike h room true false false ea eb = tt

  abbrev source_begun : Bool → ℕ → ℕ → ℕ → Option python.Frame
  source_begun is params locals frees = if is && (nat_le params (length given) && nat_le frees (length cells)) then Some (source_frame params locals frees) else None

  abbrev target_begun : Bool → ℕ → ℕ → Option nodes.Frame
  target_begun is params frees = if is && (nat_le params (length given) && nat_le frees (length cells)) then Some (target_frame params frees) else None

  codes_alike : (kind : Bool) (h : Homes) (c : syntax.Code) (k : NodeCode) → HaveRoom h → HaveHomes h c k → BegunAs h (bodies.begun_frame kind code given cells (Some c)) (node_run.begun_frame kind code given cells (Some k))
  codes_alike kind h c k room homes =
      let is : Bool = of_kind kind c.header.generator in
      subst (λ g. BegunAs h (source_begun is (length c.header.params) c.locals c.frees) (target_begun (of_kind kind g) (length k.header.params) k.free)) (sym homes.kind)
      (subst (λ n. BegunAs h (source_begun is n c.locals c.frees) (target_begun is (length k.header.params) k.free)) (sym homes.params)
      (subst (λ n. BegunAs h (source_begun is h.params n c.frees) (target_begun is (length k.header.params) k.free)) (sym homes.locals)
      (subst (λ n. BegunAs h (source_begun is h.params h.locals n) (target_begun is (length k.header.params) k.free)) (sym homes.frees)
      (subst (λ n. BegunAs h (source_begun is h.params h.locals h.frees) (target_begun is n k.free)) (sym homes.given)
      (subst (λ n. BegunAs h (source_begun is h.params h.locals h.frees) (target_begun is h.params n)) (sym homes.cells)
      (begin_alike h room is (nat_le h.params (length given)) (nat_le h.frees (length cells)) refl refl))))))

pub begins_alike : (z : Setting) (code : ℕ) (c : syntax.Code) (k : NodeCode) → slice_get z.codes code ≡ Some c → slice_get z.script.codes code ≡ Some k → HaveRoom (z.homes code) → HaveHomes (z.homes code) c k → (kind : Bool) (given cells : List Value) → BegunAs (z.homes code) ((source z).frame kind code given cells) ((target z).frame kind code given cells)
begins_alike z code c k ec ek room homes kind given cells =
    subst (λ o. BegunAs (z.homes code) (bodies.begun_frame kind code given cells o) ((target z).frame kind code given cells)) (sym ec)
    (subst (λ o. BegunAs (z.homes code) (bodies.begun_frame kind code given cells (Some c)) (node_run.begun_frame kind code given cells o)) (sym ek)
    (codes_alike code given cells kind (z.homes code) c k room homes))
