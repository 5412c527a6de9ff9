-- The keywords that name no parameter, put into the pairs of a dict, stand there in their order.
use Rattle.std.proofs.Common.{◌≡◌, ℕ, suc, ◌+◌, [], ◌∷◌, ◌++◌, Bool, true, false, refl, sym, ap, ◌∙◌, arith, length, nat_lt, add-one, append_assoc, List}
use Rattle.std.specs.Prelude.{if◌then◌else◌}
use Rattle.std.specs.Str.{bytes_eq}
use Rattle.std.proofs.lemmas.Bool.Decides.{nat_tests}
use Rattle.std.proofs.lemmas.List.{append-nil}
use Rattle.std.proofs.lemmas.Slice.Eq.{bytes_eq-Decides}
use Rattle.nu_value.specs.declared.key.Atom.TheVariants as atom
use Rattle.nu_value.specs.declared.value.Value.{Value}
use Rattle.nu_value.specs.declared.value.Value.TheVariants as value
use Rattle.nu_value.specs.Atoms.{key_eq}
use Rattle.nu_value.specs.Names.{NameList, AreDistinct, place_of}
use Rattle.nu_value.specs.Pairs.{PairList, key_place, with_pair}
use Rattle.op_rules.specs.declared.binding.Named.{Named}
use Rattle.op_rules.specs.declared.binding.Named.TheVariants.{AtPlace, ByKey, NoName}
use Rattle.op_rules.specs.Binding.{ParamList, named, left_one, left_over}
use Rattle.rt_call.specs.Laws.{unnamed_one, unnamed, pair_of, pairs_of}

-- no pair has this name
abbrev Lacks : PairList → List ℕ → Type 0
Lacks ps name = key_place ps (atom.Str name ∷ []) ≡ length ps

abbrev LackAll : PairList → NameList → Type 0
LackAll ps [] = Unit {0}
LackAll ps (q ∷ qs) = Lacks ps q.0 × LackAll ps qs

abbrev step : Bool → ℕ → ℕ
step b n = if b then 0 else n + 1

step_apart : (b : Bool) (n m : ℕ) → step b n ≡ suc m → b ≡ false
step_apart true n m e = absurd (omega arith)
step_apart false n m e = refl

step_more : (b : Bool) (n m : ℕ) → step b n ≡ suc m → n ≡ m
step_more true n m e = absurd (omega arith)
step_more false n m e = omega arith

not_true : (b : Bool) → (b ≡ true → ⊥) → b ≡ false
not_true true h = absurd (h refl)
not_true false h = refl

other_name : (a b : List ℕ) → bytes_eq a b ≡ false → bytes_eq b a ≡ false
other_name a b e =
    not_true (bytes_eq b a) (λ t. let same : bytes_eq a b ≡ true = (bytes_eq-Decides a b).1 (sym ((bytes_eq-Decides b a).0 t)) in absurd (cc))

lacks_end : (ps : PairList) (name other : List ℕ) (v : Value) → Lacks ps name → bytes_eq other name ≡ false → Lacks (ps ++ pair_of (other, v) ∷ []) name
lacks_end [] name other v l apart = rw apart refl
lacks_end (p ∷ ps) name other v l apart =
    let first : key_eq p.0 (atom.Str name ∷ []) ≡ false = step_apart (key_eq p.0 (atom.Str name ∷ [])) (key_place ps (atom.Str name ∷ [])) (length ps) l in
    let rest : Lacks (ps ++ pair_of (other, v) ∷ []) name = lacks_end ps name other v (step_more (key_eq p.0 (atom.Str name ∷ [])) (key_place ps (atom.Str name ∷ [])) (length ps) l) apart in
    rw (first, rest) (add-one (length (ps ++ pair_of (other, v) ∷ [])))

lack_all_end : (ps : PairList) (name : List ℕ) (v : Value) (qs : NameList) → LackAll ps qs → place_of qs name ≡ length qs → LackAll (ps ++ pair_of (name, v) ∷ []) qs
lack_all_end ps name v [] a l = tt
lack_all_end ps name v (q ∷ qs) a l =
    let apart : bytes_eq q.0 name ≡ false = step_apart (bytes_eq q.0 name) (place_of qs name) (length qs) l in
    (lacks_end ps q.0 name v a.0 (other_name q.0 name apart), lack_all_end ps name v qs a.1 (step_more (bytes_eq q.0 name) (place_of qs name) (length qs) l))

not_less : (n : ℕ) → nat_lt n n ≡ false
not_less n = grind (arith, nat_tests)

put_new : (ps : PairList) (name : List ℕ) (v : Value) → Lacks ps name → with_pair ps (atom.Str name ∷ []) (value.Str name) v ≡ ps ++ pair_of (name, v) ∷ []
put_new ps name v l =
    let past : nat_lt (key_place ps (atom.Str name ∷ [])) (length ps) ≡ false = ap (λ n. nat_lt n (length ps)) l ∙ not_less (length ps) in
    rw past refl

left_by : (params : ParamList) (n : Named) (q : List ℕ × Value) (qs : NameList) (ps : PairList) → AreDistinct (q ∷ qs) → LackAll ps (q ∷ qs)
    → ((more : PairList) → LackAll more qs → left_over params qs more ≡ more ++ pairs_of (unnamed params qs))
    → left_over params qs (left_one n q ps) ≡ ps ++ pairs_of (unnamed_one n q (unnamed params qs))
left_by params NoName q qs ps d a rest =
    ap (left_over params qs) (put_new ps q.0 q.1 a.0) ∙ rest (ps ++ pair_of q ∷ []) (lack_all_end ps q.0 q.1 qs a.1 d.0)
    ∙ append_assoc ps (pair_of q ∷ []) (pairs_of (unnamed params qs))
left_by params (AtPlace place) q qs ps d a rest = rest ps a.1
left_by params (ByKey index) q qs ps d a rest = rest ps a.1

left_is : (params : ParamList) (qs : NameList) (ps : PairList) → AreDistinct qs → LackAll ps qs → left_over params qs ps ≡ ps ++ pairs_of (unnamed params qs)
left_is params [] ps d a = sym (append-nil ps)
left_is params (q ∷ qs) ps d a = left_by params (named params 0 0 q.0) q qs ps d a (λ more b. left_is params qs more d.1 b)

none_has : (qs : NameList) → LackAll [] qs
none_has [] = tt
none_has (q ∷ qs) = (refl, none_has qs)

pub left_pairs : (params : ParamList) (qs : NameList) → AreDistinct qs → left_over params qs [] ≡ pairs_of (unnamed params qs)
left_pairs params qs d = left_is params qs [] d (none_has qs)
