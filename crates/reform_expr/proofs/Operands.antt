-- Operations on operands that are carried in ranges of their own.
use Rattle.std.proofs.Common.{◌≡◌, ⊎_elim, inl, inr, ℕ, suc, ◌+◌, ◌<◌, ◌≤◌, length, map, Bool, true, false, List, [], ◌∷◌, ◌++◌, Option, Some, refl, sym, ap, ◌∙◌, subst, arith}
use Rattle.nu_value.specs.declared.value.Value.{Value}
use Rattle.op_forms.specs.declared.constant.Const.TheVariants as const
use Rattle.op_forms.specs.declared.op.Op.{Op}
use Rattle.op_forms.specs.declared.op.Op.TheVariants as op
use Rattle.op_forms.specs.declared.signature.ArgumentKind.{ArgumentKind}
use Rattle.code_forms.specs.declared.operand.Argument.{Argument}
use Rattle.code_forms.specs.declared.operand.Argument.TheVariants as argument
use Rattle.code_forms.specs.declared.operand.Operand.{Operand}
use Rattle.code_forms.specs.declared.operand.Operand.TheVariants as operand
use Rattle.node_tree.specs.declared.node.Node.{Do, Call}
use Rattle.node_tree.specs.Blocks.{alone}
use Rattle.node_tree.specs.Blocks as tree
use Rattle.node_tree.specs.Nodes as nodes
use Rattle.node_tree.specs.Tree.{block}
use Rattle.py_meaning.specs.Syntax as syntax
use Rattle.py_meaning.specs.Frames as python
use Rattle.py_meaning.specs.Expressions.{each}
use Rattle.nu_calls.specs.Calls.{operate}
use Rattle.carries_base.specs.Frames.{Homes, behind, Holds, Facts, Fits, IsWithin, IsOff, Outside}
use Rattle.carries_base.specs.Carries.{Setting, source, target, Carried, CarriesExpression, CarriesAll, joined}
use Rattle.carries_base.proofs.Facts.{Off, outside_off, outside_less, forget}
use Rattle.carries_base.proofs.Sequence.{weaken, more_leaves, seq_carried, one_carried}
use Rattle.carries_base.proofs.Operations.{operate_carried}
use Rattle.carries_base.proofs.Small.{within_off}
use Rattle.reform_base.specs.declared.Part.{Part}
use Rattle.reform_expr.specs.Parts.{Range, Apart, ApartFrom, CarriesEach, carrier, blocks}
use Rattle.reform_expr.specs.Arguments.{is_name, argument_of, given, arguments}
use Rattle.reform_expr.proofs.Blocks.{blocks_joined}

each_starts : (h : Homes) (low high : ℕ) (xs : syntax.Expressions) (ps : List Part) (rs : List Range) → CarriesEach h low high xs ps rs → (behind h ≤ low) × (low ≤ high)
each_starts h low high syntax.NoMore [] [] c = c
each_starts h low high (syntax.More x xs) (p ∷ ps) (r ∷ rs) c = each_starts h low high xs ps rs c.3
each_starts h low high xs ps rs c = absurd c

-- from further below
each_from : (h : Homes) (low low' high : ℕ) (xs : syntax.Expressions) (ps : List Part) (rs : List Range) → behind h ≤ low → low ≤ low' → CarriesEach h low' high xs ps rs → CarriesEach h low high xs ps rs
each_from h low low' high syntax.NoMore [] [] st le c = let l : low' ≤ high = c.1 in (st, omega arith)
each_from h low low' high (syntax.More x xs) (p ∷ ps) (r ∷ rs) st le c =
    let l : low' ≤ r.low = c.0.0 in ((omega arith, c.0.1), c.1, c.2, each_from h low low' high xs ps rs st le c.3)
each_from h low low' high xs ps rs st le c = absurd c

apart_before : (h : Homes) (low mid high : ℕ) (xs : syntax.Expressions) (ps : List Part) (rs : List Range) → CarriesEach h mid high xs ps rs → ApartFrom (record { low = low; high = mid }) rs
apart_before h low mid high syntax.NoMore [] [] c = tt
apart_before h low mid high (syntax.More x xs) (p ∷ ps) (r ∷ rs) c = (inl c.0.0, apart_before h low mid high xs ps rs c.3)
apart_before h low mid high xs ps rs c = absurd c

pub consecutive : (h : Homes) (low high top : ℕ) (xs : syntax.Expressions) (ps : List Part) → CarriesAll h low high xs (map carrier ps) → high ≤ top → (rs : List Range) × CarriesEach h low top xs ps rs
consecutive h low high top syntax.NoMore [] c le = let l : low ≤ high = c.1 in ([], (c.0, omega arith))
consecutive h low high top syntax.NoMore (p ∷ ps) c le = absurd c
consecutive h low high top (syntax.More x xs) [] c le = absurd c
consecutive h low high top (syntax.More x xs) (p ∷ ps) c le =
    let mid = c.0 in
    let rest = consecutive h mid high top xs ps c.2 le in
    let l : mid ≤ top = (each_starts h mid top xs ps rest.0 rest.1).1 in
    let g : low ≤ mid = c.1.grows in
    (record { low = low; high = mid } ∷ rest.0, ((omega arith, l), c.1, apart_before h low mid top xs ps rest.0 rest.1, each_from h low mid top xs ps rest.0 c.1.starts g rest.1))

-- no fact speaks of a temporary in these ranges
abbrev OutsideEach : Homes → List Range → Facts → Type 0
OutsideEach h [] fs = Unit {0}
OutsideEach h (r ∷ rs) fs = Outside h r.low r.high fs × OutsideEach h rs fs

outside_each : (h : Homes) (low high : ℕ) (xs : syntax.Expressions) (ps : List Part) (rs : List Range) (fs : Facts) → CarriesEach h low high xs ps rs → Outside h low high fs → OutsideEach h rs fs
outside_each h low high syntax.NoMore [] [] fs c off = tt
outside_each h low high (syntax.More x xs) (p ∷ ps) (r ∷ rs) fs c off =
    (outside_less h low high r.low r.high fs c.0.0 c.0.1 off, outside_each h low high xs ps rs fs c.3 off)
outside_each h low high xs ps rs fs c off = absurd c

-- a value of one range lies outside of the others
pub within_apart : (h : Homes) (r s : Range) (o : Operand) → behind h ≤ r.low → IsWithin r.low r.high o → Apart r s → IsOff h s.low s.high o
within_apart h r s (operand.Temp t) le w apart =
    let l₁ : r.low ≤ t = w.0 in
    let l₂ : t < r.high = w.1 in
    (omega arith, ⊎_elim (λ (a : r.high ≤ s.low). let k : t < s.low = omega arith in inl k) (λ (a : s.high ≤ r.low). let k : s.high ≤ t = omega arith in inr k) apart)
within_apart h r s (operand.Const c) le w apart = tt

outside_more : (h : Homes) (r : Range) (rs : List Range) (o : Operand) (v : Value) (fs : Facts) → behind h ≤ r.low → IsWithin r.low r.high o → ApartFrom r rs → OutsideEach h rs fs → OutsideEach h rs (Holds o v ∷ fs)
outside_more h r [] o v fs le w apart off = tt
outside_more h r (s ∷ rs) o v fs le w apart off =
    ((within_apart h r s o le w apart.0, off.0), outside_more h r rs o v fs le w apart.1 off.1)

-- what parts leave
abbrev held : List Part → List Value → Facts → Facts
held (p ∷ ps) (v ∷ vs) fs = held ps vs (Holds p.value v ∷ fs)
held ps vs fs = fs

held_before : (ps : List Part) (vs : List Value) (fs : Facts) (c : Value) (g : nodes.Frame) → Fits (held ps vs fs) c g → Fits fs c g
held_before [] vs fs c g x = x
held_before (p ∷ ps) [] fs c g x = x
held_before (p ∷ ps) (v ∷ vs) fs c g x = (held_before ps vs (Holds p.value v ∷ fs) c g x).1

-- what their operands hold
abbrev pub values_in : nodes.Frame → List Part → Option (List Value)
values_in g [] = Some []
values_in g (p ∷ ps) = nodes.both (nodes.operand_value g p.value) (values_in g ps)

values_held : (ps : List Part) (vs : List Value) (fs : Facts) (c : Value) (g : nodes.Frame) → length vs ≡ length ps → Fits (held ps vs fs) c g → values_in g ps ≡ Some vs
values_held [] [] fs c g e x = refl
values_held [] (v ∷ vs) fs c g e x = absurd (omega arith)
values_held (p ∷ ps) [] fs c g e x = absurd (omega arith)
values_held (p ∷ ps) (v ∷ vs) fs c g e x =
    ap (λ u. nodes.both u (values_in g ps)) (held_before ps vs (Holds p.value v ∷ fs) c g x).0
    ∙ ap (λ u. nodes.both (Some v) u) (values_held ps vs (Holds p.value v ∷ fs) c g (omega arith) x)

held_off : (h : Homes) (low high : ℕ) (xs : syntax.Expressions) (ps : List Part) (rs : List Range) (vs : List Value) (fs : Facts) → CarriesEach h low high xs ps rs → Off high fs → Off high (held ps vs fs)
held_off h low high syntax.NoMore [] [] vs fs c off = off
held_off h low high (syntax.More x xs) (p ∷ ps) (r ∷ rs) [] fs c off = off
held_off h low high (syntax.More x xs) (p ∷ ps) (r ∷ rs) (v ∷ vs) fs c off =
    held_off h low high xs ps rs vs (Holds p.value v ∷ fs) c.3 (within_off r.low r.high high p.value v fs c.1.within c.0.1 off)
held_off h low high xs ps rs vs fs c off = absurd c

-- operands one after another, and what follows their values
each_apart : (z : Setting) (h : Homes) (n low high : ℕ) (xs : syntax.Expressions) (ps : List Part) (rs : List Range) (k : Value → Facts) (fs : Facts) (K : List Value → python.R) (last : tree.Block) → CarriesEach h low high xs ps rs → OutsideEach h rs fs → ((vs : List Value) → length vs ≡ length ps → Carried z h n k (held ps vs fs) (K vs) (nodes.block_row (target z) last)) → Carried z h n k fs (each (source z) xs K) (nodes.block_row (target z) (joined (map carrier ps) last))
each_apart z h n low high syntax.NoMore [] [] k fs K last c off next = next [] refl
each_apart z h n low high (syntax.More x xs) (p ∷ ps) (r ∷ rs) k fs K last c off next =
    seq_carried z h n (λ v. Holds p.value v ∷ fs) k fs _ _ (block p.block) (joined (map carrier ps) last) (λ v. forget (Holds p.value v) fs)
    (more_leaves z h 0 n (λ v. Holds p.value v ∷ fs) fs _ _ (omega arith) (c.1.carries z fs off.0))
    (λ v. each_apart z h n low high xs ps rs k (Holds p.value v ∷ fs) (λ vs. K (v ∷ vs)) last c.3
    (outside_more h r rs p.value v fs c.1.starts c.1.within c.2 off.1)
    (λ vs e. next (v ∷ vs) (ap (λ n. suc n) e)))
each_apart z h n low high xs ps rs k fs K last c off next = absurd c

-- a statement behind them that does an operation on what they hold
pub operated : (h : Homes) (low high line : ℕ) (o : Op) (xs : syntax.Expressions) (ps : List Part) (rs : List Range) (args : List Argument) (x : tree.Form) → ((g : nodes.Frame) → nodes.values g args ≡ values_in g ps) → ((l : nodes.L) → nodes.form_row l x ≡ nodes.do_row l high line o args) → CarriesEach h low high xs ps rs → CarriesExpression h low (high + 1) (syntax.Operation line o xs) (joined (map carrier ps) (alone x)) (operand.Temp high)
operated h low high line o xs ps rs args x same is c =
    let st : behind h ≤ low = (each_starts h low high xs ps rs c).0 in
    let le : low ≤ high = (each_starts h low high xs ps rs c).1 in
    let above : behind h ≤ high = omega arith in
    record {
      starts = st;
      grows = omega arith;
      within = (le, omega arith);
      carries = λ z fs off.
          let k : Value → Facts = λ v. Holds (operand.Temp high) v ∷ fs in
          each_apart z h 0 low high xs ps rs k fs _ (alone x) c (outside_each h low high xs ps rs fs c (outside_less h low (high + 1) low high fs (omega arith) (omega arith) off))
          (λ vs e. one_carried z h 0 k (held ps vs fs) _ _
          (weaken z h 0 (λ u. Holds (operand.Temp high) u ∷ held ps vs fs) k (held ps vs fs) _ _ (λ u c g y. (y.0, held_before ps vs fs c g y.1))
          (subst (λ r. Carried z h 0 (λ u. Holds (operand.Temp high) u ∷ held ps vs fs) (held ps vs fs) (operate (source z) line o vs) r) (sym (is (target z)))
          (operate_carried z h 0 (held ps vs fs) line o vs high args above
          (held_off h low high xs ps rs vs fs c (outside_off h low (high + 1) high fs le (omega arith) off))
          (λ c g y. same g ∙ values_held ps vs fs c g e y)))));
    }

argument_same : (g : nodes.Frame) (named : Bool) (v : Operand) → nodes.argument_value g (argument_of named v) ≡ nodes.operand_value g v
argument_same g false v = refl
argument_same g true (operand.Temp t) = refl
argument_same g true (operand.Const const.None) = refl
argument_same g true (operand.Const (const.Bool b)) = refl
argument_same g true (operand.Const (const.Int i)) = refl
argument_same g true (operand.Const (const.Str s)) = refl

-- bare names are what their constants are
pub given_same : (g : nodes.Frame) (kinds : List ArgumentKind) (ps : List Part) → nodes.values g (given kinds ps) ≡ values_in g ps
given_same g kinds [] = refl
given_same g [] (p ∷ ps) = ap (λ u. nodes.both (nodes.operand_value g p.value) u) (given_same g [] ps)
given_same g (k ∷ kinds) (p ∷ ps) =
    ap (λ u. nodes.both u (nodes.values g (given kinds ps))) (argument_same g (is_name (Some k)) p.value)
    ∙ ap (λ u. nodes.both (nodes.operand_value g p.value) u) (given_same g kinds ps)

pub values_same : (g : nodes.Frame) (ps : List Part) → nodes.values g (map argument.Value (map (λ p. p.value) ps)) ≡ values_in g ps
values_same g [] = refl
values_same g (p ∷ ps) = ap (λ u. nodes.both (nodes.operand_value g p.value) u) (values_same g ps)

pub call_same : (g : nodes.Frame) (f : Part) (ps : List Part) → nodes.values g (argument.Value f.value ∷ map argument.Value (map (λ p. p.value) ps)) ≡ values_in g (f ∷ ps)
call_same g f ps = ap (λ u. nodes.both (nodes.operand_value g f.value) u) (values_same g ps)

-- as code makes them
pub operates : (h : Homes) (low high line : ℕ) (o : Op) (xs : syntax.Expressions) (ps : List Part) (rs : List Range) → CarriesEach h low high xs ps rs → CarriesExpression h low (high + 1) (syntax.Operation line o xs) (block (blocks ps ++ Do high line o (arguments o ps) ∷ [])) (operand.Temp high)
operates h low high line o xs ps rs c =
    subst (λ b. CarriesExpression h low (high + 1) (syntax.Operation line o xs) b (operand.Temp high)) (sym (blocks_joined ps (Do high line o (arguments o ps) ∷ [])))
    (operated h low high line o xs ps rs (arguments o ps) (tree.Do high line o (arguments o ps)) (λ g. given_same g _ ps) (λ l. refl) c)

pub calls : (h : Homes) (low high line : ℕ) (f : syntax.Expression) (xs : syntax.Expressions) (p : Part) (ps : List Part) (rs : List Range) → CarriesEach h low high (syntax.More f xs) (p ∷ ps) rs → CarriesExpression h low (high + 1) (syntax.Operation line op.Call (syntax.More f xs)) (block ((p.block ++ blocks ps) ++ Call high line p.value (map (λ a. a.value) ps) ∷ [])) (operand.Temp high)
calls h low high line f xs p ps rs c =
    subst (λ b. CarriesExpression h low (high + 1) (syntax.Operation line op.Call (syntax.More f xs)) b (operand.Temp high)) (sym (blocks_joined (p ∷ ps) (Call high line p.value (map (λ a. a.value) ps) ∷ [])))
    (operated h low high line op.Call (syntax.More f xs) (p ∷ ps) rs (argument.Value p.value ∷ map argument.Value (map (λ a. a.value) ps)) (tree.Call high line p.value (map (λ a. a.value) ps)) (λ g. call_same g p ps) (λ l. refl) c)
