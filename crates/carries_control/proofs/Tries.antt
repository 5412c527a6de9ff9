-- `raise`, `assert` and `try`, where their parts are carried.
use Rattle.std.proofs.Common.{◌≡◌, ◌⊎◌, inr, ℕ, ◌+◌, ◌<◌, ◌≤◌, true, false, map, List, [], ◌∷◌, Option, Some, None, codes, refl, ap, ◌∙◌, subst, sym, arith}
use Rattle.nu_value.specs.declared.value.Value.{Value}
use Rattle.nu_value.specs.declared.value.Value.TheVariants as value
use Rattle.op_forms.specs.declared.op.Op.TheVariants as op
use Rattle.nu_rows.specs.Rows.{End, Next, Leave, Raised, Return, Stopped, Undefined}
use Rattle.nu_rows.specs.Words.{ends_with}
use Rattle.code_forms.specs.declared.operand.Argument.{Argument}
use Rattle.code_forms.specs.declared.operand.Argument.TheVariants as argument
use Rattle.code_forms.specs.declared.operand.Operand.{Operand}
use Rattle.code_forms.specs.declared.operand.Operand.TheVariants as operand
use Rattle.node_tree.specs.Blocks.{alone, of_temp}
use Rattle.node_tree.specs.Blocks as tree
use Rattle.node_tree.specs.Nodes as nodes
use Rattle.py_meaning.specs.Syntax as syntax
use Rattle.py_meaning.specs.Frames as python
use Rattle.py_meaning.specs.Statements.{tries, reraise, fails}
use Rattle.carries_base.specs.Frames.{Homes, behind, Holds, Facts, Outside}
use Rattle.carries_base.specs.Carries.{Setting, source, target, S, T, Tables, Correspond, EndsAs, CarriedTo, Handles, Carrier, CarriesExpression, CarriesStatement, CarriesBlock, CarriesAll, joined}
use Rattle.carries_base.specs.Laws.{Within}
use Rattle.carries_base.proofs.Facts.{Off, fresh, outside_off, outside_less}
use Rattle.carries_base.proofs.Carry.{AllEnds, Midway, right_by}
use Rattle.carries_base.proofs.Sequence.{weaken, strengthen, lessen, unvalued, one_by, gives_carried}
use Rattle.carries_base.proofs.Small.{within_off}
use Rattle.carries_base.proofs.Control.{branch_by, writes_first}
use Rattle.carries_names.proofs.Functions.{Extends, KnowsAll, known_values, all_grow, each_to}
use Rattle.carries_control.specs.Raises.{raise_block, fails_block, assert_block}
use Rattle.carries_control.specs.Tries.{try_block, clause_block, CarriesHandlers, CarriesClause}
use Rattle.carries_control.proofs.Steps.{passing, value_then, do_then, raise_by}
use Rattle.carries_control.proofs.Again.{again_by}
use Rattle.node_redirect.specs.Shown.{Exits}
use Rattle.carries_control.proofs.Attempts.{Attempted, attempted, attempt_then}
use Rattle.carries_control.proofs.Loops.{handles_more}

pub raise_carried : (h : Homes) (low high line : ℕ) (caught : Option ℕ) (x : syntax.Expression) (b : tree.Block) (o : Operand) → CarriesExpression h low high x b o → CarriesStatement h low (high + 2) caught (syntax.Raise line x) (tree.append b (raise_block line high o))
raise_carried h low high line caught x b o c =
    let st : behind h ≤ low = c.starts in
    let le : low ≤ high = c.grows in
    record {
      starts = st;
      grows = omega arith;
      carries = λ z fs handled out hd.
          value_then z h fs (EndsAs z h 2 (λ v. fs) fs) (passing z h 2 fs) fs low high x b o _ _ (λ c g y. y) c (outside_less h low (high + 2) low high fs (omega arith) (omega arith) out)
          (λ v. raise_by z h 2 fs (Holds o v ∷ fs) line high o v (λ c g y. y.1) (omega arith)
          (within_off low high high o v fs c.within (omega arith) (outside_off h low (high + 2) high fs le (omega arith) out))
          (within_off low high (high + 1) o v fs c.within (omega arith) (outside_off h low (high + 2) (high + 1) fs (omega arith) (omega arith) out))
          (λ c g y. y.0));
    }

reraise_at : (z : Setting) (h : Homes) (fs : Facts) (temp : ℕ) (handled : Option ℕ) → Handles fs (Some temp) handled → CarriedTo z h (EndsAs z h 2 (λ v. fs) fs) fs (reraise handled) (nodes.block_row (target z) (alone (tree.Raise (operand.Temp temp))))
reraise_at z h fs temp None hd = absurd hd
reraise_at z h fs temp (Some x) hd = one_by z h 2 _ (EndsAs z h 2 (λ v. fs) fs) _ _ (unvalued z h 2 (λ v. fs) fs) (again_by z h fs (EndsAs z h 2 (λ v. fs) fs) (passing z h 2 fs) fs temp x (λ c g y. y) hd)

pub reraise_carried : (h : Homes) (low temp : ℕ) → behind h ≤ low → CarriesStatement h low low (Some temp) syntax.Reraise (alone (tree.Raise (operand.Temp temp)))
reraise_carried h low temp st = record { starts = st; grows = omega arith; carries = λ z fs handled out hd. reraise_at z h fs temp handled hd }

-- an AssertionError of texts that are known
fails_by : (z : Setting) (h : Homes) (fs gs : Facts) (line t : ℕ) (ps : List Carrier) (vs : List Value) → Extends gs fs → behind h ≤ t → Outside h t (t + 4) gs → KnowsAll gs ps vs → CarriedTo z h (EndsAs z h 2 (λ v. fs) fs) gs (fails (source z) line vs) (nodes.block_row (target z) (fails_block line t (map (λ p. argument.Value p.value) ps)))
fails_by z h fs gs line t ps vs more above out know =
    let Q : AllEnds = EndsAs z h 2 (λ v. fs) fs in
    let off : (d : ℕ) → t ≤ d → d < t + 4 → Off d gs = (λ d a b. outside_off h t (t + 4) d gs a b out) in
    let texts : List Argument = map (λ p. argument.Value p.value) ps in
    do_then z h fs Q (passing z h 2 fs) gs line t op.Native (python.text (codes "AssertionError") ∷ []) (argument.Name (codes "AssertionError") ∷ []) _ _ more above (off t (omega arith) (omega arith)) (λ c g y. refl)
    (λ class. do_then z h fs Q (passing z h 2 fs) (Holds (operand.Temp t) class ∷ gs) line (t + 1) op.Call (class ∷ vs) (of_temp t ∷ texts) _ _ (λ c g y. more c g y.1) (omega arith) (λ q. let e₁ : t ≡ t + 1 = q in omega arith, off (t + 1) (omega arith) (omega arith))
    (λ c g y. ap (λ u. nodes.both u (nodes.values g texts)) y.0 ∙ ap (λ u. nodes.both (Some class) u) (known_values gs ps vs c g know y.1))
    (λ v. raise_by z h 2 fs (Holds (operand.Temp (t + 1)) v ∷ Holds (operand.Temp t) class ∷ gs) line (t + 2) (operand.Temp (t + 1)) v (λ c g y. more c g y.1.1) (omega arith)
    (λ q. let e₁ : t + 1 ≡ t + 2 = q in omega arith, (λ q. let e₁ : t ≡ t + 2 = q in omega arith, off (t + 2) (omega arith) (omega arith)))
    (λ q. let e₁ : t + 1 ≡ t + 2 + 1 = q in omega arith, (λ q. let e₁ : t ≡ t + 2 + 1 = q in omega arith, off (t + 2 + 1) (omega arith) (omega arith)))
    (λ c g y. y.0)))

pub assert_carried : (h : Homes) (low mid high line : ℕ) (caught : Option ℕ) (test : syntax.Expression) (texts : syntax.Expressions) (tb : tree.Block) (o : Operand) (ps : List Carrier) → CarriesExpression h low mid test tb o → CarriesAll h mid high texts ps → CarriesStatement h low (high + 5) caught (syntax.Assert line test texts) (assert_block line high tb o ps)
assert_carried h low mid high line caught test texts tb o ps ct ca =
    let st : behind h ≤ low = ct.starts in
    let l₁ : low ≤ mid = ct.grows in
    let l₂ : mid ≤ high = (all_grow h mid high texts ps ca).1 in
    record {
      starts = st;
      grows = omega arith;
      carries = λ z fs handled out hd.
          let Q : AllEnds = EndsAs z h 2 (λ v. fs) fs in
          value_then z h fs Q (passing z h 2 fs) fs low mid test tb o _ _ (λ c g y. y) ct (outside_less h low (high + 5) low mid fs (omega arith) (omega arith) out)
          (λ v. do_then z h fs Q (passing z h 2 fs) (Holds o v ∷ fs) line high op.Truth (v ∷ []) (argument.Value o ∷ []) _ _ (λ c g y. y.1) (omega arith) (within_off low mid high o v fs ct.within l₂ (outside_off h low (high + 5) high fs (omega arith) (omega arith) out)) (λ c g y. ap (λ u. nodes.both u (Some [])) y.0)
          (λ b.
          let gs : Facts = Holds (operand.Temp high) b ∷ Holds o v ∷ fs in
          one_by z h 2 _ Q _ _ (unvalued z h 2 (λ v. fs) fs)
          (branch_by z h _ Q (operand.Temp high) b _ _ tree.Stop (joined ps (fails_block line (high + 1) (map (λ p. argument.Value p.value) ps))) (λ tabs s t y. y.frames.facts.0) (λ tabs s t y. tt)
          (strengthen z h 2 fs gs Q _ _ (λ c g y. y.1.1) (gives_carried z h 2 (λ v. fs) fs _ (λ c g y. y)))
          (strengthen z h 2 fs gs Q _ _ (λ c g y. y.1.1)
          (each_to z h 2 (λ v. fs) mid high (high + 5) texts ps fs _ _ ca (omega arith) (outside_less h low (high + 5) mid (high + 5) fs l₁ (omega arith) out)
          (λ vs hs more know out₁. weaken z h 2 (λ v. hs) (λ v. fs) hs _ _ (λ v. more) (fails_by z h hs hs line (high + 1) ps vs (λ c g y. y) (omega arith) (outside_less h high (high + 5) (high + 1) (high + 1 + 4) hs (omega arith) (omega arith) out₁) know)))))));
    }

-- Clauses

tries_exits : (other : python.R) (handlers : ℕ → python.R) (e : End) → Exits e → tries other handlers e ≡ ends_with e
tries_exits other handlers (Next v) x = absurd x
tries_exits other handlers (Raised v) x = absurd x
tries_exits other handlers (Leave v) x = refl
tries_exits other handlers (Return v) x = refl
tries_exits other handlers (Stopped v) x = refl
tries_exits other handlers Undefined x = refl

try_pass : (z : Setting) (h : Homes) (k : Value → Facts) (fs : Facts) (x flag : ℕ) (tabs : Tables) (e : End) (s : S) (e' : End) (t : T) → Exits e → Attempted z h 2 k fs x flag tabs e s e' t → EndsAs z h 2 (λ v. fs) fs tabs e s e' t
try_pass z h k fs x flag tabs (Next v) s e' t over y = absurd over
try_pass z h k fs x flag tabs (Raised v) s e' t over y = absurd over
try_pass z h k fs x flag tabs (Leave i) s (Leave j) t over y = y
try_pass z h k fs x flag tabs (Return v) s (Return w) t over y = y
try_pass z h k fs x flag tabs (Stopped v) s (Stopped w) t over y = y
try_pass z h k fs x flag tabs Undefined s Undefined t over y = y
try_pass z h k fs x flag tabs e s e' t over y = absurd y

pub try_carried : (h : Homes) (low t bl bh hl hh ol oh : ℕ) (caught : Option ℕ) (body other : syntax.Block) (handlers : syntax.Handlers) (bb hb ob : tree.Block) → behind h ≤ low → Within low t bl bh → Within low t hl hh → Within low t ol oh → CarriesBlock h bl bh caught body bb → CarriesHandlers h hl hh t handlers hb → CarriesBlock h ol oh caught other ob → CarriesStatement h low (t + 2) caught (syntax.Try body handlers other) (try_block t bb hb ob)
try_carried h low t bl bh hl hh ol oh caught body other handlers bb hb ob st wb wh wo cb ch co =
    let g = cb.grows in
    let w₁ = wb.0 in
    let w₂ = wb.1 in
    let w₃ = wh.1 in
    let w₄ = wo.1 in
    record {
      starts = st;
      grows = omega arith;
      carries = λ z fs handled out hd.
          let Q : AllEnds = EndsAs z h 2 (λ v. fs) fs in
          let before : Facts = Holds (operand.Temp (t + 1)) (value.Bool false) ∷ fs in
          let off₀ : Off t fs = outside_off h low (t + 2) t fs (omega arith) (omega arith) out in
          let off₁ : Off (t + 1) fs = outside_off h low (t + 2) (t + 1) fs (omega arith) (omega arith) out in
          writes_first z h fs Q (t + 1) (value.Bool false) _ _ (omega arith) off₁
          (attempt_then z h 2 (λ v. before) fs t (t + 1) Q (unvalued z h 2 (λ v. fs) fs) _ hb ob (tries_exits _ _) (try_pass z h (λ v. before) fs t (t + 1)) (λ v c g y. y.0)
          (λ v. strengthen z h 2 fs before Q _ _ (λ c g y. y.1) (co.carries z fs handled (outside_less h low (t + 2) ol oh fs wo.0 (omega arith) out) hd))
          (λ e. let raised : Facts = Holds (operand.Temp (t + 1)) (value.Bool true) ∷ Holds (operand.Temp t) (value.Obj e) ∷ fs in
          let known : Facts = Holds (operand.Temp t) (value.Obj e) ∷ fs in
          strengthen z h 2 known raised Q _ _ (λ c g y. y.1)
          (lessen z h 2 (λ v. known) (λ v. fs) fs known _ _ (λ v c g y. y.1) (λ c g y. y.1)
          (ch.carries z known handled e ((omega arith, inr wh.1), outside_less h low (t + 2) hl hh fs wh.0 (omega arith) out) (λ c g y. y.0))))
          before _ _
          (attempted z h 2 (λ v. before) fs t (t + 1) before _ bb (omega arith) (omega arith) (λ q. let e₁ : t ≡ t + 1 = q in omega arith) off₀ off₁
          (lessen z h 2 (λ v. before) (λ v. before) fs before _ _ (λ v c g y. y) (λ c g y. y.1)
          (cb.carries z before handled ((omega arith, inr (omega arith)), outside_less h low (t + 2) bl bh fs wb.0 (omega arith) out) (handles_more caught handled fs before (λ c g y. y.1) hd)))));
    }

pub no_clause_carried : (h : Homes) (low temp : ℕ) → behind h ≤ low → CarriesHandlers h low low temp syntax.NoHandler (alone (tree.Raise (operand.Temp temp)))
no_clause_carried h low temp st = record {
  starts = st;
  grows = omega arith;
  carries = λ z fs handled x out known. one_by z h 2 _ (EndsAs z h 2 (λ v. fs) fs) _ _ (unvalued z h 2 (λ v. fs) fs) (again_by z h fs (EndsAs z h 2 (λ v. fs) fs) (passing z h 2 fs) fs temp x (λ c g y. y) known);
}

pub bare_carried : (h : Homes) (low high temp : ℕ) (body : syntax.Block) (b : tree.Block) → CarriesBlock h low high (Some temp) body b → CarriesHandlers h low high temp (syntax.Bare body) b
bare_carried h low high temp body b c = record { starts = c.starts; grows = c.grows; carries = λ z fs handled x out known. c.carries z fs (Some x) out known }

pub unnamed_carried : (h : Homes) (low high temp : ℕ) (body : syntax.Block) (b : tree.Block) → CarriesBlock h low high (Some temp) body b → CarriesClause h low high temp None body b
unnamed_carried h low high temp body b c = record { starts = c.starts; grows = c.grows; carries = λ z fs handled x out known. c.carries z fs (Some x) out known }

pub clause_carried : (h : Homes) (low t cl ch bl bh rl rh temp line : ℕ) (class : syntax.Expression) (name : Option syntax.Caught) (body : syntax.Block) (rest : syntax.Handlers) (cb bb rb : tree.Block) (o : Operand) → behind h ≤ low → Within low t cl ch → Within low t bl bh → Within low t rl rh → CarriesExpression h cl ch class cb o → CarriesClause h bl bh temp name body bb → CarriesHandlers h rl rh temp rest rb → CarriesHandlers h low (t + 1) temp (syntax.Handler line class name body rest) (clause_block line temp t cb o bb rb)
clause_carried h low t cl ch bl bh rl rh temp line class name body rest cb bb rb o st wc wb wr cc cbody cr =
    let g = cc.grows in
    let w₁ = wc.0 in
    let w₂ = wc.1 in
    let w₃ = wb.1 in
    let w₄ = wr.1 in
    record {
      starts = st;
      grows = omega arith;
      carries = λ z fs handled x out known.
          let Q : AllEnds = EndsAs z h 2 (λ v. fs) fs in
          value_then z h fs Q (passing z h 2 fs) fs cl ch class cb o _ _ (λ c g y. y) cc (outside_less h low (t + 1) cl ch fs wc.0 (omega arith) out)
          (λ v. do_then z h fs Q (passing z h 2 fs) (Holds o v ∷ fs) line t op.Match (value.Obj x ∷ v ∷ []) (of_temp temp ∷ argument.Value o ∷ []) _ _ (λ c g y. y.1) (omega arith) (within_off cl ch t o v fs cc.within wc.1 (outside_off h low (t + 1) t fs (omega arith) (omega arith) out))
          (λ c g y. ap (λ u. nodes.both u (nodes.both (nodes.operand_value g o) (Some []))) (known c g y.1) ∙ ap (λ u. nodes.both (Some (value.Obj x)) (nodes.both u (Some []))) y.0)
          (λ b.
          let gs : Facts = Holds (operand.Temp t) b ∷ Holds o v ∷ fs in
          one_by z h 2 _ Q _ _ (unvalued z h 2 (λ v. fs) fs)
          (branch_by z h _ Q (operand.Temp t) b _ _ bb rb (λ tabs s u y. y.frames.facts.0) (λ tabs s u y. tt)
          (strengthen z h 2 fs gs Q _ _ (λ c g y. y.1.1) (cbody.carries z fs handled x (outside_less h low (t + 1) bl bh fs wb.0 (omega arith) out) known))
          (strengthen z h 2 fs gs Q _ _ (λ c g y. y.1.1) (cr.carries z fs handled x (outside_less h low (t + 1) rl rh fs wr.0 (omega arith) out) known)))));
    }

pub copied_carried : (h : Homes) (low high bl bh from to : ℕ) (name : Option syntax.Caught) (body : syntax.Block) (b : tree.Block) → behind h ≤ low → Within low high bl bh → low ≤ to → to < high → ((to < bl) ⊎ (bh ≤ to)) → CarriesClause h bl bh to name body b → CarriesClause h low high from name body (tree.Follow (tree.Copy to from) b)
copied_carried h low high bl bh from to name body b st wb l₁ l₂ apart c =
    let w₁ = wb.0 in
    let w₂ = wb.1 in
    let g = c.grows in
    let above : behind h ≤ to = omega arith in
    record {
      starts = st;
      grows = omega arith;
      carries = λ z fs handled x out known.
          let Q : AllEnds = EndsAs z h 2 (λ v. fs) fs in
          let gs : Facts = Holds (operand.Temp to) (value.Obj x) ∷ fs in
          let off : Off to fs = outside_off h low high to fs l₁ l₂ out in
          right_by z h _ (λ w tabs. Correspond z h tabs gs) Q _ _ (λ w. nodes.block_row (target z) b)
          (λ tabs s t y. subst (λ u. ((nodes.copied t to u).out ≡ []) × Midway z h (λ w tabs. Correspond z h tabs gs) tabs (nodes.copied t to u).end s (nodes.copied t to u).state) (sym (known s.frame.carried t.frame y.frames.facts)) (refl, fresh z h tabs fs to (value.Obj x) (value.Obj x) s t refl above off y))
          (λ w. lessen z h 2 (λ v. gs) (λ v. fs) fs gs _ _ (λ v c g y. y.1) (λ c g y. y.1)
          (c.carries z gs handled x ((above, apart), outside_less h low high bl bh fs wb.0 wb.1 out) (λ c g y. y.0)));
    }
