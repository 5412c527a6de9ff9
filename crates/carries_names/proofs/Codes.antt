-- From the body of a code to the code.
use Rattle.std.proofs.Common.{◌≡◌, ℕ, zero, suc, ◌+◌, ◌<◌, ◌≤◌, length, List, [], ◌∷◌, Option, Some, None, refl, sym, ap, ◌∙◌, subst, arith}
use Rattle.std.specs.Prelude.{slice_get}
use Rattle.nu_value.specs.declared.value.Value.{Value}
use Rattle.nu_value.specs.declared.value.Value.TheVariants as value
use Rattle.op_forms.specs.declared.op.Op.{Op}
use Rattle.op_forms.specs.declared.op.Op.TheVariants as op
use Rattle.nu_rows.specs.Rows.{End, Next, Raised, Stopped, Undefined}
use Rattle.nu_rows.specs.Words.{on_next, then_value}
use Rattle.nu_calls.specs.Surroundings.{Surroundings}
use Rattle.nu_calls.specs.Calls.{Pause, state_of, operate}
use Rattle.code_forms.specs.declared.operand.Argument.{Argument}
use Rattle.code_forms.specs.declared.operand.Operand.{Operand}
use Rattle.code_forms.specs.declared.operand.Operand.TheVariants as operand
use Rattle.node_tree.specs.Blocks.{alone, of_temp}
use Rattle.node_tree.specs.Blocks as tree
use Rattle.node_tree.specs.Nodes as nodes
use Rattle.node_tree.specs.Tree.{code_block}
use Rattle.py_meaning.specs.Syntax as syntax
use Rattle.py_meaning.specs.Frames as python
use Rattle.py_meaning.specs.Bodies as bodies
use Rattle.carries_base.specs.Frames.{Homes, HaveRoom, local_at, own_at, behind, begun, Holds, Facts, Fits}
use Rattle.carries_base.specs.Carries.{Setting, source, target, S, T, Tables, AroundAs, Outer, Correspond, EndsAs, BodyEnds, CarriedBy, CarriesExpression, CarriesBlock, CarriesCode}
use Rattle.carries_base.proofs.Facts.{put_same, written, refit}
use Rattle.carries_base.proofs.Carry.{States, AllEnds, Settles, by_map, none_by, act_by, then_by, tidy_by, right_by, left_by}
use Rattle.carries_base.proofs.Sequence.{reads_by}
use Rattle.carries_base.proofs.Statements.{return_carried}
use Rattle.carries_base.proofs.Codes.{body_ends}
use Rattle.carries_names.specs.Begun.{unset_block, filled_block, cells_block, begun_block, HoldParams, AreWhole, CarriesBody}
use Rattle.carries_names.proofs.Made.{Results, operation_from, line_from, free_written}
use Rattle.carries_names.proofs.Stages.{at_stage, cell_free, unset_filled, cell_made}

module _ (z : Setting) (h : Homes) where
  -- the first statements of a code: an end other than a value is one of its body
  abbrev pub FirstEnds : (Value → States) → AllEnds
  FirstEnds N tabs (Next v) s (Next w) t = N v tabs s t
  FirstEnds N tabs (Raised x) s (Raised y) t = (x ≡ y) × Outer z tabs s t
  FirstEnds N tabs (Stopped i) s (Stopped j) t = i ≡ j
  FirstEnds N tabs Undefined s Undefined t = Unit {0}
  FirstEnds N tabs e s e' t = ⊥

  first_then : (Pre : States) (N : Value → States) (r : python.R) (c : nodes.R) (K : Value → python.R) (d : nodes.R) → CarriedBy z h Pre (FirstEnds N) r c → ((v : Value) → CarriedBy z h (N v) (BodyEnds z) (K v) d) → CarriedBy z h Pre (BodyEnds z) (then_value r K) (nodes.followed c d)
  first_then Pre N r c K d x after = then_by z h Pre (FirstEnds N) (BodyEnds z) r c (on_next K) (on_next (λ w. d)) x next
    where
      next : (e e' : End) → CarriedBy z h (λ tabs s t. FirstEnds N tabs e s e' t) (BodyEnds z) (on_next K e) (on_next (λ w. d) e')
      next (Next v) (Next w) = after v
      next (Raised v) (Raised w) = act_by z h _ (BodyEnds z) _ _ (λ tabs s t y. (refl, y))
      next (Stopped v) (Stopped w) = act_by z h _ (BodyEnds z) _ _ (λ tabs s t y. (refl, y))
      next Undefined Undefined = act_by z h _ (BodyEnds z) _ _ (λ tabs s t y. (refl, y))
      next e e' = none_by z h _ (BodyEnds z) _ _ (λ tabs s t y. y)

  abbrev Staged : ℕ → ℕ → Facts → States
  Staged filled made fs tabs = Correspond z (at_stage h filled made) tabs fs

  -- an operation then, whose value goes to this temporary
  module _ (filled made : ℕ) (fs : Facts) (N : Value → States) (d : ℕ) (done : (tabs : Tables) (v w : Value) (s : S) (t : T) → v ≡ w → Staged filled made fs tabs s t → N v tabs s (nodes.writes t d w)) where
    outer : (tabs : Tables) (s : S) (t : T) → Staged filled made fs tabs s t → Outer z tabs s t
    outer tabs s t x = record { code = x.frames.code; around = x.around }

    caller : (tabs : Tables) (s : S) (t : T) (a : Surroundings (Pause python.Frame)) (b : Surroundings (Pause nodes.Frame)) → Staged filled made fs tabs s t → AroundAs z tabs a b → Staged filled made fs tabs (state_of s.frame a) (state_of t.frame b)
    caller tabs s t a b x y = record { frames = x.frames; around = y }

    abbrev R : AllEnds
    R = Results z h (Staged filled made fs) outer caller

    settles : Settles z h R (FirstEnds N) (nodes.stored d)
    settles tabs (Next v) s (Next w) t x = (Next value.None, nodes.writes t d w, record { bound = 0; by = refl }, done tabs v w s t x.0 x.1)
    settles tabs (Raised v) s (Raised w) t x = (Raised w, nodes.writes t d value.Unset, record { bound = 0; by = refl }, (x.0, record { code = x.1.frames.code; around = x.1.around }))
    settles tabs (Stopped v) s (Stopped w) t x = (Stopped w, t, record { bound = 0; by = refl }, x)
    settles tabs Undefined s Undefined t x = (Undefined, t, record { bound = 0; by = refl }, x)
    settles tabs e s e' t x = absurd x

    operate_first : (line : ℕ) (o : Op) (vs : List Value) (args : List Argument) → ((c : Value) (g : nodes.Frame) → Fits fs c g → nodes.values g args ≡ Some vs) → CarriedBy z h (Staged filled made fs) (FirstEnds N) (operate (source z) line o vs) (nodes.do_row (target z) d line o args)
    operate_first line o vs args known =
        tidy_by z h (Staged filled made fs) R (FirstEnds N) _ _ (nodes.stored d) settles
        (line_from z h (Staged filled made fs) outer caller line _ _ (operation_from z h (Staged filled made fs) outer caller o (λ f. vs) args (λ tabs s t x. known s.frame.carried t.frame x.frames.facts)))

  -- the local variables behind the parameters get their temporaries
  unsets_carried : (r : python.R) (b : tree.Block) (more place : ℕ) → place + more ≡ h.locals → CarriedBy z h (Staged h.locals 0 []) (BodyEnds z) r (nodes.block_row (target z) b) → CarriedBy z h (Staged place 0 []) (BodyEnds z) r (nodes.block_row (target z) (unset_block h place more b))
  unsets_carried r b zero place e x =
      let e₁ : place ≡ h.locals = omega arith in
      by_map z h _ _ (BodyEnds z) (BodyEnds z) r _ (λ tabs s t y. subst (λ n. Staged n 0 [] tabs s t) e₁ y) (λ tabs e s e' t y. y) x
  unsets_carried r b (suc more) place e x =
      right_by z h _ (λ w. Staged (place + 1) 0 []) (BodyEnds z) r _ (λ w. nodes.block_row (target z) (unset_block h (place + 1) more b))
      (λ tabs s t y. (refl, record { frames = unset_filled h place s.frame t.frame (omega arith) y.frames; around = y.around }))
      (λ w. unsets_carried r b more (place + 1) (omega arith) x)

  module _ (line t : ℕ) (room : HaveRoom h) (above : behind h ≤ t) (r : python.R) (b : tree.Block) (x : CarriedBy z h (Staged h.locals h.owns []) (BodyEnds z) r (nodes.block_row (target z) b)) where
    -- a cell that is made gets its parameter, if it has one
    filled_carried : (place : ℕ) (own : Option ℕ) (c : Value) (next : python.R) (d : tree.Block) → HoldParams h.params (own ∷ []) → CarriedBy z h (Staged h.locals (place + 1) []) (BodyEnds z) next (nodes.block_row (target z) d) → CarriedBy z h (Staged h.locals (place + 1) (Holds (operand.Temp (own_at h place)) c ∷ [])) (BodyEnds z) (then_value (bodies.cell_filled (source z) line c own) (λ w. next)) (nodes.block_row (target z) (filled_block h line t place own d))
    filled_carried place None c next d hold y =
        left_by z h _ (λ v. Staged h.locals (place + 1) []) (BodyEnds z) _ _ _ (λ tabs s u q. (refl, refit z (at_stage h h.locals (place + 1)) tabs (Holds (operand.Temp (own_at h place)) c ∷ []) [] s u (λ k. tt) q)) (λ v. y)
    filled_carried place (Some param) c next d hold y =
        let in_params = hold.0 in
        let r₁ = room.params in
        let cell : Facts = Holds (operand.Temp (own_at h place)) c ∷ [] in
        first_then _ (λ v. Staged h.locals (place + 1) []) _ _ _ _
        (reads_by z h 0 _ (λ v. Staged h.locals (place + 1) (Holds (operand.Temp (local_at h param)) v ∷ cell)) (FirstEnds (λ v. Staged h.locals (place + 1) [])) (λ f. python.at f.locals param) _ _
        (λ tabs s u q. refit z (at_stage h h.locals (place + 1)) tabs cell (Holds (operand.Temp (local_at h param)) (python.at s.frame.locals param) ∷ cell) s u (λ k. (q.frames.locals param (omega arith), k)) q)
        (λ v. operate_first h.locals (place + 1) (Holds (operand.Temp (local_at h param)) v ∷ cell) (λ v. Staged h.locals (place + 1) []) t
        (λ tabs v₁ w₁ s u e q. written z (at_stage h h.locals (place + 1)) tabs [] t w₁ s u above tt (refit z (at_stage h h.locals (place + 1)) tabs (Holds (operand.Temp (local_at h param)) v ∷ cell) [] s u (λ k. tt) q))
        line op.CellSet (c ∷ v ∷ []) (of_temp (own_at h place) ∷ of_temp (local_at h param) ∷ [])
        (λ k g q. ap (λ w. nodes.both w (nodes.both (nodes.operand_value g (operand.Temp (local_at h param))) (Some []))) q.1.0 ∙ ap (λ w. nodes.both (Some c) (nodes.both w (Some []))) q.0)))
        (λ v. y)

    -- the cells are made
    cells_carried : (owns : List (Option ℕ)) (place : ℕ) → place + length owns ≡ h.owns → HoldParams h.params owns → CarriedBy z h (Staged h.locals place []) (BodyEnds z) (bodies.with_cells (source z) line owns r) (nodes.block_row (target z) (cells_block h line t place owns b))
    cells_carried [] place e hold =
        let e₁ : place ≡ h.owns = omega arith in
        by_map z h _ _ (BodyEnds z) (BodyEnds z) r _ (λ tabs s u y. subst (λ n. Staged h.locals n [] tabs s u) e₁ y) (λ tabs e s e' u y. y) x
    cells_carried (own ∷ owns) place e hold =
        let inside : place < h.owns = omega arith in
        let cell : Value → Facts = λ c. Holds (operand.Temp (own_at h place)) c ∷ [] in
        first_then _ (λ c. Staged h.locals place (cell c)) _ _ _ _
        (operate_first h.locals place [] (λ c. Staged h.locals place (cell c)) (own_at h place)
        (λ tabs v w s u same y. record {
          frames = free_written (at_stage h h.locals place) (own_at h place) w [] (cell v) s.frame u.frame (cell_free h h.locals place inside) (put_same u.frame.temps (own_at h place) w ∙ ap (λ q. Some q) (sym same), tt) y.frames;
          around = y.around;
        })
        line op.Cell [] [] (λ c g y. refl))
        (λ c. left_by z h _ (λ v. Staged h.locals (place + 1) (cell c)) (BodyEnds z) _ _ _
        (λ tabs s u y. (refl, record { frames = cell_made h h.locals place c s.frame u.frame inside y.frames; around = y.around }))
        (λ v. filled_carried place own c _ (cells_block h line t (place + 1) owns b) (first_holds own owns hold) (cells_carried owns (place + 1) (omega arith) (others_hold own owns hold))))
      where
        first_holds : (own : Option ℕ) (owns : List (Option ℕ)) → HoldParams h.params (own ∷ owns) → HoldParams h.params (own ∷ [])
        first_holds None owns hold = tt
        first_holds (Some place) owns hold = (hold.0, tt)

        others_hold : (own : Option ℕ) (owns : List (Option ℕ)) → HoldParams h.params (own ∷ owns) → HoldParams h.params owns
        others_hold None owns hold = hold
        others_hold (Some place) owns hold = hold.1

  -- a code begins, and then its body runs
  begun_carried : (line t more : ℕ) (owns : List (Option ℕ)) (r : python.R) (b : tree.Block) → HaveRoom h → AreWhole h more owns → behind h ≤ t → CarriedBy z h (λ tabs. Correspond z h tabs []) (BodyEnds z) r (nodes.block_row (target z) b) → CarriedBy z h (λ tabs. Correspond z (begun h) tabs []) (BodyEnds z) (bodies.with_cells (source z) line owns r) (nodes.block_row (target z) (begun_block h line t more owns b))
  begun_carried line t more owns r b room whole above x =
      let count : length owns ≡ h.owns = whole.owns in
      let none : 0 + length owns ≡ h.owns = omega arith in
      unsets_carried _ _ more h.params whole.locals
      (cells_carried line t room above r b
      (by_map z h _ _ (BodyEnds z) (BodyEnds z) r _ (λ tabs s u y. subst (λ n. Correspond z (at_stage h n h.made) tabs [] s u) (sym whole.filled) (subst (λ n. Correspond z (at_stage h h.locals n) tabs [] s u) (sym whole.made) y)) (λ tabs e s e' u y. y) x)
      owns 0 none whole.hold)

pub statements_carried : (z : Setting) (h : Homes) (low high : ℕ) (body : syntax.Block) (b : tree.Block) → CarriesBlock h low high None body b → CarriesBody z h (syntax.Statements body) b
statements_carried z h low high body b x = by_map z h _ _ (EndsAs z h 2 (λ v. []) []) (BodyEnds z) _ _ (λ tabs s t y. y) (body_ends z h 2 (λ v. []) []) (x.carries z [] None tt tt)

pub value_carried : (z : Setting) (h : Homes) (low high : ℕ) (x : syntax.Expression) (b : tree.Block) (o : Operand) → CarriesExpression h low high x b o → CarriesBody z h (syntax.Value' x) (tree.append b (alone (tree.Return o)))
value_carried z h low high x b o c = by_map z h _ _ (EndsAs z h 2 (λ v. []) []) (BodyEnds z) _ _ (λ tabs s t y. y) (body_ends z h 2 (λ v. []) []) ((return_carried h low high None x b o c).carries z [] None tt tt)

pub code_carried : (z : Setting) (code t more : ℕ) (c : syntax.Code) (b : tree.Block) → slice_get z.codes code ≡ Some c → HaveRoom (z.homes code) → AreWhole (z.homes code) more c.owns → behind (z.homes code) ≤ t → code_block z.script.codes code ≡ begun_block (z.homes code) c.header.line t more c.owns b → CarriesBody z (z.homes code) c.body b → CarriesCode z code
code_carried z code t more c b ec room whole above eb x =
    let h = z.homes code in
    subst (λ k. CarriedBy z h (λ tabs. Correspond z (begun h) tabs []) (BodyEnds z) (bodies.code_row (source z) k) (nodes.block_row (target z) (code_block z.script.codes code))) (sym ec)
    (subst (λ d. CarriedBy z h (λ tabs. Correspond z (begun h) tabs []) (BodyEnds z) (bodies.code_row (source z) (Some c)) (nodes.block_row (target z) d)) (sym eb)
    (begun_carried z h c.header.line t more c.owns _ b room whole above x))
