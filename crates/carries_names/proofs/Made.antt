-- Operations of a code whose states correspond in any way, and what is written beside the temporaries that names have so far.
use Rattle.std.proofs.Common.{◌≡◌, ◌≢◌, ℕ, ◌<◌, List, [], Some, refl, sym, ap, ◌∙◌, subst}
use Rattle.nu_value.specs.declared.value.Value.{Value}
use Rattle.op_forms.specs.declared.op.Op.{Op}
use Rattle.nu_rows.specs.Rows.{End, Next, Raised, Stopped, Undefined, Act, Sub}
use Rattle.nu_rows.specs.Words.{on_raised}
use Rattle.nu_rows.specs.Matching.{Corresponding}
use Rattle.nu_rows.proofs.Congruence.{sub_both}
use Rattle.nu_calls.specs.Surroundings.{Surroundings, scene}
use Rattle.nu_calls.specs.Ends.{at_line}
use Rattle.nu_calls.specs.Calls.{Pause, state_of, operates, enlisted, on_line}
use Rattle.code_forms.specs.declared.operand.Argument.{Argument}
use Rattle.node_tree.specs.Nodes as nodes
use Rattle.py_meaning.specs.Frames as python
use Rattle.carries_base.specs.Frames.{Homes, local_at, own_at, free_at, Facts, Fits, FramesAs}
use Rattle.carries_base.specs.Carries.{Setting, source, target, rows, columns, S, T, Tables, AroundAs, Outer, At, CarriedBy}
use Rattle.carries_base.proofs.Facts.{put_other}
use Rattle.carries_base.proofs.Carry.{States, AllEnds, nowhere, none_at, none_by, act_by, then_by}
use Rattle.carries_base.proofs.Operations.{OpEndsBy, scene_as, operates_as}

module _ (z : Setting) (h : Homes) (C : States) (outer : (tabs : Tables) (s : S) (t : T) → C tabs s t → Outer z tabs s t) (caller : (tabs : Tables) (s : S) (t : T) (a : Surroundings (Pause python.Frame)) (b : Surroundings (Pause nodes.Frame)) → C tabs s t → AroundAs z tabs a b → C tabs (state_of s.frame a) (state_of t.frame b)) where
  abbrev pub Results : AllEnds
  Results tabs = OpEndsBy (C tabs)

  pub operation_from : (o : Op) (vs : python.Frame → List Value) (args : List Argument) → ((tabs : Tables) (s : S) (t : T) → C tabs s t → nodes.values t.frame args ≡ Some (vs s.frame)) → CarriedBy z h C Results (Sub (λ s. operates (source z) o (vs s.frame) s)) (Sub (λ t. nodes.operates_on (target z) o t (nodes.values t.frame args)))
  operation_from o vs args known = record {
    places = nowhere;
    sim = λ tabs L agree. sub_both (rows z) (columns z) L (At z h tabs nowhere) (C tabs) (OpEndsBy (C tabs)) _ _ (none_at z h tabs)
        (λ s t x. subst (λ u. Corresponding (rows z) (columns z) L (OpEndsBy (C tabs)) (operates (source z) o (vs s.frame) s) (nodes.operates_on (target z) o t u)) (sym (known tabs s t x)) (operates_as z tabs (C tabs) (outer tabs) (caller tabs) L agree o (vs s.frame) s t x));
  }

  -- an exception gets an entry
  pub line_from : (line : ℕ) (r : python.R) (c : nodes.R) → CarriedBy z h C Results r c → CarriedBy z h C Results (on_line (source z) line r) (on_line (target z) line c)
  line_from line r c x = then_by z h C Results Results r c _ _ x next
    where
      next : (e e' : End) → CarriedBy z h (λ tabs s t. OpEndsBy (C tabs) e s e' t) Results (on_raised (λ e. Act (λ s. record { out = []; state = enlisted (source z) line e s; end = Raised e })) e) (on_raised (λ e. Act (λ s. record { out = []; state = enlisted (target z) line e s; end = Raised e })) e')
      next (Next v) (Next w) = act_by z h _ Results _ _ (λ tabs s t y. (refl, y))
      next (Raised v) (Raised w) = act_by z h _ Results _ _ (λ tabs s t y. let out = outer tabs s t y.1 in (refl, (y.0, scene_as z tabs (C tabs) (outer tabs) (caller tabs) s t _ _ (ap (λ a. at_line z.script.scripts a s.frame.code line v) out.around.scenes ∙ ap (λ n. at_line z.script.scripts (scene t.around) n line v) out.code ∙ ap (λ e. at_line z.script.scripts (scene t.around) t.frame.code line e) y.0) y.1)))
      next (Stopped v) (Stopped w) = act_by z h _ Results _ _ (λ tabs s t y. (refl, y))
      next Undefined Undefined = act_by z h _ Results _ _ (λ tabs s t y. (refl, y))
      next e e' = none_by z h _ Results _ _ (λ tabs s t y. y)

-- no name that has its temporary has this one
pub record IsFree (h : Homes) (d : ℕ) : Type 0 where
  pub locals : (place : ℕ) → place < h.filled → local_at h place ≢ d
  pub owns : (place : ℕ) → place < h.made → own_at h place ≢ d
  pub frees : (place : ℕ) → place < h.frees → free_at h place ≢ d

pub free_written : (h : Homes) (d : ℕ) (v : Value) (fs gs : Facts) (f : python.Frame) (g : nodes.Frame) → IsFree h d → Fits gs f.carried (nodes.write g d v) → FramesAs h fs f g → FramesAs h gs f (nodes.write g d v)
free_written h d v fs gs f g free facts x = record {
  room = x.room;
  code = x.code;
  count = x.count;
  made = x.made;
  rest = x.rest;
  locals = λ place l. put_other g.temps d v (local_at h place) (free.locals place l) ∙ x.locals place l;
  owns = λ place l. put_other g.temps d v (own_at h place) (free.owns place l) ∙ x.owns place l;
  frees = λ place l. put_other g.temps d v (free_at h place) (free.frees place l) ∙ x.frees place l;
  facts = facts;
}
