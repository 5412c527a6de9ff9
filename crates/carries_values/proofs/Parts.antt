-- Parts, and operations, whose value goes to the temporary of the whole.
use Rattle.std.proofs.Common.{◌≡◌, ℕ, ◌≤◌, List, ◌∷◌, Some, refl, ap, arith}
use Rattle.nu_value.specs.declared.value.Value.{Value}
use Rattle.nu_value.specs.declared.value.Value.TheVariants as value
use Rattle.op_forms.specs.declared.op.Op.{Op}
use Rattle.op_forms.specs.Constants.{value_of}
use Rattle.nu_rows.specs.Rows.{Next, Leave, Raised, Return, Stopped, Undefined, Begin, Ended, run, interp, after, does}
use Rattle.nu_rows.specs.Words.{ends_with, on_next}
use Rattle.nu_rows.specs.Matching.{Silent}
use Rattle.nu_calls.specs.Calls.{operate}
use Rattle.code_forms.specs.declared.operand.Argument.{Argument}
use Rattle.code_forms.specs.declared.operand.Operand.{Operand}
use Rattle.code_forms.specs.declared.operand.Operand.TheVariants as operand
use Rattle.node_tree.specs.Blocks.{alone}
use Rattle.node_tree.specs.Blocks as tree
use Rattle.node_tree.specs.Nodes as nodes
use Rattle.py_meaning.specs.Syntax as syntax
use Rattle.py_meaning.specs.Frames as python
use Rattle.py_meaning.specs.Expressions.{expression, gives}
use Rattle.carries_base.specs.Frames.{Homes, behind, Holds, Facts, Fits, IsWithin, Outside}
use Rattle.carries_base.specs.Carries.{Setting, source, target, columns, S, T, Tables, Correspond, EndsAs, CarriedTo, Carrier, Knows}
use Rattle.carries_base.specs.Laws.{Within}
use Rattle.carries_base.proofs.Facts.{Off, outside_less, refit, fresh}
use Rattle.carries_base.proofs.Carry.{AllEnds, Settles, tidy_by, append_by}
use Rattle.carries_base.proofs.Sequence.{Passes, passes, lessen, unvalued, one_by, gives_carried}
use Rattle.carries_base.proofs.Small.{within_off}
use Rattle.carries_base.proofs.Operations.{operate_carried}
use Rattle.carries_names.proofs.Functions.{Extends}
use Rattle.carries_values.specs.Parts.{moved, into, CarriesPart}

pub outside_part : (h : Homes) (low high : ℕ) (x : syntax.Expression) (p : Carrier) (fs : Facts) → (c : CarriesPart h low high x p) → Outside h low high fs → Outside h c.from c.to fs
outside_part h low high x p fs c out = outside_less h low high c.from c.to fs c.within.0 c.within.1 out

pub part_grows : (h : Homes) (low high : ℕ) (x : syntax.Expression) (p : Carrier) → CarriesPart h low high x p → low ≤ high
part_grows h low high x p c = let l₁ = c.within.0 in let l₂ = c.within.1 in let l₃ = c.carries.grows in omega arith

within_more : (low high l r : ℕ) (o : Operand) → Within low high l r → IsWithin l r o → IsWithin low high o
within_more low high l r (operand.Temp t) w x = let l₁ = w.0 in let l₂ = w.1 in let l₃ = x.0 in let l₄ = x.1 in (omega arith, omega arith)
within_more low high l r (operand.Const c) w x = tt

pub within_part : (h : Homes) (low high : ℕ) (x : syntax.Expression) (p : Carrier) → CarriesPart h low high x p → IsWithin low high p.value
within_part h low high x p c = within_more low high c.from c.to p.value c.within c.carries.within

pub off_part : (h : Homes) (low high d : ℕ) (x : syntax.Expression) (p : Carrier) (v : Value) (fs : Facts) → CarriesPart h low high x p → high ≤ d → Off d fs → Off d (Holds p.value v ∷ fs)
off_part h low high d x p v fs c le off = let l = c.within.1 in within_off c.from c.to d p.value v fs c.carries.within (omega arith) off

-- what an operand holds goes to a temporary, silently
moved_silent : (z : Setting) (to : ℕ) (o : Operand) (v : Value) (t : T) → nodes.operand_value t.frame o ≡ Some v → (w : Value) × (w ≡ v) × Silent (does (columns z) (nodes.block_row (target z) (moved to o)) Begin t) (Next value.None) (nodes.writes t to w)
moved_silent z to (operand.Temp from) v t e = (
  v,
  refl,
  record { bound = 0; by = ap (λ o. after (Ended (nodes.copied t to o).out (nodes.copied t to o).state (nodes.copied t to o).end) (λ e u. interp (run (columns z) 0) (on_next (λ w. ends_with (Next value.None)) e) Begin u)) e },
)
moved_silent z to (operand.Const c) v t e = (value_of c, cc, record { bound = 0; by = refl })

module _ (z : Setting) (h : Homes) (to : ℕ) (fs : Facts) where
  -- the ends of an expression whose value goes to this temporary
  abbrev pub Into : AllEnds
  Into = EndsAs z h 0 (λ v. Holds (operand.Temp to) v ∷ fs) fs

  pub into_passes : Passes z h 0 (λ v. fs) fs Into
  into_passes = passes z h 0 (λ v. fs) (λ v. Holds (operand.Temp to) v ∷ fs) fs

  module _ (above : behind h ≤ to) (off : Off to fs) (gs : Facts) (more : Extends gs fs) where
    less : (tabs : Tables) (s : S) (t : T) → Correspond z h tabs gs s t → Correspond z h tabs fs s t
    less tabs s t y = refit z h tabs gs fs s t (more s.frame.carried t.frame) y

    moves : (o : Operand) → Settles z h (EndsAs z h 0 (λ v. Holds o v ∷ gs) gs) Into (on_next (λ w. nodes.block_row (target z) (moved to o)))
    moves o tabs (Next v) s (Next w) t x =
        let m = moved_silent z to o v t x.frames.facts.0 in
        (Next value.None, nodes.writes t to m.0, m.2, fresh z h tabs fs to v m.0 s t m.1 above off (refit z h tabs (Holds o v ∷ gs) fs s t (λ y. more s.frame.carried t.frame y.1) x))
    moves o tabs (Leave i) s (Leave j) t x = (Leave j, t, record { bound = 0; by = refl }, (x.0, x.1, less tabs s t x.2))
    moves o tabs (Raised i) s (Raised j) t x = (Raised j, t, record { bound = 0; by = refl }, (x.0, less tabs s t x.1))
    moves o tabs (Return i) s (Return j) t x = (Return j, t, record { bound = 0; by = refl }, (x.0, less tabs s t x.1))
    moves o tabs (Stopped i) s (Stopped j) t x = (Stopped j, t, record { bound = 0; by = refl }, x)
    moves o tabs Undefined s Undefined t x = (Undefined, t, record { bound = 0; by = refl }, x)
    moves o tabs e s e' t x = absurd x

    -- a row, and what its block's operand holds
    moved_by : (o : Operand) (r : python.R) (b : tree.Block) → CarriedTo z h (EndsAs z h 0 (λ v. Holds o v ∷ gs) gs) gs r (nodes.block_row (target z) b) → CarriedTo z h Into gs r (nodes.block_row (target z) (tree.append b (moved to o)))
    moved_by o r b x = append_by z h _ Into r b (moved to o) (tidy_by z h _ (EndsAs z h 0 (λ v. Holds o v ∷ gs) gs) Into r _ _ (moves o) x)

    -- a value that an operand holds
    pub gives_into : (o : Operand) (v : Value) → Knows gs o v → CarriedTo z h Into gs (gives v) (nodes.block_row (target z) (moved to o))
    gives_into o v known = moved_by o (gives v) tree.Stop (gives_carried z h 0 (λ w. Holds o w ∷ gs) gs v (λ c g y. (known c g y, y)))

    pub part_into : (low high : ℕ) (x : syntax.Expression) (p : Carrier) → (c : CarriesPart h low high x p) → Outside h low high gs → CarriedTo z h Into gs (expression (source z) x) (nodes.block_row (target z) (into to p))
    part_into low high x p c out = moved_by p.value _ p.block (c.carries.carries z gs (outside_part h low high x p gs c out))

  -- an operation is the last
  pub operate_into : behind h ≤ to → (gs : Facts) → Extends gs fs → (line : ℕ) (o : Op) (vs : List Value) (args : List Argument) → Off to gs → ((c : Value) (g : nodes.Frame) → Fits gs c g → nodes.values g args ≡ Some vs) → CarriedTo z h Into gs (operate (source z) line o vs) (nodes.block_row (target z) (alone (tree.Do to line o args)))
  operate_into above gs more line o vs args off known =
      one_by z h 0 _ Into _ _ (unvalued z h 0 (λ v. Holds (operand.Temp to) v ∷ fs) fs)
      (lessen z h 0 (λ v. Holds (operand.Temp to) v ∷ gs) (λ v. Holds (operand.Temp to) v ∷ fs) fs gs _ _ (λ v c g y. (y.0, more c g y.1)) more (operate_carried z h 0 gs line o vs to args above off known))
