-- Calls with stars and keywords, where their parts are carried.
use Rattle.std.proofs.Common.{◌≡◌, inr, ℕ, ◌+◌, ◌<◌, ◌≤◌, Bool, true, false, List, [], ◌∷◌, Option, Some, None, refl, sym, ap, arith}
use Rattle.nu_value.specs.declared.value.Value.{Value}
use Rattle.nu_value.specs.declared.value.Value.TheVariants as value
use Rattle.op_forms.specs.declared.constant.Const.TheVariants as const
use Rattle.op_forms.specs.declared.op.Op.{Op}
use Rattle.op_forms.specs.declared.op.Op.TheVariants as op
use Rattle.nu_rows.specs.Words.{then_value}
use Rattle.nu_calls.specs.Calls.{operate}
use Rattle.code_forms.specs.declared.operand.Argument.{Argument}
use Rattle.code_forms.specs.declared.operand.Argument.TheVariants as argument
use Rattle.code_forms.specs.declared.operand.Operand.{Operand}
use Rattle.code_forms.specs.declared.operand.Operand.TheVariants as operand
use Rattle.node_tree.specs.Blocks.{of_temp}
use Rattle.node_tree.specs.Blocks as tree
use Rattle.node_tree.specs.Nodes as nodes
use Rattle.py_meaning.specs.Syntax as syntax
use Rattle.py_meaning.specs.Frames as python
use Rattle.py_meaning.specs.Expressions.{expression, pass, keywords_begun}
use Rattle.carries_base.specs.Frames.{Homes, behind, Holds, Facts, IsWithin, Outside}
use Rattle.carries_base.specs.Carries.{Setting, source, target, CarriedTo, Carrier, CarriesExpression, Knows}
use Rattle.carries_base.proofs.Facts.{Off, outside_off, outside_less}
use Rattle.carries_base.proofs.Carry.{AllEnds}
use Rattle.carries_base.proofs.Sequence.{Passes}
use Rattle.carries_base.proofs.Small.{within_off}
use Rattle.carries_names.proofs.Functions.{Extends}
use Rattle.carries_control.proofs.Steps.{value_then, do_then}
use Rattle.carries_values.specs.Parts.{CarriesPart, CarriesBeside}
use Rattle.carries_values.specs.Displays.{added_block}
use Rattle.carries_values.specs.Calls.{Passed, Plain, Star, Key, Merge, keywords_block, key_block, pass_block, call_block, CarriesArguments}
use Rattle.carries_values.proofs.Parts.{Into, into_passes, outside_part, part_grows, within_part, off_part, operate_into}
use Rattle.carries_values.proofs.Added.{known_then, used_by, added_by}

abbrev text_of : List ℕ → Argument
text_of name = argument.Value (operand.Const (const.Str name))

abbrev is_begun : Option Value → Bool
is_begun None = false
is_begun (Some d) = true

module _ (z : Setting) (h : Homes) (low high line : ℕ) (fs : Facts) (o : Operand) (function list : Value) (st : behind h ≤ low) (le : low ≤ high) (out : Outside h low (high + 4) fs) (within : IsWithin low high o) where
  abbrev Q : AllEnds
  Q = Into z h (high + 3) fs

  passes : Passes z h 0 (λ v. fs) fs Q
  passes = into_passes z h (high + 3) fs

  -- what is known before there is a dict of keywords, and then
  abbrev early : Facts
  early = Holds (operand.Temp high) list ∷ Holds o function ∷ fs

  abbrev known : Option Value → Facts
  known None = early
  known (Some d) = Holds (operand.Temp (high + 1)) d ∷ early

  more : (dict : Option Value) → Extends (known dict) fs
  more None c g y = y.1.1
  more (Some d) c g y = y.1.1.1

  lists : (dict : Option Value) → Knows (known dict) (operand.Temp high) list
  lists None c g y = y.0
  lists (Some d) c g y = y.1.0

  out_of : (dict : Option Value) (x : syntax.Expression) (p : Carrier) → (c : CarriesBeside h low high o x p) → Outside h c.0.from c.0.to (known dict)
  out_of dict x p c = go dict
    where
      l : c.0.to ≤ high
      l = c.0.within.1

      first : Outside h c.0.from c.0.to early
      first = ((omega arith, inr l), (c.1, outside_part h low high x p fs c.0 (outside_less h low (high + 4) low high fs (omega arith) (omega arith) out)))

      go : (dict : Option Value) → Outside h c.0.from c.0.to (known dict)
      go None = first
      go (Some d) = ((omega arith, inr (omega arith)), first)

  off_before : (d : ℕ) → high < d → d < high + 4 → Off d early
  off_before d l₁ l₂ = (λ q. let e₁ : high ≡ d = q in omega arith, within_off low high d o function fs within (omega arith) (outside_off h low (high + 4) d fs (omega arith) l₂ out))

  off_of : (dict : Option Value) (d : ℕ) → high + 1 < d → d < high + 4 → Off d (known dict)
  off_of None d l₁ l₂ = off_before d (omega arith) l₂
  off_of (Some v) d l₁ l₂ = (λ q. let e₁ : high + 1 ≡ d = q in omega arith, off_before d (omega arith) l₂)

  keywords_by : (dict : Option Value) (K : Value → python.R) (rest : tree.Block) → ((d : Value) → CarriedTo z h Q (known (Some d)) (K d) (nodes.block_row (target z) rest)) → CarriedTo z h Q (known dict) (keywords_begun (source z) line dict K) (nodes.block_row (target z) (keywords_block line (high + 1) (is_begun dict) rest))
  keywords_by (Some d) K rest next = next d
  keywords_by None K rest next =
      do_then z h fs Q passes (known None) line (high + 1) op.Dict [] [] _ _ (more None) (omega arith) (off_before (high + 1) (omega arith) (omega arith)) (λ c g y. refl) next

  added : (dict : Option Value) (t : ℕ) (into : Value) (x : syntax.Expression) (p : Carrier) (a : Op) → Knows (known dict) (operand.Temp t) into → CarriesBeside h low high o x p → (r : python.R) (rest : tree.Block) → CarriedTo z h Q (known dict) r (nodes.block_row (target z) rest) → CarriedTo z h Q (known dict) (then_value (expression (source z) x) (λ v. then_value (operate (source z) line a (into ∷ v ∷ [])) (λ w. r))) (nodes.block_row (target z) (added_block line t (high + 2) a p rest))
  added dict t into x p a knows c r rest next =
      added_by z h fs Q passes low high line (high + 2) (omega arith) (omega arith) (known dict) (more dict) (off_of dict (high + 2) (omega arith) (omega arith))
      t into x p a r rest knows c.0 (out_of dict x p c) next

  keyed : (d : Value) (name key : List ℕ) (x : syntax.Expression) (p : Carrier) (r : python.R) (rest : tree.Block) → name ≡ key → CarriesBeside h low high o x p → CarriedTo z h Q (known (Some d)) r (nodes.block_row (target z) rest) → CarriedTo z h Q (known (Some d)) (then_value (expression (source z) x) (λ v. then_value (operate (source z) line op.KeyPut (d ∷ python.text name ∷ v ∷ [])) (λ w. r))) (nodes.block_row (target z) (key_block line (high + 1) (high + 2) key p rest))
  keyed d name key x p r rest e c next =
      let gs : Facts = known (Some d) in
      used_by z h fs Q passes low high line (high + 2) (omega arith) (omega arith) gs (more (Some d)) (off_of (Some d) (high + 2) (omega arith) (omega arith))
      x p op.KeyPut (λ v. d ∷ python.text name ∷ v ∷ []) (of_temp (high + 1) ∷ text_of key ∷ argument.Value p.value ∷ []) r rest c.0 (out_of (Some d) x p c)
      (λ v. let hs : Facts = Holds p.value v ∷ gs in
      known_then hs (of_temp (high + 1)) d (text_of key ∷ argument.Value p.value ∷ []) (python.text name ∷ v ∷ []) (λ c g y. y.1.0)
      (known_then hs (text_of key) (python.text name) (argument.Value p.value ∷ []) (v ∷ []) (λ c g y. ap (λ n. Some (value.Str n)) (sym e)) (λ c g y. ap (λ q. nodes.both q (Some [])) y.0)))
      next

  pass_by : (dict : Option Value) (xs : syntax.Arguments) (ps : List Passed) → CarriesArguments h low high o xs ps → CarriedTo z h Q (known dict) (pass (source z) line function list dict xs) (nodes.block_row (target z) (pass_block line high o (is_begun dict) ps))
  pass_by dict syntax.NoArgument [] c =
      keywords_by dict _ _
      (λ d. let gs : Facts = known (Some d) in
      operate_into z h (high + 3) fs (omega arith) gs (more (Some d)) line op.CallX (function ∷ list ∷ d ∷ []) (argument.Value o ∷ of_temp high ∷ of_temp (high + 1) ∷ [])
      (off_of (Some d) (high + 3) (omega arith) (omega arith))
      (known_then gs (argument.Value o) function (of_temp high ∷ of_temp (high + 1) ∷ []) (list ∷ d ∷ []) (λ c g y. y.1.1.0)
      (known_then gs (of_temp high) list (of_temp (high + 1) ∷ []) (d ∷ []) (λ c g y. y.1.0) (λ c g y. ap (λ q. nodes.both q (Some [])) y.0))))
  pass_by dict (syntax.Plain x xs) (Plain p ∷ ps) c = added dict high list x p op.Push (lists dict) c.0 _ _ (pass_by dict xs ps c.1)
  pass_by dict (syntax.Star x xs) (Star p ∷ ps) c = added dict high list x p op.Extend (lists dict) c.0 _ _ (pass_by dict xs ps c.1)
  pass_by dict (syntax.Keyword name x xs) (Key key p ∷ ps) c = keywords_by dict _ _ (λ d. keyed d name key x p _ _ c.0 c.1 (pass_by (Some d) xs ps c.2))
  pass_by dict (syntax.DoubleStar x xs) (Merge p ∷ ps) c = keywords_by dict _ _ (λ d. added (Some d) (high + 1) d x p op.KeyMerge (λ c g y. y.0) c.0 _ _ (pass_by (Some d) xs ps c.1))
  pass_by dict xs ps c = absurd c

pub call_carried : (h : Homes) (low high line : ℕ) (f : syntax.Expression) (arguments : syntax.Arguments) (p : Carrier) (ps : List Passed) → behind h ≤ low → CarriesPart h low high f p → CarriesArguments h low high p.value arguments ps → CarriesExpression h low (high + 4) (syntax.Call line f arguments) (call_block line high p ps) (operand.Temp (high + 3))
call_carried h low high line f arguments p ps st cf ca =
    let le = part_grows h low high f p cf in
    record {
      starts = st;
      grows = omega arith;
      within = (omega arith, omega arith);
      carries = λ z fs out.
          let Q : AllEnds = Into z h (high + 3) fs in
          value_then z h fs Q (into_passes z h (high + 3) fs) fs cf.from cf.to f p.block p.value _ _ (λ c g y. y) cf.carries
          (outside_part h low high f p fs cf (outside_less h low (high + 4) low high fs (omega arith) (omega arith) out))
          (λ function. do_then z h fs Q (into_passes z h (high + 3) fs) (Holds p.value function ∷ fs) line high op.List [] [] _ _ (λ c g y. y.1) (omega arith)
          (off_part h low high high f p function fs cf (omega arith) (outside_off h low (high + 4) high fs le (omega arith) out)) (λ c g y. refl)
          (λ list. pass_by z h low high line fs p.value function list st le out (within_part h low high f p cf) None arguments ps ca));
    }
