-- Functions, from their defaults.
use Rattle.std.proofs.Common.{◌≡◌, inl, ℕ, ◌+◌, ◌≤◌, map, pos, List, [], ◌∷◌, Some, refl, sym, ap, ◌∙◌, arith}
use Rattle.nu_value.specs.declared.value.Value.{Value}
use Rattle.nu_value.specs.declared.value.Value.TheVariants as value
use Rattle.op_forms.specs.declared.constant.Const.TheVariants as const
use Rattle.op_forms.specs.declared.op.Op.TheVariants as op
use Rattle.code_forms.specs.declared.operand.Argument.TheVariants as argument
use Rattle.code_forms.specs.declared.operand.Operand.TheVariants as operand
use Rattle.node_tree.specs.Blocks.{alone, of_temp}
use Rattle.node_tree.specs.Blocks as tree
use Rattle.node_tree.specs.Nodes as nodes
use Rattle.py_meaning.specs.Syntax as syntax
use Rattle.py_meaning.specs.Frames as python
use Rattle.py_meaning.specs.Expressions.{each, named, put_all}
use Rattle.carries_base.specs.Frames.{Homes, HaveRoom, behind, Holds, Facts, Fits, FramesAs, Outside}
use Rattle.carries_base.specs.Carries.{Setting, source, target, Carried, Knows, Carrier, CarriesAll, CarriesExpression, joined}
use Rattle.carries_base.proofs.Facts.{outside_off, outside_less, within_below, forget}
use Rattle.carries_base.proofs.Sequence.{weaken, more_leaves, seq_carried, then_carried, one_carried}
use Rattle.carries_base.proofs.Operations.{operate_carried, do_carried}
use Rattle.carries_names.specs.Functions.{HasCell, HasCells, cell_at, CarriesNamed, put_block, put_end, function_form, function_block}
use Rattle.carries_names.proofs.Seats.{own_seat, free_seat}

-- all that is known of some is known of others
abbrev pub Extends : Facts → Facts → Type 0
Extends gs fs = (c : Value) (g : nodes.Frame) → Fits gs c g → Fits fs c g

-- each block's operand holds its value
abbrev pub KnowsAll : Facts → List Carrier → List Value → Type 0
KnowsAll fs [] [] = Unit {0}
KnowsAll fs (p ∷ ps) (v ∷ vs) = Knows fs p.value v × KnowsAll fs ps vs
KnowsAll fs ps vs = ⊥

pub known_values : (fs : Facts) (ps : List Carrier) (vs : List Value) (c : Value) (g : nodes.Frame) → KnowsAll fs ps vs → Fits fs c g → nodes.values g (map (λ p. argument.Value p.value) ps) ≡ Some vs
known_values fs [] [] c g know x = refl
known_values fs [] (v ∷ vs) c g know x = absurd know
known_values fs (p ∷ ps) [] c g know x = absurd know
known_values fs (p ∷ ps) (v ∷ vs) c g know x =
    ap (λ u. nodes.both u (nodes.values g (map (λ p. argument.Value p.value) ps))) (know.0 c g x)
    ∙ ap (λ u. nodes.both (Some v) u) (known_values fs ps vs c g know.1 x)

pub all_grow : (h : Homes) (low high : ℕ) (xs : syntax.Expressions) (ps : List Carrier) → CarriesAll h low high xs ps → (behind h ≤ low) × (low ≤ high)
all_grow h low high syntax.NoMore [] c = c
all_grow h low high syntax.NoMore (p ∷ ps) c = absurd c
all_grow h low high (syntax.More x xs) [] c = absurd c
all_grow h low high (syntax.More x xs) (p ∷ ps) c =
    let a : low ≤ c.0 = c.1.grows in
    let b : c.0 ≤ high = (all_grow h c.0 high xs ps c.2).1 in
    (c.1.starts, omega arith)

pub named_grow : (h : Homes) (low high : ℕ) (xs : syntax.Keywords) (ps : List Carrier) → CarriesNamed h low high xs ps → (behind h ≤ low) × (low ≤ high)
named_grow h low high syntax.NoKeyword [] c = c
named_grow h low high syntax.NoKeyword (p ∷ ps) c = absurd c
named_grow h low high (syntax.Default name x xs) [] c = absurd c
named_grow h low high (syntax.Default name x xs) (p ∷ ps) c =
    let a : low ≤ c.0 = c.1.grows in
    let b : c.0 ≤ high = (named_grow h c.0 high xs ps c.2).1 in
    (c.1.starts, omega arith)

-- the values of defaults, under their names
abbrev pub KnowsNamed : Facts → syntax.Keywords → List Carrier → List (List ℕ × Value) → Type 0
KnowsNamed fs syntax.NoKeyword [] [] = Unit {0}
KnowsNamed fs (syntax.Default name x xs) (p ∷ ps) (q ∷ qs) = (q.0 ≡ name) × Knows fs p.value q.1 × KnowsNamed fs xs ps qs
KnowsNamed fs xs ps qs = ⊥

pub named_more : (fs gs : Facts) (xs : syntax.Keywords) (ps : List Carrier) (qs : List (List ℕ × Value)) → Extends gs fs → KnowsNamed fs xs ps qs → KnowsNamed gs xs ps qs
named_more fs gs syntax.NoKeyword [] [] more know = tt
named_more fs gs (syntax.Default name x xs) (p ∷ ps) (q ∷ qs) more know = (know.0, λ c g y. know.1 c g (more c g y), named_more fs gs xs ps qs more know.2)
named_more fs gs xs ps qs more know = absurd know

put_end_grows : (to : ℕ) (xs : syntax.Keywords) → to ≤ put_end to xs
put_end_grows to syntax.NoKeyword = omega arith
put_end_grows to (syntax.Default name x xs) = let l : to + 1 ≤ put_end (to + 1) xs = put_end_grows (to + 1) xs in omega arith

module _ (z : Setting) (h : Homes) (n : ℕ) (k : Value → Facts) where
  -- expressions one after another, and what follows where their values are known, and no more is said of what lies behind them
  pub each_to : (low high top : ℕ) (xs : syntax.Expressions) (ps : List Carrier) (fs : Facts) (K : List Value → python.R) (last : tree.Block) → CarriesAll h low high xs ps → high ≤ top → Outside h low top fs → ((vs : List Value) (gs : Facts) → Extends gs fs → KnowsAll gs ps vs → Outside h high top gs → Carried z h n k gs (K vs) (nodes.block_row (target z) last)) → Carried z h n k fs (each (source z) xs K) (nodes.block_row (target z) (joined ps last))
  each_to low high top syntax.NoMore [] fs K last c le out next = next [] fs (λ c g y. y) tt (outside_less h low top high top fs c.1 (omega arith) out)
  each_to low high top syntax.NoMore (p ∷ ps) fs K last c le out next = absurd c
  each_to low high top (syntax.More x xs) [] fs K last c le out next = absurd c
  each_to low high top (syntax.More x xs) (p ∷ ps) fs K last c le out next =
      let mid = c.0 in
      let a : low ≤ mid = c.1.grows in
      let b : mid ≤ high = (all_grow h mid high xs ps c.2).1 in
      seq_carried z h n (λ v. Holds p.value v ∷ fs) k fs _ _ p.block (joined ps last) (λ v. forget (Holds p.value v) fs)
      (more_leaves z h 0 n (λ v. Holds p.value v ∷ fs) fs _ _ (omega arith) (c.1.carries z fs (outside_less h low top low mid fs (omega arith) (omega arith) out)))
      (λ v. each_to mid high top xs ps (Holds p.value v ∷ fs) (λ vs. K (v ∷ vs)) last c.2 le
      (within_below h low mid top p.value c.1.starts c.1.within, outside_less h low top mid top fs a (omega arith) out)
      (λ vs gs more know out₁. next (v ∷ vs) gs (λ c g y. (more c g y).1) (λ c g y. (more c g y).0, know) out₁))

  pub named_to : (low high top : ℕ) (xs : syntax.Keywords) (ps : List Carrier) (fs : Facts) (K : List (List ℕ × Value) → python.R) (last : tree.Block) → CarriesNamed h low high xs ps → high ≤ top → Outside h low top fs → ((qs : List (List ℕ × Value)) (gs : Facts) → Extends gs fs → KnowsNamed gs xs ps qs → Outside h high top gs → Carried z h n k gs (K qs) (nodes.block_row (target z) last)) → Carried z h n k fs (named (source z) xs K) (nodes.block_row (target z) (joined ps last))
  named_to low high top syntax.NoKeyword [] fs K last c le out next = next [] fs (λ c g y. y) tt (outside_less h low top high top fs c.1 (omega arith) out)
  named_to low high top syntax.NoKeyword (p ∷ ps) fs K last c le out next = absurd c
  named_to low high top (syntax.Default name x xs) [] fs K last c le out next = absurd c
  named_to low high top (syntax.Default name x xs) (p ∷ ps) fs K last c le out next =
      let mid = c.0 in
      let a : low ≤ mid = c.1.grows in
      let b : mid ≤ high = (named_grow h mid high xs ps c.2).1 in
      seq_carried z h n (λ v. Holds p.value v ∷ fs) k fs _ _ p.block (joined ps last) (λ v. forget (Holds p.value v) fs)
      (more_leaves z h 0 n (λ v. Holds p.value v ∷ fs) fs _ _ (omega arith) (c.1.carries z fs (outside_less h low top low mid fs (omega arith) (omega arith) out)))
      (λ v. named_to mid high top xs ps (Holds p.value v ∷ fs) (λ qs. K ((name, v) ∷ qs)) last c.2 le
      (within_below h low mid top p.value c.1.starts c.1.within, outside_less h low top mid top fs a (omega arith) out)
      (λ qs gs more know out₁. next ((name, v) ∷ qs) gs (λ c g y. (more c g y).1) (refl, λ c g y. (more c g y).0, know) out₁))

  -- values go into a dict under their names
  pub put_to : (line dict to top : ℕ) (d : Value) (xs : syntax.Keywords) (ps : List Carrier) (qs : List (List ℕ × Value)) (fs : Facts) (r : python.R) (last : ℕ → tree.Block) → behind h ≤ to → put_end to xs ≤ top → KnowsNamed fs xs ps qs → Knows fs (operand.Temp dict) d → Outside h to top fs → Carried z h n k fs r (nodes.block_row (target z) (last (put_end to xs))) → Carried z h n k fs (put_all (source z) line d qs r) (nodes.block_row (target z) (put_block line dict to xs ps last))
  put_to line dict to top d syntax.NoKeyword [] [] fs r last st le know made out x = x
  put_to line dict to top d (syntax.Default name y xs) (p ∷ ps) (q ∷ qs) fs r last st le know made out x =
      let l : to + 1 ≤ put_end (to + 1) xs = put_end_grows (to + 1) xs in
      then_carried z h n (λ v. fs) k fs _ _ _ _ (λ v c g w. w)
      (weaken z h n (λ v. Holds (operand.Temp to) v ∷ fs) (λ v. fs) fs _ _ (λ v. forget (Holds (operand.Temp to) v) fs)
      (operate_carried z h n fs line op.Put (d ∷ python.text q.0 ∷ q.1 ∷ []) to (of_temp dict ∷ argument.Value (operand.Const (const.Str name)) ∷ argument.Value p.value ∷ []) st (outside_off h to top to fs (omega arith) (omega arith) out)
      (λ c g w.
      ap (λ u. nodes.both u (nodes.both (Some (python.text name)) (nodes.both (nodes.operand_value g p.value) (Some [])))) (made c g w)
      ∙ ap (λ u. nodes.both (Some d) (nodes.both (Some (python.text name)) (nodes.both u (Some [])))) (know.1 c g w)
      ∙ ap (λ u. Some (d ∷ python.text u ∷ q.1 ∷ [])) (sym know.0))))
      (λ v. put_to line dict (to + 1) top d xs ps qs fs r last (omega arith) le know.2 made (outside_less h to top (to + 1) top fs (omega arith) (omega arith) out) x)
  put_to line dict to top d xs ps qs fs r last st le know made out x = absurd know

-- the cells that a function gets
cell_held : (h : Homes) (room : HaveRoom h) (fs : Facts) (s : python.Frame) (t : nodes.Frame) (c : syntax.CellPlace) → HasCell h c → FramesAs h fs s t → t.temps (cell_at h c) ≡ Some (python.cell_of s c)
cell_held h room fs s t (syntax.OwnCell place) has x = (own_seat h place room has).holds fs s t x
cell_held h room fs s t (syntax.FreeCell place) has x = (free_seat h place room has).holds fs s t x

cells_held : (h : Homes) (room : HaveRoom h) (fs : Facts) (s : python.Frame) (t : nodes.Frame) (cs : List syntax.CellPlace) → HasCells h cs → FramesAs h fs s t → nodes.values t (map (λ c. of_temp (cell_at h c)) cs) ≡ Some (map (python.cell_of s) cs)
cells_held h room fs s t [] has x = refl
cells_held h room fs s t (c ∷ cs) has x =
    ap (λ u. nodes.both u (nodes.values t (map (λ c. of_temp (cell_at h c)) cs))) (cell_held h room fs s t c has.0 x)
    ∙ ap (λ u. nodes.both (Some (python.cell_of s c)) u) (cells_held h room fs s t cs has.1 x)

pub function_carried : (h : Homes) (low mid high line code : ℕ) (defaults : syntax.Expressions) (keywords : syntax.Keywords) (cells : List syntax.CellPlace) (ps ks : List Carrier) → HaveRoom h → HasCells h cells → CarriesAll h low mid defaults ps → CarriesNamed h mid high keywords ks → CarriesExpression h low (put_end (high + 2) keywords + 1) (syntax.Function line code defaults keywords cells) (function_block h high line code ps keywords ks cells) (operand.Temp (put_end (high + 2) keywords))
function_carried h low mid high line code defaults keywords cells ps ks room has ca cn =
    let to : ℕ = put_end (high + 2) keywords in
    let top : ℕ = to + 1 in
    let st : behind h ≤ low = (all_grow h low mid defaults ps ca).0 in
    let l₁ : low ≤ mid = (all_grow h low mid defaults ps ca).1 in
    let l₂ : mid ≤ high = (named_grow h mid high keywords ks cn).1 in
    let l₃ : high + 2 ≤ put_end (high + 2) keywords = put_end_grows (high + 2) keywords in
    let above : behind h ≤ high = omega arith in
    record {
      starts = st;
      grows = omega arith;
      within = (omega arith, omega arith);
      carries = λ z fs out.
          let k : Value → Facts = λ v. Holds (operand.Temp to) v ∷ fs in
          let last : ℕ → tree.Block = λ t. alone (function_form h t line code high (high + 1) cells) in
          let puts : nodes.R = nodes.block_row (target z) (put_block line (high + 1) (high + 2) keywords ks last) in
          each_to z h 0 k low mid top defaults ps fs _ _ ca (omega arith) out
          (λ vs gs more know out₁. named_to z h 0 k mid high top keywords ks gs _ _ cn (omega arith) out₁
          (λ qs gs₂ more₂ know₂ out₂.
          let gs₃ : Value → Facts = λ v. Holds (operand.Temp high) v ∷ gs₂ in
          then_carried z h 0 gs₃ k gs₂ _ _ _ (nodes.followed (nodes.do_row (target z) (high + 1) line op.Dict []) puts) (λ v. forget (Holds (operand.Temp high) v) gs₂)
          (operate_carried z h 0 gs₂ line op.Tuple vs high (map (λ p. argument.Value p.value) ps) above (outside_off h high top high gs₂ (omega arith) (omega arith) out₂) (λ c g y. known_values gs ps vs c g know (more₂ c g y)))
          (λ tuple.
          let gs₄ : Value → Facts = λ v. Holds (operand.Temp (high + 1)) v ∷ gs₃ tuple in
          let out₃ : Outside h (high + 1) top (gs₃ tuple) = ((above, inl (omega arith)), outside_less h high top (high + 1) top gs₂ (omega arith) (omega arith) out₂) in
          then_carried z h 0 gs₄ k (gs₃ tuple) _ _ _ puts (λ v. forget (Holds (operand.Temp (high + 1)) v) (gs₃ tuple))
          (operate_carried z h 0 (gs₃ tuple) line op.Dict [] (high + 1) [] (omega arith) (outside_off h (high + 1) top (high + 1) (gs₃ tuple) (omega arith) (omega arith) out₃) (λ c g y. refl))
          (λ dict.
          let out₄ : Outside h (high + 2) top (gs₄ dict) = ((omega arith, inl (omega arith)), outside_less h (high + 1) top (high + 2) top (gs₃ tuple) (omega arith) (omega arith) out₃) in
          put_to z h 0 k line (high + 1) (high + 2) top dict keywords ks qs (gs₄ dict) _ last (omega arith) (omega arith) (named_more gs₂ (gs₄ dict) keywords ks qs (λ c g y. y.1.1) know₂) (λ c g y. y.0) out₄
          (one_carried z h 0 k (gs₄ dict) _ _
          (weaken z h 0 (λ v. Holds (operand.Temp to) v ∷ gs₄ dict) k (gs₄ dict) _ _ (λ v c g y. (y.0, more c g (more₂ c g y.1.1.1)))
          (do_carried z h 0 (gs₄ dict) line op.Func (λ f. value.Int (pos code) ∷ tuple ∷ dict ∷ map (python.cell_of f) cells) to (argument.Value (operand.Const (const.Int (pos code))) ∷ of_temp high ∷ of_temp (high + 1) ∷ map (λ c. of_temp (cell_at h c)) cells) (omega arith) (outside_off h (high + 2) top to (gs₄ dict) (omega arith) (omega arith) out₄)
          (λ tabs s t y.
          ap (λ u. nodes.both (Some (value.Int (pos code))) (nodes.both u (nodes.both (t.frame.temps (high + 1)) (nodes.values t.frame (map (λ c. of_temp (cell_at h c)) cells))))) y.frames.facts.1.0
          ∙ ap (λ u. nodes.both (Some (value.Int (pos code))) (nodes.both (Some tuple) (nodes.both u (nodes.values t.frame (map (λ c. of_temp (cell_at h c)) cells))))) y.frames.facts.0
          ∙ ap (λ u. nodes.both (Some (value.Int (pos code))) (nodes.both (Some tuple) (nodes.both (Some dict) u))) (cells_held h room (gs₄ dict) s.frame t.frame cells has y.frames)))))))));
    }
