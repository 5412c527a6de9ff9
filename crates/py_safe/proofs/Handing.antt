-- Operations go right that make or are handed a marked object: the dict that collects keywords, and the function of a class's block.
use Rattle.std.proofs.Common.{◌≡◌, ℕ, ◌<◌, ◌≤◌, List, [], ◌∷◌, ◌++◌, Option, Some, true, refl, sym, subst, ◌∙◌, arith, length, length-append, map, inl, inr}
use Rattle.std.specs.Prelude.{pos, nat_lt, slice_get}
use Rattle.std.specs.List.{list_all}
use Rattle.std.proofs.lemmas.Bool.Decides.{nat_tests}
use Rattle.std.proofs.lemmas.List.{length-map}
use Rattle.std.proofs.lemmas.Option.{slice_get_within}
use Rattle.nu_value.specs.declared.object.Object.{Object}
use Rattle.nu_value.specs.declared.object.Object.TheVariants as object
use Rattle.nu_value.specs.declared.value.Value.{Value}
use Rattle.nu_value.specs.declared.value.Value.TheVariants as value
use Rattle.nu_value.specs.Same.{object_of}
use Rattle.op_forms.specs.declared.end.OpEnd.{OpEnd}
use Rattle.op_forms.specs.declared.end.OpEnd.TheVariants as opend
use Rattle.op_forms.specs.declared.op.Op.TheVariants as op
use Rattle.op_forms.specs.declared.signature.ArgumentKind.TheVariants as kind
use Rattle.op_forms.specs.declared.world.World.{World}
use Rattle.op_forms.specs.Fits.{is_of, is_tuple, is_dict, are_keywords, fits as args_fit}
use Rattle.op_forms.specs.Answers.{Answer}
use Rattle.op_forms.specs.Sound.{ASpace as SpaceSort, IsA, AreCells, ObjectIn}
use Rattle.nu_rows.specs.Rows.{Next, entered, run}
use Rattle.nu_calls.specs.Surroundings.{Scene, scene, with_heap}
use Rattle.nu_calls.specs.Ends.{begun, begun_by}
use Rattle.nu_calls.specs.Calls.{began, operates, operate}
use Rattle.py_meaning.specs.Syntax as syntax
use Rattle.py_meaning.specs.Frames.{Frame, cell_of}
use Rattle.py_meaning.specs.Expressions.{function}
use Rattle.py_safe.specs.Rosters.{Role, Roster}
use Rattle.py_safe.specs.Heaps.{Mark, Open, Keywords, Block, View, view, AList, ATuple, ASpace, nature_of, Grows, AllOpen, ObjectOpen, MarkedAs, BodyLaw, IsThere, IsLoose}
use Rattle.py_safe.specs.Rules.{IsOf, EndLaw, Makes, Stops, WorldLaw}
use Rattle.py_safe.specs.Constructs.{Room, HaveCells, IsMade}
use Rattle.py_safe.proofs.Right.{S, Program, roster, source, rows, seen, FrameLaw, Tables, nowhere, Lawful, Kind, Met, Agree, RightBy}
use Rattle.py_safe.proofs.Growth.{marked, marked_same, grows_refl, there_more, of_more, of_sort}
use Rattle.py_safe.proofs.Worlds.{grows_marked, world_marked, IsIdle, keeps_end}
use Rattle.py_safe.proofs.Frames.{has_blocks}
use Rattle.py_safe.proofs.Scenes.{reached_goes}
use Rattle.py_safe.proofs.Begun.{EndGives}
use Rattle.py_safe.proofs.Operations.{OpGives, sub_right, reached_by, fitting_met, operated_met, on_line_right, handed_right}
use Rattle.py_safe.proofs.Names.{both, value_fits, list_fits, is_cell_fits, cell_at}

-- it names an object with this mark
abbrev pub IsMarked : Mark → Kind
IsMarked m v (value.Obj n) = (n < length v.heap) × (v.marks n ≡ m)
IsMarked m v other = ⊥

pub marked_more : (m : Mark) (v more : View) → Grows v more → (x : Value) → IsMarked m v x → IsMarked m more x
marked_more m v more g (value.Obj n) p = (omega (arith, p.0, g.longer), g.marks n p.0 ∙ p.1)
marked_more m v more g value.Unset p = absurd p
marked_more m v more g value.None p = absurd p
marked_more m v more g (value.Bool b) p = absurd p
marked_more m v more g (value.Int i) p = absurd p
marked_more m v more g (value.Str text) p = absurd p

pub marked_there : (v : View) (x : Value) → IsMarked Open v x → IsThere v x
marked_there v (value.Obj n) p = p
marked_there v value.Unset p = absurd p
marked_there v value.None p = absurd p
marked_there v (value.Bool b) p = absurd p
marked_there v (value.Int i) p = absurd p
marked_there v (value.Str text) p = absurd p

marked_loose : (v : View) (x : Value) → IsMarked Keywords v x → IsLoose v.marks x
marked_loose v (value.Obj n) p = inr p.1
marked_loose v value.Unset p = absurd p
marked_loose v value.None p = absurd p
marked_loose v (value.Bool b) p = absurd p
marked_loose v (value.Int i) p = absurd p
marked_loose v (value.Str text) p = absurd p

-- ---- arguments

keywords_by : (c : Roster) (w : World) (marks : ℕ → Mark) (d : Value) → WorldLaw c w marks → IsMarked Keywords (view w.heap marks) d → are_keywords (object_of w.heap d) ≡ true
keywords_by c w marks (value.Obj n) l p = l.law.keywords n p.1
keywords_by c w marks value.Unset l p = absurd p
keywords_by c w marks value.None l p = absurd p
keywords_by c w marks (value.Bool b) l p = absurd p
keywords_by c w marks (value.Int i) l p = absurd p
keywords_by c w marks (value.Str text) l p = absurd p

keywords_dict : (o : Option Object) → are_keywords o ≡ true → is_dict o ≡ true
keywords_dict (Some (object.Dict pairs)) e = refl
keywords_dict other e = absurd (cc)

keywords_fit : (c : Roster) (v : View) (d : Value) (w : World) (marks : ℕ → Mark) → WorldLaw c w marks → Grows v (view w.heap marks) → IsMarked Keywords v d → is_of kind.Keywords w d ≡ true
keywords_fit c v d w marks l g p = keywords_by c w marks d l (marked_more Keywords v (view w.heap marks) g d p)

dict_fit : (c : Roster) (v : View) (d : Value) (w : World) (marks : ℕ → Mark) → WorldLaw c w marks → Grows v (view w.heap marks) → IsMarked Keywords v d → is_of kind.Dict w d ≡ true
dict_fit c v d w marks l g p = keywords_dict (object_of w.heap d) (keywords_fit c v d w marks l g p)

tuple_is : (o : Option Object) → nature_of o ≡ ATuple → is_tuple o ≡ true
tuple_is (Some (object.Tuple items)) e = refl
tuple_is other e = absurd (cc)

is_tuple_fits : (h : List Object) (x : Value) → IsOf h ATuple x → is_tuple (object_of h x) ≡ true
is_tuple_fits h (value.Obj n) p = tuple_is (slice_get h n) p
is_tuple_fits h value.Unset p = absurd p
is_tuple_fits h value.None p = absurd p
is_tuple_fits h (value.Bool b) p = absurd p
is_tuple_fits h (value.Int i) p = absurd p
is_tuple_fits h (value.Str text) p = absurd p

cells_fit : (w : World) (xs : List Value) → AreCells w.heap xs → list_all (is_of kind.Cell w) xs ≡ true
cells_fit w [] p = refl
cells_fit w (x ∷ xs) p = both (is_of kind.Cell w x) (list_all (is_of kind.Cell w) xs) (is_cell_fits w.heap x p.0) (cells_fit w xs p.1)

-- the cells that a frame hands on
pub cells_had : (r : Room) (v : View) (f : Frame) → FrameLaw r v f → (cells : List syntax.CellPlace) → HaveCells r cells → AreCells v.heap (map (cell_of f) cells) × AllOpen v.marks (map (cell_of f) cells)
cells_had r v f l [] p = (tt, tt)
cells_had r v f l (syntax.OwnCell place ∷ cells) p =
    let owns = l.owns in
    let less : place < length f.owns = omega (arith, l.made, p.0) in
    let a = cell_at v f.owns place owns.0 owns.1 less in
    let b = cells_had r v f l cells p.1 in
    ((a.0, b.0), (a.1, b.1))
cells_had r v f l (syntax.FreeCell place ∷ cells) p =
    let frees = l.frees in
    let less : place < length f.frees = omega (arith, l.given, p.0) in
    let a = cell_at v f.frees place frees.0 frees.1 less in
    let b = cells_had r v f l cells p.1 in
    ((a.0, b.0), (a.1, b.1))

module _ (z : Program) where
  -- ---- a new object with a mark

  module _ (tabs : Tables) (M : ℕ) (agree : Agree z tabs M) (b : ℕ) (le : b ≤ M) (r : Room) (marks : ℕ → Mark) (s : S) (law : Lawful z tabs r marks s) where
    abbrev Meets : Kind → Answer → Type 0
    Meets K x = Met z tabs r 0 K nowhere (seen marks s) (entered (run (rows z) b) (began (source z) s (begun_by z.scripts (scene s.around) x)))

    made_met : (o : Object) (m : Mark) (x : Answer) → Makes s.around.world.heap o x → ObjectIn (length s.around.world.codes) s.around.world.heap (length s.around.world.heap) o → ObjectOpen marks o → BodyLaw (roster z) m o → (m ≡ Keywords → are_keywords (Some o) ≡ true) → IsIdle o → Meets (IsMarked m) x
    made_met o m x made inside opens body keys idle =
        let w : World = s.around.world in
        let h : List Object = w.heap ++ o ∷ [] in
        let more : ℕ → Mark = marked marks (length w.heap) m in
        let a : Scene = with_heap (scene s.around) h in
        let reached = reached_by z tabs M agree b le r s marks more a law (world_marked (roster z) w marks law.world o m inside opens body keys) (grows_marked w.heap marks o m) (keeps_end w.heap o idle) in
        subst (λ e. Met z tabs r 0 (IsMarked m) nowhere (seen marks s) (entered (run (rows z) b) (began (source z) s (begun z.scripts (with_heap (scene s.around) x.heap) e)))) (sym made.end)
        (subst (λ g. Met z tabs r 0 (IsMarked m) nowhere (seen marks s) (entered (run (rows z) b) (began (source z) s (begun z.scripts (with_heap (scene s.around) g) (opend.Give (value.Obj (length w.heap))))))) (sym made.heap)
        (reached_goes z tabs r (seen marks s) s more a (IsMarked m) (Next (value.Obj (length w.heap))) reached (omega (arith, length-append w.heap (o ∷ [])), marked_same marks (length w.heap) m)))

    stopped_met : (K : Kind) (x : Answer) → Stops s.around.world.heap x → Meets K x
    stopped_met K x (kind, end, heap) =
        subst (λ e. Met z tabs r 0 K nowhere (seen marks s) (entered (run (rows z) b) (began (source z) s (begun z.scripts (with_heap (scene s.around) x.heap) e)))) (sym end)
        (subst (λ g. Met z tabs r 0 K nowhere (seen marks s) (entered (run (rows z) b) (began (source z) s (begun z.scripts (with_heap (scene s.around) g) (opend.Stop kind))))) (sym heap)
        (record {
          marks = marks;
          lawful = record { world = law.world; since = law.since; frame = law.frame; kept = law.kept };
          grows = grows_refl (seen marks s);
          end = tt;
        }))

    dict_met : Met z tabs r 0 (IsMarked Keywords) nowhere (seen marks s) (entered (run (rows z) b) (operates (source z) op.Dict [] s))
    dict_met =
        fitting_met z tabs M agree b le r (IsMarked Keywords) op.Dict [] marks s law refl
        (elim (z.law.dict s.around.world) [
          | inl made ↦ made_met (object.Dict []) Keywords (z.rules.apply op.Dict s.around.world []) made (tt, (tt, tt)) tt tt (λ e. refl) tt
          | inr stops ↦ stopped_met (IsMarked Keywords) (z.rules.apply op.Dict s.around.world []) stops
        ])

    -- a mark of a function is none of keywords
    no_keywords : (m : Mark) (role : Role) → MarkedAs m role → m ≡ Keywords → ⊥
    no_keywords Open role p e = absurd (cc)
    no_keywords Block role p e = absurd (cc)
    no_keywords Keywords role p e = p

    function_met : (v : View) → Grows v (seen marks s) → (code : ℕ) (role : Role) (m : Mark) (tuple dict : Value) (cells : List syntax.CellPlace) → MarkedAs m role → IsMade (roster z) r code role cells → IsThere v tuple → IsOf v.heap ATuple tuple → IsMarked Keywords v dict → Met z tabs r 0 (IsMarked m) nowhere (seen marks s) (entered (run (rows z) b) (operates (source z) op.Func (value.Int (pos code) ∷ tuple ∷ dict ∷ map (cell_of s.frame) cells) s))
    function_met v w code role m tuple dict cells marks_as made there of keys =
        let world : World = s.around.world in
        let had = cells_had r (seen marks s) s.frame law.frame cells made.have in
        let given : List Value = map (cell_of s.frame) cells in
        let args : List Value = value.Int (pos code) ∷ tuple ∷ dict ∷ given in
        let less : code < length (roster z).headers = slice_get_within (roster z).headers code made.made.header made.made.at in
        let coded : code < length world.codes = subst (λ cs. code < length cs) (sym law.world.codes) less in
        let is_code : nat_lt code (length world.codes) ≡ true = grind (arith, nat_tests) in
        let fit : args_fit op.Func world args ≡ true = both _ _ is_code (both _ _ (is_tuple_fits world.heap tuple (of_more v (seen marks s) w ATuple tuple tt of)) (both _ _ (keywords_fit (roster z) v dict world marks law.world w keys) (cells_fit world given had.0))) in
        let opened = there_more v (seen marks s) w tuple there in
        let loose = marked_loose (seen marks s) dict (marked_more Keywords v (seen marks s) w dict keys) in
        let x : Answer = z.rules.apply op.Func world args in
        let count : length given ≡ (roster z).frees code = length-map cells (cell_of s.frame) ∙ made.count in
        let marked_role : MarkedAs m (z.role code) = subst (MarkedAs m) (sym made.made.is) marks_as in
        fitting_met z tabs M agree b le r (IsMarked m) op.Func args marks s law fit
        (elim (z.law.func (roster z) world marks code tuple dict given law.world fit opened.1 loose had.1) [
          | inl f ↦ made_met (object.Function code f.defaults f.keywords given) m x f.is f.inside f.opens (count, marked_role) (λ e. absurd (no_keywords m role marks_as e)) tt
          | inr stops ↦ stopped_met (IsMarked m) x stops
        ])

  pub keywords_right : (r : Room) (line : ℕ) (v : View) → RightBy z r r 0 (IsMarked Keywords) v (operate (source z) line op.Dict [])
  keywords_right r line v = on_line_right z r r 0 (IsMarked Keywords) line v _ (sub_right z r (IsMarked Keywords) v (operates (source z) op.Dict []) (λ tabs M agree b le marks s law w. dict_met tabs M agree b le r marks s law))

  pub function_right : (r : Room) (line code : ℕ) (role : Role) (mark : Mark) (tuple dict : Value) (cells : List syntax.CellPlace) (v : View) → MarkedAs mark role → IsMade (roster z) r code role cells → IsThere v tuple → IsOf v.heap ATuple tuple → IsMarked Keywords v dict → RightBy z r r 0 (IsMarked mark) v (function (source z) line code tuple dict cells)
  function_right r line code role mark tuple dict cells v role_as made there of keys =
      on_line_right z r r 0 (IsMarked mark) line v _
      (sub_right z r (IsMarked mark) v (λ s. operates (source z) op.Func (value.Int (pos code) ∷ tuple ∷ dict ∷ map (cell_of s.frame) cells) s)
      (λ tabs M agree b le marks s law w. function_met tabs M agree b le r marks s law v w code role mark tuple dict cells role_as made there of keys))

  -- ---- the dict that collects keywords is handed on

  pub key_put_right : (r : Room) (line : ℕ) (d : Value) (key : List ℕ) (x : Value) (v : View) → IsMarked Keywords v d → IsThere v x → RightBy z r r 0 (OpGives op.KeyPut) v (operate (source z) line op.KeyPut (d ∷ value.Str key ∷ x ∷ []))
  key_put_right r line d key x v m t =
      handed_right z r line op.KeyPut (d ∷ value.Str key ∷ x ∷ []) v
      (λ w marks l g. both _ _ (dict_fit (roster z) v d w marks l g m) (both _ _ refl (both _ _ (value_fits v x w marks g t) refl)))
      (λ more g. let y = there_more v more g x t in (marked_loose more d (marked_more Keywords v more g d m), (tt, (y.1, tt))))

  pub put_key_right : (r : Room) (line : ℕ) (d : Value) (key : List ℕ) (x : Value) (v : View) → IsMarked Keywords v d → IsThere v x → RightBy z r r 0 (OpGives op.Put) v (operate (source z) line op.Put (d ∷ value.Str key ∷ x ∷ []))
  put_key_right r line d key x v m t =
      handed_right z r line op.Put (d ∷ value.Str key ∷ x ∷ []) v
      (λ w marks l g. both _ _ (dict_fit (roster z) v d w marks l g m) (both _ _ refl (both _ _ (value_fits v x w marks g t) refl)))
      (λ more g. let y = there_more v more g x t in (marked_loose more d (marked_more Keywords v more g d m), (y.1, tt)))

  pub key_merge_right : (r : Room) (line : ℕ) (d x : Value) (v : View) → IsMarked Keywords v d → IsThere v x → RightBy z r r 0 (OpGives op.KeyMerge) v (operate (source z) line op.KeyMerge (d ∷ x ∷ []))
  key_merge_right r line d x v m t =
      handed_right z r line op.KeyMerge (d ∷ x ∷ []) v
      (λ w marks l g. both _ _ (dict_fit (roster z) v d w marks l g m) (both _ _ (value_fits v x w marks g t) refl))
      (λ more g. let y = there_more v more g x t in (marked_loose more d (marked_more Keywords v more g d m), (y.1, tt)))

  pub call_right : (r : Room) (line : ℕ) (f list d : Value) (v : View) → IsThere v f → IsThere v list → IsOf v.heap AList list → IsMarked Keywords v d → RightBy z r r 0 (OpGives op.CallX) v (operate (source z) line op.CallX (f ∷ list ∷ d ∷ []))
  call_right r line f list d v a t of m =
      handed_right z r line op.CallX (f ∷ list ∷ d ∷ []) v
      (λ w marks l g. both _ _ (value_fits v f w marks g a) (both _ _ (list_fits v list w marks g of) (both _ _ (keywords_fit (roster z) v d w marks l g m) refl)))
      (λ more g. let x = there_more v more g f a in let y = there_more v more g list t in (x.1, y.1, marked_loose more d (marked_more Keywords v more g d m), tt))

  -- ---- the block of a class

  there_gives : (v : View) (e : OpEnd) → EndLaw (roster z) v e → EndGives z IsThere v e
  there_gives v (opend.Give x) l = l
  there_gives v (opend.Raise n args) l = tt
  there_gives v (opend.Stop kind) l = tt
  there_gives v (opend.Ask f given names after) l = λ w marks y x g k e d. d
  there_gives v (opend.Resume g how) l = λ more x d. d
  there_gives v (opend.Put text) l = λ more x d. d
  there_gives v opend.Line l = λ more x d. d

  called_right : (r : Room) (line f n : ℕ) (v : View) → IsMarked Block v (value.Obj f) → IsThere v (value.Obj n) → nature_of (slice_get v.heap n) ≡ ASpace → RightBy z r r 0 IsThere v (operate (source z) line op.Call (value.Obj f ∷ value.Obj n ∷ []))
  called_right r line f n v m t of =
      on_line_right z r r 0 IsThere line v _
      (sub_right z r IsThere v (operates (source z) op.Call (value.Obj f ∷ value.Obj n ∷ []))
      (λ tabs M agree b le marks s law w.
      let world : World = s.around.world in
      let args : List Value = value.Obj f ∷ value.Obj n ∷ [] in
      let block = marked_more Block v (seen marks s) w (value.Obj f) m in
      let there = there_more v (seen marks s) w (value.Obj n) t in
      let named = of_more v (seen marks s) w ASpace (value.Obj n) tt of in
      let space : IsA world.heap n SpaceSort = of_sort world.heap n ASpace tt named in
      let less : f < length world.heap = block.0 in
      let also : n < length world.heap = there.0 in
      let is_f : nat_lt f (length world.heap) ≡ true = grind (arith, nat_tests) in
      let is_n : nat_lt n (length world.heap) ≡ true = grind (arith, nat_tests) in
      let fit : args_fit op.Call world args ≡ true = both _ _ is_f (both _ _ is_n refl) in
      let k = z.law.block (roster z) world marks f n (has_blocks z) law.world block.1 less space there.1 in
      let x : Answer = z.rules.apply op.Call world args in
      operated_met z tabs M agree b le r IsThere op.Call args marks s law fit k (there_gives (view x.heap marks) x.end k.end)))

  pub block_right : (r : Room) (line : ℕ) (f names : Value) (v : View) → IsMarked Block v f → IsThere v names → IsOf v.heap ASpace names → RightBy z r r 0 IsThere v (operate (source z) line op.Call (f ∷ names ∷ []))
  block_right r line (value.Obj f) (value.Obj n) v m t of = called_right r line f n v m t of
  block_right r line value.Unset names v m t of = absurd m
  block_right r line value.None names v m t of = absurd m
  block_right r line (value.Bool b) names v m t of = absurd m
  block_right r line (value.Int i) names v m t of = absurd m
  block_right r line (value.Str text) names v m t of = absurd m
  block_right r line (value.Obj f) value.Unset v m t of = absurd of
  block_right r line (value.Obj f) value.None v m t of = absurd of
  block_right r line (value.Obj f) (value.Bool b) v m t of = absurd of
  block_right r line (value.Obj f) (value.Int i) v m t of = absurd of
  block_right r line (value.Obj f) (value.Str text) v m t of = absurd of
