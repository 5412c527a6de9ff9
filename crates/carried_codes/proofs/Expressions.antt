-- Expressions are carried by their statements.
use Rattle.std.proofs.Common.{◌≡◌, ℕ, ◌≤◌, Bool, true, false, List, [], ◌∷◌, Option, Some, None, refl, subst, arith}
use Rattle.nu_value.specs.declared.value.Value.{Value}
use Rattle.nu_value.specs.declared.value.Value.TheVariants as py
use Rattle.op_forms.specs.Constants.{value_of}
use Rattle.op_forms.specs.declared.op.Op.{Op}
use Rattle.op_forms.specs.declared.signature.ArgumentKind.{ArgumentKind}
use Rattle.code_forms.specs.declared.operand.Operand.{Operand}
use Rattle.code_forms.specs.declared.operand.Operand.TheVariants as operand
use Rattle.node_tree.specs.Blocks as tree
use Rattle.py_meaning.specs.Syntax as syntax
use Rattle.py_safe.specs.Rosters.{Roster}
use Rattle.py_safe.specs.Constructs.{Room, IsConstant, HasHome, HaveCells, LawfulExpression, LawfulOperands, LawfulLinks, LawfulItems, LawfulEntries, LawfulArguments, LawfulKeywords}
use Rattle.carries_base.specs.Frames.{Homes, behind, IsWithin}
use Rattle.carries_base.specs.Carries.{CarriesExpression, CarriesAll}
use Rattle.carries_base.proofs.Small.{constant_carried, yield_carried}
use Rattle.carries_names.specs.Names.{HasPlace}
use Rattle.carries_names.specs.Functions.{HasCells, CarriesNamed}
use Rattle.carries_names.proofs.Functions.{all_grow}
use Rattle.carries_values.specs.Choices.{Linked, CarriesLink, CarriesLinks}
use Rattle.carries_values.specs.Displays.{CarriesDisplayed, CarriesEntries}
use Rattle.carries_values.specs.Calls.{CarriesArguments}
use Rattle.carries_values.proofs.Choices.{junction_carried, conditional_carried}
use Rattle.carries_values.proofs.Comparisons.{comparison_carried}
use Rattle.carries_values.proofs.Displays.{list_carried, tuple_carried, dict_carried}
use Rattle.carries_values.proofs.Calls.{call_carried}
use Rattle.carries_definitions.proofs.Whole.{yield_from_carried}
use Rattle.carried_codes.specs.Constants.{const_of}
use Rattle.carried_codes.specs.Expressions.{name, operate, both, choose, chain, starred, dict, call, function, comprehension, yield_value, delegate}
use Rattle.carried_codes.specs.Nodes.{value, values, links, items, entries, arguments, keywords}
use Rattle.carried_codes.specs.Targets.{SameNames}
use Rattle.carried_codes.specs.Laws.{Houses}
use Rattle.carried_codes.proofs.Parts.{part_in, beside}
use Rattle.carried_codes.proofs.Operations.{does_carried}
use Rattle.carried_codes.proofs.Seats.{read_seat}
use Rattle.carried_codes.proofs.Functions.{parts_of, function_made, comprehension_made}

constant_is : (v : Value) → IsConstant v → value_of (const_of v) ≡ v
constant_is py.Unset e = absurd e
constant_is py.None e = refl
constant_is (py.Bool b) e = refl
constant_is (py.Int i) e = refl
constant_is (py.Str s) e = refl
constant_is (py.Obj n) e = absurd e

pub has_place : (r : Room) (h : Homes) (home : syntax.Home) → Houses r h → HasHome r home → HasPlace h home
has_place r h (syntax.Local place name) k l = let e = k.locals in let less = l.0 in omega arith
has_place r h (syntax.Own place name) k l = let e = k.owns in omega arith
has_place r h (syntax.Free place name) k l = let e = k.frees in omega arith
has_place r h (syntax.Module name) k l = tt
has_place r h (syntax.InClass name) k l = k.names l

pub has_cells : (r : Room) (h : Homes) (cells : List syntax.CellPlace) → Houses r h → HaveCells r cells → HasCells h cells
has_cells r h [] k l = tt
has_cells r h (syntax.OwnCell place ∷ cells) k l = let e = k.owns in let less = l.0 in (omega arith, has_cells r h cells k l.1)
has_cells r h (syntax.FreeCell place ∷ cells) k l = let e = k.frees in let less = l.0 in (omega arith, has_cells r h cells k l.1)

-- links behind a link
link_more : (h : Homes) (low high : ℕ) (a : Operand) (o : Op) (negated : Bool) (x : syntax.Expression) (ls : syntax.Links) (p : Linked) (ps : List Linked)
    → CarriesLink h low high a o negated x p → CarriesLinks h low high p.right.value ls ps → CarriesLinks h low high a (syntax.Link o negated x ls) (p ∷ ps)
link_more h low high a o negated x (syntax.LastLink q b y) p [] l c = absurd c
link_more h low high a o negated x (syntax.Link q b y ls) p [] l c = absurd c
link_more h low high a o negated x ls p (q ∷ ps) l c = (l, c)

module _ (c : Roster) (r : Room) (h : Homes) (k : Houses r h) where
  mutual
    unfolding name operate both choose chain starred dict call function comprehension yield_value delegate

    pub value_carried : (t : ℕ) (x : syntax.Expression) → behind h ≤ t → LawfulExpression c r x → CarriesExpression h t (value h t x).next x (value h t x).part.block (value h t x).part.value
    value_carried t (syntax.Constant v) st l =
        subst (λ w. CarriesExpression h t t (syntax.Constant w) tree.Stop (operand.Const (const_of v))) (constant_is v l) (constant_carried h t (const_of v) st)
    value_carried t (syntax.Name line home) st l = read_seat h t line t home k.room (has_place r h home k l) st (omega arith)
    value_carried t (syntax.Operation line o xs) st l = does_carried h t (values h t xs).next line o xs (values h t xs).parts (values_carried t xs _ _ st l)
    value_carried t (syntax.Junction line any x y) st l =
        let p = value h t x in let q = value h p.next y in
        let cp = value_carried t x st l.0 in let lp = cp.grows in
        let cq = value_carried p.next y (omega arith) l.1 in let lq = cq.grows in
        junction_carried h t q.next line any x y p.part q.part st (part_in h t q.next t p.next x p.part (omega arith) lq cp) (part_in h t q.next p.next q.next y q.part lp (omega arith) cq)
    value_carried t (syntax.Conditional line test x y) st l =
        let p = value h t x in let o = value h p.next test in let q = value h o.next y in
        let cp = value_carried t x st l.1 in let lp = cp.grows in
        let co = value_carried p.next test (omega arith) l.0 in let lo = co.grows in
        let cq = value_carried o.next y (omega arith) l.2 in let lq = cq.grows in
        conditional_carried h t q.next line test x y o.part p.part q.part st
        (part_in h t q.next p.next o.next test o.part lp lq co) (part_in h t q.next t p.next x p.part (omega arith) (omega arith) cp) (part_in h t q.next o.next q.next y q.part (omega arith) (omega arith) cq)
    value_carried t (syntax.Comparison line x ls) st l =
        let p = value h t x in let qs = links h p.next ls in
        let cp = value_carried t x st l.0 in let lp = cp.grows in
        let cl = links_carried t p.next p.part.value ls st lp cp.within l.1 in let ll = cl.0 in
        comparison_carried h t qs.next line x ls p.part qs.parts st (part_in h t qs.next t p.next x p.part (omega arith) ll cp) (cl.1 t qs.next lp (omega arith))
    value_carried t (syntax.Starred line false xs) st l =
        let ps = items h t xs in let cl = items_carried t xs st l in
        list_carried h t ps.next line xs ps.parts st cl.0 (cl.1 t ps.next (omega arith) (omega arith))
    value_carried t (syntax.Starred line true xs) st l =
        let ps = items h t xs in let cl = items_carried t xs st l in
        tuple_carried h t ps.next line xs ps.parts st cl.0 (cl.1 t ps.next (omega arith) (omega arith))
    value_carried t (syntax.Dict line xs) st l =
        let ps = entries h t xs in let cl = entries_carried t xs st l in
        dict_carried h t ps.next line xs ps.parts st cl.0 (cl.1 t ps.next (omega arith) (omega arith))
    value_carried t (syntax.Call line f xs) st l =
        let p = value h t f in let ps = arguments h p.next xs in
        let cp = value_carried t f st l.0 in let lp = cp.grows in
        let cl = arguments_carried t p.next p.next p.part.value xs st lp (omega arith) cp.within l.1 in let ll = cl.0 in
        call_carried h t ps.next line f xs p.part ps.parts st (part_in h t ps.next t p.next f p.part (omega arith) ll cp) (cl.1 t ps.next lp (omega arith))
    value_carried t (syntax.Function line code xs ks cells) st l =
        let ps = values h t xs in let qs = keywords h ps.next ks in
        let ca = values_carried t xs _ _ st l.0 in let la = (all_grow h t ps.next xs ps.parts ca).1 in
        let cn = keywords_carried ps.next ks (omega arith) l.1 in
        function_made h t ps.next qs.next line code xs ks cells ps.parts qs.parts k.room (has_cells r h cells k l.2.have) ca cn.0 cn.1
    value_carried t (syntax.Comprehension line code x cells) st l =
        let p = value h t x in comprehension_made h t p.next line code x cells p.part k.room (has_cells r h cells k l.1.have) (value_carried t x st l.0)
    value_carried t (syntax.Yield line x) st l =
        let p = value h t x in yield_carried h t p.next line x p.part.block p.part.value (value_carried t x st l.1)
    value_carried t (syntax.YieldFrom line x) st l =
        let p = value h t x in yield_from_carried h t p.next line x p.part.block p.part.value (value_carried t x st l.1)

    pub values_carried : (t : ℕ) (xs : syntax.Expressions) (ks : List ArgumentKind) (more : Option ArgumentKind) → behind h ≤ t → LawfulOperands c r ks more xs → CarriesAll h t (values h t xs).next xs (values h t xs).parts
    values_carried t syntax.NoMore ks more st l = (st, omega arith)
    values_carried t (syntax.More x xs) [] None st l = absurd l
    values_carried t (syntax.More x xs) [] (Some kind) st l =
        let cp = value_carried t x st l.1 in let lp = cp.grows in
        ((value h t x).next, cp, values_carried (value h t x).next xs [] (Some kind) (omega arith) l.2)
    values_carried t (syntax.More x xs) (kind ∷ ks) more st l =
        let cp = value_carried t x st l.1 in let lp = cp.grows in
        ((value h t x).next, cp, values_carried (value h t x).next xs ks more (omega arith) l.2)

    -- behind an operand of a range in front
    links_carried : (from t : ℕ) (a : Operand) (ls : syntax.Links) → behind h ≤ from → from ≤ t → IsWithin from t a → LawfulLinks c r ls
        → (t ≤ (links h t ls).next) × ((low high : ℕ) → low ≤ t → (links h t ls).next ≤ high → CarriesLinks h low high a ls (links h t ls).parts)
    links_carried from t a (syntax.LastLink o negated x) st le w l =
        let p = value h t x in let cp = value_carried t x (omega arith) l.2 in let lp = cp.grows in
        (lp, λ low high l₁ l₂. (refl, refl, beside h low high from t t p.next a x p.part l₁ l₂ st (omega arith) w cp))
    links_carried from t a (syntax.Link o negated x ls) st le w l =
        let p = value h t x in let qs = links h p.next ls in let cp = value_carried t x (omega arith) l.2 in let lp = cp.grows in
        let cl = links_carried t p.next p.part.value ls (omega arith) lp cp.within l.3 in let ll = cl.0 in (
          omega arith,
          λ low high l₁ l₂. link_more h low high a o negated x ls (record { op = o; negated = negated; right = p.part }) qs.parts (refl, refl, beside h low high from t t p.next a x p.part l₁ (omega arith) st (omega arith) w cp)
              (cl.1 low high (omega arith) l₂),
        )

    items_carried : (t : ℕ) (xs : syntax.Items) → behind h ≤ t → LawfulItems c r xs
        → (t ≤ (items h t xs).next) × ((low high : ℕ) → low ≤ t → (items h t xs).next ≤ high → CarriesDisplayed h low high xs (items h t xs).parts)
    items_carried t syntax.NoItem st l = (omega arith, λ low high l₁ l₂. tt)
    items_carried t (syntax.Single x xs) st l =
        let p = value h t x in let cp = value_carried t x st l.0 in let lp = cp.grows in let cl = items_carried p.next xs (omega arith) l.1 in let ll = cl.0 in
        (omega arith, λ low high l₁ l₂. (part_in h low high t p.next x p.part l₁ (omega arith) cp, cl.1 low high (omega arith) l₂))
    items_carried t (syntax.Spread x xs) st l =
        let p = value h t x in let cp = value_carried t x st l.0 in let lp = cp.grows in let cl = items_carried p.next xs (omega arith) l.1 in let ll = cl.0 in
        (omega arith, λ low high l₁ l₂. (part_in h low high t p.next x p.part l₁ (omega arith) cp, cl.1 low high (omega arith) l₂))

    entries_carried : (t : ℕ) (xs : syntax.Entries) → behind h ≤ t → LawfulEntries c r xs
        → (t ≤ (entries h t xs).next) × ((low high : ℕ) → low ≤ t → (entries h t xs).next ≤ high → CarriesEntries h low high xs (entries h t xs).parts)
    entries_carried t syntax.NoEntry st l = (omega arith, λ low high l₁ l₂. tt)
    entries_carried t (syntax.Pair x y xs) st l =
        let p = value h t x in let q = value h p.next y in
        let cp = value_carried t x st l.0 in let lp = cp.grows in
        let cq = value_carried p.next y (omega arith) l.1 in let lq = cq.grows in
        let cl = entries_carried q.next xs (omega arith) l.2 in let ll = cl.0 in (
          omega arith,
          λ low high l₁ l₂. (part_in h low high t p.next x p.part l₁ (omega arith) cp, beside h low high t p.next p.next q.next p.part.value y q.part (omega arith) (omega arith) st (omega arith) cp.within cq, cl.1 low high (omega arith) l₂),
        )
    entries_carried t (syntax.Merge x xs) st l =
        let p = value h t x in let cp = value_carried t x st l.0 in let lp = cp.grows in let cl = entries_carried p.next xs (omega arith) l.1 in let ll = cl.0 in
        (omega arith, λ low high l₁ l₂. (part_in h low high t p.next x p.part l₁ (omega arith) cp, cl.1 low high (omega arith) l₂))

    -- what is called is kept over each
    arguments_carried : (from to t : ℕ) (f : Operand) (xs : syntax.Arguments) → behind h ≤ from → from ≤ to → to ≤ t → IsWithin from to f → LawfulArguments c r xs
        → (t ≤ (arguments h t xs).next) × ((low high : ℕ) → low ≤ t → (arguments h t xs).next ≤ high → CarriesArguments h low high f xs (arguments h t xs).parts)
    arguments_carried from to t f syntax.NoArgument st le lt w l = (omega arith, λ low high l₁ l₂. tt)
    arguments_carried from to t f (syntax.Plain x xs) st le lt w l =
        let p = value h t x in let cp = value_carried t x (omega arith) l.0 in let lp = cp.grows in let cl = arguments_carried from to p.next f xs st le (omega arith) w l.1 in let ll = cl.0 in
        (omega arith, λ low high l₁ l₂. (beside h low high from to t p.next f x p.part l₁ (omega arith) st lt w cp, cl.1 low high (omega arith) l₂))
    arguments_carried from to t f (syntax.Star x xs) st le lt w l =
        let p = value h t x in let cp = value_carried t x (omega arith) l.0 in let lp = cp.grows in let cl = arguments_carried from to p.next f xs st le (omega arith) w l.1 in let ll = cl.0 in
        (omega arith, λ low high l₁ l₂. (beside h low high from to t p.next f x p.part l₁ (omega arith) st lt w cp, cl.1 low high (omega arith) l₂))
    arguments_carried from to t f (syntax.Keyword key x xs) st le lt w l =
        let p = value h t x in let cp = value_carried t x (omega arith) l.0 in let lp = cp.grows in let cl = arguments_carried from to p.next f xs st le (omega arith) w l.1 in let ll = cl.0 in
        (omega arith, λ low high l₁ l₂. (refl, beside h low high from to t p.next f x p.part l₁ (omega arith) st lt w cp, cl.1 low high (omega arith) l₂))
    arguments_carried from to t f (syntax.DoubleStar x xs) st le lt w l =
        let p = value h t x in let cp = value_carried t x (omega arith) l.0 in let lp = cp.grows in let cl = arguments_carried from to p.next f xs st le (omega arith) w l.1 in let ll = cl.0 in
        (omega arith, λ low high l₁ l₂. (beside h low high from to t p.next f x p.part l₁ (omega arith) st lt w cp, cl.1 low high (omega arith) l₂))

    keywords_carried : (t : ℕ) (ks : syntax.Keywords) → behind h ≤ t → LawfulKeywords c r ks → CarriesNamed h t (keywords h t ks).next ks (parts_of (keywords h t ks).parts) × SameNames ks (keywords h t ks).parts
    keywords_carried t syntax.NoKeyword st l = ((st, omega arith), tt)
    keywords_carried t (syntax.Default key x ks) st l =
        let p = value h t x in let cp = value_carried t x st l.0 in let lp = cp.grows in let cl = keywords_carried p.next ks (omega arith) l.1 in
        ((p.next, cp, cl.0), (refl, cl.1))
