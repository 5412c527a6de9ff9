-- Lawful constructs become statements whose operations take what they are given: by induction over the constructs.
use Rattle.std.proofs.Common.{◌≡◌, ℕ, ◌+◌, Bool, true, false, List, [], ◌∷◌, map, Option, Some, None, refl}
use Rattle.std.specs.List.{AllByRecursion}
use Rattle.op_forms.specs.declared.signature.ArgumentKind.{ArgumentKind}
use Rattle.code_forms.specs.declared.operand.Operand.TheVariants as operand
use Rattle.py_meaning.specs.Syntax as syntax
use Rattle.py_safe.specs.Rosters.{Role, Roster, IsCode}
use Rattle.py_safe.specs.Constructs.{Room, in_clause, outside_clause, LawfulExpression, LawfulOperands, LawfulLinks, LawfulItems, LawfulEntries, LawfulArguments, LawfulKeywords, LawfulTarget, LawfulTargets, LawfulDeletion, LawfulDeletions, LawfulDecorators, LawfulStatement, LawfulBlock, LawfulHandlers}
use Rattle.carries_base.specs.Frames.{Homes}
use Rattle.carries_base.specs.Carries.{Carrier}
use Rattle.carried_codes.specs.Parts.{Named, Decorator}
use Rattle.carried_codes.specs.Expressions.{name, operate, both, choose, chain, starred, dict, call, function, comprehension, yield_value, delegate, decorate, make_class}
use Rattle.carried_codes.specs.Places.{assign_name}
use Rattle.carried_codes.specs.Statements.{return_value, raise_value, raise_again, assert_that, branch, while_loop, for_loop, try_finally, with_item}
use Rattle.carried_codes.specs.Seats.{seat}
use Rattle.carried_codes.specs.Nodes.{cells_at, value, values, links, items, entries, arguments, keywords, place, all_places, bind, bind_all, decorators, statement, block, except}
use Rattle.carried_contents.proofs.Held.{Taken, AllTaken, stop, follow, one, loop, choice, all_joined, done, clear}
use Rattle.carried_contents.proofs.Held as held
use Rattle.carried_contents.proofs.Operations.{does_held}
use Rattle.carried_contents.proofs.Expressions.{LinksTaken, ItemTaken, EntryTaken, PassedTaken, reads_held, stores_held, if_taken, junction_taken, conditional_taken, comparison_taken, list_taken, tuple_taken, dict_taken, call_taken, function_taken, decorated_taken, class_taken, comprehension_taken, delegate_taken}
use Rattle.carried_contents.proofs.Places.{PlaceTaken, PlacesTaken, assign_taken, assign_all_taken, delete_taken, augment_taken}
use Rattle.carried_contents.proofs.Statements.{ClauseTaken, while_taken, assert_taken, for_taken, finally_taken, with_taken, try_except_taken}

abbrev named_parts : List Named → List Carrier
named_parts ks = map (λ (k : Named). k.part) ks

abbrev decorating : List Decorator → List Carrier
decorating ds = map (λ (d : Decorator). d.part) ds

module _ (c : Roster) (h : Homes) (inside : ℕ → Bool) (all : (n : ℕ) (role : Role) → IsCode c n role → inside n ≡ true) where
  mutual
    unfolding name operate both choose chain starred dict call function comprehension yield_value delegate

    pub value_taken : (r : Room) (t : ℕ) (x : syntax.Expression) → LawfulExpression c r x → Taken inside (value h t x).part.block
    value_taken r t (syntax.Constant v) l = stop
    value_taken r t (syntax.Name line home) l = one (reads_held t line (seat h home))
    value_taken r t (syntax.Operation line o xs) l =
        let ps = values h t xs in all_joined ps.parts _ (values_taken r t _ _ xs l) (one (does_held c r h t ps.next line o xs l))
    value_taken r t (syntax.Junction line any x y) l =
        let p = value h t x in let q = value h p.next y in junction_taken line q.next any p.part q.part (value_taken r t x l.0) (value_taken r p.next y l.1)
    value_taken r t (syntax.Conditional line test x y) l =
        let p = value h t x in let o = value h p.next test in let q = value h o.next y in
        conditional_taken line q.next o.part p.part q.part (value_taken r p.next test l.0) (value_taken r t x l.1) (value_taken r o.next y l.2)
    value_taken r t (syntax.Comparison line x ls) l =
        let p = value h t x in let qs = links h p.next ls in comparison_taken line qs.next p.part qs.parts (value_taken r t x l.0) (links_taken r p.next ls l.1)
    value_taken r t (syntax.Starred line false xs) l = let ps = items h t xs in list_taken line ps.next ps.parts (items_taken r t xs l)
    value_taken r t (syntax.Starred line true xs) l =
        let ps = items h t xs in held.both (list_taken line ps.next ps.parts (items_taken r t xs l)) (tuple_taken line ps.next)
    value_taken r t (syntax.Dict line xs) l = let ps = entries h t xs in dict_taken line ps.next ps.parts (entries_taken r t xs l)
    value_taken r t (syntax.Call line f xs) l =
        let p = value h t f in let ps = arguments h p.next xs in call_taken line ps.next p.part ps.parts (value_taken r t f l.0) (arguments_taken r p.next xs l.1)
    value_taken r t (syntax.Function line code xs ks cells) l =
        let ps = values h t xs in let qs = keywords h ps.next ks in
        all_joined ps.parts _ (values_taken r t _ _ xs l.0)
        (all_joined (named_parts qs.parts) _ (keywords_taken r ps.next ks l.1) (function_taken line code ps.parts qs.parts (cells_at h cells) qs.next (all code _ l.2.made)))
    value_taken r t (syntax.Comprehension line code x cells) l =
        let p = value h t x in comprehension_taken line code p.part (cells_at h cells) p.next (value_taken r t x l.0) (all code _ l.1.made)
    value_taken r t (syntax.Yield line x) l = held.both (value_taken r t x l.1) (clear refl refl)
    value_taken r t (syntax.YieldFrom line x) l = let p = value h t x in delegate_taken line p.next p.part.block p.part.value (value_taken r t x l.1)

    pub values_taken : (r : Room) (t : ℕ) (ks : List ArgumentKind) (more : Option ArgumentKind) (xs : syntax.Expressions) → LawfulOperands c r ks more xs → AllTaken inside (values h t xs).parts
    values_taken r t ks more syntax.NoMore l = tt
    values_taken r t [] None (syntax.More x xs) l = absurd l
    values_taken r t [] (Some k) (syntax.More x xs) l = (value_taken r t x l.1, values_taken r (value h t x).next [] (Some k) xs l.2)
    values_taken r t (k ∷ ks) more (syntax.More x xs) l = (value_taken r t x l.1, values_taken r (value h t x).next ks more xs l.2)

    links_taken : (r : Room) (t : ℕ) (ls : syntax.Links) → LawfulLinks c r ls → LinksTaken inside (links h t ls).parts
    links_taken r t (syntax.LastLink o negated x) l = ((l.0, value_taken r t x l.2), tt)
    links_taken r t (syntax.Link o negated x ls) l = ((l.0, value_taken r t x l.2), links_taken r (value h t x).next ls l.3)

    items_taken : (r : Room) (t : ℕ) (xs : syntax.Items) → LawfulItems c r xs → AllByRecursion (ItemTaken inside) (items h t xs).parts
    items_taken r t syntax.NoItem l = tt
    items_taken r t (syntax.Single x xs) l = (value_taken r t x l.0, items_taken r (value h t x).next xs l.1)
    items_taken r t (syntax.Spread x xs) l = (value_taken r t x l.0, items_taken r (value h t x).next xs l.1)

    entries_taken : (r : Room) (t : ℕ) (xs : syntax.Entries) → LawfulEntries c r xs → AllByRecursion (EntryTaken inside) (entries h t xs).parts
    entries_taken r t syntax.NoEntry l = tt
    entries_taken r t (syntax.Pair x y xs) l =
        let p = value h t x in let q = value h p.next y in ((value_taken r t x l.0, value_taken r p.next y l.1), entries_taken r q.next xs l.2)
    entries_taken r t (syntax.Merge x xs) l = (value_taken r t x l.0, entries_taken r (value h t x).next xs l.1)

    arguments_taken : (r : Room) (t : ℕ) (xs : syntax.Arguments) → LawfulArguments c r xs → AllByRecursion (PassedTaken inside) (arguments h t xs).parts
    arguments_taken r t syntax.NoArgument l = tt
    arguments_taken r t (syntax.Plain x xs) l = (value_taken r t x l.0, arguments_taken r (value h t x).next xs l.1)
    arguments_taken r t (syntax.Star x xs) l = (value_taken r t x l.0, arguments_taken r (value h t x).next xs l.1)
    arguments_taken r t (syntax.Keyword key x xs) l = (value_taken r t x l.0, arguments_taken r (value h t x).next xs l.1)
    arguments_taken r t (syntax.DoubleStar x xs) l = (value_taken r t x l.0, arguments_taken r (value h t x).next xs l.1)

    keywords_taken : (r : Room) (t : ℕ) (ks : syntax.Keywords) → LawfulKeywords c r ks → AllTaken inside (named_parts (keywords h t ks).parts)
    keywords_taken r t syntax.NoKeyword l = tt
    keywords_taken r t (syntax.Default key x ks) l = (value_taken r t x l.0, keywords_taken r (value h t x).next ks l.1)

  -- Targets

  mutual
    place_taken : (r : Room) (t : ℕ) (x : syntax.Target) → LawfulTarget c r x → PlaceTaken inside (place h t x).place
    place_taken r t (syntax.ToName line home) l = tt
    place_taken r t (syntax.ToAttribute line x key) l = value_taken r t x l
    place_taken r t (syntax.ToIndex line x y) l = (value_taken r t x l.0, value_taken r (value h t x).next y l.1)
    place_taken r t (syntax.ToEach line xs) l = places_taken r t xs l
    place_taken r t (syntax.ToStarred line xs star ys) l =
        let ps = all_places h t xs in let p = place h ps.next star in (places_taken r t xs l.0, place_taken r ps.next star l.1, places_taken r p.next ys l.2)
    place_taken r t syntax.ToNothing l = absurd l

    places_taken : (r : Room) (t : ℕ) (xs : syntax.Targets) → LawfulTargets c r xs → PlacesTaken inside (all_places h t xs).all
    places_taken r t syntax.NoTarget l = tt
    places_taken r t (syntax.AlsoTo x xs) l = (place_taken r t x l.0, places_taken r (place h t x).next xs l.1)

  mutual
    deleted_taken : (r : Room) (t : ℕ) (x : syntax.Target) → LawfulDeletion c r x → PlaceTaken inside (place h t x).place
    deleted_taken r t (syntax.ToName line home) l = tt
    deleted_taken r t (syntax.ToAttribute line x key) l = value_taken r t x l
    deleted_taken r t (syntax.ToIndex line x y) l = (value_taken r t x l.0, value_taken r (value h t x).next y l.1)
    deleted_taken r t (syntax.ToEach line xs) l = all_deleted_taken r t xs l
    deleted_taken r t (syntax.ToStarred line xs star ys) l = absurd l
    deleted_taken r t syntax.ToNothing l = absurd l

    all_deleted_taken : (r : Room) (t : ℕ) (xs : syntax.Targets) → LawfulDeletions c r xs → PlacesTaken inside (all_places h t xs).all
    all_deleted_taken r t syntax.NoTarget l = tt
    all_deleted_taken r t (syntax.AlsoTo x xs) l = (deleted_taken r t x l.0, all_deleted_taken r (place h t x).next xs l.1)

  pub bind_taken : (r : Room) (t : ℕ) (x : syntax.Target) → LawfulTarget c r x → Taken inside (bind h t x).block
  bind_taken r t x l = let p = place h (t + 1) x in assign_taken inside p.next (operand.Temp t) p.place (place_taken r (t + 1) x l)

  bind_all_taken : (r : Room) (t : ℕ) (xs : syntax.Targets) → LawfulTargets c r xs → Taken inside (bind_all h t xs).block
  bind_all_taken r t xs l = let ps = all_places h (t + 1) xs in assign_all_taken inside ps.next (operand.Temp t) ps.all (places_taken r (t + 1) xs l)

  -- Statements

  decorators_taken : (r : Room) (t : ℕ) (ds : List syntax.Decorator) → LawfulDecorators c r ds → AllTaken inside (decorating (decorators h t ds).parts)
  decorators_taken r t [] l = tt
  decorators_taken r t (d ∷ ds) l = (value_taken r t d.is l.0, decorators_taken r (value h t d.is).next ds l.1)

  again_taken : (caught : Option ℕ) (t : ℕ) → Taken inside (raise_again caught t).block
  again_taken None t = stop
  again_taken (Some x) t = clear refl refl

  mutual
    unfolding return_value raise_value assert_that branch while_loop for_loop try_finally with_item decorate make_class assign_name

    pub statement_taken : (r : Room) (caught : Option ℕ) (again : Bool) (t : ℕ) (s : syntax.Statement) → LawfulStatement c r again s → Taken inside (statement h caught t s).block
    statement_taken r caught again t (syntax.Evaluate x) l = value_taken r t x l
    statement_taken r caught again t (syntax.Assign xs x) l =
        let ps = all_places h t xs in let p = value h ps.next x in
        held.both (value_taken r ps.next x l.1) (assign_all_taken inside p.next p.part.value ps.all (places_taken r t xs l.0))
    statement_taken r caught again t (syntax.Augment line o x y) l =
        let p = place h t x in let q = value h p.next y in augment_taken inside q.next line o p.place q.part l.0 (place_taken r t x l.2) (value_taken r p.next y l.3)
    statement_taken r caught again t (syntax.Delete x) l = let p = place h t x in delete_taken inside p.next p.place (deleted_taken r t x l)
    statement_taken r caught again t syntax.Pass l = stop
    statement_taken r caught again t syntax.Break l = clear refl refl
    statement_taken r caught again t syntax.Continue l = clear refl refl
    statement_taken r caught again t (syntax.Return x) l = held.both (value_taken r t x l) (clear refl refl)
    statement_taken r caught again t (syntax.Raise line x) l = held.both (value_taken r t x l) (clear refl refl)
    statement_taken r caught again t syntax.Reraise l = again_taken caught t
    statement_taken r caught again t (syntax.Assert line x texts) l =
        let p = value h t x in let ps = values h p.next texts in
        assert_taken line ps.next p.part.block p.part.value ps.parts (value_taken r t x l.0) (values_taken r p.next _ _ texts l.1)
    statement_taken r caught again t (syntax.If line x body other) l =
        let p = value h t x in let b = block h caught p.next body in let d = block h caught b.next other in
        if_taken line d.next p.part.block p.part.value b.block d.block (value_taken r t x l.0) (block_taken r caught again p.next body l.1) (block_taken r caught again b.next other l.2)
    statement_taken r caught again t (syntax.While line x body other) l =
        let p = value h t x in let b = block h caught p.next body in let d = block h caught b.next other in
        while_taken line d.next (d.next + 1) p.part.block p.part.value b.block d.block (value_taken r t x l.0) (block_taken r caught true p.next body l.1) (block_taken r caught again b.next other l.2)
    statement_taken r caught again t (syntax.For line x over body other) l =
        let i = bind h t x in let p = value h i.next over in let b = block h caught p.next body in let d = block h caught b.next other in
        for_taken line d.next t p.part.block p.part.value i.block b.block d.block (value_taken r i.next over l.1) (bind_taken r t x l.0) (block_taken r caught true p.next body l.2) (block_taken r caught again b.next other l.3)
    statement_taken r caught again t (syntax.Try body handlers other) l =
        let b = block h caught t body in let cs = except h b.next handlers in let d = block h caught cs.next other in
        try_except_taken inside d.next b.block cs.parts d.block (block_taken r caught again t body l.0) (except_taken r again b.next handlers l.1) (block_taken r caught again cs.next other l.2)
    statement_taken r caught again t (syntax.Finally body last) l =
        let b = block h caught t body in let d = block h None b.next last in
        finally_taken d.next b.block d.block (block_taken r caught again t body l.0) (block_taken (outside_clause r) None again b.next last l.1)
    statement_taken r caught again t (syntax.With line x xs body) l =
        let p = value h t x in let i = bind_all h p.next xs in let b = block h caught i.next body in
        with_taken line b.next p.next p.part.block p.part.value i.block b.block (value_taken r t x l.0) (bind_all_taken r p.next xs l.1) (block_taken r caught again i.next body l.2)
    statement_taken r caught again t (syntax.Define line ds f home) l =
        let ps = decorators h t ds in let p = value h ps.next f in
        held.both (all_joined (decorating ps.parts) _ (decorators_taken r t ds l.0) (held.both (value_taken r ps.next f l.1) (decorated_taken p.next ps.parts p.part.value)))
        (one (stores_held _ line (seat h home) _))
    statement_taken r caught again t (syntax.Class line ds key base code cells home) l =
        let ps = decorators h t ds in let p = value h ps.next base in
        held.both
        (all_joined (decorating ps.parts) _ (decorators_taken r t ds l.0)
        (held.both (value_taken r ps.next base l.1) (held.both (class_taken line code key (cells_at h cells) p.part.value p.next (all code _ l.2.made)) (decorated_taken (p.next + 6) ps.parts (operand.Temp (p.next + 5))))))
        (one (stores_held _ line (seat h home) _))

    pub block_taken : (r : Room) (caught : Option ℕ) (again : Bool) (t : ℕ) (b : syntax.Block) → LawfulBlock c r again b → Taken inside (block h caught t b).block
    block_taken r caught again t syntax.Done l = stop
    block_taken r caught again t (syntax.Then s rest) l = held.both (statement_taken r caught again t s l.0) (block_taken r caught again (statement h caught t s).next rest l.1)

    except_taken : (r : Room) (again : Bool) (t : ℕ) (hs : syntax.Handlers) → LawfulHandlers c r again hs → AllByRecursion (ClauseTaken inside) (except h t hs).parts
    except_taken r again t syntax.NoHandler l = tt
    except_taken r again t (syntax.Bare body) l = (block_taken (in_clause r) (Some t) again (t + 1) body l, tt)
    except_taken r again t (syntax.Handler line class key body rest) l =
        let p = value h t class in let b = block h (Some p.next) (p.next + 1) body in
        ((value_taken r t class l.0, block_taken (in_clause r) (Some p.next) again (p.next + 1) body l.2), except_taken r again b.next rest l.3)
