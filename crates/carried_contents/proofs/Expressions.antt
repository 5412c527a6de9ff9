-- The blocks of expressions, of the blocks of their parts.
use Rattle.std.proofs.Common.{ℕ, ◌+◌, Bool, true, false, List, [], ◌∷◌, map, length, not, if◌then◌else◌, Some, codes, ◌&&◌, ◌≡◌, refl, ap}
use Rattle.std.specs.List.{AllByRecursion}
use Rattle.nu_text.specs.Names.{is_among, built_in_names}
use Rattle.op_forms.specs.declared.op.Op.{Op}
use Rattle.op_forms.specs.declared.op.Op.TheVariants as op
use Rattle.op_forms.specs.declared.signature.ArgumentKind.TheVariants as kind
use Rattle.code_forms.specs.declared.operand.Argument.{Argument}
use Rattle.code_forms.specs.declared.operand.Argument.TheVariants as argument
use Rattle.code_forms.specs.declared.operand.Operand.{Operand}
use Rattle.code_forms.specs.Taking.{all_taken}
use Rattle.node_tree.specs.Blocks.{alone, of_temp}
use Rattle.node_tree.specs.Blocks as tree
use Rattle.py_safe.specs.Constructs.{TakesTwo}
use Rattle.carries_base.specs.Carries.{Carrier}
use Rattle.carries_base.specs.Laws.{if_block}
use Rattle.carries_control.specs.Raises.{stopped_block}
use Rattle.carries_values.specs.Parts.{into, moved}
use Rattle.carries_values.specs.Choices.{Linked, junction_block, conditional_block, compared_block, links_block, comparison_block}
use Rattle.carries_values.specs.Displays.{Item, Entry, added_block, fill_block, enter_block, list_block, tuple_block, dict_block}
use Rattle.carries_values.specs.Displays as displays
use Rattle.carries_values.specs.Calls.{Passed, keywords_block, key_block, pass_block, call_block}
use Rattle.carries_values.specs.Calls as calls
use Rattle.carries_definitions.specs.Delegated.{delegate_block}
use Rattle.carries_definitions.specs.Told.{resumed_block, sent_block, threw_block, thrown_block}
use Rattle.carried_codes.specs.Parts.{Named, Decorator}
use Rattle.carried_codes.specs.Seats.{Seat, Local, Own, Free, Module, Space, reads, stores, unbinds}
use Rattle.carried_codes.specs.Expressions.{puts, function_form, function_block, decorated_block, class_block}
use Rattle.carried_contents.proofs.Held.{Held, Taken, stop, follow, one, both, choice, loop, catch, stored, done, clear}
use Rattle.carried_contents.proofs.Operations.{two_held}

-- Names

pub reads_held : {inside : ℕ → Bool} (t line : ℕ) (s : Seat) → Held inside (reads t line s)
reads_held t line (Local at name) = done refl refl
reads_held t line (Own at name) = done refl refl
reads_held t line (Free at name) = done refl refl
reads_held t line (Module name) = done refl refl
reads_held t line (Space at name) = done refl refl

pub stores_held : {inside : ℕ → Bool} (t line : ℕ) (s : Seat) (o : Operand) → Held inside (stores t line s o)
stores_held t line (Local at name) o = stored at o
stores_held t line (Own at name) o = done refl refl
stores_held t line (Free at name) o = done refl refl
stores_held t line (Module name) o = done refl refl
stores_held t line (Space at name) o = done refl refl

pub unbinds_taken : {inside : ℕ → Bool} (t line : ℕ) (s : Seat) → Taken inside (unbinds t line s)
unbinds_taken t line (Local at name) = clear refl refl
unbinds_taken t line (Own at name) = clear refl refl
unbinds_taken t line (Free at name) = clear refl refl
unbinds_taken t line (Module name) = clear refl refl
unbinds_taken t line (Space at name) = clear refl refl

-- Choices

pub into_taken : {inside : ℕ → Bool} (to : ℕ) (p : Carrier) → Taken inside p.block → Taken inside (into to p)
into_taken to p c = both c (one (stored to p.value))

pub if_taken : {inside : ℕ → Bool} (line t : ℕ) (tb : tree.Block) (o : Operand) (bb ob : tree.Block) → Taken inside tb → Taken inside bb → Taken inside ob → Taken inside (if_block line t tb o bb ob)
if_taken line t tb o bb ob c d e = both c (follow (done refl refl) (one (choice d e)))

pub junction_taken : {inside : ℕ → Bool} (line t : ℕ) (any : Bool) (p q : Carrier) → Taken inside p.block → Taken inside q.block → Taken inside (junction_block line t any p q)
junction_taken line t true p q c d = if_taken line t p.block p.value (moved (t + 1) p.value) (into (t + 1) q) c (one (stored (t + 1) p.value)) (into_taken (t + 1) q d)
junction_taken line t false p q c d = if_taken line t p.block p.value (into (t + 1) q) (moved (t + 1) p.value) c (into_taken (t + 1) q d) (one (stored (t + 1) p.value))

pub conditional_taken : {inside : ℕ → Bool} (line t : ℕ) (o p q : Carrier) → Taken inside o.block → Taken inside p.block → Taken inside q.block → Taken inside (conditional_block line t o p q)
conditional_taken line t o p q c d e = if_taken line t o.block o.value (into (t + 1) p) (into (t + 1) q) c (into_taken (t + 1) p d) (into_taken (t + 1) q e)

abbrev pub LinkTaken : (ℕ → Bool) → Linked → Type 0
LinkTaken inside x = TakesTwo x.op × Taken inside x.right.block

abbrev pub LinksTaken : (ℕ → Bool) → List Linked → Type 0
LinksTaken inside xs = AllByRecursion (LinkTaken inside) xs

compared_taken : {inside : ℕ → Bool} (line t : ℕ) (o : Op) (negated : Bool) (a b : Operand) → TakesTwo o → Taken inside (compared_block line t o negated a b)
compared_taken line t o false a b w = one (two_held t line o a b w)
compared_taken line t o true a b w = follow (two_held (t + 1) line o a b w) (one (done refl refl))

links_taken : {inside : ℕ → Bool} (line t : ℕ) (a : Operand) (xs : List Linked) → LinksTaken inside xs → Taken inside (links_block line t a xs)
links_taken line t a [] l = stop
links_taken line t a (x ∷ []) l = both l.0.1 (compared_taken line t x.op x.negated a x.right.value l.0.0)
links_taken line t a (x ∷ y ∷ xs) l =
    both l.0.1 (both (compared_taken line t x.op x.negated a x.right.value l.0.0) (follow (done refl refl) (one (choice (links_taken line t x.right.value (y ∷ xs) l.1) stop))))

pub comparison_taken : {inside : ℕ → Bool} (line t : ℕ) (p : Carrier) (xs : List Linked) → Taken inside p.block → LinksTaken inside xs → Taken inside (comparison_block line t p xs)
comparison_taken line t p xs c l = both c (links_taken line t p.value xs l)

-- Displays and calls

abbrev pub ItemTaken : (ℕ → Bool) → Item → Type 0
ItemTaken inside (displays.One p) = Taken inside p.block
ItemTaken inside (displays.Star p) = Taken inside p.block

abbrev pub EntryTaken : (ℕ → Bool) → Entry → Type 0
EntryTaken inside (displays.Pair k p) = Taken inside k.block × Taken inside p.block
EntryTaken inside (displays.Merge p) = Taken inside p.block

abbrev pub PassedTaken : (ℕ → Bool) → Passed → Type 0
PassedTaken inside (calls.Plain p) = Taken inside p.block
PassedTaken inside (calls.Star p) = Taken inside p.block
PassedTaken inside (calls.Key name p) = Taken inside p.block
PassedTaken inside (calls.Merge p) = Taken inside p.block

fill_taken : {inside : ℕ → Bool} (line t : ℕ) (items : List Item) → AllByRecursion (ItemTaken inside) items → Taken inside (fill_block line t items)
fill_taken line t [] c = stop
fill_taken line t (displays.One p ∷ items) c = both c.0 (follow (done refl refl) (fill_taken line t items c.1))
fill_taken line t (displays.Star p ∷ items) c = both c.0 (follow (done refl refl) (fill_taken line t items c.1))

pub list_taken : {inside : ℕ → Bool} (line t : ℕ) (items : List Item) → AllByRecursion (ItemTaken inside) items → Taken inside (list_block line t items)
list_taken line t items c = follow (done refl refl) (fill_taken line t items c)

enter_taken : {inside : ℕ → Bool} (line t : ℕ) (entries : List Entry) → AllByRecursion (EntryTaken inside) entries → Taken inside (enter_block line t entries)
enter_taken line t [] c = stop
enter_taken line t (displays.Pair k p ∷ entries) c = both c.0.0 (both c.0.1 (follow (done refl refl) (enter_taken line t entries c.1)))
enter_taken line t (displays.Merge p ∷ entries) c = both c.0 (follow (done refl refl) (enter_taken line t entries c.1))

pub dict_taken : {inside : ℕ → Bool} (line t : ℕ) (entries : List Entry) → AllByRecursion (EntryTaken inside) entries → Taken inside (dict_block line t entries)
dict_taken line t entries c = follow (done refl refl) (enter_taken line t entries c)

keywords_taken : {inside : ℕ → Bool} (line to : ℕ) (begun : Bool) (rest : tree.Block) → Taken inside rest → Taken inside (keywords_block line to begun rest)
keywords_taken line to true rest c = c
keywords_taken line to false rest c = follow (done refl refl) c

pass_taken : {inside : ℕ → Bool} (line t : ℕ) (f : Operand) (begun : Bool) (ps : List Passed) → AllByRecursion (PassedTaken inside) ps → Taken inside (pass_block line t f begun ps)
pass_taken line t f begun [] c = keywords_taken line (t + 1) begun _ (clear refl refl)
pass_taken line t f begun (calls.Plain p ∷ ps) c = both c.0 (follow (done refl refl) (pass_taken line t f begun ps c.1))
pass_taken line t f begun (calls.Star p ∷ ps) c = both c.0 (follow (done refl refl) (pass_taken line t f begun ps c.1))
pass_taken line t f begun (calls.Key name p ∷ ps) c = keywords_taken line (t + 1) begun _ (both c.0 (follow (done refl refl) (pass_taken line t f true ps c.1)))
pass_taken line t f begun (calls.Merge p ∷ ps) c = keywords_taken line (t + 1) begun _ (both c.0 (follow (done refl refl) (pass_taken line t f true ps c.1)))

pub call_taken : {inside : ℕ → Bool} (line t : ℕ) (f : Carrier) (ps : List Passed) → Taken inside f.block → AllByRecursion (PassedTaken inside) ps → Taken inside (call_block line t f ps)
call_taken line t f ps c d = both c (follow (done refl refl) (pass_taken line t f.value false ps d))

-- Functions and classes

puts_taken : {inside : ℕ → Bool} (line dict to : ℕ) (ks : List Named) → Taken inside (puts line dict to ks)
puts_taken line dict to [] = stop
puts_taken line dict to (k ∷ ks) = follow (done refl refl) (puts_taken line dict (to + 1) ks)

cells_taken : (cells : List ℕ) → all_taken [] (Some kind.Cell) (map of_temp cells) ≡ true
cells_taken [] = refl
cells_taken (c ∷ cells) = cells_taken cells

function_held : {inside : ℕ → Bool} (to line code defaults keywords : ℕ) (cells : List ℕ) → inside code ≡ true → Held inside (function_form to line code defaults keywords cells)
function_held to line code defaults keywords cells e = done (ap (λ b. if not b then 1 else 0) (cells_taken cells)) (ap (λ b. if not b then 1 else 0) e)

values_taken : (os : List Carrier) → all_taken [] (Some kind.Value) (map (λ (p : Carrier). argument.Value p.value) os) ≡ true
values_taken [] = refl
values_taken (o ∷ os) = values_taken os

values_held : {inside : ℕ → Bool} (t line : ℕ) (os : List Carrier) → Held inside (tree.Do t line op.Tuple (map (λ (p : Carrier). argument.Value p.value) os))
values_held t line os = done (ap (λ b. if not b then 1 else 0) (values_taken os)) refl

pub function_taken : {inside : ℕ → Bool} (line code : ℕ) (ps : List Carrier) (ks : List Named) (cells : List ℕ) (t : ℕ) → inside code ≡ true → Taken inside (function_block line code ps ks cells t)
function_taken line code ps ks cells t e =
    follow (values_held t line ps) (follow (done refl refl) (both (puts_taken line (t + 1) (t + 2) ks) (one (function_held (t + 2 + length ks) line code t (t + 1) cells e))))

pub decorated_taken : {inside : ℕ → Bool} (t : ℕ) (ds : List Decorator) (o : Operand) → Taken inside (decorated_block t ds o)
decorated_taken t [] o = stop
decorated_taken t (d ∷ ds) o = both (decorated_taken t ds o) (one (done refl refl))

pub class_taken : {inside : ℕ → Bool} (line code : ℕ) (name cells : List ℕ) (base : Operand) (t : ℕ) → inside code ≡ true → Taken inside (class_block line code name cells base t)
class_taken line code name cells base t e = follow (done refl refl) (both (function_taken line code [] [] cells (t + 1) e) (clear refl refl))

pub comprehension_taken : {inside : ℕ → Bool} (line code : ℕ) (p : Carrier) (cells : List ℕ) (t : ℕ) → Taken inside p.block → inside code ≡ true
    → Taken inside (tree.append p.block (tree.Follow (tree.Do t line op.Iter (argument.Value p.value ∷ [])) (tree.append (function_block line code [] [] cells (t + 1)) (alone (tree.Do (t + 4) line op.Call (of_temp (t + 1 + 2) ∷ of_temp t ∷ []))))))
comprehension_taken line code p cells t c e = both c (follow (done refl refl) (both (function_taken line code [] [] cells (t + 1) e) (clear refl refl)))

-- Exceptions and `yield from`

pub native_held : {inside : ℕ → Bool} (t line : ℕ) (name : List ℕ) → is_among built_in_names name ≡ true → Held inside (tree.Do t line op.Native (argument.Name name ∷ []))
native_held t line name e = done (ap (λ b. if not (b && true) then 1 else 0) e) refl

stop_iteration : is_among built_in_names (codes "StopIteration") ≡ true
unfolding built_in_names
stop_iteration = refl

generator_exit : is_among built_in_names (codes "GeneratorExit") ≡ true
unfolding built_in_names
generator_exit = refl

pub stopped_taken : {inside : ℕ → Bool} (line x t : ℕ) (over : tree.Block) → Taken inside over → Taken inside (stopped_block line x t over)
stopped_taken line x t over c =
    follow (native_held t line (codes "StopIteration") stop_iteration) (follow (done refl refl) (one (choice c (clear refl refl))))

resumed_taken : {inside : ℕ → Bool} (line t : ℕ) (o : Op) (args : List Argument) → Held inside (tree.Do (t + 1) line o args) → Taken inside (resumed_block line t o args)
resumed_taken line t o args c =
    follow (done refl refl) (follow (catch (one c) (clear refl refl)) (one (choice (stopped_taken line (t + 3) (t + 5) _ (clear refl refl)) stop)))

sent_taken : {inside : ℕ → Bool} (line t : ℕ) → Taken inside (sent_block line t)
sent_taken line t =
    follow (done refl refl) (one (choice (resumed_taken line t op.Next _ (done refl refl)) (follow (done refl refl) (resumed_taken line t op.Call _ (done refl refl)))))

threw_taken : {inside : ℕ → Bool} (line t : ℕ) → Taken inside (threw_block line t)
threw_taken line t = follow (done refl refl) (follow (done refl refl) (one (choice (clear refl refl) (resumed_taken line t op.Call _ (done refl refl)))))

thrown_taken : {inside : ℕ → Bool} (line t : ℕ) → Taken inside (thrown_block line t)
thrown_taken line t =
    follow (native_held (t + 8) line (codes "GeneratorExit") generator_exit) (follow (done refl refl) (one (choice (clear refl refl) (threw_taken line t))))

pub delegate_taken : {inside : ℕ → Bool} (line t : ℕ) (b : tree.Block) (o : Operand) → Taken inside b → Taken inside (delegate_block line t b o (sent_block line t) (thrown_block line t))
delegate_taken line t b o c =
    both c (follow (done refl refl) (follow (done refl refl) (follow (done refl refl) (one (choice (stopped_taken line (t + 3) (t + 5) _ (clear refl refl))
    (follow (loop (follow (done refl refl) (follow (done refl refl) (one (choice (thrown_taken line t) (sent_taken line t)))))) (clear refl refl)))))))

-- a tuple with a star

tuple_name : is_among built_in_names (codes "tuple") ≡ true
unfolding built_in_names
tuple_name = refl

pub tuple_taken : {inside : ℕ → Bool} (line t : ℕ) → Taken inside (tuple_block line t)
tuple_taken line t = follow (native_held (t + 1) line (codes "tuple") tuple_name) (clear refl refl)
