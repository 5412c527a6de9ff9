-- The blocks of statements, of the blocks of their parts.
use Rattle.std.proofs.Common.{Bool, ◌≡◌, ℕ, ◌+◌, true, List, [], ◌∷◌, map, Option, Some, None, codes, not, if◌then◌else◌, refl, ap}
use Rattle.std.specs.List.{AllByRecursion}
use Rattle.nu_text.specs.Names.{is_among, built_in_names}
use Rattle.op_forms.specs.declared.constant.Const.TheVariants as const
use Rattle.op_forms.specs.declared.op.Op.TheVariants as op
use Rattle.op_forms.specs.declared.signature.ArgumentKind.TheVariants as kind
use Rattle.code_forms.specs.declared.operand.Argument.TheVariants as argument
use Rattle.code_forms.specs.declared.operand.Operand.{Operand}
use Rattle.code_forms.specs.declared.operand.Operand.TheVariants as operand
use Rattle.code_forms.specs.Taking.{all_taken}
use Rattle.node_tree.specs.Blocks.{alone}
use Rattle.node_tree.specs.Blocks as tree
use Rattle.carries_base.specs.Carries.{Carrier}
use Rattle.carries_base.specs.Laws.{while_block}
use Rattle.carries_control.specs.Raises.{assert_block}
use Rattle.carries_control.specs.Loops.{for_turn_block, for_block}
use Rattle.carries_control.specs.Tries.{try_block}
use Rattle.carries_control.specs.Finish.{guarded_block, finally_block, with_block}
use Rattle.carries_definitions.specs.Collected.{over_block}
use Rattle.carried_codes.specs.Clauses.{Bound, Clause, Bare, Class, Guard, Any, Only, name_clause, clause_body, guard, guards, handle, handles, try_block_of, try_except}
use Rattle.carried_contents.proofs.Held.{Held, Taken, AllTaken, stop, follow, one, both, choice, loop, catch, all_joined, redirected, done, clear}
use Rattle.carried_contents.proofs.Expressions.{stores_held, unbinds_taken, if_taken, native_held, stopped_taken}

pub while_taken : {inside : ℕ → Bool} (line over t : ℕ) (tb : tree.Block) (o : Operand) (bb ob : tree.Block) → Taken inside tb → Taken inside bb → Taken inside ob → Taken inside (while_block line over t tb o bb ob)
while_taken line over t tb o bb ob c d e =
    follow (done refl refl) (follow (loop (if_taken line t tb o _ _ c (one (loop (both d (clear refl refl)))) (clear refl refl))) (one (choice e stop)))

assertion_error : is_among built_in_names (codes "AssertionError") ≡ true
unfolding built_in_names
assertion_error = refl

texts_taken : (ps : List Carrier) → all_taken [] (Some kind.Value) (map (λ (p : Carrier). argument.Value p.value) ps) ≡ true
texts_taken [] = refl
texts_taken (p ∷ ps) = texts_taken ps

called_held : {inside : ℕ → Bool} (to line t : ℕ) (ps : List Carrier) → Held inside (tree.Do to line op.Call (tree.of_temp t ∷ map (λ (p : Carrier). argument.Value p.value) ps))
called_held to line t ps = done (ap (λ b. if not b then 1 else 0) (texts_taken ps)) refl

pub assert_taken : {inside : ℕ → Bool} (line t : ℕ) (tb : tree.Block) (o : Operand) (ps : List Carrier) → Taken inside tb → AllTaken inside ps → Taken inside (assert_block line t tb o ps)
assert_taken line t tb o ps c d =
    if_taken line t tb o _ _ c stop
    (all_joined ps _ d (follow (native_held (t + 1) line (codes "AssertionError") assertion_error) (follow (called_held (t + 1 + 1) line (t + 1) ps) (clear refl refl))))

-- Loops

for_turn_taken : {inside : ℕ → Bool} (line t item : ℕ) (bind bb : tree.Block) → Taken inside bind → Taken inside bb → Taken inside (for_turn_block line t item bind bb)
for_turn_taken line t item bind bb c d =
    follow (clear_attempt) (one (choice (stopped_taken line (t + 2) (t + 3) _ (clear refl refl)) (one (loop (both (both c d) (clear refl refl))))))
  where
    clear_attempt : {inside : ℕ → Bool} → Held inside (tree.Catch (t + 2) (alone (tree.Do item line op.Next (tree.of_temp t ∷ []))) (alone (tree.Constant (t + 1) (const.Bool true))))
    clear_attempt = done refl refl

pub for_taken : {inside : ℕ → Bool} (line t item : ℕ) (xb : tree.Block) (o : Operand) (bind bb ob : tree.Block) → Taken inside xb → Taken inside bind → Taken inside bb → Taken inside ob → Taken inside (for_block line t item xb o bind bb ob)
for_taken line t item xb o bind bb ob c d e f =
    both c (follow (done refl refl) (follow (done refl refl) (follow (loop (for_turn_taken line t item bind bb d e)) (one (choice f stop)))))

pub over_taken : {inside : ℕ → Bool} (line t item from : ℕ) (bind bb : tree.Block) → Taken inside bind → Taken inside bb → Taken inside (over_block line t item from bind bb)
over_taken line t item from bind bb c d = follow (done refl refl) (follow (done refl refl) (follow (loop (for_turn_taken line t item bind bb c d)) (one (choice stop stop))))

-- What runs after every end

guarded_taken : {inside : ℕ → Bool} (t : ℕ) (b : tree.Block) → Taken inside b → Taken inside (guarded_block t b)
guarded_taken t b c = follow (catch (redirected t b 0 c) (clear refl refl)) (clear refl refl)

pub finally_taken : {inside : ℕ → Bool} (t : ℕ) (bb lb : tree.Block) → Taken inside bb → Taken inside lb → Taken inside (finally_block t bb lb)
finally_taken t bb lb c d = follow (loop (guarded_taken t bb c)) (both d (clear refl refl))

pub with_taken : {inside : ℕ → Bool} (line t item : ℕ) (mb : tree.Block) (o : Operand) (bind bb : tree.Block) → Taken inside mb → Taken inside bind → Taken inside bb → Taken inside (with_block line t item mb o bind bb)
with_taken line t item mb o bind bb c d e =
    both c (follow (done refl refl) (follow (done refl refl) (follow (done refl refl) (follow (loop (guarded_taken t _ (both d e))) (clear refl refl)))))

-- Clauses

abbrev pub ClauseTaken : (ℕ → Bool) → Clause → Type 0
ClauseTaken inside (Bare caught b) = Taken inside b
ClauseTaken inside (Class line p caught name b) = Taken inside p.block × Taken inside b

abbrev GuardTaken : (ℕ → Bool) → Guard → Type 0
GuardTaken inside (Any caught b) = Taken inside b
GuardTaken inside (Only line p fits caught b) = Taken inside p.block × Taken inside b

clause_taken : {inside : ℕ → Bool} (caught : ℕ) (name : Option Bound) (b : tree.Block) (t : ℕ) → Taken inside b → Taken inside (clause_body caught name b t).block
unfolding name_clause
clause_taken caught None b t c = c
clause_taken caught (Some name) b t c =
    both (one (stores_held t name.line name.seat (operand.Temp caught)))
    (finally_taken (t + 3) b _ c (both (one (stores_held (t + 1) name.line name.seat (operand.Const const.None))) (unbinds_taken (t + 2) name.line name.seat)))

guard_taken : (inside : ℕ → Bool) (t : ℕ) (x : Clause) → ClauseTaken inside x → GuardTaken inside (guard t x).guard
guard_taken inside t (Bare caught b) c = c
guard_taken inside t (Class line p caught name b) c = (c.0, clause_taken caught name b t c.1)

guards_taken : (inside : ℕ → Bool) (t : ℕ) (cs : List Clause) → AllByRecursion (ClauseTaken inside) cs → AllByRecursion (GuardTaken inside) (guards t cs).parts
guards_taken inside t [] c = tt
guards_taken inside t (x ∷ cs) c = (guard_taken inside (guards t cs).next x c.0, guards_taken inside t cs c.1)

handle_taken : (inside : ℕ → Bool) (x : ℕ) (g : Guard) (rest : tree.Block) → GuardTaken inside g → Taken inside rest → Taken inside (handle x g rest)
handle_taken inside x (Any caught b) rest c d = follow (done refl refl) c
handle_taken inside x (Only line p fits caught b) rest c d = both c.0 (follow (done refl refl) (one (choice (follow (done refl refl) c.1) d)))

handles_taken : (inside : ℕ → Bool) (x : ℕ) (gs : List Guard) → AllByRecursion (GuardTaken inside) gs → Taken inside (handles x gs)
handles_taken inside x [] c = clear refl refl
handles_taken inside x (g ∷ gs) c = handle_taken inside x g (handles x gs) c.0 (handles_taken inside x gs c.1)

try_taken : {inside : ℕ → Bool} (t : ℕ) (bb hb ob : tree.Block) → Taken inside bb → Taken inside hb → Taken inside ob → Taken inside (try_block t bb hb ob)
try_taken t bb hb ob c d e = follow (done refl refl) (follow (catch c (clear refl refl)) (one (choice d e)))

pub try_except_taken : (inside : ℕ → Bool) (t : ℕ) (body : tree.Block) (cs : List Clause) (other : tree.Block) → Taken inside body → AllByRecursion (ClauseTaken inside) cs → Taken inside other → Taken inside (try_except t body cs other).block
unfolding try_block_of
try_except_taken inside t body cs other c d e = let gs = guards t cs in try_taken gs.next body _ other c (handles_taken inside gs.next gs.parts (guards_taken inside t cs d)) e
