-- The primitive statements of each statement, of its parts and the next temporary (reference, chapters 7 and 8).
use Rattle.std.specs.Prelude.{ℕ, ◌+◌, List, Option, Some, None}
use Rattle.op_forms.specs.declared.op.Op.{Op}
use Rattle.code_forms.specs.declared.operand.Operand.{Operand}
use Rattle.code_forms.specs.declared.operand.Operand.TheVariants as operand
use Rattle.node_tree.specs.Blocks.{alone}
use Rattle.node_tree.specs.Blocks as tree
use Rattle.carries_base.specs.Carries.{Carrier}
use Rattle.carries_base.specs.Laws.{if_block, while_block}
use Rattle.carries_control.specs.Raises.{raise_block, assert_block}
use Rattle.carries_control.specs.Loops.{for_block}
use Rattle.carries_control.specs.Finish.{finally_block, with_block}
use Rattle.carries_definitions.specs.Collected.{push_block, entry_block, emit_block, filter_block, over_block, gathers_block}
use Rattle.carried_codes.specs.Parts.{Made, made}

unfoldable pub return_value : Carrier → ℕ → Made
return_value p t = made (tree.append p.block (alone (tree.Return p.value))) t

unfoldable pub raise_value : ℕ → Carrier → ℕ → Made
raise_value line p t = made (tree.append p.block (raise_block line t p.value)) (t + 2)

-- a bare `raise`, in an `except` clause whose exception is in this temporary
abbrev pub raise_again : Option ℕ → ℕ → Made
raise_again (Some caught) t = made (alone (tree.Raise (operand.Temp caught))) t
raise_again None t = made tree.Stop t

unfoldable pub assert_that : ℕ → Carrier → List Carrier → ℕ → Made
assert_that line p ps t = made (assert_block line t p.block p.value ps) (t + 5)

unfoldable pub branch : ℕ → Carrier → tree.Block → tree.Block → ℕ → Made
branch line p b c t = made (if_block line t p.block p.value b c) (t + 1)

unfoldable pub while_loop : ℕ → Carrier → tree.Block → tree.Block → ℕ → Made
while_loop line p b c t = made (while_block line t (t + 1) p.block p.value b c) (t + 1 + 1)

-- each value of the iterator goes to the temporary `item`, and from there on by `bind`
unfoldable pub for_loop : ℕ → Carrier → ℕ → tree.Block → tree.Block → tree.Block → ℕ → Made
for_loop line p item bind b c t = made (for_block line t item p.block p.value bind b c) (t + 5)

unfoldable pub try_finally : tree.Block → tree.Block → ℕ → Made
try_finally b c t = made (finally_block t b c) (t + 5)

-- what `__enter__` gives goes to the temporary `item`, and from there on by `bind`
unfoldable pub with_item : ℕ → Carrier → ℕ → tree.Block → tree.Block → ℕ → Made
with_item line p item bind b t = made (with_block line t item p.block p.value bind b) (t + 11)

-- Comprehensions, inside (section 6.2.4)

-- what they collect into is in an operand
unfoldable pub push : ℕ → Operand → Carrier → ℕ → Made
push line into p t = made (push_block line t into p.block p.value) (t + 1)

unfoldable pub put : ℕ → Operand → Carrier → Carrier → ℕ → Made
put line into k p t = made (entry_block line t into k.block k.value p.block p.value) (t + 1)

unfoldable pub emit : ℕ → Carrier → ℕ → Made
emit line p t = made (emit_block line t p.block p.value) (t + 1)

unfoldable pub filter : ℕ → Carrier → tree.Block → ℕ → Made
filter line p b t = made (filter_block line t p.block p.value b) (t + 1)

-- the loop over the iterator in the temporary `from`
unfoldable pub over : ℕ → ℕ → ℕ → tree.Block → tree.Block → ℕ → tree.Block
over line item from bind b t = over_block line t item from bind b

unfoldable pub gather : ℕ → ℕ → Op → tree.Block → tree.Block
gather line into o b = gathers_block line into o b
