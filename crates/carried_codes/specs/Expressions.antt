-- The primitive statements of each expression, of its parts and the next temporary (reference, chapter 6).
use Rattle.std.specs.Prelude.{ℕ, ◌+◌, pos, List, [], ◌∷◌, map, length, Bool, true, false}
use Rattle.op_forms.specs.declared.constant.Const.TheVariants as const
use Rattle.op_forms.specs.declared.op.Op.{Op}
use Rattle.op_forms.specs.declared.op.Op.TheVariants as op
use Rattle.code_forms.specs.declared.operand.Argument.TheVariants as argument
use Rattle.code_forms.specs.declared.operand.Operand.{Operand}
use Rattle.code_forms.specs.declared.operand.Operand.TheVariants as operand
use Rattle.node_tree.specs.Blocks.{alone, of_temp}
use Rattle.node_tree.specs.Blocks as tree
use Rattle.carries_base.specs.Carries.{Carrier, joined}
use Rattle.carries_values.specs.Choices.{Linked, junction_block, conditional_block, comparison_block}
use Rattle.carries_values.specs.Displays.{Item, Entry, list_block, tuple_block, dict_block}
use Rattle.carries_values.specs.Calls.{Passed, call_block}
use Rattle.carries_definitions.specs.Delegated.{delegate_block}
use Rattle.carries_definitions.specs.Told.{sent_block, thrown_block}
use Rattle.carried_codes.specs.Seats.{Seat, reads}
use Rattle.carried_codes.specs.Operations.{does}
use Rattle.carried_codes.specs.Parts.{Valued, valued, Named, Decorator}

-- a name is read (section 6.2.1)
unfoldable pub name : ℕ → Seat → ℕ → Valued
name line s t = valued (alone (reads t line s)) (operand.Temp t) (t + 1)

-- operands from left to right, then an operation on them
unfoldable pub operate : ℕ → Op → List Carrier → ℕ → Valued
operate line o ps t = valued (joined ps (alone (does t line o (map (λ p. p.value) ps)))) (operand.Temp t) (t + 1)

-- `or` where `any` is true, else `and` (section 6.11)
unfoldable pub both : ℕ → Bool → Carrier → Carrier → ℕ → Valued
both line any p q t = valued (junction_block line t any p q) (operand.Temp (t + 1)) (t + 2)

-- a conditional expression (section 6.12)
unfoldable pub choose : ℕ → Carrier → Carrier → Carrier → ℕ → Valued
choose line test p q t = valued (conditional_block line t test p q) (operand.Temp (t + 1)) (t + 2)

-- a chain of comparisons (section 6.10)
unfoldable pub chain : ℕ → Carrier → List Linked → ℕ → Valued
chain line p ls t = valued (comparison_block line t p ls) (operand.Temp t) (t + 2)

-- a list or a tuple with a star in it (sections 6.2.5 and 6.15)
unfoldable pub starred : ℕ → Bool → List Item → ℕ → Valued
starred line false items t = valued (list_block line t items) (operand.Temp t) (t + 2)
starred line true items t = valued (tree.append (list_block line t items) (tuple_block line t)) (operand.Temp (t + 2)) (t + 3)

-- a dict (section 6.2.7)
unfoldable pub dict : ℕ → List Entry → ℕ → Valued
dict line entries t = valued (dict_block line t entries) (operand.Temp t) (t + 2)

-- a call with stars or keywords (section 6.3.4)
unfoldable pub call : ℕ → Carrier → List Passed → ℕ → Valued
call line f args t = valued (call_block line t f args) (operand.Temp (t + 3)) (t + 4)

-- Functions (sections 6.14 and 8.7)

-- values go into a dict under their names, by temporaries from this one on
abbrev pub puts : ℕ → ℕ → ℕ → List Named → tree.Block
puts line dict to [] = tree.Stop
puts line dict to (k ∷ ks) =
    tree.Follow (tree.Do to line op.Put (of_temp dict ∷ argument.Value (operand.Const (const.Str k.name)) ∷ argument.Value k.part.value ∷ [])) (puts line dict (to + 1) ks)

-- a function of a code, whose defaults, dict of defaults and cells are in these temporaries
abbrev pub function_form : ℕ → ℕ → ℕ → ℕ → ℕ → List ℕ → tree.Form
function_form to line code defaults keywords cells =
    tree.Do to line op.Func (argument.Value (operand.Const (const.Int (pos code))) ∷ of_temp defaults ∷ of_temp keywords ∷ map of_temp cells)

-- what follows the values of defaults
abbrev pub function_block : ℕ → ℕ → List Carrier → List Named → List ℕ → ℕ → tree.Block
function_block line code ps ks cells t =
    tree.Follow (tree.Do t line op.Tuple (map (λ p. argument.Value p.value) ps)) (tree.Follow (tree.Do (t + 1) line op.Dict [])
    (tree.append (puts line (t + 1) (t + 2) ks) (alone (function_form (t + 2 + length ks) line code t (t + 1) cells))))

unfoldable pub function : ℕ → ℕ → List Carrier → List Named → List ℕ → ℕ → Valued
function line code ps ks cells t =
    valued (joined ps (joined (map (λ k. k.part) ks) (function_block line code ps ks cells t))) (operand.Temp (t + 2 + length ks)) (t + 2 + length ks + 1)

-- a value is decorated, by a temporary for each decorator, the last of them first (section 8.7)
abbrev pub decorated_at : ℕ → List Decorator → Operand → Operand
decorated_at t [] o = o
decorated_at t (d ∷ ds) o = operand.Temp (t + length ds)

abbrev pub decorated_block : ℕ → List Decorator → Operand → tree.Block
decorated_block t [] o = tree.Stop
decorated_block t (d ∷ ds) o =
    tree.append (decorated_block t ds o) (alone (tree.Do (t + length ds) d.line op.Call (argument.Value d.part.value ∷ argument.Value (decorated_at t ds o) ∷ [])))

-- the decorators are evaluated, then what they decorate
unfoldable pub decorate : List Decorator → Carrier → ℕ → Valued
decorate ds p t =
    valued (joined (map (λ d. d.part) ds) (tree.append p.block (decorated_block t ds p.value))) (decorated_at t ds p.value) (t + length ds)

-- a comprehension or generator expression, where it stands (section 6.2.4)
unfoldable pub comprehension : ℕ → ℕ → Carrier → List ℕ → ℕ → Valued
comprehension line code p cells t =
    valued
    (tree.append p.block (tree.Follow (tree.Do t line op.Iter (argument.Value p.value ∷ []))
    (tree.append (function_block line code [] [] cells (t + 1)) (alone (tree.Do (t + 4) line op.Call (of_temp (t + 1 + 2) ∷ of_temp t ∷ []))))))
    (operand.Temp (t + 4)) (t + 5)

-- Pauses (section 6.2.9)

unfoldable pub yield_value : ℕ → Carrier → ℕ → Valued
yield_value line p t = valued (tree.append p.block (alone (tree.Yield t line p.value))) (operand.Temp t) (t + 1)

-- `yield from`
unfoldable pub delegate : ℕ → Carrier → ℕ → Valued
delegate line p t = valued (delegate_block line t p.block p.value (sent_block line t) (thrown_block line t)) (operand.Temp (t + 7)) (t + 13)

-- Classes (section 8.8)

-- its names, the function of its code, which is called with them, and the class
abbrev pub class_block : ℕ → ℕ → List ℕ → List ℕ → Operand → ℕ → tree.Block
class_block line code name cells base t =
    tree.Follow (tree.Do t line op.Space []) (tree.append (function_block line code [] [] cells (t + 1))
    (tree.Follow (tree.Do (t + 4) line op.Call (of_temp (t + 1 + 2) ∷ of_temp t ∷ []))
    (alone (tree.Do (t + 5) line op.Class (argument.Name name ∷ argument.Value base ∷ of_temp t ∷ [])))))

unfoldable pub make_class : ℕ → ℕ → List ℕ → List Decorator → Carrier → List ℕ → ℕ → Valued
make_class line code name ds base cells t =
    valued
    (joined (map (λ d. d.part) ds) (tree.append base.block (tree.append (class_block line code name cells base.value t) (decorated_block (t + 6) ds (operand.Temp (t + 5))))))
    (decorated_at (t + 6) ds (operand.Temp (t + 5))) (t + 6 + length ds)
