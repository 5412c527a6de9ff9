-- Decorators, as the laws read them, and those that are evaluated already.
use Rattle.std.specs.Prelude.{◌+◌, List, [], ◌∷◌, length}
use Rattle.op_forms.specs.declared.op.Op.TheVariants as op
use Rattle.code_forms.specs.declared.operand.Argument.TheVariants as argument
use Rattle.code_forms.specs.declared.operand.Operand.TheVariants as operand
use Rattle.node_tree.specs.Blocks.{alone}
use Rattle.node_tree.specs.Blocks as tree
use Rattle.carried_codes.specs.Parts as parts
use Rattle.carried_codes.specs.Expressions.{decorated_at, decorated_block}
use Rattle.reform_blocks.specs.Parts.{carrier}
use Rattle.reform_functions.specs.declared.decorators.Decorator.{Decorator}
use Rattle.reform_functions.specs.declared.decorators.Mark.{Mark}

abbrev pub decorator_of : Decorator → parts.Decorator
decorator_of d = record { line = d.line; part = carrier d.part }

-- without its block
abbrev pub bare : parts.Decorator → parts.Decorator
bare d = record { line = d.line; part = parts.part tree.Stop d.part.value }

abbrev pub mark_of : Mark → parts.Decorator
mark_of m = record { line = m.line; part = parts.part tree.Stop m.value }

-- what is left in an operand is decorated by one of them, and by all, the last of them first
abbrev pub decorated_by : parts.Valued → parts.Decorator → parts.Valued
decorated_by v d =
    parts.valued (tree.append v.part.block (alone (tree.Do v.next d.line op.Call (argument.Value d.part.value ∷ argument.Value v.part.value ∷ [])))) (operand.Temp v.next) (v.next + 1)

abbrev pub decorated_by_all : parts.Valued → List parts.Decorator → parts.Valued
decorated_by_all v ds =
    parts.valued (tree.append v.part.block (decorated_block v.next ds v.part.value)) (decorated_at v.next ds v.part.value) (v.next + length ds)
