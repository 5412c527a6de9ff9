use Rattle.std.proofs.Common.{◌≡◌, ◌++◌, map, drop, false}
use Rattle.py_scopes.specs.Parts as parts
use Rattle.op_forms.specs.declared.op.Op.TheVariants as op
use Rattle.carried_codes.specs.Expressions as expressions
use Rattle.walk_laws.specs.Expressions as spec
use Rattle.walk_laws.specs.States.{valued}
use Rattle.reform_blocks.specs.Parts.{carrier}
use Rattle.reform_functions.specs.Names.{named_of}
use Rattle.reform_values.specs.Filling.{item_of, entry_of}
use Rattle.reform_values.specs.Linking.{linked_of}
use Rattle.reform_values.specs.Passing.{passed_of}
use Rattle.reform_walk.specs.Made.{aim_of, turn_of}
use Rattle.reform_walk.specs.States.{state_of}
use Rattle.reform_walk.proofs.state.Walk.+walk.Given as goal

abbrev pub invariant-items-loop-x : goal.invariant-items-loop-x
invariant-items-loop-x g l = record {
  is : (spec.items (g.H.Here.context l.here) (map (parts.item_of spec.expr) l.xs) (state_of l.fn.self)).is ≡ map item_of l.items.items ++ (spec.items (g.H.Here.context l.here) (map (parts.item_of spec.expr) (drop l.x-index l.xs)) (state_of l.self)).is;
  state : (spec.items (g.H.Here.context l.here) (map (parts.item_of spec.expr) l.xs) (state_of l.fn.self)).state ≡ (spec.items (g.H.Here.context l.here) (map (parts.item_of spec.expr) (drop l.x-index l.xs)) (state_of l.self)).state;
}

abbrev pub invariant-aims-loop-x : goal.invariant-aims-loop-x
invariant-aims-loop-x g l = record {
  is : (spec.aims (g.H.Here.context l.here) (map (parts.item_of spec.expr) l.xs) (state_of l.fn.self)).is ≡ map aim_of l.aims.items ++ (spec.aims (g.H.Here.context l.here) (map (parts.item_of spec.expr) (drop l.x-index l.xs)) (state_of l.self)).is;
  state : (spec.aims (g.H.Here.context l.here) (map (parts.item_of spec.expr) l.xs) (state_of l.fn.self)).state ≡ (spec.aims (g.H.Here.context l.here) (map (parts.item_of spec.expr) (drop l.x-index l.xs)) (state_of l.self)).state;
}

abbrev pub invariant-entries-loop-x : goal.invariant-entries-loop-x
invariant-entries-loop-x g l = record {
  is : (spec.entries (g.H.Here.context l.here) (map (parts.entry_of spec.expr) l.xs) (state_of l.fn.self)).is ≡ map entry_of l.entries.items ++ (spec.entries (g.H.Here.context l.here) (map (parts.entry_of spec.expr) (drop l.x-index l.xs)) (state_of l.self)).is;
  state : (spec.entries (g.H.Here.context l.here) (map (parts.entry_of spec.expr) l.xs) (state_of l.fn.self)).state ≡ (spec.entries (g.H.Here.context l.here) (map (parts.entry_of spec.expr) (drop l.x-index l.xs)) (state_of l.self)).state;
}

abbrev pub invariant-links-loop-x : goal.invariant-links-loop-x
invariant-links-loop-x g l = record {
  is : (spec.links (g.H.Here.context l.here) (map (parts.link_of spec.expr) l.xs) (state_of l.fn.self)).is ≡ map linked_of l.links.items ++ (spec.links (g.H.Here.context l.here) (map (parts.link_of spec.expr) (drop l.x-index l.xs)) (state_of l.self)).is;
  state : (spec.links (g.H.Here.context l.here) (map (parts.link_of spec.expr) l.xs) (state_of l.fn.self)).state ≡ (spec.links (g.H.Here.context l.here) (map (parts.link_of spec.expr) (drop l.x-index l.xs)) (state_of l.self)).state;
}

abbrev pub invariant-arguments-loop-x : goal.invariant-arguments-loop-x
invariant-arguments-loop-x g l = record {
  is : (spec.arguments (g.H.Here.context l.here) (map (parts.argument_of spec.expr) l.xs) (state_of l.fn.self)).is ≡ map passed_of l.passed.items ++ (spec.arguments (g.H.Here.context l.here) (map (parts.argument_of spec.expr) (drop l.x-index l.xs)) (state_of l.self)).is;
  state : (spec.arguments (g.H.Here.context l.here) (map (parts.argument_of spec.expr) l.xs) (state_of l.fn.self)).state ≡ (spec.arguments (g.H.Here.context l.here) (map (parts.argument_of spec.expr) (drop l.x-index l.xs)) (state_of l.self)).state;
}

abbrev pub invariant-turns-loop-clause : goal.invariant-turns-loop-clause
invariant-turns-loop-clause g l = record {
  is : (spec.turns (g.H.Here.context l.here) (map (parts.clause_of spec.expr) l.clauses.more) (state_of l.fn.self)).is ≡ map turn_of l.turns.items ++ (spec.turns (g.H.Here.context l.here) (map (parts.clause_of spec.expr) (drop l.clause-index l.clause-items)) (state_of l.self)).is;
  state : (spec.turns (g.H.Here.context l.here) (map (parts.clause_of spec.expr) l.clauses.more) (state_of l.fn.self)).state ≡ (spec.turns (g.H.Here.context l.here) (map (parts.clause_of spec.expr) (drop l.clause-index l.clause-items)) (state_of l.self)).state;
}

abbrev pub invariant-defaults-loop-param : goal.invariant-defaults-loop-param
invariant-defaults-loop-param g l = record {
  positional : (spec.defaults (g.H.Here.context l.here) false (map (parts.param_of spec.expr) l.params) (state_of l.fn.self)).is.positional ≡ map carrier l.positional.items ++ (spec.defaults (g.H.Here.context l.here) l.behind (map (parts.param_of spec.expr) (drop l.param-index l.params)) (state_of l.self)).is.positional;
  named : (spec.defaults (g.H.Here.context l.here) false (map (parts.param_of spec.expr) l.params) (state_of l.fn.self)).is.named ≡ map named_of l.named.items ++ (spec.defaults (g.H.Here.context l.here) l.behind (map (parts.param_of spec.expr) (drop l.param-index l.params)) (state_of l.self)).is.named;
  state : (spec.defaults (g.H.Here.context l.here) false (map (parts.param_of spec.expr) l.params) (state_of l.fn.self)).state ≡ (spec.defaults (g.H.Here.context l.here) l.behind (map (parts.param_of spec.expr) (drop l.param-index l.params)) (state_of l.self)).state;
}

abbrev pub invariant-subscript-loop-x : goal.invariant-subscript-loop-x
invariant-subscript-loop-x g l =
    spec.operand_at (g.H.Here.context l.here) l.line (parts.subscript_of spec.expr l.at) (state_of l.fn.self)
    ≡ (let ps = spec.values (g.H.Here.context l.here) (map spec.expr (drop l.x-index l.x-items)) (state_of l.self) in valued (expressions.operate l.line op.Tuple (map carrier l.parts.items ++ ps.is)) ps.state)
