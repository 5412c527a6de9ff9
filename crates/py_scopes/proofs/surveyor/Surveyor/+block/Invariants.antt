use Rattle.std.proofs.Common.{◌≡◌, ◌+◌, map, drop}
use Rattle.py_scopes.specs.Parts as parts
use Rattle.py_scopes.specs.Survey as spec
use Rattle.py_scopes.proofs.surveyor.Surveyor.+block.Given as goal

abbrev pub invariant-stmts-loop-x : goal.invariant-stmts-loop-x
invariant-stmts-loop-x l = spec.stmts l.xs l.place l.fn.self.survey ≡ spec.stmts (drop l.x-index l.xs) l.place l.self.survey

abbrev pub invariant-branches-loop-branch : goal.invariant-branches-loop-branch
invariant-branches-loop-branch l = spec.all (map spec.branch_adds (map (parts.branch_of spec.stmt) l.branches)) l.place l.fn.self.survey ≡ spec.all (map spec.branch_adds (map (parts.branch_of spec.stmt) (drop l.branch-index l.branches))) l.place l.self.survey

abbrev pub invariant-handlers-loop-handler : goal.invariant-handlers-loop-handler
invariant-handlers-loop-handler l = spec.all (map spec.handler_adds (map (parts.handler_of spec.stmt) l.handlers)) l.place l.fn.self.survey ≡ spec.all (map spec.handler_adds (map (parts.handler_of spec.stmt) (drop l.handler-index l.handlers))) l.place l.self.survey

abbrev pub invariant-branches-loop-x : goal.invariant-branches-loop-x
invariant-branches-loop-x l = spec.all (map spec.branch_adds (map (parts.branch_of spec.stmt) l.branches)) l.place l.fn.self.survey ≡ spec.all (map spec.branch_adds (map (parts.branch_of spec.stmt) (drop (l.branch-index + 1) l.branches))) l.place (spec.stmts (drop l.x-index l.x-items) l.place l.self.survey)

abbrev pub invariant-handlers-loop-x : goal.invariant-handlers-loop-x
invariant-handlers-loop-x l = spec.all (map spec.handler_adds (map (parts.handler_of spec.stmt) l.handlers)) l.place l.fn.self.survey ≡ spec.all (map spec.handler_adds (map (parts.handler_of spec.stmt) (drop (l.handler-index + 1) l.handlers))) l.place (spec.stmts (drop l.x-index l.x-items) l.inside l.self.survey)
