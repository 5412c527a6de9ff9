use Rattle.std.proofs.Common.{◌≡◌, map, drop, false}
use Rattle.py_scopes.specs.Parts as parts
use Rattle.py_scopes.specs.Survey as spec
use Rattle.py_scopes.proofs.surveyor.Surveyor.+walk.Given as goal

abbrev pub invariant-items-loop-x : goal.invariant-items-loop-x
invariant-items-loop-x l = spec.items l.role false (map (parts.item_of spec.expr) l.xs) l.place l.fn.self.survey ≡ spec.items l.role l.has_star (map (parts.item_of spec.expr) (drop l.x-index l.xs)) l.place l.self.survey

abbrev pub invariant-entries-loop-entry : goal.invariant-entries-loop-entry
invariant-entries-loop-entry l = spec.all (map spec.entry_adds (map (parts.entry_of spec.expr) l.entries)) l.place l.fn.self.survey ≡ spec.all (map spec.entry_adds (map (parts.entry_of spec.expr) (drop l.entry-index l.entries))) l.place l.self.survey

abbrev pub invariant-links-loop-link : goal.invariant-links-loop-link
invariant-links-loop-link l = spec.all (map spec.link_adds (map (parts.link_of spec.expr) l.links)) l.place l.fn.self.survey ≡ spec.all (map spec.link_adds (map (parts.link_of spec.expr) (drop l.link-index l.links))) l.place l.self.survey

abbrev pub invariant-arguments-loop-argument : goal.invariant-arguments-loop-argument
invariant-arguments-loop-argument l = spec.arguments l.fn.line (map (parts.argument_of spec.expr) l.arguments) l.place l.fn.self.survey ≡ spec.all (map (spec.argument_adds l.start) (map (parts.argument_of spec.expr) (drop l.argument-index l.arguments))) l.place l.self.survey

abbrev pub invariant-params-loop-param : goal.invariant-params-loop-param
invariant-params-loop-param l = spec.all (map (spec.param_adds l.own) (map (parts.param_of spec.expr) l.params)) l.place l.fn.self.survey ≡ spec.all (map (spec.param_adds l.own) (map (parts.param_of spec.expr) (drop l.param-index l.params))) l.place l.self.survey

abbrev pub invariant-clauses-loop-clause : goal.invariant-clauses-loop-clause
invariant-clauses-loop-clause l = spec.clauses_add l.own (parts.clauses_of spec.expr l.clauses) l.fn.place l.fn.self.survey ≡ spec.all (map spec.clause_adds (map (parts.clause_of spec.expr) (drop l.clause-index l.clauses.more))) l.own l.self.survey

abbrev pub invariant-subscript-loop-x : goal.invariant-subscript-loop-x
invariant-subscript-loop-x l = spec.subscripts (parts.subscript_of spec.expr l.at) l.place l.fn.self.survey ≡ spec.values (map spec.expr (drop l.x-index l.x-items)) l.place l.self.survey
