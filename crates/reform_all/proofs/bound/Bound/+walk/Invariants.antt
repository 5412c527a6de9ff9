use Rattle.std.proofs.Common.{◌+◌, ◌++◌, [], map, drop}
use Rattle.py_scopes.specs.Parts.{branch_of}
use Rattle.reform_all.specs.Built as built
use Rattle.reform_all.proofs.Gained.{Ahead}
use Rattle.reform_all.proofs.bound.Bound.+walk.Given as goal

abbrev pub invariant-note_all-loop-s : goal.invariant-note_all-loop-s
invariant-note_all-loop-s l = Ahead l.fn.self l.self (built.all_binds (map built.stmt l.statements)) (built.all_binds (map built.stmt (drop l.s-index l.statements)))

abbrev pub invariant-note_branches-loop-branch : goal.invariant-note_branches-loop-branch
invariant-note_branches-loop-branch l = Ahead l.fn.self l.self
    (built.branches_bind (map (branch_of built.stmt) l.branches) [])
    (built.branches_bind (map (branch_of built.stmt) (drop l.branch-index l.branches)) [])

abbrev pub invariant-note_branches-loop-s : goal.invariant-note_branches-loop-s
invariant-note_branches-loop-s l = Ahead l.fn.self l.self
    (built.branches_bind (map (branch_of built.stmt) l.branches) [])
    (built.all_binds (map built.stmt (drop l.s-index l.s-items)) ++ built.branches_bind (map (branch_of built.stmt) (drop (l.branch-index + 1) l.branches)) [])
