use Rattle.std.proofs.Common.{[], map, sym, subst}
use Rattle.std.specs.Prelude.{OnOk}
use Rattle.std.proofs.lemmas.Result.{on_ok_weaker}
use Rattle.py_scopes.specs.Parts.{branch_of}
use Rattle.reform_all.specs.Built as built
use Rattle.reform_all.specs.Names.{Gains}
use Rattle.reform_all.proofs.Gained.{both, if_binds, while_binds}
use Rattle.reform_all.proofs.bound.Bound.+walk.Goals as goal

pub note_statement-returns-in_ok-note_branches-in-If : goal.note_statement-returns-in_ok-note_branches-in-If
note_statement-returns-in_ok-note_branches-in-If t c =
    let old = c.args.self.now in
    let mid = c.note_branches.new.self in
    let new = c.note_all.new.self in
    subst (λ names. OnOk c.note_all.result (Gains old new names)) (sym (if_binds c.args.s.now c.in-If.field-0 c.in-If.branches c.in-If.other c.in-If.is))
    (on_ok_weaker c.note_all.result
    (both old mid new (built.branches_bind (map (branch_of built.stmt) c.in-If.branches) []) (built.all_binds (map built.stmt c.in-If.other))
    (subst (λ bs. Gains old mid (built.branches_bind (map (branch_of built.stmt) bs) [])) c.as_slice-in-If.ensures c.in_ok-note_branches-in-If.ensures))
    (subst (λ ss. OnOk c.note_all.result (Gains mid new (built.all_binds (map built.stmt ss)))) c.as_slice-in-If-2.ensures c.note_all.ensures))

pub note_statement-returns-in_ok-note_all-in-While : goal.note_statement-returns-in_ok-note_all-in-While
note_statement-returns-in_ok-note_all-in-While t c =
    let old = c.args.self.now in
    let mid = c.note_all-in-While.new.self in
    let new = c.note_all-in-While-2.new.self in
    subst (λ names. OnOk c.note_all-in-While-2.result (Gains old new names)) (sym (while_binds c.args.s.now c.in-While.field-0 c.in-While.field-1 c.in-While.body c.in-While.other c.in-While.is))
    (on_ok_weaker c.note_all-in-While-2.result
    (both old mid new (built.all_binds (map built.stmt c.in-While.body)) (built.all_binds (map built.stmt c.in-While.other))
    (subst (λ ss. Gains old mid (built.all_binds (map built.stmt ss))) c.as_slice-in-While.ensures c.in_ok-note_all-in-While.ensures))
    (subst (λ ss. OnOk c.note_all-in-While-2.result (Gains mid new (built.all_binds (map built.stmt ss)))) c.as_slice-in-While-2.ensures c.note_all-in-While-2.ensures))
