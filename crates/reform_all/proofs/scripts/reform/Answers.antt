use Rattle.std.proofs.Common.{[], ◌∷◌, ◌++◌, ap, ◌∙◌, subst, Ok}
use Rattle.reform_all.specs.Built.{bound_in}
use Rattle.reform_all.specs.Statements.{AllStated}
use Rattle.reform_all.proofs.ModuleReformed.{script_reformed}
use Rattle.reform_all.proofs.scripts.reform.Goals as goal

pub returns : goal.returns
returns c =
    let ss = c.args.script.now.script.statements in
    let new = c.statements.new.temps in
    let body = c.in_ok-body.body in
    script_reformed c.args.name.now c.args.script.now c.requires new body c.in_ok-from_str.field-0 c.push.new.self c.in_ok-from_str.ensures
    (c.in_ok-push.ensures.ok ∙ ap (λ codes. codes ++ c.in_ok-module.field-0 ∷ []) c.new-codes.ensures ∙ ap (λ code. code ∷ []) c.in_ok-module.ensures)
    (subst (λ old. AllStated (bound_in ss) ss old new (Ok body)) c.new-temps.ensures
    (subst (λ xs. AllStated (bound_in xs) xs c.new-temps.result new (Ok body)) c.as_slice-ss.ensures
    (c.in_ok-body.ensures (bound_in c.as_slice-ss.result.now) c.in_ok-bound.ensures)))
