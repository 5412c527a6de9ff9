use Rattle.std.proofs.Common.{◌≡◌, true, cond, subst}
use Rattle.std.specs.Str.{bytes_eq}
use Rattle.reform_all.specs.Names.{has}
use Rattle.reform_all.proofs.Gained.{named}
use Rattle.reform_all.proofs.bound.Bound.note.Goals as goal

pub returns-in_ok-insert : goal.returns-in_ok-insert
returns-in_ok-insert c =
    named c.args.self.now (record { names = c.insert.new.self }) c.args.target.now c.in-Name.field-0 c.in-Name.name c.in-Name.is
    (λ x. subst (λ name. has (record { names = c.insert.new.self }) x ≡ cond (bytes_eq name x) true (has c.args.self.now x)) c.as_str.ensures
    (c.in_ok-insert.ensures.updates.0 (record c.as_str.result { now = x })))
