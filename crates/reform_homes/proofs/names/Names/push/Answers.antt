use Rattle.std.proofs.Common.{rules}
use Rattle.reform_homes.proofs.Places.{pushed, kept}
use Rattle.reform_homes.proofs.names.Names.push.Goals as goal

pub invariant_of-self-in-Ok : goal.invariant_of-self-in-Ok
invariant_of-self-in-Ok c =
    pushed c.self.inside.places.entries c.number.new.numbers.entries c.self.inside.list.items c.push.new.self.items c.args.name.now c.in_ok-share.field-0 c.len-place.result
    c.self.invariant c.in_ok-push.ensures.items c.in_ok-share.ensures (search rules) c.in-Ok.ensures.ok

pub invariant_of-self-in-Err : goal.invariant_of-self-in-Err
invariant_of-self-in-Err c =
    kept c.self.inside.places.entries c.number.new.numbers.entries c.self.inside.list.items c.push.new.self.items c.truncate.new.self.items c.in_ok-share.field-0 c.len-place.result
    c.self.invariant c.in-Err.ensures.err c.in_ok-push.ensures.items (search rules) c.truncate.ensures.items
