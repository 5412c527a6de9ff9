use Rattle.std.proofs.Common.{rules, ◌≡◌, Some, slice_get, arith}
use Rattle.std.proofs.lemmas.Option.{gets}
use Rattle.reform_homes.proofs.Standing.{captured_at}
use Rattle.reform_homes.proofs.layout.Layout.captured.Goals as goal

pub returns-in-Some : goal.returns-in-Some
returns-in-Some c =
    let at : slice_get c.self.inside.captured.items c.args.this ≡ Some c.in-Some.names.now = first_of (search rules, grind (arith, gets)) in
    rw (← c.self.view_is) (captured_at c.self.inside.scopes.now c.self.inside.captured.items c.args.this c.in-Some.names.now c.self.invariant.0 at)
