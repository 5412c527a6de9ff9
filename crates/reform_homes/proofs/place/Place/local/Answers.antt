use Rattle.std.proofs.Common.{arith, ◌≡◌, ◌+◌, ◌∙◌, length}
use Rattle.py_meaning.specs.Scopes.{place_in}
use Rattle.reform_homes.proofs.Temps.{place_within, param_is, other_is}
use Rattle.reform_homes.proofs.place.Place.local.Goals as goal

pub overflow_add-result-in-None-2 : goal.overflow_add-result-in-None-2
overflow_add-result-in-None-2 c =
    omega (arith, c.self.invariant.room, place_within c.self.inside.others c.args.name.now, c.len.ensures, c.len-in-None.ensures, c.len-in-None-2.ensures, c.place.ensures)

pub returns-in-Some : goal.returns-in-Some
returns-in-Some c =
    rw (← c.self.view_is) (param_is c.self.inside.layout.now c.self.inside.this c.self.inside.scope.now c.self.inside.captured.now c.self.inside.free.now c.self.inside.params c.self.inside.own c.self.inside.others c.self.inside.homes.entries c.self.inside.class c.self.inside.first
    c.args.name.now c.in-Some.place c.self.invariant c.in-Some.ensures)

pub returns-in-None : goal.returns-in-None
returns-in-None c =
    let sum : c.len.result + c.len-in-None.result + c.len-in-None-2.result + c.place.result
    ≡ length c.self.inside.free.now + length c.self.inside.own + length c.self.inside.params + place_in c.self.inside.others c.args.name.now =
    omega (arith, c.len.ensures, c.len-in-None.ensures, c.len-in-None-2.ensures, c.place.ensures) in
    rw (← c.self.view_is) (sum ∙ other_is c.self.inside.layout.now c.self.inside.this c.self.inside.scope.now c.self.inside.captured.now c.self.inside.free.now c.self.inside.params c.self.inside.own c.self.inside.others c.self.inside.homes.entries c.self.inside.class c.self.inside.first
    c.args.name.now c.self.invariant c.in-None.ensures)
