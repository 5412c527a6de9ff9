-- What a walk has made, as the laws read it.
use Rattle.std.specs.Prelude.{map}
use Rattle.walk_laws.specs.States.{State, seen}
use Rattle.reform_walk.specs.declared.state.Walk.{Walk}

abbrev pub state_of : Walk → State
state_of w = record { temp = w.next; scope = w.scope; codes = map seen w.codes }
