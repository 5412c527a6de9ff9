-- Values of arguments one after another.
use Rattle.std.proofs.Common.{◌≡◌, List, [], ◌∷◌, ◌++◌, Option, Some, None, refl, append_assoc, ap, true}
use Rattle.std.proofs.lemmas.List.{append-nil}
use Rattle.nu_value.specs.declared.value.Value.{Value}
use Rattle.c_meaning.specs.Step.{both}
use Rattle.c_machine.specs.Values.{after_values, some_if}

pub after_more : (vs : List Value) (v : Value) (o : Option (List Value)) → after_values vs (both (Some v) o) ≡ after_values (vs ++ v ∷ []) o
after_more vs v None = refl
after_more vs v (Some ws) = rw append_assoc refl

pub after_none : (vs : List Value) (o : Option (List Value)) → after_values vs (both None o) ≡ None
after_none vs o = refl

pub after_all : (vs : List Value) → after_values vs (Some []) ≡ some_if true vs
after_all vs = ap Some (append-nil vs)
