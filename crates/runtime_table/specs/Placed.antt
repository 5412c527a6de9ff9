-- Functions whose parameters all have places.
use Rattle.std.specs.Prelude.{ℕ, [], ◌∷◌, Bool, true, not, ◌&&◌, nat_eq, length}
use Rattle.nu_value.specs.declared.header.Header.{Header}
use Rattle.op_rules.specs.Binding.{ParamList, is_placed}

abbrev pub are_placed : ParamList → Bool
are_placed [] = true
are_placed (p ∷ ps) = is_placed p.0 && are_placed ps

-- a function is no generator's, and takes so many arguments and no others
abbrev pub takes_just : Header → ℕ → Bool
takes_just header count = not header.generator && (nat_eq (length header.params) count && are_placed header.params)
