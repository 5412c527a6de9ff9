-- When arguments fit an operation: it takes as many, each of the kind that it takes at that place.
use Rattle.std.specs.Prelude.{ℕ, pos, List, [], ◌∷◌, length, Option, Some, None, ℤ, Bool, true, false, ◌&&◌, nat_lt}
use Rattle.std.specs.List.{list_all}
use Rattle.nu_text.specs.Names.{is_among, built_in_names}
use Rattle.nu_value.specs.declared.value.Value.{Value}
use Rattle.nu_value.specs.declared.value.Value.TheVariants as value
use Rattle.nu_value.specs.declared.object.Object.{Object}
use Rattle.nu_value.specs.declared.object.Object.TheVariants as object
use Rattle.nu_value.specs.Pairs.{PairList}
use Rattle.nu_value.specs.View.{is_text}
use Rattle.nu_value.specs.Same.{number_of, object_of}
use Rattle.op_forms.specs.declared.op.Op.{Op}
use Rattle.op_forms.specs.declared.signature.ArgumentKind.{ArgumentKind}
use Rattle.op_forms.specs.declared.signature.ArgumentKind.TheVariants as kind
use Rattle.op_forms.specs.declared.world.World.{World}
use Rattle.op_forms.specs.Signature.{arguments, further}

-- a value other than Unset; the object that it names is there
abbrev pub is_in : ℕ → Value → Bool
is_in n value.Unset = false
is_in n (value.Obj number) = nat_lt number n
is_in n other = true

-- the name of a built-in
abbrev pub is_built_in : Value → Bool
is_built_in (value.Str text) = is_among built_in_names text
is_built_in other = false

abbrev pub is_bool : Value → Bool
is_bool (value.Bool b) = true
is_bool other = false

abbrev pub is_below : ℕ → Option ℤ → Bool
is_below n (Some (pos i)) = nat_lt i n
is_below n other = false

abbrev pub are_texts : PairList → Bool
are_texts [] = true
are_texts (p ∷ ps) = is_text p.1 && are_texts ps

abbrev pub is_cell : Option Object → Bool
is_cell (Some (object.Cell v)) = true
is_cell other = false

abbrev pub is_space : Option Object → Bool
is_space (Some (object.Space names)) = true
is_space other = false

abbrev pub is_tuple : Option Object → Bool
is_tuple (Some (object.Tuple items)) = true
is_tuple other = false

abbrev pub is_list : Option Object → Bool
is_list (Some (object.List items)) = true
is_list other = false

abbrev pub is_dict : Option Object → Bool
is_dict (Some (object.Dict pairs)) = true
is_dict other = false

abbrev pub are_keywords : Option Object → Bool
are_keywords (Some (object.Dict pairs)) = are_texts pairs
are_keywords other = false

abbrev pub is_exception : Option Object → Bool
is_exception (Some (object.Exception class args entries fields cause)) = true
is_exception other = false

abbrev pub is_of : ArgumentKind → World → Value → Bool
is_of kind.Name w v = is_text v
is_of kind.BuiltinName w v = is_built_in v
is_of kind.Value w v = is_in (length w.heap) v
is_of kind.Any w value.Unset = true
is_of kind.Any w v = is_in (length w.heap) v
is_of kind.Cell w v = is_cell (object_of w.heap v)
is_of kind.Space w v = is_space (object_of w.heap v)
is_of kind.Code w v = is_below (length w.codes) (number_of v)
is_of kind.Tuple w v = is_tuple (object_of w.heap v)
is_of kind.List w v = is_list (object_of w.heap v)
is_of kind.Dict w v = is_dict (object_of w.heap v)
is_of kind.Keywords w v = are_keywords (object_of w.heap v)
is_of kind.Bool w v = is_bool v
is_of kind.Exception w v = is_exception (object_of w.heap v)

abbrev pub further_fit : Option ArgumentKind → World → List Value → Bool
further_fit None w [] = true
further_fit None w (v ∷ vs) = false
further_fit (Some k) w vs = list_all (is_of k w) vs

abbrev pub fit : List ArgumentKind → Option ArgumentKind → World → List Value → Bool
fit [] more w vs = further_fit more w vs
fit (k ∷ ks) more w [] = false
fit (k ∷ ks) more w (v ∷ vs) = is_of k w v && fit ks more w vs

abbrev pub fits : Op → World → List Value → Bool
fits o w args = fit (arguments o) (further o) w args
