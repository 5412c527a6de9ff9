-- Parameters, each with what follows.
use Rattle.std.specs.Prelude.{◌≡◌, ℕ, List, [], ◌∷◌, ◌++◌, Option, Some, None, true}
use Rattle.std.specs.Borrow.{Bor}
use Rattle.std.specs.List.{AllByRecursion, flat_map}
use Rattle.nu_text.specs.Strings.{string_text}
use Rattle.nu_value.specs.declared.header.ParamKind.{ParamKind}
use Rattle.c_meaning.specs.Text.{param_text, spaced_text, params_text}
use Rattle.c_meaning.specs.Written.{IsParam, in_order}

-- the space and what follows it, where there is one
abbrev pub left_text : Option (Bor (List ℕ)) → List ℕ
left_text None = []
left_text (Some behind) = 32 ∷ behind.now

-- nothing follows, or a space
abbrev pub EndsName : List ℕ → Type 0
EndsName [] = Unit {0}
EndsName (b ∷ text) = b ≡ 32

-- a parameter and what follows it
pub record ParamStands (text : List ℕ) (p : ParamKind × List ℕ) (rest : List ℕ) : Type 0 where
  pub is : IsParam p
  pub spelled : text ≡ param_text p ++ rest
  pub ends : EndsName rest

-- at least one parameter, each but the first behind a space
pub record AreSpelled (text : List ℕ) (params : List (ParamKind × List ℕ)) : Type 0 where
  pub each : AllByRecursion IsParam params
  pub spelled : 32 ∷ text ≡ flat_map spaced_text params

-- parameters between quotation marks
pub record ParamsStand (text : List ℕ) (params : List (ParamKind × List ℕ)) (rest : List ℕ) : Type 0 where
  pub each : AllByRecursion IsParam params
  pub order : in_order 0 params ≡ true
  pub spelled : text ≡ string_text (params_text params) ++ rest
