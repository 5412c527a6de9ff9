-- Codes and the first lines of a text, each with the rest behind it.
use Rattle.std.specs.Prelude.{◌≡◌, ℕ, ◌+◌, ◌<◌, ◌≤◌, ◌^◌, List, [], ◌∷◌, ◌++◌, Bool, true, length, codes, decimal, IsUtf8}
use Rattle.std.specs.List.{AllByRecursion}
use Rattle.nu_text.specs.Pieces.{before}
use Rattle.nu_text.specs.Strings.{string_text}
use Rattle.nu_value.specs.declared.header.Header.{Header}
use Rattle.nu_value.specs.declared.header.ParamKind.{ParamKind}
use Rattle.code_forms.specs.Fits.{IsLine}
use Rattle.c_meaning.specs.Text.{numbered, params_text}
use Rattle.c_meaning.specs.Written.{IsNumber, IsParam, in_order}
use Rattle.node_tree.specs.declared.script.NodeCode.{NodeCode}
use Rattle.node_text.specs.Text.{kind_text, header_pieces, code_text}
use Rattle.node_text.specs.Written.{IsHeader, IsCode}

-- the first line of a code, as far as its kind
pub record FrontStands (number : ℕ) (text scope : List ℕ) (params : List (ParamKind × List ℕ)) (rest : List ℕ) : Type 0 where
  pub scope_is : IsUtf8 scope
  pub each : AllByRecursion IsParam params
  pub order : in_order 0 params ≡ true
  pub spelled : text ≡ before (codes "code " ∷ decimal number ∷ codes " " ∷ string_text scope ∷ codes " " ∷ string_text (params_text params) ∷ codes " " ∷ []) rest

-- its kind
pub record KindStands (text : List ℕ) (generator : Bool) (rest : List ℕ) : Type 0 where
  pub spelled : text ≡ before (kind_text generator ∷ codes " " ∷ []) rest

-- its kind, free cells and line
pub record BackStands (text : List ℕ) (generator : Bool) (free line : ℕ) (rest : List ℕ) : Type 0 where
  pub free_is : IsNumber free
  pub line_is : IsLine line
  pub spelled : text ≡ before (kind_text generator ∷ codes " " ∷ decimal free ∷ codes " " ∷ decimal line ∷ codes "\n" ∷ []) rest

-- its first line
pub record HeaderStands (number : ℕ) (text : List ℕ) (h : Header) (free : ℕ) (rest : List ℕ) : Type 0 where
  pub is : IsHeader h
  pub free_is : IsNumber free
  pub spelled : text ≡ before (header_pieces number h free) rest

-- a code, behind which no line of a statement follows
pub record CodeStands (number : ℕ) (text : List ℕ) (c : NodeCode) (rest : List ℕ) : Type 0 where
  pub is : IsCode c
  pub spelled : text ≡ code_text number c ++ rest
  pub all : (more : List ℕ) → rest ≡ codes "  " ++ more → ⊥

-- the numbers of codes
pub record CountsStand (text : List ℕ) (scripts builtins : ℕ) (rest : List ℕ) : Type 0 where
  pub scripts_are : scripts < 2 ^ 32
  pub builtins_are : builtins < 2 ^ 32
  pub few : scripts + builtins ≤ 2 ^ 32
  pub spelled : text ≡ before (decimal scripts ∷ codes " " ∷ decimal builtins ∷ codes "\n" ∷ []) rest

-- the first two lines
pub record HeadingStands (text name : List ℕ) (scripts builtins : ℕ) (rest : List ℕ) : Type 0 where
  pub utf8 : IsUtf8 name
  pub scripts_are : scripts < 2 ^ 32
  pub builtins_are : builtins < 2 ^ 32
  pub few : scripts + builtins ≤ 2 ^ 32
  pub spelled : text ≡ before (codes "nodes 1\n" ∷ codes "script " ∷ string_text name ∷ codes " " ∷ decimal scripts ∷ codes " " ∷ decimal builtins ∷ codes "\n" ∷ []) rest

-- all codes, so many, to the end of the text
pub record CodesStand (count : ℕ) (text : List ℕ) (codes : List NodeCode) : Type 0 where
  pub all : length codes ≡ count
  pub each : AllByRecursion IsCode codes
  pub spelled : text ≡ numbered code_text 0 codes

-- the second line
pub record ScriptStands (text name : List ℕ) (scripts builtins : ℕ) (rest : List ℕ) : Type 0 where
  pub utf8 : IsUtf8 name
  pub scripts_are : scripts < 2 ^ 32
  pub builtins_are : builtins < 2 ^ 32
  pub few : scripts + builtins ≤ 2 ^ 32
  pub spelled : text ≡ before (codes "script " ∷ string_text name ∷ codes " " ∷ decimal scripts ∷ codes " " ∷ decimal builtins ∷ codes "\n" ∷ []) rest
