-- Functions at the front of a text, in their parts, each with the rest behind it.
use Rattle.std.specs.Prelude.{◌≡◌, ℕ, ◌<◌, List, [], ◌∷◌, ◌++◌, Bool, true, codes, decimal, IsUtf8}
use Rattle.std.specs.List.{AllByRecursion, flat_map}
use Rattle.nu_text.specs.Pieces.{before}
use Rattle.nu_text.specs.Strings.{string_text}
use Rattle.nu_value.specs.declared.header.ParamKind.{ParamKind}
use Rattle.nu_value.specs.declared.header.Header as header
use Rattle.c_meaning.specs.declared.program.Line.{Line}
use Rattle.c_meaning.specs.declared.program.Function as function
use Rattle.c_meaning.specs.Text.{params_text, kind_text, line_text, declaration_text, header_pieces, function_text}
use Rattle.code_forms.specs.Fits.{IsLine}
use Rattle.c_meaning.specs.Written.{IsNumber, IsBodyLine, Once, label_of, IsParam, in_order, IsHeader, IsFunction}
use Rattle.c_reader.specs.Statements.{IsNotFront}

-- an opening piece, the decimal of a number, and a closing piece
pub record OpeningStands (opening : List ℕ) (number : ℕ) (closing text rest : List ℕ) : Type 0 where
  pub spelled : text ≡ before (opening ∷ decimal number ∷ closing ∷ []) rest

-- the first line of a function, as far as its kind
pub record FrontStands (number : ℕ) (text scope : List ℕ) (params : List (ParamKind × List ℕ)) (rest : List ℕ) : Type 0 where
  pub scope_is : IsUtf8 scope
  pub each : AllByRecursion IsParam params
  pub order : in_order 0 params ≡ true
  pub spelled : text ≡ before (codes "NU_CODE(" ∷ decimal number ∷ codes ", " ∷ string_text scope ∷ codes ", " ∷ string_text (params_text params) ∷ codes ", " ∷ []) rest

-- its kind
pub record KindStands (text : List ℕ) (generator : Bool) (rest : List ℕ) : Type 0 where
  pub spelled : text ≡ before (kind_text generator ∷ codes ", " ∷ []) rest

-- its kind, slots and line
pub record BackStands (text : List ℕ) (generator : Bool) (slots at : ℕ) (rest : List ℕ) : Type 0 where
  pub slots_are : IsNumber slots
  pub from_one : 0 < at
  pub line : IsLine at
  pub spelled : text ≡ before (kind_text generator ∷ codes ", " ∷ decimal slots ∷ codes ", " ∷ decimal at ∷ codes ")\n" ∷ []) rest

-- the declaration of so many registers, behind which no other declaration follows
pub record DeclarationStands (text : List ℕ) (registers : ℕ) (rest : List ℕ) : Type 0 where
  pub fits : IsNumber registers
  pub spelled : text ≡ declaration_text registers ++ rest
  pub all : IsNotFront (codes "  nu r0") rest

-- all that stands in front of the body
pub record HeaderStands (number : ℕ) (text : List ℕ) (h : header.Header) (slots registers : ℕ) (rest : List ℕ) : Type 0 where
  pub is : IsHeader h
  pub slots_are : IsNumber slots
  pub registers_are : IsNumber registers
  pub spelled : text ≡ before (header_pieces number h slots) (declaration_text registers ++ rest)
  pub all : IsNotFront (codes "  nu r0") rest

-- a body and its closing brace
pub record BodyStands (registers : ℕ) (text : List ℕ) (lines : List Line) (rest : List ℕ) : Type 0 where
  pub each : AllByRecursion (IsBodyLine registers) lines
  pub once : Once (flat_map label_of lines)
  pub spelled : text ≡ flat_map line_text lines ++ (codes "}\n" ++ rest)

pub record FunctionStands (number : ℕ) (text : List ℕ) (f : function.Function) (rest : List ℕ) : Type 0 where
  pub is : IsFunction f
  pub spelled : text ≡ function_text number f ++ rest
