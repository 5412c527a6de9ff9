-- What the passes over a survey find: the code goes over it once for each kind. No public contract rests on these.
use Rattle.std.specs.Prelude.{ℕ, ◌≡◌, ◌||◌, Bool, false, if◌then◌else◌, List, [], ◌∷◌, ◌++◌, Option, Some, None}
use Rattle.py_scopes.specs.declared.rules.Alone.{Alone}
use Rattle.py_scopes.specs.declared.rules.Alone.TheVariants as alone
use Rattle.py_scopes.specs.declared.survey.Site.{Site}
use Rattle.py_scopes.specs.declared.survey.Survey.{Survey}
use Rattle.std.specs.List.{list_any}
use Rattle.py_scopes.specs.declared.rules.Listed.{Listed}
use Rattle.py_scopes.specs.declared.survey.What.{What}
use Rattle.py_scopes.specs.declared.survey.What.TheVariants as what
use Rattle.py_scopes.specs.Homes.{occurs}
use Rattle.py_scopes.specs.declared.end.ScopeEnd.{ScopeEnd}
use Rattle.py_scopes.specs.declared.end.ScopeEnd.TheVariants as ends
use Rattle.py_scopes.specs.Rules as rules
use Rattle.py_scopes.specs.Rules.{Kind, fault, is_misplaced, is_loose, is_outside, is_bare, parameter, is_keyword}
use Rattle.py_scopes.specs.Seen.{has, Gains}

-- the line of the first place at fault, by the places before it
abbrev pub first_at_fault : (List Site → Site → Bool) → List Site → List Site → Option ℕ
first_at_fault test before [] = None
first_at_fault test before (site ∷ sites) = if test before site then Some site.line else first_at_fault test (before ++ site ∷ []) sites

abbrev pub first_fault : Kind → Survey → Option ℕ
first_fault kind survey = first_at_fault (fault kind survey) [] survey.sites

abbrev pub breaks : Alone → Survey → Site → Bool
breaks alone.Target survey site = is_misplaced site.what
breaks alone.Loop survey site = is_loose site
breaks alone.Function survey site = is_outside survey site
breaks alone.Raise survey site = is_bare site

-- Repeats

-- the sets have the parameters and the keyword arguments of these sites
pub record Holds (listed : Listed) (sites : List Site) : Type 0 where
  pub parameters : (scope : ℕ) (x : List ℕ) → has listed.parameters.keys scope x ≡ occurs parameter x scope sites
  pub keywords : (start : ℕ) (x : List ℕ) → has listed.keywords.keys start x ≡ list_any (λ site. is_keyword start x site.what) sites

abbrev pub is_listed : Listed → ℕ → What → Bool
is_listed listed scope (what.Parameter x) = has listed.parameters.keys scope x
is_listed listed scope (what.Keyword start x) = has listed.keywords.keys start x
is_listed listed scope _ = false

-- the sets gained what stands at the site
pub record Lists (old new : Listed) (site : Site) : Type 0 where
  pub parameters : Gains old.parameters.keys new.parameters.keys parameter site
  pub keywords : (start : ℕ) (x : List ℕ) → has new.keywords.keys start x ≡ (has old.keywords.keys start x || is_keyword start x site.what)

-- The table

-- a refusal and its line
abbrev pub end_of : Kind → ℕ → ScopeEnd
end_of rules.Target line = ends.Target line
end_of rules.Loop line = ends.Loop line
end_of rules.Function line = ends.Function line
end_of rules.Declare line = ends.Declare line
end_of rules.Name line = ends.Name line
end_of rules.Raise line = ends.Raise line
end_of rules.Repeat line = ends.Repeat line

-- the first of these kinds whose rule the script breaks
abbrev pub first_end : Kind → Option ℕ → Option ScopeEnd → Option ScopeEnd
first_end kind (Some line) later = Some (end_of kind line)
first_end kind None later = later

abbrev pub first_of : Survey → List Kind → Option ScopeEnd
first_of survey [] = None
first_of survey (kind ∷ kinds) = first_end kind (first_fault kind survey) (first_of survey kinds)

unfoldable pub refusal : Survey → Option ScopeEnd
refusal survey = first_of survey (rules.Target ∷ rules.Loop ∷ rules.Function ∷ rules.Declare ∷ rules.Name ∷ rules.Raise ∷ rules.Repeat ∷ [])
