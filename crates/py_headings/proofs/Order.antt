-- Parameters in the order of the grammar have their kinds in order.
use Rattle.std.proofs.Common.{◌≡◌, ℕ, Bool, true, false, ◌&&◌, nat_le, List, [], ◌∷◌, Some, None, refl, cond, fold}
use Rattle.std.specs.List.{list_any}
use Rattle.nu_value.specs.declared.header.ParamKind.{ParamKind}
use Rattle.nu_value.specs.declared.header.ParamKind.TheVariants as kind
use Rattle.py_ast.specs.declared.expr.Expr.{Expr}
use Rattle.py_ast.specs.declared.expr.Param.{Param}
use Rattle.py_ast.specs.declared.expr.Param.TheVariants as param
use Rattle.py_grammar.specs.declared.role.Stage.{Stage}
use Rattle.py_grammar.specs.declared.role.Stage.TheVariants as s
use Rattle.py_grammar.specs.Lists.{behind_param, is_complete, params_in_order}
use Rattle.py_meaning.specs.Resolved.{is_slash, kinds}
use Rattle.c_meaning.specs.Written.{in_order}

abbrev Params : Type 0
Params = List (Param Expr)

abbrev Completes : Stage → Params → Type 0
Completes st ps = is_complete (fold behind_param st ps) ≡ true

both : (a b : Bool) → a ≡ true → b ≡ true → (a && b) ≡ true
both true b p q = q
both false b p q = cc

no : false ≡ true → ⊥
no e = cc

wrong : (ps : Params) → Completes s.Wrong ps → ⊥
wrong [] c = no c
wrong (param.Named line name None ∷ ps) c = wrong ps c
wrong (param.Named line name (Some x) ∷ ps) c = wrong ps c
wrong (param.Slash line ∷ ps) c = wrong ps c
wrong (param.Star line None ∷ ps) c = wrong ps c
wrong (param.Star line (Some name) ∷ ps) c = wrong ps c
wrong (param.DoubleStar line name ∷ ps) c = wrong ps c

-- nothing follows two stars
last : (least : ℕ) (k : ParamKind) (ps : Params) → Completes s.Double ps → in_order least (kinds k ps) ≡ true
last least k [] c = refl
last least k (param.Named line name None ∷ ps) c = absurd (wrong ps c)
last least k (param.Named line name (Some x) ∷ ps) c = absurd (wrong ps c)
last least k (param.Slash line ∷ ps) c = absurd (wrong ps c)
last least k (param.Star line None ∷ ps) c = absurd (wrong ps c)
last least k (param.Star line (Some name) ∷ ps) c = absurd (wrong ps c)
last least k (param.DoubleStar line name ∷ ps) c = absurd (wrong ps c)

-- what may stand next, up to a rank
record Low (least : ℕ) : Type 0 where
  plain : nat_le least 1 ≡ true
  star : nat_le least 2 ≡ true
  key : nat_le least 3 ≡ true
  double : nat_le least 4 ≡ true

record Behind (least : ℕ) : Type 0 where
  key : nat_le least 3 ≡ true
  double : nat_le least 4 ≡ true

behind : (least : ℕ) → Low least → Behind least
behind least l = record { key = l.key; double = l.double }

-- behind a star
mutual
  bare : (least : ℕ) (ps : Params) → Behind least → Completes s.Bare ps → in_order least (kinds kind.Key ps) ≡ true
  bare least [] l c = refl
  bare least (param.Named line name None ∷ ps) l c = both _ _ l.key (starred 3 ps (record { key = refl; double = refl }) c)
  bare least (param.Named line name (Some x) ∷ ps) l c = both _ _ l.key (starred 3 ps (record { key = refl; double = refl }) c)
  bare least (param.Slash line ∷ ps) l c = absurd (wrong ps c)
  bare least (param.Star line None ∷ ps) l c = absurd (wrong ps c)
  bare least (param.Star line (Some name) ∷ ps) l c = absurd (wrong ps c)
  bare least (param.DoubleStar line name ∷ ps) l c = absurd (wrong ps c)

  starred : (least : ℕ) (ps : Params) → Behind least → Completes s.Starred ps → in_order least (kinds kind.Key ps) ≡ true
  starred least [] l c = refl
  starred least (param.Named line name None ∷ ps) l c = both _ _ l.key (starred 3 ps (record { key = refl; double = refl }) c)
  starred least (param.Named line name (Some x) ∷ ps) l c = both _ _ l.key (starred 3 ps (record { key = refl; double = refl }) c)
  starred least (param.Slash line ∷ ps) l c = absurd (wrong ps c)
  starred least (param.Star line None ∷ ps) l c = absurd (wrong ps c)
  starred least (param.Star line (Some name) ∷ ps) l c = absurd (wrong ps c)
  starred least (param.DoubleStar line name ∷ ps) l c = both _ _ l.double (last 5 kind.Key ps c)

-- in front of a star, where no slash follows

abbrev NoSlash : Params → Type 0
NoSlash ps = list_any is_slash ps ≡ false

one : Low 1
one = record { plain = refl; star = refl; key = refl; double = refl }

none_yet : Low 0
none_yet = record { plain = refl; star = refl; key = refl; double = refl }

starts : Behind 3
starts = record { key = refl; double = refl }

yes : true ≡ false → ⊥
yes e = cc

mutual
  start : (least : ℕ) (ps : Params) → Low least → NoSlash ps → Completes s.Start ps → in_order least (kinds kind.Plain ps) ≡ true
  start least [] l n c = refl
  start least (param.Named line name None ∷ ps) l n c = both _ _ l.plain (plain 1 ps one n c)
  start least (param.Named line name (Some x) ∷ ps) l n c = both _ _ l.plain (optional 1 ps one n c)
  start least (param.Slash line ∷ ps) l n c = absurd (wrong ps c)
  start least (param.Star line None ∷ ps) l n c = bare least ps (behind least l) c
  start least (param.Star line (Some name) ∷ ps) l n c = both _ _ l.star (starred 3 ps starts c)
  start least (param.DoubleStar line name ∷ ps) l n c = both _ _ l.double (last 5 kind.Plain ps c)

  plain : (least : ℕ) (ps : Params) → Low least → NoSlash ps → Completes s.Plain ps → in_order least (kinds kind.Plain ps) ≡ true
  plain least [] l n c = refl
  plain least (param.Named line name None ∷ ps) l n c = both _ _ l.plain (plain 1 ps one n c)
  plain least (param.Named line name (Some x) ∷ ps) l n c = both _ _ l.plain (optional 1 ps one n c)
  plain least (param.Slash line ∷ ps) l n c = absurd (yes n)
  plain least (param.Star line None ∷ ps) l n c = bare least ps (behind least l) c
  plain least (param.Star line (Some name) ∷ ps) l n c = both _ _ l.star (starred 3 ps starts c)
  plain least (param.DoubleStar line name ∷ ps) l n c = both _ _ l.double (last 5 kind.Plain ps c)

  optional : (least : ℕ) (ps : Params) → Low least → NoSlash ps → Completes s.Optional ps → in_order least (kinds kind.Plain ps) ≡ true
  optional least [] l n c = refl
  optional least (param.Named line name None ∷ ps) l n c = absurd (wrong ps c)
  optional least (param.Named line name (Some x) ∷ ps) l n c = both _ _ l.plain (optional 1 ps one n c)
  optional least (param.Slash line ∷ ps) l n c = absurd (yes n)
  optional least (param.Star line None ∷ ps) l n c = bare least ps (behind least l) c
  optional least (param.Star line (Some name) ∷ ps) l n c = both _ _ l.star (starred 3 ps starts c)
  optional least (param.DoubleStar line name ∷ ps) l n c = both _ _ l.double (last 5 kind.Plain ps c)

-- behind a slash
mutual
  slash_plain : (least : ℕ) (ps : Params) → Low least → Completes s.SlashPlain ps → in_order least (kinds kind.Plain ps) ≡ true
  slash_plain least [] l c = refl
  slash_plain least (param.Named line name None ∷ ps) l c = both _ _ l.plain (slash_plain 1 ps one c)
  slash_plain least (param.Named line name (Some x) ∷ ps) l c = both _ _ l.plain (slash_optional 1 ps one c)
  slash_plain least (param.Slash line ∷ ps) l c = absurd (wrong ps c)
  slash_plain least (param.Star line None ∷ ps) l c = bare least ps (behind least l) c
  slash_plain least (param.Star line (Some name) ∷ ps) l c = both _ _ l.star (starred 3 ps starts c)
  slash_plain least (param.DoubleStar line name ∷ ps) l c = both _ _ l.double (last 5 kind.Plain ps c)

  slash_optional : (least : ℕ) (ps : Params) → Low least → Completes s.SlashOptional ps → in_order least (kinds kind.Plain ps) ≡ true
  slash_optional least [] l c = refl
  slash_optional least (param.Named line name None ∷ ps) l c = absurd (wrong ps c)
  slash_optional least (param.Named line name (Some x) ∷ ps) l c = both _ _ l.plain (slash_optional 1 ps one c)
  slash_optional least (param.Slash line ∷ ps) l c = absurd (wrong ps c)
  slash_optional least (param.Star line None ∷ ps) l c = bare least ps (behind least l) c
  slash_optional least (param.Star line (Some name) ∷ ps) l c = both _ _ l.star (starred 3 ps starts c)
  slash_optional least (param.DoubleStar line name ∷ ps) l c = both _ _ l.double (last 5 kind.Plain ps c)

-- in front of a slash: behind a star there is none

abbrev ASlash : Params → Type 0
ASlash ps = list_any is_slash ps ≡ true

mutual
  none_bare : (ps : Params) → ASlash ps → Completes s.Bare ps → ⊥
  none_bare [] n c = no n
  none_bare (param.Named line name None ∷ ps) n c = none_starred ps n c
  none_bare (param.Named line name (Some x) ∷ ps) n c = none_starred ps n c
  none_bare (param.Slash line ∷ ps) n c = wrong ps c
  none_bare (param.Star line None ∷ ps) n c = wrong ps c
  none_bare (param.Star line (Some name) ∷ ps) n c = wrong ps c
  none_bare (param.DoubleStar line name ∷ ps) n c = wrong ps c

  none_starred : (ps : Params) → ASlash ps → Completes s.Starred ps → ⊥
  none_starred [] n c = no n
  none_starred (param.Named line name None ∷ ps) n c = none_starred ps n c
  none_starred (param.Named line name (Some x) ∷ ps) n c = none_starred ps n c
  none_starred (param.Slash line ∷ ps) n c = wrong ps c
  none_starred (param.Star line None ∷ ps) n c = wrong ps c
  none_starred (param.Star line (Some name) ∷ ps) n c = wrong ps c
  none_starred (param.DoubleStar line name ∷ ps) n c = none_double ps n c

  none_double : (ps : Params) → ASlash ps → Completes s.Double ps → ⊥
  none_double [] n c = no n
  none_double (param.Named line name None ∷ ps) n c = wrong ps c
  none_double (param.Named line name (Some x) ∷ ps) n c = wrong ps c
  none_double (param.Slash line ∷ ps) n c = wrong ps c
  none_double (param.Star line None ∷ ps) n c = wrong ps c
  none_double (param.Star line (Some name) ∷ ps) n c = wrong ps c
  none_double (param.DoubleStar line name ∷ ps) n c = wrong ps c

mutual
  only_start : (ps : Params) → ASlash ps → Completes s.Start ps → in_order 0 (kinds kind.Only ps) ≡ true
  only_start [] n c = refl
  only_start (param.Named line name None ∷ ps) n c = only_plain ps n c
  only_start (param.Named line name (Some x) ∷ ps) n c = only_optional ps n c
  only_start (param.Slash line ∷ ps) n c = absurd (wrong ps c)
  only_start (param.Star line None ∷ ps) n c = absurd (none_bare ps n c)
  only_start (param.Star line (Some name) ∷ ps) n c = absurd (none_starred ps n c)
  only_start (param.DoubleStar line name ∷ ps) n c = absurd (none_double ps n c)

  only_plain : (ps : Params) → ASlash ps → Completes s.Plain ps → in_order 0 (kinds kind.Only ps) ≡ true
  only_plain [] n c = refl
  only_plain (param.Named line name None ∷ ps) n c = only_plain ps n c
  only_plain (param.Named line name (Some x) ∷ ps) n c = only_optional ps n c
  only_plain (param.Slash line ∷ ps) n c = slash_plain 0 ps none_yet c
  only_plain (param.Star line None ∷ ps) n c = absurd (none_bare ps n c)
  only_plain (param.Star line (Some name) ∷ ps) n c = absurd (none_starred ps n c)
  only_plain (param.DoubleStar line name ∷ ps) n c = absurd (none_double ps n c)

  only_optional : (ps : Params) → ASlash ps → Completes s.Optional ps → in_order 0 (kinds kind.Only ps) ≡ true
  only_optional [] n c = refl
  only_optional (param.Named line name None ∷ ps) n c = absurd (wrong ps c)
  only_optional (param.Named line name (Some x) ∷ ps) n c = only_optional ps n c
  only_optional (param.Slash line ∷ ps) n c = slash_optional 0 ps none_yet c
  only_optional (param.Star line None ∷ ps) n c = absurd (none_bare ps n c)
  only_optional (param.Star line (Some name) ∷ ps) n c = absurd (none_starred ps n c)
  only_optional (param.DoubleStar line name ∷ ps) n c = absurd (none_double ps n c)

by : (b : Bool) (ps : Params) → list_any is_slash ps ≡ b → params_in_order ps ≡ true → in_order 0 (kinds (cond b kind.Only kind.Plain) ps) ≡ true
by true ps e c = only_start ps e c
by false ps e c = start 0 ps none_yet e c

pub ordered : (ps : Params) → params_in_order ps ≡ true → in_order 0 (kinds (cond (list_any is_slash ps) kind.Only kind.Plain) ps) ≡ true
ordered ps c = by (list_any is_slash ps) ps refl c
