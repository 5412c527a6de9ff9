-- Clauses as the laws read them, and from the last to the first.
use Rattle.std.specs.Prelude.{ℕ, List, [], ◌∷◌, Option, Some, None}
use Rattle.node_tree.specs.Tree.{block}
use Rattle.carried_codes.specs.Parts.{Several, several}
use Rattle.carried_codes.specs.Clauses as clauses
use Rattle.reform_base.specs.declared.Part.{Part}
use Rattle.reform_blocks.specs.Parts.{carrier}
use Rattle.reform_names.specs.declared.home.Home.{Home}
use Rattle.reform_names.specs.Homes.{seat_of}
use Rattle.reform_try.specs.declared.clauses.Clause.{Clause}
use Rattle.reform_try.specs.declared.clauses.Guard.{Guard}
use Rattle.reform_try.specs.declared.clauses.Guard.TheVariants as guard

abbrev pub bound_of : Option Home → ℕ → Option clauses.Bound
bound_of None line = None
bound_of (Some home) line = Some (record { line = line; seat = seat_of home })

abbrev pub clause_by : Option (Part × ℕ) → Clause → clauses.Clause
clause_by None c = clauses.Bare c.caught (block c.body)
clause_by (Some p) c = clauses.Class p.1 (carrier p.0) c.caught (bound_of c.name c.line) (block c.body)

abbrev pub clause_of : Clause → clauses.Clause
clause_of c = clause_by c.test c

abbrev pub guard_of : Guard → clauses.Guard
guard_of (guard.Any caught body) = clauses.Any caught (block body)
guard_of (guard.Only line part fits caught body) = clauses.Only line (carrier part) fits caught (block body)

-- in front of guards that are there already
abbrev pub guards_onto : ℕ → List clauses.Guard → List clauses.Clause → Several clauses.Guard
guards_onto t gs [] = several gs t
guards_onto t gs (c ∷ cs) = let r = guards_onto t gs cs in let g = clauses.guard r.next c in several (g.guard ∷ r.parts) g.next
