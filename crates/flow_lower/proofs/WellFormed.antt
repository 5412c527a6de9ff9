-- Lowered functions are well formed, and their labels stand.
use Rattle.std.proofs.Common.{ℕ, ◌+◌, ◌^◌, ◌<◌, ◌≤◌, List, [], ◌∷◌, ◌++◌, length, sym, subst, arith}
use Rattle.std.specs.List.{AllByRecursion}
use Rattle.node_tree.specs.declared.script.NodeCode.{NodeCode}
use Rattle.flow_code.specs.declared.function.FlatFunction.{FlatFunction}
use Rattle.flow_code.specs.declared.statement.Line.{Line}
use Rattle.flow_code.specs.declared.statement.Line.TheVariants.{Label, Do}
use Rattle.flow_code.specs.declared.statement.Statement.{Statement}
use Rattle.flow_code.specs.declared.statement.Statement.TheVariants as flat
use Rattle.flow_code.specs.Contents.{statement_yields, yields}
use Rattle.flow_code.specs.Labels.{stands, Lead, LabelsThere}
use Rattle.flow_code.specs.Registers.{registers}
use Rattle.flow_code.specs.WellFormed.{WellFormed}
use Rattle.flow_lower.specs.Correct.{LowersCode, LowersEach}
use Rattle.flow_lower.proofs.Counted.{stands_once, stands_below, there_code}
use Rattle.flow_lower.proofs.Greatest.{below}

well_formed : (c : NodeCode) (f : FlatFunction) → LowersCode c f → WellFormed f
well_formed c f h = record {
  once = λ l. subst (λ ls. stands l ls ≤ 1) (sym h.body) (stands_once c l);
  numbered = λ l p. subst (λ n. l < n) (sym h.labels) (stands_below c l (subst (λ ls. 0 < stands l ls) h.body p));
  declared = below (registers f.body) f.registers (omega (arith, h.registers));
}

there : (c : NodeCode) (f : FlatFunction) → LowersCode c f → LabelsThere f.body
there c f h = subst (λ ls. Lead (λ l. 0 < stands l ls) ls) (sym h.body) (there_code c)

pub all_well_formed : (cs : List NodeCode) (fs : List FlatFunction) → LowersEach cs fs → AllByRecursion WellFormed fs
all_well_formed [] [] h = tt
all_well_formed [] (f ∷ fs) h = absurd h
all_well_formed (c ∷ cs) [] h = absurd h
all_well_formed (c ∷ cs) (f ∷ fs) h = (well_formed c f h.0, all_well_formed cs fs h.1)

pub all_there : (cs : List NodeCode) (fs : List FlatFunction) → LowersEach cs fs → AllByRecursion (λ f. LabelsThere f.body) fs
all_there [] [] h = tt
all_there [] (f ∷ fs) h = absurd h
all_there (c ∷ cs) [] h = absurd h
all_there (c ∷ cs) (f ∷ fs) h = (there c f h.0, all_there cs fs h.1)

yields_few : (lines : List Line) → yields lines ≤ length lines
yields_few [] = omega arith
yields_few (Label k ∷ lines) = let h = yields_few lines in omega (arith, h)
yields_few (Do x ∷ lines) = let h = yields_few lines in let one = at_most_one x in omega (arith, h, one)
  where
    at_most_one : (x : Statement) → statement_yields x ≤ 1
    at_most_one (flat.Yield to at a fail) = omega arith
    at_most_one other = omega arith

pub all_more : {A : Type 0} (P : A → Type 0) (items : List A) (item : A) → AllByRecursion P items → P item → AllByRecursion P (items ++ item ∷ [])
all_more P [] item p q = (q, tt)
all_more P (a ∷ items) item p q = (p.0, all_more P items item p.1 q)

-- labels and lines that both fit in memory leave room for pauses
pub has_room : (labels : ℕ) (lines : List Line) → labels < 2 ^ 63 → length lines < 2 ^ 63 → labels + yields lines + 1 < 2 ^ 64
has_room labels lines a b = let h = yields_few lines in omega (arith, a, b, h)
