use Rattle.std.proofs.Common.{◌≡◌, ◌+◌, ◌++◌, drop}
use Rattle.std.specs.List.{AllByRecursion}
use Rattle.flow_code.specs.Contents.{yields}
use Rattle.generator_cut.specs.Cut.{lines}
use Rattle.generator_cut.specs.Fits.{LineFits}
use Rattle.generator_cut.proofs.statements.put_lines.Given as goal

abbrev pub invariant-loop-one : goal.invariant-loop-one
invariant-loop-one l = record {
  lines : l.out.items ++ lines l.base (λ x left. l.saved) l.pauses (drop l.one-index l.body) ≡ l.initial.out.items ++ lines l.base (λ x left. l.saved) 0 l.body;
  fit : AllByRecursion LineFits (drop l.one-index l.body) → AllByRecursion LineFits l.body;
  many : l.pauses + yields (drop l.one-index l.body) ≡ yields l.body;
}
