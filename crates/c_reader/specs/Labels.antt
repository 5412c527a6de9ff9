-- Labels that were read.
use Rattle.std.specs.Prelude.{ℕ, Bool, false}
use Rattle.std.specs.BTreeSet.{contains}
use Rattle.std.specs.Ordering.{nat_cmp}
use Rattle.c_meaning.specs.declared.program.Line.{Line}
use Rattle.c_meaning.specs.declared.program.Line.TheVariants as line
use Rattle.c_reader.specs.declared.labels.Labels as labels

abbrev pub holds : labels.Labels → ℕ → Bool
holds read label = contains nat_cmp read.set label

-- whether the line is a label that was read
abbrev pub any_holds : labels.Labels → Line → Bool
any_holds read (line.Do s) = false
any_holds read (line.Label label) = holds read label
