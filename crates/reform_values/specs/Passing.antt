-- The arguments of calls, as the laws read them, and their statements one by one.
use Rattle.std.specs.Prelude.{ℕ, ◌+◌, List, [], ◌∷◌, Bool, true}
use Rattle.op_forms.specs.declared.op.Op.TheVariants as op
use Rattle.node_tree.specs.Blocks as tree
use Rattle.carries_values.specs.Displays.{added_block}
use Rattle.carries_values.specs.Calls.{keywords_block, key_block}
use Rattle.carries_values.specs.Calls as calls
use Rattle.reform_blocks.specs.Parts.{carrier}
use Rattle.reform_values.specs.declared.calls.Passed.{Passed}
use Rattle.reform_values.specs.declared.calls.Passed.TheVariants as passed

abbrev pub passed_of : Passed → calls.Passed
passed_of (passed.Plain p) = calls.Plain (carrier p)
passed_of (passed.Star p) = calls.Star (carrier p)
passed_of (passed.Key name p) = calls.Key name (carrier p)
passed_of (passed.Merge p) = calls.Merge (carrier p)

-- one argument; `begun` tells whether the dict of keywords is there
abbrev pub pass_one : ℕ → ℕ → Bool → calls.Passed → tree.Block
pass_one line t begun (calls.Plain p) = added_block line t (t + 2) op.Push p tree.Stop
pass_one line t begun (calls.Star p) = added_block line t (t + 2) op.Extend p tree.Stop
pass_one line t begun (calls.Key name p) = keywords_block line (t + 1) begun (key_block line (t + 1) (t + 2) name p tree.Stop)
pass_one line t begun (calls.Merge p) = keywords_block line (t + 1) begun (added_block line (t + 1) (t + 2) op.KeyMerge p tree.Stop)

-- whether it is there then
abbrev pub begun_by : Bool → calls.Passed → Bool
begun_by begun (calls.Plain p) = begun
begun_by begun (calls.Star p) = begun
begun_by begun (calls.Key name p) = true
begun_by begun (calls.Merge p) = true

abbrev pub pass_all : ℕ → ℕ → Bool → List calls.Passed → tree.Block
pass_all line t begun [] = tree.Stop
pass_all line t begun (x ∷ xs) = tree.append (pass_one line t begun x) (pass_all line t (begun_by begun x) xs)

abbrev pub begun_by_all : Bool → List calls.Passed → Bool
begun_by_all begun [] = begun
begun_by_all begun (x ∷ xs) = begun_by_all (begun_by begun x) xs
