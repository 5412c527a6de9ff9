use Rattle.std.proofs.Common.{◌≡◌, ◌≤◌, ◌+◌, ◌^◌, drop}
use Rattle.rt_text.specs.Sizes.{rest_size}
use Rattle.rt_text.proofs.joins.rest_fits.Given as goal

abbrev pub invariant-loop-text : goal.invariant-loop-text
invariant-loop-text l = record {
  small : l.count ≤ 2 ^ 66;
  counted : l.count + rest_size l.between (drop l.text-index l.rest) ≡ l.first + rest_size l.between l.rest;
}
