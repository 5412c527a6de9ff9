use Rattle.std.proofs.Common.{◌≡◌, ℕ, ◌<◌, ◌^◌, ◌*◌, arith}
use Rattle.std.proofs.Math.Pow.{pow-lt}
use Rattle.std.proofs.Math.Nat.{mod-eq_of_lt}
use Rattle.std.proofs.lemmas.Int.{to_z_pos}
use Rattle.std.specs.Int.{w128}
use Rattle.op_rules.proofs.arithmetic.two_to.Goals as goal

one-times : (k : ℕ) → 1 * k ≡ k
one-times k = omega arith

pub returns : goal.returns
returns c =
    let b : 2 ^ c.args.n < 2 ^ 127 = pow-lt c.requires in
    let w : 2 ^ c.args.n < 2 ^ 128 = omega arith in
    rw (one-times (2 ^ c.args.n), mod-eq_of_lt w) (to_z_pos w128 (2 ^ c.args.n) b)
