use Rattle.std.proofs.Common.{arith, sym, ◌∙◌}
use Rattle.nu_text.proofs.Octal.{octal}
use Rattle.c_emit.proofs.pieces.push_byte.Goals as goal

pub returns : goal.returns
returns c = rw (octal c.args.byte (omega (arith, c.ranges.byte.fits)) (sym c.is_plain.ensures ∙ c.if-is_plain.false)) c.write.ensures.bytes
