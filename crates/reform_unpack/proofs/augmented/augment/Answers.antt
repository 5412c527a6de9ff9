use Rattle.std.proofs.Common.{◌∙◌, sym, ap, ◌+◌}
use Rattle.reform_unpack.proofs.Augments.{augments, augment_totals}
use Rattle.reform_unpack.proofs.augmented.augment.Goals as goal

pub returns-clause-carries : goal.returns-clause-carries
returns-clause-carries c = λ h low mid caught x apart carried.
    rw (c.in_ok-block.ensures, c.in_ok-asked.ensures, c.in_ok-operands.ensures, c.in_ok-append.ensures, c.in_ok-args.ensures, c.in_ok-last.ensures)
    (augments h low mid c.args.temps.now _ _ _ _ c.args.line caught c.args.op c.args.place x c.in_ok-read.read.block c.args.right.block c.in_ok-stored.stored _ _
    c.in_ok-to.ensures.number (c.in_ok-to.ensures.ok ∙ ap (λ i. i + 1) (sym c.in_ok-to.ensures.number)) apart carried (c.in_ok-read.ensures.carries h) (c.in_ok-stored.ensures.carries h))

pub returns-clause-contents : goal.returns-clause-contents
returns-clause-contents c = λ count.
    rw (c.in_ok-block.ensures, c.in_ok-asked.ensures, c.in_ok-operands.ensures, c.in_ok-append.ensures, c.in_ok-args.ensures, c.in_ok-last.ensures)
    (augment_totals count c.args.temps.now _ _ _ c.args.line c.args.op c.args.place c.in_ok-read.read.block c.args.right.block c.in_ok-stored.stored _ _
    c.in_ok-read.ensures.drawn c.in_ok-to.ensures.number (c.in_ok-to.ensures.ok ∙ ap (λ i. i + 1) (sym c.in_ok-to.ensures.number)) c.in_ok-read.ensures.value (c.in_ok-read.ensures.contents count) (c.in_ok-stored.ensures.contents count))
